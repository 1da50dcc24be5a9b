-- The ranges of the numbers that a shot and a price rule take, both ends included.
-- Assumes nothing.
use Rattle.std.specs.Prelude.{Bool, ◌&&◌, ℤ, pos, negsuc, int_le}

abbrev pub within : ℤ → ℤ → ℤ → Bool
within low high z = int_le low z && int_le z high

-- mm per second
abbrev pub is_speed : ℤ → Bool
is_speed = within (pos 1) (pos 4000)

-- tenths of a mm
abbrev pub is_lead : ℤ → Bool
is_lead = within (negsuc 7999) (pos 8000)

abbrev pub is_weight : ℤ → Bool
is_weight = within (pos 1) (pos 100)

-- the material code
abbrev pub is_stuff : ℤ → Bool
is_stuff = within (pos 0) (pos 15)

abbrev pub is_price : ℤ → Bool
is_price = within (pos 1) (pos 20)
