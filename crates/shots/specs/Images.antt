-- The six bytes that stand for a shot.
--   twos       a lead at 16 bits, in two's complement
--   image_of   speed, lead, weight and stuff in 2, 2, 1 and 1 bytes, high byte first
--   Unpacked   the answer to a try to read six bytes: their shot, or none where no shot has them
-- Assumes nothing.
use Rattle.std.specs.Prelude.{◌≡◌, ℕ, ◌-◌, ◌/◌, ◌%◌, List, [], ◌∷◌, ℤ, pos, negsuc, Some, None, Option, ◌≢◌}
use Rattle.shots.specs.declared.shot.Shot.{Shot}

-- a number below 0 has 65536 added to it
abbrev pub twos : ℤ → ℕ
twos (pos n) = n
twos (negsuc n) = 65535 - n

abbrev pub image_of : Shot → List ℕ
image_of z =
    (z.speed / 256) ∷ (z.speed % 256) ∷ (twos z.lead / 256) ∷ (twos z.lead % 256) ∷ z.weight ∷ z.stuff ∷ []

abbrev pub Unpacked : List ℕ → Option Shot → Type 0
Unpacked bytes (Some z) = image_of z ≡ bytes
Unpacked bytes None = (z : Shot) → image_of z ≢ bytes
