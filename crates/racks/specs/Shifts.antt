-- A part of a list, moved down over what stands before it.
--   moved_down a b e   what stands from place b up to place e is copied to place a and on; all else stays
-- Assumes nothing.
use Rattle.std.specs.Prelude.{ℕ, ◌+◌, ◌-◌, List, ◌++◌, take, drop}

abbrev pub moved_down : {X : Type 0} → ℕ → ℕ → ℕ → List X → List X
moved_down a b e xs = take a xs ++ take (e - b) (drop b xs) ++ drop (a + (e - b)) xs
