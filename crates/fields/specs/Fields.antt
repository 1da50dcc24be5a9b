-- Words of `src/fields.rt`. Assumes nothing.
--   is_tab     byte 9
--   on_first   a byte put before the first part
--   PartOf     a slice that lies within another, from a start on: no copy of it
--   parts      a line, cut at each tab: one part more than there are tabs
use Rattle.std.specs.Prelude.{◌≡◌, ℕ, ◌+◌, ◌≤◌, Bool, cond, List, [], ◌∷◌, length, take, drop, ◌==◌}
use Rattle.std.specs.Borrow.{Bor}

abbrev pub is_tab : ℕ → Bool
is_tab b = b == 9

abbrev pub on_first : ℕ → List (List ℕ) → List (List ℕ)
on_first b [] = (b ∷ []) ∷ []
on_first b (p ∷ ps) = (b ∷ p) ∷ ps

abbrev pub parts : List ℕ → List (List ℕ)
parts [] = [] ∷ []
parts (b ∷ bs) = cond (is_tab b) ([] ∷ parts bs) (on_first b (parts bs))

pub record PartOf (line part : Bor (List ℕ)) : Type 0 where
  pub start : ℕ
  pub within : start + length part.now ≤ length line.now
  pub place : part.ref_ptr ≡ (line.ref_ptr.0, line.ref_ptr.1 + start)
  pub bytes : part.now ≡ take (length part.now) (drop start line.now)
