-- What the calls of a rack answer, and the shots that it holds after them.
--   Holds       a shot is held at that place, counted from 0
--   Index       the answer to a try to take a place for an index below a count: the index, or the refusal
--               Place where it is none
--   Read        the answer to a read: the shot at that place, or the refusal Place where there is none
--   add_fault   the first refusal that an add earns, if it earns any
--   Added       the answer to an add, and the shots after it: one more at the end, or the same
--   Struck      the answer to a strike, and the shots after it: one fewer, or the same
-- In each, xs are the shots before the call and ys those after it. Assumes nothing.
use Rattle.std.specs.Prelude.{◌≡◌, ℕ, ◌<◌, cond, List, [], ◌∷◌, ◌++◌, length, ℤ, pos, ◌≤ℤ◌, ◌<ℤ◌, Some, None, Ok, Err, Option, Result, nat_lt, slice_index_or, unsigned_abs}
use Rattle.std.specs.List.{remove}
use Rattle.std.specs.Option.{option_or}
use Rattle.shots.specs.Shots.{fault, Reads}
use Rattle.shots.specs.declared.shot.Shot.{Shot}
use Rattle.shots.specs.declared.entry.Entry.{Entry}
use Rattle.shots.specs.declared.refusal.Refusal.{Refusal}
use Rattle.shots.specs.declared.refusal.Refusal.TheVariants.{Full, Place}

abbrev pub Holds : List Shot → ℤ → Type 0
Holds xs p = (pos 0 ≤ℤ p) × (p <ℤ pos (length xs))

abbrev pub Index : ℤ → ℕ → Result ℕ Refusal → Type 0
Index p n (Ok i) = (p ≡ pos i) × (i < n)
Index p n (Err e) = ((pos 0 ≤ℤ p) × (p <ℤ pos n) → ⊥) × (e ≡ Place)

abbrev pub Read : List Shot → ℤ → Result Shot Refusal → Type 0
Read xs p (Ok z) = Holds xs p × (z ≡ slice_index_or xs (unsigned_abs p) z)
Read xs p (Err e) = (Holds xs p → ⊥) × (e ≡ Place)

-- cap is how many shots the rack can hold
abbrev pub add_fault : ℕ → List Shot → Entry → Option Refusal
add_fault cap xs entry = option_or (fault entry) (cond (nat_lt (length xs) cap) None (Some Full))

abbrev pub Added : ℕ → List Shot → Entry → Result (Unit {0}) Refusal → List Shot → Type 0
Added cap xs entry (Ok _) ys = (add_fault cap xs entry ≡ None) × ((z : Shot) × Reads z entry × (ys ≡ xs ++ z ∷ []))
Added cap xs entry (Err e) ys = (add_fault cap xs entry ≡ Some e) × (ys ≡ xs)

abbrev pub Struck : List Shot → ℤ → Result (Unit {0}) Refusal → List Shot → Type 0
Struck xs p (Ok _) ys = Holds xs p × (ys ≡ remove xs (unsigned_abs p))
Struck xs p (Err e) ys = (Holds xs p → ⊥) × (e ≡ Place) × (ys ≡ xs)
