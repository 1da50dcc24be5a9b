-- What one call of a rack in memory comes to, once the memory has done its part: an index below the
-- count is a place where a shot is held, and a shot that was made and has room is added.
use Rattle.std.proofs.Common.{◌≡◌, ℕ, ◌+◌, ◌<◌, ◌≤◌, List, [], ◌∷◌, ◌++◌, length, get_or, ℤ, pos, nat_abs, Some, None, Ok, Err, Result, sym, refl, ap, ◌∙◌, arith, w32, to_z}
use Rattle.std.proofs.lemmas.Int.{ints}
use Rattle.std.specs.List.{remove}
use Rattle.std.specs.Result.{result_ok}
use Rattle.shots.specs.Shots.{fault, Reads}
use Rattle.shots.specs.declared.shot.Shot.{Shot}
use Rattle.shots.specs.declared.entry.Entry.{Entry}
use Rattle.shots.specs.declared.refusal.Refusal.{Refusal}
use Rattle.shots.specs.declared.refusal.Refusal.TheVariants.{Full}
use Rattle.racks.specs.Racks.{Holds, Index, Read, Added, Struck}

-- what holds at an index holds at the place that it stands for
pub at_place : {Y : Type 0} (f : ℕ → Y) (y : Y) (p : ℤ) (i : ℕ) → p ≡ pos i → y ≡ f i → y ≡ f (nat_abs p)
at_place f y p i e is = is ∙ ap f (sym (ap nat_abs e))

held_at : (xs : List Shot) (p : ℤ) (n i : ℕ) → length xs ≡ n → Index p n (Ok i) → Holds xs p
held_at xs p n i e at = (omega (arith, ints), omega (arith, ints))

pub read_at : (xs : List Shot) (p : ℤ) (n i : ℕ) (z : Shot) → length xs ≡ n → Index p n (Ok i) → z ≡ get_or xs i z → Read xs p (Ok z)
read_at xs p n i z e at is = (held_at xs p n i e at, at_place (λ k. get_or xs k z) z p i at.0 is)

-- a shot is read only below the most places that a rack has
pub read_below : (xs : List Shot) (n : ℕ) (r : Result Shot Refusal) (z : Shot) → length xs ≤ 512 → n ≤ 512 → Read xs (to_z w32 n) r → Some z ≡ result_ok r → n + 1 ≤ 512
read_below xs n (Ok y) z few h read e = omega (arith, ints, read.0.1)
read_below xs n (Err f) z few h read e = absurd cc

pub struck_at : (xs ys : List Shot) (p : ℤ) (n i : ℕ) → length xs ≡ n → Index p n (Ok i) → ys ≡ remove xs i → Struck xs p (Ok tt) ys
struck_at xs ys p n i e at is = (held_at xs p n i e at, at_place (remove xs) ys p i at.0 is)

pub added_end : (cap : ℕ) (xs ys : List Shot) (n : ℕ) (entry : Entry) (z : Shot) → length xs ≡ n → n < cap → (fault entry ≡ None) × Reads z entry → ys ≡ xs ++ z ∷ [] → Added cap xs entry (Ok tt) ys
added_end cap xs ys n entry z e lt made is = (grind arith, (z, made.1, is))

pub added_full : (cap : ℕ) (xs : List Shot) (n : ℕ) (entry : Entry) → length xs ≡ n → cap ≤ n → fault entry ≡ None → Added cap xs entry (Err Full) xs
added_full cap xs n entry e le made = (grind arith, refl)
