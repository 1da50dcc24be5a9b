-- A claim about every element of a list that is written out, from the claim about each, one by one.
--   Each, each       all elements of the list
--   Firsts, firsts   the shots at the first k places
use Rattle.std.proofs.Common.{◌≡◌, ℕ, zero, suc, ◌<◌, List, [], ◌∷◌, get_or, sym, subst, inl, inr, arith}
use Rattle.shots.specs.declared.shot.Shot.{Shot}
use Rattle.theory.specs.Points.{In}

abbrev pub Each : {T : Type 0} → (T → Type 0) → List T → Type 0
Each P [] = Unit {0}
Each P (x ∷ xs) = P x × Each P xs

pub each : {T : Type 0} (P : T → Type 0) (xs : List T) → Each P xs → (y : T) → In y xs → P y
each P [] all y i = absurd i
each P (x ∷ xs) all y (inl e) = subst P e all.0
each P (x ∷ xs) all y (inr i) = each P xs all.1 y i

abbrev pub Firsts : (Shot → Type 0) → List Shot → ℕ → Type 0
Firsts P xs zero = Unit {0}
Firsts P [] (suc k) = ⊥
Firsts P (x ∷ xs) (suc k) = P x × Firsts P xs k

pub firsts : (P : Shot → Type 0) (xs : List Shot) (k : ℕ) → Firsts P xs k → (j : ℕ) (y : Shot) → j < k → y ≡ get_or xs j y → P y
firsts P xs zero all j y h e = absurd (omega arith)
firsts P [] (suc k) all j y h e = absurd all
firsts P (x ∷ xs) (suc k) all zero y h e = subst P (sym e) all.0
firsts P (x ∷ xs) (suc k) all (suc j) y h e = firsts P xs k all.1 j y (omega arith) e
