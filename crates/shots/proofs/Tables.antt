-- A table after one entry is set: what holds of the new entry and of every old one holds of all.
use Rattle.std.proofs.Common.{ℕ, zero, suc, List, [], ◌∷◌, get_or, set}

pub set_keeps : {X : Type 0} (P : X → Type 0) (xs : List X) (k : ℕ) (v d : X) → P v → ((m : ℕ) → P (get_or xs m d)) → (m : ℕ) → P (get_or (set xs k v) m d)
set_keeps P [] k v d h all m = all m
set_keeps P (x ∷ xs) zero v d h all zero = h
set_keeps P (x ∷ xs) zero v d h all (suc m) = all (suc m)
set_keeps P (x ∷ xs) (suc k) v d h all zero = all zero
set_keeps P (x ∷ xs) (suc k) v d h all (suc m) = set_keeps P xs k v d h (λ j. all (suc j)) m
