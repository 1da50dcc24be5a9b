-- Sums over lists of whole numbers: they add, scale and keep an order.
use Rattle.std.proofs.Common.{◌≡◌, List, [], ◌∷◌, ℤ, pos, ◌+ℤ◌, ◌*ℤ◌, ◌≤ℤ◌, refl}
use Rattle.std.specs.List.{AllByRecursion as All}
use Rattle.lines.specs.Sums.{sum_z}
use Rattle.lines.proofs.Ring.{lin, ring, poly}

pub sum_add : {T : Type 0} (f g : T → ℤ) (xs : List T) → sum_z (λ x. f x +ℤ g x) xs ≡ sum_z f xs +ℤ sum_z g xs
sum_add f g [] = refl
sum_add f g (x ∷ xs) = omega (lin, sum_add f g xs)

pub sum_scale : {T : Type 0} (k : ℤ) (f : T → ℤ) (xs : List T) → sum_z (λ x. k *ℤ f x) xs ≡ k *ℤ sum_z f xs
sum_scale k f [] = simp poly
sum_scale k f (x ∷ xs) = simp ring (omega (lin, sum_scale k f xs))

pub sum_le : {T : Type 0} (f g : T → ℤ) (xs : List T) → ((x : T) → f x ≤ℤ g x) → sum_z f xs ≤ℤ sum_z g xs
sum_le f g [] h = omega lin
sum_le f g (x ∷ xs) h = omega (lin, h x, sum_le f g xs h)

-- where it holds of each element of the list
pub sum_le_all : {T : Type 0} (f g : T → ℤ) (xs : List T) → All (λ x. f x ≤ℤ g x) xs → sum_z f xs ≤ℤ sum_z g xs
sum_le_all f g [] h = omega lin
sum_le_all f g (x ∷ xs) h = omega (lin, sum_le_all f g xs h.1)

pub sum_nn : {T : Type 0} (f : T → ℤ) (xs : List T) → ((x : T) → pos 0 ≤ℤ f x) → pos 0 ≤ℤ sum_z f xs
sum_nn f [] h = omega lin
sum_nn f (x ∷ xs) h = omega (lin, h x, sum_nn f xs h)
