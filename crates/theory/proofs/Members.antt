-- Sums over a list, by what is known of its members: a sum of equal terms is equal, of terms that are not negative is not negative, of positive terms is positive.
--   f x ≡ g x for all x in xs   ⇒  Σ f = Σ g;   0 ≤ f x for all x in xs  ⇒  0 ≤ Σ f;   and 0 < f z for one z in xs  ⇒  0 < Σ f
use Rattle.std.proofs.Common.{◌≡◌, List, [], ◌∷◌, ℤ, pos, ◌-ℤ◌, neg_ℤ, ◌≤ℤ◌, ◌<ℤ◌, sym, refl, inl, inr}
use Rattle.lines.proofs.Ring.{lin}
use Rattle.lines.specs.Sums.{sum_z}
use Rattle.theory.specs.Points.{In}
use Rattle.theory.proofs.Least.{at_eq}

pub sum_same : {T : Type 0} (f g : T → ℤ) (xs : List T) → ((x : T) → In x xs → f x ≡ g x) → sum_z f xs ≡ sum_z g xs
sum_same f g [] h = refl
sum_same f g (x ∷ xs) h = omega (lin, h x (inl refl), sum_same f g xs (λ y i. h y (inr i)))

-- a sum of differences
pub sum_diff : {T : Type 0} (f g k : T → ℤ) (xs : List T) → ((x : T) → In x xs → f x ≡ g x -ℤ k x) → sum_z f xs ≡ sum_z g xs -ℤ sum_z k xs
sum_diff f g k [] h = refl
sum_diff f g k (x ∷ xs) h = omega (lin, h x (inl refl), sum_diff f g k xs (λ y i. h y (inr i)))

pub sum_minus : {T : Type 0} (f g : T → ℤ) (xs : List T) → ((x : T) → In x xs → f x ≡ neg_ℤ (g x)) → sum_z f xs ≡ neg_ℤ (sum_z g xs)
sum_minus f g [] h = refl
sum_minus f g (x ∷ xs) h = omega (lin, h x (inl refl), sum_minus f g xs (λ y i. h y (inr i)))

pub sum_in_nn : {T : Type 0} (f : T → ℤ) (xs : List T) → ((x : T) → In x xs → pos 0 ≤ℤ f x) → pos 0 ≤ℤ sum_z f xs
sum_in_nn f [] h = omega lin
sum_in_nn f (x ∷ xs) h = omega (lin, h x (inl refl), sum_in_nn f xs (λ y i. h y (inr i)))

pub sum_in_pos : {T : Type 0} (f : T → ℤ) (xs : List T) (z : T) → ((x : T) → In x xs → pos 0 ≤ℤ f x) → In z xs → pos 0 <ℤ f z → pos 0 <ℤ sum_z f xs
sum_in_pos f [] z h i p = absurd i
sum_in_pos f (x ∷ xs) z h (inl e) p =
    let k : pos 0 <ℤ f x = at_eq (λ y. pos 0 <ℤ f y) (sym e) p in
    let n = sum_in_nn f xs (λ y i. h y (inr i)) in
    omega lin
sum_in_pos f (x ∷ xs) z h (inr i) p = omega (lin, h x (inl refl), sum_in_pos f xs z (λ y j. h y (inr j)) i p)
