-- Sums, counts and facts over a list, element by element: `x ≡ get_or xs i x` says that x is what stands at place i.
use Rattle.std.proofs.Common.{◌≡◌, ℕ, zero, suc, ◌+◌, ◌<◌, ◌≤◌, Bool, true, false, cond, List, [], ◌∷◌, length, get_or, take, sum_by, count_by, sym, refl, ap, ◌∙◌, subst, ⊎_elim, arith}
use Rattle.std.proofs.lemmas.List.{get_or_default}
use Rattle.std.proofs.lemmas.Bool.{cases_lt}
use Rattle.std.proofs.lemmas.List.Sums.{sum_by-cons, sum_by_more, get_or-le-sum_by}
use Rattle.balance.specs.Balances.{Every}

-- ---- sums
pub sum_more : {X : Type 0} (f : X → ℕ) (xs : List X) (i : ℕ) (x : X) → i < length xs → x ≡ get_or xs i x → sum_by f (take (i + 1) xs) ≡ sum_by f (take i xs) + f x
sum_more f xs i x h e = sum_by_more f xs i x h ∙ ap (λ y. sum_by f (take i xs) + f y) (sym e)

pub at_le_sum : {X : Type 0} (f : X → ℕ) (xs : List X) (i : ℕ) (x : X) → i < length xs → x ≡ get_or xs i x → f x ≤ sum_by f xs
at_le_sum f xs i x l e = omega (arith, ap f e, get_or-le-sum_by f xs i x l)

pub sum_mono : {X : Type 0} (f g : X → ℕ) (xs : List X) → Every (λ x. f x ≤ g x) xs → sum_by f xs ≤ sum_by g xs
sum_mono f g [] h = omega arith
sum_mono f g (x ∷ xs) h =
    omega (arith, sum_by-cons f x xs, sum_by-cons g x xs, h 0 x (omega arith) refl, sum_mono f g xs (λ i y l e. h (suc i) y (omega arith) e))

-- smaller at one place, and nowhere greater
pub sum_less : {X : Type 0} (f g : X → ℕ) → ((x : X) → f x ≤ g x) → (xs : List X) (i : ℕ) (x : X) → i < length xs → x ≡ get_or xs i x → f x < g x → sum_by f xs < sum_by g xs
sum_less f g h [] i x l e k = omega arith
sum_less f g h (y ∷ xs) zero x l e k =
    omega (arith, sum_by-cons f y xs, sum_by-cons g y xs, ap f e, ap g e, sum_mono f g xs (λ i z _ _. h z))
sum_less f g h (y ∷ xs) (suc i) x l e k =
    omega (arith, sum_by-cons f y xs, sum_by-cons g y xs, h y, sum_less f g h xs i x (omega arith) e k)

pub sum_zero : {X : Type 0} (f : X → ℕ) (xs : List X) → Every (λ x. f x ≡ 0) xs → sum_by f xs ≡ 0
sum_zero f [] h = refl
sum_zero f (x ∷ xs) h =
    omega (arith, sum_by-cons f x xs, h 0 x (omega arith) refl, sum_zero f xs (λ i y l e. h (suc i) y (omega arith) e))

pub zero_sum : {X : Type 0} (f : X → ℕ) (xs : List X) → sum_by f xs ≡ 0 → Every (λ x. f x ≡ 0) xs
zero_sum f [] z i x l e = omega arith
zero_sum f (y ∷ xs) z zero x l e = omega (arith, sum_by-cons f y xs, ap f e)
zero_sum f (y ∷ xs) z (suc i) x l e =
    zero_sum f xs (omega (arith, sum_by-cons f y xs)) i x (omega arith) e

-- ---- counts
cond_no : (a : Bool) → ◌≡◌ {A = ℕ} (cond a 1 0) 0 → a ≡ false
cond_no true h = absurd (omega arith)
cond_no false h = refl

pub count_zero : {X : Type 0} (f : X → Bool) (xs : List X) → count_by f xs ≡ 0 → Every (λ x. f x ≡ false) xs
count_zero f xs z i x l e = cond_no (f x) (zero_sum (λ y. cond (f y) 1 0) xs z i x l e)

-- ---- facts: one element more
pub every_more : {X : Type 0} (P : X → Type 0) (xs : List X) (i : ℕ) (x : X) → i < length xs → x ≡ get_or xs i x → P x → ((k : ℕ) (y : X) → k < i → y ≡ get_or xs k y → P y) → (k : ℕ) (y : X) → k < i + 1 → y ≡ get_or xs k y → P y
every_more P xs i x l e p h k y m d =
    ⊎_elim (λ s. h k y s d) (λ s. let n : k ≡ i = omega arith in subst P (e ∙ get_or_default xs i x y l ∙ ap (λ j. get_or xs j y) (sym n) ∙ sym d) p) (cases_lt k i)

-- ---- tests that imply one another
pub cond_up : (a b : Bool) (n : ℕ) → (a ≡ true → b ≡ true) → cond a n 0 ≤ cond b n 0
cond_up true b n h = omega (arith, ap (λ v. cond v n 0) (h refl))
cond_up false b n h = omega arith

pub cond_down : (a b : Bool) (n : ℕ) → (a ≡ true → b ≡ true) → cond b 0 n ≤ cond a 0 n
cond_down true b n h = omega (arith, ap (λ v. cond v 0 n) (h refl))
cond_down false true n h = omega arith
cond_down false false n h = omega arith
