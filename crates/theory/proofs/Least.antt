-- A list in which some element passes a test has a least one that passes it, by any total order.
--   P y for some y in xs   ⇒  there is an x in xs with P x, and x ≤ y for all y in xs with P y
use Rattle.std.proofs.Common.{◌≡◌, ◌⊎◌, List, [], ◌∷◌, ℤ, pos, ◌≤ℤ◌, ◌<ℤ◌, sym, refl, inl, inr}
use Rattle.std.proofs.lemmas.Int.{by_lt_z}
use Rattle.lines.proofs.Ring.{lin}
use Rattle.lines.proofs.Order.{weaken}
use Rattle.theory.specs.Points.{In}

pub record Least {T : Type 0} (P : T → Type 0) (le : T → T → Type 0) (xs : List T) : Type 0 where
  pub it : T
  pub inside : In it xs
  pub good : P it
  pub least : (y : T) → In y xs → P y → le it y

-- the test can be decided, and what passes it is totally ordered
pub record Ordered {T : Type 0} (P : T → Type 0) (le : T → T → Type 0) : Type 0 where
  pub test : (x : T) → P x ⊎ (P x → ⊥)
  pub whole : (x y : T) → P x → P y → le x y ⊎ le y x
  pub through : (x y z : T) → P x → P y → P z → le x y → le y z → le x z

pub at_eq : {T : Type 0} (P : T → Type 0) {x y : T} → x ≡ y → P x → P y
at_eq P e p = rw e at p

module _ {T : Type 0} (P : T → Type 0) (le : T → T → Type 0) (o : Ordered P le) where
  pub pick : (xs : List T) → Least P le xs ⊎ ((y : T) → In y xs → P y → ⊥)
  pick [] = inr (λ y i p. i)
  pick (x ∷ xs) = go (o.test x) (pick xs)
    where
      self : P x → le x x
      self p = elim (o.whole x x p p) [ inl q ↦ q | inr q ↦ q ]

      go : P x ⊎ (P x → ⊥) → Least P le xs ⊎ ((y : T) → In y xs → P y → ⊥) → Least P le (x ∷ xs) ⊎ ((y : T) → In y (x ∷ xs) → P y → ⊥)
      go (inl p) (inl l) = elim (o.whole x l.it p l.good) [
        | inl q ↦ inl (record { it = x; inside = inl refl; good = p; least = λ y i g. elim i [ inl e ↦ at_eq (λ z. le x z) e (self p) | inr j ↦ o.through x l.it y p l.good g q (l.least y j g) ] })
        | inr q ↦ inl (record { it = l.it; inside = inr l.inside; good = l.good; least = λ y i g. elim i [ inl e ↦ at_eq (λ z. le l.it z) e q | inr j ↦ l.least y j g ] })
      ]
      go (inl p) (inr n) = inl (record { it = x; inside = inl refl; good = p; least = λ y i g. elim i [ inl e ↦ at_eq (λ z. le x z) e (self p) | inr j ↦ absurd (n y j g) ] })
      go (inr m) (inl l) = inl (record { it = l.it; inside = inr l.inside; good = l.good; least = λ y i g. elim i [ inl e ↦ absurd (m (at_eq P (sym e) g)) | inr j ↦ l.least y j g ] })
      go (inr m) (inr n) = inr (λ y i g. elim i [ inl e ↦ m (at_eq P (sym e) g) | inr j ↦ n y j g ])

  -- where one passes
  pub pick_of : (xs : List T) (y : T) → In y xs → P y → Least P le xs
  pick_of xs y i p = elim (pick xs) [ inl l ↦ l | inr n ↦ absurd (n y i p) ]

-- ---- the order of a whole-number measure
pub measured : {T : Type 0} (P : T → Type 0) (m : T → ℤ) → ((x : T) → P x ⊎ (P x → ⊥)) → Ordered P (λ x y. m x ≤ℤ m y)
measured P m t = record { test = t; whole = λ x y p q. by_lt_z (m x) (m y) (λ g. inl (weaken g)) (λ g. inr g); through = λ x y z p q r a b. omega lin }

pub least_by : {T : Type 0} (P : T → Type 0) (m : T → ℤ) → ((x : T) → P x ⊎ (P x → ⊥)) → (xs : List T) (y : T) → In y xs → P y → Least P (λ x z. m x ≤ℤ m z) xs
least_by P m t xs y i p = pick_of P (λ x z. m x ≤ℤ m z) (measured P m t) xs y i p

-- ---- tests
pub by_sign : {P : Type 0} (e : ℤ) → (pos 0 <ℤ e → P) → (e <ℤ pos 0 → P) → (e ≡ pos 0 → P) → P
by_sign e f g k = by_lt_z (pos 0) e f (λ m. by_lt_z e (pos 0) g (λ n. k (omega lin)))

pub test_le : (a b : ℤ) → (a ≤ℤ b) ⊎ (a ≤ℤ b → ⊥)
test_le a b = by_lt_z b a (λ g. inr (λ h. omega lin)) (λ g. inl g)

pub test_lt : (a b : ℤ) → (a <ℤ b) ⊎ (a <ℤ b → ⊥)
test_lt a b = by_lt_z a b (λ g. inl g) (λ g. inr (λ h. omega lin))

pub test_zero : (a : ℤ) → (a ≡ pos 0) ⊎ (a ≡ pos 0 → ⊥)
test_zero a = by_sign a (λ g. inr (λ h. omega lin)) (λ g. inr (λ h. omega lin)) (λ g. inl g)

pub test_both : {P Q : Type 0} → P ⊎ (P → ⊥) → Q ⊎ (Q → ⊥) → (P × Q) ⊎ (P × Q → ⊥)
test_both (inl p) (inl q) = inl (p, q)
test_both (inl p) (inr q) = inr (λ x. q x.1)
test_both (inr p) (inl q) = inr (λ x. p x.0)
test_both (inr p) (inr q) = inr (λ x. p x.0)
