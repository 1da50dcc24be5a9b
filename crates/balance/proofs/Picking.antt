-- What stands at a place of the elements that pass a test, and the middle one of them.
use Rattle.std.proofs.Common.{◌≡◌, ℕ, zero, suc, ◌+◌, ◌/◌, ◌<◌, ◌≤◌, Bool, true, false, cond, List, [], ◌∷◌, length, get_or, take, Some, None, Option, count_by, option_map, Bor, sym, refl, ap, ◌∙◌, subst, arith}
use Rattle.std.specs.List.{filter, slice_get}
use Rattle.std.specs.Option.{is_some, unwrap_or}
use Rattle.std.proofs.lemmas.Bool.{both_ways}
use Rattle.std.proofs.lemmas.List.Sums.{sum_by-cons, length-filter}
use Rattle.balance.specs.Brackets.{within, Between}
use Rattle.balance.specs.declared.pull.Pull.{Pull}
use Rattle.balance.proofs.Sums.{count_zero}

-- x passes and has n before it that do
record Picked {X : Type 0} (f : X → Bool) (xs : List X) (n : ℕ) (x : X) : Type 0 where
  place : ℕ
  there : place < length xs
  read : x ≡ get_or xs place x
  passes : f x ≡ true
  before : count_by f (take place xs) ≡ n

module _ {X : Type 0} (f : X → Bool) where
  one_more : (y : X) (ys : List X) (x : X) (n k : ℕ) (b : Bool) → f y ≡ b → Picked f ys n x → cond b 1 0 + n ≡ k → Picked f (y ∷ ys) k x
  one_more y ys x n k b h p e = record {
    place = suc p.place;
    there = omega (arith, p.there);
    read = p.read;
    passes = p.passes;
    before = omega (arith, sum_by-cons (λ z. cond (f z) 1 0) y (take p.place ys), ap {B = ℕ} (λ v. cond v 1 0) h, p.before);
  }

  step : (y : X) (ys : List X) (x : X) → ((n : ℕ) → slice_get (filter f ys) n ≡ Some x → Picked f ys n x) → (b : Bool) → f y ≡ b → (n : ℕ) → slice_get (cond b (y ∷ filter f ys) (filter f ys)) n ≡ Some x → Picked f (y ∷ ys) n x
  step y ys x more true h zero e =
      let s : y ≡ x = ap (λ o. unwrap_or o y) e in
      record { place = 0; there = omega arith; read = sym s; passes = ap f (sym s) ∙ h; before = refl }
  step y ys x more true h (suc n) e = one_more y ys x n (suc n) true h (more n e) (omega arith)
  step y ys x more false h n e = one_more y ys x n n false h (more n e) (omega arith)

  picked : (xs : List X) (x : X) (n : ℕ) → slice_get (filter f xs) n ≡ Some x → Picked f xs n x
  picked [] x n e = absurd (both_ways false refl (ap is_some e))
  picked (y ∷ ys) x n e = step y ys x (λ m d. picked ys x m d) (f y) refl n e

past : {X : Type 0} (xs : List X) (n : ℕ) → slice_get xs n ≡ None → length xs ≤ n
past [] n e = omega arith
past (x ∷ xs) zero e = absurd (both_ways true (ap is_some e) refl)
past (x ∷ xs) (suc n) e = omega (arith, past xs n e)

module _ {K : Type 0} (le : K → K → Bool) (ps : List (Pull K)) (low : Option K) (high : K) where
  found : (o : Option (Pull K)) → slice_get (filter (within le low high) ps) (count_by (within le low high) ps / 2) ≡ o → Between le ps low high (option_map (λ p. p.key) o)
  found None e =
      count_zero (within le low high) ps (omega (arith, past (filter (within le low high) ps) _ e, length-filter (within le low high) ps))
  found (Some p) e =
      let q = picked (within le low high) ps p _ e in
      record { place = q.place; pull = p; there = q.there; read = q.read; same = refl; lies = q.passes; middle = q.before }

  -- the n elements that pass, and the one at half of n
  pub middle : (o : Option (Bor (Pull K))) {r : Option K} {n : ℕ} → r ≡ option_map (λ p. p.now.key) o → option_map (λ p. p.now) o ≡ slice_get (filter (within le low high) ps) (n / 2) → n ≡ count_by (within le low high) ps → Between le ps low high r
  middle o key nth count =
      subst (Between le ps low high) (sym (key ∙ keyed o)) (found (option_map (λ p. p.now) o) (ap (λ k. slice_get (filter (within le low high) ps) (k / 2)) (sym count) ∙ sym nth))
    where
      keyed : (o : Option (Bor (Pull K))) → option_map (λ p. p.now.key) o ≡ option_map (λ p. p.key) (option_map (λ p. p.now) o)
      keyed None = refl
      keyed (Some p) = refl
