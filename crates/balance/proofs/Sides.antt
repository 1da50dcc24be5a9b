-- The two sides of a key: where they balance, and that only one key is the lowest of those.
use Rattle.std.proofs.Common.{◌≡◌, Bool, true, false, cond, List, sum_by, sym, ap, ◌∙◌, arith}
use Rattle.std.proofs.lemmas.Bool.{false_from_ne_true, true_from_ne_false, leb-true, le-leb, both_ways}
use Rattle.balance.specs.Balances.{Every, Among, Fair, above, upto, holds, LowestKey, Point}
use Rattle.balance.specs.Orders.{Order}
use Rattle.balance.specs.declared.pull.Pull.{Pull}
use Rattle.balance.proofs.Sums.{at_le_sum, sum_mono, sum_zero, cond_up, cond_down}

module _ {K : Type 0} (le : K → K → Bool) where
  -- nothing lies above the greatest key
  pub holds_top : (ps : List (Pull K)) (t : K) → Every (λ p. le p.key t ≡ true) ps → holds le ps t ≡ true
  holds_top ps t h =
      le-leb _ _ (omega (arith, sum_zero (above le t) ps (λ i p l e. ap (λ v. cond v 0 p.under) (h i p l e))))

  -- nothing lies at or below a key under all keys
  pub fails_bottom : (ps : List (Pull K)) (u : K) → Every Fair ps → Among (λ p. le p.key u ≡ false) ps → Every (λ p. le p.key u ≡ false) ps → holds le ps u ≡ false
  fails_bottom ps u fair some off =
      false_from_ne_true (holds le ps u)
      (λ y.
      let p = some.1 in
      let z = sum_zero (upto le u) ps (λ i q l e. ap (λ v. cond v q.over 0) (off i q l e)) in
      omega (arith, leb-true (sum_by (above le u) ps) (sum_by (upto le u) ps) y, z, at_le_sum (above le u) ps some.0 p some.2 some.3, ap (λ v. cond v 0 p.under) some.4, (fair some.0 p some.2 some.3).under_low))

  -- a key with no more keys at or below it than one that fails
  pub fails_with : (ps : List (Pull K)) (l u : K) → Every (λ p. le p.key u ≡ true → le p.key l ≡ true) ps → holds le ps l ≡ false → holds le ps u ≡ false
  fails_with ps l u on f =
      false_from_ne_true (holds le ps u)
      (λ y.
      both_ways (holds le ps l) f
      (le-leb _ _
      (omega (
        arith,
        leb-true (sum_by (above le u) ps) (sum_by (upto le u) ps) y,
        sum_mono (above le l) (above le u) ps (λ i p m e. cond_down (le p.key u) (le p.key l) p.under (on i p m e)),
        sum_mono (upto le u) (upto le l) ps (λ i p m e. cond_up (le p.key u) (le p.key l) p.over (on i p m e)),
      ))))

  pub only_point : Order le → (ps : List (Pull K)) (s t : K) → Point le ps s → LowestKey le ps t → t ≡ s
  only_point o ps s t p q =
      o.antisymmetric t s
      (true_from_ne_false (le t s) (λ h.
      let a = p.among in
      both_ways (holds le ps s) (ap (holds le ps) (sym a.4) ∙ q.lowest a.0 a.1 a.2 a.3 (ap (le t) a.4 ∙ h)) p.here))
      (true_from_ne_false (le s t) (λ h. both_ways (holds le ps t) (p.lowest t h) q.here))
