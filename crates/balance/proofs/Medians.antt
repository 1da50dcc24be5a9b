-- At equal prices the balance point is the lowest weighted median: each pull's weight lies on one side or the other, so the sides add up to the whole.
use Rattle.std.proofs.Common.{◌≡◌, ℕ, suc, ◌+◌, Bool, true, false, cond, List, [], ◌∷◌, sum_by, refl, arith}
use Rattle.std.proofs.lemmas.List.Sums.{sum_by-cons}
use Rattle.std.proofs.lemmas.Bool.{leb-true, leb-false}
use Rattle.balance.specs.Balances.{above, upto, Point, Even, weight, Median}
use Rattle.balance.specs.declared.pull.Pull.{Pull}

one_side : (b : Bool) (u v : ℕ) → u ≡ v → cond b 0 u + cond b v 0 ≡ v
one_side true u v e = omega arith
one_side false u v e = omega arith

both_sides : {K : Type 0} (le : K → K → Bool) (ps : List (Pull K)) (t : K) → Even ps → sum_by (above le t) ps + sum_by (upto le t) ps ≡ sum_by weight ps
both_sides le [] t h = refl
both_sides le (p ∷ ps) t h =
    omega (arith, sum_by-cons (above le t) p ps, sum_by-cons (upto le t) p ps, sum_by-cons weight p ps, one_side (le p.key t) p.under p.over (h 0 p (omega arith) refl), both_sides le ps t (λ i q l e. h (suc i) q (omega arith) e))

pub median : {K : Type 0} (le : K → K → Bool) (ps : List (Pull K)) (t : K) → Point le ps t → Even ps → Median le ps t
median le ps t p h = record {
  half = omega (arith, both_sides le ps t h, leb-true (sum_by (above le t) ps) (sum_by (upto le t) ps) p.here);
  lowest = λ u g. omega (arith, both_sides le ps u h, leb-false (sum_by (above le u) ps) (sum_by (upto le u) ps) (p.lowest u g));
}
