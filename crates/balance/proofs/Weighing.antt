-- Weighing both sides of a key, pull by pull.
use Rattle.std.proofs.Common.{◌≡◌, ℕ, ◌+◌, ◌*◌, ◌<◌, ◌≤◌, Bool, true, false, cond, leb, List, length, get_or, take, sum_by, sym, ap, ◌∙◌, arith}
use Rattle.std.proofs.lemmas.List.{take_all}
use Rattle.balance.specs.Balances.{Fair, above, upto, holds}
use Rattle.balance.specs.declared.pull.Pull.{Pull}
use Rattle.balance.proofs.Sums.{sum_more}

-- both sums over the first i pulls, and that they stay small
pub record Weighed {K : Type 0} (le : K → K → Bool) (ps : List (Pull K)) (t : K) (i over under : ℕ) : Type 0 where
  pub over_sum : over ≡ sum_by (upto le t) (take i ps)
  pub under_sum : under ≡ sum_by (above le t) (take i ps)
  pub over_small : over ≤ 8000000 * i
  pub under_small : under ≤ 8000000 * i

module _ {K : Type 0} {le : K → K → Bool} {ps : List (Pull K)} {t : K} {i over under : ℕ} (w : Weighed le ps t i over under) where
  pub weighed_more : (x : Pull K) {over' under' : ℕ} → i < length ps → x ≡ get_or ps i x → Fair x → (b : Bool) → b ≡ le x.key t → over' ≡ over + cond b x.over 0 → under' ≡ under + cond b 0 x.under → Weighed le ps t (i + 1) over' under'
  weighed_more x l e f b h p q =
      let a = sum_more (upto le t) ps i x l e ∙ ap (λ v. sum_by (upto le t) (take i ps) + cond v x.over 0) (sym h) in
      let z = sum_more (above le t) ps i x l e ∙ ap (λ v. sum_by (above le t) (take i ps) + cond v 0 x.under) (sym h) in
      let m = at_most b x.over 0 in
      let n = at_most b 0 x.under in
      record { over_sum = omega (arith, w.over_sum); under_sum = omega (arith, w.under_sum); over_small = omega (arith, m, w.over_small, f.over_high); under_small = omega (arith, n, w.under_small, f.under_high) }
    where
      at_most : (b : Bool) (u v : ℕ) → cond b u v ≤ u + v
      at_most true u v = omega arith
      at_most false u v = omega arith

  pub weighed_all : length ps ≤ i → leb under over ≡ holds le ps t
  weighed_all l =
      let e = take_all i ps l in
      ap (λ n. leb n over) (w.under_sum ∙ ap (sum_by (above le t)) e) ∙ ap (leb _) (w.over_sum ∙ ap (sum_by (upto le t)) e)
