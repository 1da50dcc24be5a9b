-- Where a rate of a point z of the line is below 0, the line through z and its next key on that side is strictly cheaper, hence so is the turned line; hence a cheapest line passes the test.
--   fall < 0, n the next slope below   ⇒  l.a·T_n = n.a·T_l + (-U)·fall < n.a·T_l;   m.a·T_n ≥ n.a·T_m  ⇒  l.a·T_m < m.a·T_l
use Rattle.std.proofs.Common.{List, pos, ◌*ℤ◌, ◌≤ℤ◌, ◌<ℤ◌, inl, inr}
use Rattle.std.proofs.lemmas.Int.{by_lt_z}
use Rattle.lines.specs.Lines.{AnyLine}
use Rattle.lines.proofs.Ring.{lin, ring, flat, from, ◌&◌}
use Rattle.lines.proofs.Order.{prod, prod_lt, cancel_lt, weaken}
use Rattle.theory.specs.Points.{Point, total, On, IsRival, Cheaper, AtMost, Cheapest}
use Rattle.theory.specs.Rates.{rise_of, fall_of, rise_part, fall_part, Failing, Passes}
use Rattle.theory.specs.Slopes.{lean}
use Rattle.theory.specs.Pairs.{through}
use Rattle.theory.specs.Theorems.{TestPassesExactlyWhenCheapest, TurnIsStrictlyCheaper}
use Rattle.theory.proofs.Members.{sum_in_nn}
use Rattle.theory.proofs.Cheapest.{passes_cheapest}
use Rattle.theory.proofs.Slopes.{one_sided}
use Rattle.theory.proofs.Through.{through_rival, through_on, lean_through, next_below, next_above}
use Rattle.theory.proofs.Turning.{fall_term_nn, rise_term_nn, balanced_cheapest}

-- a strictly cheaper line through z
pub record Descent (l : AnyLine) (xs : List Point) (z : Point) : Type 0 where
  pub line : AnyLine
  pub rival : IsRival line
  pub on : On line z
  pub cheaper : Cheaper line l xs

module _ (l : AnyLine) (xs : List Point) (z : Point) (a : IsRival l) (o : On l z) where
  fall_descent : fall_of l xs z <ℤ pos 0 → Descent l xs z
  fall_descent f = elim (next_below l xs z a) [
    | inl w ↦
        let n = through z w.it in
        let r = through_rival z w.it w.other in
        let e = lean_through l z w.it in
        let k = w.there in
        let g : lean l n <ℤ pos 0 = omega lin in
        record {
          line = n;
          rival = r;
          on = through_on z w.it;
          cheaper = from ((one_sided l n xs z a r o (through_on z w.it)).down_exact (weaken g) w.clear & prod_lt g f) (simp ring (simp flat (omega lin)));
        }
    | inr n ↦ let k = sum_in_nn (fall_part l z) xs (λ y i. fall_term_nn l z y o (n y i)) in absurd (omega lin)
  ]

  rise_descent : rise_of l xs z <ℤ pos 0 → Descent l xs z
  rise_descent f = elim (next_above l xs z a) [
    | inl w ↦
        let n = through z w.it in
        let r = through_rival z w.it w.other in
        let e = lean_through l z w.it in
        let k = w.there in
        let g : pos 0 <ℤ lean l n = omega lin in
        record {
          line = n;
          rival = r;
          on = through_on z w.it;
          cheaper = from ((one_sided l n xs z a r o (through_on z w.it)).up_exact (weaken g) w.clear & prod_lt g f) (simp ring (simp flat (omega lin)));
        }
    | inr n ↦ let k = sum_in_nn (rise_part l z) xs (λ y i. rise_term_nn l z y o (n y i)) in absurd (omega lin)
  ]

  pub descent : Failing l xs z → Descent l xs z
  descent (inl f) = rise_descent f
  descent (inr f) = fall_descent f

-- at most what is cheaper costs is cheaper
pub cheaper_trans : (m n l : AnyLine) (xs : List Point) → IsRival m → IsRival n → IsRival l → AtMost m n xs → Cheaper n l xs → Cheaper m l xs
cheaper_trans m n l xs a b c f g =
    let a' : pos 0 <ℤ m.a = omega lin in
    let b' : pos 0 <ℤ n.a = omega lin in
    let c' : pos 0 ≤ℤ l.a = omega lin in
    cancel_lt n.a (l.a *ℤ total m xs) (m.a *ℤ total l xs) b' (from (prod c' f & prod_lt a' g) (simp ring (simp flat (omega lin))))

pub turn_cheaper : TurnIsStrictlyCheaper
turn_cheaper l m xs z a o f b =
    let d = descent l xs z a o f in
    cheaper_trans m d.line l xs b.rival d.rival a (balanced_cheapest xs z m b d.line d.rival d.on) d.cheaper

-- ---- a cheapest line passes
cheapest_passes : (l : AnyLine) (xs : List Point) → IsRival l → Cheapest l xs → Passes l xs
cheapest_passes l xs a c z i o = record {
  rise = by_lt_z (rise_of l xs z) (pos 0) (λ g. no (inl g)) (λ g. g);
  fall = by_lt_z (fall_of l xs z) (pos 0) (λ g. no (inr g)) (λ g. g);
}
  where
    no : {P : Type 0} → Failing l xs z → P
    no f = let d = descent l xs z a o f in let k = d.cheaper in let r = c d.line d.rival in absurd (omega lin)

pub test_exact : TestPassesExactlyWhenCheapest
test_exact l xs a t = (passes_cheapest l xs a t, cheapest_passes l xs a)
