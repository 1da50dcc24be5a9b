-- Along the lines through z the cost grows at least at the rates of z, and exactly so up to the next key.
--   l.a·T_m   ≥ m.a·T_l + U·rise for U ≥ 0, and ≥ m.a·T_l + (-U)·fall for U ≤ 0, with U = l.a·m.b - m.a·l.b; with = where no key is strictly between
use Rattle.std.proofs.Common.{◌≡◌, List, pos, ◌+ℤ◌, ◌*ℤ◌, neg_ℤ, ◌≤ℤ◌, ◌<ℤ◌, sym, ap, ◌∙◌, inl, inr}
use Rattle.std.proofs.lemmas.Int.{by_lt_z}
use Rattle.lines.specs.Lines.{AnyLine, miss}
use Rattle.lines.proofs.Ring.{lin, ring, flat, from, ◌&◌}
use Rattle.lines.proofs.Order.{prod, scale, cancel_le, weaken}
use Rattle.theory.specs.Points.{Point, miss_at, total, On, IsRival}
use Rattle.theory.specs.Rates.{rise_of, fall_of}
use Rattle.theory.specs.Turning.{Other}
use Rattle.theory.specs.Slopes.{lean, KeyBetween, NoKeyBetween}
use Rattle.theory.specs.Theorems.{RatesAreOneSidedSlopes}
use Rattle.theory.proofs.Least.{at_eq}
use Rattle.theory.proofs.Subgradient.{at, along, shift, cross, subgradient, Keeps, exact}
use Rattle.theory.proofs.Cone.{along_times}
use Rattle.theory.proofs.Rates.{rise_along, fall_along}
use Rattle.theory.proofs.Keys.{ahead, behind, miss_ahead, miss_behind}

shift_about : (l m : AnyLine) (z : Point) → On l z → On m z → shift l m ≡ neg_ℤ (lean l m *ℤ z.s)
unfolding shift lean miss
shift_about l m z o p = from (scale m.a o & scale l.a p) (simp ring (simp flat (omega lin)))

module _ (l m : AnyLine) (xs : List Point) (z : Point) (o : On l z) (p : On m z) where
  along_up : pos 0 ≤ℤ lean l m → along l xs (lean l m) (shift l m) ≡ lean l m *ℤ rise_of l xs z
  along_up g =
      let e : lean l m ≡ lean l m *ℤ pos 1 = simp ring (simp flat (omega lin)) in
      let f : shift l m ≡ lean l m *ℤ neg_ℤ z.s = shift_about l m z o p ∙ simp ring (simp flat (omega lin)) in
      ap (λ x. along l xs x (shift l m)) e ∙ (ap (λ x. along l xs (lean l m *ℤ pos 1) x) f ∙ (along_times l xs (lean l m) (pos 1) (neg_ℤ z.s) g ∙ scale (lean l m) (sym (rise_along l xs z))))

  along_down : lean l m ≤ℤ pos 0 → along l xs (lean l m) (shift l m) ≡ neg_ℤ (lean l m) *ℤ fall_of l xs z
  along_down g =
      let e : lean l m ≡ neg_ℤ (lean l m) *ℤ neg_ℤ (pos 1) = simp ring (simp flat (omega lin)) in
      let f : shift l m ≡ neg_ℤ (lean l m) *ℤ z.s = shift_about l m z o p ∙ simp ring (simp flat (omega lin)) in
      ap (λ x. along l xs x (shift l m)) e ∙ (ap (λ x. along l xs (neg_ℤ (lean l m) *ℤ neg_ℤ (pos 1)) x) f ∙ (along_times l xs (neg_ℤ (lean l m)) (neg_ℤ (pos 1)) z.s (omega lin) ∙ scale (neg_ℤ (lean l m)) (sym (fall_along l xs z))))

-- ---- a point changes sides only where its key is in between
same_speed : (l m : AnyLine) (z y : Point) → On l z → On m z → y.s ≡ z.s → l.a *ℤ miss_at m y ≡ m.a *ℤ miss_at l y
unfolding at
same_speed l m z y o p e = from (cross l m y & shift_about l m z o p & scale (lean l m) e) (simp ring (simp flat (omega lin)))

keeps : (l m : AnyLine) (z y : Point) → IsRival l → IsRival m → On l z → On m z → (Other z y → KeyBetween l m z y → ⊥) → Keeps (miss_at l y) (miss_at m y)
keeps l m z y a b o p n = by_lt_z z.s y.s
    (λ g.
    let w = ahead z y g in
    let r : Other z y = let e = w.run_is in omega lin in
    let e = miss_ahead l z y o w in
    let f = miss_ahead m z y p w in
    record {
      late = λ h. by_lt_z (miss_at m y) (pos 0) (λ k. absurd (n r (inl (omega lin, omega lin)))) (λ k. k);
      early = λ h. by_lt_z (pos 0) (miss_at m y) (λ k. absurd (n r (inr (omega lin, omega lin)))) (λ k. k);
    })
    (λ g. by_lt_z y.s z.s
    (λ g'.
    let w = behind z y g in
    let r : Other z y = let e = w.run_is in omega lin in
    let e = miss_behind l z y o w in
    let f = miss_behind m z y p w in
    record {
      late = λ h. by_lt_z (miss_at m y) (pos 0) (λ k. absurd (n r (inr (omega lin, omega lin)))) (λ k. k);
      early = λ h. by_lt_z (pos 0) (miss_at m y) (λ k. absurd (n r (inl (omega lin, omega lin)))) (λ k. k);
    })
    (λ g'.
    let e = same_speed l m z y o p (omega lin) in
    let a' : pos 0 <ℤ l.a = omega lin in
    let b' : pos 0 ≤ℤ m.a = omega lin in
    record {
      late = λ h. cancel_le l.a (pos 0) (miss_at m y) a' (from (e & prod b' (weaken h)) (simp ring (simp flat (omega lin))));
      early = λ h. cancel_le l.a (miss_at m y) (pos 0) a' (from (e & prod b' (weaken h)) (simp ring (simp flat (omega lin))));
    }))

pub one_sided : RatesAreOneSidedSlopes
one_sided l m xs z a b o p =
    let s = subgradient l m xs (omega lin) in
    let x : NoKeyBetween l m xs z → l.a *ℤ total m xs ≡ m.a *ℤ total l xs +ℤ along l xs (lean l m) (shift l m)
    = λ n. exact l m xs (omega lin) (λ y i. keeps l m z y a b o p (n y i)) in
    record {
      up = λ g. let e = along_up l m xs z o p g in at_eq (λ t. (m.a *ℤ total l xs +ℤ t) ≤ℤ (l.a *ℤ total m xs)) e s;
      down = λ g. let e = along_down l m xs z o p g in at_eq (λ t. (m.a *ℤ total l xs +ℤ t) ≤ℤ (l.a *ℤ total m xs)) e s;
      up_exact = λ g n. x n ∙ ap (λ t. m.a *ℤ total l xs +ℤ t) (along_up l m xs z o p g);
      down_exact = λ g n. x n ∙ ap (λ t. m.a *ℤ total l xs +ℤ t) (along_down l m xs z o p g);
    }
