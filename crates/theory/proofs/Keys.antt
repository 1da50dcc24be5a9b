-- About a point z of the line, the rates are sums of pulls, by keys: the rise is what is at or below the slope less what is above it, the fall what is at or above it less what is below it.
--   rise of z = Σ{key ≤ b/a} q - Σ{key > b/a} p,   fall of z = Σ{key ≥ b/a} p - Σ{key < b/a} q
use Rattle.std.proofs.Common.{◌≡◌, ◌≤◌, true, false, List, ℤ, pos, ◌-ℤ◌, ◌*ℤ◌, neg_ℤ, ◌≤ℤ◌, ◌<ℤ◌, refl, ◌∙◌, arith}
use borrow.Author.Differences.{ints}
use lib.Signed.{lt_z}
use Rattle.std.proofs.lemmas.Int.{by_lt_z}
use Rattle.lines.specs.Lines.{AnyLine, miss}
use Rattle.lines.specs.Sums.{sum_z}
use Rattle.lines.proofs.Ring.{lin, ring, flat, from}
use Rattle.lines.proofs.Order.{mul_nn, prod_lt, nat}
use Rattle.theory.specs.Points.{Point, miss_at, On}
use Rattle.theory.specs.Rates.{rise_part, fall_part, rise_of}
use Rattle.theory.specs.Turning.{run, num, Other, pull_p, pull_q, KeyAbove, KeyBelow, p_above, q_up_to, Holds}
use Rattle.theory.proofs.Members.{sum_diff}
use Rattle.theory.proofs.Rates.{terms}

-- ---- y faster than z, and y no faster than z
pub record Ahead (z y : Point) : Type 0 where
  pub run_is : run z y ≡ y.s -ℤ z.s
  pub num_is : num z y ≡ y.h -ℤ z.h
  pub p_is : pull_p z y ≡ pos y.u *ℤ (y.s -ℤ z.s)
  pub q_is : pull_q z y ≡ pos y.v *ℤ (y.s -ℤ z.s)

pub record Behind (z y : Point) : Type 0 where
  pub run_is : run z y ≡ z.s -ℤ y.s
  pub num_is : num z y ≡ z.h -ℤ y.h
  pub p_is : pull_p z y ≡ pos y.v *ℤ (z.s -ℤ y.s)
  pub q_is : pull_q z y ≡ pos y.u *ℤ (z.s -ℤ y.s)

pub ahead : (z y : Point) → z.s <ℤ y.s → Ahead z y
unfolding run num pull_p pull_q
ahead z y g = let e : lt_z z.s y.s ≡ true = grind (arith, ints) in record { run_is = rw e refl; num_is = rw e refl; p_is = rw e refl; q_is = rw e refl }

pub behind : (z y : Point) → y.s ≤ℤ z.s → Behind z y
unfolding run num pull_p pull_q
behind z y g = let e : lt_z z.s y.s ≡ false = grind (arith, ints) in record { run_is = rw e refl; num_is = rw e refl; p_is = rw e refl; q_is = rw e refl }

pub run_nn : (z y : Point) → pos 0 ≤ℤ run z y
run_nn z y = by_lt_z z.s y.s (λ g. let r = (ahead z y g).run_is in omega lin) (λ g. let r = (behind z y g).run_is in omega lin)

-- ---- pulls are at least 0, they are 0 at z's own speed, and above 0 at another for a point that weighs
module _ (z y : Point) where
  pub p_nn : pos 0 ≤ℤ pull_p z y
  p_nn = by_lt_z z.s y.s
      (λ g. rw (ahead z y g).p_is (mul_nn (nat y.u) (omega lin)))
      (λ g. rw (behind z y g).p_is (mul_nn (nat y.v) (omega lin)))

  pub q_nn : pos 0 ≤ℤ pull_q z y
  q_nn = by_lt_z z.s y.s
      (λ g. rw (ahead z y g).q_is (mul_nn (nat y.v) (omega lin)))
      (λ g. rw (behind z y g).q_is (mul_nn (nat y.u) (omega lin)))

  zero_run : run z y ≤ℤ pos 0 → y.s ≡ z.s
  zero_run r = by_lt_z z.s y.s (λ g. let e = (ahead z y g).run_is in absurd (omega lin)) (λ g. let e = (behind z y g).run_is in omega lin)

  pub p_zero : run z y ≤ℤ pos 0 → pull_p z y ≡ pos 0
  p_zero r = let e = zero_run r in (behind z y (omega lin)).p_is ∙ rw e (simp ring (simp flat (omega lin)))

  pub q_zero : run z y ≤ℤ pos 0 → pull_q z y ≡ pos 0
  q_zero r = let e = zero_run r in (behind z y (omega lin)).q_is ∙ rw e (simp ring (simp flat (omega lin)))

  pub p_pos : (1 ≤ y.u) × (1 ≤ y.v) → Other z y → pos 0 <ℤ pull_p z y
  p_pos w r =
      let hu : pos 0 <ℤ pos y.u = let k = w.0 in omega lin in
      let hv : pos 0 <ℤ pos y.v = let k = w.1 in omega lin in
      by_lt_z z.s y.s
      (λ g. rw (ahead z y g).p_is (from (prod_lt hu g) (simp ring (simp flat (omega lin)))))
      (λ g. let b = behind z y g in let e = b.run_is in let k : y.s <ℤ z.s = omega lin in rw b.p_is (from (prod_lt hv k) (simp ring (simp flat (omega lin)))))

-- ---- a key's side is the point's side
pub miss_ahead : (l : AnyLine) (z y : Point) → On l z → Ahead z y → miss_at l y ≡ l.a *ℤ num z y -ℤ l.b *ℤ run z y
unfolding miss
miss_ahead l z y o w = rw (w.run_is, w.num_is) (from o (simp ring (simp flat (omega lin))))

pub miss_behind : (l : AnyLine) (z y : Point) → On l z → Behind z y → miss_at l y ≡ l.b *ℤ run z y -ℤ l.a *ℤ num z y
unfolding miss
miss_behind l z y o w = rw (w.run_is, w.num_is) (from o (simp ring (simp flat (omega lin))))

-- ---- the rates' terms, by keys
module _ (l : AnyLine) (z y : Point) (o : On l z) where
  pub rise_above : KeyAbove l.a l.b z y → rise_part l z y ≡ neg_ℤ (pull_p z y)
  rise_above k =
      let t = terms l z y in
      by_lt_z z.s y.s
      (λ g. let w = ahead z y g in let e = miss_ahead l z y o w in rw (t.rise_late (omega lin), w.p_is) refl)
      (λ g. let w = behind z y g in let e = miss_behind l z y o w in rw (t.rise_early (omega lin), w.p_is) (simp ring (simp flat (omega lin))))

  pub rise_upto : (l.a *ℤ num z y) ≤ℤ (l.b *ℤ run z y) → rise_part l z y ≡ pull_q z y
  rise_upto k =
      let t = terms l z y in
      by_lt_z z.s y.s
      (λ g. let w = ahead z y g in let e = miss_ahead l z y o w in rw w.q_is (by_lt_z (miss_at l y) (pos 0)
      (λ f. t.rise_early f)
      (λ f. t.rise_ahead (omega lin) (omega lin))))
      (λ g. let w = behind z y g in let e = miss_behind l z y o w in rw w.q_is (by_lt_z (pos 0) (miss_at l y)
      (λ f. rw (t.rise_late f) (simp ring (simp flat (omega lin))))
      (λ f. rw (t.rise_behind (omega lin) (omega lin)) (simp ring (simp flat (omega lin))))))

  pub fall_below : KeyBelow l.a l.b z y → fall_part l z y ≡ neg_ℤ (pull_q z y)
  fall_below k =
      let t = terms l z y in
      by_lt_z z.s y.s
      (λ g. let w = ahead z y g in let e = miss_ahead l z y o w in rw (t.fall_early (omega lin), w.q_is) refl)
      (λ g. let w = behind z y g in let e = miss_behind l z y o w in rw (t.fall_late (omega lin), w.q_is) (simp ring (simp flat (omega lin))))

  pub fall_from : (l.b *ℤ run z y) ≤ℤ (l.a *ℤ num z y) → fall_part l z y ≡ pull_p z y
  fall_from k =
      let t = terms l z y in
      by_lt_z z.s y.s
      (λ g. let w = ahead z y g in let e = miss_ahead l z y o w in rw w.p_is (by_lt_z (pos 0) (miss_at l y)
      (λ f. t.fall_late f)
      (λ f. t.fall_ahead (omega lin) (omega lin))))
      (λ g. let w = behind z y g in let e = miss_behind l z y o w in rw w.p_is (by_lt_z (miss_at l y) (pos 0)
      (λ f. rw (t.fall_early f) (simp ring (simp flat (omega lin))))
      (λ f. rw (t.fall_behind (omega lin) (omega lin)) (simp ring (simp flat (omega lin))))))

-- ---- the balance condition at the slope of a line through z is that its rise is at least 0
record Weighed (a b : ℤ) (z y : Point) : Type 0 where
  pub p_above_lem : KeyAbove a b z y → p_above a b z y ≡ pull_p z y
  pub p_upto : (a *ℤ num z y) ≤ℤ (b *ℤ run z y) → p_above a b z y ≡ pos 0
  pub q_above : KeyAbove a b z y → q_up_to a b z y ≡ pos 0
  pub q_upto : (a *ℤ num z y) ≤ℤ (b *ℤ run z y) → q_up_to a b z y ≡ pull_q z y

weighed : (a b : ℤ) (z y : Point) → Weighed a b z y
unfolding p_above q_up_to
weighed a b z y = record { p_above_lem = λ g. grind (arith, ints); p_upto = λ g. grind (arith, ints); q_above = λ g. grind (arith, ints); q_upto = λ g. grind (arith, ints) }

rise_split : (l : AnyLine) (z y : Point) → On l z → rise_part l z y ≡ q_up_to l.a l.b z y -ℤ p_above l.a l.b z y
rise_split l z y o =
    let w = weighed l.a l.b z y in
    by_lt_z (l.b *ℤ run z y) (l.a *ℤ num z y)
    (λ g. rw (rise_above l z y o g, w.p_above_lem g, w.q_above g) (omega lin))
    (λ g. rw (rise_upto l z y o g, w.p_upto g, w.q_upto g) (omega lin))

pub rise_pulls : (l : AnyLine) (xs : List Point) (z : Point) → On l z → rise_of l xs z ≡ sum_z (q_up_to l.a l.b z) xs -ℤ sum_z (p_above l.a l.b z) xs
rise_pulls l xs z o = sum_diff (rise_part l z) (q_up_to l.a l.b z) (p_above l.a l.b z) xs (λ y i. rise_split l z y o)

pub holds_rise : (l : AnyLine) (xs : List Point) (z : Point) → On l z → Holds xs z l.a l.b → pos 0 ≤ℤ rise_of l xs z
holds_rise l xs z o h = let e = rise_pulls l xs z o in omega lin

pub rise_holds : (l : AnyLine) (xs : List Point) (z : Point) → On l z → pos 0 ≤ℤ rise_of l xs z → Holds xs z l.a l.b
rise_holds l xs z o h = let e = rise_pulls l xs z o in omega lin
