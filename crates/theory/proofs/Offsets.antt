-- Of all lines of one slope none is cheaper than the line at the balanced offset, and where all points weigh each of lower offset is dearer.
--   c the lowest key with Σ{key > c} u ≤ Σ{key ≤ c} v   ⇒  k·T(a, b, c) ≤ T(k·a, k·b, d) for all k ≥ 1 and d (< where d < k·c)
use Rattle.std.proofs.Common.{◌≡◌, ◌⊎◌, List, ℤ, pos, ◌+ℤ◌, ◌-ℤ◌, ◌*ℤ◌, neg_ℤ, ◌≤ℤ◌, ◌<ℤ◌, sym, refl, ap, ◌∙◌, inl, inr, arith}
use borrow.Author.Differences.{ints}
use Rattle.std.proofs.lemmas.Int.{by_lt_z}
use Rattle.lines.specs.Lines.{miss}
use Rattle.lines.specs.Sums.{sum_z}
use Rattle.lines.proofs.Ring.{lin, ring, flat, from, ◌&◌}
use Rattle.lines.proofs.Order.{prod, prod_lt, cancel_le, weaken}
use Rattle.lines.proofs.Cost.{cost_up, cost_down}
use Rattle.theory.specs.Points.{Point, miss_at, total, In, Weighty}
use Rattle.theory.specs.Slopes.{lean}
use Rattle.theory.specs.Offsets.{offset, sloped, u_above, v_up_to, BalancedOffset}
use Rattle.theory.specs.Theorems.{BalancedOffsetIsLowestCheapest}
use Rattle.theory.proofs.Least.{Least, pick, measured, test_lt}
use Rattle.theory.proofs.Members.{sum_minus, sum_diff, sum_in_nn, sum_in_pos}
use Rattle.theory.proofs.Subgradient.{turn, turned, along, turn_over, turn_under, turn_on, shift, subgradient}
use Rattle.theory.proofs.Cone.{along_times}
use Rattle.theory.proofs.Rates.{flat_at}

-- ---- what a step of the offset up or down costs a point
offset_miss : (a b c : ℤ) (y : Point) → miss_at (sloped a b c) y ≡ offset a b y -ℤ c
unfolding sloped offset miss
offset_miss a b c y = refl

step_is : (a b c k : ℤ) (y : Point) → turned (sloped a b c) (pos 0) k y ≡ turn y.u y.v (offset a b y -ℤ c) k
unfolding turned
step_is a b c k y = rw (flat_at k y, offset_miss a b c y) refl

one_r : (k : ℤ) → k *ℤ pos 1 ≡ k
one_r k = simp ring (simp flat (omega lin))

-- over a variable: a numeral in a product computes, and `simp` no longer sees the product
minus_r : (k m : ℤ) → m ≡ neg_ℤ (pos 1) → k *ℤ m ≡ neg_ℤ k
minus_r k m e = from (ap (λ t. k *ℤ t) e) (λ h. h ∙ simp ring (simp flat (omega lin)))

record Steps (a b c : ℤ) (y : Point) : Type 0 where
  pub up_above : c <ℤ offset a b y → turned (sloped a b c) (pos 0) (pos 1) y ≡ neg_ℤ (pos y.u)
  pub up_upto : offset a b y ≤ℤ c → turned (sloped a b c) (pos 0) (pos 1) y ≡ pos y.v
  pub down_below : offset a b y <ℤ c → turned (sloped a b c) (pos 0) (neg_ℤ (pos 1)) y ≡ neg_ℤ (pos y.v)
  pub down_from : c ≤ℤ offset a b y → turned (sloped a b c) (pos 0) (neg_ℤ (pos 1)) y ≡ pos y.u

steps : (a b c : ℤ) (y : Point) → Steps a b c y
steps a b c y =
    let u = y.u in
    let v = y.v in
    let e = offset a b y -ℤ c in
    let uo = one_r (pos u) in
    let vo = one_r (pos v) in
    let um = minus_r (pos u) (neg_ℤ (pos 1)) refl in
    let vm = minus_r (pos v) (neg_ℤ (pos 1)) refl in
    record {
      up_above = λ g. step_is a b c (pos 1) y ∙ (turn_over u v e (pos 1) (omega lin) ∙ ap neg_ℤ uo);
      up_upto = λ g. step_is a b c (pos 1) y ∙ by_lt_z (offset a b y) c
          (λ k. turn_under u v e (pos 1) (omega lin) ∙ vo)
          (λ k. turn_on u v e (pos 1) (omega lin) ∙ (cost_down u v (neg_ℤ (pos 1)) (omega lin) ∙ omega (lin, vm)));
      down_below = λ g. step_is a b c (neg_ℤ (pos 1)) y ∙ (turn_under u v e (neg_ℤ (pos 1)) (omega lin) ∙ vm);
      down_from = λ g. step_is a b c (neg_ℤ (pos 1)) y ∙ by_lt_z c (offset a b y)
          (λ k. turn_over u v e (neg_ℤ (pos 1)) (omega lin) ∙ omega (lin, um))
          (λ k. turn_on u v e (neg_ℤ (pos 1)) (omega lin) ∙ (cost_up u v (neg_ℤ (neg_ℤ (pos 1))) (omega lin) ∙ uo));
    }

-- ---- the balance condition at c is that a step up costs at least 0
record Weighed (a b c : ℤ) (y : Point) : Type 0 where
  pub u_above_lem : c <ℤ offset a b y → u_above a b c y ≡ pos y.u
  pub u_upto : offset a b y ≤ℤ c → u_above a b c y ≡ pos 0
  pub v_above : c <ℤ offset a b y → v_up_to a b c y ≡ pos 0
  pub v_upto : offset a b y ≤ℤ c → v_up_to a b c y ≡ pos y.v

weighed : (a b c : ℤ) (y : Point) → Weighed a b c y
unfolding u_above v_up_to
weighed a b c y = record { u_above_lem = λ g. grind (arith, ints); u_upto = λ g. grind (arith, ints); v_above = λ g. grind (arith, ints); v_upto = λ g. grind (arith, ints) }

abbrev up_cost : ℤ → ℤ → ℤ → List Point → ℤ
up_cost a b c xs = along (sloped a b c) xs (pos 0) (pos 1)

abbrev down_cost : ℤ → ℤ → ℤ → List Point → ℤ
down_cost a b c xs = along (sloped a b c) xs (pos 0) (neg_ℤ (pos 1))

up_split : (a b c : ℤ) (y : Point) → turned (sloped a b c) (pos 0) (pos 1) y ≡ v_up_to a b c y -ℤ u_above a b c y
up_split a b c y =
    let w = weighed a b c y in
    let s = steps a b c y in
    by_lt_z c (offset a b y)
    (λ g. rw (s.up_above g, w.u_above_lem g, w.v_above g) (omega lin))
    (λ g. rw (s.up_upto g, w.u_upto g, w.v_upto g) (omega lin))

up_pulls : (a b c : ℤ) (xs : List Point) → up_cost a b c xs ≡ sum_z (v_up_to a b c) xs -ℤ sum_z (u_above a b c) xs
up_pulls a b c xs = sum_diff (turned (sloped a b c) (pos 0) (pos 1)) (v_up_to a b c) (u_above a b c) xs (λ y i. up_split a b c y)

-- ---- a step down from the balanced offset costs at least 0, and more than 0 where all points weigh
module _ (a b c : ℤ) (xs : List Point) (w : BalancedOffset a b xs c) where
  balanced_up : pos 0 ≤ℤ up_cost a b c xs
  balanced_up = let e = up_pulls a b c xs in let h = w.holds in omega lin

  abbrev lower : Point → Type 0
  lower y = offset a b y <ℤ c

  abbrev higher : Point → Point → Type 0
  higher x y = neg_ℤ (offset a b x) ≤ℤ neg_ℤ (offset a b y)

  -- the next lower key
  next_down : Least lower higher xs → pos 0 <ℤ down_cost a b c xs
  next_down p =
      let c' = offset a b p.it in
      let g = p.good in
      let e = sum_minus (turned (sloped a b c) (pos 0) (neg_ℤ (pos 1))) (turned (sloped a b c') (pos 0) (pos 1)) xs (λ y i. by_lt_z (offset a b y) c
      (λ k. let q = p.least y i k in rw ((steps a b c y).down_below k, (steps a b c' y).up_upto (omega lin)) refl)
      (λ k. rw ((steps a b c y).down_from k, (steps a b c' y).up_above (omega lin)) (omega lin))) in
      let f = up_pulls a b c' xs in
      by_lt_z (up_cost a b c' xs) (pos 0) (λ k. omega lin) (λ k. absurd (w.lowest p.it p.inside g (omega lin)))

  lone_down : ((y : Point) → In y xs → lower y → ⊥) → (y : Point) → In y xs → turned (sloped a b c) (pos 0) (neg_ℤ (pos 1)) y ≡ pos y.u
  lone_down n y i = by_lt_z (offset a b y) c (λ g. absurd (n y i g)) (λ g. (steps a b c y).down_from g)

  lower_pick : Least lower higher xs ⊎ ((y : Point) → In y xs → lower y → ⊥)
  lower_pick = pick lower higher (measured lower (λ y. neg_ℤ (offset a b y)) (λ y. test_lt (offset a b y) c)) xs

  balanced_down : pos 0 ≤ℤ down_cost a b c xs
  balanced_down = elim lower_pick [
    | inl p ↦ weaken (next_down p)
    | inr n ↦ sum_in_nn (turned (sloped a b c) (pos 0) (neg_ℤ (pos 1))) xs (λ y i. let e = lone_down n y i in omega lin)
  ]

  strict_down : Weighty xs → pos 0 <ℤ down_cost a b c xs
  strict_down h = elim lower_pick [
    | inl p ↦ next_down p
    | inr n ↦ sum_in_pos (turned (sloped a b c) (pos 0) (neg_ℤ (pos 1))) xs w.it (λ y i. let e = lone_down n y i in omega lin) w.inside (let e = lone_down n w.it w.inside in let k = (h w.it w.inside).0 in omega lin)
  ]

-- ---- from the line at offset c to the line of the same slope at the rational offset d / k
same_slope : (a b k j : ℤ) → a *ℤ (k *ℤ b) -ℤ (k *ℤ a) *ℤ b ≡ j *ℤ pos 0
same_slope a b k j = simp ring (simp flat (omega lin))

lean_sloped : (a b c k d j : ℤ) → lean (sloped a b c) (sloped (k *ℤ a) (k *ℤ b) d) ≡ j *ℤ pos 0
unfolding lean sloped
lean_sloped a b c k d j = same_slope a b k j

offsets_apart : (a c k d : ℤ) → a *ℤ d -ℤ (k *ℤ a) *ℤ c ≡ a *ℤ (d -ℤ k *ℤ c)
offsets_apart a c k d = simp ring (simp flat (omega lin))

shift_sloped : (a b c k d : ℤ) → shift (sloped a b c) (sloped (k *ℤ a) (k *ℤ b) d) ≡ a *ℤ (d -ℤ k *ℤ c)
unfolding shift sloped
shift_sloped a b c k d = offsets_apart a c k d

sloped_a : (a b c : ℤ) → (sloped a b c).a ≡ a
unfolding sloped
sloped_a a b c = refl

-- an inequality less the factor a
divided : (a k j t g u x y : ℤ) → pos 0 <ℤ a → x ≡ a → y ≡ k *ℤ a → (y *ℤ t +ℤ (a *ℤ j) *ℤ g) ≤ℤ (x *ℤ u) → (k *ℤ t +ℤ j *ℤ g) ≤ℤ u
divided a k j t g u x y p e f h =
    cancel_le a (k *ℤ t +ℤ j *ℤ g) u p (from (h & ap (λ r. r *ℤ u) e & ap (λ r. r *ℤ t) f) (simp ring (simp flat (omega lin))))

from_c : (a b c k d : ℤ) (xs : List Point) (j o : ℤ) → pos 1 ≤ℤ a → pos 0 ≤ℤ j → d -ℤ k *ℤ c ≡ j *ℤ o → (k *ℤ total (sloped a b c) xs +ℤ j *ℤ along (sloped a b c) xs (pos 0) o) ≤ℤ total (sloped (k *ℤ a) (k *ℤ b) d) xs
from_c a b c k d xs j o p q e =
    let l = sloped a b c in
    let m = sloped (k *ℤ a) (k *ℤ b) d in
    let p' : pos 0 <ℤ a = omega lin in
    let f : shift l m ≡ (a *ℤ j) *ℤ o = shift_sloped a b c k d ∙ from (ap (λ t. a *ℤ t) e) (simp ring (simp flat (omega lin))) in
    let t = along_times l xs (a *ℤ j) (pos 0) o (from (prod (weaken p') q) (simp ring (simp flat (omega lin)))) in
    let s = rw (lean_sloped a b c k d (a *ℤ j), f, t) at (subgradient l m xs (rw (sloped_a a b c) (weaken p'))) in
    divided a k j (total l xs) (along l xs (pos 0) o) (total m xs) l.a m.a p' (sloped_a a b c) (sloped_a (k *ℤ a) (k *ℤ b) d) s

pub balanced_lowest_cheapest : BalancedOffsetIsLowestCheapest
balanced_lowest_cheapest a b c xs p w k d q = (best, lower_dearer)
  where
    low : d <ℤ (k *ℤ c) → (k *ℤ total (sloped a b c) xs +ℤ (k *ℤ c -ℤ d) *ℤ down_cost a b c xs) ≤ℤ total (sloped (k *ℤ a) (k *ℤ b) d) xs
    low g = from_c a b c k d xs (k *ℤ c -ℤ d) (neg_ℤ (pos 1)) p (omega lin) (sym (minus_r (k *ℤ c -ℤ d) (neg_ℤ (pos 1)) refl ∙ omega lin))

    high : (k *ℤ c) ≤ℤ d → (k *ℤ total (sloped a b c) xs +ℤ (d -ℤ k *ℤ c) *ℤ up_cost a b c xs) ≤ℤ total (sloped (k *ℤ a) (k *ℤ b) d) xs
    high g = from_c a b c k d xs (d -ℤ k *ℤ c) (pos 1) p (omega lin) (sym (one_r (d -ℤ k *ℤ c)))

    best : (k *ℤ total (sloped a b c) xs) ≤ℤ total (sloped (k *ℤ a) (k *ℤ b) d) xs
    best = by_lt_z d (k *ℤ c)
        (λ g. from (low g & prod (weaken g) (balanced_down a b c xs w)) (simp ring (simp flat (omega lin))))
        (λ g. from (high g & prod g (balanced_up a b c xs w)) (simp ring (simp flat (omega lin))))

    lower_dearer : Weighty xs → d <ℤ (k *ℤ c) → (k *ℤ total (sloped a b c) xs) <ℤ total (sloped (k *ℤ a) (k *ℤ b) d) xs
    lower_dearer h g = from (low g & prod_lt g (strict_down a b c xs w h)) (simp ring (simp flat (omega lin)))
