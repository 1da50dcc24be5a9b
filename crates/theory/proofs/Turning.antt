-- The line through z with the balance slope is the cheapest of all lines through z, and the lowest of those; and there is one wherever the list has another speed.
--   Balanced xs z m   ⇒  rise ≥ 0 and fall ≥ 0 (fall > 0 where all points weigh)  ⇒  n.a·T_m ≤ m.a·T_n for all n through z (< for each of lower slope)
use Rattle.std.proofs.Common.{◌≡◌, List, pos, ◌*ℤ◌, neg_ℤ, ◌≤ℤ◌, ◌<ℤ◌, inl, inr}
use Rattle.std.proofs.lemmas.Int.{by_lt_z}
use Rattle.lines.specs.Lines.{AnyLine}
use Rattle.lines.proofs.Ring.{lin, ring, flat, from, ◌&◌}
use Rattle.lines.proofs.Order.{prod, prod_lt, cancel_lt, weaken}
use Rattle.theory.specs.Points.{Point, In, On, Weighty, IsRival, Spans}
use Rattle.theory.specs.Rates.{rise_of, fall_of, rise_part, fall_part}
use Rattle.theory.specs.Turning.{run, num, Other, KeyAbove, KeyBelow, Balanced, SpansFrom, CheapestThrough, LowestThrough}
use Rattle.theory.specs.Slopes.{lean, NoKeyBetween}
use Rattle.theory.specs.Pairs.{through}
use Rattle.theory.specs.Theorems.{TurnIsTheLowestCheapest, TurnExists}
use Rattle.theory.proofs.Least.{pick_of, test_le}
use Rattle.theory.proofs.Members.{sum_in_nn, sum_in_pos}
use Rattle.theory.proofs.Keys.{ahead, behind, miss_ahead, miss_behind, p_nn, q_nn, p_zero, q_zero, p_pos, rise_above, rise_upto, fall_below, fall_from, holds_rise, rise_holds}
use Rattle.theory.proofs.Slopes.{one_sided}
use Rattle.theory.proofs.Through.{through_a, through_b, through_rival, through_on, lean_through, through_below, KeyLe, keys_up, keys_down, Next, None, next_below}

-- ---- with no key below the slope no term of the fall is below 0, with no key above it none of the rise
pub fall_term_nn : (l : AnyLine) (z y : Point) → On l z → (Other z y → KeyBelow l.a l.b z y → ⊥) → pos 0 ≤ℤ fall_part l z y
fall_term_nn l z y o n =
    by_lt_z (l.a *ℤ num z y) (l.b *ℤ run z y)
    (λ g. by_lt_z (pos 0) (run z y) (λ r. absurd (n r g)) (λ r. let e = q_zero z y r in let k = fall_below l z y o g in omega lin))
    (λ g. let k = fall_from l z y o g in let e = p_nn z y in omega lin)

pub rise_term_nn : (l : AnyLine) (z y : Point) → On l z → (Other z y → KeyAbove l.a l.b z y → ⊥) → pos 0 ≤ℤ rise_part l z y
rise_term_nn l z y o n =
    by_lt_z (l.b *ℤ run z y) (l.a *ℤ num z y)
    (λ g. by_lt_z (pos 0) (run z y) (λ r. absurd (n r g)) (λ r. let e = p_zero z y r in let k = rise_above l z y o g in omega lin))
    (λ g. let k = rise_upto l z y o g in let e = q_nn z y in omega lin)

-- ---- up to the next key, a fall and the rise back are opposite
pub lean_back : (l m : AnyLine) → lean m l ≡ neg_ℤ (lean l m)
unfolding lean
lean_back l m = simp ring (simp flat (omega lin))

lean_lower : (m n : AnyLine) → (n.b *ℤ m.a) <ℤ (m.b *ℤ n.a) → lean m n <ℤ pos 0
unfolding lean
lean_lower m n g = from g (simp ring (simp flat (omega lin)))

swap_between : (l m : AnyLine) (xs : List Point) (z : Point) → NoKeyBetween l m xs z → NoKeyBetween m l xs z
swap_between l m xs z n y i r k = n y i r (elim k [ inl w ↦ inr (w.1, w.0) | inr w ↦ inl (w.1, w.0) ])

fall_over : (m n : AnyLine) (xs : List Point) (z : Point) → IsRival m → IsRival n → On m z → On n z → lean m n <ℤ pos 0 → NoKeyBetween m n xs z → rise_of n xs z <ℤ pos 0 → pos 0 <ℤ fall_of m xs z
fall_over m n xs z a b o p g k r =
    let e = (one_sided m n xs z a b o p).down_exact (weaken g) k in
    let back = lean_back m n in
    let f = (one_sided n m xs z b a p o).up_exact (omega lin) (swap_between m n xs z k) in
    cancel_lt (neg_ℤ (lean m n)) (pos 0) (fall_of m xs z) (omega lin) (from (e & (rw back at f) & prod_lt g r) (simp ring (simp flat (omega lin))))

-- ---- the rates of the balanced line
module _ (xs : List Point) (z : Point) (m : AnyLine) (b : Balanced xs z m) where
  balanced_rise : pos 0 ≤ℤ rise_of m xs z
  balanced_rise = holds_rise m xs z b.on b.holds

  next_fall : Next (λ y. KeyBelow m.a m.b z y) m xs z → pos 0 <ℤ fall_of m xs z
  next_fall w =
      let n = through z w.it in
      let e = lean_through m z w.it in
      let k = w.there in
      fall_over m n xs z b.rival (through_rival z w.it w.other) b.on (through_on z w.it) (omega lin) w.clear
      (by_lt_z (rise_of n xs z) (pos 0) (λ g. g)
      (λ g. absurd (b.lowest w.it w.inside w.other k (rw (through_a z w.it, through_b z w.it) at (rise_holds n xs z (through_on z w.it) g)))))

  lone_fall : None (λ y. KeyBelow m.a m.b z y) xs z → (y : Point) → In y xs → pos 0 ≤ℤ fall_part m z y
  lone_fall n y i = fall_term_nn m z y b.on (n y i)

  balanced_fall : pos 0 ≤ℤ fall_of m xs z
  balanced_fall = elim (next_below m xs z b.rival) [ inl w ↦ weaken (next_fall w) | inr n ↦ sum_in_nn (fall_part m z) xs (lone_fall n) ]

  strict_fall : Weighty xs → pos 0 <ℤ fall_of m xs z
  strict_fall w = elim (next_below m xs z b.rival) [ inl w ↦ next_fall w | inr n ↦ sum_in_pos (fall_part m z) xs b.it (lone_fall n) b.inside own ]
    where
      own : pos 0 <ℤ fall_part m z b.it
      own =
          let k = b.key in
          let e = fall_from m z b.it b.on (omega lin) in
          let p = p_pos z b.it (w b.it b.inside) b.other in
          omega lin

  -- ---- and what comes of them
  pub balanced_cheapest : CheapestThrough z m xs
  balanced_cheapest n a o =
      let s = one_sided m n xs z b.rival a b.on o in
      by_lt_z (lean m n) (pos 0)
      (λ g. from (s.down (weaken g) & prod (weaken g) balanced_fall) (simp ring (simp flat (omega lin))))
      (λ g. from (s.up g & prod g balanced_rise) (simp ring (simp flat (omega lin))))

  balanced_lowest : Weighty xs → LowestThrough z m xs
  balanced_lowest w n a o g =
      let k = lean_lower m n g in
      from ((one_sided m n xs z b.rival a b.on o).down (weaken k) & prod_lt k (strict_fall w)) (simp ring (simp flat (omega lin)))

  balanced_on : On m b.it
  balanced_on =
      let k = b.key in
      by_lt_z z.s b.it.s
      (λ g. let e = miss_ahead m z b.it b.on (ahead z b.it g) in omega lin)
      (λ g. let e = miss_behind m z b.it b.on (behind z b.it g) in omega lin)

  pub balanced_spans_from : SpansFrom m xs z
  balanced_spans_from = record { on = b.on; it = b.it; inside = b.inside; it_on = balanced_on; other = b.other }

  pub balanced_spans : In z xs → Spans m xs
  balanced_spans i =
      by_lt_z z.s b.it.s
      (λ g. record { slow = z; fast = b.it; slow_in = i; fast_in = b.inside; slow_on = b.on; fast_on = balanced_on; apart = g })
      (λ g. record { slow = b.it; fast = z; slow_in = b.inside; fast_in = i; slow_on = balanced_on; fast_on = b.on; apart = let e = (behind z b.it g).run_is in let r = b.other in omega lin })

pub turn_lowest_cheapest : TurnIsTheLowestCheapest
turn_lowest_cheapest m xs z b =
    record { spans_from = balanced_spans_from xs z m b; spans = balanced_spans xs z m b; cheapest = balanced_cheapest xs z m b; lowest = balanced_lowest xs z m b }

-- ---- there is a balance slope: the condition holds at the highest key, and of those at which it holds one is the lowest
top_holds : (xs : List Point) (z x : Point) → ((y : Point) → In y xs → Other z y → KeyLe z y x) → pos 0 ≤ℤ rise_of (through z x) xs z
top_holds xs z x h =
    sum_in_nn (rise_part (through z x) z) xs (λ y i. rise_term_nn (through z x) z y (through_on z x)
    (λ r k. let g = h y i r in from (g & (rw (through_a z x, through_b z x) at k)) (simp ring (simp flat (omega lin)))))

pub turn_exists_lem : TurnExists
turn_exists_lem xs z y i r =
    let held : Point → Type 0 = λ x. pos 0 ≤ℤ rise_of (through z x) xs z in
    let t = pick_of (λ x. Other z x × Unit {0}) (λ x y. KeyLe z y x) (keys_down z (λ x. Unit {0}) (λ x. inl tt)) xs y i (r, tt) in
    let top = top_holds xs z t.it (λ x j q. t.least x j (q, tt)) in
    let w = pick_of (λ x. Other z x × held x) (KeyLe z) (keys_up z held (λ x. test_le (pos 0) (rise_of (through z x) xs z))) xs t.it t.inside (t.good.0, top) in
    let x = w.it in (
      through z x,
      record {
        rival = through_rival z x w.good.0;
        on = through_on z x;
        it = x;
        inside = w.inside;
        other = w.good.0;
        key = rw (through_a z x, through_b z x) (simp ring (simp flat (omega lin)));
        holds = rise_holds (through z x) xs z (through_on z x) w.good.1;
        lowest = λ y j q k h.
            let g = w.least y j (q, holds_rise (through z y) xs z (through_on z y) (rw (through_a z y, through_b z y) h)) in
            from (g & through_below z x y k) (simp ring (simp flat (omega lin)));
      },
    )
