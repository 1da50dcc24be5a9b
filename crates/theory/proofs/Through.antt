-- The line through z and y runs through both, its slope is the key of y about z, and from each slope there is a next key on either side, or none.
--   through z y = (run, num, run·hz - num·sz);   next below l: a key k < b/a with no key strictly between k and b/a
use Rattle.std.proofs.Common.{◌≡◌, ◌⊎◌, List, pos, ◌-ℤ◌, ◌*ℤ◌, ◌≤ℤ◌, ◌<ℤ◌, refl, inl, inr}
use Rattle.std.proofs.lemmas.Int.{by_lt_z}
use Rattle.lines.specs.Lines.{AnyLine, miss}
use Rattle.lines.proofs.Ring.{lin, ring, flat, from, ◌&◌}
use Rattle.lines.proofs.Order.{prod, prod_lt, cancel_le, cancel_lt, weaken}
use Rattle.theory.specs.Points.{Point, In, On, IsRival}
use Rattle.theory.specs.Turning.{run, num, Other, KeyAbove, KeyBelow}
use Rattle.theory.specs.Slopes.{lean, NoKeyBetween}
use Rattle.theory.specs.Pairs.{through}
use Rattle.theory.proofs.Least.{Ordered, pick, test_lt, test_both}
use Rattle.theory.proofs.Keys.{ahead, behind, run_nn}

pub through_a : (z y : Point) → (through z y).a ≡ run z y
unfolding through
through_a z y = refl

pub through_b : (z y : Point) → (through z y).b ≡ num z y
unfolding through
through_b z y = refl

pub through_rival : (z y : Point) → Other z y → IsRival (through z y)
through_rival z y r = let e = through_a z y in omega lin

pub through_on : (z y : Point) → On (through z y) z
unfolding through miss
through_on z y = simp ring (simp flat (omega lin))

pub through_other : (z y : Point) → On (through z y) y
unfolding through miss
through_other z y =
    by_lt_z z.s y.s
    (λ g. let w = ahead z y g in rw (w.run_is, w.num_is) (simp ring (simp flat (omega lin))))
    (λ g. let w = behind z y g in rw (w.run_is, w.num_is) (simp ring (simp flat (omega lin))))

pub lean_through : (l : AnyLine) (z y : Point) → lean l (through z y) ≡ l.a *ℤ num z y -ℤ l.b *ℤ run z y
unfolding lean through
lean_through l z y = simp ring (simp flat (omega lin))

-- ---- the order of keys
abbrev pub KeyLe : Point → Point → Point → Type 0
KeyLe z x y = (num z x *ℤ run z y) ≤ℤ (num z y *ℤ run z x)

key_trans : (z w x y : Point) → Other z x → KeyLe z w x → KeyLe z x y → KeyLe z w y
key_trans z w x y r a b = cancel_le (run z x) (num z w *ℤ run z y) (num z y *ℤ run z w) r (from (prod (run_nn z y) a & prod (run_nn z w) b) (simp ring (simp flat (omega lin))))

key_whole : (z x y : Point) → KeyLe z x y ⊎ KeyLe z y x
key_whole z x y = by_lt_z (num z x *ℤ run z y) (num z y *ℤ run z x) (λ g. inl (weaken g)) (λ g. inr g)

-- points of another speed that pass a test, the lowest key first
pub keys_up : (z : Point) (P : Point → Type 0) → ((y : Point) → P y ⊎ (P y → ⊥)) → Ordered (λ y. Other z y × P y) (KeyLe z)
keys_up z P t = record { test = λ x. test_both (test_lt (pos 0) (run z x)) (t x); whole = λ x y p q. key_whole z x y; through = λ x y w p q r a b. key_trans z x y w q.0 a b }

-- the highest key first
pub keys_down : (z : Point) (P : Point → Type 0) → ((y : Point) → P y ⊎ (P y → ⊥)) → Ordered (λ y. Other z y × P y) (λ x y. KeyLe z y x)
keys_down z P t = record { test = λ x. test_both (test_lt (pos 0) (run z x)) (t x); whole = λ x y p q. key_whole z y x; through = λ x y w p q r a b. key_trans z w y x q.0 b a }

-- the slope of a line through z and x is the key of x
through_above : (z x y : Point) → KeyAbove (through z x).a (through z x).b z y → (num z x *ℤ run z y) <ℤ (run z x *ℤ num z y)
through_above z x y g = rw (through_a z x, through_b z x) at g

pub through_below : (z x y : Point) → KeyBelow (through z x).a (through z x).b z y → (run z x *ℤ num z y) <ℤ (num z x *ℤ run z y)
through_below z x y g = rw (through_a z x, through_b z x) at g

-- ---- the next key on a side
pub record Next (side : Point → Type 0) (l : AnyLine) (xs : List Point) (z : Point) : Type 0 where
  pub it : Point
  pub inside : In it xs
  pub other : Other z it
  pub there : side it
  pub clear : NoKeyBetween l (through z it) xs z

abbrev pub None : (Point → Type 0) → List Point → Point → Type 0
None side xs z = (y : Point) → In y xs → Other z y → side y → ⊥

module _ (l : AnyLine) (xs : List Point) (z : Point) (a : IsRival l) where
  abbrev below : Point → Type 0
  below y = KeyBelow l.a l.b z y

  abbrev above : Point → Type 0
  above y = KeyAbove l.a l.b z y

  -- a key above the slope is above each key below it
  apart : (x y : Point) → Other z x → Other z y → below x → above y → (num z x *ℤ run z y) <ℤ (run z x *ℤ num z y)
  apart x y r q f g = cancel_lt l.a (num z x *ℤ run z y) (run z x *ℤ num z y) (omega lin) (from (prod_lt r g & prod_lt q f) (simp ring (simp flat (omega lin))))

  pub next_below : Next below l xs z ⊎ None below xs z
  next_below = elim (pick (λ y. Other z y × below y) (λ x y. KeyLe z y x) (keys_down z below (λ y. test_lt (l.a *ℤ num z y) (l.b *ℤ run z y))) xs) [
    | inl w ↦ inl (record {
      it = w.it;
      inside = w.inside;
      other = w.good.0;
      there = w.good.1;
      clear = λ y i r k. elim k [
        | inl b ↦ from (apart w.it y w.good.0 r w.good.1 b.0 & through_below z w.it y b.1) (simp ring (simp flat (omega lin)))
        | inr b ↦ from (w.least y i (r, b.0) & through_above z w.it y b.1) (simp ring (simp flat (omega lin)))
      ];
    })
    | inr n ↦ inr (λ y i r b. n y i (r, b))
  ]

  pub next_above : Next above l xs z ⊎ None above xs z
  next_above = elim (pick (λ y. Other z y × above y) (KeyLe z) (keys_up z above (λ y. test_lt (l.b *ℤ run z y) (l.a *ℤ num z y))) xs) [
    | inl w ↦ inl (record {
      it = w.it;
      inside = w.inside;
      other = w.good.0;
      there = w.good.1;
      clear = λ y i r k. elim k [
        | inl b ↦ from (w.least y i (r, b.0) & through_below z w.it y b.1) (simp ring (simp flat (omega lin)))
        | inr b ↦ from (apart y w.it r w.good.0 b.0 w.good.1 & through_above z w.it y b.1) (simp ring (simp flat (omega lin)))
      ];
    })
    | inr n ↦ inr (λ y i r b. n y i (r, b))
  ]
