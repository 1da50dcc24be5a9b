-- A move lowers the number of places with a cheaper line through them, and is made only where there are two of them.
--   m the turned line about z, cheaper than l   ⇒  z is beaten under l and not under m, and each place beaten under m is beaten under l
use Rattle.std.proofs.Common.{◌≡◌, ℕ, ◌<◌, ◌≤◌, List, [], ◌∷◌, length, pos, ◌*ℤ◌, ◌≤ℤ◌, ◌<ℤ◌, sym, refl, ◌∙◌, subst, inl, inr, arith}
use Rattle.std.proofs.lemmas.Int.{by_lt_z}
use Rattle.lines.specs.Lines.{AnyLine}
use Rattle.lines.proofs.Ring.{lin}
use Rattle.lines.proofs.Order.{weaken}
use Rattle.theory.specs.Points.{Point, total, In, IsRival, Cheaper}
use Rattle.theory.specs.Turning.{run, Other, Balanced}
use Rattle.theory.specs.Pairs.{through, sum_n, beats}
use Rattle.theory.proofs.Least.{at_eq}
use Rattle.theory.proofs.Keys.{ahead, behind}
use Rattle.theory.proofs.Through.{through_a, through_rival, through_on}
use Rattle.theory.proofs.Pairs.{sum_n_le, sum_n_lt, beats_no, beats_same, beats_mono, hit}
use Rattle.theory.proofs.Turning.{balanced_spans_from, balanced_cheapest}
use Rattle.law.specs.Places.{beaten, cheaper_places}

-- ---- sums
sum_n_some : {T : Type 0} (f : T → ℕ) (xs : List T) (z : T) → In z xs → 1 ≤ f z → 1 ≤ sum_n f xs
sum_n_some f [] z i l = absurd i
sum_n_some f (x ∷ xs) z (inl e) l = let k : 1 ≤ f x = at_eq (λ y. 1 ≤ f y) (sym e) l in omega arith
sum_n_some f (x ∷ xs) z (inr i) l = omega (arith, sum_n_some f xs z i l)

sum_n_two : {T : Type 0} (f : T → ℕ) (xs : List T) (y z : T) → In y xs → In z xs → (y ≡ z → ⊥) → 1 ≤ f y → 1 ≤ f z → 2 ≤ sum_n f xs
sum_n_two f [] y z i j n a b = absurd i
sum_n_two f (x ∷ xs) y z (inl e) (inl k) n a b = absurd (n (sym e ∙ k))
sum_n_two f (x ∷ xs) y z (inl e) (inr k) n a b = let l : 1 ≤ f x = at_eq (λ w. 1 ≤ f w) (sym e) a in omega (arith, sum_n_some f xs z k b)
sum_n_two f (x ∷ xs) y z (inr e) (inl k) n a b = let l : 1 ≤ f x = at_eq (λ w. 1 ≤ f w) (sym k) b in omega (arith, sum_n_some f xs y e a)
sum_n_two f (x ∷ xs) y z (inr e) (inr k) n a b = omega (arith, sum_n_two f xs y z e k n a b)

sum_n_none : {T : Type 0} (f : T → ℕ) (xs : List T) → ((x : T) → f x ≡ 0) → sum_n f xs ≡ 0
sum_n_none f [] h = refl
sum_n_none f (x ∷ xs) h = omega (arith, h x, sum_n_none f xs h)

sum_n_length : {T : Type 0} (f : T → ℕ) (xs : List T) → ((x : T) → f x ≤ 1) → sum_n f xs ≤ length xs
sum_n_length f [] h = omega arith
sum_n_length f (x ∷ xs) h = omega (arith, h x, sum_n_length f xs h)

-- ---- beaten places
beaten_le : (l : AnyLine) (xs : List Point) (x : Point) → beaten l xs x ≤ 1
unfolding beaten
beaten_le l xs x = omega arith

beaten_mono : (m l : AnyLine) (xs : List Point) → pos 0 <ℤ m.a → pos 0 <ℤ l.a → Cheaper m l xs → (x : Point) → beaten m xs x ≤ beaten l xs x
unfolding beaten
beaten_mono m l xs p q g x = let k = sum_n_le (beats m xs x) (beats l xs x) xs (beats_mono m l xs p q g x) in omega arith

beaten_yes : (l : AnyLine) (xs : List Point) (x y : Point) → In y xs → beats l xs x y ≡ 1 → beaten l xs x ≡ 1
unfolding beaten
beaten_yes l xs x y i e = let k = sum_n_some (beats l xs x) xs y i (omega arith) in omega arith

beaten_no : (l : AnyLine) (xs : List Point) (x : Point) → ((y : Point) → beats l xs x y ≡ 0) → beaten l xs x ≡ 0
unfolding beaten
beaten_no l xs x h = let k = sum_n_none (beats l xs x) xs h in omega arith

pub places_bounded : (l : AnyLine) (xs : List Point) → cheaper_places l xs ≤ length xs
unfolding cheaper_places
places_bounded l xs = sum_n_length (beaten l xs) xs (beaten_le l xs)

-- the line m turned about z
module _ (m : AnyLine) (xs : List Point) (z : Point) (b : Balanced xs z m) where
  not_beaten : beaten m xs z ≡ 0
  not_beaten = beaten_no m xs z (λ y. by_lt_z (pos 0) (run z y)
      (λ r. beats_no m xs z y (subst (λ a. (a *ℤ total m xs) ≤ℤ (m.a *ℤ total (through z y) xs)) (through_a z y) (balanced_cheapest xs z m b (through z y) (through_rival z y r) (through_on z y))))
      (λ r. beats_same m xs z y r))

  run_back : (y : Point) → Other z y → Other y z
  run_back y r = by_lt_z z.s y.s
      (λ g. let e = (behind y z (weaken g)).run_is in let f = (ahead z y g).run_is in omega lin)
      (λ g. let f = (behind z y g).run_is in let h : y.s <ℤ z.s = omega lin in let e = (ahead y z h).run_is in omega lin)

  differ : (y : Point) → Other z y → z ≡ y → ⊥
  differ y r e = let k : Other z z = at_eq (λ x. Other z x) (sym e) r in let f = (behind z z (omega lin)).run_is in omega lin

pub record Falls (m l : AnyLine) (xs : List Point) : Type 0 where
  pub two : 2 ≤ cheaper_places l xs
  pub fewer : cheaper_places m xs < cheaper_places l xs

pub places_fall : (m l : AnyLine) (xs : List Point) (z : Point) → IsRival l → In z xs → Balanced xs z m → Cheaper m l xs → Falls m l xs
unfolding cheaper_places
places_fall m l xs z a i b g =
    let rv = b.rival in
    let p : pos 0 <ℤ m.a = omega lin in
    let q : pos 0 <ℤ l.a = omega lin in
    let w = balanced_spans_from xs z m b in
    let y = w.it in
    let h1 = beaten_yes l xs z y w.inside (hit m l xs z y p w.other w.on w.it_on g) in
    let h2 = beaten_yes l xs y z i (hit m l xs y z p (run_back m xs z b y w.other) w.it_on w.on g) in
    let h3 = not_beaten m xs z b in
    record {
      two = sum_n_two (beaten l xs) xs z y i w.inside (differ m xs z b y w.other) (omega arith) (omega arith);
      fewer = sum_n_lt (beaten m xs) (beaten l xs) xs z (beaten_mono m l xs p q g) i (omega arith);
    }
