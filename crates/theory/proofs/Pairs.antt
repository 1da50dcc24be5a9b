-- A strictly cheaper line that runs through two speeds has fewer cheaper pairs, and each line through two speeds has fewer than there are pairs.
--   m cheaper than l, m through two speeds   ⇒  cheaper_pairs m < cheaper_pairs l;   l through two speeds  ⇒  cheaper_pairs l < n(n - 1)/2
use Rattle.std.proofs.Common.{◌≡◌, ℕ, zero, suc, ◌+◌, ◌-◌, ◌*◌, ◌/◌, ◌<◌, ◌≤◌, List, [], ◌∷◌, length, ℤ, pos, ◌+ℤ◌, ◌-ℤ◌, ◌*ℤ◌, ◌≤ℤ◌, ◌<ℤ◌, sym, refl, ap, ◌∙◌, inl, inr, arith}
use borrow.Author.Differences.{ints}
use Rattle.std.proofs.lemmas.Int.{by_lt_z}
use Rattle.lines.specs.Lines.{AnyLine, miss}
use Rattle.lines.specs.Costs.{cost}
use Rattle.lines.proofs.Ring.{lin, ring, flat, from, ◌&◌}
use Rattle.lines.proofs.Order.{prod_lt, scale, cancel_lt, weaken}
use Rattle.lines.proofs.Cost.{cost_times}
use Rattle.theory.specs.Points.{Point, miss_at, paid, total, In, On, IsRival, Cheaper, Spans}
use Rattle.theory.specs.Turning.{run, Other}
use Rattle.theory.specs.Pairs.{through, sum_n, tally, beats, cheaper_pairs}
use Rattle.theory.specs.Theorems.{TurnLowersTheCount, CountIsBounded}
use Rattle.theory.proofs.Least.{at_eq}
use Rattle.theory.proofs.Keys.{ahead, behind, run_nn}
use Rattle.theory.proofs.Turning.{balanced_spans}
use Rattle.theory.proofs.Descent.{turn_cheaper}

-- ---- sums over the pairs of places i < j
pub sum_n_le : {T : Type 0} (f g : T → ℕ) (xs : List T) → ((x : T) → f x ≤ g x) → sum_n f xs ≤ sum_n g xs
sum_n_le f g [] h = omega arith
sum_n_le f g (x ∷ xs) h = omega (arith, h x, sum_n_le f g xs h)

pub sum_n_lt : {T : Type 0} (f g : T → ℕ) (xs : List T) (z : T) → ((x : T) → f x ≤ g x) → In z xs → f z < g z → sum_n f xs < sum_n g xs
sum_n_lt f g [] z h i l = absurd i
sum_n_lt f g (x ∷ xs) z h (inl e) l = let k : f x < g x = at_eq (λ y. f y < g y) (sym e) l in omega (arith, sum_n_le f g xs h)
sum_n_lt f g (x ∷ xs) z h (inr i) l = omega (arith, h x, sum_n_lt f g xs z h i l)

tally_le : {T : Type 0} (f g : T → T → ℕ) (xs : List T) → ((x y : T) → f x y ≤ g x y) → tally f xs ≤ tally g xs
tally_le f g [] h = omega arith
tally_le f g (x ∷ xs) h = omega (arith, sum_n_le (f x) (g x) xs (h x), tally_le f g xs h)

tally_lt : {T : Type 0} (f g : T → T → ℕ) (xs : List T) (y z : T) → ((x w : T) → f x w ≤ g x w) → In y xs → In z xs → (y ≡ z → ⊥) → f y z < g y z → f z y < g z y → tally f xs < tally g xs
tally_lt f g [] y z h i j n a b = absurd i
tally_lt f g (x ∷ xs) y z h (inl e) (inl k) n a b = absurd (n (sym e ∙ k))
tally_lt f g (x ∷ xs) y z h (inl e) (inr k) n a b = let l : f x z < g x z = at_eq (λ w. f w z < g w z) (sym e) a in omega (arith, sum_n_lt (f x) (g x) xs z (h x) k l, tally_le f g xs h)
tally_lt f g (x ∷ xs) y z h (inr e) (inl k) n a b = let l : f x y < g x y = at_eq (λ w. f w y < g w y) (sym k) b in omega (arith, sum_n_lt (f x) (g x) xs y (h x) e l, tally_le f g xs h)
tally_lt f g (x ∷ xs) y z h (inr e) (inr k) n a b = omega (arith, sum_n_le (f x) (g x) xs (h x), tally_lt f g xs y z h e k n a b)

sum_n_one : {T : Type 0} (xs : List T) → sum_n (λ x. 1) xs ≡ length xs
sum_n_one [] = refl
sum_n_one (x ∷ xs) = omega (arith, sum_n_one xs)

tally_one : {T : Type 0} (xs : List T) → 2 * tally (λ x y. 1) xs + length xs ≡ length xs * length xs
tally_one [] = refl
tally_one (x ∷ xs) = omega (arith, sum_n_one xs, tally_one xs)

halves : (n t : ℕ) → 2 * t + n ≡ n * n → t ≡ n * (n - 1) / 2
halves zero t e = omega arith
halves (suc n) t e = let m : suc n - 1 ≡ n = omega arith in let k : suc n * (suc n - 1) ≡ 2 * t = ap (λ x. suc n * x) m ∙ omega arith in omega arith

tally_all : {T : Type 0} (xs : List T) → tally (λ x y. 1) xs ≡ length xs * (length xs - 1) / 2
tally_all xs = halves (length xs) (tally (λ x y. 1) xs) (tally_one xs)

-- ---- a line through two points costs what the line through them costs
same_miss : (l : AnyLine) (z y x : Point) → On l z → On l y → l.a *ℤ miss_at (through z y) x ≡ run z y *ℤ miss_at l x
unfolding miss through
same_miss l z y x o p = by_lt_z z.s y.s
    (λ g. let w = ahead z y g in rw (w.run_is, w.num_is) (from (ap (λ t. (x.s -ℤ z.s) *ℤ t) o & ap (λ t. (x.s -ℤ z.s) *ℤ t) p & ap (λ t. (y.s -ℤ z.s) *ℤ t) o) (simp ring (simp flat (omega lin)))))
    (λ g. let w = behind z y g in rw (w.run_is, w.num_is) (from (ap (λ t. (x.s -ℤ z.s) *ℤ t) o & ap (λ t. (x.s -ℤ z.s) *ℤ t) p & ap (λ t. (y.s -ℤ z.s) *ℤ t) o) (simp ring (simp flat (omega lin)))))

same_paid : (l : AnyLine) (z y x : Point) → pos 0 ≤ℤ l.a → On l z → On l y → l.a *ℤ paid (through z y) x ≡ run z y *ℤ paid l x
unfolding paid
same_paid l z y x a o p = sym (cost_times x.u x.v l.a (miss_at (through z y) x) a) ∙ (ap (cost x.u x.v) (same_miss l z y x o p) ∙ cost_times x.u x.v (run z y) (miss_at l x) (run_nn z y))

both : (a r p q t s : ℤ) → a *ℤ p ≡ r *ℤ q → a *ℤ t ≡ r *ℤ s → a *ℤ (p +ℤ t) ≡ r *ℤ (q +ℤ s)
both a r p q t s e f = from (e & f) (simp ring (simp flat (omega lin)))

same_total : (l : AnyLine) (xs : List Point) (z y : Point) → pos 0 ≤ℤ l.a → On l z → On l y → l.a *ℤ total (through z y) xs ≡ run z y *ℤ total l xs
same_total l [] z y a o p = simp ring (simp flat (omega lin))
same_total l (x ∷ xs) z y a o p = both l.a (run z y) (paid (through z y) x) (paid l x) (total (through z y) xs) (total l xs) (same_paid l z y x a o p) (same_total l xs z y a o p)

-- ---- whether a pair's line is cheaper
beats_le : (l : AnyLine) (xs : List Point) (x y : Point) → beats l xs x y ≤ 1
unfolding beats
beats_le l xs x y = grind (arith, ints)

beats_yes : (l : AnyLine) (xs : List Point) (x y : Point) → pos 0 <ℤ run x y → (l.a *ℤ total (through x y) xs) <ℤ (run x y *ℤ total l xs) → beats l xs x y ≡ 1
unfolding beats
beats_yes l xs x y r g = grind (arith, ints)

pub beats_no : (l : AnyLine) (xs : List Point) (x y : Point) → (run x y *ℤ total l xs) ≤ℤ (l.a *ℤ total (through x y) xs) → beats l xs x y ≡ 0
unfolding beats
beats_no l xs x y g = grind (arith, ints)

pub beats_same : (l : AnyLine) (xs : List Point) (x y : Point) → run x y ≤ℤ pos 0 → beats l xs x y ≡ 0
unfolding beats
beats_same l xs x y g = grind (arith, ints)

-- a fraction below a fraction below a fraction
frac_trans : (a1 t1 a2 t2 a3 t3 : ℤ) → pos 0 <ℤ a1 → pos 0 <ℤ a2 → pos 0 <ℤ a3 → (a2 *ℤ t1) <ℤ (a1 *ℤ t2) → (a3 *ℤ t2) <ℤ (a2 *ℤ t3) → (a3 *ℤ t1) <ℤ (a1 *ℤ t3)
frac_trans a1 t1 a2 t2 a3 t3 p q r g h = cancel_lt a2 (a3 *ℤ t1) (a1 *ℤ t3) q (from (prod_lt r g & prod_lt p h) (simp ring (simp flat (omega lin))))

pub beats_mono : (m l : AnyLine) (xs : List Point) → pos 0 <ℤ m.a → pos 0 <ℤ l.a → Cheaper m l xs → (x y : Point) → beats m xs x y ≤ beats l xs x y
beats_mono m l xs p q g x y =
    by_lt_z (pos 0) (run x y)
    (λ r. by_lt_z (m.a *ℤ total (through x y) xs) (run x y *ℤ total m xs)
    (λ k. rw (beats_yes l xs x y r (frac_trans (run x y) (total (through x y) xs) m.a (total m xs) l.a (total l xs) r p q k g)) (beats_le m xs x y))
    (λ k. rw (beats_no m xs x y k) (omega arith)))
    (λ r. rw (beats_same m xs x y r) (omega arith))

-- a pair on the line itself is not counted, and is counted for each line that is dearer
own : (l : AnyLine) (xs : List Point) (z y : Point) → pos 0 <ℤ l.a → On l z → On l y → beats l xs z y ≡ 0
own l xs z y a o p = let e = same_total l xs z y (weaken a) o p in beats_no l xs z y (omega lin)

pub hit : (m l : AnyLine) (xs : List Point) (z y : Point) → pos 0 <ℤ m.a → pos 0 <ℤ run z y → On m z → On m y → Cheaper m l xs → beats l xs z y ≡ 1
hit m l xs z y a r o p g = beats_yes l xs z y r
    (let e = same_total m xs z y (weaken a) o p in
    cancel_lt m.a (l.a *ℤ total (through z y) xs) (run z y *ℤ total l xs) a (from (prod_lt r g & scale l.a e) (simp ring (simp flat (omega lin)))))

-- ---- the pair of a line through two speeds, both ways round
record Pair (l : AnyLine) (xs : List Point) (w : Spans l xs) : Type 0 where
  pub there : Other w.slow w.fast
  pub back : Other w.fast w.slow
  pub differ : w.slow ≡ w.fast → ⊥

pair : (l : AnyLine) (xs : List Point) (w : Spans l xs) → Pair l xs w
pair l xs w =
    let g = w.apart in
    record {
      there = let e = (ahead w.slow w.fast g).run_is in omega lin;
      back = let e = (behind w.fast w.slow (weaken g)).run_is in omega lin;
      differ = λ e. let k : w.slow.s <ℤ w.slow.s = at_eq (λ y. w.slow.s <ℤ y.s) (sym e) g in omega lin;
    }

pub cheaper_lowers : (m l : AnyLine) (xs : List Point) → IsRival m → IsRival l → Spans m xs → Cheaper m l xs → cheaper_pairs m xs < cheaper_pairs l xs
unfolding cheaper_pairs
cheaper_lowers m l xs a b w g =
    let p : pos 0 <ℤ m.a = omega lin in
    let q : pos 0 <ℤ l.a = omega lin in
    let d = pair m xs w in
    let e1 = own m xs w.slow w.fast p w.slow_on w.fast_on in
    let e2 = own m xs w.fast w.slow p w.fast_on w.slow_on in
    let e3 = hit m l xs w.slow w.fast p d.there w.slow_on w.fast_on g in
    let e4 = hit m l xs w.fast w.slow p d.back w.fast_on w.slow_on g in
    tally_lt (beats m xs) (beats l xs) xs w.slow w.fast (beats_mono m l xs p q g) w.slow_in w.fast_in d.differ (omega arith) (omega arith)

pub turn_lowers : TurnLowersTheCount
turn_lowers l m xs z a i o f b = cheaper_lowers m l xs b.rival a (balanced_spans xs z m b i) (turn_cheaper l m xs z a o f b)

pub count_bounded : CountIsBounded
unfolding cheaper_pairs
count_bounded l xs a w =
    let p : pos 0 <ℤ l.a = omega lin in
    let d = pair l xs w in
    let e1 = own l xs w.slow w.fast p w.slow_on w.fast_on in
    let e2 = own l xs w.fast w.slow p w.fast_on w.slow_on in
    let k = tally_lt (beats l xs) (λ x y. 1) xs w.slow w.fast (beats_le l xs) w.slow_in w.fast_in d.differ (omega arith) (omega arith) in
    let e = tally_all xs in
    omega arith
