-- Slopes are in total order by their values, in which only identical slopes are equal. (Lemmas that stand here because ghost members cite them.)
-- Assumes nothing.
use Rattle.std.specs.Prelude.{◌≡◌, Bool, true, ℤ, pos, ◌*ℤ◌, ◌<ℤ◌, Decides}
use Rattle.std.specs.Bool.{one_answer}
use Rattle.std.specs.Cmp.{IsTotalOrder, Agrees, strict, int_ranks, first_so, second_so, and_equiv, on_equiv, int_eq_equiv, signed_Decides}
use Rattle.std.specs.declared.cmp.Ordering.{Ordering}
use Rattle.std.specs.declared.cmp.Ordering.TheVariants.{Less, Equal, Greater}
use Rattle.std.specs.Ordering.{MatchOrdering, is_eq, int_eq, eq_by_cmp, as_partial_cmp, on, eq_of_both}
use Rattle.std.proofs.Common.{ℕ, ◌+◌, ◌*◌, ◌<◌, nat_abs, negsuc, refl, ap, subst, mul_comm, add-mul, mul-add, arith}
use Rattle.std.proofs.Math.Nat.{mul_assoc, mul_left_comm, mul-lt-mul_of_pos_right, lt_of_mul-lt-mul_left}
use Rattle.std.proofs.lemmas.Int.{ints}
use borrow.Author.Differences.{up, down}
use mathlib.Core.Path.{to_path_p}
use native.Mathlib.Nat.{ℕ_set}
use lib.Dec.{T_prop}
use lib.Signed.{lt_z}
use Rattle.lines.specs.Divisors.{Coprime}
use Rattle.lines.specs.LowestTerms.{same_slope}
use Rattle.lines.specs.SlopeOrder.{slope_cmp}
use Rattle.lines.specs.declared.slope.Slope.{Slope}

lt_prop : {a b : ℤ} (p q : a <ℤ b) → p ≡ q
lt_prop {a} {b} p q = λ i. record { lt = T_prop (lt_z a b) p.lt q.lt i }

pub coprime_prop : {a b : ℕ} (p q : Coprime a b) → p ≡ q
coprime_prop p q = λ i d u v. ℕ_set _ _ (p d u v) (q d u v) i

-- a slope's ghost fields have one proof at most
pub same_slopes : (x y : Slope) → x.rise ≡ y.rise → x.run ≡ y.run → x ≡ y
same_slopes x y e f =
    λ i. record {
      rise = e i;
      run = f i;
      ahead = to_path_p (λ j. pos 0 <ℤ f j) {a = x.ahead} {b = y.ahead} (lt_prop _ _) i;
      lowest = to_path_p (λ j. Coprime (nat_abs (e j)) (nat_abs (f j))) {a = x.lowest} {b = y.lowest} (coprime_prop _ _) i;
    }

abbrev Below : Slope → Slope → Type 0
Below x y = (x.rise *ℤ y.run) <ℤ (y.rise *ℤ x.run)

-- fractions (p - q) / b, (r - s) / d and (t - u) / f
ruleset products = (add-mul, mul-add, mul_assoc, mul_comm, mul_left_comm)

cleared : (p q b r s d t u f : ℕ) → (p * d + s * b) * f < (r * b + q * d) * f → (r * f + u * d) * b < (t * d + s * f) * b → d * (p * f + u * b) < d * (t * b + q * f)
cleared p q b r s d t u f = simp products (omega arith)

chain : (p q b r s d t u f : ℕ) → 0 < b → 0 < f → p * d + s * b < r * b + q * d → r * f + u * d < t * d + s * f → p * f + u * b < t * b + q * f
chain p q b r s d t u f hb hf h k =
    lt_of_mul-lt-mul_left d (cleared p q b r s d t u f (mul-lt-mul_of_pos_right h hf) (mul-lt-mul_of_pos_right k hb))

below_chain : (x y z : Slope) → Below x y → Below y z → Below x z
below_chain x y z = go x.rise x.run y.rise y.run z.rise z.run x.ahead y.ahead z.ahead
  where
    go : (a b c d e f : ℤ) → pos 0 <ℤ b → pos 0 <ℤ d → pos 0 <ℤ f → (a *ℤ d) <ℤ (c *ℤ b) → (c *ℤ f) <ℤ (e *ℤ d) → (a *ℤ f) <ℤ (e *ℤ b)
    go a (pos b) c (pos d) e (pos f) hb hd hf h k =
        omega (arith, ints, chain (up a) (down a) b (up c) (down c) d (up e) (down e) f (omega (arith, ints)) (omega (arith, ints)) (omega (arith, ints)) (omega (arith, ints)))
    go a (negsuc b) c d e f hb hd hf h k = absurd hb.lt
    go a (pos b) c (negsuc d) e f hb hd hf h k = absurd hd.lt
    go a (pos b) c (pos d) e (negsuc f) hb hd hf h k = absurd hf.lt

-- slopes of one value are identical
pub same_value : (x y : Slope) → x.rise *ℤ y.run ≡ y.rise *ℤ x.run → x ≡ y
same_value x y e =
    let r = same_slope x.rise x.run y.rise y.run x.ahead y.ahead e x.lowest y.lowest in same_slopes x y r.0 r.1

ranks : (x y : Slope) (o : Ordering) → MatchOrdering o (Below x y) (x.rise *ℤ y.run ≡ y.rise *ℤ x.run) (Below y x) → MatchOrdering o (Below x y) (x ≡ y) (Below y x)
ranks x y Less h = h
ranks x y Equal h = same_value x y h
ranks x y Greater h = h

pub slope_total : IsTotalOrder slope_cmp
slope_total =
    strict Below (λ x h. omega (arith, ints)) below_chain slope_cmp
    (λ x y. ranks x y (slope_cmp x y) (int_ranks (x.rise *ℤ y.run) (y.rise *ℤ x.run)))

pub slope_agrees : Agrees (as_partial_cmp slope_cmp) slope_cmp
slope_agrees x y = refl

-- what the derived `eq` answers
abbrev same : Slope → Slope → Bool
same = eq_of_both (on (λ s. s.rise) int_eq) (on (λ s. s.run) int_eq)

same_itself : (x : Slope) → same x x ≡ true
same_itself = (and_equiv (on_equiv (λ (s : Slope). s.rise) int_eq_equiv) (on_equiv (λ (s : Slope). s.run) int_eq_equiv)).refl

same_is : (x y : Slope) → Decides (same x y) (x ≡ y)
same_is x y =
    let up = int_eq x.rise y.rise in
    let along = int_eq x.run y.run in (
      λ e. same_slopes x y ((signed_Decides x.rise y.rise).0 (first_so up along e)) ((signed_Decides x.run y.run).0 (second_so up along e)),
      λ e. subst (λ z. same x z ≡ true) e (same_itself x),
    )

level_is : (x y : Slope) → Decides (eq_by_cmp slope_cmp x y) (x ≡ y)
level_is x y =
    let d = signed_Decides (x.rise *ℤ y.run) (y.rise *ℤ x.run) in
    (λ e. same_value x y (d.0 e), λ e. d.1 (subst (λ z. x.rise *ℤ z.run ≡ z.rise *ℤ x.run) e refl))

pub slope_ties : (x y : Slope) → same x y ≡ eq_by_cmp slope_cmp x y
slope_ties x y = one_answer (same x y) (eq_by_cmp slope_cmp x y) (same_is x y) (level_is x y)

pub slope_only : (x y : Slope) → slope_cmp x y ≡ Equal → x ≡ y
slope_only x y e = (level_is x y).0 (ap is_eq e)
