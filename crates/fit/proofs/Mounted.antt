-- Where the pulls of shots balance is the balanced offset of their points, and it is the lowest of the cheapest.
use Rattle.std.proofs.Common.{◌≡◌, ℕ, zero, suc, ◌*◌, ◌<◌, ◌≤◌, true, Some, None, Option, IsSome, List, [], ◌∷◌, map, length, get_or, ℤ, pos, sum_by, sym, refl, ap, ◌∙◌, subst, mul-le-mul, arith, rules}
use lib.Signed.{le_z}
use Rattle.std.proofs.lemmas.List.{length-map}
use Rattle.std.proofs.lemmas.Int.{ints}
use Rattle.std.proofs.lemmas.List.Sums.{sum_by-cons}
use Rattle.std.proofs.lemmas.Bool.{leb-true, le-leb}
use Rattle.shots.specs.Prices.{Fair as FairRule}
use Rattle.shots.specs.declared.shot.Shot.{Shot}
use Rattle.lines.specs.Sums.{sum_z}
use Rattle.lines.proofs.Ring.{lin}
use Rattle.balance.specs.Balances.{Fair, Usable, above, upto, holds, Point, Answer}
use Rattle.balance.specs.declared.balance.Balance.{Balance}
use Rattle.balance.specs.declared.pull.Pull.{Pull}
use Rattle.theory.specs.Points.{Weighty}
use Rattle.theory.specs.Offsets.{offset, u_above, v_up_to, HoldsAt, BalancedOffset}
use Rattle.theory.proofs.Offsets.{balanced_lowest_cheapest}
use Rattle.fit.specs.Points.{point_at, point, points}
use Rattle.fit.specs.Offsets.{IsSlope, pull_at, offset_pull, LowestBest}
use Rattle.fit.proofs.Held.{not_both}
use Rattle.fit.proofs.Tests.{Source, source, in_image}

-- where an element of a list of images comes from
pub source_at : {S T : Type 0} (f : S → T) (xs : List S) (i : ℕ) (y : T) → i < length (map f xs) → y ≡ get_or (map f xs) i y → Source f xs y
source_at f [] i y h e = absurd (omega arith)
source_at f (x ∷ xs) zero y h e = record { place = 0; inside = omega arith; it = x; is = refl; image = sym e }
source_at f (x ∷ xs) (suc i) y h e =
    let s = source_at f xs i y (omega arith) e in
    record { place = suc s.place; inside = omega (arith, s.inside); it = s.it; is = s.is; image = s.image }

-- ---- one shot on either side of c
above_is : (a b c : ℤ) (z : Shot) (p : ℕ × ℕ) → pos (above le_z c (pull_at a b z p)) ≡ u_above a b c (point_at z p)
unfolding u_above offset
above_is a b c z p = grind (arith, ints)

upto_is : (a b c : ℤ) (z : Shot) (p : ℕ × ℕ) → pos (upto le_z c (pull_at a b z p)) ≡ v_up_to a b c (point_at z p)
unfolding v_up_to offset
upto_is a b c z p = grind (arith, ints)

key_is : (a b : ℤ) (z : Shot) (p : ℕ × ℕ) → offset a b (point_at z p) ≡ (pull_at a b z p).key
unfolding offset
key_is a b z p = refl

-- ---- the prices of a pull
price_low : (w p : ℕ) → 1 ≤ w → 1 ≤ p → 1 ≤ w * p
price_low w p h k = mul-le-mul h k

price_high : (w p : ℕ) → w ≤ 100 → p ≤ 20 → w * p ≤ 8000000
price_high w p h k = let m : w * p ≤ 100 * 20 = mul-le-mul h k in omega arith

module _ (tariff : ℤ → ℕ × ℕ) (a b : ℤ) where
  above_sum : (c : ℤ) (xs : List Shot) → pos (sum_by (above le_z c) (map (offset_pull tariff a b) xs)) ≡ sum_z (u_above a b c) (points tariff xs)
  above_sum c [] = refl
  above_sum c (z ∷ xs) = omega (lin, sum_by-cons (above le_z c) (offset_pull tariff a b z) (map (offset_pull tariff a b) xs), above_is a b c z (tariff (pos z.stuff)), above_sum c xs)

  upto_sum : (c : ℤ) (xs : List Shot) → pos (sum_by (upto le_z c) (map (offset_pull tariff a b) xs)) ≡ sum_z (v_up_to a b c) (points tariff xs)
  upto_sum c [] = refl
  upto_sum c (z ∷ xs) = omega (lin, sum_by-cons (upto le_z c) (offset_pull tariff a b z) (map (offset_pull tariff a b) xs), upto_is a b c z (tariff (pos z.stuff)), upto_sum c xs)

  holds_out : (xs : List Shot) (c : ℤ) → holds le_z (map (offset_pull tariff a b) xs) c ≡ true → HoldsAt a b (points tariff xs) c
  holds_out xs c h = omega (lin, above_sum c xs, upto_sum c xs, leb-true (sum_by (above le_z c) (map (offset_pull tariff a b) xs)) (sum_by (upto le_z c) (map (offset_pull tariff a b) xs)) h)

  holds_in : (xs : List Shot) (c : ℤ) → HoldsAt a b (points tariff xs) c → holds le_z (map (offset_pull tariff a b) xs) c ≡ true
  holds_in xs c h = le-leb (sum_by (above le_z c) (map (offset_pull tariff a b) xs)) (sum_by (upto le_z c) (map (offset_pull tariff a b) xs)) (omega (lin, above_sum c xs, upto_sum c xs))

  -- ---- the pulls are usable, and their balance point is the balanced offset
  pub mounted : (xs : List Shot) (c : ℤ) → Point le_z (map (offset_pull tariff a b) xs) c → BalancedOffset a b (points tariff xs) c
  mounted xs c p =
      let m = p.among in
      let s = source_at (offset_pull tariff a b) xs m.0 m.1 m.2 m.3 in
      let z = s.it in
      record {
        it = point tariff z;
        inside = in_image (point tariff) xs s.place z s.inside s.is;
        key = key_is a b z (tariff (pos z.stuff)) ∙ ap (λ q. q.key) s.image ∙ m.4;
        holds = holds_out xs c p.here;
        lowest = λ y i g h. not_both _ (holds_in xs (offset a b y) h) (p.lowest (offset a b y) (grind (arith, ints)));
      }

  fair_pull : FairRule tariff → (z : Shot) → Fair (offset_pull tariff a b z)
  fair_pull fair z =
      let late = fair.late (pos z.stuff) in
      let early = fair.early (pos z.stuff) in
      record {
        under_low = price_low _ _ z.counted late.0;
        under_high = price_high _ _ z.light late.1;
        over_low = price_low _ _ z.counted early.0;
        over_high = price_high _ _ z.light early.1;
      }

  pub usable : FairRule tariff → (xs : List Shot) → 0 < length xs → length xs ≤ 512 → Usable (map (offset_pull tariff a b) xs)
  usable fair xs some few = record {
    some = omega (arith, length-map xs (offset_pull tariff a b));
    few = omega (arith, length-map xs (offset_pull tariff a b));
    fair = λ i q h e. let s = source_at (offset_pull tariff a b) xs i q h e in subst Fair s.image (fair_pull fair s.it);
  }

  -- ---- the balanced offset is the lowest of the cheapest; that every shot costs something holds whatever the slope
  pub weighty : FairRule tariff → (xs : List Shot) → Weighty (points tariff xs)
  weighty fair xs y i =
      let s = source (point tariff) xs y i in
      let q = fair_pull fair s.it in
      subst (λ x. (1 ≤ x.u) × (1 ≤ x.v)) s.image (q.under_low, q.over_low)

  pub lowest_best : FairRule tariff → (xs : List Shot) (c : ℤ) → IsSlope a b → BalancedOffset a b (points tariff xs) c → LowestBest a b (points tariff xs) c
  lowest_best fair xs c s w k d h =
      let t = balanced_lowest_cheapest a b c (points tariff xs) s.least w k d h in
      (t.0, λ g. t.1 (weighty fair xs) g)

-- pulls that can be balanced have a balance point
pub balances : {ps : List (Pull ℤ)} (r : Option (Balance ℤ)) → Answer le_z ps r → Usable ps → IsSome r
balances (Some b) a u = search rules
balances None a u = absurd (a u)
