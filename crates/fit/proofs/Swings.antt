-- The answer to a turn: the line at the balance slope, and what it says of a line on which the shot has a rate below 0.
use Rattle.std.proofs.Common.{◌≡◌, ℕ, List, [], ◌∷◌, get_or, ℤ, pos, nat_abs, ◌≤ℤ◌, Some, None, Option, refl, ap, ◌∙◌, subst, inl, inr, ⊎_elim, arith}
use Rattle.std.proofs.lemmas.Int.{ints}
use Rattle.shots.specs.Prices.{Fair as FairRule}
use Rattle.shots.specs.declared.shot.Shot.{Shot}
use Rattle.lines.specs.About.{About}
use Rattle.lines.specs.Lines.{any, On}
use Rattle.lines.specs.SlopeOrder.{slope_le}
use Rattle.lines.specs.declared.line.Line.{Line}
use Rattle.lines.specs.declared.slope.Slope.{Slope}
use Rattle.racks.specs.Racks.{Holds}
use Rattle.theory.specs.Points.{Point, In, Cheaper}
use Rattle.theory.specs.Rates.{rise_part, fall_part, rise_of, fall_of, Failing}
use Rattle.theory.specs.Turning.{run, Other, Turned}
use Rattle.theory.proofs.Descent.{turn_cheaper}
use Rattle.theory.proofs.Members.{sum_in_nn}
use Rattle.theory.proofs.Turning.{turn_lowest_cheapest, rise_term_nn, fall_term_nn}
use Rattle.balance.specs.Balances.{Point as BalancePoint}
use Rattle.balance.specs.declared.pull.Pull.{Pull}
use Rattle.fit.specs.Points.{point, points}
use Rattle.fit.specs.Turning.{Pulls, TurnedAbout, TurnedAt, Descends, LowestAt}
use Rattle.fit.proofs.Held.{one_at, held_below}
use Rattle.fit.proofs.Mounted.{weighty}
use Rattle.fit.proofs.Weighing.{slope_fits, balanced, same_run}

-- ---- the answer
pub turned_about : (tariff : ℤ → ℕ × ℕ) (z : Shot) (xs : List Shot) (ps : List (Pull Slope)) → Pulls tariff z xs ps → (t : Slope) → BalancePoint slope_le ps t → (r : Option Line) → About z t r → TurnedAbout tariff xs z r
turned_about tariff z xs ps k t c (Some l) h = balanced tariff z xs ps k t c l h.0 h.1 h.2
turned_about tariff z xs ps k t c None h = absurd (h (slope_fits tariff z xs ps k t c))

pub turned_at : (tariff : ℤ → ℕ × ℕ) (xs : List Shot) (p : ℤ) (z : Shot) → Holds xs p → z ≡ get_or xs (nat_abs p) z → (r : Option Line) → TurnedAbout tariff xs z r → TurnedAt tariff xs p r
turned_at tariff xs p z h e (Some m) b = (z, h, e, b)
turned_at tariff xs p z h e None s =
    λ y _ f x i. s x i ∙ ap (λ (t : Shot). t.speed) (one_at xs (nat_abs p) z y (held_below xs p h) e f)

-- ---- where all shots have the speed of z, no rate of z is below 0
no_other : (tariff : ℤ → ℕ × ℕ) (z : Shot) (xs : List Shot) → ((y : Shot) → In y xs → y.speed ≡ z.speed) → (y : Point) → In y (points tariff xs) → Other (point tariff z) y → ⊥
no_other tariff z [] h y i o = absurd i
no_other tariff z (x ∷ xs) h y (inl e) o =
    let s = same_run tariff z x (h x (inl refl)) in
    let r : run (point tariff z) (point tariff x) ≡ run (point tariff z) y = ap (run (point tariff z)) e in
    omega (arith, ints)
no_other tariff z (x ∷ xs) h y (inr i) o = no_other tariff z xs (λ w j. h w (inr j)) y i o

no_fail : (tariff : ℤ → ℕ × ℕ) (z : Shot) (xs : List Shot) (l : Line) → ((y : Shot) → In y xs → y.speed ≡ z.speed) → On l z → Failing (any l) (points tariff xs) (point tariff z) → ⊥
no_fail tariff z xs l h on f =
    let n = no_other tariff z xs h in
    let rise : pos 0 ≤ℤ rise_of (any l) (points tariff xs) (point tariff z) = sum_in_nn (rise_part (any l) (point tariff z)) (points tariff xs) (λ y i. rise_term_nn (any l) (point tariff z) y on (λ o _. n y i o)) in
    let fall : pos 0 ≤ℤ fall_of (any l) (points tariff xs) (point tariff z) = sum_in_nn (fall_part (any l) (point tariff z)) (points tariff xs) (λ y i. fall_term_nn (any l) (point tariff z) y on (λ o _. n y i o)) in
    ⊎_elim (λ r. omega (arith, ints, rise, r)) (λ r. omega (arith, ints, fall, r)) f

-- ---- the turned line against the line before
descends_about : (tariff : ℤ → ℕ × ℕ) (xs : List Shot) (z : Shot) (r : Option Line) → TurnedAbout tariff xs z r → (l : Line) → On l z → Failing (any l) (points tariff xs) (point tariff z) → (m : Line) × (r ≡ Some m) × Cheaper (any m) (any l) (points tariff xs) × Turned (points tariff xs) (point tariff z) (any m)
descends_about tariff xs z (Some m) b l on f = (
  m,
  refl,
  turn_cheaper (any l) (any m) (points tariff xs) (point tariff z) l.ahead on f b,
  turn_lowest_cheapest (any m) (points tariff xs) (point tariff z) b,
)
descends_about tariff xs z None s l on f = absurd (no_fail tariff z xs l s on f)

-- ---- what is said of the shot that was read holds of each shot at that place
module _ (tariff : ℤ → ℕ × ℕ) (xs : List Shot) (p : ℤ) (z : Shot) (h : Holds xs p) (e : z ≡ get_or xs (nat_abs p) z) (r : Option Line) (b : TurnedAbout tariff xs z r) where
  about : (y : Shot) → y ≡ get_or xs (nat_abs p) y → TurnedAbout tariff xs y r
  about y f = subst (λ t. TurnedAbout tariff xs t r) (one_at xs (nat_abs p) z y (held_below xs p h) e f) b

  pub descends : Descends tariff xs p r
  descends y _ f = descends_about tariff xs y r (about y f)

  pub lowest_at : FairRule tariff → LowestAt tariff xs p r
  lowest_at fair y _ f m is =
      (turn_lowest_cheapest (any m) (points tariff xs) (point tariff y) (subst (TurnedAbout tariff xs y) is (about y f))).lowest (weighty tariff (pos 1) (pos 0) fair xs)
