-- Two shots of one speed: the refused pivot, the add of another speed with the two pivots after it, and the mounts.
use Rattle.std.proofs.Common.{◌≡◌, List, ℤ, pos, ◌<ℤ◌, sym, refl, ap, ◌∙◌, inl, inr, arith}
use native.Mathlib.Nat.{dvd_refl, dvd-zero}
use Rattle.std.proofs.lemmas.Int.{ints}
use Rattle.shots.specs.Prices.{even}
use Rattle.shots.specs.declared.shot.Shot.{Shot}
use Rattle.shots.specs.declared.refusal.Refusal.TheVariants.{OneSpeed as OneSpeedRefusal}
use Rattle.lines.specs.Costs.{cost}
use Rattle.lines.specs.Lines.{any, miss}
use Rattle.theory.specs.Points.{Point}
use Rattle.theory.specs.Offsets.{offset, u_above, v_up_to, HoldsAt, BalancedOffset}
use Rattle.theory.specs.Rates.{rise_part, fall_part, Passes as TestPasses}
use Rattle.fit.specs.Points.{point, points}
use Rattle.fit.specs.First.{OneSpeed, LaidFirst}
use Rattle.fit.specs.Offsets.{IsSlope}
use Rattle.fit.specs.Totals.{paid, total_of}
use Rattle.law.specs.declared.stage.Stage.TheVariants.{Bare, Trying, InForce}
use Rattle.law.specs.declared.kinds.Call.TheVariants.{Pivot, Mount}
use Rattle.law.specs.declared.kinds.Word.TheVariants.{Laid, Proved}
use Rattle.law.specs.declared.kinds.Reply.TheVariants.{Mounted, Refused}
use Rattle.law.specs.Turns.{Turn}
use Rattle.cases.specs.Examples.{at1000, above1000, at2000, one_speed, two_speeds, level, late_thrice, sheet_at, sheet, told}
use Rattle.cases.proofs.Each.{each, firsts}
use Rattle.cases.proofs.Testing.{passes, fine}

-- ---- the refused pivot
one_speed_lem : OneSpeed one_speed
one_speed_lem x h e j y i ey = firsts (λ z. z.speed ≡ 1000) one_speed 2 (refl, (refl, tt)) j y i ey ∙ sym (ap (λ (z : Shot). z.speed) e)

pub refuses : Turn Pivot (Refused OneSpeedRefusal) (sheet one_speed Bare) (sheet one_speed Bare)
refuses = record { room = refl; prices = refl; turned = (refl, (refl, refl, one_speed_lem, refl)) }

-- ---- the two pivots after the add of another speed
level_total : pos 10 ≡ total_of even level two_speeds
unfolding paid cost miss
level_total = refl

level_first : LaidFirst two_speeds level
level_first = record {
  first = at1000;
  first_is = refl;
  place = 2;
  inside = omega arith;
  other = at2000;
  other_is = refl;
  before = firsts (λ y. y.speed ≡ 1000) two_speeds 2 (refl, (refl, tt));
  laid = inl (record {
    slower = omega arith;
    divisor = 1000;
    common = record { left = dvd-zero 1000; right = dvd_refl 1000; greatest = λ d p q. q };
    a = refl;
    b = refl;
    c = refl;
  });
}

pub lays_level : Turn Pivot (told Laid level (pos 10)) (sheet two_speeds Bare) (sheet two_speeds (Trying level))
lays_level = record { room = refl; prices = refl; turned = (refl, (level_total, (level_first, refl))) }

level_passes : TestPasses (any level) (points even two_speeds)
unfolding miss rise_part fall_part
level_passes = passes level two_speeds (fine (record { le = tt }) (record { le = tt }), (λ on. omega (arith, ints), (fine (record { le = tt }) (record { le = tt }), tt)))

pub proves_level : Turn Pivot (told Proved level (pos 10)) (sheet two_speeds (Trying level)) (sheet two_speeds (InForce level))
proves_level = record { room = refl; prices = refl; turned = (refl, (level_total, (level_passes, refl, refl))) }

-- ---- the mounts
level_slope : IsSlope (pos 1) (pos 0)
level_slope = record { least = record { le = tt }; most = record { le = tt }; fall = record { le = tt }; rise = record { le = tt } }

-- below c no key of a point has the pulls in balance
abbrev Unbalanced : List Point → ℤ → Point → Type 0
Unbalanced xs c y = offset (pos 1) (pos 0) y <ℤ c → HoldsAt (pos 1) (pos 0) xs (offset (pos 1) (pos 0) y) → ⊥

at_0 : BalancedOffset (pos 1) (pos 0) (points even one_speed) (pos 0)
unfolding offset u_above v_up_to
at_0 = record {
  it = point even at1000;
  inside = inl refl;
  key = refl;
  holds = record { le = tt };
  lowest = each (Unbalanced (points even one_speed) (pos 0)) (points even one_speed) (λ k h. absurd k.lt, (λ k h. absurd k.lt, tt));
}

at_10 : BalancedOffset (pos 1) (pos 0) (points late_thrice one_speed) (pos 10)
unfolding offset u_above v_up_to
at_10 = record {
  it = point late_thrice above1000;
  inside = inr (inl refl);
  key = refl;
  holds = record { le = tt };
  lowest = each (Unbalanced (points late_thrice one_speed) (pos 10)) (points late_thrice one_speed) (λ k h. absurd h.le, (λ k h. absurd k.lt, tt));
}

pub mounts_at_0 : Turn (Mount (pos 1) (pos 0)) (Mounted (pos 0)) (sheet one_speed Bare) (sheet one_speed Bare)
mounts_at_0 = record { room = refl; prices = refl; turned = ((level_slope, at_0), (refl, refl)) }

pub mounts_at_10 : Turn (Mount (pos 1) (pos 0)) (Mounted (pos 10)) (sheet_at late_thrice one_speed Bare) (sheet_at late_thrice one_speed Bare)
mounts_at_10 = record { room = refl; prices = refl; turned = ((level_slope, at_10), (refl, refl)) }
