-- The five shots: the level line, which is not the cheapest, the three pivots that bring a line into force, and what a
-- strike does to that line.
use Rattle.std.proofs.Common.{◌≡◌, List, pos, negsuc, sym, refl, ◌∙◌, inl, inr, arith, Some, None, Option, ℕ}
use native.Mathlib.Nat.{dvd_refl, dvd-mul_right}
use Rattle.std.proofs.lemmas.Int.{ints}
use Rattle.shots.specs.Prices.{even}
use Rattle.shots.specs.declared.shot.Shot.{Shot}
use Rattle.lines.specs.Costs.{cost}
use Rattle.lines.specs.Lines.{any, miss, On}
use Rattle.lines.specs.declared.line.Line.{Line}
use Rattle.theory.specs.Points.{Point, Cheapest, Spans, miss_at}
use Rattle.theory.specs.Rates.{rise_part, fall_part, Passes as TestPasses}
use Rattle.theory.specs.Turning.{run, num, Other, KeyBelow, Holds, pull_p, pull_q, p_above, q_up_to, Balanced}
use Rattle.theory.proofs.Descent.{test_exact}
use Rattle.fit.specs.Points.{point, points}
use Rattle.fit.specs.First.{LaidFirst}
use Rattle.fit.specs.Rates.{fall_at}
use Rattle.fit.specs.Spanning.{Member, TwoSpeeds}
use Rattle.fit.specs.Testing.{First, Fails}
use Rattle.fit.specs.Totals.{paid, total_of}
use Rattle.law.specs.declared.stage.Stage.TheVariants.{Bare, Trying, InForce}
use Rattle.law.specs.declared.kinds.Call.TheVariants.{Strike, Pivot}
use Rattle.law.specs.declared.kinds.Word.TheVariants.{Laid, Moved, Proved}
use Rattle.law.specs.declared.kinds.Reply.TheVariants.{Done}
use Rattle.law.specs.Turns.{Turn}
use Rattle.cases.specs.Examples.{at500, at1000, at2000, at3000, at3500, five_shots, without2000, without500, last_three, level, steep, gentle, sheet, told}
use Rattle.cases.proofs.Each.{each, firsts}
use Rattle.cases.proofs.Testing.{passes, fine}

-- ---- the level line
pub costs : total_of even level five_shots ≡ pos 40
unfolding paid cost miss
costs = refl

pub fall_1000 : fall_at even level five_shots at1000 ≡ pos 0
unfolding fall_part miss
fall_1000 = refl

pub fall_2000 : fall_at even level five_shots at2000 ≡ negsuc 999
unfolding fall_part miss
fall_2000 = refl

pub fall_3000 : fall_at even level five_shots at3000 ≡ pos 0
unfolding fall_part miss
fall_3000 = refl

pub two : Spans (any level) (points even five_shots)
unfolding miss
two = record {
  slow = point even at1000;
  fast = point even at3000;
  slow_in = inr (inl refl);
  fast_in = inr (inr (inr (inl refl)));
  slow_on = refl;
  fast_on = refl;
  apart = record { lt = tt };
}

on_2000 : miss_at (any level) (point even at2000) ≡ pos 0
unfolding miss
on_2000 = refl

pub not_best : Cheapest (any level) (points even five_shots) → ⊥
not_best b =
    let p = (test_exact (any level) (points even five_shots) (record { le = tt }) two).1 b (point even at2000) (inr (inr (inl refl))) on_2000 in
    omega (arith, ints, p.fall, fall_2000)

-- ---- the first pivot
steep_total : pos 5000 ≡ total_of even steep five_shots
unfolding paid cost miss
steep_total = refl

steep_first : LaidFirst five_shots steep
steep_first = record {
  first = at500;
  first_is = refl;
  place = 1;
  inside = omega arith;
  other = at1000;
  other_is = refl;
  before = firsts (λ y. y.speed ≡ 500) five_shots 1 (refl, tt);
  laid = inl (record {
    slower = omega arith;
    divisor = 20;
    common = record { left = dvd_refl 20; right = dvd-mul_right 20 25; greatest = λ d p q. p };
    a = refl;
    b = refl;
    c = refl;
  });
}

pub lays : Turn Pivot (told Laid steep (pos 5000)) (sheet five_shots Bare) (sheet five_shots (Trying steep))
lays = record { room = refl; prices = refl; turned = (refl, (steep_total, (steep_first, refl))) }

-- ---- the second
gentle_total : pos 2000 ≡ total_of even gentle five_shots
unfolding paid cost miss
gentle_total = refl

steep_fails : First even steep five_shots 0
unfolding miss rise_part fall_part
steep_fails = record {
  inside = omega arith;
  shot = at500;
  is = refl;
  fails = (refl, inl (record { lt = tt }));
  before = firsts _ five_shots 0 tt;
}

-- below the slope b / a no key of a point has the pulls in balance
abbrev Unbalanced : Line → List Point → Point → Point → Type 0
Unbalanced l xs z y = Other z y → KeyBelow l.a l.b z y → Holds xs z (run z y) (num z y) → ⊥

about_500 : Balanced (points even five_shots) (point even at500) (any gentle)
unfolding miss run num pull_p pull_q p_above q_up_to
about_500 = record {
  rival = record { le = tt };
  on = refl;
  it = point even at2000;
  inside = inr (inr (inl refl));
  other = record { lt = tt };
  key = refl;
  holds = record { le = tt };
  lowest = each (Unbalanced gentle (points even five_shots) (point even at500)) (points even five_shots) (λ o k h. absurd o.lt, (λ o k h. absurd h.le, (λ o k h. absurd k.lt, (λ o k h. absurd k.lt, (λ o k h. absurd k.lt, tt)))));
}

pub moves : Turn Pivot (told Moved gentle (pos 2000)) (sheet five_shots (Trying steep)) (sheet five_shots (Trying gentle))
moves = record { room = refl; prices = refl; turned = (refl, (gentle_total, (0, steep_fails, (at500, (record { le = tt }, record { lt = tt }), refl, about_500), refl))) }

-- ---- the third
five_pass : TestPasses (any gentle) (points even five_shots)
unfolding miss rise_part fall_part
five_pass = passes gentle five_shots (fine (record { le = tt }) (record { le = tt }), (λ on. omega (arith, ints), (fine (record { le = tt }) (record { le = tt }), (λ on. omega (arith, ints), (fine (record { le = tt }) (record { le = tt }), tt)))))

pub proves : Turn Pivot (told Proved gentle (pos 2000)) (sheet five_shots (Trying gentle)) (sheet five_shots (InForce gentle))
proves = record { room = refl; prices = refl; turned = (refl, (gentle_total, (five_pass, refl, refl))) }

-- ---- the strike after which the line is still best
four_two : TwoSpeeds gentle without2000
unfolding miss
four_two = record {
  one = at500;
  two = at3500;
  one_in = record { place = 0; inside = omega arith; is = refl };
  two_in = record { place = 3; inside = omega arith; is = refl };
  one_on = refl;
  two_on = refl;
  apart = λ e. omega arith;
}

four_pass : TestPasses (any gentle) (points even without2000)
unfolding miss rise_part fall_part
four_pass = passes gentle without2000 (fine (record { le = tt }) (record { le = tt }), (λ on. omega (arith, ints), (λ on. omega (arith, ints), (fine (record { le = tt }) (record { le = tt }), tt))))

pub keeps : Turn (Strike (pos 2)) Done (sheet five_shots (InForce gentle)) (sheet without2000 (InForce gentle))
keeps = record { room = refl; prices = refl; turned = ((record { le = tt }, record { lt = tt }), (refl, inl (four_two, (None, four_pass, refl)))) }

-- ---- the strike after which a cheaper line exists, and the pivot that moves to it
without500_two : TwoSpeeds gentle without500
unfolding miss
without500_two = record {
  one = at2000;
  two = at3500;
  one_in = record { place = 1; inside = omega arith; is = refl };
  two_in = record { place = 3; inside = omega arith; is = refl };
  one_on = refl;
  two_on = refl;
  apart = λ e. omega arith;
}

gentle_fails : First even gentle without500 1
unfolding miss rise_part fall_part
gentle_fails = record {
  inside = omega arith;
  shot = at2000;
  is = refl;
  fails = (refl, inl (record { lt = tt }));
  before = firsts (λ y. Fails even gentle without500 y → ⊥) without500 1 (λ f. let on = f.0 in omega (arith, ints), tt);
}

pub unsettles : Turn (Strike (pos 0)) Done (sheet five_shots (InForce gentle)) (sheet without500 (Trying gentle))
unsettles = record { room = refl; prices = refl; turned = ((record { le = tt }, record { lt = tt }), (refl, inl (without500_two, (Some 1, gentle_fails, refl)))) }

level_total : pos 20 ≡ total_of even level without500
unfolding paid cost miss
level_total = refl

about_2000 : Balanced (points even without500) (point even at2000) (any level)
unfolding miss run num pull_p pull_q p_above q_up_to
about_2000 = record {
  rival = record { le = tt };
  on = refl;
  it = point even at1000;
  inside = inl refl;
  other = record { lt = tt };
  key = refl;
  holds = record { le = tt };
  lowest = each (Unbalanced level (points even without500) (point even at2000)) (points even without500) (λ o k h. absurd k.lt, (λ o k h. absurd o.lt, (λ o k h. absurd k.lt, (λ o k h. absurd h.le, tt))));
}

pub moves_to_level : Turn Pivot (told Moved level (pos 20)) (sheet without500 (Trying gentle)) (sheet without500 (Trying level))
moves_to_level = record { room = refl; prices = refl; turned = (refl, (level_total, (1, gentle_fails, (at2000, (record { le = tt }, record { lt = tt }), refl, about_2000), refl))) }

-- ---- the strike after which one speed is left on the line
three_on : (z : Shot) → Member last_three z → On gentle z → z.speed ≡ 3500
unfolding miss
three_on z m = firsts (λ y. On gentle y → y.speed ≡ 3500) last_three 3 (λ on. omega (arith, ints), (λ on. omega (arith, ints), (λ on. refl, tt))) m.place z m.inside m.is

three_not : TwoSpeeds gentle last_three → ⊥
three_not t = t.apart (three_on t.one t.one_in t.one_on ∙ sym (three_on t.two t.two_in t.two_on))

pub unseats : Turn (Strike (pos 0)) Done (sheet without2000 (InForce gentle)) (sheet last_three Bare)
unseats = record { room = refl; prices = refl; turned = ((record { le = tt }, record { lt = tt }), (refl, inr (three_not, refl))) }
