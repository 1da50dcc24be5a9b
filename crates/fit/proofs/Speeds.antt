-- Two speeds on a line, by places and as points.
use Rattle.std.proofs.Common.{◌≡◌, ℕ, ◌<◌, Bool, true, false, List, length, ℤ, pos, Some, None, Option, MatchOption, Decides, sym, refl, ap, ◌∙◌, subst, ⊎_elim, arith}
use Rattle.std.proofs.lemmas.Int.{ints}
use Rattle.std.proofs.lemmas.Bool.{cases_lt}
use Rattle.std.specs.Bool.{MatchBool}
use Rattle.std.specs.List.{AllWithin, HoldsAt}
use Rattle.shots.specs.declared.shot.Shot.{Shot}
use Rattle.lines.specs.Lines.{any, On}
use Rattle.lines.specs.declared.line.Line.{Line}
use Rattle.theory.specs.Points.{Point, Spans, On as OnPoint}
use Rattle.fit.specs.Points.{point, points}
use Rattle.fit.specs.Spanning.{Member, NoneOn, SpeedOn, OnOther, TwoSpeeds, SpansAll}
use Rattle.fit.proofs.Held.{each_within, one_within, not_both}
use Rattle.fit.proofs.Tests.{source, in_image}

module _ (l : Line) (xs : List Shot) where
  -- whether some place has a shot on the line at another speed
  pub other_on : (v : ℕ) (r : Bool) → MatchBool r ((k : ℕ) × (k < length xs) × HoldsAt (λ y. On l y × (y.speed ≡ v → ⊥)) xs k) (AllWithin (λ y. On l y × (y.speed ≡ v → ⊥) → ⊥) xs 0 (length xs)) → Decides r (OnOther l xs v)
  other_on v true h =
      let x = one_within (λ y. On l y × (y.speed ≡ v → ⊥)) xs h.0 h.1 h.2 in
      (λ _. record { shot = x.0; member = record { place = h.0; inside = h.1; is = x.1 }; on = x.2.0; other = x.2.1 }, λ _. refl)
  other_on v false h =
      (λ e. absurd (not_both false e refl), λ o. absurd (each_within (λ y. On l y × (y.speed ≡ v → ⊥) → ⊥) xs (length xs) h o.member.place o.shot o.member.inside o.member.is (o.on, o.other)))

  -- a shot of some speed on the line, and one of another
  pub two_from : (v : ℕ) → SpeedOn l xs v → OnOther l xs v → TwoSpeeds l xs
  two_from v a b = record {
    one = a.shot;
    two = b.shot;
    one_in = a.member;
    two_in = b.member;
    one_on = a.on;
    two_on = b.on;
    apart = λ e. b.other (sym e ∙ a.speed);
  }

  -- of two speeds on the line one differs from v
  pub one_other : (v : ℕ) → TwoSpeeds l xs → OnOther l xs v
  one_other v t =
      ⊎_elim (λ h. first (omega arith))
      (λ h. ⊎_elim (λ k. first (omega arith)) (λ k. second (λ e. t.apart (omega arith))) (cases_lt v t.one.speed))
      (cases_lt t.one.speed v)
    where
      first : ((t.one.speed ≡ v) → ⊥) → OnOther l xs v
      first n = record { shot = t.one; member = t.one_in; on = t.one_on; other = n }

      second : ((t.two.speed ≡ v) → ⊥) → OnOther l xs v
      second n = record { shot = t.two; member = t.two_in; on = t.two_on; other = n }

  pub two_points : (tariff : ℤ → ℕ × ℕ) → TwoSpeeds l xs → Spans (any l) (points tariff xs)
  two_points tariff t =
      ⊎_elim (λ h. order t.one t.two t.one_in t.two_in t.one_on t.two_on h)
      (λ h. order t.two t.one t.two_in t.one_in t.two_on t.one_on (⊎_elim (λ k. k) (λ k. absurd (t.apart (omega arith))) (cases_lt t.two.speed t.one.speed)))
      (cases_lt t.one.speed t.two.speed)
    where
      order : (a b : Shot) → Member xs a → Member xs b → On l a → On l b → a.speed < b.speed → Spans (any l) (points tariff xs)
      order a b i j on-a on-b h = record {
        slow = point tariff a;
        fast = point tariff b;
        slow_in = in_image (point tariff) xs i.place a i.inside i.is;
        fast_in = in_image (point tariff) xs j.place b j.inside j.is;
        slow_on = on-a;
        fast_on = on-b;
        apart = omega (arith, ints);
      }

  pub points_two : (tariff : ℤ → ℕ × ℕ) → Spans (any l) (points tariff xs) → TwoSpeeds l xs
  points_two tariff s =
      let a = source (point tariff) xs s.slow s.slow_in in
      let b = source (point tariff) xs s.fast s.fast_in in
      record {
        one = a.it;
        two = b.it;
        one_in = record { place = a.place; inside = a.inside; is = a.is };
        two_in = record { place = b.place; inside = b.inside; is = b.is };
        one_on = subst (OnPoint (any l)) (sym a.image) s.slow_on;
        two_on = subst (OnPoint (any l)) (sym b.image) s.fast_on;
        apart = λ e. let p : s.slow.s ≡ pos a.it.speed = ap (λ (z : Point). z.s) (sym a.image) in let q : s.fast.s ≡ pos b.it.speed = ap (λ (z : Point). z.s) (sym b.image) in omega (arith, ints, s.apart, p, q, e);
      }

  pub spans_all : (r : Bool) → Decides r (TwoSpeeds l xs) → SpansAll l xs r
  spans_all r d tariff = (λ e. two_points tariff (d.0 e), λ s. d.1 (points_two tariff s))

  -- whether a second speed is on the line, where a first may be
  pub two_speeds : (o : Option ℕ) (r : Bool) → MatchOption o (NoneOn l xs) (λ v. SpeedOn l xs v) → MatchOption o (r ≡ false) (λ v. Decides r (OnOther l xs v)) → Decides r (TwoSpeeds l xs)
  two_speeds None r none e = (λ t. absurd (not_both r t e), λ t. absurd (none t.one t.one_in t.one_on))
  two_speeds (Some v) r a d = (λ e. two_from v a (d.0 e), λ t. d.1 (one_other v t))
