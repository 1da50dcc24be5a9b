-- The first place that fails has two rates and a turned line, and so the verdict stands.
use Rattle.std.proofs.Common.{◌≡◌, ℕ, List, get_or, ℤ, pos, nat_abs, Some, None, Option, IsSome, sym, refl, ap, ◌∙◌, subst, arith}
use Rattle.std.proofs.lemmas.Int.{ints}
use Rattle.std.proofs.lemmas.Option.{none-some}
use Rattle.shots.specs.Prices.{even}
use Rattle.shots.specs.declared.shot.Shot.{Shot}
use Rattle.lines.specs.Lines.{any, Reads}
use Rattle.lines.specs.declared.line.Line.{Line}
use Rattle.racks.specs.Racks.{Holds}
use Rattle.theory.specs.Points.{Cheaper as IsCheaper}
use Rattle.theory.specs.Turning.{Turned}
use Rattle.fit.specs.Points.{point, points}
use Rattle.fit.specs.Rates.{rise_at, fall_at, Rate}
use Rattle.fit.specs.Testing.{First}
use Rattle.fit.specs.Totals.{total_of}
use Rattle.fit.specs.Turning.{Descends}
use Rattle.fit.proofs.Held.{one_at}
use Rattle.appraisal.specs.Deciding.{Shown}
use Rattle.appraisal.specs.declared.answer.CheaperLine.{CheaperLine}

module _ (l : Line) (xs : List Shot) (k : ℕ) (p : ℤ) (e : p ≡ pos k) (f : First even l xs k) where
  holds : Holds xs p
  holds = (omega (arith, ints), omega (arith, ints, f.inside))

  at : f.shot ≡ get_or xs (nat_abs p) f.shot
  at = f.is ∙ ap (λ i. get_or xs i f.shot) (sym (ap nat_abs e))

  pub some_turn : (o : Option Line) → Descends even xs p o → IsSome o
  some_turn (Some m) d = refl
  some_turn None d =
      let m = d f.shot holds at l f.fails.0 f.fails.1 in
      absurd (none-some m.0 m.1)

  rate_is : (rate : Shot → ℤ) (r : ℤ) → Rate rate l xs p (Some r) → r ≡ rate f.shot
  rate_is rate r q =
      let same : q.0 ≡ f.shot = one_at xs (nat_abs p) q.0 f.shot (omega (arith, ap nat_abs e, f.inside)) q.1.1 at in
      q.2 ∙ ap rate same

  pub shown : (r s rise fall : ℤ) (m : Line) (by : CheaperLine) → Rate (rise_at even l xs) l xs p (Some r) → Rate (fall_at even l xs) l xs p (Some s) → Descends even xs p (Some m) → rise ≡ r → fall ≡ s → Reads m by.a by.b by.c → by.total ≡ total_of even m xs → Shown xs l k (record { place = k; rise = rise; fall = fall }) by
  shown r s rise fall m by rises falls d er es en et =
      let q = d f.shot holds at l f.fails.0 f.fails.1 in
      let same : q.0 ≡ m = cc q.1 in
      record {
        first = f;
        rise_is = er ∙ rate_is (rise_at even l xs) r rises;
        fall_is = es ∙ rate_is (fall_at even l xs) s falls;
        line = m;
        numbers = en;
        turned = subst (λ n. Turned (points even xs) (point even f.shot) (any n)) same q.3;
        cheaper = subst (λ n. IsCheaper (any n) (any l) (points even xs)) same q.2;
        total = et;
      }
