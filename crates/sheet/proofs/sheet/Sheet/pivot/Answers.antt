-- `pivot`: one answer for each pair of a stage and what the test says.
use Rattle.std.proofs.Common.{◌≡◌, Some, None, refl, subst, arith}
use Rattle.std.proofs.lemmas.Result.{err_from_is_err_and}
use Rattle.shots.specs.declared.refusal.Refusal.TheVariants.{OneSpeed}
use Rattle.fit.specs.First.{FirstLine}
use Rattle.law.specs.declared.kinds.Word.TheVariants.{Laid, Moved, Proved, Stands}
use Rattle.law.specs.declared.stage.Stage.TheVariants.{Bare, Trying, InForce}
use Rattle.sheet.proofs.Turns.{tells, found, lacks}
use Rattle.sheet.proofs.sheet.Sheet.pivot.Goals as goal

pub returns-in_ok-line-in-Bare-default-clause-called : goal.returns-in_ok-line-in-Bare-default-clause-called
returns-in_ok-line-in-Bare-default-clause-called g c =
    let h = c.told.ensures in
    let e : c.first_line.result ≡ Some c.in_ok-line-in-Bare-default.line = grind arith in
    let laid = subst (FirstLine (g.R.Rack.held c.args.self.now.rack)) e c.first_line.ensures in
    tells _ _ Bare c.told.result Laid _ c.in-Bare-default.is-0 h.word h.line h.total (laid, refl)

pub returns-in_err-line-in-Bare-default-clause-called : goal.returns-in_err-line-in-Bare-default-clause-called
returns-in_err-line-in-Bare-default-clause-called g c =
    let none : c.first_line.result ≡ None = grind arith in
    let one = subst (FirstLine (g.R.Rack.held c.args.self.now.rack)) none c.first_line.ensures in
    let p = err_from_is_err_and c.from_residual.result c.from_residual.ensures.1 in
    let k : c.in_err-line-in-Bare-default.field-0.0 ≡ OneSpeed = grind arith in
    rw (p.1, p.2, k) (lacks _ c.in-Bare-default.is-0 one)

pub returns-in-Trying-Some-clause-called : goal.returns-in-Trying-Some-clause-called
returns-in-Trying-Some-clause-called g c =
    let h = c.told-in-Trying-Some.ensures in
    let i = c.in-Trying-Some in
    let first = found (g.P.PriceRule.tariff c.args.self.now.rule) (g.R.Rack.held c.args.self.now.rack) _ _ i.line _ c.failing_place.ensures i.is-0 i.is-1 in
    tells _ _ (Trying i.line) c.told-in-Trying-Some.result Moved _ i.is-0 h.word h.line h.total (i.place, first, c.turned_at-turned.ensures, refl)

pub returns-in-Trying-None-clause-called : goal.returns-in-Trying-None-clause-called
returns-in-Trying-None-clause-called g c =
    let h = c.told-in-Trying-None.ensures in
    let i = c.in-Trying-None in
    let passes = found (g.P.PriceRule.tariff c.args.self.now.rule) (g.R.Rack.held c.args.self.now.rack) _ _ i.line _ c.failing_place.ensures i.is-0 i.is-1 in
    tells _ _ (Trying i.line) c.told-in-Trying-None.result Proved _ i.is-0 h.word h.line h.total (passes, refl, refl)

pub returns-in-InForce-default-clause-called : goal.returns-in-InForce-default-clause-called
returns-in-InForce-default-clause-called g c =
    let h = c.told-in-InForce-default.ensures in
    let i = c.in-InForce-default in
    tells _ _ (InForce i.line) c.told-in-InForce-default.result Stands _ i.is-0 h.word h.line h.total (refl, i.is-0)
