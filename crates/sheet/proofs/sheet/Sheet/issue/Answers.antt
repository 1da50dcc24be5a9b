-- `issue`: the line in force is the one on the pass.
use Rattle.std.proofs.Common.{◌≡◌, Some, sym, refl, ◌∙◌, arith}
use Rattle.law.proofs.Steps.{called}
use Rattle.sheet.proofs.sheet.Sheet.issue.Goals as goal

pub returns-clause-called : goal.returns-clause-called
returns-clause-called g c =
    let e : c.in_force.result ≡ Some c.in_ok-line.line = grind arith in
    called (record { room = refl; prices = refl; turned = (sym c.in_force.ensures ∙ e, (refl, refl)) })
