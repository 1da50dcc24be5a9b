-- `add`: the rack's own answer, and the stage that follows from it.
use Rattle.std.proofs.Common.{refl}
use Rattle.std.proofs.lemmas.Result.{err_from_is_err_and}
use Rattle.law.proofs.Steps.{called}
use Rattle.sheet.proofs.sheet.Sheet.add.Goals as goal

pub returns-clause-called : goal.returns-clause-called
returns-clause-called g c =
    let h = c.in_ok-add.ensures.added in
    called (record { room = c.in_ok-add.ensures.room; prices = refl; turned = (h.0, (h.1, c.after_add-self.ensures)) })

pub returns-in_err-add-clause-called : goal.returns-in_err-add-clause-called
returns-in_err-add-clause-called g c =
    let h = c.in_err-add.ensures.added in
    let p = err_from_is_err_and c.from_residual.result c.from_residual.ensures.1 in
    rw (p.1, p.2) (called (record { room = c.in_err-add.ensures.room; prices = refl; turned = (h.0, (h.1, refl)) }))
