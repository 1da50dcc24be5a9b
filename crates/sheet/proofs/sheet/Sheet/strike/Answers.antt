-- `strike`: the rack's own answer, and the stage that follows from it.
use Rattle.std.proofs.Common.{refl}
use Rattle.std.proofs.lemmas.Int.{to_z-of_z}
use Rattle.std.proofs.lemmas.Result.{err_from_is_err_and}
use Rattle.law.proofs.Steps.{called}
use Rattle.sheet.proofs.sheet.Sheet.strike.Goals as goal

pub returns-clause-called : goal.returns-clause-called
returns-clause-called g c =
    let f = c.ranges.place in
    let h = simp to_z-of_z at c.in_ok-strike.ensures.struck in
    called (record { room = c.in_ok-strike.ensures.room; prices = refl; turned = (h.0, (h.1, c.after_strike-self.ensures)) })

pub returns-in_err-strike-clause-called : goal.returns-in_err-strike-clause-called
returns-in_err-strike-clause-called g c =
    let f = c.ranges.place in
    let h = simp to_z-of_z at c.in_err-strike.ensures.struck in
    let p = err_from_is_err_and c.from_residual.result c.from_residual.ensures.1 in
    rw (p.1, p.2) (called (record { room = c.in_err-strike.ensures.room; prices = refl; turned = ((h.0, h.1), (h.2, refl)) }))
