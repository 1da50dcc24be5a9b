-- `mount`: the offset's own answer.
use Rattle.std.proofs.lemmas.Int.{to_z-of_z}
use Rattle.sheet.proofs.Turns.{mounts}
use Rattle.sheet.proofs.sheet.Sheet.mount.Goals as goal

pub returns : goal.returns
returns g c =
    let f1 = c.ranges.a in
    let f2 = c.ranges.b in
    record { called = mounts _ _ _ _ (rw (c.fit.ensures.rack, c.fit.ensures.rule) at (simp to_z-of_z at c.offset.ensures.offset)); cheapest = rw (c.fit.ensures.rack, c.fit.ensures.rule) at (simp to_z-of_z at c.offset.ensures.cheapest) }
