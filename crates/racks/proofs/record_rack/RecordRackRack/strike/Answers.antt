use Rattle.std.proofs.Common.{◌+◌, ◌≤◌, min, length, refl, ap, arith}
use Rattle.std.proofs.lemmas.List.{length-take-le}
use Rattle.std.proofs.lemmas.Int.{to_z-of_z}
use Rattle.racks.specs.Shifts.{moved_down}
use Rattle.racks.proofs.Steps.{at_place, struck_at}
use Rattle.racks.proofs.Stores.{closed}
use Rattle.racks.proofs.record_rack.RecordRackRack.strike.Goals as goal

pub returns : goal.returns
returns c =
    let f = c.ranges.place in
    let at = simp to_z-of_z at c.in_ok-index.ensures in
    let rack = c.args.self.now in
    let n = rack.count in
    let rs = rack.records.now in
    let within : n ≤ length rs = omega (arith, rack.fits) in
    let now = closed n rs _ _ c.in_ok-index.index refl at.1 within c.copy_within.ensures.after in
    record {
      struck = struck_at _ _ c.args.place n c.in_ok-index.index (length-take-le n rs within) at now.held;
      room = ap (min 512) now.long;
      memory = at_place (λ k. moved_down k (k + 1) n rs) _ c.args.place c.in_ok-index.index at.0 c.copy_within.ensures.after;
      lender = refl;
    }
