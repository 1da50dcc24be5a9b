use Rattle.std.proofs.Common.{◌<◌, refl, arith, rules}
use Rattle.std.proofs.lemmas.List.{length-take-le}
use Rattle.racks.specs.Records.{room}
use Rattle.racks.proofs.Steps.{added_end}
use Rattle.racks.proofs.Stores.{pushed}
use Rattle.racks.proofs.record_rack.RecordRackRack.add.Goals as goal

pub returns-clause-added : goal.returns-clause-added
returns-clause-added c =
    let old = c.args.self.now in
    let lt : old.count < room old.records.now = search rules in
    let now = pushed old.count old.records.now _ _ c.in_ok-shot.shot refl (omega arith) refl in
    added_end _ _ _ _ c.args.entry c.in_ok-shot.shot (length-take-le _ _ (omega arith)) lt c.in_ok-shot.ensures now.held
