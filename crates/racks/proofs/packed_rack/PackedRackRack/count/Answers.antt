use Rattle.std.proofs.Common.{sym}
use Rattle.racks.specs.RackLaws.{length_shots}
use Rattle.racks.proofs.packed_rack.PackedRackRack.count.Goals as goal

pub returns : goal.returns
returns c = sym (length_shots _ _)
