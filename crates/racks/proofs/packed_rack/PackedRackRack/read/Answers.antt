use Rattle.std.proofs.Common.{◌+◌, ◌-◌, ◌*◌, ◌∙◌, arith}
use Rattle.std.proofs.lemmas.Int.{ints, to_z-of_z}
use Rattle.std.proofs.lemmas.Grind.{common_steps}
use Rattle.racks.specs.RackLaws.{length_shots}
use Rattle.racks.proofs.Steps.{read_at}
use Rattle.racks.proofs.Packs.{shot_at, image_known}
use Rattle.racks.proofs.packed_rack.PackedRackRack.read.Goals as goal

pub shot_in-requires : goal.shot_in-requires
shot_in-requires c =
    let rack = c.args.self.now in
    image_known rack.count rack.bytes.now rack.whole c.in_ok-index.index _ (omega arith) c.in_ok-index.ensures.1

pub returns : goal.returns
returns c =
    let f = c.ranges.place in
    let at = simp to_z-of_z at c.in_ok-index.ensures in
    let rack = c.args.self.now in
    let i = c.in_ok-index.index in
    let is = shot_at rack.count rack.bytes.now rack.whole i (6 * i + 6 - 6 * i) c.shot_in.result (omega arith) at.1 in
    read_at _ c.args.place _ i c.shot_in.result (length_shots _ _) at (c.shot_in.ensures ∙ is)

pub returns-in_err-index : goal.returns-in_err-index
returns-in_err-index c =
    let f = c.ranges.place in
    let l = length_shots c.args.self.now.count c.args.self.now.bytes.now in
    grind (arith, ints, common_steps)
