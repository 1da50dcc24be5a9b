use Rattle.std.proofs.lemmas.Int.{to_z-of_z}
use Rattle.std.proofs.Common.{w32, SFits, rules}
use Rattle.racks.proofs.Flips.{turned, added_flips}
use Rattle.racks.proofs.mirror.MirrorRack.add.Goals as goal

pub returns-clause-added : goal.returns-clause-added
returns-clause-added g c =
    let n = c.args.entry in
    let m = c.wrapping_neg-lead.result in
    let f1 : SFits w32 n.speed = search rules in
    let f2 : SFits w32 n.lead = search rules in
    let f3 : SFits w32 n.weight = search rules in
    let f4 : SFits w32 n.stuff = search rules in
    let f5 : SFits w32 m = search rules in
    let t = turned n.lead m f2 (simp to_z-of_z at c.wrapping_neg-lead.ensures) in
    added_flips n m t.0 t.1 _ _ _ c.add.result (simp to_z-of_z at c.add.ensures.added)
