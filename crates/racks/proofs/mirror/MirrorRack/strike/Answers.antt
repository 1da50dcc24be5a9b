use Rattle.std.proofs.lemmas.Int.{to_z-of_z}
use Rattle.racks.proofs.Flips.{struck_flips}
use Rattle.racks.proofs.mirror.MirrorRack.strike.Goals as goal

pub returns : goal.returns
returns g c =
    let f = c.ranges.place in
    let xs = g.R.Rack.held c.args.self.now.rack in
    let ys = g.R.Rack.held c.strike.new.self in
    record {
      struck = struck_flips xs ys c.args.place c.strike.result (simp to_z-of_z at c.strike.ensures.struck);
      room = c.strike.ensures.room;
    }
