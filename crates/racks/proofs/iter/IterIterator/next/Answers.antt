-- `next`: a shot was read at the place, so there is a next one that is no higher than the most.
use Rattle.std.proofs.Common.{arith}
use Rattle.racks.proofs.Steps.{read_below}
use Rattle.racks.proofs.iter.IterIterator.next.Goals as goal

pub invariant_of-self : goal.invariant_of-self
invariant_of-self g c =
    let b = g.R.Rack.bounded c.self.inside.rack.now in
    read_below _ _ c.read.result c.in_ok-shot.shot (omega arith) c.self.invariant c.read.ensures c.in_ok-shot.ensures.value
