-- `plan`: so far the calls add the shots that were gone over, and those to come are as they were.
use Rattle.std.proofs.Common.{◌+◌, ◌≡◌, ◌++◌, length, map, take, drop}
use Rattle.appraisal.specs.Planning.{add_of}
use Rattle.appraisal.proofs.planning.plan.Given as goal

abbrev pub invariant-loop-i : goal.invariant-loop-i
invariant-loop-i g l = record {
  index : l.i + length l.shot-iterator ≡ length (g.R.Rack.held l.rack);
  adds : take l.i l.calls ++ map add_of l.shot-iterator ≡ map add_of (g.R.Rack.held l.rack);
  beyond : drop l.i l.calls ≡ drop l.i l.initial.calls;
}
