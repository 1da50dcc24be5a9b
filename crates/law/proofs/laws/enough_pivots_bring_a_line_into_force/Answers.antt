-- `enough_pivots_bring_a_line_into_force`: the theorem.
use Rattle.law.proofs.Ends.{pivots_end}
use Rattle.law.proofs.laws.enough_pivots_bring_a_line_into_force.Goals as goal

pub returns : goal.returns
returns c = pivots_end
