-- `turn_lowers_the_count`: the theorem.
use Rattle.theory.proofs.Pairs.{turn_lowers}
use Rattle.theory.proofs.count_laws.turn_lowers_the_count.Goals as goal

pub returns : goal.returns
returns c = turn_lowers
