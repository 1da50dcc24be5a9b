-- `count_is_bounded`: the theorem.
use Rattle.theory.proofs.Pairs.{count_bounded}
use Rattle.theory.proofs.count_laws.count_is_bounded.Goals as goal

pub returns : goal.returns
returns c = count_bounded
