-- `turn_is_strictly_cheaper`: the theorem.
use Rattle.theory.proofs.Descent.{turn_cheaper}
use Rattle.theory.proofs.turn_laws.turn_is_strictly_cheaper.Goals as goal

pub returns : goal.returns
returns c = turn_cheaper
