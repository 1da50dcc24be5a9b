-- `turn_exists`: the theorem.
use Rattle.theory.proofs.Turning.{turn_exists_lem}
use Rattle.theory.proofs.turn_laws.turn_exists.Goals as goal

pub returns : goal.returns
returns c = turn_exists_lem
