-- `turn_is_the_lowest_cheapest`: the theorem.
use Rattle.theory.proofs.Turning.{turn_lowest_cheapest}
use Rattle.theory.proofs.turn_laws.turn_is_the_lowest_cheapest.Goals as goal

pub returns : goal.returns
returns c = turn_lowest_cheapest
