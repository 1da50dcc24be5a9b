-- `rates_are_one_sided_slopes`: the theorem.
use Rattle.theory.proofs.Slopes.{one_sided}
use Rattle.theory.proofs.rate_laws.rates_are_one_sided_slopes.Goals as goal

pub returns : goal.returns
returns c = one_sided
