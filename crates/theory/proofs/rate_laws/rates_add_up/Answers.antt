-- `rates_add_up`: the theorem.
use Rattle.theory.proofs.Rates.{rates_add_up_lem}
use Rattle.theory.proofs.rate_laws.rates_add_up.Goals as goal

pub returns : goal.returns
returns c = rates_add_up_lem
