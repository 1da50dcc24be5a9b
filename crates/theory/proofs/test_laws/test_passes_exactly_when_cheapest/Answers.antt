-- `test_passes_exactly_when_cheapest`: the theorem.
use Rattle.theory.proofs.Descent.{test_exact}
use Rattle.theory.proofs.test_laws.test_passes_exactly_when_cheapest.Goals as goal

pub returns : goal.returns
returns c = test_exact
