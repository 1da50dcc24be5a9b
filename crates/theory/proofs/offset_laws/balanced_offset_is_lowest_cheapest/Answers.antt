-- `balanced_offset_is_lowest_cheapest`: the theorem.
use Rattle.theory.proofs.Offsets.{balanced_lowest_cheapest}
use Rattle.theory.proofs.offset_laws.balanced_offset_is_lowest_cheapest.Goals as goal

pub returns : goal.returns
returns c = balanced_lowest_cheapest
