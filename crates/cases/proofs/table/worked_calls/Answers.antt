-- `worked_calls`: the table.
use Rattle.cases.proofs.Worked.{worked_calls}
use Rattle.cases.proofs.table.worked_calls.Goals as goal

pub returns : goal.returns
returns c = worked_calls
