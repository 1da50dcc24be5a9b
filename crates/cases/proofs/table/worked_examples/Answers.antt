-- `worked_examples`: the table.
use Rattle.cases.proofs.Worked.{worked}
use Rattle.cases.proofs.table.worked_examples.Goals as goal

pub returns : goal.returns
returns c = worked
