-- `Line::through`: both shots lie on the line that is laid from the slower one, and on no other, in whichever order they come.
use Rattle.lines.proofs.Laying.{drawn}
use Rattle.lines.proofs.line.Line.through.Goals as goal

pub returns-then-p-q-clause-through_both : goal.returns-then-p-q-clause-through_both
returns-then-p-q-clause-through_both c = (drawn c.args.p c.args.q c.laid_from.result c.laid_from.ensures).both

pub returns-then-p-q-clause-only : goal.returns-then-p-q-clause-only
returns-then-p-q-clause-only c = (drawn c.args.p c.args.q c.laid_from.result c.laid_from.ensures).only

pub returns-else-p-q-clause-through_both : goal.returns-else-p-q-clause-through_both
returns-else-p-q-clause-through_both c =
    (drawn c.args.q c.args.p c.laid_from-else-p-q.result c.laid_from-else-p-q.ensures).both_swapped

pub returns-else-p-q-clause-only : goal.returns-else-p-q-clause-only
returns-else-p-q-clause-only c =
    (drawn c.args.q c.args.p c.laid_from-else-p-q.result c.laid_from-else-p-q.ensures).only_swapped
