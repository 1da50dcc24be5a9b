-- `fmt` of a total: the rest is written as its three digits.
use Rattle.std.proofs.Common.{rules}
use Rattle.appraisal.proofs.Thousandths.{three_digits}
use Rattle.appraisal.proofs.answer.AnswerDisplay.fmt.Goals as goal

pub returns-in-Total-clause-writes : goal.returns-in-Total-clause-writes
returns-in-Total-clause-writes g c = rw (c.in-Total.is, ← three_digits c.in-Total.thousandths) (search rules)
