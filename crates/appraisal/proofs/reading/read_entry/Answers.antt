-- `read_entry`: a field that is no number is none of an entry's.
use Rattle.appraisal.proofs.reading.read_entry.Goals as goal

pub returns-in_err-speed : goal.returns-in_err-speed
returns-in_err-speed c = rw c.from_residual.ensures (λ entry t. c.in_err-speed.ensures entry.speed t.speed)

pub returns-in_err-lead : goal.returns-in_err-lead
returns-in_err-lead c = rw c.from_residual-in_err-lead.ensures (λ entry t. c.in_err-lead.ensures entry.lead t.lead)

pub returns-in_err-weight : goal.returns-in_err-weight
returns-in_err-weight c = rw c.from_residual-in_err-weight.ensures (λ entry t. c.in_err-weight.ensures entry.weight t.weight)

pub returns-in_err-stuff : goal.returns-in_err-stuff
returns-in_err-stuff c = rw c.from_residual-in_err-stuff.ensures (λ entry t. c.in_err-stuff.ensures entry.stuff t.stuff)
