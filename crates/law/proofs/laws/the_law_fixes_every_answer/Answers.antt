-- `the_law_fixes_every_answer`: the theorems.
use Rattle.law.proofs.Fixed.{answers_fixed, transcripts_fixed}
use Rattle.law.proofs.laws.the_law_fixes_every_answer.Goals as goal

pub returns : goal.returns
returns c = record { answers = answers_fixed; transcripts = transcripts_fixed }
