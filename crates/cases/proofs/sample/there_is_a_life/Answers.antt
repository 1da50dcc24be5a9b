-- `there_is_a_life`: the sample life.
use Rattle.cases.proofs.SampleLife.{sample_lives}
use Rattle.cases.proofs.sample.there_is_a_life.Goals as goal

pub returns : goal.returns
returns c = sample_lives
