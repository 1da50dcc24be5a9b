-- What is written reads back.
use Rattle.fields.proofs.Numerals.{reads_back}
use Rattle.fields.proofs.written.put_number.Goals as goal

pub returns-clause-reads_back : goal.returns-clause-reads_back
returns-clause-reads_back c = reads_back c.args.z c.ranges.z.sfits
