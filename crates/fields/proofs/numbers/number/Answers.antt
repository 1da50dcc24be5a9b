-- What was read is written the same again.
use Rattle.std.proofs.Common.{arith}
use Rattle.std.proofs.lemmas.Grind.{common_steps}
use Rattle.fields.proofs.Numerals.{read_again}
use Rattle.fields.proofs.numbers.number.Goals as goal

pub returns-in-45-clause-writes_back : goal.returns-in-45-clause-writes_back
returns-in-45-clause-writes_back c = read_again c.args.digits c.args.text.now c.map.result (grind (arith, common_steps))

pub returns-in_default-clause-writes_back : goal.returns-in_default-clause-writes_back
returns-in_default-clause-writes_back c = read_again c.args.digits c.args.text.now c.map-in_default.result (grind (arith, common_steps))
