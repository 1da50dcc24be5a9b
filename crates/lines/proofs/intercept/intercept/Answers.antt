-- `intercept`: the difference does not wrap, and is the formula's.
use Rattle.std.proofs.Common.{arith}
use Rattle.std.proofs.lemmas.Int.{ints}
use Rattle.lines.proofs.Sizes.{Crossed, crossed}
use Rattle.lines.proofs.intercept.intercept.Goals as goal

here : (c : goal.After-from-2) → Crossed c.args.a c.args.b c.args.shot c.from.result c.from-2.result
here c =
    crossed c.args.shot (record { low = omega (arith, ints); high = omega (arith, ints) })
    (record { low = omega (arith, ints); high = omega (arith, ints) }) c.from.ensures c.from-2.ensures

pub overflow_sub-result : goal.overflow_sub-result
overflow_sub-result c = (here c).fits

pub returns : goal.returns
returns c = let k = here c in record { value = k.value; small = (k.low, k.high) }
