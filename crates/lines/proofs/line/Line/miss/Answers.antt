-- `miss`: the difference is the residual.
use Rattle.std.proofs.Common.{arith}
use Rattle.std.proofs.lemmas.Int.{ints}
use Rattle.lines.proofs.Sizes.{Sized, missed}
use Rattle.lines.proofs.line.Line.miss.Goals as goal

pub returns : goal.returns
returns c =
    let k : Sized 95992000 c.intercept.result = record { low = omega (arith, ints); high = omega (arith, ints) } in
    record { value = missed c.args.self c.args.shot c.intercept.ensures.value k; small = (omega (arith, ints), omega (arith, ints)) }
