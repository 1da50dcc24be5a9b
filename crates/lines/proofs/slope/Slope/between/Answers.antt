-- `Slope::between`: the differences do not wrap, so the reduced slope is theirs, and it is in a line's ranges.
use Rattle.lines.proofs.Laying.{sloped, sloped_fits}
use Rattle.lines.proofs.slope.Slope.between.Goals as goal

pub returns : goal.returns
returns c =
    let p = c.args.slow in
    let q = c.args.fast in
    let o = c.reduced.result in
    let k = sloped p q o c.from-3.ensures c.from-4.ensures c.from.ensures c.from-2.ensures c.reduced.ensures.value in
    record { slope = k; fits = sloped_fits p q o k }
