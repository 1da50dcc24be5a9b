-- `charge`: neither product wraps.
use Rattle.std.proofs.Common.{◌≤◌, rules}
use Rattle.lines.proofs.Sizes.{weighed}
use Rattle.lines.proofs.share.charge.Goals as goal

pub overflow_mul-result-2 : goal.overflow_mul-result-2
overflow_mul-result-2 c =
    let h : c.args.weight ≤ 255 = search rules in
    let k : c.args.price ≤ 255 = search rules in
    (weighed c.args.weight c.args.price h k c.ranges.miss c.from.ensures c.from-2.ensures c.from-3.ensures).fits

pub returns : goal.returns
returns c =
    let h : c.args.weight ≤ 255 = search rules in
    let k : c.args.price ≤ 255 = search rules in
    (weighed c.args.weight c.args.price h k c.ranges.miss c.from.ensures c.from-2.ensures c.from-3.ensures).value
