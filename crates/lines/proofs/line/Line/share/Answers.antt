-- `share`: on each side, what is charged is the cost of the miss.
use Rattle.std.proofs.Common.{arith}
use Rattle.std.proofs.lemmas.Int.{ints}
use Rattle.lines.proofs.Shares.{late_share, early_share, on_share}
use Rattle.lines.proofs.Sizes.{Sized}
use Rattle.lines.proofs.line.Line.share.Goals as goal

pub returns-in-Late : goal.returns-in-Late
returns-in-Late c =
    let k : Sized 191992000 c.miss-miss.result = record { low = omega (arith, ints); high = omega (arith, ints) } in
    let s = late_share c.args.shot.weight c.args.prices.0 c.args.prices.1 c.args.shot.light k c.miss-miss.ensures.value c.in-Late.ensures (record { sfits = c.charge.type_inv }) c.charge.ensures in
    record { value = s.value; bound = s.bound }

pub returns-in-Early : goal.returns-in-Early
returns-in-Early c =
    let k : Sized 191992000 c.miss-miss.result = record { low = omega (arith, ints); high = omega (arith, ints) } in
    let s = early_share c.args.shot.weight c.args.prices.0 c.args.prices.1 c.args.shot.light k c.miss-miss.ensures.value c.in-Early.ensures (record { sfits = c.charge-in-Early.type_inv }) c.charge-in-Early.ensures in
    record { value = s.value; bound = s.bound }

pub returns-in-On : goal.returns-in-On
returns-in-On c =
    let s = on_share c.args.shot.weight c.args.prices.0 c.args.prices.1 c.args.shot.light c.in-On.ensures in
    record { value = s.value; bound = s.bound }
