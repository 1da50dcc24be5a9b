-- `holds_at`: a step adds the pull to its side, and at the end both sides are weighed.
use Rattle.std.proofs.Common.{true, false, arith}
use Rattle.balance.proofs.Weighing.{weighed_more, weighed_all}
use Rattle.balance.proofs.point.holds_at.Goals as goal
use Rattle.balance.proofs.point.holds_at.Goals.{then-is_upto, else-is_upto}

pub loop-pull-preserved : goal.loop-pull-preserved
loop-pull-preserved g c =
    let x = c.pull-item.result in
    let l = c.loop-pull-test.true in
    let e = c.pull-item.is in
    let more = weighed_more c.loop-pull.invariant x l e (c.requires.fair c.loop-pull.pull-index x l e) in
    elim c.if-is_upto.branch [
      | then-is_upto w ↦ more true w.if-is_upto.ensures (omega (arith, w.over-is)) (omega (arith, w.under-is))
      | else-is_upto w ↦ more false w.if-is_upto.ensures (omega (arith, w.over-is)) (omega (arith, w.under-is))
    ]

pub returns : goal.returns
returns g c = weighed_all c.loop-pull.invariant c.loop-pull-test.false
