-- `balance_point`: a turn closes the bracket at one of its keys, and the closed bracket's top is the point.
use Rattle.std.proofs.Common.{sym, refl}
use Rattle.balance.specs.Orders.{at_most}
use Rattle.balance.proofs.Closing.{found, closed, fewer_high, fewer_low}
use Rattle.balance.proofs.Greatest.{among, top}
use Rattle.balance.proofs.Medians.{median}
use Rattle.balance.proofs.Orders.{cmp_order}
use Rattle.balance.proofs.Sides.{holds_top, only_point}
use Rattle.balance.proofs.point.balance_point.Goals as goal

pub loop-key-init : goal.loop-key-init
loop-key-init g c =
    let t = c.in_ok-greatest.ensures in
    let p = c.in_ok-greatest.field-0.now in
    let ps = c.args.pulls.now in
    (among g.K.Ord.cmp ps p t.0, holds_top (at_most g.K.Ord.cmp) ps p.key (top g.K.Ord.cmp ps p t.1), tt)

pub loop-key-smaller-then-holds_at : goal.loop-key-smaller-then-holds_at
loop-key-smaller-then-holds_at g c =
    fewer_high (cmp_order g.met.K.Ord.total g.met.K.Key.only) c.args.pulls.now c.loop-key.bracket.low c.loop-key.bracket.high c.in-Some.key c.in-Some.ensures

pub loop-key-smaller : goal.loop-key-smaller
loop-key-smaller g c =
    fewer_low (cmp_order g.met.K.Ord.total g.met.K.Key.only) c.args.pulls.now c.loop-key.bracket.low c.loop-key.bracket.high c.in-Some.key c.in-Some.ensures

pub loop-key-preserved-then-holds_at : goal.loop-key-preserved-then-holds_at
loop-key-preserved-then-holds_at g c =
    (found c.in-Some.ensures, sym c.if-holds_at.ensures, c.loop-key.invariant.2)

pub returns : goal.returns
returns g c =
    let o = cmp_order g.met.K.Ord.total g.met.K.Key.only in
    let le = at_most g.K.Ord.cmp in
    let ps = c.args.pulls.now in
    let high = c.loop-key.bracket.high in
    let usable = c.if-not-are_usable.ensures.0 refl in
    let v = c.loop-key.invariant in
    let point = closed o ps c.loop-key.bracket.low high usable.fair v.0 v.1 v.2 c.in_default.ensures in
    record { point = (usable, point); only = λ t. only_point le o ps high t point; median = median le ps high point }
