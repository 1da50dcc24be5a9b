-- `middle`: the key at half the count of the keys inside is the middle one.
use Rattle.std.proofs.Common.{◌≡◌, true, false, option_map, arith, rules}
use borrow.Author.Tests.{tests}
use Rattle.std.proofs.lemmas.Iterator.{YieldsList-from_slice}
use Rattle.std.proofs.lemmas.Iterator.Consumers.{YieldsList-from_filter, nth_from_yields_List}
use Rattle.balance.specs.Brackets.{within}
use Rattle.balance.specs.Orders.{at_most}
use Rattle.balance.proofs.Counting.{counted_more, counted_all}
use Rattle.balance.proofs.Picking.{middle}
use Rattle.balance.proofs.bracket.Bracket.middle.Goals as goal
use Rattle.balance.proofs.bracket.Bracket.middle.Goals.{then-has_inside, else-has_inside}

pub loop-pull-preserved : goal.loop-pull-preserved
loop-pull-preserved g c =
    let more = counted_more c.loop-pull.invariant c.pull-item.result c.loop-pull-test.true c.pull-item.is in
    elim c.if-has_inside.branch [
      | then-has_inside w ↦ more true w.if-has_inside.ensures (omega (arith, w.count-is))
      | else-has_inside w ↦ more false w.if-has_inside.ensures (omega (arith, w.count-is))
    ]

pub returns : goal.returns
returns g c =
    let ps = c.args.pulls.now in
    let f = within (at_most g.K.Ord.cmp) c.args.self.low c.args.self.high in
    let key : c.map.result ≡ option_map (λ p. p.now.key) c.nth.result = search rules in
    let count = counted_all c.loop-pull.invariant c.loop-pull-test.false in
    let nth = nth_from_yields_List c.nth.result c.nth.new.self _ c.nth.ensures.ran (YieldsList-from_filter _ f (YieldsList-from_slice ps (cc)) c.filter.ensures.closure (λ x r q k. search (rules, tests))) in
    middle (at_most g.K.Ord.cmp) ps c.args.self.low c.args.self.high c.nth.result key nth count
