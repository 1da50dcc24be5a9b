-- `cmp`: in 64 bits the two products are those of the rule.
use Rattle.std.proofs.Common.{◌∙◌, rules}
use Rattle.lines.proofs.Sizes.{cross_back}
use Rattle.lines.proofs.slope_order.SlopeOrd.cmp.Goals as goal

pub returns : goal.returns
returns c =
    let s = c.args.self.now in
    let o = c.args.other.now in
    c.cmp.ensures
    ∙ cross_back s.rise s.run o.rise o.run (search rules) (search rules) (search rules) (search rules) c.from.ensures c.from-2.ensures c.from-3.ensures c.from-4.ensures
