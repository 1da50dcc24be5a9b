-- `is_cheaper_than`: in 128 bits the two products are those of the rule.
use Rattle.std.proofs.Common.{arith, w64, SFits, rules}
use Rattle.std.proofs.lemmas.Int.{ints}
use Rattle.lines.proofs.Order.{decides_lt}
use Rattle.lines.proofs.Sizes.{wide_product}
use Rattle.lines.proofs.priced.PricedLine.is_cheaper_than.Goals as goal

pub returns : goal.returns
returns c =
    let f : SFits w64 c.args.self.total = search rules in
    let g : SFits w64 c.args.other.total = search rules in
    decides_lt (wide_product _ _ c.args.self.total c.args.other.line.a f (omega (arith, ints)) c.from.ensures c.from-2.ensures)
    (wide_product _ _ c.args.other.total c.args.self.line.a g (omega (arith, ints)) c.from-3.ensures c.from-4.ensures)
