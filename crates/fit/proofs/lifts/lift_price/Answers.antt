-- `lift_price`: each way of the match is one case of the rule.
use Rattle.std.proofs.Common.{◌*◌, ◌∙◌, sym, neg_ℤ, arith, w64, SFits, rules}
use Rattle.std.proofs.lemmas.Int.{ints}
use Rattle.lines.proofs.Sides.{late_above, early_below, on_zero}
use Rattle.fit.proofs.Lifting.{charged, lift_late, lift_early, lift_on_up, lift_on_down}
use Rattle.fit.proofs.lifts.lift_price.Goals as goal

pub returns-in-Late : goal.returns-in-Late
returns-in-Late c =
    let y = c.args.shot in
    let f : SFits w64 c.charge.result = search rules in
    charged (y.weight * c.args.prices.0) _ (neg_ℤ c.args.lift) c.charge.result f c.charge.ensures (omega (arith, ints, c.requires.0, c.requires.1))
    ∙ sym (lift_late c.args.line y c.args.prices c.args.lift (late_above _ c.in-Late.ensures))

pub returns-in-Early : goal.returns-in-Early
returns-in-Early c =
    let y = c.args.shot in
    let f : SFits w64 c.charge-in-Early.result = search rules in
    charged (y.weight * c.args.prices.1) _ c.args.lift c.charge-in-Early.result f c.charge-in-Early.ensures (omega (arith, ints, c.requires.0, c.requires.1))
    ∙ sym (lift_early c.args.line y c.args.prices c.args.lift (early_below _ c.in-Early.ensures))

pub returns-in-On : goal.returns-in-On
returns-in-On c =
    let y = c.args.shot in
    let f : SFits w64 c.charge-in-On.result = search rules in
    charged (y.weight * c.args.prices.1) _ c.args.lift c.charge-in-On.result f c.charge-in-On.ensures (omega (arith, ints, c.requires.0, c.requires.1))
    ∙ sym (lift_on_up c.args.line y c.args.prices c.args.lift (on_zero _ c.in-On.ensures) (omega (arith, ints, c.requires.0, c.requires.1)))

pub returns-in-On-2 : goal.returns-in-On-2
returns-in-On-2 c =
    let y = c.args.shot in
    let f : SFits w64 c.charge-in-On-2.result = search rules in
    charged (y.weight * c.args.prices.0) _ (neg_ℤ c.args.lift) c.charge-in-On-2.result f c.charge-in-On-2.ensures (omega (arith, ints, c.requires.0, c.requires.1))
    ∙ sym (lift_on_down c.args.line y c.args.prices c.args.lift (on_zero _ c.in-On-2.ensures) (omega (arith, ints, c.requires.0, c.requires.1)))
