-- `laid_from`: the line of the shots' slope through the slower one follows the rule.
use Rattle.lines.proofs.Laying.{laid}
use Rattle.lines.proofs.through.laid_from.Goals as goal

pub returns : goal.returns
returns c =
    laid c.args.slow c.args.fast c.in_ok-between.field-0 c.in_ok-between.ensures.slope c.about.result c.about.ensures
