-- `holds_at`: both sides are weighed so far.
use Rattle.balance.specs.Orders.{at_most}
use Rattle.balance.proofs.Weighing.{Weighed}
use Rattle.balance.proofs.point.holds_at.Given as goal

abbrev pub invariant-loop-pull : goal.invariant-loop-pull
invariant-loop-pull g l = Weighed (at_most g.K.Ord.cmp) l.pulls l.key l.pull-index l.over l.under
