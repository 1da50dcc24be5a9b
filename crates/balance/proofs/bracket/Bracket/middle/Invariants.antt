-- `middle`: how many keys so far lie within the bracket.
use Rattle.balance.specs.Brackets.{within}
use Rattle.balance.specs.Orders.{at_most}
use Rattle.balance.proofs.Counting.{Counted}
use Rattle.balance.proofs.bracket.Bracket.middle.Given as goal

abbrev pub invariant-loop-pull : goal.invariant-loop-pull
invariant-loop-pull g l = Counted (within (at_most g.K.Ord.cmp) l.self.low l.self.high) l.pulls l.pull-index l.count
