-- `balance_point`: the sides balance at high, a key of a pull, and not at low; each turn leaves fewer keys between.
use Rattle.std.proofs.Common.{◌≡◌, true, count_by}
use Rattle.balance.specs.Balances.{Among, holds}
use Rattle.balance.specs.Brackets.{within, Failing}
use Rattle.balance.specs.Orders.{at_most}
use Rattle.balance.proofs.point.balance_point.Given as goal

abbrev pub invariant-loop-key : goal.invariant-loop-key
invariant-loop-key g l =
    Among (λ p. p.key ≡ l.bracket.high) l.pulls × (holds (at_most g.K.Ord.cmp) l.pulls l.bracket.high ≡ true) × Failing (at_most g.K.Ord.cmp) l.pulls l.bracket.low

abbrev pub decreases-loop-key : goal.decreases-loop-key
decreases-loop-key g l = count_by (within (at_most g.K.Ord.cmp) l.bracket.low l.bracket.high) l.pulls
