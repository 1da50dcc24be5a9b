use Rattle.fit.specs.Totals.{paid}
use Rattle.fit.proofs.Running.{Running}
use Rattle.fit.proofs.fit.Fit.total.Given as goal

abbrev pub invariant-loop-shot : goal.invariant-loop-shot
invariant-loop-shot g l =
    Running (paid (g.P.PriceRule.tariff l.self.rule.now) l.line) 383984000000 l.yielded l.sum
