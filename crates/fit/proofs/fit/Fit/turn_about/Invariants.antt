-- `turn_about`: the pulls of the shots so far.
use Rattle.fit.specs.Turning.{Pulls}
use Rattle.fit.proofs.fit.Fit.turn_about.Given as goal

abbrev pub invariant-loop-shot : goal.invariant-loop-shot
invariant-loop-shot g l = Pulls (g.P.PriceRule.tariff l.self.rule.now) l.z l.yielded l.pulls.items
