use Rattle.lines.specs.Lines.{any}
use Rattle.fit.specs.Points.{point}
use Rattle.fit.proofs.Running.{Running}
use Rattle.fit.proofs.fit.Fit.rate_about.Given as goal

abbrev pub invariant-loop-shot : goal.invariant-loop-shot
invariant-loop-shot g l =
    let tariff = g.P.PriceRule.tariff l.self.rule.now in
    Running (λ y. g.W.Way.part (any l.line) (point tariff l.z) (point tariff y)) 8000000 l.yielded l.sum
