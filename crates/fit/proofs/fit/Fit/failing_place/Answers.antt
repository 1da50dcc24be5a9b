-- `failing_place`: the first shot that fails, or none, and what that says of all lines.
use Rattle.std.proofs.Common.{rules}
use borrow.Author.Tests.{tests}
use Rattle.std.proofs.lemmas.Iterator.{IsFirst-from_position}
use Rattle.std.proofs.lemmas.Iterator.Consumers.{YieldsList-from_first}
use Rattle.fit.specs.Testing.{Fails}
use Rattle.fit.proofs.Tests.{found}
use Rattle.fit.proofs.fit.Fit.failing_place.Goals as goal

pub returns : goal.returns
returns g c =
    let tariff = g.P.PriceRule.tariff c.args.self.now.rule.now in
    let held = g.R.Rack.held c.args.self.now.rack.now in
    let h = IsFirst-from_position _ _ c.position.result (Fails tariff c.args.line held) (λ y. Fails tariff c.args.line held y → ⊥) c.position.ensures.ran (YieldsList-from_first (λ x. x) (λ left. left) held (cc)) (λ x q k. search (rules, tests)) (λ x q k. search (rules, tests)) in
    let p = found tariff c.args.line held c.position.result h in
    record { outcome = p.0; best = p.1 }
