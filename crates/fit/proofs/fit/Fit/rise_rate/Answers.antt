use Rattle.std.proofs.Common.{subst, w32}
use Rattle.std.proofs.lemmas.Int.{to_z-of_z}
use Rattle.fit.specs.Rates.{rise_at, Rate}
use Rattle.fit.proofs.fit.Fit.rise_rate.Goals as goal

pub returns : goal.returns
returns g c =
    let held = g.R.Rack.held c.args.self.now.rack.now in
    subst (λ p. Rate (rise_at (g.P.PriceRule.tariff c.args.self.now.rule.now) c.args.line held) c.args.line held p c.rate_at.result) (to_z-of_z w32 c.args.place c.ranges.place) c.rate_at.ensures
