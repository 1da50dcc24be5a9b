-- `rate_at`: the rate of the shot that was found.
use Rattle.std.proofs.Common.{Some, ◌∙◌, subst, w32, w64, SFits, rules}
use Rattle.std.proofs.lemmas.Int.{to_z-of_z}
use Rattle.fit.specs.Rates.{OnAt}
use Rattle.fit.proofs.fit.Fit.rate_at.Goals as goal

pub returns : goal.returns
returns g c =
    let z = c.in_ok-z.z in
    let h = subst (λ p. OnAt c.args.line (g.R.Rack.held c.args.self.now.rack.now) p (Some z)) (to_z-of_z w32 c.args.place c.ranges.place) c.in_ok-z.ensures in
    let f : SFits w64 c.rate_about.result = search rules in
    (z, h, to_z-of_z w64 c.rate_about.result f ∙ c.rate_about.ensures)
