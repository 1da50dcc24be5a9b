-- `offset`: the balanced offset is the lowest of the cheapest.
use Rattle.std.proofs.Common.{sym, subst, subst₂, w32, SFits, rules}
use Rattle.std.proofs.lemmas.Int.{to_z-of_z}
use Rattle.theory.specs.Offsets.{BalancedOffset}
use Rattle.fit.specs.Points.{points}
use Rattle.fit.proofs.Mounted.{lowest_best}
use Rattle.fit.proofs.fit.Fit.offset.Goals as goal

pub returns-clause-cheapest : goal.returns-clause-cheapest
returns-clause-cheapest g c =
    let tariff = g.P.PriceRule.tariff c.args.self.now.rule.now in
    let held = g.R.Rack.held c.args.self.now.rack.now in
    let fa = c.ranges.a in
    let fb = c.ranges.b in
    let i = simp to_z-of_z at c.in_ok-incline.ensures in
    let r = c.balanced.result in
    let f : SFits w32 r = search rules in
    let w = subst₂ (λ a b. BalancedOffset a b (points tariff held) r) i.1 i.2 c.balanced.ensures in
    lowest_best tariff c.args.a c.args.b (g.P.PriceRule.fair c.args.self.now.rule.now) held _ i.0 (subst (BalancedOffset c.args.a c.args.b (points tariff held)) (sym (to_z-of_z w32 r f)) w)
