-- `turned_line`: the turn about the shot that was read, and what it says of the line before.
use Rattle.std.proofs.Common.{subst, w32}
use Rattle.std.proofs.lemmas.Int.{to_z-of_z}
use Rattle.racks.specs.Racks.{Read}
use Rattle.fit.proofs.Held.{read_held, read_none}
use Rattle.fit.proofs.Swings.{turned_at, descends, lowest_at}
use Rattle.fit.proofs.fit.Fit.turned_line.Goals as goal

pub returns : goal.returns
returns g c =
    let tariff = g.P.PriceRule.tariff c.args.self.now.rule.now in
    let held = g.R.Rack.held c.args.self.now.rack.now in
    let p = c.args.place in
    let z = c.in_ok-z.z in
    let read = subst (λ q. Read held q c.read.result) (to_z-of_z w32 p c.ranges.place) c.read.ensures in
    let h = read_held held p c.read.result z read c.in_ok-z.ensures.value in
    record {
      turned = turned_at tariff held p z h.0 h.1 c.turn_about.result c.turn_about.ensures;
      descends = descends tariff held p z h.0 h.1 c.turn_about.result c.turn_about.ensures;
      lowest = lowest_at tariff held p z h.0 h.1 c.turn_about.result c.turn_about.ensures (g.P.PriceRule.fair c.args.self.now.rule.now);
    }

pub returns-in_err-z-clause-descends : goal.returns-in_err-z-clause-descends
returns-in_err-z-clause-descends g c =
    let held = g.R.Rack.held c.args.self.now.rack.now in
    let read = subst (λ q. Read held q c.read.result) (to_z-of_z w32 c.args.place c.ranges.place) c.read.ensures in
    let v = c.in_err-z.ensures.value in
    λ z h. absurd (read_none held c.args.place c.read.result read v h)
