-- `turned_at`: a place that fails has a turned line.
use Rattle.std.proofs.Common.{◌≡◌, pos, subst₂, arith, w32, to_z}
use Rattle.std.proofs.lemmas.Int.{ints}
use Rattle.fit.specs.Turning.{TurnedAt}
use Rattle.sheet.proofs.Turns.{is_turned}
use Rattle.sheet.proofs.sheet.Sheet.turned_at.Goals as goal

pub unwrap-requires : goal.unwrap-requires
unwrap-requires g c =
    let b = g.R.Rack.bounded c.args.self.now.rack in
    let e : to_z w32 c.args.place ≡ pos c.args.place = omega (arith, ints, c.requires.inside) in
    let d = rw (c.fit.ensures.rack, c.fit.ensures.rule) at c.turned_line.ensures.descends in
    is_turned _ c.args.line _ c.args.place (to_z w32 c.args.place) c.turned_line.result e c.requires d

pub returns : goal.returns
returns g c =
    let b = g.R.Rack.bounded c.args.self.now.rack in
    let e : to_z w32 c.args.place ≡ pos c.args.place = omega (arith, ints, c.requires.inside) in
    subst₂ (TurnedAt (g.P.PriceRule.tariff c.args.self.now.rule) (g.R.Rack.held c.args.self.now.rack)) e c.unwrap.ensures (rw (c.fit.ensures.rack, c.fit.ensures.rule) at c.turned_line.ensures.turned)
