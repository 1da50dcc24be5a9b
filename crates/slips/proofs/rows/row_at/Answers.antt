-- `row_at`: both rates are those of the shot at the place, or that shot is off the line.
use Rattle.std.proofs.Common.{◌≡◌, pos, arith, w32, w64, SFits, to_z, rules}
use Rattle.std.proofs.lemmas.Int.{ints, to_z-of_z}
use Rattle.slips.proofs.Table.{row_made}
use Rattle.slips.proofs.rows.row_at.Goals as goal

pub returns : goal.returns
returns g c =
    let b = g.R.Rack.bounded c.args.fit.now.rack.now in
    let at : to_z w32 c.args.place ≡ pos c.args.place = omega (arith, ints) in
    let r : SFits w64 c.in_ok-rise.rise = search rules in
    let f : SFits w64 c.in_ok-fall.fall = search rules in
    row_made (g.P.PriceRule.tariff c.args.fit.now.rule.now) c.args.line (g.R.Rack.held c.args.fit.now.rack.now) c.args.place _ c.requires at _ _ _ _ c.in_ok-rise.ensures c.in_ok-fall.ensures (to_z-of_z w64 _ r) (to_z-of_z w64 _ f)
