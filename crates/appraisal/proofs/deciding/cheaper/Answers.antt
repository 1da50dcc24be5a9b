-- `cheaper`: the first place that fails has two rates and a turned line.
use Rattle.std.proofs.Common.{◌≡◌, pos, refl, ◌∙◌, arith, w32, w64, SFits, to_z, rules}
use Rattle.std.proofs.lemmas.Int.{ints, to_z-of_z}
use Rattle.appraisal.proofs.Verdicts.{some_turn, shown}
use Rattle.appraisal.proofs.deciding.cheaper.Goals as goal

pub unwrap-turned-requires : goal.unwrap-turned-requires
unwrap-turned-requires g c =
    let b = g.R.Rack.bounded c.args.fit.now.rack.now in
    let e : to_z w32 c.args.place ≡ pos c.args.place = omega (arith, ints, c.requires.inside) in
    some_turn c.args.line (g.R.Rack.held c.args.fit.now.rack.now) c.args.place (to_z w32 c.args.place) e c.requires c.turned_line.result c.turned_line.ensures.descends

pub returns : goal.returns
returns g c =
    let b = g.R.Rack.bounded c.args.fit.now.rack.now in
    let e : to_z w32 c.args.place ≡ pos c.args.place = omega (arith, ints, c.requires.inside) in
    let r = c.unwrap-rise.result in
    let s = c.unwrap-fall.result in
    let t = c.total.result in
    let fr : SFits w64 r = search rules in
    let fs : SFits w64 s = search rules in
    let ft : SFits w64 t = search rules in
    (refl, shown c.args.line (g.R.Rack.held c.args.fit.now.rack.now) c.args.place (to_z w32 c.args.place) e c.requires r s _ _ c.unwrap-turned.result c.from.result (rw c.unwrap-rise.ensures at c.rise_rate.ensures) (rw c.unwrap-fall.ensures at c.fall_rate.ensures) (rw c.unwrap-turned.ensures at c.turned_line.ensures.descends) (to_z-of_z w64 r fr) (to_z-of_z w64 s fs) c.from.ensures.0 (c.from.ensures.1 ∙ to_z-of_z w64 t ft ∙ c.total.ensures.value))
