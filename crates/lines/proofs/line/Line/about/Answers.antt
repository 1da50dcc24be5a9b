-- `about`: the slope was found in range, so it makes a line, and C puts the shot on it.
use Rattle.std.proofs.Common.{◌≡◌, ◌∙◌, arith, w32, to_z, of_z}
use Rattle.std.proofs.lemmas.Int.{ints}
use Rattle.lines.specs.About.{Fits}
use Rattle.lines.proofs.Abouts.{about_line, about_on}
use Rattle.lines.proofs.Ghosts.{facts}
use Rattle.lines.proofs.line.Line.about.Goals as goal

pub invariant_of-result : goal.invariant_of-result
invariant_of-result c =
    let t = c.args.slope in
    let k : Fits t = record { fine = grind (arith, ints); fall = grind (arith, ints); rise = grind (arith, ints) } in
    facts (omega (arith, ints)) (omega (arith, ints)) (omega (arith, ints)) (about_line t c.intercept.result k c.intercept.ensures.small.0 c.intercept.ensures.small.1)

pub returns : goal.returns
returns c =
    let ea : to_z w32 (of_z w32 c.args.slope.run) ≡ c.args.slope.run = omega (arith, ints) in
    let eb : to_z w32 (of_z w32 c.args.slope.rise) ≡ c.args.slope.rise = omega (arith, ints) in
    (ea, eb, about_on _ _ _ c.args.shot (omega (arith, ints) ∙ c.intercept.ensures.value))
