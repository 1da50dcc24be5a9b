-- `has_two_speeds`: one speed on the line, and another.
use Rattle.std.proofs.Common.{Decides, rules}
use borrow.Author.Tests.{tests}
use Rattle.fit.specs.Spanning.{TwoSpeeds}
use Rattle.fit.proofs.Held.{option_weaker}
use Rattle.fit.proofs.Speeds.{two_speeds, spans_all}
use Rattle.fit.proofs.spanning.has_two_speeds.Goals as goal

pub returns : goal.returns
returns g c =
    let l = c.args.line in
    let xs = g.R.Rack.held c.args.rack.now in
    let d : Decides c.is_some_and.result (TwoSpeeds l xs) = two_speeds l xs c.speed_on.result c.is_some_and.result c.speed_on.ensures (option_weaker c.speed_on.result _ _ _ (λ v k. search (rules, tests)) c.is_some_and.ensures) in
    record { shots = d; points = spans_all l xs c.is_some_and.result d }
