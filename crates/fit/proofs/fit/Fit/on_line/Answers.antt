-- `on_line`: the shot that was read, if it is on the line.
use Rattle.std.proofs.Common.{sym, subst, w32}
use Rattle.std.proofs.lemmas.Int.{to_z-of_z}
use Rattle.racks.specs.Racks.{Read}
use Rattle.fit.specs.Rates.{OnAt}
use Rattle.fit.proofs.Held.{on_at}
use Rattle.fit.proofs.fit.Fit.on_line.Goals as goal

pub returns : goal.returns
returns g c =
    let held = g.R.Rack.held c.args.self.now.rack.now in
    let read = subst (λ p. Read held p c.read.result) (to_z-of_z w32 c.args.place c.ranges.place) c.read.ensures in
    subst (OnAt c.args.line held c.args.place) (sym c.then_some.ensures) (on_at c.args.line held c.args.place c.read.result c.in_ok-shot.shot c.passes_through.result read c.in_ok-shot.ensures.value c.passes_through.ensures)
