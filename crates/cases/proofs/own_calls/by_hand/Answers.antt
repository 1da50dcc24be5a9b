-- `by_hand`: each call carries the life on.
use Rattle.std.proofs.Common.{refl, ap, ◌∙◌}
use Rattle.std.proofs.lemmas.Int.{to_z-of_z}
use Rattle.cases.proofs.Calling.{gives}
use Rattle.cases.proofs.own_calls.by_hand.Goals as goal

pub returns : goal.returns
returns g c empty =
    let begun = c.begin-sheet.ensures in
    let added = c.add.ensures in
    let pivoted = c.pivot.ensures in
    let struck = c.strike.ensures in
    let l1 = added.called.life _ (begun.life empty) in
    let l2 = pivoted.called.life _ l1 in
    let l3 = struck.called.life _ l2 in
    let l4 = c.mount.ensures.called.life _ l3 in
    let l5 = c.slip.ensures.called.life _ l4 in
    let l6 = c.issue.ensures.called.life _ l5 in
    let prices = struck.called.turn.prices ∙ pivoted.called.turn.prices ∙ added.called.turn.prices ∙ ap g.P.PriceRule.tariff begun.rule in
    let room = struck.called.turn.room ∙ pivoted.called.turn.room ∙ added.called.turn.room ∙ ap g.R.Rack.capacity begun.rack in
    let f1 = c.ranges.speed in
    let f2 = c.ranges.lead in
    let f3 = c.ranges.place in
    let added_entry = simp to_z-of_z at c.new.ensures in
    gives l6 prices room (simp (to_z-of_z, added_entry) refl) c.issue.ensures.line
