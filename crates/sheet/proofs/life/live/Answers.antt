-- `live`: a life on a new sheet.
use Rattle.std.proofs.Common.{[], refl, ap, ◌∙◌, arith}
use Rattle.sheet.specs.Sheets.{sees}
use Rattle.sheet.proofs.Living.{made}
use Rattle.sheet.proofs.life.live.Goals as goal

pub returns : goal.returns
returns g c =
    let begun = c.begin-sheet.ensures in
    let ran = c.run.ensures in
    let ended = c.end-rack.ensures in
    let long = c.if-moments-calls.false in
    let empty = c.is_empty.ensures.0 c.if-not-is_empty.false in
    let v = sees g.R.Rack.held g.R.Rack.capacity g.P.PriceRule.tariff c.run.new.self in
    let rule = ran.rule ∙ begun.rule in
    let room = ran.room ∙ ap g.R.Rack.capacity begun.rack in
    record {
      lives = (empty, omega arith, refl, made _ _ _ _ c.run.new.moments v _ ran.called (ran.life [] (begun.life empty)) (ap g.P.PriceRule.tariff rule) room (ap g.R.Rack.held ended.rack));
      kept = tt;
      room = ap g.R.Rack.capacity ended.rack ∙ room;
      rule = ended.rule ∙ rule;
    }
