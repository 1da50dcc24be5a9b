-- `slip`: the rows of the line in force, or too short a table.
use Rattle.std.proofs.Common.{◌≡◌, Some, sym, ◌∙◌, arith}
use Rattle.sheet.specs.Sheets.{sees}
use Rattle.sheet.proofs.Slipping.{slipped, writes, in_life}
use Rattle.sheet.proofs.sheet.Sheet.slip.Goals as goal

pub returns : goal.returns
returns g c =
    let found : c.in_force.result ≡ Some c.in_ok-line.line = grind arith in
    let e = sym c.in_force.ensures ∙ found in
    let v = sees g.R.Rack.held g.R.Rack.capacity g.P.PriceRule.tariff c.args.self.now in
    let w = rw (c.fit.ensures.rack, c.fit.ensures.rule) at c.write_rows.ensures in
    let rows = writes v c.args.table.now c.write_rows.new.table c.in_ok-line.line c.write_rows.result e w in
    rw c.ok_or-2.ensures.value (record {
      called = slipped v c.args.table.now c.write_rows.new.table c.in_ok-line.line c.write_rows.result e w;
      rows = rows;
      life = λ past l. in_life past v c.args.table.now _ c.write_rows.new.table rows l;
    })
