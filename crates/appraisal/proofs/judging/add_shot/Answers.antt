-- `add_shot`: the shot at the place after those held before is there, and is that of the entry.
use Rattle.std.proofs.Common.{◌≤◌, length, arith, rules}
use Rattle.appraisal.proofs.Entering.{entered, is_read, is_last}
use Rattle.appraisal.proofs.judging.add_shot.Goals as goal

pub unwrap-shot-requires : goal.unwrap-shot-requires
unwrap-shot-requires g c =
    let b = g.R.Rack.bounded c.add.new.self in
    let added = c.in_ok-add.ensures.added in
    let few : length (g.R.Rack.held c.add.new.self) ≤ 512 = omega arith in
    is_read (g.R.Rack.held c.args.rack.now) (g.R.Rack.held c.add.new.self) added.1.0 c.count-place.result added.1.2 few c.count-place.ensures c.read.result c.read.ensures

pub returns-clause-taken : goal.returns-clause-taken
returns-clause-taken g c =
    let b = g.R.Rack.bounded c.add.new.self in
    let added = c.in_ok-add.ensures.added in
    let few : length (g.R.Rack.held c.add.new.self) ≤ 512 = omega arith in
    let last = is_last (g.R.Rack.held c.args.rack.now) (g.R.Rack.held c.add.new.self) added.1.0 c.count-place.result added.1.2 few c.count-place.ensures c.unwrap-shot.result (rw c.unwrap-shot.ensures at c.read.ensures) in
    (entered (g.R.Rack.capacity c.args.rack.now) (g.R.Rack.held c.args.rack.now) (g.R.Rack.held c.add.new.self) c.args.text.now c.in_ok-entry.entry (search rules) added, (c.count-place.ensures, last))
