-- `fill`: one shot more, with its row or without one.
use Rattle.std.proofs.Common.{arith}
use Rattle.slips.proofs.Table.{fill_more, fill_same, fill_all}
use Rattle.slips.proofs.rows.fill.Goals as goal
use Rattle.slips.proofs.rows.fill.Goals.{in-Some, in_default}

pub bounds-table-count : goal.bounds-table-count
bounds-table-count g c =
    (fill_more c.loop-place.invariant (omega arith) c.in-Some.row c.requires c.loop-place.auto.table c.in-Some.ensures).0

pub loop-place-preserved : goal.loop-place-preserved
loop-place-preserved g c = elim c.match-row_at.branch [
  | in-Some w ↦ rw (w.table-is, w.count-is) (fill_more c.loop-place.invariant (omega arith) w.in-Some.row c.requires c.loop-place.auto.table w.in-Some.ensures).1
  | in_default w ↦ rw (w.table-is, w.count-is) (fill_same c.loop-place.invariant (omega arith) w.in_default.ensures)
]

pub returns : goal.returns
returns g c = fill_all c.loop-place.invariant (omega arith)
