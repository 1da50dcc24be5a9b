-- `rows_of_slip`: a slip with the same rows, of which 512 are enough.
use Rattle.std.proofs.Common.{arith, rules}
use Rattle.sheet.proofs.Slipping.{as_long}
use Rattle.sheet.proofs.sheet.Sheet.rows_of_slip.Goals as goal

pub returns : goal.returns
returns g c =
    let b = g.R.Rack.bounded c.args.self.now.rack in
    as_long _ _ c.min.result _ _ (search rules) (search rules) (omega arith) c.slip.ensures.called
