use Rattle.slips.proofs.Table.{Filled}
use Rattle.slips.proofs.rows.fill.Given as goal

-- the rows of the shots on the line so far are written
abbrev pub invariant-loop-place : goal.invariant-loop-place
invariant-loop-place g l =
    Filled (g.P.PriceRule.tariff l.fit.rule.now) l.line (g.R.Rack.held l.fit.rack.now) l.initial.table l.place l.count l.table
