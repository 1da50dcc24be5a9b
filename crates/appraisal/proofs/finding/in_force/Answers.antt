-- `in_force`: the line that the pass carries, with its total.
use Rattle.std.proofs.Common.{rules}
use Rattle.appraisal.proofs.Outcomes.{tells}
use Rattle.appraisal.proofs.finding.in_force.Goals as goal

pub returns : goal.returns
returns g c = tells (g.R.Rack.held c.args.rack.now) c.args.pass c.map.result (search rules)
