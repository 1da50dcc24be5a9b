-- `find_best`: what came of the life of the plan.
use Rattle.std.proofs.Common.{◌≡◌, ◌-◌, ◌≤◌, length, get_or, None, arith, MatchOption, rules}
use Rattle.std.specs.Option.{IsSomeAnd}
use Rattle.law.specs.declared.kinds.Moment.{Moment}
use Rattle.appraisal.specs.Finding.{Tells}
use Rattle.appraisal.specs.Planning.{plan_of}
use Rattle.appraisal.proofs.Outcomes.{as_planned, finds}
use Rattle.appraisal.proofs.finding.find_best.Goals as goal

pub returns-clause-finds : goal.returns-clause-finds
returns-clause-finds g c =
    let xs = g.R.Rack.held c.args.rack.now in
    let fresh = g.F.Rack.held c.args.fresh in
    let ys = g.F.Rack.held c.live-lived.result.rack in
    let cap = g.F.Rack.capacity c.args.fresh in
    let before = c.args.moments.now in
    let after = c.live-lived.new.moments in
    let p = c.in-Some.ensures in
    let fits : length (plan_of xs) ≤ length c.args.calls.now = omega (arith, p) in
    let told : MatchOption c.live-lived.result.count (c.map-found.result ≡ None) (λ n. IsSomeAnd c.map-found.result (λ f. (f.count ≡ n) × (d : Moment) × Tells xs (get_or after (n - 1) d).pass f.best.0)) = search rules in
    let lives = as_planned xs fresh ys c.args.calls.now c.plan.new.calls before after cap c.in-Some.planned c.live-lived.result.count p c.live-lived.ensures.lives in
    finds cap (length c.args.calls.now) xs fresh ys before after c.live-lived.result.count c.map-found.result fits c.live-lived.auto.moments lives told
