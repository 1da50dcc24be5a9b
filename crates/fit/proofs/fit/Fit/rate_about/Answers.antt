-- `rate_about`: the sum so far is that of the shots so far, and each adds little enough for the sum to fit.
use Rattle.std.proofs.Common.{refl, ap, ◌∙◌, arith}
use Rattle.lines.specs.Lines.{any}
use Rattle.lines.specs.Sums.{sum_z}
use Rattle.racks.proofs.Going.{turn, ended}
use Rattle.fit.specs.Points.{point}
use Rattle.fit.proofs.Running.{run_more, sum_map}
use Rattle.fit.proofs.Lifting.{told}
use Rattle.fit.proofs.fit.Fit.rate_about.Goals as goal

pub overflow_add-sum : goal.overflow_add-sum
overflow_add-sum g c =
    let tariff = g.P.PriceRule.tariff c.args.self.now.rule.now in
    let t = turn (g.R.Rack.held c.args.self.now.rack.now) _ _ _ _ _ c.in-Some.shot (cc) c.loop-shot.yielded_by c.in-Some.is c.next.ensures.steps in
    let q = told g.W.Way.part g.W.Way.lift_of g.met.W.Way.lifts tariff c.args.line c.args.z c.in-Some.shot c.prices_of.result c.lift.result _ c.prices_of.ensures.value c.prices_of.ensures.low c.lift.ensures.value c.lift.ensures.small c.lift_price-sum.ensures in
    let few = g.R.Rack.bounded c.args.self.now.rack.now in
    (run_more (λ y. g.W.Way.part (any c.args.line) (point tariff c.args.z) (point tariff y)) 8000000 c.loop-shot.yielded c.in-Some.shot _ _ _ (omega (arith, t.inside)) (omega arith) c.loop-shot.invariant refl q.is q.size).0

pub loop-shot-preserved : goal.loop-shot-preserved
loop-shot-preserved g c =
    let tariff = g.P.PriceRule.tariff c.args.self.now.rule.now in
    let t = turn (g.R.Rack.held c.args.self.now.rack.now) _ _ _ _ _ c.in-Some.shot (cc) c.loop-shot.yielded_by c.in-Some.is c.next.ensures.steps in
    let q = told g.W.Way.part g.W.Way.lift_of g.met.W.Way.lifts tariff c.args.line c.args.z c.in-Some.shot c.prices_of.result c.lift.result _ c.prices_of.ensures.value c.prices_of.ensures.low c.lift.ensures.value c.lift.ensures.small c.lift_price-sum.ensures in
    let few = g.R.Rack.bounded c.args.self.now.rack.now in
    (run_more (λ y. g.W.Way.part (any c.args.line) (point tariff c.args.z) (point tariff y)) 8000000 c.loop-shot.yielded c.in-Some.shot _ _ _ (omega (arith, t.inside)) (omega arith) c.loop-shot.invariant refl q.is q.size).1

pub returns : goal.returns
returns g c =
    let tariff = g.P.PriceRule.tariff c.args.self.now.rule.now in
    let held = g.R.Rack.held c.args.self.now.rack.now in
    let part = g.W.Way.part (any c.args.line) (point tariff c.args.z) in
    let all = ended held _ _ _ _ _ (cc) c.loop-shot.yielded_by c.in-None.is c.next.ensures.steps in
    c.loop-shot.invariant.is ∙ ap (sum_z (λ y. part (point tariff y))) all ∙ sum_map part (point tariff) held
