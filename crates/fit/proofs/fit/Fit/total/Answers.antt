-- `total`: the sum so far is that of the shots so far, and each adds little enough for the sum to fit.
use Rattle.std.proofs.Common.{length, pos, ◌≤ℤ◌, sym, refl, ap, ◌∙◌, subst, arith}
use Rattle.std.proofs.lemmas.Int.{ints}
use Rattle.lines.specs.Sums.{sum_z}
use Rattle.lines.proofs.Sums.{sum_nn}
use Rattle.racks.proofs.Going.{turn, ended}
use Rattle.fit.specs.Totals.{paid, Bounded, Even}
use Rattle.fit.proofs.Running.{run_more}
use Rattle.fit.proofs.Adding.{shared, paid_nn, total_bounded, total_even, total_points}
use Rattle.fit.proofs.fit.Fit.total.Goals as goal

pub overflow_add-sum : goal.overflow_add-sum
overflow_add-sum g c =
    let tariff = g.P.PriceRule.tariff c.args.self.now.rule.now in
    let t = turn (g.R.Rack.held c.args.self.now.rack.now) _ _ _ _ _ c.in-Some.shot (cc) c.loop-shot.yielded_by c.in-Some.is c.next.ensures.steps in
    let q = shared tariff c.args.line c.in-Some.shot c.prices_of.result _ c.prices_of.ensures.value c.prices_of.ensures.low c.share-sum.ensures.value c.share-sum.ensures.bound in
    let few = g.R.Rack.bounded c.args.self.now.rack.now in
    (run_more (paid tariff c.args.line) 383984000000 c.loop-shot.yielded c.in-Some.shot _ _ _ (omega (arith, t.inside)) (omega arith) c.loop-shot.invariant refl q.is q.size).0

pub loop-shot-preserved : goal.loop-shot-preserved
loop-shot-preserved g c =
    let tariff = g.P.PriceRule.tariff c.args.self.now.rule.now in
    let t = turn (g.R.Rack.held c.args.self.now.rack.now) _ _ _ _ _ c.in-Some.shot (cc) c.loop-shot.yielded_by c.in-Some.is c.next.ensures.steps in
    let q = shared tariff c.args.line c.in-Some.shot c.prices_of.result _ c.prices_of.ensures.value c.prices_of.ensures.low c.share-sum.ensures.value c.share-sum.ensures.bound in
    let few = g.R.Rack.bounded c.args.self.now.rack.now in
    (run_more (paid tariff c.args.line) 383984000000 c.loop-shot.yielded c.in-Some.shot _ _ _ (omega (arith, t.inside)) (omega arith) c.loop-shot.invariant refl q.is q.size).1

pub returns : goal.returns
returns g c =
    let tariff = g.P.PriceRule.tariff c.args.self.now.rule.now in
    let held = g.R.Rack.held c.args.self.now.rack.now in
    let line = c.args.line in
    let all = ended held _ _ _ _ _ (cc) c.loop-shot.yielded_by c.in-None.is c.next.ensures.steps in
    let e = c.loop-shot.invariant.is ∙ ap (sum_z (paid tariff line)) all in
    let b = g.R.Rack.bounded c.args.self.now.rack.now in
    let high = c.loop-shot.invariant.high in
    let n = ap length all in
    record {
      value = e;
      points = e ∙ total_points tariff line held;
      size = omega (arith, ints);
      least = subst (λ s. pos 0 ≤ℤ s) (sym e) (sum_nn (paid tariff line) held (paid_nn tariff line));
      most = subst (Bounded line held) (sym e) (total_bounded tariff line held (g.P.PriceRule.fair c.args.self.now.rule.now) (omega arith));
      even = subst (Even tariff line held) (sym e) (total_even tariff line held);
    }
