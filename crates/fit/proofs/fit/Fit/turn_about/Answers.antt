-- `turn_about`: there is room for the pulls of all shots, and the slope at which they balance is the slope at which the
-- points' pulls do.
use Rattle.std.proofs.Common.{Some, sym, subst, subst₂, arith, rules}
use Rattle.balance.proofs.Orders.{slope_answer}
use Rattle.racks.proofs.Going.{turn, ended}
use Rattle.fit.specs.Turning.{PullAt, Pulls, TurnedAbout}
use Rattle.fit.proofs.Pulling.{pulls_skip, pulls_push, pulls_few}
use Rattle.fit.proofs.Swings.{turned_about}
use Rattle.fit.proofs.Weighing.{unbalanced}
use Rattle.fit.proofs.fit.Fit.turn_about.Goals as goal

pub push-requires : goal.push-requires
push-requires g c =
    let t = turn (g.R.Rack.held c.args.self.now.rack.now) _ _ _ _ _ c.in-Some.shot (cc) c.loop-shot.yielded_by c.in-Some.is c.next.ensures.steps in
    let few = g.R.Rack.bounded c.args.self.now.rack.now in
    let n = pulls_few (g.P.PriceRule.tariff c.args.self.now.rule.now) c.args.z c.loop-shot.yielded c.loop-shot.pulls.items c.loop-shot.invariant in
    (search rules, omega (arith, t.inside, n))

pub loop-shot-preserved-in-Some-turn_pull : goal.loop-shot-preserved-in-Some-turn_pull
loop-shot-preserved-in-Some-turn_pull g c =
    let tariff = g.P.PriceRule.tariff c.args.self.now.rule.now in
    let y = c.in-Some.shot in
    let q = c.in-Some-turn_pull.pull in
    let at = subst (λ p. PullAt c.args.z y p q) c.prices_of.ensures.value c.in-Some-turn_pull.ensures in
    subst (Pulls tariff c.args.z _) (sym c.push.ensures.items) (pulls_push tariff c.args.z c.loop-shot.yielded c.loop-shot.pulls.items y q at c.loop-shot.invariant)

pub loop-shot-preserved : goal.loop-shot-preserved
loop-shot-preserved g c =
    pulls_skip (g.P.PriceRule.tariff c.args.self.now.rule.now) c.args.z c.loop-shot.yielded c.loop-shot.pulls.items c.in-Some.shot c.in_default.ensures c.loop-shot.invariant

pub returns : goal.returns
returns g c =
    let tariff = g.P.PriceRule.tariff c.args.self.now.rule.now in
    let held = g.R.Rack.held c.args.self.now.rack.now in
    let all = ended held _ _ _ _ _ (cc) c.loop-shot.yielded_by c.in-None.is c.next.ensures.steps in
    let pulls = subst₂ (Pulls tariff c.args.z) all (sym c.as_slice.ensures.value) c.loop-shot.invariant in
    turned_about tariff c.args.z held _ pulls c.in_ok-balance.balance.lowest (slope_answer _ (Some c.in_ok-balance.balance) c.in_ok-balance.ensures.point).1 c.about.result c.about.ensures

pub returns-in_err-balance : goal.returns-in_err-balance
returns-in_err-balance g c =
    let tariff = g.P.PriceRule.tariff c.args.self.now.rule.now in
    let held = g.R.Rack.held c.args.self.now.rack.now in
    let all = ended held _ _ _ _ _ (cc) c.loop-shot.yielded_by c.in-None.is c.next.ensures.steps in
    let pulls = subst₂ (Pulls tariff c.args.z) all (sym c.as_slice.ensures.value) c.loop-shot.invariant in
    subst (TurnedAbout tariff held c.args.z) (sym c.from_residual.ensures) (unbalanced tariff c.args.z held _ (g.P.PriceRule.fair c.args.self.now.rule.now) c.as_slice.ensures.fits pulls c.in_err-balance.ensures.point)
