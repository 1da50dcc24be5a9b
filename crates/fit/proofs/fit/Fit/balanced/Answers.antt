-- `balanced`: there is room for the pulls of all shots, and they are usable.
use Rattle.std.proofs.Common.{length, map, sym, ap, ◌∙◌, subst, arith, rules, w32, SFits}
use lib.Signed.{le_z}
use Rattle.std.proofs.lemmas.List.{length-map}
use Rattle.std.proofs.lemmas.Int.{to_z-of_z}
use Rattle.balance.specs.Balances.{Usable, Point, Answer}
use Rattle.racks.proofs.Going.{turn, ended}
use Rattle.theory.specs.Offsets.{BalancedOffset}
use Rattle.fit.specs.Offsets.{offset_pull}
use Rattle.fit.specs.Points.{points}
use Rattle.fit.proofs.Mounted.{mounted, usable, balances}
use Rattle.fit.proofs.fit.Fit.balanced.Goals as goal

pub push-requires : goal.push-requires
push-requires g c =
    let pull = offset_pull (g.P.PriceRule.tariff c.args.self.now.rule.now) c.args.incline.a c.args.incline.b in
    let t = turn (g.R.Rack.held c.args.self.now.rack.now) _ _ _ _ _ c.in-Some.shot (cc) c.loop-shot.yielded_by c.in-Some.is c.next.ensures.steps in
    let few = g.R.Rack.bounded c.args.self.now.rack.now in
    let n = ap length c.loop-shot.invariant ∙ length-map c.loop-shot.yielded pull in
    (search rules, omega (arith, t.inside, n))

pub unwrap-requires : goal.unwrap-requires
unwrap-requires g c =
    let tariff = g.P.PriceRule.tariff c.args.self.now.rule.now in
    let held = g.R.Rack.held c.args.self.now.rack.now in
    let a = c.args.incline.a in
    let b = c.args.incline.b in
    let all = ended held _ _ _ _ _ (cc) c.loop-shot.yielded_by c.in-None.is c.next.ensures.steps in
    let e = c.as_slice.ensures.value ∙ c.loop-shot.invariant ∙ ap (map (offset_pull tariff a b)) all in
    let few = g.R.Rack.bounded c.args.self.now.rack.now in
    balances c.whole_balance_point.result c.whole_balance_point.ensures.point (subst Usable (sym e) (usable tariff a b (g.P.PriceRule.fair c.args.self.now.rule.now) held c.requires (omega arith)))

pub returns : goal.returns
returns g c =
    let tariff = g.P.PriceRule.tariff c.args.self.now.rule.now in
    let held = g.R.Rack.held c.args.self.now.rack.now in
    let a = c.args.incline.a in
    let b = c.args.incline.b in
    let all = ended held _ _ _ _ _ (cc) c.loop-shot.yielded_by c.in-None.is c.next.ensures.steps in
    let e = c.as_slice.ensures.value ∙ c.loop-shot.invariant ∙ ap (map (offset_pull tariff a b)) all in
    let r = c.unwrap.result.lowest in
    let f : SFits w32 r = search rules in
    let point = subst (Answer le_z c.as_slice.result.now) c.unwrap.ensures c.whole_balance_point.ensures.point in
    subst (BalancedOffset a b (points tariff held)) (sym (to_z-of_z w32 r f)) (mounted tariff a b held r (subst (λ ps. Point le_z ps r) e point.1))
