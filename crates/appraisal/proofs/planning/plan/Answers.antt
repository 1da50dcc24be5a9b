-- `plan`: an add more in each turn, and the pivots at last.
use Rattle.std.proofs.Common.{◌≡◌, ℕ, ◌+◌, ◌-◌, ◌*◌, ◌∙◌, ap, length, take, drop, replicate, arith, rules}
use Rattle.std.proofs.lemmas.List.{length-take, length-drop}
use Rattle.law.specs.declared.kinds.Call.TheVariants.{Add, Pivot}
use Rattle.appraisal.proofs.Plans.{add_is, one_more, as_before, planned}
use Rattle.appraisal.proofs.planning.plan.Goals as goal

pub loop-i-preserved : goal.loop-i-preserved
loop-i-preserved g c =
    let step = c.in-Some.ensures.steps in
    let left = ap length step in
    let some = c.loop-i.invariant.index in
    record {
      index = omega arith;
      adds = one_more (g.R.Rack.held c.args.rack.now) c.next.new.self c.loop-i.calls c.loop-i.i c.in-Some.shot (Add c.from.result) (omega (arith, c.count-shots.ensures, c.loop-i.auto.calls)) (add_is c.in-Some.shot c.from.result c.from.ensures) (rw step at c.loop-i.invariant.adds);
      beyond = as_before c.args.calls.now c.loop-i.calls c.loop-i.i (Add c.from.result) c.loop-i.invariant.beyond;
    }

pub returns : goal.returns
returns g c =
    let xs = g.R.Rack.held c.args.rack.now in
    let n = c.count-shots.result in
    let k = 2 * n + 1 - n in
    let cs = c.loop-i.calls in
    let done = c.in-None.ensures.steps.0 in
    let none = ap length done in
    let all : c.loop-i.i ≡ n = omega (arith, c.loop-i.invariant.index, c.count-shots.ensures) in
    let size : length (take k (drop n cs)) ≡ k = omega (arith, length-take k (drop n cs), length-drop n cs, c.loop-i.auto.calls) in
    let pivots : c.fill.new.self ≡ replicate k Pivot = c.fill.ensures.after (λ y e. search rules) ∙ ap (λ (i : ℕ). replicate i Pivot) size in
    planned xs c.args.calls.now cs c.fill.new.self n k (2 * n + 1) c.count-shots.ensures (omega arith) (omega arith) (omega arith) (rw (all, done) at c.loop-i.invariant.adds) (rw all at c.loop-i.invariant.beyond) pivots
