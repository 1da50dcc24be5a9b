-- Each turn leaves the first part behind; the last one answers it.
use Rattle.std.proofs.Common.{◌≡◌, suc, ◌+◌, ◌-◌, drop, Some, None, sym, ap, ◌∙◌, arith}
use Rattle.std.proofs.lemmas.List.{length-drop, take_rest}
use Rattle.std.specs.List.{slice_get}
use Rattle.fields.specs.Fields.{parts}
use Rattle.fields.proofs.Cuts.{cut, first_part, later_part, no_later_part}
use Rattle.fields.proofs.fields.field.Goals as goal

pub loop-preserved : goal.loop-preserved
loop-preserved c =
    let xs = c.args.line.now in
    let s = c.loop.start in
    let n = c.in_ok-start.field-0 in
    let left = c.args.k - (c.loop.counter + 1) in
    let turns : c.args.k - c.loop.counter ≡ suc left = omega arith in
    let tab = cut (drop s xs) (Some n) (sym c.in_ok-start.was ∙ simp (take_rest xs s) at c.first_tab.ensures) in
    record { same = c.loop.invariant.same ∙ ap (slice_get (parts (drop s xs))) turns ∙ later_part xs s n left tab; within = omega (arith, tab.0, length-drop s xs) }

pub returns-in_err-start-clause-bytes : goal.returns-in_err-start-clause-bytes
returns-in_err-start-clause-bytes c =
    let xs = c.args.line.now in
    let s = c.loop.start in
    let left = c.args.k - (c.loop.counter + 1) in
    let turns : c.args.k - c.loop.counter ≡ suc left = omega arith in
    let whole = cut (drop s xs) None (sym c.in_err-start.was ∙ simp (take_rest xs s) at c.first_tab.ensures) in
    rw c.from_residual.ensures (sym (c.loop.invariant.same ∙ ap (slice_get (parts (drop s xs))) turns ∙ no_later_part (drop s xs) left whole))

pub returns-clause-bytes : goal.returns-clause-bytes
returns-clause-bytes c =
    let xs = c.args.line.now in
    let s = c.loop.start in
    let rest = take_rest xs s in
    let end = simp rest at c.unwrap_or-end.ensures in
    let last : c.args.k - c.loop.counter ≡ 0 = omega arith in
    let part = cut (drop s xs) c.first_tab-2.result (simp rest at c.first_tab-2.ensures) in
    rw (rest, end) (sym (c.loop.invariant.same ∙ ap (slice_get (parts (drop s xs))) last ∙ first_part (drop s xs) c.first_tab-2.result part))
