-- `speed_on`: the first shot on the line.
use Rattle.std.proofs.Common.{Some, sym, refl, rules}
use borrow.Author.Tests.{tests}
use Rattle.std.proofs.lemmas.Iterator.{first_from_find}
use Rattle.std.proofs.lemmas.Iterator.Consumers.{YieldsList-from_first}
use Rattle.lines.specs.Lines.{On}
use Rattle.fit.proofs.spanning.speed_on.Goals as goal

pub returns : goal.returns
returns g c =
    let held = g.R.Rack.held c.args.rack.now in
    let x = c.in_ok-shot.shot in
    let h = first_from_find _ _ (Some x) (On c.args.line) (λ y. On c.args.line y → ⊥) c.in_ok-shot.ensures.ran (YieldsList-from_first (λ x. x) (λ left. left) held (cc)) (λ x q k. search (rules, tests)) (λ x q k. search (rules, tests)) in
    record { shot = x; member = record { place = h.1; inside = h.2; is = sym (h.3 x) }; on = h.0; speed = refl }
