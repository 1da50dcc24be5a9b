-- `is_other_on`: some shot on the line has another speed, or none.
use Rattle.std.proofs.Common.{◌≡◌, rules}
use borrow.Author.Tests.{tests}
use Rattle.std.proofs.lemmas.Iterator.{cases_from_any}
use Rattle.std.proofs.lemmas.Iterator.Consumers.{YieldsList-from_first}
use Rattle.lines.specs.Lines.{On}
use Rattle.fit.proofs.Speeds.{other_on}
use Rattle.fit.proofs.spanning.is_other_on.Goals as goal

pub returns : goal.returns
returns g c =
    let held = g.R.Rack.held c.args.rack.now in
    other_on c.args.line held c.args.speed c.any.result (cases_from_any _ _ c.any.result (λ y. On c.args.line y × (y.speed ≡ c.args.speed → ⊥)) (λ y. On c.args.line y × (y.speed ≡ c.args.speed → ⊥) → ⊥) c.any.ensures.ran (YieldsList-from_first (λ x. x) (λ left. left) held (cc)) (λ x q k. search (rules, tests)) (λ x q k. search (rules, tests)))
