-- `first_line`: every shot before the one that gave a line has the first one's speed.
use Rattle.std.proofs.Common.{rules, sym, ◌∙◌}
use borrow.Author.Tests.{tests}
use Rattle.fit.proofs.Laying.{first_laid}
use Rattle.fit.proofs.first.first_line.Goals as goal

pub returns : goal.returns
returns g c =
    first_laid (g.R.Rack.held c.args.rack.now) c.next.new.self c.in_ok-first.first (sym c.iter-shots.ensures.shots ∙ c.in_ok-first.ensures.steps) _ _ (λ a r q k. search (rules, tests)) (λ x r k. search (rules, tests)) c.find_map.result c.find_map.ensures.runs
