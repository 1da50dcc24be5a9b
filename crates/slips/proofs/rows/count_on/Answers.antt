-- `count_on`: as many as pass the test.
use Rattle.std.proofs.Common.{◌∙◌, rules}
use borrow.Author.Tests.{tests}
use Rattle.std.proofs.lemmas.Iterator.Consumers.{YieldsList-from_first, YieldsList-from_filter, YieldsList-at, count_from_yields_List}
use Rattle.slips.proofs.Counts.{on_test, decided, all_that_pass}
use Rattle.slips.proofs.rows.count_on.Goals as goal

pub returns : goal.returns
returns g c =
    let held = g.R.Rack.held c.args.rack.now in
    let line = c.args.line in
    count_from_yields_List c.filter.result c.count.result c.count.ensures.ran (YieldsList-from_filter _ (on_test line) (YieldsList-at c.filter.ensures.source (YieldsList-from_first (λ x. x) (λ left. left) held c.iter.ensures.shots)) c.filter.ensures.closure (λ x b q k. (search (rules, tests), decided line x b (search (rules, tests)))))
    ∙ all_that_pass line held
