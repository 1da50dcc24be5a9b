-- `whole_balance_point`: what the generic one ensures, in the order of whole numbers, and that such a point is the least of the cheapest levels.
use Rattle.std.proofs.Common.{◌≡◌, ℤ, subst}
use Rattle.lines.specs.Slopes.{Each}
use Rattle.balance.specs.Balances.{Answer, LowestKey, Even, Median}
use Rattle.balance.proofs.Levels.{answer_cheapest}
use Rattle.balance.proofs.Orders.{whole_is}
use Rattle.balance.proofs.whole_point.whole_balance_point.Goals as goal

pub returns : goal.returns
returns c =
    let e = c.balance_point.ensures in
    let ps = c.args.pulls.now in
    let r = c.balance_point.result in
    let point = subst (λ le. Answer le ps r) whole_is e.point in
    record {
      point = point;
      only = subst (λ le. Each r (λ b. (t : ℤ) → LowestKey le ps t → t ≡ b.lowest)) whole_is e.only;
      median = subst (λ le. Each r (λ b. Even ps → Median le ps b.lowest)) whole_is e.median;
      cheapest = answer_cheapest ps r point;
    }
