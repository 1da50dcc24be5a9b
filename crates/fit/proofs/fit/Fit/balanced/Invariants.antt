-- `balanced`: one pull for each shot so far.
use Rattle.std.proofs.Common.{◌≡◌, map}
use Rattle.fit.specs.Offsets.{offset_pull}
use Rattle.fit.proofs.fit.Fit.balanced.Given as goal

abbrev pub invariant-loop-shot : goal.invariant-loop-shot
invariant-loop-shot g l =
    l.pulls.items ≡ map (offset_pull (g.P.PriceRule.tariff l.self.rule.now) l.incline.a l.incline.b) l.yielded
