-- `pull`: neither the key nor a price wraps.
use Rattle.std.proofs.Common.{◌*◌}
use Rattle.fit.proofs.Crossing.{keyed, same_pull}
use Rattle.fit.proofs.mounting.Incline.pull.Goals as goal

pub overflow_sub-result : goal.overflow_sub-result
overflow_sub-result c = (keyed c.args.shot c.args.self.in_range c.from.ensures c.from-2.ensures).fits

pub returns : goal.returns
returns c =
    same_pull (keyed c.args.shot c.args.self.in_range c.from.ensures c.from-2.ensures).value
    (λ i. c.from-3.ensures i * c.from-4.ensures i)
    (λ i. c.from-5.ensures i * c.from-6.ensures i)
