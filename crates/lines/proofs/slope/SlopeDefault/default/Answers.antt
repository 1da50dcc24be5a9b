-- `default`: 0 and 1 have no divisor above 1 in common, since 1 has none.
use Rattle.std.proofs.Common.{rules}
use native.Mathlib.Nat.{eq-one_of_dvd-one}
use Rattle.lines.proofs.slope.SlopeDefault.default.Goals as goal

pub invariant_of-result : goal.invariant_of-result
invariant_of-result c = record { ahead = search rules; lowest = λ d p q. eq-one_of_dvd-one q }
