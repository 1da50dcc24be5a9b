-- `reduced`: the divisor is above 0 and fits, and its quotients are the only slope of that value.
use Rattle.std.proofs.Common.{pos, nat_abs, ◌<ℤ◌, sym, subst, subst₂, arith}
use Rattle.std.proofs.lemmas.Int.{ints}
use Rattle.lines.specs.Divisors.{Coprime}
use Rattle.lines.proofs.Quotients.{Found, found, quot_fits, quot_back, quot_ahead, quot_lowest, quot_reduced}
use Rattle.lines.proofs.Ghosts.{one_slope}
use Rattle.lines.proofs.reduce.reduced.Goals as goal

here : (c : goal.After-gcd-divisor) → Found c.args.rise c.args.run c.gcd-divisor.result
here c =
    found c.args.rise c.args.run c.unsigned_abs.result c.gcd-divisor.result c.ranges.rise c.ranges.run c.if-run-le0.false c.unsigned_abs.ensures.value c.gcd-divisor.ensures

pub overflow_cast-divisor : goal.overflow_cast-divisor
overflow_cast-divisor c = omega (arith, ints, (here c).small)

pub nonzero_div-result : goal.nonzero_div-result
nonzero_div-result c = let k = here c in (k.above, quot_fits k.top k.small)

pub nonzero_div-result-2 : goal.nonzero_div-result-2
nonzero_div-result-2 c = let k = here c in (k.above, quot_fits k.bottom k.small)

pub invariant_of-result : goal.invariant_of-result
invariant_of-result c =
    let k = here c in
    let a = quot_back k.top k.small in
    let b = quot_back k.bottom k.small in
    record {
      ahead = subst (λ z. pos 0 <ℤ z) (sym b) (quot_ahead k);
      lowest = subst₂ (λ y z. Coprime (nat_abs y) (nat_abs z)) (sym a) (sym b) (quot_lowest k);
    }

pub returns : goal.returns
returns c =
    let k = found c.args.rise c.args.run c.unsigned_abs.result c.gcd-divisor.result c.ranges.rise c.ranges.run c.if-run-le0.false c.unsigned_abs.ensures.value c.gcd-divisor.ensures in
    let r = quot_reduced k _ (quot_back k.top k.small) (quot_back k.bottom k.small) in
    record { value = r; only = λ t w. one_slope _ t c.args.rise c.args.run k.ahead r.worth w }
