-- `Line::new`: past the tests the three numbers make a line, and a divisor above 1 rules it out.
use Rattle.std.proofs.Common.{arith, w32}
use Rattle.std.proofs.lemmas.Int.{ints, to_z-of_z}
use Rattle.lines.proofs.Ghosts.{facts, made}
use Rattle.lines.proofs.Lowest.{coprime_swap, coprime_gcd, gcd_coprime}
use Rattle.lines.proofs.Quotients.{gcd_back}
use Rattle.lines.proofs.line.Line.new.Goals as goal

pub returns-then-gcd-ne1 : goal.returns-then-gcd-ne1
returns-then-gcd-ne1 c l =
    let g = gcd_back c.args.b c.args.a c.unsigned_abs.result c.gcd.result c.ranges.b c.ranges.a c.unsigned_abs.ensures.value c.gcd.ensures in
    c.if-gcd-ne1.true (coprime_gcd g (coprime_swap l.lowest))

pub invariant_of-result : goal.invariant_of-result
invariant_of-result c =
    let g = gcd_back c.args.b c.args.a c.unsigned_abs.result c.gcd.result c.ranges.b c.ranges.a c.unsigned_abs.ensures.value c.gcd.ensures in
    facts (to_z-of_z w32 c.args.a c.ranges.a) (to_z-of_z w32 c.args.b c.ranges.b) (to_z-of_z w32 c.args.c c.ranges.c)
    (record {
      ahead = grind (arith, ints);
      fine = grind (arith, ints);
      fall = grind (arith, ints);
      rise = grind (arith, ints);
      low = grind (arith, ints);
      high = grind (arith, ints);
      lowest = coprime_swap (gcd_coprime g c.if-gcd-ne1.false);
    })

pub returns : goal.returns
returns c = made _ (to_z-of_z w32 c.args.a c.ranges.a) (to_z-of_z w32 c.args.b c.ranges.b) (to_z-of_z w32 c.args.c c.ranges.c)
