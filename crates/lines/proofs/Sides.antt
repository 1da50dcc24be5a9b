-- What the side of a shot tells of the sign of its miss.
use Rattle.std.proofs.Common.{◌≡◌, ℤ, pos, ◌<ℤ◌, arith}
use Rattle.std.proofs.lemmas.Int.{ints}
use Rattle.lines.specs.Sides.{side_of}
use Rattle.lines.specs.declared.miss.Side.TheVariants.{Late, Early, On}

pub late_above : (e : ℤ) → Late ≡ side_of e → pos 0 <ℤ e
late_above e h = grind (arith, ints)

pub early_below : (e : ℤ) → Early ≡ side_of e → e <ℤ pos 0
early_below e h = grind (arith, ints)

pub on_zero : (e : ℤ) → On ≡ side_of e → e ≡ pos 0
on_zero e h = grind (arith, ints)
