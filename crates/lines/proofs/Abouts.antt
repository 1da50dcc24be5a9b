-- A slope in the ranges of a line, with the C that puts a shot on it, makes a line.
use Rattle.std.proofs.Common.{◌≡◌, ℤ, pos, negsuc, ◌-ℤ◌, ◌*ℤ◌, ◌≤ℤ◌, arith}
use Rattle.std.proofs.lemmas.Int.{ints}
use Rattle.shots.specs.declared.shot.Shot.{Shot}
use Rattle.lines.specs.About.{Fits}
use Rattle.lines.specs.Lines.{IsLine, miss}
use Rattle.lines.specs.declared.slope.Slope.{Slope}
use Rattle.lines.proofs.Lowest.{coprime_swap}
use Rattle.lines.proofs.Ring.{lin}

pub about_line : (t : Slope) (c : ℤ) → Fits t → negsuc 95991999 ≤ℤ c → c ≤ℤ pos 95992000 → IsLine t.run t.rise c
about_line t c k l h = record {
  ahead = omega (arith, ints);
  fine = k.fine;
  fall = k.fall;
  rise = k.rise;
  low = omega (arith, ints);
  high = omega (arith, ints);
  lowest = coprime_swap t.lowest;
}

pub about_on : (a b c : ℤ) (z : Shot) → c ≡ a *ℤ z.lead -ℤ b *ℤ pos z.speed → miss (record { a = a; b = b; c = c }) (pos z.speed) z.lead ≡ pos 0
unfolding miss
about_on a b c z e = omega (lin, e)
