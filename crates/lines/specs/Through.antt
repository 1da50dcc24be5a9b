-- The line through two shots.
--   run_of, rise_of   how much faster the second shot is, and how much greater its lead
--   LaidFrom          the rule, from the slower shot to the faster: the two differences with their greatest common divisor taken out are A and B, and C makes the slower shot lie on the line
--   Laid              the rule, for two shots in any order
--   Through           the answer: none for two shots of one speed, else the line by the rule
-- Assumes nothing.
use Rattle.std.specs.Prelude.{◌≡◌, ℕ, ◌<◌, ◌⊎◌, ℤ, pos, ◌-ℤ◌, ◌*ℤ◌, Some, None, Option, unsigned_abs}
use Rattle.shots.specs.declared.shot.Shot.{Shot}
use Rattle.lines.specs.Divisors.{Gcd}
use Rattle.lines.specs.declared.line.Line.{Line}

abbrev pub run_of : Shot → Shot → ℤ
run_of p q = pos q.speed -ℤ pos p.speed

abbrev pub rise_of : Shot → Shot → ℤ
rise_of p q = q.lead -ℤ p.lead

pub record LaidFrom (slow fast : Shot) (l : Line) : Type 0 where
  pub slower : slow.speed < fast.speed
  pub divisor : ℕ
  pub common : Gcd (unsigned_abs (rise_of slow fast)) (unsigned_abs (run_of slow fast)) divisor
  pub a : pos divisor *ℤ l.a ≡ run_of slow fast
  pub b : pos divisor *ℤ l.b ≡ rise_of slow fast
  pub c : l.c ≡ l.a *ℤ slow.lead -ℤ l.b *ℤ pos slow.speed

abbrev pub Laid : Shot → Shot → Line → Type 0
Laid p q l = LaidFrom p q l ⊎ LaidFrom q p l

abbrev pub Through : Shot → Shot → Option Line → Type 0
Through p q (Some l) = Laid p q l
Through p q None = p.speed ≡ q.speed
