-- Lines, their rivals, and how far a shot lies off them.
--   IsLine    the three numbers make a line
--   Reads     the line has these three numbers
--   Made      the answer to a try to make a line of three numbers
--   AnyLine   any three whole numbers a ≥ 1, b, c, however large, standing for a·h = b·s + c: the rivals of a Line
--   any       a Line's three numbers, as those of a rival
--   miss      how far a lead h at a speed s lies above a line, times its a (residual)
--   miss_of   the miss of a shot
--   On        the shot lies on the line
-- Assumes nothing.
use Rattle.std.specs.Prelude.{◌≡◌, ℤ, pos, negsuc, ◌-ℤ◌, ◌*ℤ◌, ◌≤ℤ◌, Some, None, Option, unsigned_abs}
use Rattle.shots.specs.declared.shot.Shot.{Shot}
use Rattle.lines.specs.Divisors.{Coprime}
use Rattle.lines.specs.declared.line.Line.{Line}

pub record IsLine (a b c : ℤ) : Type 0 where
  pub ahead : pos 1 ≤ℤ a
  pub fine : a ≤ℤ pos 3999
  pub fall : negsuc 15999 ≤ℤ b
  pub rise : b ≤ℤ pos 16000
  pub low : negsuc 95999999 ≤ℤ c
  pub high : c ≤ℤ pos 96000000
  pub lowest : Coprime (unsigned_abs a) (unsigned_abs b)

pub record Reads (l : Line) (x y z : ℤ) : Type 0 where
  pub a : l.a ≡ x
  pub b : l.b ≡ y
  pub c : l.c ≡ z

abbrev pub Made : ℤ → ℤ → ℤ → Option Line → Type 0
Made a b c (Some l) = IsLine a b c × Reads l a b c
Made a b c None = IsLine a b c → ⊥

pub record AnyLine : Type 0 where
  pub a : ℤ
  pub b : ℤ
  pub c : ℤ

abbrev pub any : Line → AnyLine
any l = record { a = l.a; b = l.b; c = l.c }

unfoldable pub miss : AnyLine → ℤ → ℤ → ℤ
miss l s h = l.a *ℤ h -ℤ l.b *ℤ s -ℤ l.c

abbrev pub miss_of : Line → Shot → ℤ
miss_of l z = miss (any l) (pos z.speed) z.lead

abbrev pub On : Line → Shot → Type 0
On l z = miss_of l z ≡ pos 0
