-- What a miss costs.
--   cost       u for each unit of a miss above 0, v for each unit of one below 0 (pinball loss)
--   share_of   what a shot costs a line: its weight times the late or the early price, times its miss
-- Assumes nothing.
use Rattle.std.specs.Prelude.{ℕ, ◌*◌, cond, ℤ, pos, ◌*ℤ◌, neg_ℤ, int_lt}
use Rattle.shots.specs.declared.shot.Shot.{Shot}
use Rattle.lines.specs.Lines.{miss_of}
use Rattle.lines.specs.declared.line.Line.{Line}

unfoldable pub cost : ℕ → ℕ → ℤ → ℤ
cost u v e = cond (int_lt (pos 0) e) (pos u *ℤ e) (pos v *ℤ neg_ℤ e)

abbrev pub share_of : Line → Shot → ℕ → ℕ → ℤ
share_of l z late early = cost (z.weight * late) (z.weight * early) (miss_of l z)
