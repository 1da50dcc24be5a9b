-- Pivots come to an end.
--   Pivoting    each of the moments is a pivot
--   PivotsEnd   of n held shots that have two speeds, n + 1 pivots in a row bring a line into force, whatever came before
-- Assumes nothing.
use Rattle.std.specs.Prelude.{◌≡◌, ℕ, ◌<◌, List, [], ◌∷◌, ◌++◌, length, ℤ, Some}
use Rattle.lines.specs.declared.line.Line.{Line}
use Rattle.fit.specs.First.{OneSpeed}
use Rattle.law.specs.declared.kinds.Call.TheVariants.{Pivot}
use Rattle.law.specs.declared.kinds.Moment.{Moment}
use Rattle.law.specs.Lives.{held_by, in_force_by, Promises}

abbrev pub Pivoting : List Moment → Type 0
Pivoting [] = Unit {0}
Pivoting (m ∷ ms) = (m.call ≡ Pivot) × Pivoting ms

abbrev pub PivotsEnd : Type 0
PivotsEnd =
    (tariff : ℤ → ℕ × ℕ) (cap : ℕ) (past ms : List Moment) → Promises tariff cap (ms ++ past) → Pivoting ms
    → length (held_by past) < length ms → (OneSpeed (held_by past) → ⊥) → (l : Line) × (in_force_by (ms ++ past) ≡ Some l)
