-- The law leaves nothing open: it fixes each answer, and with it every life.
--   AnswersFixed       of two moments of the same call after the same past, both as promised, the answers are the same, and so are the lines in force
--   TranscriptsFixed   of the same calls there are no two transcripts
-- Assumes nothing.
use Rattle.std.specs.Prelude.{◌≡◌, ℕ, List, ℤ}
use Rattle.law.specs.declared.kinds.Call.{Call}
use Rattle.law.specs.declared.kinds.Moment.{Moment}
use Rattle.law.specs.Lives.{Promised, Transcript}

abbrev pub AnswersFixed : Type 0
AnswersFixed =
    (tariff : ℤ → ℕ × ℕ) (cap : ℕ) (past : List Moment) (m n : Moment) → Promised tariff cap past m → Promised tariff cap past n
    → m.call ≡ n.call → m ≡ n

abbrev pub TranscriptsFixed : Type 0
TranscriptsFixed =
    (tariff : ℤ → ℕ × ℕ) (cap : ℕ) (calls : List Call) (ms ns : List Moment) → Transcript tariff cap calls ms → Transcript tariff cap calls ns
    → ms ≡ ns
