-- One life, so that the law is not empty: on five shots of weight 1 and stuff 0, at even prices, a line is laid, moved,
-- proved and issued, one strike keeps it in force, and another puts it out.
--   moment        a moment, in short
--   sample        the moments, the newest first
--   SampleLives   these moments are a life, and three shots are left
-- Assumes nothing.
use Rattle.std.specs.Prelude.{List, [], ◌∷◌, pos, negsuc, Some, None, Option}
use Rattle.lines.specs.declared.line.Line.{Line}
use Rattle.law.specs.declared.stage.Stage.TheVariants.{Bare}
use Rattle.law.specs.declared.kinds.Call.{Call}
use Rattle.law.specs.declared.kinds.Call.TheVariants.{Strike, Pivot, Issue}
use Rattle.law.specs.declared.kinds.Word.TheVariants.{Laid, Moved, Proved}
use Rattle.law.specs.declared.kinds.Reply.{Reply}
use Rattle.law.specs.declared.kinds.Reply.TheVariants.{Done, Issued}
use Rattle.law.specs.declared.kinds.Moment.{Moment}
use Rattle.law.specs.Ties.{Life}
use Rattle.cases.specs.Examples.{last_three, steep, gentle, sheet, add, told}

abbrev pub moment : Call → Reply → Option Line → Moment
moment c r o = record { call = c; reply = r; pass = o }

abbrev pub sample : List Moment
sample =
    moment (Strike (pos 0)) Done None
    ∷ moment (Strike (pos 2)) Done (Some gentle)
    ∷ moment Issue (Issued gentle) (Some gentle)
    ∷ moment Pivot (told Proved gentle (pos 2000)) (Some gentle)
    ∷ moment Pivot (told Moved gentle (pos 2000)) None
    ∷ moment Pivot (told Laid steep (pos 5000)) None
    ∷ moment (add (pos 3500) (negsuc 19)) Done None
    ∷ moment (add (pos 3000) (pos 0)) Done None
    ∷ moment (add (pos 2000) (pos 0)) Done None
    ∷ moment (add (pos 1000) (pos 0)) Done None
    ∷ moment (add (pos 500) (pos 20)) Done None
    ∷ []

abbrev pub SampleLives : Type 0
SampleLives = Life sample (sheet last_three Bare)
