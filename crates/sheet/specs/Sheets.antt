-- A sheet as its calls see it, and their results as answers.
--   sees         what is seen of a sheet through the meanings of its rack and its rule
--   done_reply, pivot_reply, mount_reply, slip_reply, issue_reply   the answer that a call's result is
--   reply_of     the answer, or the refusal as one
--   Judged       what the test says of a line that is tried
--   SlipWrites   what a slip writes into a table: the rows of the shots on the line in force, and no more; a
--                refused one writes nothing
--   line_on      the line on the pass that a result has, if it has one
-- Assumes nothing.
use Rattle.std.specs.Prelude.{◌≡◌, ℕ, List, ◌++◌, drop, ℤ, Some, None, Ok, Err, Option, Result}
use Rattle.shots.specs.declared.shot.Shot.{Shot}
use Rattle.shots.specs.declared.refusal.Refusal.{Refusal}
use Rattle.lines.specs.declared.line.Line.{Line}
use Rattle.fit.specs.Testing.{Tested}
use Rattle.slips.specs.Rows.{rows_of}
use Rattle.slips.specs.declared.row.Row.{Row}
use Rattle.law.specs.declared.stage.Stage.{Stage}
use Rattle.law.specs.declared.stage.Stage.TheVariants.{Bare, Trying, InForce}
use Rattle.law.specs.declared.kinds.Pivoted.{Pivoted}
use Rattle.law.specs.declared.kinds.Reply.{Reply}
use Rattle.law.specs.declared.kinds.Reply.TheVariants.{Done, Told, Mounted, Slipped, Issued, Refused}
use Rattle.law.specs.Views.{View}
use Rattle.sheet.specs.declared.pass.Pass.{Pass}
use Rattle.sheet.specs.declared.sheet.Sheet.{Sheet}

abbrev pub sees : {R P : Type 0} → (R → List Shot) → (R → ℕ) → (P → ℤ → ℕ × ℕ) → Sheet R P → View
sees held capacity tariff s = record { held = held s.rack; capacity = capacity s.rack; tariff = tariff s.rule; stage = s.inner.stage }

abbrev pub done_reply : Result (Unit {0}) Refusal → Reply
done_reply (Ok _) = Done
done_reply (Err e) = Refused e

abbrev pub pivot_reply : Result Pivoted Refusal → Reply
pivot_reply (Ok p) = Told p.word p.priced
pivot_reply (Err e) = Refused e

abbrev pub mount_reply : Result ℤ Refusal → Reply
mount_reply (Ok c) = Mounted c
mount_reply (Err e) = Refused e

abbrev pub slip_reply : Result ℕ Refusal → Reply
slip_reply (Ok k) = Slipped k
slip_reply (Err e) = Refused e

abbrev pub issue_reply : Result Pass Refusal → Reply
issue_reply (Ok p) = Issued p.line
issue_reply (Err e) = Refused e

abbrev pub line_on : Result Pass Refusal → Option Line
line_on (Ok p) = Some p.line
line_on (Err e) = None

abbrev pub reply_of : Result Reply Refusal → Reply
reply_of (Ok r) = r
reply_of (Err e) = Refused e

abbrev pub Judged : (ℤ → ℕ × ℕ) → List Shot → Stage → Option ℕ → Type 0
Judged tariff xs Bare o = Unit {0}
Judged tariff xs (Trying l) o = Tested tariff l xs o
Judged tariff xs (InForce l) o = Unit {0}

-- xs are the held shots, and o is the line in force
abbrev pub SlipWrites : (ℤ → ℕ × ℕ) → List Shot → Option Line → List Row → Result ℕ Refusal → List Row → Type 0
SlipWrites tariff xs o before (Ok k) after = (l : Line) × (o ≡ Some l) × (after ≡ rows_of tariff l xs ++ drop k before)
SlipWrites tariff xs o before (Err e) after = after ≡ before
