-- `make`: the answer, or the refusal as one.
use Rattle.std.proofs.Common.{◌≡◌, Ok, Err, Result, MatchResult, rules}
use Rattle.shots.specs.declared.refusal.Refusal.{Refusal}
use Rattle.law.specs.declared.kinds.Reply.{Reply}
use Rattle.law.specs.declared.kinds.Reply.TheVariants.{Refused}
use Rattle.sheet.specs.Sheets.{reply_of}
use Rattle.sheet.proofs.sheet.Sheet.make.Goals as goal

replied : (r : Result Reply Refusal) (x : Reply) {Q : Refusal → Type 0} → ((e : Refusal) → Q e → x ≡ Refused e) → MatchResult r (λ y. x ≡ y) Q → x ≡ reply_of r
replied (Ok y) x f h = h
replied (Err e) x f h = f e h

pub returns-clause-called : goal.returns-clause-called
returns-clause-called g c =
    rw (replied c.answer.result c.unwrap_or_else.result (λ e h. search rules) c.unwrap_or_else.ensures) c.answer.ensures.called
