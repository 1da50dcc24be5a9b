-- What a slip answers and writes, by the line in force; and that no table need have more than 512 rows.
use Rattle.std.proofs.Common.{◌≡◌, ℕ, ◌≤◌, min, List, length, take, Some, None, Option, ok_or, Result, sym, refl, subst₂, inl, inr, ⊎_elim, arith}
use Rattle.std.proofs.lemmas.List.{length-take}
use Rattle.shots.specs.declared.shot.Shot.{Shot}
use Rattle.shots.specs.declared.refusal.Refusal.{Refusal}
use Rattle.shots.specs.declared.refusal.Refusal.TheVariants.{SlipShort}
use Rattle.lines.specs.declared.line.Line.{Line}
use Rattle.slips.specs.Rows.{Written}
use Rattle.slips.specs.declared.row.Row.{Row}
use Rattle.slips.proofs.Counts.{few}
use Rattle.law.specs.declared.kinds.Call.TheVariants.{Slip}
use Rattle.law.specs.declared.kinds.Reply.{Reply}
use Rattle.law.specs.declared.kinds.Reply.TheVariants.{Done, Told, Mounted, Slipped, Issued, Refused}
use Rattle.law.specs.declared.kinds.Moment.{Moment}
use Rattle.law.specs.Lives.{held_by, in_force_by}
use Rattle.law.specs.Replies.{SlipReplies}
use Rattle.law.specs.Ties.{Called, Life}
use Rattle.law.specs.Views.{View, in_force}
use Rattle.law.proofs.Steps.{called}
use Rattle.sheet.specs.Sheets.{slip_reply, SlipWrites}

replies : (v : View) (rows : ℕ) (r : Reply) → SlipReplies v.held (in_force v.stage) rows r → Called (Slip rows) r v v
replies v rows r h = called (record { room = refl; prices = refl; turned = (h, (refl, refl)) })

-- the answer, by what was written
pub slipped : (v : View) (before after : List Row) (l : Line) (o : Option ℕ) → in_force v.stage ≡ Some l → Written v.tariff l v.held before o after → Called (Slip (length before)) (slip_reply (ok_or o SlipShort)) v v
slipped v before after l (Some k) e h = replies v (length before) (Slipped k) (l, e, h.0, h.1)
slipped v before after l None e h = replies v (length before) (Refused SlipShort) (inr (l, e, h.0, refl))

pub writes : (v : View) (before after : List Row) (l : Line) (o : Option ℕ) → in_force v.stage ≡ Some l → Written v.tariff l v.held before o after → SlipWrites v.tariff v.held (in_force v.stage) before (ok_or o SlipShort) after
writes v before after l (Some k) e h = (l, e, h.2)
writes v before after l None e h = h.1

-- what is written, in the words of a life that led to the sheet
pub in_life : (past : List Moment) (v : View) (before : List Row) (r : Result ℕ Refusal) (after : List Row) → SlipWrites v.tariff v.held (in_force v.stage) before r after → Life past v → SlipWrites v.tariff (held_by past) (in_force_by past) before r after
in_life past v before r after h life = subst₂ (λ (xs : List Shot) (o : Option Line). SlipWrites v.tariff xs o before r after) life.tied.held (sym life.tied.pass) h

longer : (xs : List Shot) (o : Option Line) (rows n : ℕ) (r : Reply) → n ≡ min rows 512 → length xs ≤ 512 → SlipReplies xs o n r → SlipReplies xs o rows r
longer xs o rows n Done e b h = absurd h
longer xs o rows n (Told w p) e b h = absurd h
longer xs o rows n (Mounted c) e b h = absurd h
longer xs o rows n (Slipped k) e b h = let l = h.3 in (h.0, h.1, h.2, omega arith)
longer xs o rows n (Issued l) e b h = absurd h
longer xs o rows n (Refused x) e b h = ⊎_elim inl (λ s. let f = few s.0 xs in let l = s.2 in inr (s.0, s.1, omega arith, s.3)) h

-- the front of a table of 512 rows stands in for any longer one
pub as_long : (v : View) (rows m : ℕ) (table : List Row) (r : Reply) → m ≡ min rows 512 → length table ≡ 512 → length v.held ≤ 512 → Called (Slip (length (take m table))) r v v → Called (Slip rows) r v v
as_long v rows m table r e t b h =
    let n : length (take m table) ≡ min rows 512 = simp length-take (omega arith) in
    replies v rows r (longer v.held (in_force v.stage) rows (length (take m table)) r n b h.turn.turned.0)
