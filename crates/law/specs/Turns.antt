-- What one call does to a sheet.
--   after_test    the stage of a line that was in force, by what the test says of it
--   AfterAdd      the stage after an accepted add that left xs held
--   AfterStrike   the stage after an accepted strike that left xs held
--   ByWord        what a pivot answers by the stage it finds, and the stage after it
--   Pivots        the same with its refusal
--   Turned        what a call does to the held shots and to the stage
--   Turn          the same of two views: room and prices stay
-- Assumes nothing.
use Rattle.std.specs.Prelude.{◌≡◌, ℕ, ◌⊎◌, List, [], ◌∷◌, ◌++◌, ℤ, pos, Some, unsigned_abs, None, Option}
use Rattle.std.specs.List.{remove}
use Rattle.shots.specs.Shots.{Reads}
use Rattle.shots.specs.declared.shot.Shot.{Shot}
use Rattle.shots.specs.declared.refusal.Refusal.TheVariants.{OneSpeed as OneSpeedRefusal}
use Rattle.lines.specs.declared.line.Line.{Line}
use Rattle.fit.specs.First.{OneSpeed, LaidFirst}
use Rattle.fit.specs.Spanning.{TwoSpeeds}
use Rattle.fit.specs.Testing.{First, Tested}
use Rattle.fit.specs.Totals.{total_of}
use Rattle.fit.specs.Turning.{TurnedAt}
use Rattle.law.specs.declared.stage.Stage.{Stage}
use Rattle.law.specs.declared.stage.Stage.TheVariants.{Bare, Trying, InForce}
use Rattle.law.specs.declared.kinds.Call.{Call}
use Rattle.law.specs.declared.kinds.Call.TheVariants.{Add, Strike, Pivot, Mount, Slip, Issue}
use Rattle.law.specs.declared.kinds.Word.{Word}
use Rattle.law.specs.declared.kinds.Word.TheVariants.{Laid, Moved, Proved, Stands}
use Rattle.law.specs.declared.kinds.Reply.{Reply}
use Rattle.law.specs.declared.kinds.Reply.TheVariants.{Done, Told, Mounted, Slipped, Issued, Refused}
use Rattle.law.specs.Replies.{IfDone, AddReplies, StrikeReplies, MountReplies, SlipReplies, IssueReplies}
use Rattle.law.specs.Views.{View, in_force}

abbrev pub after_test : Line → Option ℕ → Stage
after_test l None = InForce l
after_test l (Some k) = Trying l

abbrev pub AfterAdd : (ℤ → ℕ × ℕ) → List Shot → Stage → Stage → Type 0
AfterAdd tariff xs Bare t = t ≡ Bare
AfterAdd tariff xs (Trying l) t = t ≡ Trying l
AfterAdd tariff xs (InForce l) t = (o : Option ℕ) × Tested tariff l xs o × (t ≡ after_test l o)

abbrev pub AfterStrike : (ℤ → ℕ × ℕ) → List Shot → Stage → Stage → Type 0
AfterStrike tariff xs Bare t = t ≡ Bare
AfterStrike tariff xs (Trying l) t = (TwoSpeeds l xs × (t ≡ Trying l)) ⊎ ((TwoSpeeds l xs → ⊥) × (t ≡ Bare))
AfterStrike tariff xs (InForce l) t = (TwoSpeeds l xs × ((o : Option ℕ) × Tested tariff l xs o × (t ≡ after_test l o))) ⊎ ((TwoSpeeds l xs → ⊥) × (t ≡ Bare))

abbrev pub ByWord : (ℤ → ℕ × ℕ) → List Shot → Stage → Word → Line → Stage → Type 0
ByWord tariff xs Bare Laid m t = LaidFirst xs m × (t ≡ Trying m)
ByWord tariff xs Bare Moved m t = ⊥
ByWord tariff xs Bare Proved m t = ⊥
ByWord tariff xs Bare Stands m t = ⊥
ByWord tariff xs (Trying l) Laid m t = ⊥
ByWord tariff xs (Trying l) Moved m t = (k : ℕ) × First tariff l xs k × TurnedAt tariff xs (pos k) (Some m) × (t ≡ Trying m)
ByWord tariff xs (Trying l) Proved m t = Tested tariff l xs None × (m ≡ l) × (t ≡ InForce m)
ByWord tariff xs (Trying l) Stands m t = ⊥
ByWord tariff xs (InForce l) Laid m t = ⊥
ByWord tariff xs (InForce l) Moved m t = ⊥
ByWord tariff xs (InForce l) Proved m t = ⊥
ByWord tariff xs (InForce l) Stands m t = (m ≡ l) × (t ≡ InForce m)

abbrev pub Pivots : (ℤ → ℕ × ℕ) → List Shot → Stage → Reply → Stage → Type 0
Pivots tariff xs s Done t = ⊥
Pivots tariff xs s (Told w p) t = (p.total ≡ total_of tariff p.line xs) × ByWord tariff xs s w p.line t
Pivots tariff xs s (Mounted c) t = ⊥
Pivots tariff xs s (Slipped k) t = ⊥
Pivots tariff xs s (Issued l) t = ⊥
Pivots tariff xs s (Refused e) t = (s ≡ Bare) × (t ≡ Bare) × OneSpeed xs × (e ≡ OneSpeedRefusal)

-- xs are the shots held after the call, and t is the stage after it
abbrev pub Turned : Call → Reply → View → List Shot → Stage → Type 0
Turned (Add entry) r v xs t =
    AddReplies v.capacity v.held entry r
    × IfDone r (((z : Shot) × Reads z entry × (xs ≡ v.held ++ z ∷ [])) × AfterAdd v.tariff xs v.stage t) ((xs ≡ v.held) × (t ≡ v.stage))
Turned (Strike p) r v xs t =
    StrikeReplies v.held p r
    × IfDone r ((xs ≡ remove v.held (unsigned_abs p)) × AfterStrike v.tariff xs v.stage t) ((xs ≡ v.held) × (t ≡ v.stage))
Turned Pivot r v xs t = (xs ≡ v.held) × Pivots v.tariff v.held v.stage r t
Turned (Mount a b) r v xs t = MountReplies v.tariff v.held a b r × ((xs ≡ v.held) × (t ≡ v.stage))
Turned (Slip rows) r v xs t = SlipReplies v.held (in_force v.stage) rows r × ((xs ≡ v.held) × (t ≡ v.stage))
Turned Issue r v xs t = IssueReplies (in_force v.stage) r × ((xs ≡ v.held) × (t ≡ v.stage))

pub record Turn (call : Call) (reply : Reply) (v w : View) : Type 0 where
  pub room : w.capacity ≡ v.capacity
  pub prices : w.tariff ≡ v.tariff
  pub turned : Turned call reply v w.held w.stage
