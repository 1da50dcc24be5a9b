-- The law of a sheet's life, over what was called and answered alone. A life is a list of moments, the newest first,
-- of a sheet that began with no shot; a moment is a call, its answer, and the line in force then: that for which issue,
-- called at that point, would answer a pass.
--   changed                                       the held shots after one call, by its answer
--   held_by                                       the held shots: none at first; an accepted add puts its shot at the end, an accepted strike takes the one at its place out, and nothing else changes them
--   in_force_by                                   the line in force
--   answered                                      the line last answered after one more answer
--   last_by                                       the line last answered, by a pivot or on a pass
--   HandStruck, HandAfter                         the line at hand after a strike, and after one call, by its answer
--   AtHand                                        the line at hand: none at first; a pivot's answer makes its line the one at hand; an accepted strike after which no two held shots of different speeds are on it makes it none; nothing else changes it
--   settling, moving                              which of a pivot's answers count: laid, moved and proved, or only moved
--   counts_reply, counts                          the count after one more answer, and after one call, by its answer
--   count_by                                      how many pivots since the last accepted add or strike gave an answer that counts
--   pairs                                         of n things, the number of pairs
--   Best                                          the line runs through two shots of different speeds, and no line is cheaper, of all whole numbers of any size
--   Kept                                          after a change the line in force stays so where it is still best; else, and where there was none, none is
--   Descends                                      the line is cheaper than the one last answered, and there is one
--   SaysLaid, SaysMoved, SaysProved, SaysStands   what each of a pivot's answers says
--   WordSays                                      the same by the word
--   PivotSays                                     the same with its refusal
--   CallSays                                      what the answer to a call says, and what is in force after it
--   Promised                                      what is promised at a moment after a past
--   Promises                                      what is promised at every moment of a life
--   Transcript                                    the moments of a life of these calls, the oldest first, with what is promised at each
--   EachKept                                      what is promised of a whole life is promised at each moment of its transcript
--   OneAtHand                                     no past has two lines at hand
-- Assumes nothing.
use Rattle.std.specs.Prelude.{◌≡◌, ℕ, suc, ◌-◌, ◌*◌, ◌/◌, ◌≤◌, ◌⊎◌, List, [], ◌∷◌, ◌++◌, map, reverse, length, ℤ, pos, Some, None, Option, unsigned_abs}
use Rattle.std.specs.List.{remove}
use Rattle.shots.specs.declared.shot.Shot.{Shot}
use Rattle.shots.specs.declared.refusal.Refusal.TheVariants.{OneSpeed as OneSpeedRefusal}
use Rattle.lines.specs.Lines.{any}
use Rattle.lines.specs.declared.line.Line.{Line}
use Rattle.theory.specs.Points.{Cheaper, Cheapest}
use Rattle.theory.specs.Rates.{Passes}
use Rattle.fit.specs.Points.{points}
use Rattle.fit.specs.First.{OneSpeed, LaidFirst}
use Rattle.fit.specs.Spanning.{TwoSpeeds}
use Rattle.fit.specs.Testing.{First}
use Rattle.fit.specs.Totals.{total_of}
use Rattle.fit.specs.Turning.{TurnedAt}
use Rattle.law.specs.declared.kinds.Call.{Call}
use Rattle.law.specs.declared.kinds.Call.TheVariants.{Add, Strike, Pivot, Mount, Slip, Issue}
use Rattle.law.specs.declared.kinds.Word.{Word}
use Rattle.law.specs.declared.kinds.Word.TheVariants.{Laid, Moved, Proved, Stands}
use Rattle.law.specs.declared.kinds.Reply.{Reply}
use Rattle.law.specs.declared.kinds.Reply.TheVariants.{Done, Told, Mounted, Slipped, Issued, Refused}
use Rattle.law.specs.declared.kinds.Moment.{Moment}
use Rattle.law.specs.Replies.{shot_of, IfDone, if_done, AddReplies, StrikeReplies, MountReplies, SlipReplies, IssueReplies}

abbrev pub changed : Call → Reply → List Shot → List Shot
changed (Add entry) r xs = if_done r (xs ++ shot_of entry ∷ []) xs
changed (Strike p) r xs = if_done r (remove xs (unsigned_abs p)) xs
changed Pivot r xs = xs
changed (Mount a b) r xs = xs
changed (Slip rows) r xs = xs
changed Issue r xs = xs

abbrev pub held_by : List Moment → List Shot
held_by [] = []
held_by (m ∷ past) = changed m.call m.reply (held_by past)

abbrev pub in_force_by : List Moment → Option Line
in_force_by [] = None
in_force_by (m ∷ past) = m.pass

abbrev pub answered : Reply → Option Line → Option Line
answered Done o = o
answered (Told w p) o = Some p.line
answered (Mounted c) o = o
answered (Slipped k) o = o
answered (Issued l) o = Some l
answered (Refused e) o = o

abbrev pub last_by : List Moment → Option Line
last_by [] = None
last_by (m ∷ past) = answered m.reply (last_by past)

-- o is at hand where p was before a strike that left xs held
abbrev pub HandStruck : List Shot → Option Line → Option Line → Type 0
HandStruck xs None o = o ≡ None
HandStruck xs (Some l) o = (TwoSpeeds l xs × (o ≡ Some l)) ⊎ ((TwoSpeeds l xs → ⊥) × (o ≡ None))

abbrev pub HandAfter : Call → Reply → List Shot → Option Line → Option Line → Type 0
HandAfter (Add entry) r xs p o = o ≡ p
HandAfter (Strike i) r xs p o = IfDone r (HandStruck xs p o) (o ≡ p)
HandAfter Pivot r xs p o = o ≡ answered r p
HandAfter (Mount a b) r xs p o = o ≡ p
HandAfter (Slip rows) r xs p o = o ≡ p
HandAfter Issue r xs p o = o ≡ p

abbrev pub AtHand : List Moment → Option Line → Type 0
AtHand [] o = o ≡ None
AtHand (m ∷ past) o = (p : Option Line) × AtHand past p × HandAfter m.call m.reply (held_by (m ∷ past)) p o

-- laid, moved and proved count
abbrev pub settling : Word → ℕ → ℕ
settling Laid n = suc n
settling Moved n = suc n
settling Proved n = suc n
settling Stands n = n

-- only moved counts
abbrev pub moving : Word → ℕ → ℕ
moving Laid n = n
moving Moved n = suc n
moving Proved n = n
moving Stands n = n

abbrev pub counts_reply : (Word → ℕ → ℕ) → Reply → ℕ → ℕ
counts_reply f Done n = n
counts_reply f (Told w p) n = f w n
counts_reply f (Mounted c) n = n
counts_reply f (Slipped k) n = n
counts_reply f (Issued l) n = n
counts_reply f (Refused e) n = n

abbrev pub counts : (Word → ℕ → ℕ) → Call → Reply → ℕ → ℕ
counts f (Add entry) r n = if_done r 0 n
counts f (Strike p) r n = if_done r 0 n
counts f Pivot r n = counts_reply f r n
counts f (Mount a b) r n = n
counts f (Slip rows) r n = n
counts f Issue r n = n

abbrev pub count_by : (Word → ℕ → ℕ) → List Moment → ℕ
count_by f [] = 0
count_by f (m ∷ past) = counts f m.call m.reply (count_by f past)

unfoldable pub pairs : ℕ → ℕ
pairs n = n * (n - 1) / 2

pub record Best (tariff : ℤ → ℕ × ℕ) (xs : List Shot) (l : Line) : Type 0 where
  pub through : TwoSpeeds l xs
  pub cheapest : Cheapest (any l) (points tariff xs)

-- after is in force where before was, and xs are held now
abbrev pub Kept : (ℤ → ℕ × ℕ) → List Shot → Option Line → Option Line → Type 0
Kept tariff xs None after = after ≡ None
Kept tariff xs (Some l) after = (Best tariff xs l → after ≡ Some l) × ((Best tariff xs l → ⊥) → after ≡ None)

abbrev pub Descends : (ℤ → ℕ × ℕ) → List Moment → Line → Type 0
Descends tariff past m = (l : Line) × (last_by past ≡ Some l) × Cheaper (any m) (any l) (points tariff (held_by past))

pub record SaysLaid (past : List Moment) (m : Line) (after : Option Line) : Type 0 where
  pub before : in_force_by past ≡ None
  pub hand : AtHand past None
  pub first : LaidFirst (held_by past) m
  pub none : after ≡ None

pub record SaysMoved (tariff : ℤ → ℕ × ℕ) (past : List Moment) (m : Line) (after : Option Line) : Type 0 where
  pub before : in_force_by past ≡ None
  pub line : Line
  pub hand : AtHand past (Some line)
  pub place : ℕ
  pub fails : First tariff line (held_by past) place
  pub turned : TurnedAt tariff (held_by past) (pos place) (Some m)
  pub descends : Descends tariff past m
  pub none : after ≡ None

pub record SaysProved (tariff : ℤ → ℕ × ℕ) (past : List Moment) (m : Line) (after : Option Line) : Type 0 where
  pub before : in_force_by past ≡ None
  pub hand : AtHand past (Some m)
  pub passes : Passes (any m) (points tariff (held_by past))
  pub now : after ≡ Some m

pub record SaysStands (past : List Moment) (m : Line) (after : Option Line) : Type 0 where
  pub before : in_force_by past ≡ Some m
  pub now : after ≡ Some m

abbrev pub WordSays : (ℤ → ℕ × ℕ) → List Moment → Word → Line → Option Line → Type 0
WordSays tariff past Laid m after = SaysLaid past m after
WordSays tariff past Moved m after = SaysMoved tariff past m after
WordSays tariff past Proved m after = SaysProved tariff past m after
WordSays tariff past Stands m after = SaysStands past m after

-- a pivot is refused exactly where the held shots have no two speeds
abbrev pub PivotSays : (ℤ → ℕ × ℕ) → List Moment → Reply → Option Line → Type 0
PivotSays tariff past Done after = ⊥
PivotSays tariff past (Told w p) after =
    (OneSpeed (held_by past) → ⊥) × (p.total ≡ total_of tariff p.line (held_by past)) × WordSays tariff past w p.line after
PivotSays tariff past (Mounted c) after = ⊥
PivotSays tariff past (Slipped k) after = ⊥
PivotSays tariff past (Issued l) after = ⊥
PivotSays tariff past (Refused e) after = OneSpeed (held_by past) × (e ≡ OneSpeedRefusal) × (in_force_by past ≡ None) × (after ≡ in_force_by past)

abbrev pub CallSays : (ℤ → ℕ × ℕ) → ℕ → List Moment → Call → Reply → Option Line → Type 0
CallSays tariff cap past (Add entry) r after =
    AddReplies cap (held_by past) entry r
    × IfDone r (Kept tariff (changed (Add entry) r (held_by past)) (in_force_by past) after) (after ≡ in_force_by past)
CallSays tariff cap past (Strike p) r after =
    StrikeReplies (held_by past) p r
    × IfDone r (Kept tariff (changed (Strike p) r (held_by past)) (in_force_by past) after) (after ≡ in_force_by past)
CallSays tariff cap past Pivot r after = PivotSays tariff past r after
CallSays tariff cap past (Mount a b) r after = MountReplies tariff (held_by past) a b r × (after ≡ in_force_by past)
CallSays tariff cap past (Slip rows) r after = SlipReplies (held_by past) (in_force_by past) rows r × (after ≡ in_force_by past)
CallSays tariff cap past Issue r after = IssueReplies (in_force_by past) r × (after ≡ in_force_by past)

pub record Promised (tariff : ℤ → ℕ × ℕ) (cap : ℕ) (past : List Moment) (m : Moment) : Type 0 where
  pub cheapest : (l : Line) → m.pass ≡ Some l → Best tariff (held_by (m ∷ past)) l
  pub says : CallSays tariff cap past m.call m.reply m.pass
  pub few : count_by settling (m ∷ past) ≤ suc (pairs (length (held_by (m ∷ past))))
  pub fewer : count_by moving (m ∷ past) ≤ length (held_by (m ∷ past)) - 1

abbrev pub Promises : (ℤ → ℕ × ℕ) → ℕ → List Moment → Type 0
Promises tariff cap [] = Unit {0}
Promises tariff cap (m ∷ past) = Promised tariff cap past m × Promises tariff cap past

pub record Transcript (tariff : ℤ → ℕ × ℕ) (cap : ℕ) (calls : List Call) (moments : List Moment) : Type 0 where
  pub called : map (λ m. m.call) moments ≡ calls
  pub each : (before after : List Moment) (m : Moment) → moments ≡ before ++ (m ∷ after) → Promised tariff cap (reverse before) m

abbrev pub OneAtHand : Type 0
OneAtHand = (past : List Moment) (o p : Option Line) → AtHand past o → AtHand past p → o ≡ p

abbrev pub EachKept : Type 0
EachKept =
    (tariff : ℤ → ℕ × ℕ) (cap : ℕ) (moments : List Moment) → Promises tariff cap (reverse moments)
    → Transcript tariff cap (map (λ m. m.call) moments) moments
