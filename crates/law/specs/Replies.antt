-- What a call may answer, from the held shots xs and the line in force.
--   shot_of         the shot of four numbers; a number out of its range is drawn into it
--   IfDone          the one where the answer is that the call was accepted, else the other
--   if_done         the same of two values
--   AddReplies      an add is accepted where its four numbers are in range and there is room, else refused by the first number in its order
--   StrikeReplies   a strike is accepted where a shot is held at its place, else refused
--   MountReplies    a mount answers the offset of its slope, or refuses the slope, then the want of shots
--   SlipReplies     a slip answers how many shots are on the line in force, or refuses where none is, then where too few rows were handed in
--   IssueReplies    an issue answers a pass with the line in force, or refuses where none is
-- Assumes nothing.
use Rattle.std.specs.Prelude.{◌≡◌, ℕ, ◌<◌, ◌≤◌, min, max, ◌⊎◌, List, ℤ, pos, negsuc, Some, None, Ok, Err, Option, unsigned_abs}
use Rattle.std.proofs.Common.{lit≤}
use Rattle.std.specs.Int.{int_min, int_max}
use Rattle.shots.specs.declared.shot.Shot.{Shot}
use Rattle.shots.specs.declared.entry.Entry.{Entry}
use Rattle.shots.specs.declared.refusal.Refusal.TheVariants.{Place, Idle, SlipShort}
use Rattle.lines.specs.declared.line.Line.{Line}
use Rattle.racks.specs.Bounds.{least, most, lead_least, lead_most}
use Rattle.racks.specs.Racks.{Holds, add_fault}
use Rattle.fit.specs.Offsets.{OffsetOf}
use Rattle.slips.specs.Rows.{on_line}
use Rattle.law.specs.declared.kinds.Reply.{Reply}
use Rattle.law.specs.declared.kinds.Reply.TheVariants.{Done, Told, Mounted, Slipped, Issued, Refused}

unfoldable pub shot_of : Entry → Shot
shot_of entry = record {
  speed = max 1 (min 4000 (unsigned_abs entry.speed));
  lead = int_max (negsuc 7999) (int_min (pos 8000) entry.lead);
  weight = max 1 (min 100 (unsigned_abs entry.weight));
  stuff = max 0 (min 15 (unsigned_abs entry.stuff));
  moving = least (unsigned_abs entry.speed) 1 4000;
  slow = most (unsigned_abs entry.speed) 1 4000 (lit≤ tt);
  low = lead_least entry.lead;
  high = lead_most entry.lead;
  counted = least (unsigned_abs entry.weight) 1 100;
  light = most (unsigned_abs entry.weight) 1 100 (lit≤ tt);
  coded = most (unsigned_abs entry.stuff) 0 15 (lit≤ tt);
}

abbrev pub IfDone : Reply → Type 0 → Type 0 → Type 0
IfDone Done P Q = P
IfDone (Told w p) P Q = Q
IfDone (Mounted c) P Q = Q
IfDone (Slipped k) P Q = Q
IfDone (Issued l) P Q = Q
IfDone (Refused e) P Q = Q

abbrev pub if_done : {T : Type 0} → Reply → T → T → T
if_done Done x y = x
if_done (Told w p) x y = y
if_done (Mounted c) x y = y
if_done (Slipped k) x y = y
if_done (Issued l) x y = y
if_done (Refused e) x y = y

abbrev pub AddReplies : ℕ → List Shot → Entry → Reply → Type 0
AddReplies cap xs entry Done = add_fault cap xs entry ≡ None
AddReplies cap xs entry (Told t p) = ⊥
AddReplies cap xs entry (Mounted c) = ⊥
AddReplies cap xs entry (Slipped k) = ⊥
AddReplies cap xs entry (Issued l) = ⊥
AddReplies cap xs entry (Refused e) = add_fault cap xs entry ≡ Some e

abbrev pub StrikeReplies : List Shot → ℤ → Reply → Type 0
StrikeReplies xs p Done = Holds xs p
StrikeReplies xs p (Told t q) = ⊥
StrikeReplies xs p (Mounted c) = ⊥
StrikeReplies xs p (Slipped k) = ⊥
StrikeReplies xs p (Issued l) = ⊥
StrikeReplies xs p (Refused e) = (Holds xs p → ⊥) × (e ≡ Place)

abbrev pub MountReplies : (ℤ → ℕ × ℕ) → List Shot → ℤ → ℤ → Reply → Type 0
MountReplies tariff xs a b Done = ⊥
MountReplies tariff xs a b (Told t p) = ⊥
MountReplies tariff xs a b (Mounted c) = OffsetOf tariff a b xs (Ok c)
MountReplies tariff xs a b (Slipped k) = ⊥
MountReplies tariff xs a b (Issued l) = ⊥
MountReplies tariff xs a b (Refused e) = OffsetOf tariff a b xs (Err e)

abbrev pub SlipReplies : List Shot → Option Line → ℕ → Reply → Type 0
SlipReplies xs o rows Done = ⊥
SlipReplies xs o rows (Told t p) = ⊥
SlipReplies xs o rows (Mounted c) = ⊥
SlipReplies xs o rows (Slipped k) = (l : Line) × (o ≡ Some l) × (k ≡ on_line l xs) × (k ≤ rows)
SlipReplies xs o rows (Issued l) = ⊥
SlipReplies xs o rows (Refused e) = ((o ≡ None) × (e ≡ Idle)) ⊎ ((l : Line) × (o ≡ Some l) × (rows < on_line l xs) × (e ≡ SlipShort))

abbrev pub IssueReplies : Option Line → Reply → Type 0
IssueReplies o Done = ⊥
IssueReplies o (Told t p) = ⊥
IssueReplies o (Mounted c) = ⊥
IssueReplies o (Slipped k) = ⊥
IssueReplies o (Issued l) = o ≡ Some l
IssueReplies o (Refused e) = (o ≡ None) × (e ≡ Idle)
