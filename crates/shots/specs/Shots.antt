-- Which four numbers make a shot, and which refusal the others get.
--   fault    the refusal of the first of the four numbers that is out of its range, if any is
--   Reads    the shot has these four numbers
--   Judged   the answer to a try to make a shot of four numbers
-- Assumes nothing.
use Rattle.std.specs.Prelude.{◌≡◌, cond, pos, Some, None, Ok, Err, Option, Result}
use Rattle.shots.specs.Ranges.{is_speed, is_lead, is_weight, is_stuff}
use Rattle.shots.specs.declared.shot.Shot.{Shot}
use Rattle.shots.specs.declared.entry.Entry.{Entry}
use Rattle.shots.specs.declared.refusal.Refusal.{Refusal}
use Rattle.shots.specs.declared.refusal.Refusal.TheVariants.{Speed, Lead, Weight, Stuff}

abbrev pub fault : Entry → Option Refusal
fault n =
    cond (is_speed n.speed) (cond (is_lead n.lead) (cond (is_weight n.weight) (cond (is_stuff n.stuff) None (Some Stuff)) (Some Weight)) (Some Lead)) (Some Speed)

pub record Reads (shot : Shot) (entry : Entry) : Type 0 where
  pub speed : pos shot.speed ≡ entry.speed
  pub lead : shot.lead ≡ entry.lead
  pub weight : pos shot.weight ≡ entry.weight
  pub stuff : pos shot.stuff ≡ entry.stuff

abbrev pub Judged : Entry → Result Shot Refusal → Type 0
Judged n (Ok shot) = (fault n ≡ None) × Reads shot n
Judged n (Err e) = fault n ≡ Some e
