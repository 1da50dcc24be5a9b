-- The calls of a fresh life of the shots xs.
--   entry_of  the entry of a shot
--   add_of    its add
--   plan_of   an add of each shot in order of place, then one pivot more than there are shots
--   Planned   the answer, and the calls after it: the plan, then the calls as they were beyond it; or none, and the calls
--             as they were, where they are too few
-- Assumes nothing.
use Rattle.std.specs.Prelude.{◌≡◌, ℕ, suc, ◌<◌, ◌≤◌, List, ◌++◌, map, length, drop, replicate, pos, Some, None, Option}
use Rattle.shots.specs.declared.shot.Shot.{Shot}
use Rattle.shots.specs.declared.entry.Entry.{Entry}
use Rattle.law.specs.declared.kinds.Call.{Call}
use Rattle.law.specs.declared.kinds.Call.TheVariants.{Add, Pivot}

abbrev pub entry_of : Shot → Entry
entry_of z = record { speed = pos z.speed; lead = z.lead; weight = pos z.weight; stuff = pos z.stuff }

abbrev pub add_of : Shot → Call
add_of z = Add (entry_of z)

abbrev pub plan_of : List Shot → List Call
plan_of xs = map add_of xs ++ replicate (suc (length xs)) Pivot

abbrev pub Planned : List Shot → List Call → Option ℕ → List Call → Type 0
Planned xs before (Some n) after = (n ≡ length (plan_of xs)) × (n ≤ length before) × (after ≡ plan_of xs ++ drop n before)
Planned xs before None after = (length before < length (plan_of xs)) × (after ≡ before)
