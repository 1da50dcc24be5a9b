-- Shots in lent records rs, of which the first n are held.
--   room     how many shots the records have room for: one each, at most 512
--   Stored   the records after an add: record n is the new shot and the others stay, or all stay
--   Closed   the records after a strike: those past the place, up to record n, are moved down one
--            place and the others stay, or all stay
-- Assumes nothing.
use Rattle.std.specs.Prelude.{◌≡◌, ℕ, ◌+◌, min, List, length, ℤ, Ok, Err, Result, slice_set, unsigned_abs}
use Rattle.shots.specs.Shots.{Reads}
use Rattle.shots.specs.declared.shot.Shot.{Shot}
use Rattle.shots.specs.declared.entry.Entry.{Entry}
use Rattle.shots.specs.declared.refusal.Refusal.{Refusal}
use Rattle.racks.specs.Shifts.{moved_down}

abbrev pub room : List Shot → ℕ
room rs = min 512 (length rs)

abbrev pub Stored : ℕ → List Shot → Entry → Result (Unit {0}) Refusal → List Shot → Type 0
Stored n rs entry (Ok _) after = (z : Shot) × Reads z entry × (after ≡ slice_set rs n z)
Stored n rs entry (Err _) after = after ≡ rs

abbrev pub Closed : ℕ → List Shot → ℤ → Result (Unit {0}) Refusal → List Shot → Type 0
Closed n rs p (Ok _) after = after ≡ moved_down (unsigned_abs p) (unsigned_abs p + 1) n rs
Closed n rs p (Err _) after = after ≡ rs
