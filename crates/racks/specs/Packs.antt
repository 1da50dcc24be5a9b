-- Shots packed in lent bytes bs, six to a shot, of which the first n images are held.
--   shot_of_bytes    the shot whose image six bytes are, where they are one; else the shot of the four
--                    numbers that they read as, each drawn into its range
--   shots_of_bytes   the shots of the first n images
--   places           how many shots the bytes have room for: one in each six, at most 512
--   Stored           the bytes after an add: image n is the new shot's and the others stay, or all stay
--   Closed           the bytes after a strike: the images past the place, up to image n, are moved down one
--                    place and the others stay, or all stay
-- Assumes nothing.
use Rattle.std.specs.Prelude.{◌≡◌, ℕ, zero, suc, ◌+◌, ◌*◌, ◌/◌, min, max, List, [], ◌∷◌, ◌++◌, length, take, drop, ℤ, pos, negsuc, Ok, Err, Result, slice_index, slice_index_or, unsigned_abs}
use Rattle.std.proofs.Common.{lit≤, to_z}
use Rattle.std.specs.Int.{int_min, int_max, w16}
use Rattle.shots.specs.Images.{image_of}
use Rattle.shots.specs.Shots.{Reads}
use Rattle.shots.specs.declared.shot.Shot.{Shot}
use Rattle.shots.specs.declared.entry.Entry.{Entry}
use Rattle.shots.specs.declared.refusal.Refusal.{Refusal}
use Rattle.racks.specs.Bounds.{least, most, lead_least, lead_most}
use Rattle.racks.specs.Shifts.{moved_down}

unfoldable pub shot_of_bytes : List ℕ → Shot
shot_of_bytes six =
    let s = slice_index six 0 * 256 + slice_index_or six 1 0 in
    let h = to_z w16 (slice_index six 2 * 256 + slice_index six 3) in
    let w = slice_index_or six 4 0 in
    let m = slice_index_or six 5 0 in
    record {
      speed = max 1 (min 4000 s);
      lead = int_max (negsuc 7999) (int_min (pos 8000) h);
      weight = max 1 (min 100 w);
      stuff = max 0 (min 15 m);
      moving = least s 1 4000;
      slow = most s 1 4000 (lit≤ tt);
      low = lead_least h;
      high = lead_most h;
      counted = least w 1 100;
      light = most w 1 100 (lit≤ tt);
      coded = most m 0 15 (lit≤ tt);
    }

abbrev pub shots_of_bytes : ℕ → List ℕ → List Shot
shots_of_bytes zero bs = []
shots_of_bytes (suc n) bs = shot_of_bytes (take 6 bs) ∷ shots_of_bytes n (drop 6 bs)

abbrev pub places : List ℕ → ℕ
places bs = min 512 (length bs / 6)

abbrev pub Stored : ℕ → List ℕ → Entry → Result (Unit {0}) Refusal → List ℕ → Type 0
Stored n bs entry (Ok _) after = (z : Shot) × Reads z entry × (after ≡ take (6 * n) bs ++ image_of z ++ drop (6 * (n + 1)) bs)
Stored n bs entry (Err _) after = after ≡ bs

abbrev pub Closed : ℕ → List ℕ → ℤ → Result (Unit {0}) Refusal → List ℕ → Type 0
Closed n bs p (Ok _) after = after ≡ moved_down (6 * unsigned_abs p) (6 * (unsigned_abs p + 1)) (6 * n) bs
Closed n bs p (Err _) after = after ≡ bs
