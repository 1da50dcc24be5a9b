-- No rack holds more than its capacity, and no capacity is above 512. (Lemmas that stand here
-- because the racks' ghost members cite them.) Assumes nothing.
use Rattle.std.specs.Prelude.{◌≡◌, ℕ, zero, suc, ◌≤◌, List, map, length, take, drop, refl}
use Rattle.std.proofs.Common.{ap, arith}
use Rattle.std.proofs.lemmas.List.{length-take, length-map}
use Rattle.shots.specs.declared.shot.Shot.{Shot}
use Rattle.racks.specs.Flips.{flipped}
use Rattle.racks.specs.Packs.{shots_of_bytes, places}
use Rattle.racks.specs.Records.{room}

pub records_bounded : (n : ℕ) (rs : List Shot) → n ≤ room rs → (length (take n rs) ≤ room rs) × (room rs ≤ 512)
records_bounded n rs h = (simp length-take (omega arith), omega arith)

pub mirror_bounded : (xs : List Shot) (cap : ℕ) → (length xs ≤ cap) × (cap ≤ 512) → (length (map flipped xs) ≤ cap) × (cap ≤ 512)
mirror_bounded xs cap h = (simp length-map h.0, h.1)

pub length_shots : (n : ℕ) (bs : List ℕ) → length (shots_of_bytes n bs) ≡ n
length_shots zero bs = refl
length_shots (suc n) bs = ap suc (length_shots n (drop 6 bs))

pub packed_bounded : (n : ℕ) (bs : List ℕ) → n ≤ places bs → (length (shots_of_bytes n bs) ≤ places bs) × (places bs ≤ 512)
packed_bounded n bs h = (rw (length_shots n bs) h, omega arith)
