-- Shots in records: what setting the next record and moving records down makes of the held shots.
use Rattle.std.proofs.Common.{◌≡◌, ℕ, ◌+◌, ◌-◌, ◌<◌, ◌≤◌, List, [], ◌∷◌, ◌++◌, length, take, set, ap, ◌∙◌, arith}
use Rattle.std.proofs.lemmas.List.{length-set, take_more_set}
use Rattle.std.specs.List.{remove}
use Rattle.shots.specs.declared.shot.Shot.{Shot}
use Rattle.racks.specs.Shifts.{moved_down}
use Rattle.racks.proofs.Shifts.{length_moved, moved_removes}

-- the first n records of rs are xs, and rs is as long as it was
pub record Kept (was rs : List Shot) (n : ℕ) (xs : List Shot) : Type 0 where
  pub held : take n rs ≡ xs
  pub long : length rs ≡ length was

pub pushed : (n : ℕ) (rs after : List Shot) (m : ℕ) (z : Shot) → m ≡ n + 1 → n < length rs → after ≡ set rs n z → Kept rs after m (take n rs ++ z ∷ [])
pushed n rs after m z k lt e = record {
  held = ap (λ j. take j after) k ∙ ap (take (n + 1)) e ∙ take_more_set rs n z lt;
  long = ap length e ∙ length-set rs n z;
}

pub closed : (n : ℕ) (rs after : List Shot) (m i : ℕ) → m ≡ n - 1 → i < n → n ≤ length rs → after ≡ moved_down i (i + 1) n rs → Kept rs after m (remove (take n rs) i)
closed n rs after m i k lt within e = record {
  held = ap (take m) e ∙ moved_removes i n m rs lt within k;
  long = ap length e ∙ length_moved i (i + 1) n rs (omega arith) (omega arith) within;
}
