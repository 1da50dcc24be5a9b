-- What a level costs whole keys.
--   priced     k times the price of the level c / k: under for each step that a key lies above it, over for each that one lies below
--   Cheapest   no level c / k is cheaper than t, and each lower one is dearer: t is the least of the cheapest levels
-- Assumes nothing.
use Rattle.std.specs.Prelude.{List, ℤ, pos, ◌-ℤ◌, ◌*ℤ◌, ◌≤ℤ◌, ◌<ℤ◌}
use Rattle.lines.specs.Costs.{cost}
use Rattle.lines.specs.Sums.{sum_z}
use Rattle.balance.specs.declared.pull.Pull.{Pull}

abbrev pub priced : List (Pull ℤ) → ℤ → ℤ → ℤ
priced ps c k = sum_z (λ p. cost p.under p.over (k *ℤ p.key -ℤ c)) ps

pub record Cheapest (ps : List (Pull ℤ)) (t : ℤ) : Type 0 where
  pub least : (c k : ℤ) → pos 1 ≤ℤ k → priced ps (k *ℤ t) k ≤ℤ priced ps c k
  pub lowest : (c k : ℤ) → pos 1 ≤ℤ k → c <ℤ (k *ℤ t) → priced ps (k *ℤ t) k <ℤ priced ps c k
