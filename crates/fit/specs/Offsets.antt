-- The offset of a line of known slope b / a over a list of shots.
--   IsSlope       a is 1 to 4000 and b is -16000 to 16000
--   pull_at       how a shot pulls at a pair of prices: to its key a·h - b·s, with its weight times the late price as
--                 under price and its weight times the early price as over price
--   offset_pull   how a shot pulls at the prices of its stuff
--   LowestBest    of all lines of this slope, over all rational offsets d / k, none is cheaper than the one at c, and
--                 each of lower offset is strictly dearer
--   OffsetOf      the answer: the lowest key at which the pulls balance (weighted quantile); refused by Slope for a
--                 slope out of range, then by Empty where there is no shot
--   OffsetBest    what the answer is worth: it is the lowest of the cheapest offsets
-- Assumes nothing.
use Rattle.std.specs.Prelude.{◌≡◌, ℕ, ◌*◌, ◌⊎◌, List, [], ℤ, pos, negsuc, ◌-ℤ◌, ◌*ℤ◌, ◌≤ℤ◌, ◌<ℤ◌, Ok, Err, Result}
use Rattle.shots.specs.declared.shot.Shot.{Shot}
use Rattle.shots.specs.declared.refusal.Refusal.{Refusal}
use Rattle.shots.specs.declared.refusal.Refusal.TheVariants.{Slope, Empty}
use Rattle.balance.specs.declared.pull.Pull.{Pull}
use Rattle.theory.specs.Points.{Point, total}
use Rattle.theory.specs.Offsets.{sloped, BalancedOffset}
use Rattle.fit.specs.Points.{points}

pub record IsSlope (a b : ℤ) : Type 0 where
  pub least : pos 1 ≤ℤ a
  pub most : a ≤ℤ pos 4000
  pub fall : negsuc 15999 ≤ℤ b
  pub rise : b ≤ℤ pos 16000

abbrev pub pull_at : ℤ → ℤ → Shot → ℕ × ℕ → Pull ℤ
pull_at a b z p = record { key = a *ℤ z.lead -ℤ b *ℤ pos z.speed; under = z.weight * p.0; over = z.weight * p.1 }

abbrev pub offset_pull : (ℤ → ℕ × ℕ) → ℤ → ℤ → Shot → Pull ℤ
offset_pull tariff a b z = pull_at a b z (tariff (pos z.stuff))

abbrev pub LowestBest : ℤ → ℤ → List Point → ℤ → Type 0
LowestBest a b xs c =
    (k d : ℤ) → pos 1 ≤ℤ k
    → ((k *ℤ total (sloped a b c) xs) ≤ℤ total (sloped (k *ℤ a) (k *ℤ b) d) xs)
    × (d <ℤ (k *ℤ c) → (k *ℤ total (sloped a b c) xs) <ℤ total (sloped (k *ℤ a) (k *ℤ b) d) xs)

abbrev pub OffsetOf : (ℤ → ℕ × ℕ) → ℤ → ℤ → List Shot → Result ℤ Refusal → Type 0
OffsetOf tariff a b xs (Ok c) = IsSlope a b × BalancedOffset a b (points tariff xs) c
OffsetOf tariff a b xs (Err e) = ((IsSlope a b → ⊥) × (e ≡ Slope)) ⊎ (IsSlope a b × (xs ≡ []) × (e ≡ Empty))

abbrev pub OffsetBest : (ℤ → ℕ × ℕ) → ℤ → ℤ → List Shot → Result ℤ Refusal → Type 0
OffsetBest tariff a b xs (Ok c) = LowestBest a b (points tariff xs) c
OffsetBest tariff a b xs (Err e) = Unit {0}
