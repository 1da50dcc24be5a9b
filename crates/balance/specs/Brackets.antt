-- The bracket about the balance point, as it closes.
--   over_low   a key lies above low, if there is one
--   inside     a key lies strictly between low, if there is one, and high
--   within     a pull's key lies there
--   Middle     k is the key of the middle one, by place, of the pulls whose keys lie there
--   Between    the next key to look at: the middle one, and none only where no pull's key lies there
--   Failing    at low, if there is one, the sides do not balance
-- Assumes nothing.
use Rattle.std.specs.Prelude.{◌≡◌, ℕ, ◌/◌, ◌<◌, Bool, true, false, not, ◌&&◌, List, length, take, Some, None, count_by, Option, slice_index_or}
use Rattle.balance.specs.Balances.{Every, holds}
use Rattle.balance.specs.declared.pull.Pull.{Pull}

abbrev pub over_low : {K : Type 0} → (K → K → Bool) → Option K → K → Bool
over_low le None k = true
over_low le (Some l) k = not (le k l)

abbrev pub inside : {K : Type 0} → (K → K → Bool) → Option K → K → K → Bool
inside le low high k = over_low le low k && not (le high k)

abbrev pub within : {K : Type 0} → (K → K → Bool) → Option K → K → Pull K → Bool
within le low high p = inside le low high p.key

pub record Middle {K : Type 0} (le : K → K → Bool) (ps : List (Pull K)) (low : Option K) (high k : K) : Type 0 where
  pub place : ℕ
  pub pull : Pull K
  pub there : place < length ps
  pub read : pull ≡ slice_index_or ps place pull
  pub same : pull.key ≡ k
  pub lies : inside le low high k ≡ true
  pub middle : count_by (within le low high) (take place ps) ≡ count_by (within le low high) ps / 2

abbrev pub Between : {K : Type 0} → (K → K → Bool) → List (Pull K) → Option K → K → Option K → Type 0
Between le ps low high None = Every (λ p. within le low high p ≡ false) ps
Between le ps low high (Some k) = Middle le ps low high k

abbrev pub Failing : {K : Type 0} → (K → K → Bool) → List (Pull K) → Option K → Type 0
Failing le ps None = Unit {0}
Failing le ps (Some l) = holds le ps l ≡ false
