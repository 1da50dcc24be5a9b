-- The balance point of pulls (weighted quantile).
--   Every, Among   what holds of each element of a list, and of one of them at least
--   Fair           both prices of a pull are 1 to 8,000,000
--   Usable         1 to 512 pulls, and all of them fair
--   above, upto    what a pull puts on either side of the key t: its under price if its key is above t, its over price if not
--   holds          the sides balance at t: the under prices above add up to at most the over prices at or below
--   LowestKey      the rule: t is a key of a pull, the sides balance there, and at no lower key of a pull
--   Point          more: they balance at no lower key whatever
--   Answer         none for pulls that are not usable, else their balance point
--   Even           each pull has equal prices
--   weight         what a pull weighs at equal prices: either of them
--   Median         the lowest weighted median: at least half of the weight lies at or below t, and less than half at or below any lower key
-- Assumes nothing.
use Rattle.std.specs.Prelude.{◌≡◌, ℕ, ◌*◌, ◌<◌, ◌≤◌, Bool, true, false, cond, List, length, Some, None, sum_by, Option, nat_le, slice_index_or}
use Rattle.balance.specs.declared.balance.Balance.{Balance}
use Rattle.balance.specs.declared.pull.Pull.{Pull}

abbrev pub Every : {T : Type 0} → (T → Type 0) → List T → Type 0
Every {T} P xs = (i : ℕ) (x : T) → i < length xs → x ≡ slice_index_or xs i x → P x

abbrev pub Among : {T : Type 0} → (T → Type 0) → List T → Type 0
Among {T} P xs = (i : ℕ) × (x : T) × (i < length xs) × (x ≡ slice_index_or xs i x) × P x

pub record Fair {K : Type 0} (p : Pull K) : Type 0 where
  pub under_low : 1 ≤ p.under
  pub under_high : p.under ≤ 8000000
  pub over_low : 1 ≤ p.over
  pub over_high : p.over ≤ 8000000

pub record Usable {K : Type 0} (ps : List (Pull K)) : Type 0 where
  pub some : 0 < length ps
  pub few : length ps ≤ 512
  pub fair : Every Fair ps

abbrev pub above : {K : Type 0} → (K → K → Bool) → K → Pull K → ℕ
above le t p = cond (le p.key t) 0 p.under

abbrev pub upto : {K : Type 0} → (K → K → Bool) → K → Pull K → ℕ
upto le t p = cond (le p.key t) p.over 0

abbrev pub holds : {K : Type 0} → (K → K → Bool) → List (Pull K) → K → Bool
holds le ps t = nat_le (sum_by (above le t) ps) (sum_by (upto le t) ps)

pub record LowestKey {K : Type 0} (le : K → K → Bool) (ps : List (Pull K)) (t : K) : Type 0 where
  pub among : Among (λ p. p.key ≡ t) ps
  pub here : holds le ps t ≡ true
  pub lowest : Every (λ p. le t p.key ≡ false → holds le ps p.key ≡ false) ps

pub record Point {K : Type 0} (le : K → K → Bool) (ps : List (Pull K)) (t : K) : Type 0 where
  pub among : Among (λ p. p.key ≡ t) ps
  pub here : holds le ps t ≡ true
  pub lowest : (u : K) → le t u ≡ false → holds le ps u ≡ false

abbrev pub Answer : {K : Type 0} → (K → K → Bool) → List (Pull K) → Option (Balance K) → Type 0
Answer le ps None = Usable ps → ⊥
Answer le ps (Some b) = Usable ps × Point le ps b.lowest

abbrev pub Even : {K : Type 0} → List (Pull K) → Type 0
Even ps = Every (λ p. p.under ≡ p.over) ps

abbrev pub weight : {K : Type 0} → Pull K → ℕ
weight p = p.over

pub record Median {K : Type 0} (le : K → K → Bool) (ps : List (Pull K)) (t : K) : Type 0 where
  pub half : sum_by weight ps ≤ 2 * sum_by (upto le t) ps
  pub lowest : (u : K) → le t u ≡ false → 2 * sum_by (upto le u) ps < sum_by weight ps
