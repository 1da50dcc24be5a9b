-- Words of `src/numbers.rt`. Assumes nothing.
--   Natural      one digit (byte 48 to 57) or more, at most so many, and no zero in front of others
--   value_of     the number that digits write
--   has_minus    whether a minus (byte 45) stands in front
--   Numeral      a Natural, or a minus in front of one that is not 0
--   signed_of    the number that a numeral writes
--   Within       closer to 0 than ten to the power of so many digits
--   WritesBack   what was read, if anything, is written as the very text
use Rattle.std.specs.Prelude.{◌≡◌, ℕ, ◌+◌, ◌-◌, ◌*◌, ◌^◌, ◌<◌, ◌≤◌, Bool, cond, List, length, drop, ℤ, pos, neg_ℤ, ◌<ℤ◌, IfSome, MatchBool, fold, Option, ◌==◌, slice_index, slice_index_or}
use Rattle.std.specs.Int.{IsInRange}
use Rattle.std.specs.Fmt.{signed_decimal}

pub record Natural (most : ℕ) (ds : List ℕ) : Type 0 where
  pub some : 0 < length ds
  pub short : length ds ≤ most
  pub plain : slice_index_or ds 0 0 ≡ 48 → length ds ≡ 1
  pub digits : (i : ℕ) → i < length ds → IsInRange 48 57 (slice_index ds i)

abbrev pub value_of : List ℕ → ℕ
value_of ds = fold (λ n b. n * 10 + (b - 48)) 0 ds

abbrev pub has_minus : List ℕ → Bool
has_minus text = slice_index text 0 == 45

abbrev pub Numeral : ℕ → List ℕ → Type 0
Numeral most text = MatchBool (has_minus text) (Natural most (drop 1 text) × (0 < value_of (drop 1 text))) (Natural most text)

abbrev pub signed_of : List ℕ → ℤ
signed_of text = cond (has_minus text) (neg_ℤ (pos (value_of (drop 1 text)))) (pos (value_of text))

pub record Within (most : ℕ) (z : ℤ) : Type 0 where
  pub above : neg_ℤ (pos (10 ^ most)) <ℤ z
  pub below : z <ℤ pos (10 ^ most)

abbrev pub WritesBack : List ℕ → Option ℤ → Type 0
WritesBack text r = IfSome r (λ z. signed_decimal z ≡ text)
