-- Words of `src/written.rt`. Assumes nothing.
--   placed      bytes with a text from a place on; those before and beyond it stay
--   Put         whether a text was placed: where it fits it was, and else nothing changed
--   ReadsBack   the text of a number writes that number, and is a numeral of at most so many digits just where the number is within them
use Rattle.std.specs.Prelude.{◌≡◌, ℕ, ◌+◌, ◌<◌, ◌≤◌, List, ◌++◌, length, take, drop, ℤ, Some, None, Option}
use Rattle.std.specs.Fmt.{signed_decimal}
use Rattle.fields.specs.Digits.{most_of}
use Rattle.fields.specs.Numbers.{Numeral, Within, signed_of}
use Rattle.fields.specs.declared.digits.Digits.{Digits}

abbrev pub placed : List ℕ → ℕ → List ℕ → List ℕ
placed bytes at text = take at bytes ++ (text ++ drop (at + length text) bytes)

abbrev pub Put : List ℕ → ℕ → List ℕ → List ℕ → Option ℕ → Type 0
Put bytes at text after (Some end) = (at + length text ≤ length bytes) × (end ≡ at + length text) × (after ≡ placed bytes at text)
Put bytes at text after None = (length bytes < at + length text) × (after ≡ bytes)

pub record ReadsBack (z : ℤ) : Type 0 where
  pub value : signed_of (signed_decimal z) ≡ z
  pub fits : (digits : Digits) → Within (most_of digits) z → Numeral (most_of digits) (signed_decimal z)
  pub only : (digits : Digits) → Numeral (most_of digits) (signed_decimal z) → Within (most_of digits) z
