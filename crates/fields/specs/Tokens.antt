-- Words of `src/tokens.rt`. Assumes nothing.
--   bytes_of   the bytes that a token holds, as a reference
--   TokenOf    what a text is: its case, and the very bytes of the text in each case
--   TokenAt    the token of a line's field, where the line has that field
use Rattle.std.specs.Prelude.{◌≡◌, ℕ, ◌<◌, List, length, IsSomeAnd, None, Option, MatchOption}
use Rattle.std.specs.Borrow.{Bor}
use Rattle.std.specs.List.{slice_get}
use Rattle.fields.specs.Digits.{most_of}
use Rattle.fields.specs.Fields.{parts}
use Rattle.fields.specs.Numbers.{Numeral, signed_of}
use Rattle.fields.specs.declared.digits.Digits.{Digits}
use Rattle.fields.specs.declared.tokens.Token.{Token}
use Rattle.fields.specs.declared.tokens.Token.TheVariants.{Word, Number, Blank}

abbrev pub bytes_of : Token → Bor (List ℕ)
bytes_of (Word bytes) = bytes
bytes_of (Number bytes value) = bytes
bytes_of (Blank bytes) = bytes

abbrev pub TokenOf : Digits → List ℕ → Token → Type 0
TokenOf digits text (Word bytes) = (bytes.now ≡ text) × (0 < length text) × (Numeral (most_of digits) text → ⊥)
TokenOf digits text (Number bytes value) = (bytes.now ≡ text) × Numeral (most_of digits) text × (value ≡ signed_of text)
TokenOf digits text (Blank bytes) = (bytes.now ≡ text) × (length text ≡ 0)

abbrev pub TokenAt : Digits → List ℕ → ℕ → Option Token → Type 0
TokenAt digits line k r = MatchOption r (slice_get (parts line) k ≡ None) (λ token. IsSomeAnd (slice_get (parts line) k) (λ text. TokenOf digits text token))
