-- Words of `src/digits.rt`. Assumes nothing.
--   most_of   the most digits that a number may have
use Rattle.std.specs.Prelude.{ℕ}
use Rattle.fields.specs.declared.digits.Digits.{Digits}
use Rattle.fields.specs.declared.digits.Digits.TheVariants.{Six, Eight}

abbrev pub most_of : Digits → ℕ
most_of Six = 6
most_of Eight = 8
