-- Input as text lines, each of which a line feed (byte 10) ends; the last may lack it.
--   NoFeed     no byte is a line feed
--   TextLine   the first text line and the input after it, where there is any input
-- Assumes nothing.
use Rattle.std.specs.Prelude.{◌≡◌, ℕ, ◌<◌, ◌⊎◌, List, [], ◌∷◌, ◌++◌, length, Some, None, Option, ◌≢◌, slice_index}
use Rattle.std.specs.Borrow.{Bor}

abbrev pub NoFeed : List ℕ → Type 0
NoFeed bytes = (k : ℕ) → k < length bytes → slice_index bytes k ≢ 10

abbrev pub TextLine : List ℕ → Option (Bor (List ℕ) × Bor (List ℕ)) → Type 0
TextLine input None = input ≡ []
TextLine input (Some p) =
    NoFeed p.0.now × ((input ≡ p.0.now ++ 10 ∷ p.1.now) ⊎ ((input ≡ p.0.now) × (p.1.now ≡ []) × (0 < length input)))
