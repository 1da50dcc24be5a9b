-- What a text line of the program writes.
--   Writes      field k of the text is a number of at most so many digits, and writes z
--   CardText    three fields that write A, B and C
--   ShotText    four fields that write the speed, lead, weight and stuff of an entry
--   CardRead    the answer to a try to read a card: the line that the text writes, or none where it writes none
--   EntryRead   the answer to a try to read an entry: the one that the text writes, or none
-- Assumes nothing.
use Rattle.std.specs.Prelude.{◌≡◌, ℕ, List, length, ℤ, Some, None, Option}
use Rattle.std.specs.List.{slice_get}
use Rattle.fields.specs.Fields.{parts}
use Rattle.fields.specs.Numbers.{Numeral, signed_of}
use Rattle.shots.specs.declared.entry.Entry.{Entry}
use Rattle.lines.specs.declared.line.Line.{Line}

pub record Writes (most : ℕ) (text : List ℕ) (k : ℕ) (z : ℤ) : Type 0 where
  pub field : List ℕ
  pub is : slice_get (parts text) k ≡ Some field
  pub number : Numeral most field
  pub value : signed_of field ≡ z

pub record CardText (text : List ℕ) (a b c : ℤ) : Type 0 where
  pub three : length (parts text) ≡ 3
  pub a_text : Writes 6 text 0 a
  pub b_text : Writes 6 text 1 b
  pub c_text : Writes 8 text 2 c

pub record ShotText (text : List ℕ) (entry : Entry) : Type 0 where
  pub four : length (parts text) ≡ 4
  pub speed : Writes 6 text 0 entry.speed
  pub lead : Writes 6 text 1 entry.lead
  pub weight : Writes 6 text 2 entry.weight
  pub stuff : Writes 6 text 3 entry.stuff

abbrev pub CardRead : List ℕ → Option Line → Type 0
CardRead text (Some l) = CardText text l.a l.b l.c
CardRead text None = (l : Line) → CardText text l.a l.b l.c → ⊥

abbrev pub EntryRead : List ℕ → Option Entry → Type 0
EntryRead text (Some entry) = ShotText text entry
EntryRead text None = (entry : Entry) → ShotText text entry → ⊥
