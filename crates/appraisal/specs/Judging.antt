-- What the program answers to a shot's text line, and at the end.
--   Stands     the answer tells the place, side and miss of the shot held at that place
--   Entered    the text writes an entry that the rack takes: its shot is the last of those held now
--   Declined   why a text line is refused: it writes no entry, or the rack refuses the entry
--   Judges     the answer to a shot's text line, with the shots held before and after it
--   Closes     the answer to all: T at even prices, A, and T/A cut to thousandths
-- Assumes nothing.
use Rattle.std.specs.Prelude.{◌≡◌, ℕ, ◌+◌, ◌⊎◌, List, [], ◌∷◌, ◌++◌, length, pos, ◌*ℤ◌, ◌≤ℤ◌, ◌<ℤ◌, Some, None, slice_index_or}
use Rattle.shots.specs.Shots.{Reads}
use Rattle.shots.specs.Prices.{even}
use Rattle.shots.specs.declared.shot.Shot.{Shot}
use Rattle.shots.specs.declared.entry.Entry.{Entry}
use Rattle.shots.specs.declared.refusal.Refusal.{Refusal}
use Rattle.shots.specs.declared.refusal.Refusal.TheVariants.{Unreadable}
use Rattle.lines.specs.Lines.{miss_of}
use Rattle.lines.specs.Sides.{side_of}
use Rattle.lines.specs.declared.line.Line.{Line}
use Rattle.racks.specs.Racks.{add_fault}
use Rattle.fit.specs.Totals.{total_of}
use Rattle.appraisal.specs.Readings.{ShotText}
use Rattle.appraisal.specs.declared.answer.Answer.{Answer}
use Rattle.appraisal.specs.declared.answer.Answer.TheVariants.{Refused, Judged, Total, Cheapest, NotCheapest, Untested}

abbrev pub Stands : List Shot → Line → ℕ → Answer → Type 0
Stands xs l k (Refused e n) = ⊥
Stands xs l k (Judged place side miss) =
    (z : Shot) × (z ≡ slice_index_or xs k z) × (place ≡ k) × (side ≡ side_of (miss_of l z)) × (miss ≡ miss_of l z)
Stands xs l k (Total t a q) = ⊥
Stands xs l k Cheapest = ⊥
Stands xs l k (NotCheapest at by) = ⊥
Stands xs l k Untested = ⊥

pub record Entered (cap : ℕ) (xs : List Shot) (text : List ℕ) (ys : List Shot) : Type 0 where
  pub entry : Entry
  pub written : ShotText text entry
  pub taken : add_fault cap xs entry ≡ None
  pub shot : Shot
  pub reads : Reads shot entry
  pub added : ys ≡ xs ++ shot ∷ []

pub record Refusing (cap : ℕ) (xs : List Shot) (text : List ℕ) (e : Refusal) : Type 0 where
  pub entry : Entry
  pub written : ShotText text entry
  pub fault : add_fault cap xs entry ≡ Some e

abbrev pub Declined : ℕ → List Shot → List ℕ → Refusal → Type 0
Declined cap xs text e = Refusing cap xs text e ⊎ ((e ≡ Unreadable) × ((entry : Entry) → ShotText text entry → ⊥))

abbrev pub Judges : ℕ → List Shot → Line → List ℕ → ℕ → Answer → List Shot → Type 0
Judges cap xs l text number (Refused e n) ys = (n ≡ number) × (ys ≡ xs) × Declined cap xs text e
Judges cap xs l text number (Judged place side miss) ys = Entered cap xs text ys × Stands ys l (length xs) (Judged place side miss)
Judges cap xs l text number (Total t a q) ys = ⊥
Judges cap xs l text number Cheapest ys = ⊥
Judges cap xs l text number (NotCheapest at by) ys = ⊥
Judges cap xs l text number Untested ys = ⊥

abbrev pub Closes : List Shot → Line → Answer → Type 0
Closes xs l (Refused e n) = ⊥
Closes xs l (Judged place side miss) = ⊥
Closes xs l (Total t a q) =
    (t ≡ total_of even l xs) × (a ≡ l.a) × ((pos q *ℤ l.a) ≤ℤ (pos 1000 *ℤ t)) × ((pos 1000 *ℤ t) <ℤ (pos (q + 1) *ℤ l.a))
Closes xs l Cheapest = ⊥
Closes xs l (NotCheapest at by) = ⊥
Closes xs l Untested = ⊥
