-- The cheapest line over the shots xs, found by a fresh life of them at even prices.
--   best_text   the cheapest line as text, or that there is none
--   Costs       the numbers of a line, and its T over the shots
--   Tells       the answer tells this line in force, with its T, or that none is
--   BestOf      the answer tells a line through two of the shots of different speeds, than which none is cheaper, with its
--               T; or that there is none, where the shots have one speed
--   Made        a life of the plan is written down, and what is beyond stays; where there was room for all shots, the
--               answer is the best of them, and they are held at last
--   Finds       the answer: a life was made where the fresh rack held no shot and there was room for the calls and their
--               moments; else none was, and nothing is written
--   Settles     a pivot's answer is proved or a refusal: no later one says more
-- Assumes nothing.
use Rattle.std.specs.Prelude.{◌≡◌, ℕ, ◌<◌, ◌≤◌, ◌⊎◌, List, [], ◌++◌, length, take, drop, Some, None, Option, codes}
use Rattle.shots.specs.Prices.{even}
use Rattle.shots.specs.declared.shot.Shot.{Shot}
use Rattle.lines.specs.Lines.{Reads}
use Rattle.lines.specs.declared.line.Line.{Line}
use Rattle.fit.specs.First.{OneSpeed}
use Rattle.fit.specs.Totals.{total_of}
use Rattle.law.specs.declared.kinds.Word.TheVariants.{Proved}
use Rattle.law.specs.declared.kinds.Reply.{Reply}
use Rattle.law.specs.declared.kinds.Reply.TheVariants.{Done, Told, Mounted, Slipped, Issued, Refused}
use Rattle.law.specs.declared.kinds.Moment.{Moment}
use Rattle.law.specs.Lives.{Best as IsBest, Transcript}
use Rattle.appraisal.specs.Answers.{cheaper_text}
use Rattle.appraisal.specs.Planning.{plan_of}
use Rattle.appraisal.specs.declared.answer.CheaperLine.{CheaperLine}
use Rattle.appraisal.specs.declared.finding.Found.{Found}

abbrev pub best_text : Option CheaperLine → List ℕ
best_text (Some by) = codes "best\t" ++ cheaper_text by
best_text None = codes "no line\tfewer than two speeds"

pub record Costs (xs : List Shot) (l : Line) (by : CheaperLine) : Type 0 where
  pub numbers : Reads l by.a by.b by.c
  pub total : by.total ≡ total_of even l xs

abbrev pub Tells : List Shot → Option Line → Option CheaperLine → Type 0
Tells xs o (Some by) = (l : Line) × (o ≡ Some l) × Costs xs l by
Tells xs o None = o ≡ None

abbrev pub BestOf : List Shot → Option CheaperLine → Type 0
BestOf xs (Some by) = (l : Line) × IsBest even xs l × Costs xs l by
BestOf xs None = OneSpeed xs

-- ys are the shots that the fresh rack holds at last
pub record Made (cap : ℕ) (xs : List Shot) (before after : List Moment) (ys : List Shot) (found : Found) : Type 0 where
  pub count : found.count ≡ length (plan_of xs)
  pub transcript : Transcript even cap (plan_of xs) (take found.count after)
  pub beyond : drop found.count after ≡ drop found.count before
  pub best : length xs ≤ cap → BestOf xs found.best.0
  pub holds : length xs ≤ cap → ys ≡ xs

-- fresh are the shots that the fresh rack holds at first, and room is how many calls are lent
abbrev pub Finds : ℕ → List Shot → List Shot → ℕ → List Moment → Option Found → List Moment → List Shot → Type 0
Finds cap xs fresh room before (Some found) after ys =
    (fresh ≡ []) × (length (plan_of xs) ≤ room) × (length (plan_of xs) ≤ length before) × Made cap xs before after ys found
Finds cap xs fresh room before None after ys =
    (fresh ≡ [] → (room < length (plan_of xs)) ⊎ (length before < length (plan_of xs))) × (after ≡ before) × (ys ≡ fresh)

abbrev pub Settles : Reply → Type 0
Settles Done = ⊥
Settles (Told w p) = w ≡ Proved
Settles (Mounted c) = ⊥
Settles (Slipped k) = ⊥
Settles (Issued l) = ⊥
Settles (Refused e) = Unit {0}
