-- The word, the number and the values of each answer, and its text.
--   word_of        the word of what a pivot did, as the codes of its letters
--   reply_word     the word of an answer
--   reply_number   the number of an answer that has one: a refusal
--   reply_values   the values of an answer: A, B, C and T of a pivot's line; an offset; how many rows; A, B, C on a pass
--   tabbed         numbers, each after a tab
--   reply_text     an answer as text: its word, then its number or its values
-- Assumes nothing.
use Rattle.std.specs.Prelude.{ℕ, List, [], ◌∷◌, ◌++◌, ℤ, pos, Some, None, codes, Option}
use Rattle.std.specs.Fmt.{signed_decimal}
use Rattle.shots.specs.Refusals.{number_of}
use Rattle.law.specs.declared.kinds.Word.{Word}
use Rattle.law.specs.declared.kinds.Word.TheVariants.{Laid, Moved, Proved, Stands}
use Rattle.law.specs.declared.kinds.Reply.{Reply}
use Rattle.law.specs.declared.kinds.Reply.TheVariants.{Done, Told, Mounted, Slipped, Issued, Refused}

abbrev pub word_of : Word → List ℕ
word_of Laid = codes "laid"
word_of Moved = codes "moved"
word_of Proved = codes "proved"
word_of Stands = codes "stands"

abbrev pub reply_word : Reply → List ℕ
reply_word Done = codes "ok"
reply_word (Told w p) = word_of w
reply_word (Mounted c) = codes "mount"
reply_word (Slipped k) = codes "slip"
reply_word (Issued l) = codes "pass"
reply_word (Refused e) = codes "no"

abbrev pub reply_number : Reply → Option ℕ
reply_number Done = None
reply_number (Told w p) = None
reply_number (Mounted c) = None
reply_number (Slipped k) = None
reply_number (Issued l) = None
reply_number (Refused e) = Some (number_of e)

abbrev pub reply_values : Reply → List ℤ
reply_values Done = []
reply_values (Told w p) = p.line.a ∷ p.line.b ∷ p.line.c ∷ p.total ∷ []
reply_values (Mounted c) = c ∷ []
reply_values (Slipped k) = pos k ∷ []
reply_values (Issued l) = l.a ∷ l.b ∷ l.c ∷ []
reply_values (Refused e) = []

abbrev pub tabbed : List ℤ → List ℕ
tabbed [] = []
tabbed (z ∷ []) = codes "\t" ++ signed_decimal z
tabbed (z ∷ y ∷ zs) = codes "\t" ++ (signed_decimal z ++ tabbed (y ∷ zs))

abbrev pub numbered : Option ℕ → List ℤ → List ℤ
numbered None zs = zs
numbered (Some n) zs = pos n ∷ zs

abbrev pub reply_text : Reply → List ℕ
reply_text r = reply_word r ++ tabbed (numbered (reply_number r) (reply_values r))
