-- The number and the word of each refusal.
--   number_of   what stands for a refusal in every answer
--   word_of     what stands for it in print, as the codes of its letters
-- Assumes nothing.
use Rattle.std.specs.Prelude.{ℕ, List, codes}
use Rattle.shots.specs.declared.refusal.Refusal.{Refusal}
use Rattle.shots.specs.declared.refusal.Refusal.TheVariants.{Speed, Lead, Weight, Stuff, Full, Place, OneSpeed, Idle, OffPlate, SlipShort, Price, Slope, Empty, Valve, Unreadable, Paper}

abbrev pub number_of : Refusal → ℕ
number_of Speed = 1
number_of Lead = 2
number_of Weight = 3
number_of Stuff = 4
number_of Full = 5
number_of Place = 6
number_of OneSpeed = 7
number_of Idle = 8
number_of OffPlate = 9
number_of SlipShort = 10
number_of Price = 11
number_of Slope = 12
number_of Empty = 13
number_of Valve = 14
number_of Unreadable = 15
number_of Paper = 16

abbrev pub word_of : Refusal → List ℕ
word_of Speed = codes "speed"
word_of Lead = codes "lead"
word_of Weight = codes "weight"
word_of Stuff = codes "stuff"
word_of Full = codes "full"
word_of Place = codes "place"
word_of OneSpeed = codes "one speed"
word_of Idle = codes "idle"
word_of OffPlate = codes "off plate"
word_of SlipShort = codes "slip short"
word_of Price = codes "price"
word_of Slope = codes "slope"
word_of Empty = codes "empty"
word_of Valve = codes "valve"
word_of Unreadable = codes "unreadable"
word_of Paper = codes "paper"
