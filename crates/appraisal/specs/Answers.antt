-- How an answer is written: its parts, parted by tabs.
--   Numbers        the numbers of a line and its total
--   cheaper_text   a line and its total
--   text_of        an answer as text, without the line feed
-- Assumes nothing.
use Rattle.std.specs.Prelude.{◌≡◌, ℕ, ◌/◌, ◌%◌, List, ◌++◌, codes, decimal}
use Rattle.std.specs.Fmt.{signed_decimal}
use Rattle.shots.specs.Refusals.{number_of}
use Rattle.lines.specs.Lines.{Reads}
use Rattle.lines.specs.Texts.{side_text}
use Rattle.lines.specs.declared.priced.PricedLine.{PricedLine}
use Rattle.slips.specs.Texts.{row_text}
use Rattle.appraisal.specs.declared.answer.CheaperLine.{CheaperLine}
use Rattle.appraisal.specs.declared.answer.Answer.{Answer}
use Rattle.appraisal.specs.declared.answer.Answer.TheVariants.{Refused, Judged, Total, Cheapest, NotCheapest, Untested}

abbrev pub Numbers : PricedLine → CheaperLine → Type 0
Numbers priced l = Reads priced.line l.a l.b l.c × (l.total ≡ priced.total)

abbrev pub cheaper_text : CheaperLine → List ℕ
cheaper_text l =
    signed_decimal l.a ++ (codes "\t" ++ (signed_decimal l.b ++ (codes "\t" ++ (signed_decimal l.c ++ (codes "\t" ++ signed_decimal l.total)))))

abbrev pub text_of : Answer → List ℕ
text_of (Refused refusal line) = codes "no\t" ++ (decimal (number_of refusal) ++ (codes "\t" ++ decimal line))
text_of (Judged place side miss) = codes "shot\t" ++ (decimal place ++ (codes "\t" ++ (side_text side ++ (codes "\t" ++ signed_decimal miss))))
text_of (Total total a t) =
    codes "total\t"
    ++ (signed_decimal total
    ++ (codes "\t"
    ++ (signed_decimal a
    ++ (codes "\t"
    ++ (decimal (t / 1000) ++ (codes "." ++ (decimal (t / 100 % 10) ++ (decimal (t / 10 % 10) ++ decimal (t % 10)))))))))
text_of Cheapest = codes "cheapest"
text_of (NotCheapest at by) = codes "not cheapest\t" ++ (row_text at ++ (codes "\t" ++ cheaper_text by))
text_of Untested = codes "untested\tfewer than two speeds on the line"
