-- Lines in print, their parts parted by tabs.
--   line_text     the three numbers of a line
--   priced_text   the three numbers of a priced line, then its total
--   side_text     a side as a word
-- Assumes nothing.
use Rattle.std.specs.Prelude.{ℕ, List, ◌++◌, codes}
use Rattle.std.specs.Fmt.{signed_decimal}
use Rattle.lines.specs.declared.line.Line.{Line}
use Rattle.lines.specs.declared.priced.PricedLine.{PricedLine}
use Rattle.lines.specs.declared.miss.Side.{Side}
use Rattle.lines.specs.declared.miss.Side.TheVariants.{Late, Early, On}

abbrev pub line_text : Line → List ℕ
line_text l = signed_decimal l.a ++ (codes "\t" ++ (signed_decimal l.b ++ (codes "\t" ++ signed_decimal l.c)))

abbrev pub priced_text : PricedLine → List ℕ
priced_text p =
    signed_decimal p.line.a ++ (codes "\t" ++ (signed_decimal p.line.b ++ (codes "\t" ++ (signed_decimal p.line.c ++ (codes "\t" ++ signed_decimal p.total)))))

abbrev pub side_text : Side → List ℕ
side_text Late = codes "late"
side_text Early = codes "early"
side_text On = codes "on"
