-- Rows in print, their parts parted by tabs.
--   row_text   a place and its two rates
-- Assumes nothing.
use Rattle.std.specs.Prelude.{ℕ, List, ◌++◌, codes, decimal}
use Rattle.std.specs.Fmt.{signed_decimal}
use Rattle.slips.specs.declared.row.Row.{Row}

abbrev pub row_text : Row → List ℕ
row_text r = decimal r.place ++ (codes "\t" ++ (signed_decimal r.rise ++ (codes "\t" ++ signed_decimal r.fall)))
