-- `run`: the first i calls are made and written down, and carry on every life that led to the sheet.
use Rattle.std.proofs.Common.{◌≡◌, List, ◌++◌, map, reverse, take}
use Rattle.law.specs.declared.kinds.Moment.{Moment}
use Rattle.law.specs.Ties.{Life}
use Rattle.sheet.specs.Sheets.{sees}
use Rattle.sheet.proofs.sheet.Sheet.run.Given as goal

abbrev pub invariant-loop-i : goal.invariant-loop-i
invariant-loop-i g l =
    (map (λ m. m.call) (take l.i l.moments) ≡ take l.i l.calls)
    × ((past : List Moment) → Life past (sees g.R.Rack.held g.R.Rack.capacity g.P.PriceRule.tariff l.initial.self) → Life (reverse (take l.i l.moments) ++ past) (sees g.R.Rack.held g.R.Rack.capacity g.P.PriceRule.tariff l.self))
    × (g.R.Rack.capacity l.self.rack ≡ g.R.Rack.capacity l.initial.self.rack)
    × (l.self.rule ≡ l.initial.self.rule)
