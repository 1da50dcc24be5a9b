-- The shots, lines and sheets of the worked examples.
--   fired                     a shot of this speed and lead, of weight 1 and stuff 0
--   at500 to at3500           (500, 20), (1000, 0), (2000, 0), (3000, 0), (3500, -20)
--   above1000                 (1000, 10)
--   five_shots                the five in this order
--   without2000, without500   four of them, the third or the first struck
--   last_three                three of them, at 1000, 3000 and 3500
--   one_speed                 (1000, 0), (1000, 10)
--   two_speeds                the same and (2000, 0)
--   level                     the line 1 0 0
--   steep                     the line 25 -1 1000
--   gentle                    the line 75 -1 2000
--   late_thrice               the prices 3 for late and 1 for early, for each stuff
--   sheet_at                  a sheet with room for five shots, at these prices
--   sheet                     the same at even prices
--   add                       an add of weight 1 and stuff 0
--   told                      a pivot's answer: its word, line and total
-- Assumes nothing.
use Rattle.std.specs.Prelude.{ℕ, ◌≤◌, List, [], ◌∷◌, ℤ, pos, negsuc, ◌≤ℤ◌}
use Rattle.std.proofs.Math.Nat.{eq-one_of_dvd-one}
use Rattle.std.proofs.Common.{lit≤}
use Rattle.shots.specs.Prices.{even}
use Rattle.shots.specs.declared.shot.Shot.{Shot}
use Rattle.lines.specs.declared.line.Line.{Line}
use Rattle.law.specs.declared.stage.Stage.{Stage}
use Rattle.law.specs.declared.kinds.Call.{Call}
use Rattle.law.specs.declared.kinds.Call.TheVariants.{Add}
use Rattle.law.specs.declared.kinds.Word.{Word}
use Rattle.law.specs.declared.kinds.Reply.{Reply}
use Rattle.law.specs.declared.kinds.Reply.TheVariants.{Told}
use Rattle.law.specs.Views.{View}

abbrev pub fired : (s : ℕ) (h : ℤ) → 1 ≤ s → s ≤ 4000 → negsuc 7999 ≤ℤ h → h ≤ℤ pos 8000 → Shot
fired s h moving slow low high = record {
  speed = s;
  lead = h;
  weight = 1;
  stuff = 0;
  moving = moving;
  slow = slow;
  low = low;
  high = high;
  counted = lit≤ tt;
  light = lit≤ tt;
  coded = lit≤ tt;
}

abbrev pub at500 : Shot
at500 = fired 500 (pos 20) (lit≤ tt) (lit≤ tt) (record { le = tt }) (record { le = tt })

abbrev pub at1000 : Shot
at1000 = fired 1000 (pos 0) (lit≤ tt) (lit≤ tt) (record { le = tt }) (record { le = tt })

abbrev pub at2000 : Shot
at2000 = fired 2000 (pos 0) (lit≤ tt) (lit≤ tt) (record { le = tt }) (record { le = tt })

abbrev pub at3000 : Shot
at3000 = fired 3000 (pos 0) (lit≤ tt) (lit≤ tt) (record { le = tt }) (record { le = tt })

abbrev pub at3500 : Shot
at3500 = fired 3500 (negsuc 19) (lit≤ tt) (lit≤ tt) (record { le = tt }) (record { le = tt })

abbrev pub above1000 : Shot
above1000 = fired 1000 (pos 10) (lit≤ tt) (lit≤ tt) (record { le = tt }) (record { le = tt })

abbrev pub five_shots : List Shot
five_shots = at500 ∷ at1000 ∷ at2000 ∷ at3000 ∷ at3500 ∷ []

abbrev pub without2000 : List Shot
without2000 = at500 ∷ at1000 ∷ at3000 ∷ at3500 ∷ []

abbrev pub without500 : List Shot
without500 = at1000 ∷ at2000 ∷ at3000 ∷ at3500 ∷ []

abbrev pub last_three : List Shot
last_three = at1000 ∷ at3000 ∷ at3500 ∷ []

abbrev pub one_speed : List Shot
one_speed = at1000 ∷ above1000 ∷ []

abbrev pub two_speeds : List Shot
two_speeds = at1000 ∷ above1000 ∷ at2000 ∷ []

abbrev pub level : Line
level = record {
  a = pos 1;
  b = pos 0;
  c = pos 0;
  ahead = record { le = tt };
  fine = record { le = tt };
  fall = record { le = tt };
  rise = record { le = tt };
  low = record { le = tt };
  high = record { le = tt };
  lowest = λ d p q. eq-one_of_dvd-one p;
}

abbrev pub steep : Line
steep = record {
  a = pos 25;
  b = negsuc 0;
  c = pos 1000;
  ahead = record { le = tt };
  fine = record { le = tt };
  fall = record { le = tt };
  rise = record { le = tt };
  low = record { le = tt };
  high = record { le = tt };
  lowest = λ d p q. eq-one_of_dvd-one q;
}

abbrev pub gentle : Line
gentle = record {
  a = pos 75;
  b = negsuc 0;
  c = pos 2000;
  ahead = record { le = tt };
  fine = record { le = tt };
  fall = record { le = tt };
  rise = record { le = tt };
  low = record { le = tt };
  high = record { le = tt };
  lowest = λ d p q. eq-one_of_dvd-one q;
}

abbrev pub late_thrice : ℤ → ℕ × ℕ
late_thrice _ = (3, 1)

abbrev pub sheet_at : (ℤ → ℕ × ℕ) → List Shot → Stage → View
sheet_at tariff xs s = record { held = xs; capacity = 5; tariff = tariff; stage = s }

abbrev pub sheet : List Shot → Stage → View
sheet = sheet_at even

abbrev pub add : ℤ → ℤ → Call
add s h = Add (record { speed = s; lead = h; weight = pos 1; stuff = pos 0 })

abbrev pub told : Word → Line → ℤ → Reply
told w l t = Told w (record { line = l; total = t })
