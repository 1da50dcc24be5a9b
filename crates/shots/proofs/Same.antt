-- Two shots with the same four numbers are the same shot: a range has one proof at most.
use Rattle.std.proofs.Common.{◌≡◌, ◌≤◌, ℤ, pos, negsuc, ◌≤ℤ◌}
use mathlib.Core.Path.{to_path_p}
use native.Mathlib.Bridge.{le_prop}
use lib.Dec.{T_prop}
use lib.Signed.{le_z}
use Rattle.shots.specs.declared.shot.Shot.{Shot}

≤ℤ_prop : {a b : ℤ} (p q : a ≤ℤ b) → p ≡ q
≤ℤ_prop {a} {b} p q = λ i. record { le = T_prop (le_z a b) p.le q.le i }

pub same_numbers : (x y : Shot) → x.speed ≡ y.speed → x.lead ≡ y.lead → x.weight ≡ y.weight → x.stuff ≡ y.stuff → x ≡ y
same_numbers x y s h w m =
    λ i. record {
      speed = s i;
      lead = h i;
      weight = w i;
      stuff = m i;
      moving = to_path_p (λ j. 1 ≤ s j) {a = x.moving} {b = y.moving} (le_prop _ _) i;
      slow = to_path_p (λ j. s j ≤ 4000) {a = x.slow} {b = y.slow} (le_prop _ _) i;
      low = to_path_p (λ j. negsuc 7999 ≤ℤ h j) {a = x.low} {b = y.low} (≤ℤ_prop _ _) i;
      high = to_path_p (λ j. h j ≤ℤ pos 8000) {a = x.high} {b = y.high} (≤ℤ_prop _ _) i;
      counted = to_path_p (λ j. 1 ≤ w j) {a = x.counted} {b = y.counted} (le_prop _ _) i;
      light = to_path_p (λ j. w j ≤ 100) {a = x.light} {b = y.light} (le_prop _ _) i;
      coded = to_path_p (λ j. m j ≤ 15) {a = x.coded} {b = y.coded} (le_prop _ _) i;
    }
