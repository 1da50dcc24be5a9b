-- The ghost fields of slopes and lines: what they hold, and that values with equal numbers are equal, since a ghost field has one proof at most.
use Rattle.std.proofs.Common.{◌≡◌, ℤ, pos, negsuc, ◌*ℤ◌, nat_abs, ◌≤ℤ◌, ◌<ℤ◌, sym, subst, subst₂}
use mathlib.Core.Path.{to_path_p}
use lib.Dec.{T_prop}
use lib.Signed.{le_z}
use Rattle.lines.specs.Divisors.{Coprime}
use Rattle.lines.specs.Lines.{IsLine, Reads}
use Rattle.lines.specs.Slopes.{Worth}
use Rattle.lines.specs.declared.line.Line.{Line}
use Rattle.lines.specs.declared.slope.Slope.{Slope}
use Rattle.lines.specs.LowestTerms.{same_slope}
pub use Rattle.lines.specs.SlopeLaws.{same_slopes}
use Rattle.lines.specs.SlopeLaws.{coprime_prop}
use Rattle.lines.proofs.Order.{cancel, scale}
use Rattle.lines.proofs.Ring.{lin, ring, flat, from, ◌&◌}

le_prop : {a b : ℤ} (p q : a ≤ℤ b) → p ≡ q
le_prop {a} {b} p q = λ i. record { le = T_prop (le_z a b) p.le q.le i }

pub same_lines : (l m : Line) → l.a ≡ m.a → l.b ≡ m.b → l.c ≡ m.c → l ≡ m
same_lines l m e f g =
    λ i. record {
      a = e i;
      b = f i;
      c = g i;
      ahead = to_path_p (λ j. pos 1 ≤ℤ e j) {a = l.ahead} {b = m.ahead} (le_prop _ _) i;
      fine = to_path_p (λ j. e j ≤ℤ pos 3999) {a = l.fine} {b = m.fine} (le_prop _ _) i;
      fall = to_path_p (λ j. negsuc 15999 ≤ℤ f j) {a = l.fall} {b = m.fall} (le_prop _ _) i;
      rise = to_path_p (λ j. f j ≤ℤ pos 16000) {a = l.rise} {b = m.rise} (le_prop _ _) i;
      low = to_path_p (λ j. negsuc 95999999 ≤ℤ g j) {a = l.low} {b = m.low} (le_prop _ _) i;
      high = to_path_p (λ j. g j ≤ℤ pos 96000000) {a = l.high} {b = m.high} (le_prop _ _) i;
      lowest = to_path_p (λ j. Coprime (nat_abs (e j)) (nat_abs (f j))) {a = l.lowest} {b = m.lowest} (coprime_prop _ _) i;
    }

-- a fraction has one slope
cross_same : (x y a b c d : ℤ) → pos 0 <ℤ y → x *ℤ b ≡ a *ℤ y → x *ℤ d ≡ c *ℤ y → a *ℤ d ≡ c *ℤ b
cross_same x y a b c d h e f = cancel y (a *ℤ d) (c *ℤ b) h (from (scale d e & scale b f) (simp ring (simp flat (omega lin))))

pub one_slope : (s t : Slope) (up along : ℤ) → pos 0 <ℤ along → Worth s up along → Worth t up along → t ≡ s
one_slope s t up along h p q =
    let r = same_slope t.rise t.run s.rise s.run t.ahead s.ahead (cross_same up along t.rise t.run s.rise s.run h q p) t.lowest s.lowest in
    same_slopes t s r.0 r.1

-- the facts of a line's ghost fields, by their names
abbrev pub Facts : ℤ → ℤ → ℤ → Type 0
Facts a b c =
    record {
      ahead : pos 1 ≤ℤ a;
      fine : a ≤ℤ pos 3999;
      fall : negsuc 15999 ≤ℤ b;
      rise : b ≤ℤ pos 16000;
      low : negsuc 95999999 ≤ℤ c;
      high : c ≤ℤ pos 96000000;
      lowest : Coprime (nat_abs a) (nat_abs b);
    }

pub facts : {a b c x y z : ℤ} → x ≡ a → y ≡ b → z ≡ c → IsLine a b c → Facts x y z
facts {a} {b} {c} {x} {y} {z} e f g k =
    subst₂ (λ u v. Facts u v z) (sym e) (sym f)
    (subst (λ w. Facts a b w) (sym g) (record { ahead = k.ahead; fine = k.fine; fall = k.fall; rise = k.rise; low = k.low; high = k.high; lowest = k.lowest }))

-- a line's numbers make a line
pub made : (l : Line) {a b c : ℤ} → l.a ≡ a → l.b ≡ b → l.c ≡ c → IsLine a b c × Reads l a b c
made l {a} {b} {c} e f g =
    let k : IsLine l.a l.b l.c = record { ahead = l.ahead; fine = l.fine; fall = l.fall; rise = l.rise; low = l.low; high = l.high; lowest = l.lowest } in
    (subst₂ (λ u v. IsLine u v c) e f (subst (λ w. IsLine l.a l.b w) g k), record { a = e; b = f; c = g })
