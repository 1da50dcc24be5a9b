-- Bounds that keep the arithmetic of lines from wrapping: what is computed in 32, 64 or 128 bits is what the formula says.
use Rattle.std.proofs.Common.{◌≡◌, ℕ, ◌*◌, ◌≤◌, ℤ, pos, negsuc, ◌-ℤ◌, ◌*ℤ◌, neg_ℤ, ◌≤ℤ◌, ap, ◌∙◌, mul-le-mul, arith, w16, w32, w64, SFits, to_z, of_z}
use mir.Syntax.{Width, w128}
use Rattle.std.specs.Ordering.{int_cmp}
use Rattle.std.proofs.lemmas.Int.{ints}
use Rattle.shots.specs.declared.shot.Shot.{Shot}
use Rattle.lines.specs.Lines.{miss, miss_of}
use Rattle.lines.specs.declared.line.Line.{Line}
use Rattle.lines.proofs.Ring.{lin, ring, flat, from, ◌&◌}
use Rattle.lines.proofs.Order.{prod}

-- at most m, whatever the sign
pub record Sized (m : ℕ) (z : ℤ) : Type 0 where
  pub low : neg_ℤ (pos m) ≤ℤ z
  pub high : z ≤ℤ pos m

within : (a b : ℤ) (m n : ℕ) → neg_ℤ (pos m) ≤ℤ a → a ≤ℤ pos m → neg_ℤ (pos n) ≤ℤ b → b ≤ℤ pos n → (neg_ℤ (pos (m * n)) ≤ℤ (a *ℤ b)) × ((a *ℤ b) ≤ℤ pos (m * n))
within a b m n h h' k k' = from (prod h' k' & prod h k & prod h' k & prod h k') (simp ring (simp flat (omega lin)))

pub sized_mul : {m n : ℕ} {a b : ℤ} → Sized m a → Sized n b → Sized (m * n) (a *ℤ b)
sized_mul {m} {n} {a} {b} h k =
    let w = within a b m n h.low h.high k.low k.high in record { low = w.0; high = w.1 }

-- a number as it is after a trip through bits
abbrev pub back : Width → ℤ → ℤ
back w z = to_z w (of_z w z)

-- ---- A·h - B·s in 32 bits, with the shot's numbers as they come from `i32::from`
abbrev pub cross : ℤ → ℤ → ℤ → ℤ → ℤ
cross a x b y = back w32 (back w32 a *ℤ back w32 x) -ℤ back w32 (back w32 b *ℤ back w32 y)

pub record Crossed (a b : ℤ) (z : Shot) (x y : ℤ) : Type 0 where
  pub fits : SFits w32 (cross a x b y)
  pub value : back w32 (cross a x b y) ≡ a *ℤ z.lead -ℤ b *ℤ pos z.speed
  pub low : negsuc 95991999 ≤ℤ back w32 (cross a x b y)
  pub high : back w32 (cross a x b y) ≤ℤ pos 95992000

pub crossed : {a b : ℤ} (z : Shot) {x y : ℤ} → Sized 3999 a → Sized 16000 b → x ≡ back w16 z.lead → y ≡ pos z.speed → Crossed a b z x y
crossed {a} {b} z {x} {y} ha hb e f =
    let ea : back w32 a ≡ a = omega (arith, ints) in
    let eb : back w32 b ≡ b = omega (arith, ints) in
    let ex : back w32 x ≡ z.lead = omega (arith, ints) in
    let ey : back w32 y ≡ pos z.speed = omega (arith, ints) in
    let h : Sized 8000 z.lead = record { low = omega (arith, ints); high = omega (arith, ints) } in
    let k : Sized 4000 (pos z.speed) = record { low = omega (arith, ints); high = omega (arith, ints) } in
    let p = sized_mul ha h in
    let q = sized_mul hb k in
    record {
      fits = simp (ea, ex, eb, ey) (omega (arith, ints));
      value = simp (ea, ex, eb, ey) (omega (arith, ints));
      low = simp (ea, ex, eb, ey) (omega (arith, ints));
      high = simp (ea, ex, eb, ey) (omega (arith, ints));
    }

-- the same, as a caller is told it
pub told : {a b : ℤ} (x y : ℤ) {v : ℤ} → Sized 3999 a → Sized 16000 b → v ≡ back w32 a *ℤ x -ℤ back w32 b *ℤ y → v ≡ a *ℤ x -ℤ b *ℤ y
told {a} {b} x y h k e =
    let ea : back w32 a ≡ a = omega (arith, ints) in
    let eb : back w32 b ≡ b = omega (arith, ints) in
    e ∙ ap (λ u. u *ℤ x -ℤ back w32 b *ℤ y) ea ∙ ap (λ u. a *ℤ x -ℤ u *ℤ y) eb

-- ---- the miss in 32 bits
pub missed : (l : Line) (z : Shot) {v : ℤ} → v ≡ back w32 l.a *ℤ z.lead -ℤ back w32 l.b *ℤ pos z.speed → Sized 95992000 v → back w32 (back w32 v -ℤ back w32 l.c) ≡ miss_of l z
unfolding miss
missed l z e k =
    let h : Sized 3999 l.a = record { low = omega (arith, ints); high = omega (arith, ints) } in
    let j : Sized 16000 l.b = record { low = omega (arith, ints); high = omega (arith, ints) } in
    let t = told z.lead (pos z.speed) h j e in
    omega (arith, ints)

-- ---- weight times price times miss in 64 bits
pub record Weighed (w p : ℕ) (e x y f : ℤ) : Type 0 where
  pub fits : SFits w64 (back w64 (back w64 x *ℤ back w64 y) *ℤ back w64 f)
  pub value : back w64 (back w64 (back w64 x *ℤ back w64 y) *ℤ back w64 f) ≡ pos (w * p) *ℤ e

pub weighed : (w p : ℕ) {e x y f : ℤ} → w ≤ 255 → p ≤ 255 → SFits w32 e → x ≡ pos w → y ≡ pos p → f ≡ back w32 e → Weighed w p e x y f
weighed w p {e} {x} {y} {f} hw hp he ex ey ef =
    let m : w * p ≤ 255 * 255 = mul-le-mul hw hp in
    let dx : back w64 x ≡ pos w = omega (arith, ints) in
    let dy : back w64 y ≡ pos p = omega (arith, ints) in
    let u : back w64 (back w64 x *ℤ back w64 y) ≡ pos (w * p) = simp (dx, dy) (omega (arith, ints)) in
    let v : back w64 f ≡ e = omega (arith, ints) in
    let s : Sized 65025 (pos (w * p)) = record { low = omega (arith, ints); high = omega (arith, ints) } in
    let t : Sized 2147483648 e = record { low = omega (arith, ints); high = omega (arith, ints) } in
    let q = sized_mul s t in
    record { fits = simp (u, v) (omega (arith, ints)); value = simp (u, v) (omega (arith, ints)) }

-- ---- a total times an A in 128 bits
pub wide_product : (x y t a : ℤ) → SFits w64 t → SFits w32 a → x ≡ back w64 t → y ≡ back w32 a → back w128 (back w128 x *ℤ back w128 y) ≡ t *ℤ a
wide_product x y t a f g ex ey =
    let dx : back w128 x ≡ t = omega (arith, ints) in
    let dy : back w128 y ≡ a = omega (arith, ints) in
    let h : Sized 9223372036854775808 t = record { low = omega (arith, ints); high = omega (arith, ints) } in
    let k : Sized 2147483648 a = record { low = omega (arith, ints); high = omega (arith, ints) } in
    let q = sized_mul h k in
    simp (dx, dy) (omega (arith, ints))

-- ---- two products of 32-bit numbers in 64 bits, and how they compare
product_back : (x y a b : ℤ) → SFits w32 a → SFits w32 b → x ≡ back w32 a → y ≡ back w32 b → back w64 (back w64 x *ℤ back w64 y) ≡ a *ℤ b
product_back x y a b f g ex ey =
    let dx : back w64 x ≡ a = omega (arith, ints) in
    let dy : back w64 y ≡ b = omega (arith, ints) in
    let h : Sized 2147483648 a = record { low = omega (arith, ints); high = omega (arith, ints) } in
    let k : Sized 2147483648 b = record { low = omega (arith, ints); high = omega (arith, ints) } in
    let q = sized_mul h k in
    simp (dx, dy) (omega (arith, ints))

pub cross_back : (a b c d : ℤ) {x y z w : ℤ} → SFits w32 a → SFits w32 b → SFits w32 c → SFits w32 d → x ≡ back w32 a → y ≡ back w32 d → z ≡ back w32 c → w ≡ back w32 b → int_cmp (back w64 (back w64 x *ℤ back w64 y)) (back w64 (back w64 z *ℤ back w64 w)) ≡ int_cmp (a *ℤ d) (c *ℤ b)
cross_back a b c d {x} {y} {z} {w} fa fb fc fd ex ey ez ew =
    ap (λ v. int_cmp v (back w64 (back w64 z *ℤ back w64 w))) (product_back x y a d fa fd ex ey) ∙ ap (int_cmp (a *ℤ d)) (product_back z w c b fc fb ez ew)
