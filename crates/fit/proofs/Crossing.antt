-- The key A·h - B·s of a shot in 32 bits, for a slope in range: it never wraps.
use Rattle.std.proofs.Common.{◌≡◌, ℕ, ℤ, pos, ◌-ℤ◌, ◌*ℤ◌, arith, w16, w32, SFits}
use Rattle.std.proofs.lemmas.Int.{ints}
use Rattle.shots.specs.declared.shot.Shot.{Shot}
use Rattle.lines.proofs.Sizes.{Sized, sized_mul, back, cross}
use Rattle.balance.specs.declared.pull.Pull.{Pull}
use Rattle.fit.specs.Offsets.{IsSlope}

-- x and y are the shot's lead and speed as they come from `i32::from`
pub record Keyed (a b : ℤ) (z : Shot) (x y : ℤ) : Type 0 where
  pub first : SFits w32 (back w32 a *ℤ back w32 x)
  pub second : SFits w32 (back w32 b *ℤ back w32 y)
  pub fits : SFits w32 (cross a x b y)
  pub value : back w32 (cross a x b y) ≡ a *ℤ z.lead -ℤ b *ℤ pos z.speed

pub keyed : {a b : ℤ} (z : Shot) {x y : ℤ} → IsSlope a b → x ≡ back w16 z.lead → y ≡ pos z.speed → Keyed a b z x y
keyed {a} {b} z {x} {y} s e f =
    let s1 = s.least in
    let s2 = s.most in
    let s3 = s.fall in
    let s4 = s.rise in
    let ea : back w32 a ≡ a = omega (arith, ints) in
    let eb : back w32 b ≡ b = omega (arith, ints) in
    let ex : back w32 x ≡ z.lead = omega (arith, ints) in
    let ey : back w32 y ≡ pos z.speed = omega (arith, ints) in
    let ha : Sized 4000 a = record { low = omega (arith, ints); high = omega (arith, ints) } in
    let hb : Sized 16000 b = record { low = omega (arith, ints); high = omega (arith, ints) } in
    let h : Sized 8000 z.lead = record { low = omega (arith, ints); high = omega (arith, ints) } in
    let k : Sized 4000 (pos z.speed) = record { low = omega (arith, ints); high = omega (arith, ints) } in
    let p = sized_mul ha h in
    let q = sized_mul hb k in
    record {
      first = simp (ea, ex) (omega (arith, ints));
      second = simp (eb, ey) (omega (arith, ints));
      fits = simp (ea, ex, eb, ey) (omega (arith, ints));
      value = simp (ea, ex, eb, ey) (omega (arith, ints));
    }

-- ---- pulls and answers as they come out of bits
pub same_pull : {k j : ℤ} {u v s t : ℕ} → k ≡ j → u ≡ s → v ≡ t → ◌≡◌ {A = Pull ℤ} (record { key = k; under = u; over = v }) (record { key = j; under = s; over = t })
same_pull e f g = λ i. record { key = e i; under = f i; over = g i }
