-- Products of facts about ℤ: what `omega` is handed for a step that is not linear.
use Rattle.std.proofs.Common.{◌≡◌, ℕ, ℤ, pos, negsuc, ◌-ℤ◌, ◌*ℤ◌, ◌≤ℤ◌, ◌<ℤ◌, Decides, ap, arith}
use lib.Signed.{lt_z}
use Rattle.std.proofs.lemmas.Int.{by_lt_z, ints}
use Rattle.lines.proofs.Ring.{lin, ring, flat, from}

pub mul_nn : {a b : ℤ} → pos 0 ≤ℤ a → pos 0 ≤ℤ b → pos 0 ≤ℤ (a *ℤ b)
mul_nn {a = pos a} {b = pos b} h k = omega lin
mul_nn {a = pos a} {b = negsuc b} h k = absurd k.le
mul_nn {a = negsuc a} {b} h k = absurd h.le

-- the product of two facts
pub prod : {a b c d : ℤ} → a ≤ℤ b → c ≤ℤ d → pos 0 ≤ℤ ((b -ℤ a) *ℤ (d -ℤ c))
prod {a} {b} {c} {d} h k = mul_nn {a = b -ℤ a} {b = d -ℤ c} (omega lin) (omega lin)

pub prod_lt : {a b c d : ℤ} → a <ℤ b → c <ℤ d → pos 0 <ℤ ((b -ℤ a) *ℤ (d -ℤ c))
prod_lt {a} {b} {c} {d} h k = from (mul_nn {a = b -ℤ a -ℤ pos 1} {b = d -ℤ c -ℤ pos 1} (omega lin) (omega lin)) (simp ring (simp flat (omega lin)))

pub weaken : {a b : ℤ} → a <ℤ b → a ≤ℤ b
weaken h = omega lin

pub nat : (k : ℕ) → pos 0 ≤ℤ pos k
nat k = omega lin

-- an equation times a factor
pub scale : (k : ℤ) {a b : ℤ} → a ≡ b → k *ℤ a ≡ k *ℤ b
scale k e = ap (λ z. k *ℤ z) e

pub mul_le : (a b c : ℤ) → pos 0 ≤ℤ a → b ≤ℤ c → (a *ℤ b) ≤ℤ (a *ℤ c)
mul_le a b c h k = from (prod h k) (simp ring (simp flat (omega lin)))

pub mul_lt : (a b c : ℤ) → pos 0 <ℤ a → b <ℤ c → (a *ℤ b) <ℤ (a *ℤ c)
mul_lt a b c h k = from (prod_lt h k) (simp ring (simp flat (omega lin)))

pub cancel_le : (a b c : ℤ) → pos 0 <ℤ a → (a *ℤ b) ≤ℤ (a *ℤ c) → b ≤ℤ c
cancel_le a b c h k = by_lt_z c b (λ l. omega (lin, mul_lt a c b h l)) (λ m. m)

pub cancel_lt : (a b c : ℤ) → pos 0 <ℤ a → (a *ℤ b) <ℤ (a *ℤ c) → b <ℤ c
cancel_lt a b c h k = by_lt_z b c (λ l. l) (λ m. omega (lin, mul_le a c b (weaken h) m))

pub cancel : (a b c : ℤ) → pos 0 <ℤ a → a *ℤ b ≡ a *ℤ c → b ≡ c
cancel a b c h k = omega (lin, cancel_le a b c h (omega lin), cancel_le a c b h (omega lin))

-- the test `<` on computed numbers decides the order of what they are
pub decides_lt : {u v x y : ℤ} → u ≡ x → v ≡ y → Decides (lt_z u v) (x <ℤ y)
decides_lt {u} {v} {x} {y} e f = (λ t. omega (arith, ints), λ h. grind (arith, ints))
