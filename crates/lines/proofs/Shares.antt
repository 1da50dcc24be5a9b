-- A shot's share: weight times price times miss in 64 bits is the cost that the rule says, and no more than it may be.
use Rattle.std.proofs.Common.{◌≡◌, ℕ, ◌*◌, ◌≤◌, ℤ, pos, ◌-ℤ◌, ◌*ℤ◌, neg_ℤ, ◌≤ℤ◌, sym, ap, ◌∙◌, subst, mul-le-mul, arith, w32, w64, SFits}
use Rattle.std.proofs.lemmas.Int.{ints, by_lt_z, to_z-of_z}
use Rattle.lines.specs.Costs.{cost}
use Rattle.lines.specs.Sides.{side_of}
use Rattle.lines.specs.declared.miss.Side.TheVariants.{Late, Early, On}
use Rattle.lines.proofs.Cost.{cost_up, cost_down, cost_nn}
use Rattle.lines.proofs.Order.{weaken}
use Rattle.lines.proofs.Ring.{mul_neg}
use Rattle.lines.proofs.Sides.{late_above, early_below, on_zero}
use Rattle.lines.proofs.Sizes.{Sized, sized_mul, back}

cost_small : (w p q : ℕ) (e : ℤ) → w ≤ 100 → p ≤ 20 → q ≤ 20 → Sized 191992000 e → cost (w * p) (w * q) e ≤ℤ pos 383984000000
cost_small w p q e h hp hq k =
    let m = mul-le-mul h hp in
    let n = mul-le-mul h hq in
    let u : Sized 2000 (pos (w * p)) = record { low = omega (arith, ints); high = omega (arith, ints) } in
    let v : Sized 2000 (pos (w * q)) = record { low = omega (arith, ints); high = omega (arith, ints) } in
    let x = sized_mul u k in
    let y = sized_mul v k in
    by_lt_z (pos 0) e
    (λ g. subst (λ z. z ≤ℤ pos 383984000000) (sym (cost_up (w * p) (w * q) e (weaken g))) (omega (arith, ints)))
    (λ g. subst (λ z. z ≤ℤ pos 383984000000) (sym (cost_down (w * p) (w * q) e g)) (omega (arith, ints)))

-- what `share` ensures
pub record Shared (w p q : ℕ) (e r : ℤ) : Type 0 where
  pub value : r ≡ cost (w * p) (w * q) e
  pub bound : (pos 0 ≤ℤ r) × (p ≤ 20 → q ≤ 20 → r ≤ℤ pos 383984000000)

pub shared : (w p q : ℕ) {e r : ℤ} → w ≤ 100 → Sized 191992000 e → SFits w64 r → r ≡ cost (w * p) (w * q) e → Shared w p q e (back w64 r)
shared w p q {e} {r} h k f v =
    let i = to_z-of_z w64 r f ∙ v in
    record {
      value = i;
      bound = (subst (λ z. pos 0 ≤ℤ z) (sym i) (cost_nn (w * p) (w * q) e), λ a b. subst (λ z. z ≤ℤ pos 383984000000) (sym i) (cost_small w p q e h a b k));
    }

-- ---- the three sides, from what `charge` ensures; m is the miss as it is passed
pub late_share : (w p q : ℕ) {e m r : ℤ} → w ≤ 100 → Sized 191992000 m → m ≡ e → Late ≡ side_of e → SFits w64 r → r ≡ pos (w * p) *ℤ back w32 m → Shared w p q e (back w64 r)
late_share w p q {e} {m} h k i s f v =
    let z : Sized 191992000 e = record { low = omega (arith, ints); high = omega (arith, ints) } in
    let j : back w32 m ≡ e = omega (arith, ints) in
    shared w p q h z f (v ∙ ap (λ u. pos (w * p) *ℤ u) j ∙ sym (cost_up (w * p) (w * q) e (weaken (late_above e s))))

pub early_share : (w p q : ℕ) {e m r : ℤ} → w ≤ 100 → Sized 191992000 m → m ≡ e → Early ≡ side_of e → SFits w64 r → r ≡ pos (w * q) *ℤ back w32 (pos 0 -ℤ back w32 m) → Shared w p q e (back w64 r)
early_share w p q {e} {m} h k i s f v =
    let z : Sized 191992000 e = record { low = omega (arith, ints); high = omega (arith, ints) } in
    let j : back w32 (pos 0 -ℤ back w32 m) ≡ neg_ℤ e = omega (arith, ints) in
    shared w p q h z f (v ∙ ap (λ u. pos (w * q) *ℤ u) j ∙ mul_neg (pos (w * q)) e ∙ sym (cost_down (w * p) (w * q) e (weaken (early_below e s))))

pub on_share : (w p q : ℕ) {e : ℤ} → w ≤ 100 → On ≡ side_of e → Shared w p q e (pos 0)
on_share w p q {e} h s =
    let o = on_zero e s in
    let z : Sized 191992000 e = record { low = omega (arith, ints); high = omega (arith, ints) } in
    let y = ap (λ u. pos (w * p) *ℤ u) o in
    let c = cost_up (w * p) (w * q) e (omega (arith, ints)) in
    shared w p q {r = pos 0} h z (omega (arith, ints)) (omega (arith, ints))
