-- Numbers kept within bounds. (Lemmas that stand here because definitions of shots cite them.)
-- Assumes nothing.
use Rattle.std.specs.Prelude.{ℕ, ◌≤◌, min, max, ℤ, pos, negsuc, neg_ℤ, ◌≤ℤ◌}
use Rattle.std.proofs.Common.{arith}
use Rattle.std.proofs.lemmas.Int.{ints, clamps}
use Rattle.std.specs.Int.{int_min, int_max}

pub least : (n a b : ℕ) → a ≤ max a (min b n)
least n a b = omega arith

pub most : (n a b : ℕ) → a ≤ b → max a (min b n) ≤ b
most n a b h = omega arith

pub lead_least : (z : ℤ) → negsuc 7999 ≤ℤ int_max (negsuc 7999) (int_min (pos 8000) z)
lead_least z = omega (arith, ints, clamps)

pub lead_most : (z : ℤ) → int_max (negsuc 7999) (int_min (pos 8000) z) ≤ℤ pos 8000
lead_most z = omega (arith, ints, clamps)

pub negated_least : (z : ℤ) → z ≤ℤ pos 8000 → negsuc 7999 ≤ℤ neg_ℤ z
negated_least z h = omega (arith, ints)

pub negated_most : (z : ℤ) → negsuc 7999 ≤ℤ z → neg_ℤ z ≤ℤ pos 8000
negated_most z h = omega (arith, ints)
