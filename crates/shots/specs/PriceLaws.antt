-- Both price rules are fair. (Lemmas that stand here because the rules' ghost members cite them.)
-- Assumes nothing.
use Rattle.std.specs.Prelude.{ℕ, ◌≤◌, true, false, cond, List, get_or, ℤ, slice_index_or, unsigned_abs, refl}
use Rattle.std.proofs.Common.{lit≤}
use Rattle.shots.specs.Ranges.{is_stuff}
use Rattle.shots.specs.Prices.{Fair, even, listed}

pub even_fair : Fair even
even_fair = record { late = λ m. (lit≤ tt, lit≤ tt); early = λ m. (lit≤ tt, lit≤ tt); outside = λ m h. refl }

module _ (table : List (ℕ × ℕ)) where
  kept : (P : ℕ × ℕ → Type 0) → P (1, 1) → ((m : ℕ) → P (slice_index_or table m (1, 1))) → (m : ℤ) → P (listed table m)
  kept P one all m =
      elim (is_stuff m) as (λ b. P (cond b (slice_index_or table (unsigned_abs m) (1, 1)) (1, 1))) [ true ↦ all (unsigned_abs m) | false ↦ one ]

  pub listed_fair : ((m : ℕ) → (1 ≤ (get_or table m (1, 1)).0) × ((get_or table m (1, 1)).0 ≤ 20)) → ((m : ℕ) → (1 ≤ (get_or table m (1, 1)).1) × ((get_or table m (1, 1)).1 ≤ 20)) → Fair (listed table)
  listed_fair l e = record {
    late = kept (λ p. (1 ≤ p.0) × (p.0 ≤ 20)) (lit≤ tt, lit≤ tt) l;
    early = kept (λ p. (1 ≤ p.1) × (p.1 ≤ 20)) (lit≤ tt, lit≤ tt) e;
    outside = λ m h. rw h;
  }
