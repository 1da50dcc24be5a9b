-- What a price rule means: for each stuff its late price and its early price.
--   Fair       both prices are 1 to 20, and 1 and 1 for a number that is no stuff
--   even       the even rule: 1 and 1
--   listed     the stuff rule: what the table of sixteen pairs has, and 1 and 1 for what is no stuff
--   SetPrice   the answer to a try to set one stuff's prices, and the table after it
-- Assumes nothing.
use Rattle.std.specs.Prelude.{◌≡◌, ℕ, ◌≤◌, false, cond, ◌&&◌, List, ℤ, Some, None, Ok, Err, Option, Result, slice_index_or, slice_set, unsigned_abs}
use Rattle.shots.specs.Ranges.{is_stuff, is_price}
use Rattle.shots.specs.declared.refusal.Refusal.{Refusal}
use Rattle.shots.specs.declared.refusal.Refusal.TheVariants.{Stuff, Price}

pub record Fair (tariff : ℤ → ℕ × ℕ) : Type 0 where
  pub late : (m : ℤ) → (1 ≤ (tariff m).0) × ((tariff m).0 ≤ 20)
  pub early : (m : ℤ) → (1 ≤ (tariff m).1) × ((tariff m).1 ≤ 20)
  pub outside : (m : ℤ) → is_stuff m ≡ false → tariff m ≡ (1, 1)

abbrev pub even : ℤ → ℕ × ℕ
even _ = (1, 1)

abbrev pub listed : List (ℕ × ℕ) → ℤ → ℕ × ℕ
listed table m = cond (is_stuff m) (slice_index_or table (unsigned_abs m) (1, 1)) (1, 1)

-- the first of the numbers that is out of its range
abbrev pub price_fault : ℤ → ℤ → ℤ → Option Refusal
price_fault m late early = cond (is_stuff m) (cond (is_price late && is_price early) None (Some Price)) (Some Stuff)

abbrev pub SetPrice : List (ℕ × ℕ) → ℤ → ℤ → ℤ → Result (Unit {0}) Refusal → List (ℕ × ℕ) → Type 0
SetPrice table m late early (Ok _) after = (price_fault m late early ≡ None) × (after ≡ slice_set table (unsigned_abs m) (unsigned_abs late, unsigned_abs early))
SetPrice table m late early (Err e) after = (price_fault m late early ≡ Some e) × (after ≡ table)
