-- A table that is filled from the front with the rows of the shots on a line: in the end it has all of them, and beyond
-- them what it had before.
use Rattle.std.proofs.Common.{◌≡◌, ℕ, zero, suc, ◌+◌, ◌<◌, ◌≤◌, List, [], ◌∷◌, ◌++◌, length, get_or, take, drop, set, ℤ, pos, nat_abs, Some, None, sym, refl, ap, ◌∙◌, subst, arith}
use Rattle.std.proofs.lemmas.List.{append_assoc, append-nil, at_drop_more, at_drop_all, take_more_set, take-append-drop, drop-set-lt, drop-drop}
use Rattle.shots.specs.declared.shot.Shot.{Shot}
use Rattle.lines.specs.Lines.{miss_of}
use Rattle.lines.specs.declared.line.Line.{Line}
use Rattle.fit.specs.Rates.{rise_at, fall_at, Rate}
use Rattle.fit.proofs.Held.{one_at}
use Rattle.slips.specs.Rows.{on_line, row_for, rows_from, rows_of, RowAt}
use Rattle.slips.specs.declared.row.Row.{Row}
use Rattle.slips.proofs.Counts.{if_on, if_off, Counted, count_on_lem, count_off, count_all}

-- ---- the row of the shot at a place
module _ (tariff : ℤ → ℕ × ℕ) (l : Line) (xs : List Shot) (i : ℕ) (p : ℤ) (h : i < length xs) (at : p ≡ pos i) where
  -- both rates are those of one shot
  pub row_made : (r f u v : ℤ) → Rate (rise_at tariff l xs) l xs p (Some r) → Rate (fall_at tariff l xs) l xs p (Some f) → u ≡ r → v ≡ f → RowAt tariff l xs i (Some (record { place = i; rise = u; fall = v }))
  row_made r f u v (z, a, er) (y, b, ef) eu ev =
      let az = subst (λ k. z ≡ get_or xs k z) (ap nat_abs at) a.1 in
      let by = subst (λ k. y ≡ get_or xs k y) (ap nat_abs at) b.1 in
      let one = one_at xs i y z h by az in
      (z, az, a.2, λ j. record { place = i; rise = (eu ∙ er) j; fall = (ev ∙ ef ∙ ap (fall_at tariff l xs) one) j })

-- the shot at a place that holds one
held_at : (xs : List Shot) (i : ℕ) → i < length xs → (z : Shot) × (z ≡ get_or xs i z)
held_at [] i h = absurd (omega arith)
held_at (z ∷ xs) zero h = (z, refl)
held_at (z ∷ xs) (suc i) h = held_at xs i (omega arith)

-- ---- the table after the first i places: its first n rows, with those that are still to come, are all rows
pub record Filled (tariff : ℤ → ℕ × ℕ) (l : Line) (xs : List Shot) (before : List Row) (i n : ℕ) (after : List Row) : Type 0 where
  pub counted : Counted l xs i n
  pub rows : take n after ++ rows_from tariff l xs i (drop i xs) ≡ rows_of tariff l xs
  pub beyond : drop n after ≡ drop n before

module _ {tariff : ℤ → ℕ × ℕ} {l : Line} {xs : List Shot} {before after : List Row} {i n : ℕ} (t : Filled tariff l xs before i n after) where
  module _ (h : i < length xs) where
    next : (z : Shot) → z ≡ get_or xs i z → rows_from tariff l xs i (drop i xs) ≡ rows_from tariff l xs i (z ∷ drop (i + 1) xs)
    next z at =
        at_drop_more (rows_from tariff l xs i) xs i z h ∙ ap (λ y. rows_from tariff l xs i (y ∷ drop (i + 1) xs)) (sym at)

    -- a shot on the line: the table has room for its row, which is written
    pub fill_more : (r : Row) → on_line l xs ≤ length before → length after ≡ length before → RowAt tariff l xs i (Some r) → (n < length after) × Filled tariff l xs before (i + 1) (n + 1) (set after n r)
    fill_more r enough same (z, at, on, is) =
        let left = rows_from tariff l xs (i + 1) (drop (i + 1) xs) in
        let counted = count_on_lem t.counted h z at on in
        let room : n < length after = omega arith in (
          room,
          record {
            counted = counted;
            rows = ap (λ ys. ys ++ left) (take_more_set after n r room)
                ∙ append_assoc (take n after) (r ∷ []) left
                ∙ ap (λ y. take n after ++ (y ∷ left)) is
                ∙ ap (λ ys. take n after ++ ys) (sym (next z at ∙ if_on (miss_of l z) left (row_for tariff l xs i z ∷ left) on))
                ∙ t.rows;
            beyond = drop-set-lt (n + 1) after n r (omega arith) ∙ sym (drop-drop 1 n after) ∙ ap (drop 1) t.beyond ∙ drop-drop 1 n before;
          },
        )

    -- a shot off the line: nothing is written
    pub fill_same : RowAt tariff l xs i None → Filled tariff l xs before (i + 1) n after
    fill_same none =
        let left = rows_from tariff l xs (i + 1) (drop (i + 1) xs) in
        let s = held_at xs i h in
        let off = none s.0 s.1 in
        record {
          counted = count_off t.counted h s.0 s.1 off;
          rows = ap (λ ys. take n after ++ ys) (sym (next s.0 s.1 ∙ if_off (miss_of l s.0) left (row_for tariff l xs i s.0 ∷ left) off)) ∙ t.rows;
          beyond = t.beyond;
        }

  pub fill_all : length xs ≤ i → after ≡ rows_of tariff l xs ++ drop (on_line l xs) before
  fill_all h =
      sym (take-append-drop n after)
      ∙ ap (λ ys. ys ++ drop n after) (sym (append-nil (take n after)) ∙ ap (λ ys. take n after ++ ys) (sym (at_drop_all (rows_from tariff l xs i) xs i h)) ∙ t.rows)
      ∙ ap (λ ys. rows_of tariff l xs ++ ys) (t.beyond ∙ ap (λ k. drop k before) (count_all t.counted h))
