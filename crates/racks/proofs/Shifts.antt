-- A list after a part of it is moved down is as long as it was, and its front lacks what was moved over.
use Rattle.std.proofs.Common.{◌≡◌, ℕ, suc, ◌+◌, ◌-◌, ◌<◌, ◌≤◌, List, ◌++◌, length, take, drop, sym, ap, ◌∙◌, add-one, arith}
use Rattle.std.proofs.lemmas.List.{length-append, length-take, length-drop, take_at, take-take}
use Rattle.std.proofs.lemmas.Slice.{between_is}
use Rattle.std.specs.List.{remove}
use Rattle.racks.specs.Shifts.{moved_down}

module _ {X : Type 0} where
  pub length_moved : (a b e : ℕ) (xs : List X) → a ≤ b → b ≤ e → e ≤ length xs → length (moved_down a b e xs) ≡ length xs
  length_moved a b e xs p q r = simp (length-append, length-take, length-drop) (omega arith)

  -- place i of the first n is gone
  pub moved_removes : (i n m : ℕ) (xs : List X) → i < n → n ≤ length xs → m ≡ n - 1 → take m (moved_down i (i + 1) n xs) ≡ remove (take n xs) i
  moved_removes i n m xs lt within k =
      take_at (take i xs ++ take (n - (i + 1)) (drop (i + 1) xs)) (drop (i + (n - (i + 1))) xs) m (simp (length-append, length-take, length-drop) (omega arith))
      ∙ ap (λ ys. take i xs ++ ys) (between_is xs (i + 1) n ∙ ap (λ j. drop j (take n xs)) (add-one i))
      ∙ ap (λ ys. ys ++ drop (suc i) (take n xs)) (sym (take-take i n xs (omega arith)))
