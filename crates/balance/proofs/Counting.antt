-- How many elements pass a test, element by element.
use Rattle.std.proofs.Common.{◌≡◌, ℕ, ◌+◌, ◌<◌, ◌≤◌, Bool, true, false, cond, List, length, get_or, take, count_by, sym, ap, ◌∙◌, arith}
use Rattle.std.proofs.lemmas.List.{take_all}
use Rattle.balance.proofs.Sums.{sum_more}

-- n of the first i pass
pub record Counted {X : Type 0} (f : X → Bool) (xs : List X) (i n : ℕ) : Type 0 where
  pub count : n ≡ count_by f (take i xs)
  pub small : n ≤ i

module _ {X : Type 0} {f : X → Bool} {xs : List X} {i n : ℕ} (w : Counted f xs i n) where
  pub counted_more : (x : X) {n' : ℕ} → i < length xs → x ≡ get_or xs i x → (b : Bool) → b ≡ f x → n' ≡ n + cond b 1 0 → Counted f xs (i + 1) n'
  counted_more x l e b h q =
      let m : count_by f (take (i + 1) xs) ≡ count_by f (take i xs) + cond b 1 0 = sum_more (λ y. cond (f y) 1 0) xs i x l e ∙ ap (λ v. count_by f (take i xs) + cond v 1 0) (sym h) in
      let s = at_most_one b in
      record { count = omega (arith, w.count); small = omega (arith, w.small) }
    where
      at_most_one : (b : Bool) → cond b 1 0 ≤ 1
      at_most_one true = omega arith
      at_most_one false = omega arith

  pub counted_all : length xs ≤ i → n ≡ count_by f xs
  counted_all l = w.count ∙ ap (count_by f) (take_all i xs l)
