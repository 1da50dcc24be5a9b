-- Input cut at its first line feed.
use Rattle.std.proofs.Common.{◌≡◌, ℕ, ◌+◌, ◌-◌, ◌<◌, ◌≤◌, ◌==◌, List, ◌∷◌, ◌++◌, length, get_or, take, drop, Some, None, Option, position, sym, ◌∙◌, ⊎_elim, add-one, drop-cons, arith}
use Rattle.std.proofs.lemmas.List.{length-take, get_or-take, take-append-drop, take_rest}
use Rattle.std.proofs.lemmas.List.Quantifiers.{position-Some}
use Rattle.std.proofs.lemmas.List.Sums.{fails_before_first}
use Rattle.std.proofs.lemmas.Bool.{cases_lt, cond_below, eqb-true, eq-eqb, false≢true}
use Rattle.std.proofs.lemmas.Option.{none-some}
use Rattle.std.specs.List.{position_or_len}
use Rattle.appraisal.specs.Text.{NoFeed}

abbrev first : List ℕ → Option ℕ
first xs = position (λ b. b == 10) xs

-- what comes before the first line feed, and after it
pub cut_feed : (xs : List ℕ) (n : ℕ) → first xs ≡ Some n → xs ≡ take n xs ++ 10 ∷ take (length xs - (n + 1)) (drop (n + 1) xs)
cut_feed xs n e =
    let p = position-Some (λ b. b == 10) xs n 0 e in
    sym (take-append-drop n xs) ∙ rw (drop-cons xs n 0 p.0, eqb-true (get_or xs n 0) 10 p.1, take_rest xs (n + 1), add-one)

pub no_feed : (xs : List ℕ) (n : ℕ) → first xs ≡ Some n → NoFeed (take n xs)
no_feed xs n e k l f =
    let p = position-Some (λ b. b == 10) xs n 0 e in
    let m : k < n = omega (arith, length-take n xs) in
    false≢true (sym (p.2 k m) ∙ eq-eqb (get_or xs k 0) 10 (sym (get_or-take n xs k 0 m) ∙ f))

-- without one, the input is one text line
pub no_feed_at_all : (xs : List ℕ) → first xs ≡ None → NoFeed xs
no_feed_at_all xs e k l f =
    let at = position_or_len (λ b. b == 10) xs in
    ⊎_elim
    (λ (h : at < length xs). none-some at (sym e ∙ sym (cond_below at (length xs) (Some at) None h)))
    (λ (h : length xs ≤ at). false≢true (sym (fails_before_first (λ b. b == 10) xs k 0 (omega arith)) ∙ eq-eqb (get_or xs k 0) 10 f))
    (cases_lt at (length xs))
