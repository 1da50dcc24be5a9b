-- Three digits after the point: a number below 1000 with zeros before it is its three digits.
use Rattle.std.proofs.Common.{◌≡◌, ℕ, ◌+◌, ◌/◌, ◌%◌, ◌^◌, ◌-◌, ◌<◌, ◌≤◌, List, [], ◌∷◌, ◌++◌, false, sym, refl, ap, ◌∙◌, ⊎_elim, arith}
use Rattle.std.proofs.lemmas.Bool.{cases_lt}
use Rattle.std.proofs.lemmas.Fmt.{decimal_digit, decimal_step}
use Rattle.std.specs.Fmt.{decimal, padded_integral, format_spec, char_count}

-- what `{:03}` writes of a numeral
abbrev filled : List ℕ → List ℕ
filled ds = padded_integral (format_spec 32 0 4 3 (2 ^ 64 - 1)) false [] ds

filled_one : (a : ℕ) → filled (a ∷ []) ≡ 48 ∷ 48 ∷ a ∷ []
unfolding padded_integral char_count
filled_one a = refl

filled_two : (a b : ℕ) → filled (a ∷ b ∷ []) ≡ 48 ∷ a ∷ b ∷ []
unfolding padded_integral char_count
filled_two a b = refl

filled_three : (a b c : ℕ) → filled (a ∷ b ∷ c ∷ []) ≡ a ∷ b ∷ c ∷ []
unfolding padded_integral char_count
filled_three a b c = refl

-- the numeral of a number below 1000, filled
filled_digits : (n : ℕ) → n < 1000 → filled (decimal n) ≡ (48 + n / 100) ∷ (48 + n / 10 % 10) ∷ (48 + n % 10) ∷ []
filled_digits n h =
    ⊎_elim
    (λ (one : n < 10).
    let x : 48 ≡ 48 + n / 100 = omega arith in
    let y : 48 ≡ 48 + n / 10 % 10 = omega arith in
    let z : 48 + n ≡ 48 + n % 10 = omega arith in
    ap filled (decimal_digit n one) ∙ filled_one (48 + n) ∙ (λ j. x j ∷ y j ∷ z j ∷ []))
    (λ (more : 10 ≤ n).
    let last = decimal_step n more (omega arith) in
    ⊎_elim
    (λ (two : n < 100).
    let x : 48 ≡ 48 + n / 100 = omega arith in
    let y : 48 + n / 10 ≡ 48 + n / 10 % 10 = omega arith in
    ap filled (rw (last, decimal_digit (n / 10) (omega arith))) ∙ filled_two (48 + n / 10) (48 + n % 10) ∙ (λ j. x j ∷ y j ∷ (48 + n % 10) ∷ []))
    (λ (three : 100 ≤ n).
    let x : 48 + n / 10 / 10 ≡ 48 + n / 100 = omega arith in
    ap filled (rw (last, decimal_step (n / 10) (omega arith) (omega arith), decimal_digit (n / 10 / 10) (omega arith))) ∙ filled_three (48 + n / 10 / 10) (48 + n / 10 % 10) (48 + n % 10) ∙ (λ j. x j ∷ (48 + n / 10 % 10) ∷ (48 + n % 10) ∷ []))
    (cases_lt n 100))
    (cases_lt n 10)

pub three_digits : (t : ℕ) → filled (decimal (t % 1000)) ≡ decimal (t / 100 % 10) ++ (decimal (t / 10 % 10) ++ decimal (t % 10))
three_digits t =
    let x : t % 1000 / 100 ≡ t / 100 % 10 = omega arith in
    let y : t % 1000 / 10 % 10 ≡ t / 10 % 10 = omega arith in
    let z : t % 1000 % 10 ≡ t % 10 = omega arith in
    filled_digits (t % 1000) (omega arith)
    ∙ (λ j. (48 + x j) ∷ (48 + y j) ∷ (48 + z j) ∷ [])
    ∙ sym (rw (decimal_digit (t / 100 % 10) (omega arith), decimal_digit (t / 10 % 10) (omega arith), decimal_digit (t % 10) (omega arith)))
