-- Numerals and numbers are each other's: a number's text reads as the number, and a numeral's number is written as the numeral.
use Rattle.std.proofs.Common.{◌≡◌, ℕ, zero, suc, ◌+◌, ◌-◌, ◌*◌, ◌^◌, ◌<◌, ◌≤◌, true, false, List, [], ◌∷◌, length, get_or, drop, ℤ, pos, negsuc, neg_ℤ, Some, None, decimal, fold, Option, sym, refl, ap, ◌∙◌, subst, ⊎_elim, arith, rules}
use native.Mathlib.Nat.{pow-le-pow_right}
use lib.Signed.{mag}
use Rattle.std.proofs.lemmas.Fmt.{decimal_digit, decimal_nonempty, decimal-digits_value, digits_decimal, first_decimal, length-decimal-le, digits_value-decimal}
use Rattle.std.proofs.lemmas.Str.Parse.{IsNumeralModel, numerals_by_fold, tells_by_index, digits_value_short}
use Rattle.std.proofs.lemmas.Int.{ints}
use Rattle.std.proofs.lemmas.Bool.{cases_Bool, cond-true, cond-false, eqb-true, ne_eqb}
use Rattle.std.specs.Option.{SomeIff}
use Rattle.std.specs.Int.{IsInRange}
use Rattle.std.specs.Fmt.{signed_decimal}
use Rattle.fields.specs.Digits.{most_of}
use Rattle.fields.specs.Numbers.{Natural, Numeral, Within, WritesBack, has_minus, signed_of, value_of}
use Rattle.fields.specs.Written.{ReadsBack}
use Rattle.fields.specs.declared.digits.Digits.{Digits}
use Rattle.fields.specs.declared.digits.Digits.TheVariants.{Six, Eight}

-- a number has one digit at least, and eight at most
most_some : (d : Digits) → 0 < most_of d
most_some Six = omega arith
most_some Eight = omega arith

pub most_le : (d : Digits) → most_of d ≤ 8
most_le Six = omega arith
most_le Eight = omega arith

-- `value_of` is the library's reading of digits
own : IsNumeralModel (λ (ds : List ℕ). (i : ℕ) → i < length ds → IsInRange 48 57 (get_or ds i 0)) value_of
own = numerals_by_fold _ tells_by_index (λ (n : ℕ) (ds : List ℕ). fold (λ (m b : ℕ). m * 10 + (b - 48)) n ds) (search rules)

small_power : (most : ℕ) → most ≤ 8 → 10 ^ most ≤ 100000000
small_power most l = pow-le-pow_right {n = 10} (omega arith) {i = most} {j = 8} l

-- unsigned: digits and their value
natural_lt : (most : ℕ) (ds : List ℕ) → Natural most ds → value_of ds < 10 ^ most
natural_lt most ds nat = digits_value_short own ds most nat.digits nat.short

natural_again : (most : ℕ) (ds : List ℕ) → most ≤ 8 → Natural most ds → decimal (value_of ds) ≡ ds
natural_again most ds l nat =
    decimal-digits_value own ds nat.digits nat.some nat.plain (omega (arith, natural_lt most ds nat, small_power most l))

one_zero : (n : ℕ) → n < 2 ^ 64 → get_or (decimal n) 0 0 ≡ 48 → length (decimal n) ≡ 1
one_zero zero l e = ap length (decimal_digit 0 (omega arith))
one_zero (suc n) l e = absurd (omega (arith, first_decimal (suc n) (omega arith) l))

natural_decimal : (most n : ℕ) → 0 < most → n < 10 ^ most → n < 2 ^ 64 → Natural most (decimal n)
natural_decimal most n some small l =
    record { some = decimal_nonempty n l; short = length-decimal-le most n some small l; plain = one_zero n l; digits = digits_decimal own n l }

natural_plain : (most : ℕ) (ds : List ℕ) → Natural most ds → has_minus ds ≡ false
natural_plain most ds nat =
    ne_eqb (get_or ds 0 0) 45 (λ e. let d = nat.digits 0 nat.some in omega arith)

no_minus : (n : ℕ) → n < 2 ^ 64 → has_minus (decimal n) ≡ false
no_minus n l =
    natural_plain (length (decimal n)) (decimal n) (record { some = decimal_nonempty n l; short = omega arith; plain = one_zero n l; digits = digits_decimal own n l })

-- a number's text reads as the number
signed_of_signed : (z : ℤ) → mag z < 2 ^ 63 → signed_of (signed_decimal z) ≡ z
signed_of_signed (pos n) l = rw (no_minus n (omega arith)) (ap pos (digits_value-decimal own n (omega arith)))
signed_of_signed (negsuc n) l = ap (λ (m : ℕ). neg_ℤ (pos m)) (digits_value-decimal own (suc n) (omega arith))

numeral_signed : (most : ℕ) (z : ℤ) → 0 < most → mag z < 2 ^ 63 → Within most z → Numeral most (signed_decimal z)
numeral_signed most (pos n) some l w =
    rw (no_minus n (omega arith)) (natural_decimal most n some (omega (arith, ints)) (omega arith))
numeral_signed most (negsuc n) some l w =
    (natural_decimal most (suc n) some (omega (arith, ints)) (omega arith), omega (arith, digits_value-decimal own (suc n) (omega arith)))

-- the two kinds of numeral
by_minus : {Q : Type 0} (most : ℕ) (text : List ℕ) → Numeral most text → (has_minus text ≡ true → Natural most (drop 1 text) → 0 < value_of (drop 1 text) → Q) → (has_minus text ≡ false → Natural most text → Q) → Q
by_minus most text num minus plain =
    ⊎_elim
    (λ (e : has_minus text ≡ true). let h = rw e at num in minus e h.0 h.1)
    (λ (e : has_minus text ≡ false). plain e (rw e at num))
    (cases_Bool (has_minus text))

within_pos : (most n : ℕ) → n < 10 ^ most → Within most (pos n)
within_pos most n l = record { above = omega (arith, ints); below = omega (arith, ints) }

within_neg : (most n : ℕ) → n < 10 ^ most → Within most (neg_ℤ (pos n))
within_neg most n l = record { above = omega (arith, ints); below = omega (arith, ints) }

signed_neg : (n : ℕ) → 0 < n → signed_decimal (neg_ℤ (pos n)) ≡ 45 ∷ decimal n
signed_neg zero l = absurd (omega arith)
signed_neg (suc n) l = refl

minus_first : (text : List ℕ) → has_minus text ≡ true → 45 ∷ drop 1 text ≡ text
minus_first [] e = absurd (omega (arith, eqb-true 0 45 e))
minus_first (b ∷ bs) e = ap (λ (x : ℕ). x ∷ bs) (sym (eqb-true b 45 e))

-- the number of a numeral is small, and is written as that numeral
within_signed_of : (most : ℕ) (text : List ℕ) → Numeral most text → Within most (signed_of text)
within_signed_of most text num =
    by_minus most text num
    (λ e nat some. subst (Within most) (sym (cond-true (has_minus text) _ _ e)) (within_neg most _ (natural_lt most (drop 1 text) nat)))
    (λ e nat. subst (Within most) (sym (cond-false (has_minus text) _ _ e)) (within_pos most _ (natural_lt most text nat)))

signed_signed_of : (most : ℕ) (text : List ℕ) → most ≤ 8 → Numeral most text → signed_decimal (signed_of text) ≡ text
signed_signed_of most text l num =
    by_minus most text num
    (λ e nat some. ap signed_decimal (cond-true (has_minus text) _ _ e) ∙ signed_neg _ some ∙ ap (λ (ds : List ℕ). 45 ∷ ds) (natural_again most (drop 1 text) l nat) ∙ minus_first text e)
    (λ e nat. ap signed_decimal (cond-false (has_minus text) _ _ e) ∙ natural_again most text l nat)

pub reads_back : (z : ℤ) → mag z < 2 ^ 63 → ReadsBack z
reads_back z l =
    let e = signed_of_signed z l in
    record { value = e; fits = λ d. numeral_signed (most_of d) z (most_some d) l; only = λ d num. subst (Within (most_of d)) e (within_signed_of (most_of d) (signed_decimal z) num) }

-- what was read is written the same again
pub read_again : (d : Digits) (text : List ℕ) (r : Option ℤ) → SomeIff r (Numeral (most_of d) text) (signed_of text) → WritesBack text r
read_again d text None h = tt
read_again d text (Some z) h = ap signed_decimal h.1 ∙ signed_signed_of (most_of d) text (most_le d) h.0
