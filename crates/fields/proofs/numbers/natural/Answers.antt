-- A digit more is ten times the number and the digit.
use Rattle.std.proofs.Common.{◌≡◌, ℕ, ◌+◌, ◌-◌, ◌*◌, ◌^◌, ◌<◌, ◌≤◌, get_or, ⊎_elim, add-one, arith, below_more}
use native.Mathlib.Nat.{pow-succ', pow-le-pow_right}
use Rattle.std.proofs.lemmas.List.Sums.{fold_more}
use Rattle.std.specs.Char.{IsDigitOf}
use Rattle.fields.specs.Digits.{most_of}
use Rattle.fields.proofs.Numerals.{most_le}
use Rattle.fields.proofs.numbers.natural.Goals as goal

-- a byte that is a digit below ten
record Digit (b d : ℕ) : Type 0 where
  pub above : 48 ≤ b
  pub below : b ≤ 57
  pub value : d ≡ b - 48

digit : (b c d : ℕ) → c ≡ b → IsDigitOf c d → d < 10 → Digit b d
digit b c d e is l =
    ⊎_elim
    (λ (h : _). record { above = omega arith; below = omega arith; value = omega arith })
    (λ (h : _). ⊎_elim (λ (k : _). absurd (omega arith)) (λ (k : _). absurd (omega arith)) h)
    is

-- a number of fewer digits is below a power of ten
fewer : (i n most : ℕ) → n < 10 ^ i → i ≤ most → n < 10 ^ most
fewer i n most small l = omega (arith, pow-le-pow_right {n = 10} (omega arith) {i = i} {j = most} l)

pub overflow_mul-n : goal.overflow_mul-n
overflow_mul-n c =
    omega (arith, fewer c.loop-b.b-index c.loop-b.n 7 c.loop-b.invariant.small (omega (arith, most_le c.args.digits)))

pub overflow_add-n : goal.overflow_add-n
overflow_add-n c =
    let d = c.in_ok-n.ensures.value in
    omega (arith, d, fewer c.loop-b.b-index c.loop-b.n 7 c.loop-b.invariant.small (omega (arith, most_le c.args.digits)))

pub loop-b-preserved : goal.loop-b-preserved
loop-b-preserved c =
    let ds = c.args.ds.now in
    let i = c.loop-b.b-index in
    let more = fold_more (λ (n b : ℕ). n * 10 + (b - 48)) 0 ds i 0 c.loop-b-test.true in
    let read = c.in_ok-n.ensures.value in
    let d = digit (get_or ds i 0) c.from.result c.in_ok-n.field-0 (omega arith) c.in_ok-n.ensures.cases (omega (arith, read)) in
    record { value = rw more (omega (arith, c.loop-b.invariant.value)); small = rw (add-one, pow-succ') (omega arith); digits = below_more _ _ c.loop-b.invariant.digits (d.above, d.below) }

pub returns-clause-small : goal.returns-clause-small
returns-clause-small c = fewer c.loop-b.b-index c.loop-b.n (most_of c.args.digits) c.loop-b.invariant.small (omega arith)
