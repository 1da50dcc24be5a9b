-- The number of the digits so far, which are all digits.
use Rattle.std.proofs.Common.{◌≡◌, ℕ, ◌^◌, ◌<◌, get_or, take}
use Rattle.std.specs.Int.{IsInRange}
use Rattle.fields.specs.Numbers.{value_of}
use Rattle.fields.proofs.numbers.natural.Given as goal

abbrev pub invariant-loop-b : goal.invariant-loop-b
invariant-loop-b l = record {
  value : l.n ≡ value_of (take l.b-index l.ds);
  small : l.n < 10 ^ l.b-index;
  digits : (k : ℕ) → k < l.b-index → IsInRange 48 57 (get_or l.ds k 0);
}
