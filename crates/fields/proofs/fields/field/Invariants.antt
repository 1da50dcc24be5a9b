-- Field `k` of the line is, counted from `start` on, as many places on as turns are left.
use Rattle.std.proofs.Common.{◌≡◌, ◌-◌, ◌≤◌, length, drop}
use Rattle.std.specs.List.{slice_get}
use Rattle.fields.specs.Fields.{parts}
use Rattle.fields.proofs.fields.field.Given as goal

abbrev pub invariant-loop : goal.invariant-loop
invariant-loop l = record {
  same : slice_get (parts l.line) l.k ≡ slice_get (parts (drop l.start l.line)) (l.k - l.counter);
  within : l.start ≤ length l.line;
}
