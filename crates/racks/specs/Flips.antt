-- A shot seen in the mirror.
--   flipped   the same shot with its lead negated
-- Assumes nothing.
use Rattle.std.specs.Prelude.{neg_ℤ}
use Rattle.shots.specs.declared.shot.Shot.{Shot}
use Rattle.racks.specs.Bounds.{negated_least, negated_most}

abbrev pub flipped : Shot → Shot
flipped z = record {
  speed = z.speed;
  lead = neg_ℤ z.lead;
  weight = z.weight;
  stuff = z.stuff;
  moving = z.moving;
  slow = z.slow;
  low = negated_least z.lead z.high;
  high = negated_most z.lead z.low;
  counted = z.counted;
  light = z.light;
  coded = z.coded;
}
