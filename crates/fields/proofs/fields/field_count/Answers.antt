-- The tabs tell the parts.
use Rattle.std.proofs.Common.{rules}
use Rattle.fields.proofs.Cuts.{count_parts}
use Rattle.fields.proofs.fields.field_count.Goals as goal

pub returns-clause-parts : goal.returns-clause-parts
returns-clause-parts c = search (rules, count_parts)
