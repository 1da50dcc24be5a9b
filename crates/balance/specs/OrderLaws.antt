-- Whole numbers that are equal in order are identical. (A lemma that stands here because a ghost member cites it.)
-- Assumes nothing.
use Rattle.std.specs.Cmp.{int_ranked}
use Rattle.std.specs.Ordering.{int_cmp}
use Rattle.std.specs.declared.cmp.Ordering.TheVariants.{Equal}
use Rattle.std.proofs.Common.{sym}
use Rattle.balance.specs.Orders.{Only}

pub whole_only : Only int_cmp
whole_only x y e = int_ranked x y Equal (sym e)
