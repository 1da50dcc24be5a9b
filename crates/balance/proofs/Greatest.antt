-- The greatest key of the pulls is a key of a pull, and no key is above it.
use Rattle.std.proofs.Common.{◌≡◌, true, false, List, sym, refl, subst}
use Rattle.std.specs.List.{All, Contains}
use Rattle.std.specs.Ordering.{is_gt}
use Rattle.std.specs.declared.cmp.Ordering.{Ordering}
use Rattle.balance.specs.Balances.{Every, Among}
use Rattle.balance.specs.Orders.{at_most}
use Rattle.balance.specs.declared.pull.Pull.{Pull}
use Rattle.balance.proofs.Orders.{at_most_from}

module _ {K : Type 0} (cmp : K → K → Ordering) (ps : List (Pull K)) (p : Pull K) where
  pub among : Contains ps p → Among (λ q. q.key ≡ p.key) ps
  among h = (h.0, p, h.1, sym h.2, refl)

  pub top : All (λ q. is_gt (cmp q.key p.key) ≡ false) ps → Every (λ q. at_most cmp q.key p.key ≡ true) ps
  top h i q l e =
      at_most_from (cmp q.key p.key) (subst (λ z. is_gt (cmp z.key p.key) ≡ false) (sym e) (h i q l))
