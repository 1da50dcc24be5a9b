-- The bracket: it closes at every step, and where it is closed its top is the balance point.
use Rattle.std.proofs.Common.{◌≡◌, ℕ, ◌<◌, Bool, true, false, cond, not, List, Some, None, count_by, Option, refl, ap, ◌∙◌, arith}
use Rattle.std.proofs.lemmas.Bool.{false_from_ne_true, true_from_ne_false, both_ways, and_parts, and_from, and_left, and_right, not-true, not-false, not_from_false, not_from_true}
use Rattle.balance.specs.Balances.{Every, Among, Fair, holds, Point}
use Rattle.balance.specs.Brackets.{over_low, inside, within, Middle, Failing}
use Rattle.balance.specs.Orders.{Order}
use Rattle.balance.specs.declared.pull.Pull.{Pull}
use Rattle.balance.proofs.Sides.{fails_bottom, fails_with}
use Rattle.balance.proofs.Sums.{sum_less, cond_up}

pub found : {K : Type 0} {le : K → K → Bool} {ps : List (Pull K)} {low : Option K} {high k : K} → Middle le ps low high k → Among (λ p. p.key ≡ k) ps
found m = (m.place, m.pull, m.there, m.read, m.same)

module _ {K : Type 0} {le : K → K → Bool} (o : Order le) where
  -- what is not at most u, where a is, is not at most a
  not_below : (a k u : K) → le a u ≡ false → le k u ≡ true → le a k ≡ false
  not_below a k u h e = false_from_ne_true (le a k) (λ v. both_ways (le a u) h (o.transitive a k u v e))

  -- where no key of a pull lies within, the sides balance nowhere below high
  fails_below : (ps : List (Pull K)) (low : Option K) (high u : K) → Every Fair ps → Among (λ p. p.key ≡ high) ps → Failing le ps low → Every (λ p. within le low high p ≡ false) ps → le high u ≡ false → holds le ps u ≡ false
  fails_below ps None high u fair some f none h =
      fails_bottom le ps u fair (some.0, some.1, some.2, some.3, ap (λ k. le k u) some.4 ∙ h)
      (λ i p l e. false_from_ne_true (le p.key u) (λ k. both_ways (le high u) h (o.transitive high p.key u (not-false (le high p.key) (none i p l e)) k)))
  fails_below ps (Some l) high u fair some f none h =
      fails_with le ps l u
      (λ i p m e k. true_from_ne_false (le p.key l) (λ t. both_ways (within le (Some l) high p) (none i p m e) (and_from (not (le p.key l)) (not (le high p.key)) (not_from_false (le p.key l) t) (not_from_false (le high p.key) (not_below high p.key u h k)))))
      f

  pub closed : (ps : List (Pull K)) (low : Option K) (high : K) → Every Fair ps → Among (λ p. p.key ≡ high) ps → holds le ps high ≡ true → Failing le ps low → Every (λ p. within le low high p ≡ false) ps → Point le ps high
  closed ps low high fair some here f none =
      record { among = some; here = here; lowest = λ u. fails_below ps low high u fair some f none }

  -- fewer keys lie within once the bracket closes at one of them
  pub fewer_high : (ps : List (Pull K)) (low : Option K) (high k : K) → Middle le ps low high k → count_by (within le low k) ps < count_by (within le low high) ps
  fewer_high ps low high k s =
      sum_less (λ p. cond (within le low k p) 1 0) (λ p. cond (within le low high p) 1 0)
      (λ p. cond_up (within le low k p) (within le low high p) 1 (λ e.
      let q = and_parts (over_low le low p.key) (not (le k p.key)) e in
      let m = and_parts (over_low le low k) (not (le high k)) s.lies in
      and_from (over_low le low p.key) (not (le high p.key)) q.0
      (not_from_false (le high p.key) (false_from_ne_true (le high p.key) (λ y. both_ways (le k p.key) (not-true (le k p.key) q.1) (o.transitive k high p.key (o.total high k (not-true (le high k) m.1)) y))))))
      ps s.place s.pull s.there s.read
      (omega (
        arith,
        ap {B = ℕ} (λ v. cond v 1 0) (ap (inside le low high) s.same ∙ s.lies),
        ap {B = ℕ} (λ v. cond v 1 0) (ap (inside le low k) s.same ∙ and_right (over_low le low k) (not (le k k)) (not_from_true (le k k) (o.reflexive k))),
      ))

  pub fewer_low : (ps : List (Pull K)) (low : Option K) (high k : K) → Middle le ps low high k → count_by (within le (Some k) high) ps < count_by (within le low high) ps
  fewer_low ps low high k s =
      sum_less (λ p. cond (within le (Some k) high p) 1 0) (λ p. cond (within le low high p) 1 0)
      (λ p. cond_up (within le (Some k) high p) (within le low high p) 1 (λ e.
      let q = and_parts (not (le p.key k)) (not (le high p.key)) e in
      and_from (over_low le low p.key) (not (le high p.key)) (further low p.key (and_parts (over_low le low k) (not (le high k)) s.lies).0 (not-true (le p.key k) q.0)) q.1))
      ps s.place s.pull s.there s.read
      (omega (
        arith,
        ap {B = ℕ} (λ v. cond v 1 0) (ap (inside le low high) s.same ∙ s.lies),
        ap {B = ℕ} (λ v. cond v 1 0) (ap (inside le (Some k) high) s.same ∙ and_left (not (le k k)) (not (le high k)) (not_from_true (le k k) (o.reflexive k))),
      ))
    where
      further : (low : Option K) (j : K) → over_low le low k ≡ true → le j k ≡ false → over_low le low j ≡ true
      further None j a b = refl
      further (Some l) j a b = not_from_false (le j l) (false_from_ne_true (le j l) (λ y. both_ways (le j k) b (o.transitive j l k y (o.total k l (not-true (le k l) a)))))
