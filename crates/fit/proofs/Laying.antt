-- The line to begin with, from what a search through the shots after the first gave.
use Rattle.std.proofs.Common.{◌≡◌, ℕ, zero, suc, ◌+◌, ◌<◌, List, ◌∷◌, length, get_or, Some, None, Option, MatchOption, IsSomeAnd, IfSome, IsTrue, sym, refl, subst, ap, arith}
use denote.Param.Members.{Mut}
use Rattle.std.specs.Fn.{Called}
use Rattle.std.specs.Iterator.Runs.{Run, SomeRun, CallKeepsClosure, AllItemsGive, IsFirstToGive}
use Rattle.std.specs.Option.{option_map}
use Rattle.std.proofs.iter.Rest.{run_of_first}
use Rattle.shots.specs.declared.shot.Shot.{Shot}
use Rattle.lines.specs.Through.{Through}
use Rattle.lines.specs.declared.line.Line.{Line}
use Rattle.racks.proofs.Going.{step}
use Rattle.fit.specs.First.{SameSpeed, FirstLine}

seen : (o : Option Shot) (z : Shot) (P : Shot → Type 0) → option_map (λ y. y) o ≡ Some z → IfSome o P → P z
seen None z P e h = absurd cc
seen (Some w) z P e h = let same : w ≡ z = cc in subst P same h

if_some : (o : Option Shot) (P : Shot → Type 0) → IsSomeAnd o P → IfSome o P
if_some None P h = absurd h
if_some (Some w) P h = h

found : (xs : List Shot) (i : ℕ) (o : Option Shot) (P : Shot → Type 0) → ((d : Shot) → option_map (λ y. y) o ≡ Some (get_or xs i d)) → IsSomeAnd o P → (x : Shot) × (x ≡ get_or xs i x) × P x
found xs i None P e h = absurd h
found xs i (Some x) P e h = let k = e x in (x, cc, h)

module _ (rest : List Shot) (first : Shot) where
  same_speed : (n : ℕ) → ((k : ℕ) (y : Shot) → k < n → y ≡ get_or rest k y → first.speed ≡ y.speed) → SameSpeed (first ∷ rest) first (suc n)
  same_speed n h zero y lt e = ap (λ (z : Shot). z.speed) e
  same_speed n h (suc j) y lt e = sym (h j y (omega arith) e)

  module _ {F : Type 0} (g : Mut F (Shot × Unit {0}) (Option Line)) (f : F) (keeps : CallKeepsClosure g f) (tells : (x : Shot) (r : Option Line) → Called g f (x, tt) r f → Through first x r) where
    -- each place of the rest where the answer was none has the first one's speed
    none_at : (p : Run step) → p.from ≡ rest → (k : ℕ) (y : Shot) → k < p.len → IfSome (p.at k) (λ x. Called g f (x, tt) None f) → y ≡ get_or rest k y → first.speed ≡ y.speed
    none_at p b k y lt h e =
        let at = (run_of_first (λ left. left) p).1.2 k y lt in
        subst (λ z. first.speed ≡ z.speed) (sym e) (tells (get_or rest k y) None (seen (p.at k) (get_or rest k y) (λ x. Called g f (x, tt) None f) (subst (λ l. option_map (λ z. z) (p.at k) ≡ Some (get_or l k y)) b at) h))

    laid : (r : Option Line) → SomeRun step rest (λ p. MatchOption r (IsTrue p.whole × AllItemsGive p g f None) (λ l. (i : ℕ) × (i < p.len) × (p.len ≡ i + 1) × IsFirstToGive p g f (Some l) None i)) → FirstLine (first ∷ rest) r
    laid None h =
        let p = h.0 in
        let b = h.1 in
        let a = (run_of_first (λ left. left) p).1 in
        let n = ap length b in
        λ x _ e. let same : x ≡ first = e in
        subst (λ y. SameSpeed (first ∷ rest) y (suc (length rest))) (sym same) (same_speed (length rest) (λ k y lt d. none_at p b k y (omega (arith, a.1 h.2.0, n)) (h.2.1 keeps k) d))
    laid (Some l) w =
        let p = w.0 in
        let b = w.1 in
        let i = w.2.0 in
        let lt = w.2.1 in
        let a = (run_of_first (λ left. left) p).1 in
        let n = w.2.2 in
        let h = w.2.3 keeps in
        let x = found rest i (p.at i) (λ x. Called g f (x, tt) (Some l) f) (λ d. subst (λ xs. option_map (λ z. z) (p.at i) ≡ Some (get_or xs i d)) b (a.2 i d lt)) h.0 in
        let size : i < length rest = omega (arith, a.0, ap length b) in
        record {
          first = first;
          first_is = refl;
          place = suc i;
          inside = omega arith;
          other = x.0;
          other_is = x.1;
          before = same_speed i (λ k y less d. none_at p b k y (omega arith) (if_some (p.at k) (λ x. Called g f (x, tt) None f) (h.1 k less)) d);
          laid = tells x.0 (Some l) x.2;
        }

pub first_laid : (held rest : List Shot) (first : Shot) → held ≡ first ∷ rest → {F : Type 0} (g : Mut F (Shot × Unit {0}) (Option Line)) (f : F) → CallKeepsClosure g f → ((x : Shot) (r : Option Line) → Called g f (x, tt) r f → Through first x r) → (r : Option Line) → SomeRun step rest (λ p. MatchOption r (IsTrue p.whole × AllItemsGive p g f None) (λ l. (i : ℕ) × (i < p.len) × (p.len ≡ i + 1) × IsFirstToGive p g f (Some l) None i)) → FirstLine held r
first_laid held rest first w g f keeps tells r h = subst (λ xs. FirstLine xs r) (sym w) (laid rest first g f keeps tells r h)
