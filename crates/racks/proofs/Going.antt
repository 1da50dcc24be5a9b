-- Going over the shots of a rack: what a loop has taken so far, with what is left, is the list held.
--   Turn    the next shot that a loop takes stands in the list just after those that it took
--   turn    each turn of a loop is one
--   ended   after its last turn a loop has taken the whole list
use Rattle.std.proofs.Common.{◌≡◌, ◌<◌, List, [], ◌∷◌, ◌++◌, length, get_or, take, Some, None, Option, sym, ap, ◌∙◌, subst, arith, length-append}
use Rattle.std.specs.Iterator.{Yields, YieldsFirst}
use Rattle.std.proofs.Math.Seq.{get_or-append_seam, take-append_seam}
use Rattle.std.proofs.lemmas.List.{append-nil}
use Rattle.shots.specs.declared.shot.Shot.{Shot}

abbrev pub step : List Shot → Option Shot → List Shot → Type 0
step = YieldsFirst (λ left. left)

pub with_left : (xs ys left : List Shot) → Yields step xs ys left → xs ≡ ys ++ left
with_left xs [] left y = y
with_left xs (x ∷ ys) left (next, first, y) = first ∙ ap (λ l. x ∷ l) (with_left next ys left y)

-- one turn: after ys comes x
pub record Turn (xs ys : List Shot) (x : Shot) : Type 0 where
  pub inside : length ys < length xs
  pub is : x ≡ get_or xs (length ys) x
  pub before : take (length ys) xs ≡ ys

pub turn : (xs start ys left : List Shot) (r : Option Shot) (rest : List Shot) (x : Shot) → start ≡ xs → Yields step start ys left → r ≡ Some x → step left r rest → Turn xs ys x
turn xs start ys left r rest x b y e s =
    let first : left ≡ x ∷ rest = subst (λ o. step left o rest) e s in
    let w = sym b ∙ with_left start ys left y ∙ ap (λ l. ys ++ l) first in
    record {
      inside = omega (arith, ap length w, length-append ys (x ∷ rest));
      is = sym (ap (λ l. get_or l (length ys) x) w ∙ get_or-append_seam ys x rest x);
      before = ap (take (length ys)) w ∙ take-append_seam ys (x ∷ rest);
    }

-- after the last
pub ended : (xs start ys left : List Shot) (r : Option Shot) (rest : List Shot) → start ≡ xs → Yields step start ys left → r ≡ None → step left r rest → ys ≡ xs
ended xs start ys left r rest b y e s =
    let none : left ≡ [] = (subst (λ o. step left o rest) e s).0 in
    sym (sym b ∙ with_left start ys left y ∙ ap (λ l. ys ++ l) none ∙ append-nil ys)
