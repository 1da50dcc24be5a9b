-- Places of a list: at each there is one element, and what holds at each so far.
use Rattle.std.proofs.Common.{◌≡◌, ℕ, ◌+◌, ◌<◌, Bool, true, false, List, [], ◌∷◌, length, get_or, ℤ, nat_abs, Some, None, Option, Ok, Err, Result, MatchOption, Decides, sym, refl, ◌∙◌, subst, ⊎_elim, arith}
use Rattle.std.proofs.lemmas.List.{get_or_default}
use Rattle.std.proofs.lemmas.Int.{ints}
use Rattle.std.proofs.lemmas.Bool.{cases_lt}
use Rattle.std.specs.Bool.{then_some}
use Rattle.std.specs.Result.{result_ok}
use Rattle.std.specs.List.{AllWithin, HoldsAt}
use Rattle.shots.specs.declared.shot.Shot.{Shot}
use Rattle.shots.specs.declared.refusal.Refusal.{Refusal}
use Rattle.lines.specs.Lines.{On}
use Rattle.lines.specs.declared.line.Line.{Line}
use Rattle.racks.specs.Racks.{Holds, Read}
use Rattle.fit.specs.Rates.{OnAt}

pub one_at : {T : Type 0} (xs : List T) (i : ℕ) (x y : T) → i < length xs → x ≡ get_or xs i x → y ≡ get_or xs i y → x ≡ y
one_at xs i x y h p q = p ∙ get_or_default xs i x y h ∙ sym q

-- what holds at each of the first k places, and at the next, holds at each of the first k + 1
pub place_more : {T : Type 0} (P : T → Type 0) (xs : List T) (k : ℕ) (x : T) → k < length xs → x ≡ get_or xs k x → P x → ((j : ℕ) (y : T) → j < k → y ≡ get_or xs j y → P y) → (j : ℕ) (y : T) → j < k + 1 → y ≡ get_or xs j y → P y
place_more P xs k x h e here below j y b p =
    ⊎_elim (λ less. below j y less p)
    (λ more. let at : j ≡ k = omega arith in subst P (one_at xs k x y h e (subst (λ i. y ≡ get_or xs i y) at p)) here)
    (cases_lt j k)

-- what holds within a list holds of each element there
pub each_within : {T : Type 0} (P : T → Type 0) (xs : List T) (n : ℕ) → AllWithin P xs 0 n → (j : ℕ) (y : T) → j < n → y ≡ get_or xs j y → P y
each_within P xs n h j y lt e = subst P (sym e) (h j y (omega arith) lt)

-- where something holds within a list there is an element of which it holds
pub one_within : {T : Type 0} (P : T → Type 0) (xs : List T) (k : ℕ) → k < length xs → HoldsAt P xs k → (x : T) × (x ≡ get_or xs k x) × P x
one_within P [] k lt h = absurd (omega arith)
one_within P (y ∷ ys) k lt h = (get_or (y ∷ ys) k y, get_or_default (y ∷ ys) k y (get_or (y ∷ ys) k y) lt, h y)

pub option_weaker : {T : Type 0} (o : Option T) (N : Type 0) (P Q : T → Type 0) → ((x : T) → P x → Q x) → MatchOption o N P → MatchOption o N Q
option_weaker None N P Q f h = h
option_weaker (Some x) N P Q f h = f x h

pub not_both : (b : Bool) → b ≡ true → b ≡ false → ⊥
not_both true p q = cc
not_both false p q = cc

pub held_below : (xs : List Shot) (p : ℤ) → Holds xs p → nat_abs p < length xs
held_below xs p h = omega (arith, ints, h.0, h.1)

-- the shot that was read is off the line, so none at that place is on it
pub off_at : (l : Line) (xs : List Shot) (p : ℤ) (y : Shot) → Holds xs p → y ≡ get_or xs (nat_abs p) y → (On l y → ⊥) → (z : Shot) → Holds xs p → z ≡ get_or xs (nat_abs p) z → On l z → ⊥
off_at l xs p y h e off z _ f on = off (subst (On l) (one_at xs (nat_abs p) z y (held_below xs p h) f e) on)

-- the shot that was read, if it is on the line
pub on_at : (l : Line) (xs : List Shot) (p : ℤ) (r : Result Shot Refusal) (z : Shot) (b : Bool) → Read xs p r → Some z ≡ result_ok r → Decides b (On l z) → OnAt l xs p (then_some b z)
on_at l xs p (Err f) z b h e d = absurd cc
on_at l xs p (Ok y) z true h e d = let same : z ≡ y = cc in subst (λ x. OnAt l xs p (Some x)) (sym same) (h.0, h.1, subst (On l) same (d.0 refl))
on_at l xs p (Ok y) z false h e d =
    let same : z ≡ y = cc in
    off_at l xs p y h.0 h.1 (λ on. not_both false (d.1 (subst (On l) (sym same) on)) refl)

-- the shot that a read gave is held at the place, and where it gave none, none is
pub read_held : (xs : List Shot) (p : ℤ) (r : Result Shot Refusal) (z : Shot) → Read xs p r → Some z ≡ result_ok r → Holds xs p × (z ≡ get_or xs (nat_abs p) z)
read_held xs p (Err f) z h e = absurd cc
read_held xs p (Ok y) z h e = let same : z ≡ y = cc in subst (λ x. Holds xs p × (x ≡ get_or xs (nat_abs p) x)) (sym same) h

pub read_none : (xs : List Shot) (p : ℤ) (r : Result Shot Refusal) → Read xs p r → None ≡ result_ok r → Holds xs p → ⊥
read_none xs p (Err f) h e = h.0
read_none xs p (Ok y) h e = absurd cc
