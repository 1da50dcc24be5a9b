-- The test over shots is the test over their points, so it decides whether a line is cheapest.
use Rattle.std.proofs.Common.{◌≡◌, ℕ, zero, suc, ◌<◌, Some, None, Option, MatchOption, HoldsAt, List, [], ◌∷◌, map, length, get_or, ℤ, pos, sym, refl, subst, inl, inr, ⊎_elim, arith}
use Rattle.std.proofs.lemmas.Int.{ints, by_lt_z}
use Rattle.std.specs.List.{AllWithin}
use Rattle.shots.specs.declared.shot.Shot.{Shot}
use Rattle.lines.specs.Lines.{any}
use Rattle.lines.specs.declared.line.Line.{Line}
use Rattle.theory.specs.Points.{In, Cheapest, Spans, On as OnPoint}
use Rattle.theory.specs.Rates.{rise_of, fall_of, Failing, Passing, Passes}
use Rattle.theory.proofs.Descent.{test_exact}
use Rattle.fit.specs.Points.{point, points}
use Rattle.fit.specs.Testing.{Fails, First, Tested, Best}
use Rattle.fit.proofs.Held.{each_within, one_within}

-- an element of a list of images, and where it comes from
pub record Source {S T : Type 0} (f : S → T) (xs : List S) (y : T) : Type 0 where
  pub place : ℕ
  pub inside : place < length xs
  pub it : S
  pub is : it ≡ get_or xs place it
  pub image : f it ≡ y

pub source : {S T : Type 0} (f : S → T) (xs : List S) (y : T) → In y (map f xs) → Source f xs y
source f [] y i = absurd i
source f (x ∷ xs) y (inl e) = record { place = 0; inside = omega arith; it = x; is = refl; image = e }
source f (x ∷ xs) y (inr i) =
    let s = source f xs y i in
    record { place = suc s.place; inside = omega (arith, s.inside); it = s.it; is = s.is; image = s.image }

pub in_image : {S T : Type 0} (f : S → T) (xs : List S) (k : ℕ) (x : S) → k < length xs → x ≡ get_or xs k x → In (f x) (map f xs)
in_image f [] k x h e = absurd (omega arith)
in_image f (y ∷ xs) zero x h e = inl (λ i. f (sym e i))
in_image f (y ∷ xs) (suc k) x h e = inr (in_image f xs k x (omega arith) e)

module _ (tariff : ℤ → ℕ × ℕ) (l : Line) (xs : List Shot) where
  -- no place fails, so the test passes
  pub none_fails : ((j : ℕ) (y : Shot) → j < length xs → y ≡ get_or xs j y → Fails tariff l xs y → ⊥) → Passes (any l) (points tariff xs)
  none_fails h z i on =
      let s = source (point tariff) xs z i in
      let y = s.it in
      let fine : Failing (any l) (points tariff xs) (point tariff y) → ⊥ = λ f. h s.place y s.inside s.is (subst (OnPoint (any l)) (sym s.image) on, f) in
      subst (Passing (any l) (points tariff xs)) s.image (record {
        rise = by_lt_z (rise_of (any l) (points tariff xs) (point tariff y)) (pos 0) (λ b. absurd (fine (inl b))) (λ b. b);
        fall = by_lt_z (fall_of (any l) (points tariff xs) (point tariff y)) (pos 0) (λ b. absurd (fine (inr b))) (λ b. b);
      })

  pub passes_best : Passes (any l) (points tariff xs) → Spans (any l) (points tariff xs) → Cheapest (any l) (points tariff xs)
  passes_best p s = (test_exact (any l) (points tariff xs) l.ahead s).0 p

  -- a place fails, so some line is cheaper
  pub fails_worse : (k : ℕ) → First tariff l xs k → Spans (any l) (points tariff xs) → Cheapest (any l) (points tariff xs) → ⊥
  fails_worse k f s b =
      let z = f.shot in
      let p = (test_exact (any l) (points tariff xs) l.ahead s).1 b (point tariff z) (in_image (point tariff) xs k z f.inside f.is) f.fails.0 in
      ⊎_elim (λ r. omega (arith, ints, p.rise, r)) (λ r. omega (arith, ints, p.fall, r)) f.fails.1

  -- the first place whose shot fails, if there is one, is what the test says
  pub found : (r : Option ℕ) → MatchOption r (AllWithin (λ y. Fails tariff l xs y → ⊥) xs 0 (length xs)) (λ k. (k < length xs) × HoldsAt (Fails tariff l xs) xs k × AllWithin (λ y. Fails tariff l xs y → ⊥) xs 0 k) → Tested tariff l xs r × Best tariff l xs r
  found None h =
      let p = none_fails (each_within (λ y. Fails tariff l xs y → ⊥) xs (length xs) h) in
      (p, passes_best p)
  found (Some k) h =
      let x = one_within (Fails tariff l xs) xs k h.0 h.1 in
      let first : First tariff l xs k = record { inside = h.0; shot = x.0; is = x.1; fails = x.2; before = each_within (λ y. Fails tariff l xs y → ⊥) xs k h.2 } in
      (first, fails_worse k first)
