-- A loop that adds up one number for each shot of a rack: what its sum is after so many turns, and that it never wraps.
use Rattle.std.proofs.Common.{◌≡◌, ℕ, ◌+◌, ◌*◌, ◌<◌, ◌≤◌, List, [], ◌∷◌, ◌++◌, map, length, ℤ, pos, ◌+ℤ◌, neg_ℤ, ◌≤ℤ◌, refl, ap, ◌∙◌, mul-le-mul, mul-one, mul-add, arith, w64, SFits, to_z, of_z}
use Rattle.std.proofs.lemmas.List.{length_push}
use Rattle.std.proofs.lemmas.Int.{ints, to_z-of_z}
use Rattle.lines.specs.Sums.{sum_z}
use Rattle.lines.proofs.Ring.{lin}
use Rattle.lines.proofs.Sizes.{Sized}

-- the sum s of the elements ys so far, of which each added at most m, whatever the sign
pub record Running {T : Type 0} (f : T → ℤ) (m : ℕ) (ys : List T) (s : ℤ) : Type 0 where
  pub is : s ≡ sum_z f ys
  pub low : neg_ℤ (pos (m * length ys)) ≤ℤ s
  pub high : s ≤ℤ pos (m * length ys)

module _ {T : Type 0} (f : T → ℤ) where
  sum_push : (xs : List T) (x : T) → sum_z f (xs ++ x ∷ []) ≡ sum_z f xs +ℤ f x
  sum_push [] x = omega lin
  sum_push (y ∷ xs) x = omega (lin, sum_push xs x)

  -- one turn: after ys came x, and r was computed for it
  pub run_more : (m : ℕ) (ys : List T) (x : T) (s b r : ℤ) → length ys < 512 → m ≤ 2000000000000000 → Running f m ys s → b ≡ s → r ≡ f x → Sized m r → SFits w64 (b +ℤ to_z w64 (of_z w64 r)) × Running f m (ys ++ x ∷ []) (to_z w64 (of_z w64 (b +ℤ to_z w64 (of_z w64 r))))
  run_more m ys x s b r n k t e q z =
      let i = length ys in
      let i1 : i ≤ 512 = omega arith in
      let k1 : m * i ≤ 2000000000000000 * 512 = mul-le-mul k i1 in
      let k2 : m * length (ys ++ x ∷ []) ≡ m * i + m = ap (λ j. m * j) (length_push ys x) ∙ mul-add m i 1 ∙ ap (λ j. m * i + j) (mul-one m) in
      let t1 = t.low in
      let t2 = t.high in
      let z1 = z.low in
      let z2 = z.high in
      let c : to_z w64 (of_z w64 r) ≡ r = to_z-of_z w64 r (omega (arith, ints)) in
      let fit : SFits w64 (s +ℤ r) = omega (arith, ints) in
      let g : to_z w64 (of_z w64 (s +ℤ r)) ≡ s +ℤ r = to_z-of_z w64 (s +ℤ r) fit in
      let w : s +ℤ r ≡ sum_z f (ys ++ x ∷ []) = let t0 = t.is in omega (lin, sum_push ys x) in
      rw (c, e) (fit, rw g (record { is = w; low = omega (arith, ints); high = omega (arith, ints) }))

-- a sum over a list of images
pub sum_map : {S T : Type 0} (f : T → ℤ) (h : S → T) (xs : List S) → sum_z (λ x. f (h x)) xs ≡ sum_z f (map h xs)
sum_map f h [] = refl
sum_map f h (x ∷ xs) = ap (λ n. f (h x) +ℤ n) (sum_map f h xs)
