-- Six bytes and the shot that they stand for determine each other.
use Rattle.std.proofs.Common.{◌≡◌, ℕ, ◌+◌, ◌*◌, ◌/◌, ◌%◌, ◌<◌, List, [], ◌∷◌, length, get_or, ℤ, pos, negsuc, ◌≤ℤ◌, Some, None, Ok, Err, Result, sym, refl, ap, ◌∙◌, arith, w8, w16, w32, Fits, SFits, to_z, of_z}
use Rattle.std.proofs.lemmas.Int.{ints, to_z-of_z, of_z-to_z}
use Rattle.std.specs.Result.{result_ok}
use Rattle.shots.specs.Shots.{fault, Reads, Judged}
use Rattle.shots.specs.Images.{twos, image_of, Unpacked}
use Rattle.shots.specs.declared.shot.Shot.{Shot}
use Rattle.shots.specs.declared.entry.Entry.{Entry}
use Rattle.shots.specs.declared.refusal.Refusal.{Refusal}
use Rattle.shots.proofs.Same.{same_numbers}

-- ---- two's complement at 16 bits
pub twos_of : (h : ℤ) → of_z w16 h ≡ twos h
twos_of (pos n) = refl
twos_of (negsuc n) = omega arith

below : (h : ℤ) → negsuc 7999 ≤ℤ h → h ≤ℤ pos 8000 → twos h < 65536
below (pos n) l k = omega (arith, ints)
below (negsuc n) l k = omega arith

pub twos_back : (h : ℤ) → negsuc 7999 ≤ℤ h → h ≤ℤ pos 8000 → to_z w16 (twos h) ≡ h
twos_back h l k = ap (to_z w16) (sym (twos_of h)) ∙ to_z-of_z w16 h (omega (arith, ints))

-- ---- two bytes
halves : (n a b : ℕ) → n / 256 ≡ a → n % 256 ≡ b → n ≡ a * 256 + b
halves n a b p q = omega arith

pub split : (a b : ℕ) → a < 256 → b < 256 → ((a * 256 + b) / 256 ≡ a) × ((a * 256 + b) % 256 ≡ b)
split a b p q = (omega arith, omega arith)

-- ---- the numbers of a shot
abbrev entry_of : Shot → Entry
entry_of z = record { speed = pos z.speed; lead = z.lead; weight = pos z.weight; stuff = pos z.stuff }

-- ---- the six bytes
pub six : (xs : List ℕ) → length xs ≡ 6 → xs ≡ get_or xs 0 0 ∷ get_or xs 1 0 ∷ get_or xs 2 0 ∷ get_or xs 3 0 ∷ get_or xs 4 0 ∷ get_or xs 5 0 ∷ []
six [] e = absurd (omega arith)
six (a ∷ []) e = absurd (omega arith)
six (a ∷ b ∷ []) e = absurd (omega arith)
six (a ∷ b ∷ c ∷ []) e = absurd (omega arith)
six (a ∷ b ∷ c ∷ d ∷ []) e = absurd (omega arith)
six (a ∷ b ∷ c ∷ d ∷ f ∷ []) e = absurd (omega arith)
six (a ∷ b ∷ c ∷ d ∷ f ∷ g ∷ []) e = refl
six (a ∷ b ∷ c ∷ d ∷ f ∷ g ∷ x ∷ xs) e = absurd (omega arith)

-- the four numbers that six bytes read as
pub record Passed (xs : List ℕ) (n : Entry) : Type 0 where
  pub speed : n.speed ≡ pos (get_or xs 0 0 * 256 + get_or xs 1 0)
  pub lead : n.lead ≡ to_z w16 (get_or xs 2 0 * 256 + get_or xs 3 0)
  pub weight : n.weight ≡ pos (get_or xs 4 0)
  pub stuff : n.stuff ≡ pos (get_or xs 5 0)

pub passed : (xs : List ℕ) (n : ℕ) (l s h w m : ℤ) → ((i : ℕ) → Fits w8 (get_or xs i 0)) → n ≡ get_or xs 0 0 * 256 + get_or xs 1 0 → l ≡ to_z w16 (get_or xs 2 0 * 256 + get_or xs 3 0) → s ≡ pos n → h ≡ to_z w16 (of_z w16 l) → w ≡ pos (get_or xs 4 0) → m ≡ pos (get_or xs 5 0) → Passed xs (record { speed = to_z w32 (of_z w32 s); lead = to_z w32 (of_z w32 h); weight = to_z w32 (of_z w32 w); stuff = to_z w32 (of_z w32 m) })
passed xs n l s h w m f en el es eh ew em =
    let k : get_or xs 2 0 * 256 + get_or xs 3 0 < 65536 = omega (arith, (f 2).fits, (f 3).fits) in
    let g : SFits w16 l = omega (arith, ints) in
    record {
      speed = omega (arith, ints, (f 0).fits, (f 1).fits);
      lead = omega (arith, ints) ∙ el;
      weight = omega (arith, ints, (f 4).fits);
      stuff = omega (arith, ints, (f 5).fits);
    }

-- what the bytes of an image read as
pub record Bytes (z : Shot) (xs : List ℕ) : Type 0 where
  pub speed : z.speed ≡ get_or xs 0 0 * 256 + get_or xs 1 0
  pub lead : z.lead ≡ to_z w16 (get_or xs 2 0 * 256 + get_or xs 3 0)
  pub weight : z.weight ≡ get_or xs 4 0
  pub stuff : z.stuff ≡ get_or xs 5 0

pub image_reads : (z : Shot) (xs : List ℕ) → image_of z ≡ xs → Bytes z xs
image_reads z xs e =
    let at : (i : ℕ) → get_or (image_of z) i 0 ≡ get_or xs i 0 = λ i. ap (λ ys. get_or ys i 0) e in
    record {
      speed = halves z.speed _ _ (at 0) (at 1);
      lead = sym (twos_back z.lead z.low z.high) ∙ ap (to_z w16) (halves (twos z.lead) _ _ (at 2) (at 3));
      weight = at 4;
      stuff = at 5;
    }

-- no other shot has the image of x
pub image_only : (x y : Shot) → image_of x ≡ image_of y → x ≡ y
image_only x y e =
    let p = image_reads x (image_of y) e in
    let q = image_reads y (image_of y) refl in
    same_numbers x y (p.speed ∙ sym q.speed) (p.lead ∙ sym q.lead) (p.weight ∙ sym q.weight) (p.stuff ∙ sym q.stuff)

-- a shot has no fault
pub no_fault : (z : Shot) → fault (entry_of z) ≡ None
no_fault z = grind (arith, ints)

-- the bytes as they are put together
pub packed : (z : Shot) (p q : List ℕ) → p ≡ (z.speed / 256 % 256) ∷ (z.speed % 256) ∷ [] → q ≡ (of_z w16 (to_z w16 (of_z w16 z.lead)) / 256 % 256) ∷ (of_z w16 (to_z w16 (of_z w16 z.lead)) % 256) ∷ [] → (get_or p 0 0 ∷ get_or p 1 0 ∷ get_or q 0 0 ∷ get_or q 1 0 ∷ z.weight ∷ z.stuff ∷ []) ≡ image_of z
packed z p q e f =
    let n = of_z w16 (to_z w16 (of_z w16 z.lead)) in
    let t : n ≡ twos z.lead = ap (of_z w16) (to_z-of_z w16 z.lead (omega (arith, ints))) ∙ twos_of z.lead in
    let b = below z.lead z.low z.high in
    let a0 : get_or p 0 0 ≡ z.speed / 256 = ap (λ ys. get_or ys 0 0) e ∙ omega arith in
    let a1 : get_or p 1 0 ≡ z.speed % 256 = ap (λ ys. get_or ys 1 0) e in
    let a2 : get_or q 0 0 ≡ twos z.lead / 256 = ap (λ ys. get_or ys 0 0) f ∙ omega arith in
    let a3 : get_or q 1 0 ≡ twos z.lead % 256 = ap (λ ys. get_or ys 1 0) f ∙ ap (λ m. m % 256) t in
    cc

-- a shot made of the numbers that six bytes read as has these bytes for its image
unpacked : (z : Shot) (xs : List ℕ) (n : Entry) → length xs ≡ 6 → ((i : ℕ) → Fits w8 (get_or xs i 0)) → Passed xs n → Reads z n → image_of z ≡ xs
unpacked z xs n k f p r =
    let lo : (i : ℕ) → get_or xs i 0 < 256 = λ i. (f i).fits in
    let es : z.speed ≡ get_or xs 0 0 * 256 + get_or xs 1 0 = omega (arith, ints, r.speed, p.speed) in
    let eh : twos z.lead ≡ get_or xs 2 0 * 256 + get_or xs 3 0 = sym (twos_of z.lead) ∙ ap (of_z w16) (r.lead ∙ p.lead) ∙ of_z-to_z w16 (get_or xs 2 0 * 256 + get_or xs 3 0) (omega (arith, lo 2, lo 3)) in
    let u = split (get_or xs 0 0) (get_or xs 1 0) (lo 0) (lo 1) in
    let v = split (get_or xs 2 0) (get_or xs 3 0) (lo 2) (lo 3) in
    let a0 : z.speed / 256 ≡ get_or xs 0 0 = ap (λ m. m / 256) es ∙ u.0 in
    let a1 : z.speed % 256 ≡ get_or xs 1 0 = ap (λ m. m % 256) es ∙ u.1 in
    let a2 : twos z.lead / 256 ≡ get_or xs 2 0 = ap (λ m. m / 256) eh ∙ v.0 in
    let a3 : twos z.lead % 256 ≡ get_or xs 3 0 = ap (λ m. m % 256) eh ∙ v.1 in
    let a4 : z.weight ≡ get_or xs 4 0 = omega (arith, ints, r.weight, p.weight) in
    let a5 : z.stuff ≡ get_or xs 5 0 = omega (arith, ints, r.stuff, p.stuff) in
    let e = six xs k in
    cc

-- six bytes that read as faulty numbers are no shot's image
not_image : (z : Shot) (xs : List ℕ) (n : Entry) (e : Refusal) → Passed xs n → fault n ≡ Some e → image_of z ≡ xs → ⊥
not_image z xs n e p f i =
    let b = image_reads z xs i in
    let es : n.speed ≡ pos z.speed = p.speed ∙ ap pos (sym b.speed) in
    let eh : n.lead ≡ z.lead = p.lead ∙ sym b.lead in
    let ew : n.weight ≡ pos z.weight = p.weight ∙ ap pos (sym b.weight) in
    let em : n.stuff ≡ pos z.stuff = p.stuff ∙ ap pos (sym b.stuff) in
    let same : fault n ≡ fault (entry_of z) = λ j. fault (record { speed = es j; lead = eh j; weight = ew j; stuff = em j }) in
    let clash : None ≡ Some e = sym (no_fault z) ∙ sym same ∙ f in
    let no : ◌≡◌ {A = ℕ} 0 1 = cc in
    omega arith

-- what becomes of the four numbers that six bytes read as
pub judged_image : (xs : List ℕ) (n : Entry) (r : Result Shot Refusal) → length xs ≡ 6 → ((i : ℕ) → Fits w8 (get_or xs i 0)) → Passed xs n → Judged n r → Unpacked xs (result_ok r)
judged_image xs n (Ok z) k f p j = unpacked z xs n k f p j.1
judged_image xs n (Err e) k f p j = λ z i. not_image z xs n e p j i
