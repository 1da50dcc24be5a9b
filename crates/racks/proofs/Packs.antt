-- Shots packed in bytes: where bytes begin with the images of shots, one after the other, these are
-- the shots that they hold; and what adding an image and moving images down makes of them.
use Rattle.std.proofs.Common.{◌≡◌, ℕ, suc, ◌+◌, ◌-◌, ◌*◌, ◌<◌, ◌≤◌, min, max, List, [], ◌∷◌, ◌++◌, length, get_or, take, drop, pos, negsuc, sym, refl, ap, ◌∙◌, add-one, arith}
use borrow.Rule.Slice.PartMut.{put_mid}
use Rattle.std.specs.List.{flat_map, remove}
use Rattle.std.specs.Int.{int_min, int_max}
use Rattle.std.proofs.lemmas.List.Edits.{length-remove}
use Rattle.std.proofs.lemmas.List.{length-append, length-take, length-take-le, length-drop, length_push, take_at, take-take, take-append-drop, drop_at, drop-take, drop_more}
use Rattle.std.proofs.lemmas.Slice.{between_is, put_mid-paste}
use Rattle.std.proofs.lemmas.Int.{ints, clamps}
use Rattle.shots.specs.Images.{image_of}
use Rattle.shots.specs.declared.shot.Shot.{Shot}
use Rattle.shots.proofs.Same.{same_numbers}
use Rattle.shots.proofs.Images.{image_reads}
use Rattle.racks.specs.Packs.{shot_of_bytes, shots_of_bytes}
use Rattle.racks.specs.RackLaws.{length_shots}
use Rattle.racks.specs.Shifts.{moved_down}
use Rattle.racks.proofs.Shifts.{length_moved}

pub shot_in_image : (z : Shot) → shot_of_bytes (image_of z) ≡ z
unfolding shot_of_bytes
shot_in_image z =
    let r = image_reads z (image_of z) refl in
    let s : max 1 (min 4000 z.speed) ≡ z.speed = omega arith in
    let h : int_max (negsuc 7999) (int_min (pos 8000) z.lead) ≡ z.lead = omega (arith, ints, clamps) in
    let w : max 1 (min 100 z.weight) ≡ z.weight = omega arith in
    let m : max 0 (min 15 z.stuff) ≡ z.stuff = omega arith in
    same_numbers (shot_of_bytes (image_of z)) z
    (ap (λ n. max 1 (min 4000 n)) (sym r.speed) ∙ s)
    (ap (λ n. int_max (negsuc 7999) (int_min (pos 8000) n)) (sym r.lead) ∙ h)
    w m

-- ---- the images of shots, one after the other
length_images : (xs : List Shot) → length (flat_map image_of xs) ≡ 6 * length xs
length_images [] = refl
length_images (x ∷ xs) = let h = length_images xs in omega arith

images_append : (xs ys : List Shot) → flat_map image_of (xs ++ ys) ≡ flat_map image_of xs ++ flat_map image_of ys
images_append [] ys = refl
images_append (x ∷ xs) ys = ap (λ bs. image_of x ++ bs) (images_append xs ys)

shots_in_images : (xs : List Shot) (rest : List ℕ) → shots_of_bytes (length xs) (flat_map image_of xs ++ rest) ≡ xs
shots_in_images [] rest = refl
shots_in_images (x ∷ xs) rest = let e = shot_in_image x in let f = shots_in_images xs rest in cc

images_split : (i : ℕ) (xs : List Shot) → i ≤ length xs → (take (6 * i) (flat_map image_of xs) ≡ flat_map image_of (take i xs)) × (drop (6 * i) (flat_map image_of xs) ≡ flat_map image_of (drop i xs))
images_split i xs h =
    let e = ap (flat_map image_of) (sym (take-append-drop i xs)) ∙ images_append (take i xs) (drop i xs) in
    let l = length_images (take i xs) ∙ ap (λ k. 6 * k) (length-take-le i xs h) in
    (ap (take (6 * i)) e ∙ take_at _ _ _ l, ap (drop (6 * i)) e ∙ drop_at _ _ _ l)

-- image n, in bytes 6n up to 6n + 6, is written over
pub image_written : (n : ℕ) (bs ys : List ℕ) (z : Shot) → ys ≡ image_of z → put_mid (6 * n) (6 * n + 6 - 6 * n) bs ys ≡ take (6 * n) bs ++ image_of z ++ drop (6 * (n + 1)) bs
image_written n bs ys z e =
    let next : 6 * n + 6 ≡ 6 * (n + 1) = omega arith in
    put_mid-paste (6 * n) (6 * n + 6 - 6 * n) bs ys (image_of z) 6 e (omega arith) refl ∙ ap (λ k. take (6 * n) bs ++ image_of z ++ drop k bs) next

-- ---- bytes that begin with images
-- the first n images of bs are those of xs, and bs is as long as it was
pub record Packed (was bs : List ℕ) (n : ℕ) (xs : List Shot) : Type 0 where
  pub held : shots_of_bytes n bs ≡ xs
  pub whole : flat_map image_of (shots_of_bytes n bs) ≡ take (6 * n) bs
  pub long : length bs ≡ length was

begins : (was bs rest : List ℕ) (n : ℕ) (xs : List Shot) → length xs ≡ n → bs ≡ flat_map image_of xs ++ rest → length bs ≡ length was → Packed was bs n xs
begins was bs rest n xs l e long =
    let held = ap (λ k. shots_of_bytes k bs) (sym l) ∙ ap (shots_of_bytes (length xs)) e ∙ shots_in_images xs rest in
    let size = length_images xs ∙ ap (λ k. 6 * k) l in
    record { held = held; whole = ap (flat_map image_of) held ∙ sym (ap (take (6 * n)) e ∙ take_at (flat_map image_of xs) rest (6 * n) size); long = long }

module _ (n : ℕ) (bs : List ℕ) (whole : flat_map image_of (shots_of_bytes n bs) ≡ take (6 * n) bs) where
  image_at : (i w : ℕ) (d : Shot) → w ≡ 6 → i < n → take w (drop (6 * i) bs) ≡ image_of (get_or (shots_of_bytes n bs) i d)
  image_at i w d six lt =
      let xs = shots_of_bytes n bs in
      let l = length_shots n bs in
      let e : 6 * i + (6 * n - 6 * i) ≡ 6 * n = omega arith in
      ap (λ k. take k (drop (6 * i) bs)) six
      ∙ sym (take-take 6 (6 * n - 6 * i) (drop (6 * i) bs) (omega arith))
      ∙ ap (take 6) (sym (drop-take (6 * i) (6 * n - 6 * i) bs) ∙ ap (λ k. drop (6 * i) (take k bs)) e ∙ ap (drop (6 * i)) (sym whole))
      ∙ ap (take 6) ((images_split i xs (omega arith)).1 ∙ ap (flat_map image_of) (drop_more xs i d (omega arith)))

  -- image i is that of the shot at place i
  pub shot_at : (i w : ℕ) (d : Shot) → w ≡ 6 → i < n → shot_of_bytes (take w (drop (6 * i) bs)) ≡ get_or (shots_of_bytes n bs) i d
  shot_at i w d six lt = ap shot_of_bytes (image_at i w d six lt) ∙ shot_in_image (get_or (shots_of_bytes n bs) i d)

  pub image_known : (i w : ℕ) → w ≡ 6 → i < n → image_of (shot_of_bytes (take w (drop (6 * i) bs))) ≡ take w (drop (6 * i) bs)
  image_known i w six lt = let d = shot_of_bytes bs in ap image_of (shot_at i w d six lt) ∙ sym (image_at i w d six lt)

  pub pushed : (ys : List ℕ) (z : Shot) → 6 * (n + 1) ≤ length bs → ys ≡ image_of z → Packed bs (put_mid (6 * n) (6 * n + 6 - 6 * n) bs ys) (n + 1) (shots_of_bytes n bs ++ z ∷ [])
  pushed ys z within e =
      let xs = shots_of_bytes n bs in
      let rest = drop (6 * (n + 1)) bs in
      let written = image_written n bs ys z e in
      begins bs _ rest (n + 1) (xs ++ z ∷ [])
      (length_push xs z ∙ ap (λ j. j + 1) (length_shots n bs))
      (written ∙ ap (λ ys. ys ++ image_of z ++ rest) (sym whole) ∙ ap (λ ys. ys ++ rest) (sym (images_append xs (z ∷ []))))
      (ap length written ∙ simp (length-append, length-take, length-drop) (omega arith))

  pub closed : (after : List ℕ) (m i : ℕ) → m ≡ n - 1 → i < n → 6 * n ≤ length bs → after ≡ moved_down (6 * i) (6 * (i + 1)) (6 * n) bs → Packed bs after m (remove (shots_of_bytes n bs) i)
  closed after m i k lt within e =
      let xs = shots_of_bytes n bs in
      let l = length_shots n bs in
      let front : take (6 * i) bs ≡ flat_map image_of (take i xs) = sym (take-take (6 * i) (6 * n) bs (omega arith)) ∙ ap (take (6 * i)) (sym whole) ∙ (images_split i xs (omega arith)).0 in
      let back : take (6 * n - 6 * (i + 1)) (drop (6 * (i + 1)) bs) ≡ flat_map image_of (drop (suc i) xs) =
      between_is bs (6 * (i + 1)) (6 * n) ∙ ap (drop (6 * (i + 1))) (sym whole) ∙ (images_split (i + 1) xs (omega arith)).1 ∙ ap (λ j. flat_map image_of (drop j xs)) (add-one i) in
      let rest = drop (6 * i + (6 * n - 6 * (i + 1))) bs in
      begins bs after rest m (remove xs i)
      (let r = length-remove xs i (omega arith) in omega arith)
      (e
      ∙ ap (λ ys. ys ++ take (6 * n - 6 * (i + 1)) (drop (6 * (i + 1)) bs) ++ rest) front
      ∙ ap (λ ys. flat_map image_of (take i xs) ++ ys ++ rest) back
      ∙ ap (λ ys. ys ++ rest) (sym (images_append (take i xs) (drop (suc i) xs))))
      (ap length e ∙ length_moved (6 * i) (6 * (i + 1)) (6 * n) bs (omega arith) (omega arith) within)
