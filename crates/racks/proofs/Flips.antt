-- What a rack answers, seen in the mirror: flipping is its own inverse, and the answers to add and
-- strike flip along with the shots.
use Rattle.std.proofs.Common.{◌≡◌, ℕ, true, false, cond, ltb, List, [], ◌∷◌, map, length, ℤ, negsuc, neg_ℤ, Some, None, Ok, Err, Result, sym, refl, ap, ◌∙◌, arith, w32, SFits}
use lib.IntN.{neg_ℤ-neg_ℤ}
use Rattle.std.proofs.lemmas.List.{length-map, map-append, map_push, take-map, drop-map}
use Rattle.std.proofs.lemmas.Int.{ints, by_lt_z, wrapping_neg_is, int_wrap_fits}
use Rattle.std.specs.Int.{int_wrapping_neg}
use Rattle.std.specs.Option.{option_or}
use Rattle.shots.specs.Ranges.{is_speed, is_lead, is_weight, is_stuff}
use Rattle.shots.specs.Shots.{fault, Reads}
use Rattle.shots.specs.declared.shot.Shot.{Shot}
use Rattle.shots.specs.declared.entry.Entry.{Entry}
use Rattle.shots.specs.declared.refusal.Refusal.{Refusal}
use Rattle.shots.specs.declared.refusal.Refusal.TheVariants.{Speed, Lead, Weight, Stuff, Full}
use Rattle.shots.proofs.Same.{same_numbers}
use Rattle.racks.specs.Racks.{add_fault, Added, Struck}
use Rattle.racks.specs.Flips.{flipped}

twice : (z : Shot) → flipped (flipped z) ≡ z
twice z = same_numbers (flipped (flipped z)) z refl (neg_ℤ-neg_ℤ z.lead) refl refl

pub all_twice : (xs : List Shot) → map flipped (map flipped xs) ≡ xs
all_twice [] = refl
all_twice (x ∷ xs) = let e = twice x in let f = all_twice xs in cc

pub struck_flips : (xs ys : List Shot) (p : ℤ) (r : Result (Unit {0}) Refusal) → Struck xs p r ys → Struck (map flipped xs) p r (map flipped ys)
struck_flips xs ys p (Ok u) h = ((h.0.0, simp length-map h.0.1), ap (map flipped) h.1 ∙ simp (map-append, take-map, drop-map))
struck_flips xs ys p (Err e) h = (simp length-map h.0, h.1, ap (map flipped) h.2)

not_true : false ≡ true → ⊥
not_true e = cc

-- the lead that the rack below is given: the negated one, but for the one number that has no negation, which is no lead
negated : (h m : ℤ) → m ≡ neg_ℤ h → (is_lead m ≡ is_lead h) × (is_lead h ≡ true → m ≡ neg_ℤ h)
negated h m e = (grind (arith, ints), λ _. e)

kept : (h m : ℤ) → h ≡ negsuc 2147483647 → m ≡ negsuc 2147483647 → (is_lead m ≡ is_lead h) × (is_lead h ≡ true → m ≡ neg_ℤ h)
kept h m e k = (ap is_lead (k ∙ sym e), λ t. absurd (not_true (sym (ap is_lead e) ∙ t)))

pub turned : (h m : ℤ) → SFits w32 h → m ≡ int_wrapping_neg w32 h → (is_lead m ≡ is_lead h) × (is_lead h ≡ true → m ≡ neg_ℤ h)
turned h m f e =
    by_lt_z (negsuc 2147483647) h
    (λ lt. negated h m (e ∙ wrapping_neg_is w32 h f ∙ int_wrap_fits w32 (neg_ℤ h) (omega (arith, ints, lt))))
    (λ le. let least : h ≡ negsuc 2147483647 = omega (arith, ints, le) in kept h m least (e ∙ ap (int_wrapping_neg w32) least))

-- m is what the rack below is given for the lead of n
module _ (n : Entry) (m : ℤ) (range : is_lead m ≡ is_lead n.lead) (value : is_lead n.lead ≡ true → m ≡ neg_ℤ n.lead) where
  abbrev given : Entry
  given = record { speed = n.speed; lead = m; weight = n.weight; stuff = n.stuff }

  same_fault : (cap : ℕ) (xs : List Shot) → add_fault cap (map flipped xs) n ≡ add_fault cap xs given
  same_fault cap xs =
      ap (λ k. option_or (fault n) (cond (ltb k cap) None (Some Full))) (length-map xs flipped)
      ∙ ap (λ b. option_or (cond (is_speed n.speed) (cond b (cond (is_weight n.weight) (cond (is_stuff n.stuff) None (Some Stuff)) (Some Weight)) (Some Lead)) (Some Speed)) (cond (ltb (length xs) cap) None (Some Full))) (sym range)

  reads_flips : (z : Shot) → Reads z given → Reads (flipped z) n
  reads_flips z r =
      let good : is_lead z.lead ≡ true = grind (arith, ints) in
      let turned : m ≡ neg_ℤ n.lead = value (sym range ∙ ap is_lead (sym r.lead) ∙ good) in
      record { speed = r.speed; lead = ap neg_ℤ (r.lead ∙ turned) ∙ neg_ℤ-neg_ℤ n.lead; weight = r.weight; stuff = r.stuff }

  pub added_flips : (cap : ℕ) (xs ys : List Shot) (r : Result (Unit {0}) Refusal) → Added cap xs given r ys → Added cap (map flipped xs) n r (map flipped ys)
  added_flips cap xs ys (Ok u) a =
      let z = a.1.0 in
      (same_fault cap xs ∙ a.0, (flipped z, reads_flips z a.1.1, ap (map flipped) a.1.2 ∙ map_push flipped xs z))
  added_flips cap xs ys (Err e) a = (same_fault cap xs ∙ a.0, ap (map flipped) a.1)
