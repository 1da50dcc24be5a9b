-- A text line whose shot was taken: the shot of its entry is the last of those held, and a read at its place gives it.
use Rattle.std.proofs.Common.{◌≡◌, ℕ, ◌≤◌, List, [], ◌∷◌, ◌++◌, length, get_or, nat_abs, Ok, Err, Result, refl, ap, ◌∙◌, arith, w32, to_z}
use Rattle.std.specs.Result.{IsOk}
use Rattle.std.proofs.lemmas.Int.{ints}
use Rattle.std.proofs.lemmas.List.{length_push}
use Rattle.shots.specs.declared.shot.Shot.{Shot}
use Rattle.shots.specs.declared.entry.Entry.{Entry}
use Rattle.shots.specs.declared.refusal.Refusal.{Refusal}
use Rattle.racks.specs.Racks.{Read, Added}
use Rattle.appraisal.specs.Readings.{ShotText}
use Rattle.appraisal.specs.Judging.{Entered}

pub entered : (cap : ℕ) (xs ys : List Shot) (text : List ℕ) (entry : Entry) → ShotText text entry → Added cap xs entry (Ok tt) ys → Entered cap xs text ys
entered cap xs ys text entry written added =
    record { entry = entry; written = written; taken = added.0; shot = added.1.0; reads = added.1.1; added = added.1.2 }

-- one shot more than xs is held, and the read asks for the place after xs
module _ (xs ys : List Shot) (z : Shot) (n : ℕ) (more : ys ≡ xs ++ z ∷ []) (few : length ys ≤ 512) (at : n ≡ length xs) where
  pub is_read : (r : Result Shot Refusal) → Read ys (to_z w32 n) r → IsOk r
  is_read (Ok y) read = refl
  is_read (Err e) read =
      let long = ap length more ∙ length_push xs z in absurd (read.0 (omega (arith, ints), omega (arith, ints)))

  pub is_last : (y : Shot) → Read ys (to_z w32 n) (Ok y) → y ≡ get_or ys (length xs) y
  is_last y read =
      let long = ap length more ∙ length_push xs z in
      let place : nat_abs (to_z w32 n) ≡ length xs = omega (arith, ints) in
      read.1 ∙ ap (λ i. get_or ys i y) place
