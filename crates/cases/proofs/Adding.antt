-- An accepted add on a bare sheet leaves it bare, with one more shot at the end.
use Rattle.std.proofs.Common.{◌≡◌, List, [], ◌∷◌, ◌++◌, pos, None, refl}
use Rattle.shots.specs.declared.shot.Shot.{Shot}
use Rattle.shots.specs.declared.entry.Entry.{Entry}
use Rattle.racks.specs.Racks.{add_fault}
use Rattle.law.specs.declared.stage.Stage.TheVariants.{Bare}
use Rattle.law.specs.declared.kinds.Call.TheVariants.{Add}
use Rattle.law.specs.declared.kinds.Reply.TheVariants.{Done}
use Rattle.law.specs.Turns.{Turn}
use Rattle.cases.specs.Examples.{sheet}

abbrev pub entry_of : Shot → Entry
entry_of z = record { speed = pos z.speed; lead = z.lead; weight = pos z.weight; stuff = pos z.stuff }

pub adds : (xs : List Shot) (z : Shot) → add_fault 5 xs (entry_of z) ≡ None → Turn (Add (entry_of z)) Done (sheet xs Bare) (sheet (xs ++ z ∷ []) Bare)
adds xs z e = record { room = refl; prices = refl; turned = (e, ((z, record { speed = refl; lead = refl; weight = refl; stuff = refl }, refl), refl)) }
