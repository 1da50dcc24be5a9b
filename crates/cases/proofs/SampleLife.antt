-- The sample life, call by call.
use Rattle.std.proofs.Common.{[], refl}
use Rattle.law.specs.declared.stage.Stage.TheVariants.{Bare, InForce}
use Rattle.law.specs.declared.kinds.Call.TheVariants.{Issue}
use Rattle.law.specs.declared.kinds.Reply.TheVariants.{Issued}
use Rattle.law.specs.Turns.{Turn}
use Rattle.law.proofs.Steps.{begins, carries}
use Rattle.cases.specs.Examples.{at500, at1000, at2000, at3000, at3500, five_shots, gentle, sheet}
use Rattle.cases.specs.Sample.{SampleLives}
use Rattle.cases.proofs.Adding.{adds}
use Rattle.cases.proofs.FiveShots.{lays, moves, proves, keeps, unseats}

issues : Turn Issue (Issued gentle) (sheet five_shots (InForce gentle)) (sheet five_shots (InForce gentle))
issues = record { room = refl; prices = refl; turned = (refl, (refl, refl)) }

pub sample_lives : SampleLives
sample_lives =
    let l0 = begins (sheet [] Bare) refl refl in
    let l1 = carries _ _ _ _ _ (adds [] at500 refl) l0 in
    let l2 = carries _ _ _ _ _ (adds _ at1000 refl) l1 in
    let l3 = carries _ _ _ _ _ (adds _ at2000 refl) l2 in
    let l4 = carries _ _ _ _ _ (adds _ at3000 refl) l3 in
    let l5 = carries _ _ _ _ _ (adds _ at3500 refl) l4 in
    let l6 = carries _ _ _ _ _ lays l5 in
    let l7 = carries _ _ _ _ _ moves l6 in
    let l8 = carries _ _ _ _ _ proves l7 in
    let l9 = carries _ _ _ _ _ issues l8 in
    let l10 = carries _ _ _ _ _ keeps l9 in
    carries _ _ _ _ _ unseats l10
