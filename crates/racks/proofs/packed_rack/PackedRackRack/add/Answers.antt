use Rattle.std.proofs.Common.{◌<◌, ◌≤◌, ◌∙◌, arith, rules}
use Rattle.racks.specs.Packs.{places}
use Rattle.racks.specs.RackLaws.{length_shots}
use Rattle.racks.proofs.Steps.{added_end, added_full}
use Rattle.racks.proofs.Packs.{image_written, pushed}
use Rattle.racks.proofs.packed_rack.PackedRackRack.add.Goals as goal

pub returns-then-is_full-clause-added : goal.returns-then-is_full-clause-added
returns-then-is_full-clause-added c =
    let old = c.args.self.now in
    let le : places old.bytes.now ≤ old.count = search rules in
    added_full _ _ _ c.args.entry (length_shots old.count old.bytes.now) le c.in_ok-shot.ensures.0

pub invariant_of-self : goal.invariant_of-self
invariant_of-self c =
    let rack = c.args.self.now in
    let lt : rack.count < places rack.bytes.now = search rules in
    let image = c.copy_from_slice.ensures.after ∙ c.image.ensures.value in
    let now = pushed rack.count rack.bytes.now rack.whole _ c.in_ok-shot.shot (omega arith) image in
    record { fits = omega (arith, now.long); whole = now.whole }

pub returns-clause-added : goal.returns-clause-added
returns-clause-added c =
    let rack = c.args.self.now in
    let shot = c.in_ok-shot.shot in
    let lt : rack.count < places rack.bytes.now = search rules in
    let image = c.copy_from_slice.ensures.after ∙ c.image.ensures.value in
    let now = pushed rack.count rack.bytes.now rack.whole _ shot (omega arith) image in
    added_end _ _ _ _ c.args.entry shot (length_shots _ _) lt c.in_ok-shot.ensures now.held

pub returns-clause-memory : goal.returns-clause-memory
returns-clause-memory c =
    let rack = c.args.self.now in
    let image = c.copy_from_slice.ensures.after ∙ c.image.ensures.value in
    (c.in_ok-shot.shot, c.in_ok-shot.ensures.1, image_written rack.count rack.bytes.now _ c.in_ok-shot.shot image)
