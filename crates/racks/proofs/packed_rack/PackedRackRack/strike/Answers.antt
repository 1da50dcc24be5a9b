use Rattle.std.proofs.Common.{◌+◌, ◌*◌, ◌/◌, ◌≤◌, min, length, refl, ap, arith}
use Rattle.std.proofs.lemmas.Int.{ints, to_z-of_z}
use Rattle.std.proofs.lemmas.Grind.{common_steps}
use Rattle.racks.specs.RackLaws.{length_shots}
use Rattle.racks.specs.Shifts.{moved_down}
use Rattle.racks.proofs.Steps.{at_place, struck_at}
use Rattle.racks.proofs.Packs.{closed}
use Rattle.racks.proofs.packed_rack.PackedRackRack.strike.Goals as goal

pub invariant_of-self : goal.invariant_of-self
invariant_of-self c =
    let rack = c.args.self.now in
    let within : 6 * rack.count ≤ length rack.bytes.now = omega (arith, rack.fits) in
    let now = closed rack.count rack.bytes.now rack.whole _ _ _ refl c.in_ok-index.ensures.1 within c.copy_within.ensures.after in
    record { fits = omega (arith, now.long, rack.fits); whole = now.whole }

pub returns : goal.returns
returns c =
    let f = c.ranges.place in
    let at = simp to_z-of_z at c.in_ok-index.ensures in
    let rack = c.args.self.now in
    let n = rack.count in
    let bs = rack.bytes.now in
    let within : 6 * n ≤ length bs = omega (arith, rack.fits) in
    let now = closed n bs rack.whole _ _ _ refl at.1 within c.copy_within.ensures.after in
    record {
      struck = struck_at _ _ c.args.place _ c.in_ok-index.index (length_shots n bs) at now.held;
      room = ap (λ k. min 512 (k / 6)) now.long;
      memory = at_place (λ k. moved_down (6 * k) (6 * (k + 1)) (6 * n) bs) _ c.args.place c.in_ok-index.index at.0 c.copy_within.ensures.after;
      lender = refl;
    }

pub returns-in_err-index-clause-struck : goal.returns-in_err-index-clause-struck
returns-in_err-index-clause-struck c =
    let f = c.ranges.place in
    let l = length_shots c.args.self.now.count c.args.self.now.bytes.now in
    grind (arith, ints, common_steps)
