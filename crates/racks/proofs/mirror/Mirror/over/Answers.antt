use Rattle.std.proofs.Common.{refl}
use Rattle.racks.proofs.Flips.{all_twice}
use Rattle.racks.proofs.mirror.Mirror.over.Goals as goal

pub returns : goal.returns
returns g c = record { wraps = refl; twice = all_twice }
