use Rattle.std.proofs.Common.{◌∙◌}
use Rattle.shots.proofs.Images.{packed, image_only}
use Rattle.shots.proofs.shot.Shot.image.Goals as goal

pub returns : goal.returns
returns c =
    let e = packed c.args.self c.to_be_bytes.result c.to_be_bytes-2.result c.to_be_bytes.ensures c.to_be_bytes-2.ensures in
    record { value = e; only = λ other h. image_only other c.args.self (h ∙ e) }
