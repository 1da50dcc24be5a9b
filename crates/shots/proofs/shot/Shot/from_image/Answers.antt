use Rattle.std.proofs.Common.{◌≡◌, ℕ, length, get_or, w8, Fits, rules}
use Rattle.shots.proofs.Images.{passed, judged_image}
use Rattle.shots.proofs.shot.Shot.from_image.Goals as goal

pub returns : goal.returns
returns c =
    let xs = c.args.image in
    let k : length xs ≡ 6 = search rules in
    let f : (i : ℕ) → Fits w8 (get_or xs i 0) = λ i. search rules in
    let p = passed xs _ _ _ _ _ _ f c.from_be_bytes.ensures c.from_be_bytes-2.ensures c.from.ensures c.from-2.ensures c.from-3.ensures c.from-4.ensures in
    rw c.ok.ensures.value (judged_image xs _ c.try_from.result k f p c.try_from.ensures)
