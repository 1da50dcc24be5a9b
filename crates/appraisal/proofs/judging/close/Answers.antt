use Rattle.std.proofs.Common.{◌≡◌, ◌∙◌, arith, w32, w64, to_z, of_z}
use Rattle.std.proofs.lemmas.Int.{ints}
use Rattle.appraisal.proofs.Quotient.{cut_price}
use Rattle.appraisal.proofs.judging.close.Goals as goal

pub returns : goal.returns
returns g c =
    let t = to_z w64 (of_z w64 c.total-total.result) in
    let low = c.total-total.ensures.least in
    let high = c.total-total.ensures.size in
    let e : t ≡ c.total-total.result = omega (arith, ints) in
    let a : to_z w32 (of_z w32 c.args.line.a) ≡ c.args.line.a = omega (arith, ints) in
    let q = cut_price t c.args.line.a (to_z w32 (of_z w32 c.args.line.a)) (omega (arith, ints)) c.args.line.ahead a in
    (e ∙ c.total-total.ensures.value, a, q.0, q.1)
