-- `sample_life`: the life that was made is the sample.
use Rattle.std.proofs.Common.{◌≡◌, [], ◌∷◌, take, replicate, pos, None, refl, ap, rules}
use Rattle.law.specs.declared.kinds.Call.TheVariants.{Strike, Pivot, Issue}
use Rattle.law.specs.declared.kinds.Reply.TheVariants.{Done}
use Rattle.racks.specs.Records.{room}
use Rattle.cases.specs.Sample.{moment}
use Rattle.cases.proofs.CodeLife.{calls_of, only_life}
use Rattle.cases.proofs.concrete.sample_life.Goals as goal

pub returns : goal.returns
returns c =
    let rack = c.open-rack.result in
    let opened = c.open-rack.ensures in
    let e1 = c.add.ensures in
    let e2 = c.add-2.ensures in
    let e3 = c.add-3.ensures in
    let e4 = c.add-4.ensures in
    let e5 = c.add-5.ensures in
    let calls : (c.add.result ∷ c.add-2.result ∷ c.add-3.result ∷ c.add-4.result ∷ c.add-5.result ∷ Pivot ∷ Pivot ∷ Pivot ∷ Issue ∷ Strike (pos 2) ∷ Strike (pos 0) ∷ []) ≡ calls_of = cc in
    only_life (room rack.records.now) _ _ (replicate 11 (moment Pivot Done None)) _ c.live.new.moments _ (ap room opened.memory) (ap (λ n. take n rack.records.now) opened.empty) calls refl (search rules) c.live.ensures.lives
