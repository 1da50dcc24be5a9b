-- The sample life is the only transcript of its calls, so a life of these calls that the code makes is that one.
use Rattle.std.proofs.Common.{◌≡◌, ℕ, List, [], map, reverse, length, take, Some, None, Option, ap, subst, arith, take_all}
use Rattle.shots.specs.Prices.{even}
use Rattle.shots.specs.declared.shot.Shot.{Shot}
use Rattle.law.specs.declared.kinds.Call.{Call}
use Rattle.law.specs.declared.kinds.Moment.{Moment}
use Rattle.law.specs.Lives.{Transcript}
use Rattle.law.proofs.Fixed.{transcripts_fixed}
use Rattle.law.proofs.Writes.{each_kept}
use Rattle.sheet.specs.Living.{Lives}
use Rattle.cases.specs.Sample.{sample}
use Rattle.cases.proofs.SampleLife.{sample_lives}

abbrev pub calls_of : List Call
calls_of = map (λ m. m.call) (reverse sample)

sample_told : Transcript even 5 calls_of (reverse sample)
sample_told = each_kept even 5 (reverse sample) sample_lives.kept

pub only_life : (cap : ℕ) (xs : List Shot) (calls : List Call) (before : List Moment) (n : Option ℕ) (after : List Moment) (ys : List Shot) → cap ≡ 5 → xs ≡ [] → calls ≡ calls_of → length before ≡ 11 → length after ≡ 11 → Lives even cap xs calls before n after ys → after ≡ reverse sample
only_life cap xs calls before None after ys ec ex es lb la h = let long = h.0 ex in let e = ap length es in absurd (omega arith)
only_life cap xs calls before (Some n) after ys ec ex es lb la h =
    let e : length calls ≡ 11 = ap length es in
    let all : take (length calls) after ≡ after = take_all (length calls) after (omega arith) in
    let told = subst (λ (k : ℕ). Transcript even k calls after) ec (subst (Transcript even cap calls) all h.3.transcript) in
    transcripts_fixed even 5 calls_of after (reverse sample) (subst (λ (cs : List Call). Transcript even 5 cs after) es told) sample_told
