-- What came of a life by the plan of shots: its moments are those of the plan, and what it answers is the best line.
use Rattle.std.proofs.Common.{◌≡◌, ℕ, ◌+◌, ◌-◌, ◌<◌, ◌≤◌, List, [], reverse, length, get_or, take, drop, Some, None, Option, MatchOption, sym, refl, ap, ◌∙◌, subst, inr, ⊎_elim, arith}
use Rattle.std.proofs.lemmas.List.{take_at}
use Rattle.std.proofs.lemmas.Option.{none-some}
use Rattle.std.specs.Option.{IsSomeAnd}
use Rattle.shots.specs.Prices.{even}
use Rattle.shots.specs.declared.shot.Shot.{Shot}
use Rattle.lines.specs.declared.line.Line.{Line}
use Rattle.fit.specs.First.{OneSpeed}
use Rattle.law.specs.declared.kinds.Call.{Call}
use Rattle.law.specs.declared.kinds.Moment.{Moment}
use Rattle.law.specs.Lives.{in_force_by, Best as IsBest, Transcript}
use Rattle.sheet.specs.Living.{Made as LifeMade, Lives}
use Rattle.appraisal.specs.Planning.{plan_of, Planned}
use Rattle.appraisal.specs.Finding.{Costs, Tells, BestOf, Made, Finds}
use Rattle.appraisal.specs.declared.answer.CheaperLine.{CheaperLine}
use Rattle.appraisal.specs.declared.finding.Found.{Found}
use Rattle.appraisal.proofs.Fresh.{last_in_force, ended}
use Rattle.appraisal.proofs.Plans.{length_plan}

-- the life of what was planned is the plan's
pub as_planned : (xs fresh ys : List Shot) (calls planned : List Call) (before after : List Moment) (cap k : ℕ) (o : Option ℕ) → Planned xs calls (Some k) planned → Lives even cap fresh (take k planned) before o after ys → Lives even cap fresh (plan_of xs) before o after ys
as_planned xs fresh ys calls planned before after cap k o made lives =
    let same : take k planned ≡ plan_of xs = ap (take k) made.2 ∙ take_at (plan_of xs) (drop k calls) k (sym made.0) in
    subst (λ (cs : List Call). Lives even cap fresh cs before o after ys) same lives

-- the line in force with its total, or that none is
pub tells : (xs : List Shot) (o : Option Line) (r : Option CheaperLine) → MatchOption o (r ≡ None) (λ l. IsSomeAnd r (λ by. Costs xs l by)) → Tells xs o r
tells xs None None told = refl
tells xs None (Some by) told = absurd (none-some by (sym told))
tells xs (Some l) None told = absurd told
tells xs (Some l) (Some by) told = (l, refl, told)

tells_best : (xs : List Shot) (o : Option Line) (a : Option CheaperLine) → Tells xs o a → ((l : Line) → o ≡ Some l → IsBest even xs l) → (o ≡ None → OneSpeed xs) → BestOf xs a
tells_best xs o (Some by) t best none = (t.0, best t.0 t.1, t.2)
tells_best xs o None t best none = none t

module _ {cap n : ℕ} {xs ys : List Shot} {before after : List Moment} (is : n ≡ length (plan_of xs)) (made : LifeMade even cap (plan_of xs) before after ys) where
  found : (d : Moment) (a : Option CheaperLine) → length (plan_of xs) ≤ length after → Tells xs (get_or after (n - 1) d).pass a → Made cap xs before after ys (record { count = n; best = record { 0 = a } })
  found d a long told =
      let some = length_plan xs in
      let all : n - 1 + 1 ≡ length (plan_of xs) = omega arith in
      let pass : in_force_by (reverse (take (length (plan_of xs)) after)) ≡ (get_or after (n - 1) d).pass = ap (λ (k : ℕ). in_force_by (reverse (take k after))) (sym all) ∙ last_in_force after (n - 1) d (omega arith) in
      let front = take (length (plan_of xs)) after in
      record {
        count = is;
        transcript = subst (λ (k : ℕ). Transcript even cap (plan_of xs) (take k after)) (sym is) made.transcript;
        beyond = subst (λ (k : ℕ). drop k after ≡ drop k before) (sym is) made.beyond;
        best = λ room. let e = ended even cap xs front made.transcript room in tells_best xs (get_or after (n - 1) d).pass a told (λ l q. e.best l (pass ∙ q)) (λ q. e.none (pass ∙ q));
        holds = λ room. made.holds ∙ (ended even cap xs front made.transcript room).held;
      }

-- what came of a life: what its last moment tells, where it was made
pub finds : (cap room : ℕ) (xs fresh ys : List Shot) (before after : List Moment) (o : Option ℕ) (r : Option Found) → length (plan_of xs) ≤ room → length after ≡ length before → Lives even cap fresh (plan_of xs) before o after ys → MatchOption o (r ≡ None) (λ n. IsSomeAnd r (λ f. (f.count ≡ n) × (d : Moment) × Tells xs (get_or after (n - 1) d).pass f.best.0)) → Finds cap xs fresh room before r after ys
finds cap room xs fresh ys before after None None fits same lives told = (λ e. inr (lives.0 e), lives.1, lives.2)
finds cap room xs fresh ys before after None (Some f) fits same lives told = absurd (none-some f (sym told))
finds cap room xs fresh ys before after (Some n) None fits same lives told = absurd told
finds cap room xs fresh ys before after (Some n) (Some f) fits same lives told =
    let tells = subst (λ (k : ℕ). Tells xs (get_or after (k - 1) told.1).pass f.best.0) (sym told.0) told.2 in
    (lives.0, fits, lives.1, found (told.0 ∙ lives.2) lives.3 told.1 f.best.0 (omega (arith, lives.1)) tells)

-- a life is made on an empty rack, whatever is held, where there is room for the longest plan
pub always_found : (cap room : ℕ) (xs fresh ys : List Shot) (before after : List Moment) (o : Option Found) → Finds cap xs fresh room before o after ys → o ≡ None → fresh ≡ [] → length xs ≤ 512 → 1025 ≤ room → 1025 ≤ length before → ⊥
always_found cap room xs fresh ys before after o finds none empty few calls moments =
    let n = length_plan xs in
    let short = (subst (λ (p : Option Found). Finds cap xs fresh room before p after ys) none finds).0 empty in
    ⊎_elim (λ (l : room < length (plan_of xs)). omega arith) (λ (l : length before < length (plan_of xs)). omega arith) short
