-- What the shots and lines of a sheet bring to its law: the shot of four numbers, the two speeds on a line that was
-- laid, turned or kept, and the count of cheaper pairs.
use Rattle.std.proofs.Common.{◌≡◌, ℕ, zero, suc, ◌-◌, ◌*◌, ◌/◌, ◌<◌, ◌≤◌, List, [], ◌∷◌, ◌++◌, length, get_or, ℤ, pos, Some, sym, refl, ap, ◌∙◌, subst, ⊎_elim, arith}
use Rattle.std.proofs.lemmas.List.{get_or_default, length-map}
use Rattle.std.proofs.lemmas.Int.{ints, clamps}
use Rattle.shots.specs.Shots.{Reads}
use Rattle.shots.specs.declared.shot.Shot.{Shot}
use Rattle.shots.specs.declared.entry.Entry.{Entry}
use Rattle.shots.proofs.Same.{same_numbers}
use Rattle.lines.specs.Lines.{any}
use Rattle.lines.specs.declared.line.Line.{Line}
use Rattle.lines.proofs.Laying.{on_slow, on_fast}
use Rattle.theory.specs.Points.{Cheaper, Spans}
use Rattle.theory.specs.Rates.{Passes}
use Rattle.theory.specs.Turning.{Balanced}
use Rattle.theory.specs.Pairs.{cheaper_pairs}
use Rattle.theory.proofs.Descent.{turn_cheaper}
use Rattle.theory.proofs.Pairs.{cheaper_lowers, count_bounded}
use Rattle.theory.proofs.Turning.{balanced_spans}
use Rattle.fit.specs.Points.{point, points}
use Rattle.fit.specs.First.{OneSpeed, LaidFirst}
use Rattle.fit.specs.Spanning.{Member, TwoSpeeds}
use Rattle.fit.specs.Testing.{First}
use Rattle.fit.specs.Turning.{TurnedAt}
use Rattle.fit.proofs.Held.{one_at}
use Rattle.fit.proofs.Speeds.{two_points, points_two}
use Rattle.fit.proofs.Tests.{in_image, passes_best, fails_worse}
use Rattle.law.specs.Replies.{shot_of}
use Rattle.law.specs.Lives.{Best, pairs}
use Rattle.law.specs.Places.{cheaper_places}
use Rattle.law.proofs.Places.{Falls, places_fall, places_bounded}

-- a shot that has four numbers is the shot of these numbers
pub reads_is : (z : Shot) (entry : Entry) → Reads z entry → z ≡ shot_of entry
unfolding shot_of
reads_is z entry r =
    let e1 = r.speed in
    let e2 = r.lead in
    let e3 = r.weight in
    let e4 = r.stuff in
    let z1 = z.moving in
    let z2 = z.slow in
    let z3 = z.low in
    let z4 = z.high in
    let z5 = z.counted in
    let z6 = z.light in
    let z7 = z.coded in
    same_numbers z (shot_of entry) (omega (arith, ints)) (omega (arith, ints, clamps)) (omega (arith, ints)) (omega (arith, ints))

-- ---- one more shot at the end
length_more : (xs : List Shot) (z : Shot) → length (xs ++ z ∷ []) ≡ suc (length xs)
length_more [] z = refl
length_more (x ∷ xs) z = ap suc (length_more xs z)

get_d_more : (xs : List Shot) (z : Shot) (i : ℕ) (x : Shot) → i < length xs → get_or (xs ++ z ∷ []) i x ≡ get_or xs i x
get_d_more [] z i x h = absurd (omega arith)
get_d_more (y ∷ xs) z zero x h = refl
get_d_more (y ∷ xs) z (suc i) x h = get_d_more xs z i x (omega arith)

member_more : (xs : List Shot) (z x : Shot) → Member xs x → Member (xs ++ z ∷ []) x
member_more xs z x i = record {
  place = i.place;
  inside = let k = i.inside in let e = length_more xs z in omega arith;
  is = i.is ∙ sym (get_d_more xs z i.place x i.inside);
}

pub two_more : (l : Line) (xs : List Shot) (z : Shot) → TwoSpeeds l xs → TwoSpeeds l (xs ++ z ∷ [])
two_more l xs z t = record {
  one = t.one;
  two = t.two;
  one_in = member_more xs z t.one t.one_in;
  two_in = member_more xs z t.two t.two_in;
  one_on = t.one_on;
  two_on = t.two_on;
  apart = t.apart;
}

-- ---- two speeds
pub two_not_one : (l : Line) (xs : List Shot) → TwoSpeeds l xs → OneSpeed xs → ⊥
two_not_one l xs t o =
    let i = t.one_in in
    let j = t.two_in in
    let k = i.inside in
    let some : 0 < length xs = omega arith in
    let x = get_or xs 0 t.one in
    let e : x ≡ get_or xs 0 x = get_or_default xs 0 t.one x some in
    t.apart (o x some e i.place t.one i.inside i.is ∙ sym (o x some e j.place t.two j.inside j.is))

pub laid_two : (l : Line) (xs : List Shot) → LaidFirst xs l → TwoSpeeds l xs
laid_two l xs f =
    ⊎_elim
    (λ k. record { one = f.first; two = f.other; one_in = here; two_in = there; one_on = on_slow f.first f.other l k; two_on = on_fast f.first f.other l k; apart = λ e. let s = k.slower in omega arith })
    (λ k. record { one = f.first; two = f.other; one_in = here; two_in = there; one_on = on_fast f.other f.first l k; two_on = on_slow f.other f.first l k; apart = λ e. let s = k.slower in omega arith })
    f.laid
  where
    here : Member xs f.first
    here = record { place = 0; inside = let k = f.inside in omega arith; is = f.first_is }

    there : Member xs f.other
    there = record { place = f.place; inside = f.inside; is = f.other_is }

module _ (tariff : ℤ → ℕ × ℕ) (xs : List Shot) where
  pub best_of : (l : Line) → TwoSpeeds l xs → Passes (any l) (points tariff xs) → Best tariff xs l
  best_of l t p = record { through = t; cheapest = passes_best tariff l xs p (two_points l xs tariff t) }

  pub not_best : (l : Line) (k : ℕ) → First tariff l xs k → TwoSpeeds l xs → Best tariff xs l → ⊥
  not_best l k f t b = fails_worse tariff l xs k f (two_points l xs tariff t) b.cheapest

  -- ---- a turn about the first place that fails
  pub moved_balanced : (l m : Line) (k : ℕ) (f : First tariff l xs k) → TurnedAt tariff xs (pos k) (Some m) → Balanced (points tariff xs) (point tariff f.shot) (any m)
  moved_balanced l m k f t = subst (λ z. Balanced (points tariff xs) (point tariff z) (any m)) (one_at xs k t.0 f.shot f.inside t.2 f.is) t.3

  pub moved_spans : (l m : Line) (k : ℕ) → First tariff l xs k → TurnedAt tariff xs (pos k) (Some m) → Spans (any m) (points tariff xs)
  moved_spans l m k f t = balanced_spans (points tariff xs) (point tariff f.shot) (any m) (moved_balanced l m k f t) (in_image (point tariff) xs k f.shot f.inside f.is)

  pub moved_two : (l m : Line) (k : ℕ) → First tariff l xs k → TurnedAt tariff xs (pos k) (Some m) → TwoSpeeds m xs
  moved_two l m k f t = points_two m xs tariff (moved_spans l m k f t)

  pub moved_cheaper : (l m : Line) (k : ℕ) → First tariff l xs k → TurnedAt tariff xs (pos k) (Some m) → Cheaper (any m) (any l) (points tariff xs)
  moved_cheaper l m k f t = turn_cheaper (any l) (any m) (points tariff xs) (point tariff f.shot) l.ahead f.fails.0 f.fails.1 (moved_balanced l m k f t)

  pub moved_lowers : (l m : Line) (k : ℕ) → First tariff l xs k → TurnedAt tariff xs (pos k) (Some m) → cheaper_pairs (any m) (points tariff xs) < cheaper_pairs (any l) (points tariff xs)
  moved_lowers l m k f t = cheaper_lowers (any m) (any l) (points tariff xs) m.ahead l.ahead (moved_spans l m k f t) (moved_cheaper l m k f t)

  pub moved_falls : (l m : Line) (k : ℕ) → First tariff l xs k → TurnedAt tariff xs (pos k) (Some m) → Falls (any m) (any l) (points tariff xs)
  moved_falls l m k f t = places_fall (any m) (any l) (points tariff xs) (point tariff f.shot) l.ahead (in_image (point tariff) xs k f.shot f.inside f.is) (moved_balanced l m k f t) (moved_cheaper l m k f t)

pub few_places : (tariff : ℤ → ℕ × ℕ) (xs : List Shot) (l : Line) → cheaper_places (any l) (points tariff xs) ≤ length xs
few_places tariff xs l = subst (λ n. cheaper_places (any l) (points tariff xs) ≤ n) (length-map xs (point tariff)) (places_bounded (any l) (points tariff xs))

pub few_pairs : (tariff : ℤ → ℕ × ℕ) (xs : List Shot) (l : Line) → TwoSpeeds l xs → cheaper_pairs (any l) (points tariff xs) < pairs (length xs)
unfolding pairs
few_pairs tariff xs l t = subst (λ n. cheaper_pairs (any l) (points tariff xs) < n * (n - 1) / 2) (length-map xs (point tariff)) (count_bounded (any l) (points tariff xs) l.ahead (two_points l xs tariff t))
