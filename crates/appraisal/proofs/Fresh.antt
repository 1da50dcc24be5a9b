-- A fresh life of shots by their plan: the adds leave just these shots held, so the pivots bring a line into force that is
-- the best of them, or find one speed.
use Rattle.std.proofs.Common.{◌≡◌, ℕ, zero, suc, ◌+◌, ◌<◌, ◌≤◌, List, [], ◌∷◌, ◌++◌, map, reverse, length, get_or, take, drop, replicate, ℤ, Some, None, sym, refl, ap, ◌∙◌, subst, append_assoc, append-nil, arith}
use mathlib.Core.List.{reverse-append, reverse-cons}
use Rattle.std.proofs.lemmas.List.{length-append, length-map, length-replicate, length-reverse, take_more, take-append-drop, take-map, drop-map, take_at, drop_at}
use Rattle.std.proofs.lemmas.Option.{none-some}
use Rattle.shots.specs.declared.shot.Shot.{Shot}
use Rattle.shots.proofs.Images.{no_fault}
use Rattle.lines.specs.declared.line.Line.{Line}
use Rattle.racks.specs.Racks.{add_fault}
use Rattle.fit.specs.First.{OneSpeed}
use Rattle.law.specs.declared.kinds.Call.{Call}
use Rattle.law.specs.declared.kinds.Call.TheVariants.{Pivot}
use Rattle.law.specs.declared.kinds.Reply.{Reply}
use Rattle.law.specs.declared.kinds.Reply.TheVariants.{Done, Told, Mounted, Slipped, Issued, Refused}
use Rattle.law.specs.declared.kinds.Moment.{Moment}
use Rattle.law.specs.Ends.{Pivoting}
use Rattle.law.specs.Lives.{changed, held_by, in_force_by, Best, CallSays, Promised, Promises, Transcript}
use Rattle.law.specs.Replies.{AddReplies}
use Rattle.law.proofs.Ends.{pivots_end}
use Rattle.law.proofs.Facts.{reads_is}
use Rattle.appraisal.specs.Planning.{entry_of, add_of, plan_of}

-- ---- a row of moments
abbrev call_of : Moment → Call
call_of m = m.call

-- the oldest moment of a row comes last once it is turned
turn : (m : Moment) (row past : List Moment) → reverse (m ∷ row) ++ past ≡ reverse row ++ (m ∷ past)
turn m row past = ap (λ (l : List Moment). l ++ past) (reverse-cons m row) ∙ append_assoc (reverse row) (m ∷ []) past

pub last_in_force : (row : List Moment) (k : ℕ) (d : Moment) → k < length row → in_force_by (reverse (take (k + 1) row)) ≡ (get_or row k d).pass
last_in_force row k d h = ap (λ (l : List Moment). in_force_by (reverse l)) (take_more row k d h) ∙ ap in_force_by (reverse-append (take k row) (get_or row k d ∷ []))

-- ---- pivots
pivoting : (n : ℕ) (row done : List Moment) → map call_of row ≡ replicate n Pivot → Pivoting done → Pivoting (reverse row ++ done)
pivoting n [] done e p = p
pivoting zero (m ∷ row) done e p = absurd cc
pivoting (suc n) (m ∷ row) done e p =
    let head : m.call ≡ Pivot = cc e in
    let tail : map call_of row ≡ replicate n Pivot = cc e in
    subst Pivoting (sym (turn m row done)) (pivoting n row (m ∷ done) tail (head, p))

held_pivots : (past ms : List Moment) → Pivoting ms → held_by (ms ++ past) ≡ held_by past
held_pivots past [] p = refl
held_pivots past (m ∷ ms) p = ap (λ (c : Call). changed c m.reply (held_by (ms ++ past))) p.0 ∙ held_pivots past ms p.1

-- ---- one speed or not
same_nat : (m n : ℕ) → ((m ≡ n → ⊥) → ⊥) → m ≡ n
same_nat zero zero h = refl
same_nat zero (suc n) h = absurd (h (λ e. omega arith))
same_nat (suc m) zero h = absurd (h (λ e. omega arith))
same_nat (suc m) (suc n) h = ap suc (same_nat m n (λ k. h (λ e. k (omega arith))))

one_speed_lem : (xs : List Shot) → ((OneSpeed xs → ⊥) → ⊥) → OneSpeed xs
one_speed_lem xs h x some at j y l e = same_nat y.speed x.speed (λ n. h (λ o. n (o x some at j y l e)))

-- ---- the adds
accepted : (cap : ℕ) (xs : List Shot) (z : Shot) → length xs < cap → add_fault cap xs (entry_of z) ≡ None
accepted cap xs z h = let f = no_fault z in grind arith

taken : (cap : ℕ) (xs : List Shot) (z : Shot) (r : Reply) → AddReplies cap xs (entry_of z) r → length xs < cap → changed (add_of z) r xs ≡ xs ++ z ∷ []
taken cap xs z Done a h = ap (λ (y : Shot). xs ++ y ∷ []) (sym (reads_is z (entry_of z) (record { speed = refl; lead = refl; weight = refl; stuff = refl })))
taken cap xs z (Told w p) a h = absurd a
taken cap xs z (Mounted c) a h = absurd a
taken cap xs z (Slipped k) a h = absurd a
taken cap xs z (Issued l) a h = absurd a
taken cap xs z (Refused e) a h = absurd (none-some e (sym (accepted cap xs z h) ∙ a))

module _ (tariff : ℤ → ℕ × ℕ) (cap : ℕ) where
  older : (new old : List Moment) → Promises tariff cap (new ++ old) → Promises tariff cap old
  older [] old h = h
  older (m ∷ new) old h = older new old h.1

  -- what is promised at each moment of a row is promised of it whole
  from_each : (row before after : List Moment) → ((b a : List Moment) (m : Moment) → row ≡ b ++ (m ∷ a) → Promised tariff cap (reverse b) m) → row ≡ before ++ after → Promises tariff cap (reverse before) → Promises tariff cap (reverse row)
  from_each row before [] each e h = subst (λ (l : List Moment). Promises tariff cap (reverse l)) (sym (e ∙ append-nil before)) h
  from_each row before (m ∷ after) each e h =
      from_each row (before ++ m ∷ []) after each (e ∙ sym (append_assoc before (m ∷ []) after)) (subst (Promises tariff cap) (sym (reverse-append before (m ∷ []))) (each before after m e, h))

  held_added : (done todo : List Shot) (past adds : List Moment) → map call_of adds ≡ map add_of todo → Promises tariff cap (reverse adds ++ past) → held_by past ≡ done → length done + length todo ≤ cap → held_by (reverse adds ++ past) ≡ done ++ todo
  held_added done [] past [] e h d r = d ∙ sym (append-nil done)
  held_added done [] past (m ∷ adds) e h d r = absurd cc
  held_added done (z ∷ todo) past [] e h d r = absurd cc
  held_added done (z ∷ todo) past (m ∷ adds) e h d r =
      let turned = turn m adds past in
      let kept = subst (Promises tariff cap) turned h in
      let head : m.call ≡ add_of z = cc e in
      let tail : map call_of adds ≡ map add_of todo = cc e in
      let says = subst (λ (c : Call). CallSays tariff cap past c m.reply m.pass) head (older (reverse adds) (m ∷ past) kept).0.says in
      let room : length (held_by past) < cap = let n = ap length d in omega arith in
      let held : held_by (m ∷ past) ≡ done ++ z ∷ [] = ap (λ (c : Call). changed c m.reply (held_by past)) head ∙ taken cap (held_by past) z m.reply says.0 room ∙ ap (λ (l : List Shot). l ++ z ∷ []) d in
      let longer = length-append done (z ∷ []) in
      ap held_by turned ∙ held_added (done ++ z ∷ []) todo (m ∷ past) adds tail kept held (omega arith) ∙ append_assoc done (z ∷ []) todo

  best_in_force : (past : List Moment) → Promises tariff cap past → (l : Line) → in_force_by past ≡ Some l → Best tariff (held_by past) l
  best_in_force [] h l e = absurd cc
  best_in_force (m ∷ past) h l e = h.0.cheapest l e

  pub record Ended (xs : List Shot) (past : List Moment) : Type 0 where
    pub held : held_by past ≡ xs
    pub best : (l : Line) → in_force_by past ≡ Some l → Best tariff xs l
    pub none : in_force_by past ≡ None → OneSpeed xs

  ended_by : (xs : List Shot) (row adds rest : List Moment) → row ≡ adds ++ rest → map call_of adds ≡ map add_of xs → map call_of rest ≡ replicate (suc (length xs)) Pivot → Transcript tariff cap (plan_of xs) row → length xs ≤ cap → Ended xs (reverse row)
  ended_by xs row adds rest parts added others t room =
      let turned : reverse row ≡ reverse rest ++ reverse adds = ap reverse parts ∙ reverse-append adds rest in
      let kept = from_each row [] row t.each refl tt in
      let parted = subst (Promises tariff cap) turned kept in
      let from-adds = held_added [] xs [] adds added (subst (Promises tariff cap) (sym (append-nil (reverse adds))) (older (reverse rest) (reverse adds) parted)) refl (omega arith) in
      let held : held_by (reverse adds) ≡ xs = ap held_by (sym (append-nil (reverse adds))) ∙ from-adds in
      let pivots : Pivoting (reverse rest) = subst Pivoting (append-nil (reverse rest)) (pivoting (suc (length xs)) rest [] others tt) in
      let all : held_by (reverse row) ≡ xs = ap held_by turned ∙ held_pivots (reverse adds) (reverse rest) pivots ∙ held in
      let long : length rest ≡ suc (length xs) = sym (length-map rest call_of) ∙ ap length others ∙ length-replicate (suc (length xs)) Pivot in
      let enough : length (held_by (reverse adds)) < length (reverse rest) = let n = ap length held in let r = length-reverse rest in omega arith in
      let in-force : (OneSpeed xs → ⊥) → (l : Line) × (in_force_by (reverse rest ++ reverse adds) ≡ Some l) = λ two. pivots_end tariff cap (reverse adds) (reverse rest) parted pivots enough (λ o. two (subst OneSpeed held o)) in
      record {
        held = all;
        best = λ l e. subst (λ (ys : List Shot). Best tariff ys l) all (best_in_force (reverse row) kept l e);
        none = λ e. one_speed_lem xs (λ two. none-some (in-force two).0 (sym e ∙ ap in_force_by turned ∙ (in-force two).1));
      }

  -- the row of a plan is a row of adds, then one of pivots
  pub ended : (xs : List Shot) (row : List Moment) → Transcript tariff cap (plan_of xs) row → length xs ≤ cap → Ended xs (reverse row)
  ended xs row t room =
      let n = length xs in
      let called : map call_of row ≡ map add_of xs ++ replicate (suc n) Pivot = t.called in
      let size = length-map xs add_of in
      ended_by xs row (take n row) (drop n row) (sym (take-append-drop n row))
      (rw (← take-map call_of n row, called) (take_at (map add_of xs) (replicate (suc n) Pivot) n size))
      (rw (← drop-map call_of n row, called) (drop_at (map add_of xs) (replicate (suc n) Pivot) n size))
      t room
