-- The law fixes every answer, call by call, and so, moment by moment, every transcript.
use Rattle.std.proofs.Common.{◌≡◌, ℕ, List, [], ◌∷◌, ◌++◌, map, reverse, ℤ, Option, sym, refl, ap, ◌∙◌, subst, append_assoc, append-nil}
use mathlib.Core.List.{reverse-cons, nil≢cons, cons≢nil, head-eq_of_cons-eq, tail-eq_of_cons-eq}
use Rattle.lines.specs.declared.line.Line.{Line}
use Rattle.law.specs.declared.kinds.Call.{Call}
use Rattle.law.specs.declared.kinds.Call.TheVariants.{Add, Strike, Pivot, Mount, Slip, Issue}
use Rattle.law.specs.declared.kinds.Reply.{Reply}
use Rattle.law.specs.declared.kinds.Moment.{Moment}
use Rattle.law.specs.Replies.{IfDone}
use Rattle.law.specs.Lives.{changed, held_by, in_force_by, Kept, CallSays, Promised}
use Rattle.law.specs.Fixed.{AnswersFixed, TranscriptsFixed}
use Rattle.law.proofs.FixedReplies.{if_done_one, add-one, strike_one, mount_one, slip_one, issue_one}
use Rattle.law.proofs.FixedPivots.{pivot_one}

-- ---- every call
module _ (tariff : ℤ → ℕ × ℕ) (cap : ℕ) (past : List Moment) where
  -- an add or a strike with one answer
  changed_one : (c : Call) (r q : Reply) (b o p : Option Line) → r ≡ q → IfDone r (Kept tariff (changed c r (held_by past)) b o) (o ≡ b) → IfDone q (Kept tariff (changed c q (held_by past)) b p) (p ≡ b) → (r ≡ q) × (o ≡ p)
  changed_one c r q b o p e h k =
      (e, if_done_one r tariff (changed c r (held_by past)) b o p h (subst (λ t. IfDone t (Kept tariff (changed c t (held_by past)) b p) (p ≡ b)) (sym e) k))

  call_one : (c : Call) (r q : Reply) (o p : Option Line) → CallSays tariff cap past c r o → CallSays tariff cap past c q p → (r ≡ q) × (o ≡ p)
  call_one (Add entry) r q o p x y = changed_one (Add entry) r q (in_force_by past) o p (add-one cap (held_by past) entry r q x.0 y.0) x.1 y.1
  call_one (Strike i) r q o p x y = changed_one (Strike i) r q (in_force_by past) o p (strike_one (held_by past) i r q x.0 y.0) x.1 y.1
  call_one Pivot r q o p x y = pivot_one tariff past r q o p x y
  call_one (Mount a b) r q o p x y = (mount_one tariff a b (held_by past) r q x.0 y.0, x.1 ∙ sym y.1)
  call_one (Slip rows) r q o p x y = (slip_one (held_by past) (in_force_by past) rows r q x.0 y.0, x.1 ∙ sym y.1)
  call_one Issue r q o p x y = (issue_one (in_force_by past) r q x.0 y.0, x.1 ∙ sym y.1)

pub answers_fixed : AnswersFixed
answers_fixed tariff cap past m n h k e =
    let s = call_one tariff cap past m.call m.reply n.reply m.pass n.pass h.says (subst (λ c. CallSays tariff cap past c n.reply n.pass) (sym e) k.says) in
    λ i. record { call = e i; reply = s.0 i; pass = s.1 i }

-- ---- transcripts, moment by moment
module _ (tariff : ℤ → ℕ × ℕ) (cap : ℕ) where
  -- what is promised at each of these moments after a past
  abbrev EachAfter : List Moment → List Moment → Type 0
  EachAfter past row = (before after : List Moment) (m : Moment) → row ≡ before ++ (m ∷ after) → Promised tariff cap (reverse before ++ past) m

  onward : (past row : List Moment) (m : Moment) → EachAfter past (m ∷ row) → EachAfter (m ∷ past) row
  onward past row m h before after n e =
      let same : reverse (m ∷ before) ++ past ≡ reverse before ++ (m ∷ past) = ap (λ (l : List Moment). l ++ past) (reverse-cons m before) ∙ append_assoc (reverse before) (m ∷ []) past in
      subst (λ l. Promised tariff cap l n) same (h (m ∷ before) after n (ap (λ l. m ∷ l) e))

  rows_one : (past ms ns : List Moment) → map (λ m. m.call) ms ≡ map (λ m. m.call) ns → EachAfter past ms → EachAfter past ns → ms ≡ ns
  rows_one past [] [] e h k = refl
  rows_one past [] (n ∷ ns) e h k = absurd (nil≢cons e)
  rows_one past (m ∷ ms) [] e h k = absurd (cons≢nil e)
  rows_one past (m ∷ ms) (n ∷ ns) e h k =
      let same : m ≡ n = answers_fixed tariff cap past m n (h [] ms m refl) (k [] ns n refl) (head-eq_of_cons-eq e) in
      let rest : ms ≡ ns = rows_one (m ∷ past) ms ns (tail-eq_of_cons-eq e) (onward past ms m h) (subst (λ x. EachAfter (x ∷ past) ns) (sym same) (onward past ns n k)) in
      λ i. same i ∷ rest i

pub transcripts_fixed : TranscriptsFixed
transcripts_fixed tariff cap calls ms ns s t =
    rows_one tariff cap [] ms ns (s.called ∙ sym t.called)
    (λ before after m e. subst (λ l. Promised tariff cap l m) (sym (append-nil (reverse before))) (s.each before after m e))
    (λ before after m e. subst (λ l. Promised tariff cap l m) (sym (append-nil (reverse before))) (t.each before after m e))
