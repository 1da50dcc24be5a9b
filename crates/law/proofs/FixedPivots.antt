-- A pivot has one answer: its word follows from what is in force, what is at hand and the test, and its line from the
-- word.
use Rattle.std.proofs.Common.{◌≡◌, ℕ, ◌⊎◌, List, ℤ, pos, Some, None, Option, sym, refl, ap, ◌∙◌, subst, inl, inr}
use Rattle.shots.specs.declared.refusal.Refusal.TheVariants.{OneSpeed as OneSpeedRefusal}
use Rattle.lines.specs.declared.line.Line.{Line}
use Rattle.lines.specs.declared.priced.PricedLine.{PricedLine}
use Rattle.fit.specs.First.{OneSpeed}
use Rattle.fit.specs.Testing.{First}
use Rattle.fit.specs.Totals.{total_of}
use Rattle.fit.specs.Turning.{TurnedAt}
use Rattle.law.specs.declared.kinds.Word.{Word}
use Rattle.law.specs.declared.kinds.Word.TheVariants.{Laid, Moved, Proved, Stands}
use Rattle.law.specs.declared.kinds.Reply.{Reply}
use Rattle.law.specs.declared.kinds.Reply.TheVariants.{Done, Told, Mounted, Slipped, Issued, Refused}
use Rattle.law.specs.declared.kinds.Moment.{Moment}
use Rattle.law.specs.Lives.{held_by, in_force_by, AtHand, SaysMoved, SaysProved, WordSays, PivotSays}
use Rattle.law.proofs.FixedLines.{laid_first_one, first_one, first_fails, turned_one}
use Rattle.law.proofs.Options.{clash, unsome, two, either}
use Rattle.law.proofs.Hands.{one_at_hand}

module _ (tariff : ℤ → ℕ × ℕ) (past : List Moment) where
  abbrev SameWord : Word → Word → Line → Line → Option Line → Option Line → Type 0
  SameWord w v l m o p = (w ≡ v) × (l ≡ m) × (o ≡ p)

  hand_one : (l m : Line) → AtHand past (Some l) → AtHand past (Some m) → l ≡ m
  hand_one l m h k = unsome (one_at_hand past (Some l) (Some m) h k)

  no_hand : {A : Type 0} (l : Line) → AtHand past None → AtHand past (Some l) → A
  no_hand l h k = clash (one_at_hand past None (Some l) h k)

  moved_one : (l m : Line) (o p : Option Line) → SaysMoved tariff past l o → SaysMoved tariff past m p → l ≡ m
  moved_one l m o p h k =
      let xs = held_by past in
      let first : First tariff h.line xs k.place = subst (λ n. First tariff n xs k.place) (hand_one k.line h.line k.hand h.hand) k.fails in
      let place : k.place ≡ h.place = first_one tariff xs h.line k.place h.place first h.fails in
      turned_one tariff xs (pos h.place) l m h.turned (subst (λ i. TurnedAt tariff xs (pos i) (Some m)) place k.turned)

  not_both : (l m : Line) (o p : Option Line) → SaysMoved tariff past l o → SaysProved tariff past m p → ⊥
  not_both l m o p h k =
      let xs = held_by past in
      let first : First tariff m xs h.place = subst (λ n. First tariff n xs h.place) (hand_one h.line m h.hand k.hand) h.fails in
      first_fails tariff xs m h.place first k.passes

  word_one : (w v : Word) (l m : Line) (o p : Option Line) → WordSays tariff past w l o → WordSays tariff past v m p → SameWord w v l m o p
  word_one Laid Laid l m o p h k = (refl, laid_first_one (held_by past) l m h.first k.first, h.none ∙ sym k.none)
  word_one Laid Moved l m o p h k = no_hand k.line h.hand k.hand
  word_one Laid Proved l m o p h k = no_hand m h.hand k.hand
  word_one Laid Stands l m o p h k = either h.before k.before
  word_one Moved Laid l m o p h k = no_hand h.line k.hand h.hand
  word_one Moved Moved l m o p h k = (refl, moved_one l m o p h k, h.none ∙ sym k.none)
  word_one Moved Proved l m o p h k = absurd (not_both l m o p h k)
  word_one Moved Stands l m o p h k = either h.before k.before
  word_one Proved Laid l m o p h k = no_hand l k.hand h.hand
  word_one Proved Moved l m o p h k = absurd (not_both m l p o k h)
  word_one Proved Proved l m o p h k = let e = hand_one l m h.hand k.hand in (refl, e, h.now ∙ ap Some e ∙ sym k.now)
  word_one Proved Stands l m o p h k = either h.before k.before
  word_one Stands Laid l m o p h k = either k.before h.before
  word_one Stands Moved l m o p h k = either k.before h.before
  word_one Stands Proved l m o p h k = either k.before h.before
  word_one Stands Stands l m o p h k = let e = two h.before k.before in (refl, e, h.now ∙ ap Some e ∙ sym k.now)

  record Tells (r : Reply) (o : Option Line) : Type 0 where
    pub word : Word
    pub priced : PricedLine
    pub speeds : OneSpeed (held_by past) → ⊥
    pub total : priced.total ≡ total_of tariff priced.line (held_by past)
    pub says : WordSays tariff past word priced.line o
    pub is : r ≡ Told word priced

  abbrev Pivoted : Reply → Option Line → Type 0
  Pivoted r o = Tells r o ⊎ (OneSpeed (held_by past) × (r ≡ Refused OneSpeedRefusal) × (o ≡ in_force_by past))

  pivot_is : (r : Reply) (o : Option Line) → PivotSays tariff past r o → Pivoted r o
  pivot_is Done o k = absurd k
  pivot_is (Told w p) o k = inl (record { word = w; priced = p; speeds = k.0; total = k.1; says = k.2; is = refl })
  pivot_is (Mounted c) o k = absurd k
  pivot_is (Slipped n) o k = absurd k
  pivot_is (Issued l) o k = absurd k
  pivot_is (Refused e) o k = inr (k.0, ap Refused k.1, k.3)

  told_one : (r q : Reply) (o p : Option Line) → Tells r o → Tells q p → (r ≡ q) × (o ≡ p)
  told_one r q o p h k =
      let s = word_one h.word k.word h.priced.line k.priced.line o p h.says k.says in
      let t : h.priced.total ≡ k.priced.total = h.total ∙ ap (λ l. total_of tariff l (held_by past)) s.1 ∙ sym k.total in
      let same : h.priced ≡ k.priced = λ i. record { line = s.1 i; total = t i } in
      (h.is ∙ (λ i. Told (s.0 i) (same i)) ∙ sym k.is, s.2)

  pivoted_one : (r q : Reply) (o p : Option Line) → Pivoted r o → Pivoted q p → (r ≡ q) × (o ≡ p)
  pivoted_one r q o p (inl h) (inl k) = told_one r q o p h k
  pivoted_one r q o p (inl h) (inr k) = absurd (h.speeds k.0)
  pivoted_one r q o p (inr h) (inl k) = absurd (k.speeds h.0)
  pivoted_one r q o p (inr h) (inr k) = (h.1 ∙ sym k.1, h.2 ∙ sym k.2)

  pub pivot_one : (r q : Reply) (o p : Option Line) → PivotSays tariff past r o → PivotSays tariff past q p → (r ≡ q) × (o ≡ p)
  pivot_one r q o p h k = pivoted_one r q o p (pivot_is r o h) (pivot_is q p k)
