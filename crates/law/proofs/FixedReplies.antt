-- An add, a strike, a mount, a slip and an issue have one answer each: it follows from the held shots and the line in
-- force before the call; and after a change there is one line in force, or none.
use Rattle.std.proofs.Common.{◌≡◌, ℕ, ◌<◌, ◌≤◌, cond, ltb, ◌⊎◌, List, ℤ, Some, None, Ok, Err, Option, sym, refl, ap, ◌∙◌, subst, inl, inr}
use Rattle.std.proofs.lemmas.Bool.{lt-ltb, le-ltb}
use Rattle.shots.specs.declared.shot.Shot.{Shot}
use Rattle.shots.specs.declared.entry.Entry.{Entry}
use Rattle.shots.specs.declared.refusal.Refusal.{Refusal}
use Rattle.shots.specs.declared.refusal.Refusal.TheVariants.{Place, Idle, SlipShort}
use Rattle.lines.specs.declared.line.Line.{Line}
use Rattle.racks.specs.Racks.{Holds, add_fault}
use Rattle.theory.specs.Offsets.{BalancedOffset}
use Rattle.fit.specs.Points.{points}
use Rattle.fit.specs.Offsets.{OffsetOf}
use Rattle.law.specs.declared.kinds.Reply.{Reply}
use Rattle.law.specs.declared.kinds.Reply.TheVariants.{Done, Told, Mounted, Slipped, Issued, Refused}
use Rattle.slips.specs.Rows.{on_line}
use Rattle.law.specs.Replies.{IfDone, AddReplies, StrikeReplies, MountReplies, SlipReplies, IssueReplies}
use Rattle.law.specs.Lives.{Kept}
use Rattle.law.proofs.Options.{clash, unsome}
use Rattle.law.proofs.FixedLines.{line_not_apart, offset_one}

-- ---- the line in force after a call
kept_one : (tariff : ℤ → ℕ × ℕ) (xs : List Shot) (b o p : Option Line) → Kept tariff xs b o → Kept tariff xs b p → o ≡ p
kept_one tariff xs None o p h k = h ∙ sym k
kept_one tariff xs (Some l) None None h k = refl
kept_one tariff xs (Some l) None (Some j) h k = clash (sym (k.1 (λ b. clash (h.0 b))))
kept_one tariff xs (Some l) (Some i) None h k = clash (sym (h.1 (λ b. clash (k.0 b))))
kept_one tariff xs (Some l) (Some i) (Some j) h k =
    ap Some (line_not_apart i j (λ n. clash (sym (h.1 (λ b. n (unsome (h.0 b ∙ sym (k.0 b))))))))

pub if_done_one : (r : Reply) (tariff : ℤ → ℕ × ℕ) (xs : List Shot) (b o p : Option Line) → IfDone r (Kept tariff xs b o) (o ≡ b) → IfDone r (Kept tariff xs b p) (p ≡ b) → o ≡ p
if_done_one Done tariff xs b o p h k = kept_one tariff xs b o p h k
if_done_one (Told w t) tariff xs b o p h k = h ∙ sym k
if_done_one (Mounted c) tariff xs b o p h k = h ∙ sym k
if_done_one (Slipped n) tariff xs b o p h k = h ∙ sym k
if_done_one (Issued l) tariff xs b o p h k = h ∙ sym k
if_done_one (Refused e) tariff xs b o p h k = h ∙ sym k

-- ---- add: the answer by the first refusal
abbrev by_fault : Option Refusal → Reply
by_fault None = Done
by_fault (Some e) = Refused e

add_is : (cap : ℕ) (xs : List Shot) (entry : Entry) (r : Reply) → AddReplies cap xs entry r → r ≡ by_fault (add_fault cap xs entry)
add_is cap xs entry Done k = sym (ap by_fault k)
add_is cap xs entry (Told t p) k = absurd k
add_is cap xs entry (Mounted c) k = absurd k
add_is cap xs entry (Slipped n) k = absurd k
add_is cap xs entry (Issued l) k = absurd k
add_is cap xs entry (Refused e) k = sym (ap by_fault k)

pub add-one : (cap : ℕ) (xs : List Shot) (entry : Entry) (r q : Reply) → AddReplies cap xs entry r → AddReplies cap xs entry q → r ≡ q
add-one cap xs entry r q k j = add_is cap xs entry r k ∙ sym (add_is cap xs entry q j)

-- ---- strike: the answer by whether a shot is held there
abbrev Struck : List Shot → ℤ → Reply → Type 0
Struck xs p r = (Holds xs p × (r ≡ Done)) ⊎ ((Holds xs p → ⊥) × (r ≡ Refused Place))

strike_is : (xs : List Shot) (p : ℤ) (r : Reply) → StrikeReplies xs p r → Struck xs p r
strike_is xs p Done k = inl (k, refl)
strike_is xs p (Told t q) k = absurd k
strike_is xs p (Mounted c) k = absurd k
strike_is xs p (Slipped n) k = absurd k
strike_is xs p (Issued l) k = absurd k
strike_is xs p (Refused e) k = inr (k.0, ap Refused k.1)

struck_one : (xs : List Shot) (p : ℤ) (r q : Reply) → Struck xs p r → Struck xs p q → r ≡ q
struck_one xs p r q (inl h) (inl k) = h.1 ∙ sym k.1
struck_one xs p r q (inl h) (inr k) = absurd (k.0 h.0)
struck_one xs p r q (inr h) (inl k) = absurd (h.0 k.0)
struck_one xs p r q (inr h) (inr k) = h.1 ∙ sym k.1

pub strike_one : (xs : List Shot) (p : ℤ) (r q : Reply) → StrikeReplies xs p r → StrikeReplies xs p q → r ≡ q
strike_one xs p r q k j = struck_one xs p r q (strike_is xs p r k) (strike_is xs p q j)

-- ---- mount: the answer by the slope, by whether a shot is held, and by the balance
module _ (tariff : ℤ → ℕ × ℕ) (a b : ℤ) (xs : List Shot) where
  abbrev Offset : Reply → Type 0
  Offset r = ((c : ℤ) × OffsetOf tariff a b xs (Ok c) × (r ≡ Mounted c)) ⊎ ((e : Refusal) × OffsetOf tariff a b xs (Err e) × (r ≡ Refused e))

  mount_is : (r : Reply) → MountReplies tariff xs a b r → Offset r
  mount_is Done k = absurd k
  mount_is (Told t p) k = absurd k
  mount_is (Mounted c) k = inl (c, k, refl)
  mount_is (Slipped n) k = absurd k
  mount_is (Issued l) k = absurd k
  mount_is (Refused e) k = inr (e, k, refl)

  not_refused : (c : ℤ) (e : Refusal) → OffsetOf tariff a b xs (Ok c) → OffsetOf tariff a b xs (Err e) → ⊥
  not_refused c e h (inl k) = k.0 h.0
  not_refused c e h (inr k) = let w = subst (λ ys. BalancedOffset a b (points tariff ys) c) k.1 h.1 in w.inside

  one_refusal : (e f : Refusal) → OffsetOf tariff a b xs (Err e) → OffsetOf tariff a b xs (Err f) → e ≡ f
  one_refusal e f (inl h) (inl k) = h.1 ∙ sym k.1
  one_refusal e f (inl h) (inr k) = absurd (h.0 k.0)
  one_refusal e f (inr h) (inl k) = absurd (k.0 h.0)
  one_refusal e f (inr h) (inr k) = h.2 ∙ sym k.2

  mounted_one : (r q : Reply) → Offset r → Offset q → r ≡ q
  mounted_one r q (inl h) (inl k) = h.2 ∙ ap Mounted (offset_one a b (points tariff xs) h.0 k.0 h.1.1 k.1.1) ∙ sym k.2
  mounted_one r q (inl h) (inr k) = absurd (not_refused h.0 k.0 h.1 k.1)
  mounted_one r q (inr h) (inl k) = absurd (not_refused k.0 h.0 k.1 h.1)
  mounted_one r q (inr h) (inr k) = h.2 ∙ ap Refused (one_refusal h.0 k.0 h.1 k.1) ∙ sym k.2

  pub mount_one : (r q : Reply) → MountReplies tariff xs a b r → MountReplies tariff xs a b q → r ≡ q
  mount_one r q k j = mounted_one r q (mount_is r k) (mount_is q j)

-- ---- slip and issue: the answers by the line in force
abbrev by_slip : List Shot → ℕ → Option Line → Reply
by_slip xs rows None = Refused Idle
by_slip xs rows (Some l) = cond (ltb rows (on_line l xs)) (Refused SlipShort) (Slipped (on_line l xs))

long : (xs : List Shot) (rows : ℕ) (l : Line) → on_line l xs ≤ rows → by_slip xs rows (Some l) ≡ Slipped (on_line l xs)
long xs rows l h = rw (le-ltb rows (on_line l xs) h)

short : (xs : List Shot) (rows : ℕ) (l : Line) → rows < on_line l xs → by_slip xs rows (Some l) ≡ Refused SlipShort
short xs rows l h = rw (lt-ltb rows (on_line l xs) h)

slip_is : (xs : List Shot) (o : Option Line) (rows : ℕ) (r : Reply) → SlipReplies xs o rows r → r ≡ by_slip xs rows o
slip_is xs o rows Done k = absurd k
slip_is xs o rows (Told t p) k = absurd k
slip_is xs o rows (Mounted c) k = absurd k
slip_is xs o rows (Slipped n) k = ap Slipped k.2 ∙ sym (long xs rows k.0 (subst (λ j. j ≤ rows) k.2 k.3)) ∙ ap (by_slip xs rows) (sym k.1)
slip_is xs o rows (Issued l) k = absurd k
slip_is xs o rows (Refused e) (inl k) = ap Refused k.1 ∙ ap (by_slip xs rows) (sym k.0)
slip_is xs o rows (Refused e) (inr k) = ap Refused k.3 ∙ sym (short xs rows k.0 k.2) ∙ ap (by_slip xs rows) (sym k.1)

pub slip_one : (xs : List Shot) (o : Option Line) (rows : ℕ) (r q : Reply) → SlipReplies xs o rows r → SlipReplies xs o rows q → r ≡ q
slip_one xs o rows r q k j = slip_is xs o rows r k ∙ sym (slip_is xs o rows q j)

abbrev by_pass : Option Line → Reply
by_pass None = Refused Idle
by_pass (Some l) = Issued l

issue_is : (o : Option Line) (r : Reply) → IssueReplies o r → r ≡ by_pass o
issue_is o Done k = absurd k
issue_is o (Told t p) k = absurd k
issue_is o (Mounted c) k = absurd k
issue_is o (Slipped n) k = absurd k
issue_is o (Issued l) k = ap by_pass (sym k)
issue_is o (Refused e) k = ap Refused k.1 ∙ ap by_pass (sym k.0)

pub issue_one : (o : Option Line) (r q : Reply) → IssueReplies o r → IssueReplies o q → r ≡ q
issue_one o r q k j = issue_is o r k ∙ sym (issue_is o q j)
