-- No past has two lines at hand: each call with its answer leaves one.
use Rattle.std.proofs.Common.{◌≡◌, List, [], ◌∷◌, ℤ, Some, None, Option, sym, ◌∙◌, subst, inl, inr}
use Rattle.shots.specs.declared.shot.Shot.{Shot}
use Rattle.lines.specs.declared.line.Line.{Line}
use Rattle.law.specs.declared.kinds.Call.{Call}
use Rattle.law.specs.declared.kinds.Call.TheVariants.{Add, Strike, Pivot, Mount, Slip, Issue}
use Rattle.law.specs.declared.kinds.Reply.{Reply}
use Rattle.law.specs.declared.kinds.Reply.TheVariants.{Done, Told, Mounted, Slipped, Issued, Refused}
use Rattle.law.specs.Lives.{held_by, HandStruck, HandAfter, OneAtHand}

struck_one : (xs : List Shot) (a o p : Option Line) → HandStruck xs a o → HandStruck xs a p → o ≡ p
struck_one xs None o p e f = e ∙ sym f
struck_one xs (Some l) o p (inl h) (inl k) = h.1 ∙ sym k.1
struck_one xs (Some l) o p (inl h) (inr k) = absurd (k.0 h.0)
struck_one xs (Some l) o p (inr h) (inl k) = absurd (h.0 k.0)
struck_one xs (Some l) o p (inr h) (inr k) = h.1 ∙ sym k.1

strike_one : (i : ℤ) (r : Reply) (xs : List Shot) (a o p : Option Line) → HandAfter (Strike i) r xs a o → HandAfter (Strike i) r xs a p → o ≡ p
strike_one i Done xs a o p h k = struck_one xs a o p h k
strike_one i (Told w q) xs a o p h k = h ∙ sym k
strike_one i (Mounted c) xs a o p h k = h ∙ sym k
strike_one i (Slipped n) xs a o p h k = h ∙ sym k
strike_one i (Issued l) xs a o p h k = h ∙ sym k
strike_one i (Refused e) xs a o p h k = h ∙ sym k

after_one : (c : Call) (r : Reply) (xs : List Shot) (a o p : Option Line) → HandAfter c r xs a o → HandAfter c r xs a p → o ≡ p
after_one (Add entry) r xs a o p e f = e ∙ sym f
after_one (Strike i) r xs a o p e f = strike_one i r xs a o p e f
after_one Pivot r xs a o p e f = e ∙ sym f
after_one (Mount x y) r xs a o p e f = e ∙ sym f
after_one (Slip rows) r xs a o p e f = e ∙ sym f
after_one Issue r xs a o p e f = e ∙ sym f

pub one_at_hand : OneAtHand
one_at_hand [] o p e f = e ∙ sym f
one_at_hand (m ∷ past) o p h k =
    let same = one_at_hand past h.0 k.0 h.1 k.1 in
    after_one m.call m.reply (held_by (m ∷ past)) k.0 o p (subst (λ a. HandAfter m.call m.reply (held_by (m ∷ past)) a o) same h.2) k.2
