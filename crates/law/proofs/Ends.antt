-- Pivots come to an end: after n + 1 of them in a row, over n shots of two speeds, a line is in force.
--   not in force after a pivots in a row   ⇒  a = 0, or a line is at hand and all but one of the a were moves; and moves are at most n - 1
use Rattle.std.proofs.Common.{◌≡◌, ℕ, suc, ◌-◌, ◌<◌, ◌≤◌, ◌⊎◌, List, [], ◌∷◌, ◌++◌, length, ℤ, Some, None, Option, sym, refl, subst, inl, inr, arith}
use Rattle.shots.specs.declared.shot.Shot.{Shot}
use Rattle.lines.specs.declared.line.Line.{Line}
use Rattle.fit.specs.First.{OneSpeed}
use Rattle.law.specs.declared.kinds.Call.{Call}
use Rattle.law.specs.declared.kinds.Call.TheVariants.{Pivot}
use Rattle.law.specs.declared.kinds.Word.TheVariants.{Laid, Moved, Proved, Stands}
use Rattle.law.specs.declared.kinds.Reply.{Reply}
use Rattle.law.specs.declared.kinds.Reply.TheVariants.{Done, Told, Mounted, Slipped, Issued, Refused}
use Rattle.law.specs.declared.kinds.Moment.{Moment}
use Rattle.law.specs.Lives.{held_by, in_force_by, AtHand, moving, count_by, PivotSays, Promised, Promises}
use Rattle.law.specs.Ends.{Pivoting, PivotsEnd}
use Rattle.law.proofs.Hands.{one_at_hand}
use Rattle.law.proofs.Options.{clash, either}

abbrev with_call : Call → Moment → Moment
with_call c m = record { call = c; reply = m.reply; pass = m.pass }

-- what is so after a pivots in a row
abbrev State : ℕ → List Moment → Type 0
State a past = ((l : Line) × (in_force_by past ≡ Some l)) ⊎ ((a ≡ 0) ⊎ ((l : Line) × AtHand past (Some l) × (a ≤ suc (count_by moving past))))

module _ (tariff : ℤ → ℕ × ℕ) (past : List Moment) (a : ℕ) (two : OneSpeed (held_by past) → ⊥) where
  laid : (p : Line) → in_force_by past ≡ None → AtHand past None → State a past → (l : Line) × (a ≡ 0)
  laid p before hand (inl s) = either before s.1
  laid p before hand (inr (inl z)) = (p, z)
  laid p before hand (inr (inr s)) = clash (one_at_hand past None (Some s.0) hand s.1)

  moved : in_force_by past ≡ None → State a past → a ≤ suc (count_by moving past)
  moved before (inl s) = either before s.1
  moved before (inr (inl z)) = omega arith
  moved before (inr (inr s)) = s.2

  one_more : (r : Reply) (o : Option Line) → PivotSays tariff past r o → State a past → State (suc a) (record { call = Pivot; reply = r; pass = o } ∷ past)
  one_more Done o h s = absurd h
  one_more (Told Laid p) o h s = let k = (laid p.line h.2.before h.2.hand s).1 in inr (inr (p.line, (None, h.2.hand, refl), omega arith))
  one_more (Told Moved p) o h s = let k = moved h.2.before s in inr (inr (p.line, (Some h.2.line, h.2.hand, refl), omega arith))
  one_more (Told Proved p) o h s = inl (p.line, h.2.now)
  one_more (Told Stands p) o h s = inl (p.line, h.2.now)
  one_more (Mounted c) o h s = absurd h
  one_more (Slipped k) o h s = absurd h
  one_more (Issued l) o h s = absurd h
  one_more (Refused e) o h s = absurd (two h.0)

some_held : (xs : List Shot) → (OneSpeed xs → ⊥) → 0 < length xs
some_held [] two = absurd (two (λ x h. absurd (omega arith)))
some_held (x ∷ xs) two = omega arith

-- pivots leave the held shots
still_held : (past ms : List Moment) → Pivoting ms → held_by (ms ++ past) ≡ held_by past
still_held past [] p = refl
still_held past (m ∷ ms) p = subst (λ c. held_by (with_call c m ∷ (ms ++ past)) ≡ held_by past) (sym p.0) (still_held past ms p.1)

module _ (tariff : ℤ → ℕ × ℕ) (cap : ℕ) (past : List Moment) (two : OneSpeed (held_by past) → ⊥) where
  state : (ms : List Moment) → Promises tariff cap (ms ++ past) → Pivoting ms → State (length ms) (ms ++ past)
  state [] h p = inr (inl refl)
  state (m ∷ ms) h p =
      let says = (subst (λ c. Promised tariff cap (ms ++ past) (with_call c m)) p.0 h.0).says in
      let apart : OneSpeed (held_by (ms ++ past)) → ⊥ = subst (λ (xs : List Shot). OneSpeed xs → ⊥) (sym (still_held past ms p.1)) two in
      subst (λ c. State (suc (length ms)) (with_call c m ∷ (ms ++ past))) (sym p.0) (one_more tariff (ms ++ past) (length ms) apart m.reply m.pass says (state ms h.1 p.1))

  ends : (ms : List Moment) → Promises tariff cap (ms ++ past) → Pivoting ms → length (held_by past) < length ms → State (length ms) (ms ++ past) → (l : Line) × (in_force_by (ms ++ past) ≡ Some l)
  ends ms h p long (inl s) = s
  ends ms h p long (inr (inl z)) = absurd (omega arith)
  ends [] h p long (inr (inr s)) = absurd (omega arith)
  ends (m ∷ ms) h p long (inr (inr s)) =
      let few = subst (λ (xs : List Shot). count_by moving (m ∷ (ms ++ past)) ≤ length xs - 1) (still_held past (m ∷ ms) p) h.0.fewer in
      let k = s.2 in
      let n = some_held (held_by past) two in
      absurd (omega arith)

pub pivots_end : PivotsEnd
pivots_end tariff cap past ms h p long two = ends tariff cap past two ms h p long (state tariff cap past two ms h p)
