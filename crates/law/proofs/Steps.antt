-- One call carries a life on: what each does to the ties between a sheet and its past, and that its answer keeps the promises.
use Rattle.std.proofs.Common.{◌≡◌, ℕ, suc, ◌+◌, ◌-◌, ◌≤◌, List, [], ◌∷◌, ◌++◌, length, ℤ, nat_abs, Some, None, Option, sym, refl, ap, ◌∙◌, subst, subst₂, inl, inr, arith}
use Rattle.std.specs.List.{remove}
use Rattle.shots.specs.declared.shot.Shot.{Shot}
use Rattle.shots.specs.declared.entry.Entry.{Entry}
use Rattle.lines.specs.Lines.{any}
use Rattle.lines.specs.declared.line.Line.{Line}
use Rattle.lines.specs.declared.priced.PricedLine.{PricedLine}
use Rattle.theory.specs.Rates.{Passes as TestPasses}
use Rattle.fit.specs.Points.{points}
use Rattle.fit.specs.Spanning.{TwoSpeeds}
use Rattle.fit.specs.Testing.{Tested}
use Rattle.fit.specs.Totals.{total_of}
use Rattle.law.specs.declared.stage.Stage.{Stage}
use Rattle.law.specs.declared.stage.Stage.TheVariants.{Bare, Trying, InForce}
use Rattle.law.specs.declared.kinds.Call.{Call}
use Rattle.law.specs.declared.kinds.Call.TheVariants.{Add, Strike, Pivot, Mount, Slip, Issue}
use Rattle.law.specs.declared.kinds.Word.{Word}
use Rattle.law.specs.declared.kinds.Word.TheVariants.{Laid, Moved, Proved, Stands}
use Rattle.law.specs.declared.kinds.Reply.{Reply}
use Rattle.law.specs.declared.kinds.Reply.TheVariants.{Done, Told, Mounted, Slipped, Issued, Refused}
use Rattle.law.specs.declared.kinds.Moment.{Moment}
use Rattle.law.specs.Views.{View, in_force}
use Rattle.law.specs.Replies.{shot_of, SlipReplies}
use Rattle.law.specs.Turns.{after_test, AfterAdd, AfterStrike, ByWord, Pivots, Turned, Turn}
use Rattle.law.specs.Lives.{changed, held_by, in_force_by, answered, last_by, HandStruck, HandAfter, AtHand, settling, moving, counts, count_by, pairs, Best, Kept, CallSays, Promised, Promises}
use Rattle.law.specs.Ties.{Sound, Last, hand_of, left, left_moves, Tied, Life, at, Called, TurnsCarryLives}
use Rattle.law.proofs.Options.{clash, unsome}
use Rattle.law.proofs.Facts.{reads_is, two_more, two_not_one, laid_two, best_of, not_best, moved_two, moved_cheaper, moved_lowers, moved_falls, few_pairs, few_places}

-- ---- the stage
sure : (tariff : ℤ → ℕ × ℕ) (xs : List Shot) (s : Stage) → Sound tariff xs s → (l : Line) → in_force s ≡ Some l → Best tariff xs l
sure tariff xs Bare h l e = clash e
sure tariff xs (Trying m) h l e = clash e
sure tariff xs (InForce m) h l e = subst (Best tariff xs) (unsome e) (best_of tariff xs m h.0 h.1)

fits : (tariff : ℤ → ℕ × ℕ) (xs : List Shot) (s : Stage) → Sound tariff xs s → left tariff xs s ≤ suc (pairs (length xs))
fits tariff xs Bare h = omega arith
fits tariff xs (Trying l) h = let k = few_pairs tariff xs l h in omega arith
fits tariff xs (InForce l) h = omega arith

fits_moves : (tariff : ℤ → ℕ × ℕ) (xs : List Shot) (s : Stage) → left_moves tariff xs s ≤ (length xs - 1)
fits_moves tariff xs Bare = omega arith
fits_moves tariff xs (Trying l) = let k = few_places tariff xs l in omega arith
fits_moves tariff xs (InForce l) = omega arith

-- the stage t after a change that left xs held, where it was s
record Settles (tariff : ℤ → ℕ × ℕ) (xs : List Shot) (s t : Stage) : Type 0 where
  pub sound : Sound tariff xs t
  pub kept : Kept tariff xs (in_force s) (in_force t)
  pub last : (o : Option Line) → Last s o → Last t o

module _ (tariff : ℤ → ℕ × ℕ) (xs : List Shot) where
  tested : (l : Line) (o : Option ℕ) → TwoSpeeds l xs → Tested tariff l xs o → Settles tariff xs (InForce l) (after_test l o)
  tested l None two h = record { sound = (two, h); kept = (λ b. refl, λ nb. absurd (nb (best_of tariff xs l two h))); last = λ o e. e }
  tested l (Some k) two h = record { sound = two; kept = (λ b. absurd (not_best tariff xs l k h two b), λ nb. refl); last = λ o e. e }

  unseated : (l : Line) → (TwoSpeeds l xs → ⊥) → Settles tariff xs (InForce l) Bare
  unseated l off = record { sound = tt; kept = (λ b. absurd (off b.through), λ nb. refl); last = λ o e. tt }

  after_strike : (s t : Stage) → AfterStrike tariff xs s t → Settles tariff xs s t
  after_strike Bare t e = subst (Settles tariff xs Bare) (sym e) (record { sound = tt; kept = refl; last = λ o k. tt })
  after_strike (Trying l) t (inl h) = subst (Settles tariff xs (Trying l)) (sym h.1) (record { sound = h.0; kept = refl; last = λ o k. k })
  after_strike (Trying l) t (inr h) = subst (Settles tariff xs (Trying l)) (sym h.1) (record { sound = tt; kept = refl; last = λ o k. tt })
  after_strike (InForce l) t (inl h) = subst (Settles tariff xs (InForce l)) (sym h.1.2) (tested l h.1.0 h.0 h.1.1)
  after_strike (InForce l) t (inr h) = subst (Settles tariff xs (InForce l)) (sym h.1) (unseated l h.0)

  hand_tested : (l : Line) (o : Option ℕ) → hand_of (after_test l o) ≡ Some l
  hand_tested l None = refl
  hand_tested l (Some k) = refl

  hand_strike : (s t : Stage) → AfterStrike tariff xs s t → HandStruck xs (hand_of s) (hand_of t)
  hand_strike Bare t e = ap hand_of e
  hand_strike (Trying l) t (inl h) = inl (h.0, ap hand_of h.1)
  hand_strike (Trying l) t (inr h) = inr (h.0, ap hand_of h.1)
  hand_strike (InForce l) t (inl h) = inl (h.0, ap hand_of h.1.2 ∙ hand_tested l h.1.0)
  hand_strike (InForce l) t (inr h) = inr (h.0, ap hand_of h.1)

  hand_add : (s t : Stage) → AfterAdd tariff xs s t → hand_of t ≡ hand_of s
  hand_add Bare t e = ap hand_of e
  hand_add (Trying l) t e = ap hand_of e
  hand_add (InForce l) t h = ap hand_of h.2 ∙ hand_tested l h.0

module _ (tariff : ℤ → ℕ × ℕ) (xs : List Shot) (z : Shot) where
  after_add : (s t : Stage) → Sound tariff xs s → AfterAdd tariff (xs ++ z ∷ []) s t → Settles tariff (xs ++ z ∷ []) s t
  after_add Bare t sd e = subst (Settles tariff (xs ++ z ∷ []) Bare) (sym e) (record { sound = tt; kept = refl; last = λ o k. tt })
  after_add (Trying l) t sd e = subst (Settles tariff (xs ++ z ∷ []) (Trying l)) (sym e) (record { sound = two_more l xs z sd; kept = refl; last = λ o k. k })
  after_add (InForce l) t sd h = subst (Settles tariff (xs ++ z ∷ []) (InForce l)) (sym h.2) (tested tariff (xs ++ z ∷ []) l h.0 (two_more l xs z sd.0) h.1)

-- ---- the ties
abbrev moment : Call → Reply → Stage → Moment
moment c r t = record { call = c; reply = r; pass = in_force t }

abbrev view : (ℤ → ℕ × ℕ) → ℕ → List Shot → Stage → View
view tariff cap xs s = record { held = xs; capacity = cap; tariff = tariff; stage = s }

record Stood (tariff : ℤ → ℕ × ℕ) (past : List Moment) (s : Stage) : Type 0 where
  pub sound : Sound tariff (held_by past) s
  pub pass : in_force_by past ≡ in_force s
  pub last : Last s (last_by past)
  pub hand : AtHand past (hand_of s)
  pub few : (count_by settling past + left tariff (held_by past) s) ≤ suc (pairs (length (held_by past)))
  pub fewer : (count_by moving past + left_moves tariff (held_by past) s) ≤ (length (held_by past) - 1)

record Goes (tariff : ℤ → ℕ × ℕ) (cap : ℕ) (past : List Moment) (c : Call) (r : Reply) (t : Stage) : Type 0 where
  pub says : CallSays tariff cap past c r (in_force t)
  pub stood : Stood tariff (moment c r t ∷ past) t

module _ (tariff : ℤ → ℕ × ℕ) (cap : ℕ) (past : List Moment) where
  -- a call that leaves the sheet
  still : (c : Call) (r : Reply) (s t : Stage) → t ≡ s → changed c r (held_by past) ≡ held_by past → counts settling c r (count_by settling past) ≡ count_by settling past → counts moving c r (count_by moving past) ≡ count_by moving past → Last s (answered r (last_by past)) → HandAfter c r (changed c r (held_by past)) (hand_of s) (hand_of s) → Stood tariff past s → CallSays tariff cap past c r (in_force_by past) → Goes tariff cap past c r t
  still c r s t et eh ec ed la ha st says = subst (Goes tariff cap past c r) (sym et) (record {
    says = subst (CallSays tariff cap past c r) st.pass says;
    stood = record {
      sound = subst (λ xs. Sound tariff xs s) (sym eh) st.sound;
      pass = refl;
      last = la;
      hand = (hand_of s, st.hand, ha);
      few = subst₂ (λ (n : ℕ) (xs : List Shot). (n + left tariff xs s) ≤ suc (pairs (length xs))) (sym ec) (sym eh) st.few;
      fewer = subst₂ (λ (n : ℕ) (xs : List Shot). (n + left_moves tariff xs s) ≤ (length xs - 1)) (sym ed) (sym eh) st.fewer;
    };
  })

  -- ---- add
  adds : (entry : Entry) (r : Reply) (s t : Stage) → Turned (Add entry) r (view tariff cap (held_by past) s) (changed (Add entry) r (held_by past)) t → Stood tariff past s → Goes tariff cap past (Add entry) r t
  adds entry Done s t k st =
      let xs = held_by past ++ shot_of entry ∷ [] in
      let d = after_add tariff (held_by past) (shot_of entry) s t st.sound k.1.1 in
      let f = fits tariff xs t d.sound in
      let f2 = fits_moves tariff xs t in
      record {
        says = (k.0, subst (λ o. Kept tariff xs o (in_force t)) (sym st.pass) d.kept);
        stood = record { sound = d.sound; pass = refl; last = d.last (last_by past) st.last; hand = (hand_of s, st.hand, hand_add tariff xs s t k.1.1); few = omega arith; fewer = omega arith };
      }
  adds entry (Told x p) s t k st = absurd k.0
  adds entry (Mounted c) s t k st = absurd k.0
  adds entry (Slipped n) s t k st = absurd k.0
  adds entry (Issued l) s t k st = absurd k.0
  adds entry (Refused e) s t k st = still (Add entry) (Refused e) s t k.1.1 refl refl refl st.last refl st (k.0, refl)

  -- ---- strike
  strikes : (p : ℤ) (r : Reply) (s t : Stage) → Turned (Strike p) r (view tariff cap (held_by past) s) (changed (Strike p) r (held_by past)) t → Stood tariff past s → Goes tariff cap past (Strike p) r t
  strikes p Done s t k st =
      let xs = remove (held_by past) (nat_abs p) in
      let d = after_strike tariff xs s t k.1.1 in
      let f = fits tariff xs t d.sound in
      let f2 = fits_moves tariff xs t in
      record {
        says = (k.0, subst (λ o. Kept tariff xs o (in_force t)) (sym st.pass) d.kept);
        stood = record { sound = d.sound; pass = refl; last = d.last (last_by past) st.last; hand = (hand_of s, st.hand, hand_strike tariff xs s t k.1.1); few = omega arith; fewer = omega arith };
      }
  strikes p (Told x q) s t k st = absurd k.0
  strikes p (Mounted c) s t k st = absurd k.0
  strikes p (Slipped n) s t k st = absurd k.0
  strikes p (Issued l) s t k st = absurd k.0
  strikes p (Refused e) s t k st = still (Strike p) (Refused e) s t k.1.1 refl refl refl st.last refl st (k.0, refl)

  -- ---- pivot
  tells : (s t : Stage) (w : Word) (p : PricedLine) → p.total ≡ total_of tariff p.line (held_by past) → ByWord tariff (held_by past) s w p.line t → Stood tariff past s → Goes tariff cap past Pivot (Told w p) t
  tells Bare t Laid p e k st =
      let two = laid_two p.line (held_by past) k.0 in
      let f = few_pairs tariff (held_by past) p.line two in
      let f2 = few_places tariff (held_by past) p.line in
      let g = st.few in
      let g2 = st.fewer in
      subst (Goes tariff cap past Pivot (Told Laid p)) (sym k.1) (record {
        says = (two_not_one p.line (held_by past) two, e, record { before = st.pass; hand = st.hand; first = k.0; none = refl });
        stood = record { sound = two; pass = refl; last = refl; hand = (None, st.hand, refl); few = omega arith; fewer = omega arith };
      })
  tells Bare t Moved p e k st = absurd k
  tells Bare t Proved p e k st = absurd k
  tells Bare t Stands p e k st = absurd k
  tells (Trying l) t Laid p e k st = absurd k
  tells (Trying l) t Moved p e k st =
      let two = moved_two tariff (held_by past) l p.line k.0 k.1 k.2 in
      let f = moved_lowers tariff (held_by past) l p.line k.0 k.1 k.2 in
      let d = moved_falls tariff (held_by past) l p.line k.0 k.1 k.2 in
      let f2 = d.two in
      let f3 = d.fewer in
      let g = st.few in
      let g2 = st.fewer in
      subst (Goes tariff cap past Pivot (Told Moved p)) (sym k.3) (record {
        says = (
          two_not_one p.line (held_by past) two,
          e,
          record {
            before = st.pass;
            line = l;
            hand = st.hand;
            place = k.0;
            fails = k.1;
            turned = k.2;
            descends = (l, st.last, moved_cheaper tariff (held_by past) l p.line k.0 k.1 k.2);
            none = refl;
          },
        );
        stood = record { sound = two; pass = refl; last = refl; hand = (Some l, st.hand, refl); few = omega arith; fewer = omega arith };
      })
  tells (Trying l) t Proved p e k st =
      let two = subst (λ m. TwoSpeeds m (held_by past)) (sym k.1) st.sound in
      let ok = subst (λ m. TestPasses (any m) (points tariff (held_by past))) (sym k.1) k.0 in
      let g = st.few in
      let g2 = st.fewer in
      subst (Goes tariff cap past Pivot (Told Proved p)) (sym k.2) (record {
        says = (two_not_one p.line (held_by past) two, e, record { before = st.pass; hand = subst (λ m. AtHand past (Some m)) (sym k.1) st.hand; passes = ok; now = refl });
        stood = record { sound = (two, ok); pass = refl; last = refl; hand = (Some l, st.hand, refl); few = omega arith; fewer = omega arith };
      })
  tells (Trying l) t Stands p e k st = absurd k
  tells (InForce l) t Laid p e k st = absurd k
  tells (InForce l) t Moved p e k st = absurd k
  tells (InForce l) t Proved p e k st = absurd k
  tells (InForce l) t Stands p e k st =
      let two = subst (λ m. TwoSpeeds m (held_by past)) (sym k.0) st.sound.0 in
      let ok = subst (λ m. TestPasses (any m) (points tariff (held_by past))) (sym k.0) st.sound.1 in
      let g = st.few in
      let g2 = st.fewer in
      subst (Goes tariff cap past Pivot (Told Stands p)) (sym k.1) (record {
        says = (two_not_one p.line (held_by past) two, e, record { before = st.pass ∙ ap Some (sym k.0); now = refl });
        stood = record { sound = (two, ok); pass = refl; last = refl; hand = (Some l, st.hand, refl); few = omega arith; fewer = omega arith };
      })

  pivots : (r : Reply) (s t : Stage) → Pivots tariff (held_by past) s r t → Stood tariff past s → Goes tariff cap past Pivot r t
  pivots Done s t k st = absurd k
  pivots (Told w p) s t k st = tells s t w p k.0 k.1 st
  pivots (Mounted c) s t k st = absurd k
  pivots (Slipped n) s t k st = absurd k
  pivots (Issued l) s t k st = absurd k
  pivots (Refused e) s t k st = still Pivot (Refused e) s t (k.1 ∙ sym k.0) refl refl refl st.last refl st (k.2, k.3, st.pass ∙ ap in_force k.0, refl)

  -- ---- mount, slip, issue
  mounts : (a b : ℤ) (r : Reply) (s t : Stage) → Turned (Mount a b) r (view tariff cap (held_by past) s) (held_by past) t → Stood tariff past s → Goes tariff cap past (Mount a b) r t
  mounts a b Done s t k st = absurd k.0
  mounts a b (Told w p) s t k st = absurd k.0
  mounts a b (Mounted c) s t k st = still (Mount a b) (Mounted c) s t k.1.1 refl refl refl st.last refl st (k.0, refl)
  mounts a b (Slipped n) s t k st = absurd k.0
  mounts a b (Issued l) s t k st = absurd k.0
  mounts a b (Refused e) s t k st = still (Mount a b) (Refused e) s t k.1.1 refl refl refl st.last refl st (k.0, refl)

  slips : (rows : ℕ) (r : Reply) (s t : Stage) → Turned (Slip rows) r (view tariff cap (held_by past) s) (held_by past) t → Stood tariff past s → Goes tariff cap past (Slip rows) r t
  slips rows Done s t k st = absurd k.0
  slips rows (Told w p) s t k st = absurd k.0
  slips rows (Mounted c) s t k st = absurd k.0
  slips rows (Slipped n) s t k st = still (Slip rows) (Slipped n) s t k.1.1 refl refl refl st.last refl st (subst (λ o. SlipReplies (held_by past) o rows (Slipped n)) (sym st.pass) k.0, refl)
  slips rows (Issued l) s t k st = absurd k.0
  slips rows (Refused e) s t k st = still (Slip rows) (Refused e) s t k.1.1 refl refl refl st.last refl st (subst (λ o. SlipReplies (held_by past) o rows (Refused e)) (sym st.pass) k.0, refl)

  -- the line on a pass is the stage's
  passed : (s : Stage) (l : Line) → in_force s ≡ Some l → Last s (Some l)
  passed Bare l e = tt
  passed (Trying m) l e = clash e
  passed (InForce m) l e = sym e

  issues : (r : Reply) (s t : Stage) → Turned Issue r (view tariff cap (held_by past) s) (held_by past) t → Stood tariff past s → Goes tariff cap past Issue r t
  issues Done s t k st = absurd k.0
  issues (Told w p) s t k st = absurd k.0
  issues (Mounted c) s t k st = absurd k.0
  issues (Slipped n) s t k st = absurd k.0
  issues (Issued l) s t k st = still Issue (Issued l) s t k.1.1 refl refl refl (passed s l k.0) refl st (st.pass ∙ k.0, refl)
  issues (Refused e) s t k st = still Issue (Refused e) s t k.1.1 refl refl refl st.last refl st ((st.pass ∙ k.0.0, k.0.1), refl)

  goes : (c : Call) (r : Reply) (s t : Stage) → Turned c r (view tariff cap (held_by past) s) (changed c r (held_by past)) t → Stood tariff past s → Goes tariff cap past c r t
  goes (Add entry) r s t k st = adds entry r s t k st
  goes (Strike p) r s t k st = strikes p r s t k st
  goes Pivot r s t k st = pivots r s t k.1 st
  goes (Mount a b) r s t k st = mounts a b r s t k st
  goes (Slip rows) r s t k st = slips rows r s t k st
  goes Issue r s t k st = issues r s t k st

-- ---- the shots held after a call
module _ (v : View) where
  add_holds : (entry : Entry) (r : Reply) (xs : List Shot) (t : Stage) → Turned (Add entry) r v xs t → xs ≡ changed (Add entry) r v.held
  add_holds entry Done xs t k = k.1.0.2 ∙ ap (λ z. v.held ++ z ∷ []) (reads_is k.1.0.0 entry k.1.0.1)
  add_holds entry (Told x p) xs t k = absurd k.0
  add_holds entry (Mounted c) xs t k = absurd k.0
  add_holds entry (Slipped n) xs t k = absurd k.0
  add_holds entry (Issued l) xs t k = absurd k.0
  add_holds entry (Refused e) xs t k = k.1.0

  strike_holds : (p : ℤ) (r : Reply) (xs : List Shot) (t : Stage) → Turned (Strike p) r v xs t → xs ≡ changed (Strike p) r v.held
  strike_holds p Done xs t k = k.1.0
  strike_holds p (Told x q) xs t k = absurd k.0
  strike_holds p (Mounted c) xs t k = absurd k.0
  strike_holds p (Slipped n) xs t k = absurd k.0
  strike_holds p (Issued l) xs t k = absurd k.0
  strike_holds p (Refused e) xs t k = k.1.0

  holds : (c : Call) (r : Reply) (xs : List Shot) (t : Stage) → Turned c r v xs t → xs ≡ changed c r v.held
  holds (Add entry) r xs t k = add_holds entry r xs t k
  holds (Strike p) r xs t k = strike_holds p r xs t k
  holds Pivot r xs t k = k.0
  holds (Mount a b) r xs t k = k.1.0
  holds (Slip rows) r xs t k = k.1.0
  holds Issue r xs t k = k.1.0

-- ---- every call carries a life on
stood_of : (past : List Moment) (v : View) → Tied past v → Stood v.tariff past v.stage
stood_of past v t = record {
  sound = subst (λ xs. Sound v.tariff xs v.stage) t.held t.sound;
  pass = t.pass;
  last = t.last;
  hand = t.hand;
  fewer = subst (λ xs. (count_by moving past + left_moves v.tariff xs v.stage) ≤ (length xs - 1)) t.held t.fewer;
  few = subst (λ xs. (count_by settling past + left v.tariff xs v.stage) ≤ suc (pairs (length xs))) t.held t.few;
}

promised : (tariff : ℤ → ℕ × ℕ) (cap : ℕ) (past : List Moment) (c : Call) (r : Reply) (t : Stage) → Goes tariff cap past c r t → Promised tariff cap past (moment c r t)
promised tariff cap past c r t g =
    let f = g.stood.few in
    let f2 = g.stood.fewer in
    record { cheapest = sure tariff (changed c r (held_by past)) t g.stood.sound; says = g.says; few = omega arith; fewer = omega arith }

pub carries : (past : List Moment) (c : Call) (r : Reply) (v w : View) → Turn c r v w → Life past v → Life (at c r w ∷ past) w
carries past c r v w turn life =
    let tied = life.tied in
    let at_held : Turned c r (view v.tariff v.capacity (held_by past) v.stage) w.held w.stage = subst (λ xs. Turned c r (view v.tariff v.capacity xs v.stage) w.held w.stage) tied.held turn.turned in
    let went : w.held ≡ changed c r (held_by past) = holds (view v.tariff v.capacity (held_by past) v.stage) c r w.held w.stage at_held in
    let at_both : Turned c r (view v.tariff v.capacity (held_by past) v.stage) (changed c r (held_by past)) w.stage = subst (λ xs. Turned c r (view v.tariff v.capacity (held_by past) v.stage) xs w.stage) went at_held in
    let g = goes v.tariff v.capacity past c r v.stage w.stage at_both (stood_of past v tied) in
    let st = g.stood in
    record {
      kept = subst₂ (λ (f : ℤ → ℕ × ℕ) (n : ℕ). Promises f n (at c r w ∷ past)) (sym turn.prices) (sym turn.room) (promised v.tariff v.capacity past c r w.stage g, life.kept);
      tied = record {
        held = went;
        sound = subst₂ (λ (f : ℤ → ℕ × ℕ) (xs : List Shot). Sound f xs w.stage) (sym turn.prices) (sym went) st.sound;
        pass = refl;
        last = st.last;
        hand = st.hand;
        few = subst₂ (λ (f : ℤ → ℕ × ℕ) (xs : List Shot). (count_by settling (at c r w ∷ past) + left f xs w.stage) ≤ suc (pairs (length xs))) (sym turn.prices) (sym went) st.few;
        fewer = subst₂ (λ (f : ℤ → ℕ × ℕ) (xs : List Shot). (count_by moving (at c r w ∷ past) + left_moves f xs w.stage) ≤ (length xs - 1)) (sym turn.prices) (sym went) st.fewer;
      };
    }

-- a bare sheet with no shot begins a life
pub begins : (v : View) → v.held ≡ [] → v.stage ≡ Bare → Life [] v
begins v none bare = record {
  kept = tt;
  tied = record {
    held = none;
    sound = subst (Sound v.tariff v.held) (sym bare) tt;
    pass = sym (ap in_force bare);
    last = subst (λ s. Last s None) (sym bare) tt;
    hand = ap hand_of bare;
    few = subst (λ s. (0 + left v.tariff v.held s) ≤ suc (pairs (length v.held))) (sym bare) (omega arith);
    fewer = subst (λ s. (0 + left_moves v.tariff v.held s) ≤ (length v.held - 1)) (sym bare) (omega arith);
  };
}

pub turns_carry_lives : TurnsCarryLives
turns_carry_lives = record { begins = begins; carries = carries }

pub called : {c : Call} {r : Reply} {v w : View} → Turn c r v w → Called c r v w
called {c} {r} {v} {w} t = record { turn = t; life = λ past h. carries past c r v w t h }
