-- What the calls of a sheet bring to their turns.
use Rattle.std.proofs.Common.{◌≡◌, ℕ, List, ℤ, pos, Some, None, Option, IsSome, Ok, Err, Result, sym, refl, ap, ◌∙◌, subst, arith, rules}
use Rattle.std.proofs.lemmas.Int.{ints}
use Rattle.shots.specs.declared.shot.Shot.{Shot}
use Rattle.shots.specs.declared.refusal.Refusal.{Refusal}
use Rattle.shots.specs.declared.refusal.Refusal.TheVariants.{OneSpeed as OneSpeedRefusal}
use Rattle.lines.specs.declared.line.Line.{Line}
use Rattle.racks.specs.Racks.{Holds}
use Rattle.fit.specs.Offsets.{OffsetOf}
use Rattle.fit.specs.First.{OneSpeed}
use Rattle.fit.specs.Testing.{First, Tested}
use Rattle.fit.specs.Totals.{total_of}
use Rattle.fit.specs.Turning.{Descends}
use Rattle.law.specs.declared.stage.Stage.{Stage}
use Rattle.law.specs.declared.stage.Stage.TheVariants.{Bare, Trying}
use Rattle.law.specs.declared.kinds.Word.{Word}
use Rattle.law.specs.declared.kinds.Pivoted.{Pivoted}
use Rattle.law.specs.declared.kinds.Call.TheVariants.{Pivot, Mount}
use Rattle.law.specs.declared.kinds.Reply.TheVariants.{Told, Refused}
use Rattle.law.specs.Turns.{ByWord}
use Rattle.law.specs.Replies.{MountReplies}
use Rattle.law.specs.Ties.{Called}
use Rattle.law.specs.Views.{View}
use Rattle.law.proofs.Steps.{called}
use Rattle.sheet.specs.Sheets.{mount_reply, Judged}

-- a place that fails has a turned line
pub is_turned : (tariff : ℤ → ℕ × ℕ) (l : Line) (xs : List Shot) (k : ℕ) (p : ℤ) (r : Option Line) → p ≡ pos k → First tariff l xs k → Descends tariff xs p r → IsSome r
is_turned tariff l xs k p (Some m) e f d = search rules
is_turned tariff l xs k p None e f d =
    let i = f.inside in
    let holds : Holds xs (pos k) = (omega (arith, ints), omega (arith, ints)) in
    let at : Descends tariff xs (pos k) None = subst (λ q. Descends tariff xs q None) e d in
    let m = at f.shot holds f.is l f.fails.0 f.fails.1 in
    let n : ◌≡◌ {A = ℕ} 0 1 = cc m.1 in
    absurd (omega arith)

mount_replies : (tariff : ℤ → ℕ × ℕ) (xs : List Shot) (a b : ℤ) (r : Result ℤ Refusal) → OffsetOf tariff a b xs r → MountReplies tariff xs a b (mount_reply r)
mount_replies tariff xs a b (Ok c) h = h
mount_replies tariff xs a b (Err e) h = h

-- a mount answers the offset
pub mounts : (v : View) (a b : ℤ) (r : Result ℤ Refusal) → OffsetOf v.tariff a b v.held r → Called (Mount a b) (mount_reply r) v v
mounts v a b r h = called (record { room = refl; prices = refl; turned = (mount_replies v.tariff v.held a b r h, (refl, refl)) })

-- the view after a pivot
abbrev pub now_at : View → Stage → View
now_at v t = record { held = v.held; capacity = v.capacity; tariff = v.tariff; stage = t }

-- a pivot that found the stage s answers by a word with a line and its total
pub tells : (v : View) (t : Stage) (s : Stage) (p : Pivoted) (w : Word) (m : Line) → v.stage ≡ s → p.word ≡ w → p.priced.line ≡ m → p.priced.total ≡ total_of v.tariff m v.held → ByWord v.tariff v.held s w m t → Called Pivot (Told p.word p.priced) v (now_at v t)
tells v t s p w m es ew em et by = called (record {
  room = refl;
  prices = refl;
  turned = (
    refl,
    (
      et ∙ ap (λ l. total_of v.tariff l v.held) (sym em),
      subst (λ r. ByWord v.tariff v.held r p.word p.priced.line t) (sym es) (subst (λ x. ByWord v.tariff v.held s x p.priced.line t) (sym ew) (subst (λ l. ByWord v.tariff v.held s w l t) (sym em) by)),
    ),
  );
})

-- what was found of a line that is tried is what the test says of it
pub found : (tariff : ℤ → ℕ × ℕ) (xs : List Shot) (s : Stage) (o : Option ℕ) (l : Line) (p : Option ℕ) → Judged tariff xs s o → s ≡ Trying l → o ≡ p → Tested tariff l xs p
found tariff xs s o l p h es eo = subst (Tested tariff l xs) eo (subst (λ t. Judged tariff xs t o) es h)

-- a bare sheet whose shots have one speed refuses a pivot
pub lacks : (v : View) → v.stage ≡ Bare → OneSpeed v.held → Called Pivot (Refused OneSpeedRefusal) v v
lacks v e one = called (record { room = refl; prices = refl; turned = (refl, (e, e, one, refl)) })
