-- A life that is written down, moment by moment: what is promised of it whole is promised at each of its moments.
use Rattle.std.proofs.Common.{◌≡◌, ℕ, ◌+◌, ◌<◌, ◌≤◌, List, [], ◌∷◌, ◌++◌, map, reverse, length, get_or, take, set, ℤ, sym, refl, ap, ◌∙◌, subst, subst₂, append_assoc, append-nil, take_all}
use mathlib.Core.List.{reverse-append, map-append, reverse-cons}
use Rattle.std.proofs.lemmas.List.{take_more, take_more_set}
use Rattle.law.specs.declared.kinds.Call.{Call}
use Rattle.law.specs.declared.kinds.Moment.{Moment}
use Rattle.law.specs.Views.{View}
use Rattle.law.specs.Lives.{Promised, Promises, EachKept}
use Rattle.law.specs.Ties.{Life}

-- moment i of a row is written over
pub set_called : (row : List Moment) (m : Moment) (calls : List Call) (i : ℕ) (d : Call) → i < length row → i < length calls → map (λ k. k.call) (take i row) ≡ take i calls → m.call ≡ get_or calls i d → map (λ k. k.call) (take (i + 1) (set row i m)) ≡ take (i + 1) calls
set_called row m calls i d h k before same =
    let f : Moment → Call = λ x. x.call in
    ap (map f) (take_more_set row i m h) ∙ map-append f (take i row) (m ∷ []) ∙ ap (λ (l : List Call). l ++ (f m ∷ [])) before ∙ ap (λ (c : Call). take i calls ++ (c ∷ [])) same ∙ sym (take_more calls i d k)

pub set_life : (row past : List Moment) (m : Moment) (v : View) (i : ℕ) → i < length row → Life (m ∷ (reverse (take i row) ++ past)) v → Life (reverse (take (i + 1) (set row i m)) ++ past) v
set_life row past m v i h life = subst (λ (l : List Moment). Life (l ++ past) v) (sym (ap reverse (take_more_set row i m h) ∙ reverse-append (take i row) (m ∷ []))) life

-- all moments are written
pub all_called : (row : List Moment) (calls : List Call) (i : ℕ) → length row ≤ i → length calls ≤ i → map (λ k. k.call) (take i row) ≡ take i calls → map (λ k. k.call) row ≡ calls
all_called row calls i h k e = ap (map (λ (m : Moment). m.call)) (sym (take_all i row h)) ∙ e ∙ take_all i calls k

pub all_life : (row past : List Moment) (v : View) (i : ℕ) → length row ≤ i → Life (reverse (take i row) ++ past) v → Life (reverse row ++ past) v
all_life row past v i h life = subst (λ (l : List Moment). Life (reverse l ++ past) v) (take_all i row h) life

-- the promises of a whole life, at the prices and the room that it began with
pub kept : (row : List Moment) (v : View) (tariff : ℤ → ℕ × ℕ) (cap : ℕ) → Life (reverse row ++ []) v → v.tariff ≡ tariff → v.capacity ≡ cap → Promises tariff cap (reverse row)
kept row v tariff cap life p c =
    let at_row : Life (reverse row) v = subst (λ (l : List Moment). Life l v) (append-nil (reverse row)) life in
    subst₂ (λ (q : ℤ → ℕ × ℕ) (n : ℕ). Promises q n (reverse row)) p c at_row.kept

module _ (tariff : ℤ → ℕ × ℕ) (cap : ℕ) where
  older : (new old : List Moment) → Promises tariff cap (new ++ old) → Promises tariff cap old
  older [] old h = h
  older (m ∷ new) old h = older new old h.1

  pub each : (row : List Moment) → Promises tariff cap (reverse row) → (before after : List Moment) (m : Moment) → row ≡ before ++ (m ∷ after) → Promised tariff cap (reverse before) m
  each row h before after m e =
      let turned : reverse row ≡ reverse after ++ (m ∷ reverse before) = ap reverse e ∙ reverse-append before (m ∷ after) ∙ ap (λ (l : List Moment). l ++ reverse before) (reverse-cons m after) ∙ append_assoc (reverse after) (m ∷ []) (reverse before) in
      (older (reverse after) (m ∷ reverse before) (subst (λ (l : List Moment). Promises tariff cap l) turned h)).0

pub each_kept : EachKept
each_kept tariff cap row h = record { called = refl; each = each tariff cap row h }
