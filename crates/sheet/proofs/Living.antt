-- A whole life that is written down in the front of a row: its transcript, what is beyond it, and what the rack holds at last.
use Rattle.std.proofs.Common.{◌≡◌, ℕ, List, [], ◌++◌, map, reverse, length, take, drop, ℤ, sym, ap, ◌∙◌, subst, append-nil}
use Rattle.std.proofs.lemmas.List.{length-map, take_at, drop_at}
use Rattle.shots.specs.declared.shot.Shot.{Shot}
use Rattle.law.specs.declared.kinds.Call.{Call}
use Rattle.law.specs.declared.kinds.Moment.{Moment}
use Rattle.law.specs.Lives.{held_by, Transcript}
use Rattle.law.specs.Ties.{Life}
use Rattle.law.specs.Views.{View}
use Rattle.law.proofs.Writes.{kept, each}
use Rattle.sheet.specs.Living.{Made}

pub made : (tariff : ℤ → ℕ × ℕ) (cap : ℕ) (calls : List Call) (before row : List Moment) (v : View) (held : List Shot) → map (λ m. m.call) row ≡ calls → Life (reverse row ++ []) v → v.tariff ≡ tariff → v.capacity ≡ cap → held ≡ v.held → Made tariff cap calls before (row ++ drop (length calls) before) held
made tariff cap calls before row v held called life et ec eh =
    let f : Moment → Call = λ m. m.call in
    let long : length row ≡ length calls = sym (length-map row f) ∙ ap length called in
    let front : take (length calls) (row ++ drop (length calls) before) ≡ row = take_at row (drop (length calls) before) (length calls) long in
    let told : Transcript tariff cap calls row = record { called = called; each = each tariff cap row (kept row v tariff cap life et ec) } in
    let last : v.held ≡ held_by (reverse row) = life.tied.held ∙ ap held_by (append-nil (reverse row)) in
    record {
      transcript = subst (Transcript tariff cap calls) (sym front) told;
      beyond = drop_at row (drop (length calls) before) (length calls) long;
      holds = eh ∙ last ∙ ap (λ (ms : List Moment). held_by (reverse ms)) (sym front);
    }
