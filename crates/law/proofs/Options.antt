-- Two words on an option: nothing is not something, and what an option holds is one thing.
use Rattle.std.proofs.Common.{◌≡◌, ℕ, Some, None, Option, sym, ◌∙◌, arith}

pub clash : {A T : Type 0} {x : T} → ◌≡◌ {A = Option T} None (Some x) → A
clash {A} {T} {x} e = let z : ◌≡◌ {A = ℕ} 0 1 = cc in let b : ⊥ = omega arith in absurd b

pub unsome : {T : Type 0} {x y : T} → ◌≡◌ {A = Option T} (Some x) (Some y) → x ≡ y
unsome {T} {x} {y} e = cc

pub two : {T : Type 0} {o : Option T} {x y : T} → o ≡ Some x → o ≡ Some y → x ≡ y
two e f = unsome (sym e ∙ f)

pub either : {A T : Type 0} {o : Option T} {x : T} → o ≡ None → o ≡ Some x → A
either e f = clash (sym e ∙ f)
