-- A list is empty exactly where its length is 0.
use Rattle.std.proofs.Common.{◌≡◌, ℕ, ◌<◌, Bool, true, false, eqb, List, [], ◌∷◌, length, Decides, sym, refl, ap, ◌∙◌, subst, arith}
use Rattle.std.proofs.lemmas.Bool.Decides.{nat_tests}

no_length : {T : Type 0} (xs : List T) → length xs ≡ 0 → xs ≡ []
no_length [] h = refl
no_length (x ∷ xs) h = absurd (omega arith)

is_zero : (n : ℕ) → eqb n 0 ≡ true → n ≡ 0
is_zero n h = grind (arith, nat_tests)

pub empty_decided : {T : Type 0} (xs : List T) (n : ℕ) → n ≡ length xs → Decides (eqb n 0) (xs ≡ [])
empty_decided xs n e = (λ t. no_length xs (sym e ∙ is_zero n t), λ none. subst (λ m. eqb m 0 ≡ true) (sym (e ∙ ap length none)) refl)

pub some_held : {T : Type 0} (xs : List T) (b : Bool) → Decides b (xs ≡ []) → b ≡ false → 0 < length xs
some_held [] b h e = let t = h.1 refl in let n : ◌≡◌ {A = ℕ} 0 1 = cc (e, t) in absurd (omega arith)
some_held (x ∷ xs) b h e = omega arith
