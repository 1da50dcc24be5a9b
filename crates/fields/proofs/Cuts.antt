-- What the first tab does to the parts of a line, and how many parts there are.
use Rattle.std.proofs.Common.{◌≡◌, ℕ, suc, ◌+◌, ◌<◌, ◌≤◌, true, false, cond, List, [], ◌∷◌, length, take, drop, Some, None, Option, count_by, position, sym, refl, ap, ◌∙◌, subst, ⊎_elim, arith}
use Rattle.std.proofs.lemmas.List.{drop-drop, take_all}
use Rattle.std.proofs.lemmas.List.Sums.{sum_by-cons}
use Rattle.std.proofs.lemmas.Bool.{cases_Bool, cases_lt, cond_below, cond_above}
use Rattle.std.specs.List.{position_or_len, slice_get}
use Rattle.std.specs.Option.{unwrap_or}
use Rattle.fields.specs.Fields.{is_tab, on_first, parts}

-- the place of the first tab, or the length
abbrev first : List ℕ → ℕ
first bs = position_or_len is_tab bs

-- a line without a tab is its only part
parts_whole : (bs : List ℕ) → length bs ≤ first bs → parts bs ≡ bs ∷ []
parts_whole [] l = refl
parts_whole (b ∷ bs) l =
    ⊎_elim
    (λ (e : is_tab b ≡ true). absurd (omega (arith, rw e at l)))
    (λ (e : is_tab b ≡ false). rw (e, parts_whole bs (omega (arith, rw e at l))))
    (cases_Bool (is_tab b))

-- a first tab ends the first part
parts_at_tab : (bs : List ℕ) → first bs < length bs → parts bs ≡ take (first bs) bs ∷ parts (drop (first bs + 1) bs)
parts_at_tab [] l = absurd (omega arith)
parts_at_tab (b ∷ bs) l =
    ⊎_elim
    (λ (e : is_tab b ≡ true). rw e)
    (λ (e : is_tab b ≡ false).
    let before : 1 + first bs ≡ suc (first bs) = omega arith in
    let past : 1 + first bs + 1 ≡ suc (first bs + 1) = omega arith in
    rw (e, past, before, parts_at_tab bs (omega (arith, rw e at l))))
    (cases_Bool (is_tab b))

-- the first part of a line and those after it, by the place of the first tab
abbrev pub Cut : List ℕ → Option ℕ → Type 0
Cut bs None = parts bs ≡ bs ∷ []
Cut bs (Some n) = (n < length bs) × (parts bs ≡ take n bs ∷ parts (drop (n + 1) bs))

pub cut : (bs : List ℕ) (r : Option ℕ) → r ≡ position is_tab bs → Cut bs r
cut bs r e =
    ⊎_elim
    (λ l. subst (Cut bs) (cond_below (first bs) (length bs) _ _ l ∙ sym e) (l, parts_at_tab bs l))
    (λ l. subst (Cut bs) (cond_above (first bs) (length bs) _ _ _ l refl ∙ sym e) (parts_whole bs l))
    (cases_lt (first bs) (length bs))

-- the first part ends at the first tab, or with the line
pub first_part : (bs : List ℕ) (r : Option ℕ) → Cut bs r → slice_get (parts bs) 0 ≡ Some (take (unwrap_or r (length bs)) bs)
first_part bs None whole = rw (whole, take_all (length bs) bs (omega arith))
first_part bs (Some n) c = rw (c.1)

-- a later part is one of those after the first tab, and there is none without a tab
pub later_part : (xs : List ℕ) (s n i : ℕ) → Cut (drop s xs) (Some n) → slice_get (parts (drop s xs)) (suc i) ≡ slice_get (parts (drop (s + (n + 1)) xs)) i
later_part xs s n i c =
    let past : drop (n + 1) (drop s xs) ≡ drop (s + (n + 1)) xs = drop-drop (n + 1) s xs in
    ap (λ (ps : List (List ℕ)). slice_get ps (suc i)) c.1 ∙ rw past

pub no_later_part : (bs : List ℕ) (i : ℕ) → Cut bs None → slice_get (parts bs) (suc i) ≡ None
no_later_part bs i whole = ap (λ (ps : List (List ℕ)). slice_get ps (suc i)) whole

length_on_first : (b : ℕ) (ps : List (List ℕ)) → 0 < length ps → length (on_first b ps) ≡ length ps
length_on_first b [] h = absurd (omega arith)
length_on_first b (p ∷ ps) h = refl

length_parts : (bs : List ℕ) → length (parts bs) ≡ count_by is_tab bs + 1
length_parts [] = refl
length_parts (b ∷ bs) =
    let more = sum_by-cons (λ (x : ℕ). cond (is_tab x) 1 0) b bs in
    let rest = length_parts bs in
    ⊎_elim
    (λ (e : is_tab b ≡ true). rw (more, e) (omega arith))
    (λ (e : is_tab b ≡ false). rw (more, e, length_on_first b (parts bs) (omega arith)) (omega arith))
    (cases_Bool (is_tab b))

-- one part more than there are tabs
pub count_parts : (bs : List ℕ) (n : ℕ) → n ≡ count_by is_tab bs + 1 → n ≡ length (parts bs)
count_parts bs n e = e ∙ sym (length_parts bs)
