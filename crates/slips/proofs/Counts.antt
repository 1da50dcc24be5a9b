-- How many shots of a list are on a line: as many as the list has rows, at most all of them, and as many as pass a test; and a
-- loop that meets them.
use Rattle.std.proofs.Common.{◌≡◌, ℕ, suc, ◌+◌, ◌<◌, ◌≤◌, Bool, true, false, cond, List, [], ◌∷◌, length, get_or, drop, ℤ, pos, Decides, sym, refl, ap, ◌∙◌, arith}
use lib.Signed.{lt_z}
use Rattle.std.proofs.lemmas.List.{at_drop_more, at_drop_all}
use Rattle.std.proofs.lemmas.Int.{ints}
use Rattle.std.specs.List.{filter}
use Rattle.shots.specs.declared.shot.Shot.{Shot}
use Rattle.lines.specs.Lines.{miss_of, On}
use Rattle.lines.specs.declared.line.Line.{Line}
use Rattle.slips.specs.Rows.{on_line, rows_from, rows_of}

-- ---- the choice by the sign of a miss
pub if_on : {T : Type 0} (e : ℤ) (off on : T) → e ≡ pos 0 → cond (lt_z (pos 0) e) off (cond (lt_z e (pos 0)) off on) ≡ on
if_on e off on h = rw h

pub if_off : {T : Type 0} (e : ℤ) (off on : T) → (e ≡ pos 0 → ⊥) → cond (lt_z (pos 0) e) off (cond (lt_z e (pos 0)) off on) ≡ off
if_off e off on h = grind (arith, ints)

-- the same as a test
abbrev pub on_test : Line → Shot → Bool
on_test l z = cond (lt_z (pos 0) (miss_of l z)) false (cond (lt_z (miss_of l z) (pos 0)) false true)

pub decided : (l : Line) (z : Shot) (b : Bool) → Decides b (On l z) → b ≡ on_test l z
decided l z true d = sym (if_on (miss_of l z) false true (d.0 refl))
decided l z false d = sym (if_off (miss_of l z) false true (λ on. let t = d.1 on in cc))

one_more : {T : Type 0} (b c : Bool) (z : T) (xs : List T) (n : ℕ) → length xs ≡ n → length (cond (cond b false (cond c false true)) (z ∷ xs) xs) ≡ cond b n (cond c n (suc n))
one_more true c z xs n h = h
one_more false true z xs n h = h
one_more false false z xs n h = ap suc h

pub all_that_pass : (l : Line) (xs : List Shot) → length (filter (on_test l) xs) ≡ on_line l xs
all_that_pass l [] = refl
all_that_pass l (z ∷ xs) =
    one_more (lt_z (pos 0) (miss_of l z)) (lt_z (miss_of l z) (pos 0)) z (filter (on_test l) xs) (on_line l xs) (all_that_pass l xs)

-- ---- all shots
pub few : (l : Line) (xs : List Shot) → on_line l xs ≤ length xs
few l [] = omega arith
few l (z ∷ xs) = let h = few l xs in grind (arith, ints)

pub length_from : (tariff : ℤ → ℕ × ℕ) (l : Line) (xs : List Shot) (i : ℕ) (ys : List Shot) → length (rows_from tariff l xs i ys) ≡ on_line l ys
length_from tariff l xs i [] = refl
length_from tariff l xs i (z ∷ ys) = let h = length_from tariff l xs (i + 1) ys in grind (arith, ints)

pub length_rows : (tariff : ℤ → ℕ × ℕ) (l : Line) (xs : List Shot) → length (rows_of tariff l xs) ≡ on_line l xs
length_rows tariff l xs = length_from tariff l xs 0 xs

-- ---- the shots so far: n of the first i are on the line
pub record Counted (l : Line) (xs : List Shot) (i n : ℕ) : Type 0 where
  pub sum : n + on_line l (drop i xs) ≡ on_line l xs

module _ {l : Line} {xs : List Shot} {i n : ℕ} (c : Counted l xs i n) where
  module _ (h : i < length xs) (z : Shot) (at : z ≡ get_or xs i z) where
    next : on_line l (drop i xs) ≡ on_line l (z ∷ drop (i + 1) xs)
    next = at_drop_more (on_line l) xs i z h ∙ ap (λ y. on_line l (y ∷ drop (i + 1) xs)) (sym at)

    pub count_on_lem : On l z → Counted l xs (i + 1) (n + 1)
    count_on_lem on =
        let left = on_line l (drop (i + 1) xs) in
        let e = next in
        let k = if_on (miss_of l z) left (suc left) on in
        record { sum = omega arith }

    pub count_off : (On l z → ⊥) → Counted l xs (i + 1) n
    count_off off =
        let left = on_line l (drop (i + 1) xs) in
        let e = next in
        let k = if_off (miss_of l z) left (suc left) off in
        record { sum = omega arith }

  pub count_all : length xs ≤ i → n ≡ on_line l xs
  count_all h = let e = at_drop_all (on_line l) xs i h in omega arith
