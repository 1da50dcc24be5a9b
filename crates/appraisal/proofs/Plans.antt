-- The calls of a plan one by one, and how many there are.
use Rattle.std.proofs.Common.{◌≡◌, ℕ, suc, ◌+◌, ◌<◌, ◌≤◌, List, [], ◌∷◌, ◌++◌, map, length, take, drop, set, replicate, Some, sym, ap, ◌∙◌, append_assoc, append-nil, arith}
use Rattle.std.proofs.lemmas.List.{length-append, length-map, length-replicate, take_more_set, drop-set-lt, drop-drop}
use Rattle.shots.specs.Shots.{Reads}
use Rattle.shots.specs.declared.shot.Shot.{Shot}
use Rattle.shots.specs.declared.entry.Entry.{Entry}
use Rattle.law.specs.declared.kinds.Call.{Call}
use Rattle.law.specs.declared.kinds.Call.TheVariants.{Add, Pivot}
use Rattle.appraisal.specs.Planning.{add_of, plan_of, Planned}

pub length_plan : (xs : List Shot) → length (plan_of xs) ≡ suc (length xs + length xs)
length_plan xs =
    let a = length-append (map add_of xs) (replicate (suc (length xs)) Pivot) in
    let b = length-map xs add_of in
    let c = length-replicate (suc (length xs)) Pivot in
    omega arith

-- the add of an entry that reads a shot is the shot's
pub add_is : (z : Shot) (entry : Entry) → Reads z entry → Add entry ≡ add_of z
add_is z entry r = λ j. Add (record { speed = sym r.speed j; lead = sym r.lead j; weight = sym r.weight j; stuff = sym r.stuff j })

-- call i is written: the add of the next shot
pub one_more : (xs rest : List Shot) (cs : List Call) (i : ℕ) (z : Shot) (c : Call) → i < length cs → c ≡ add_of z → take i cs ++ map add_of (z ∷ rest) ≡ map add_of xs → take (i + 1) (set cs i c) ++ map add_of rest ≡ map add_of xs
one_more xs rest cs i z c h e adds = rw (take_more_set cs i c h, e, append_assoc (take i cs) (add_of z ∷ []) (map add_of rest)) adds

pub as_before : (before cs : List Call) (i : ℕ) (c : Call) → drop i cs ≡ drop i before → drop (i + 1) (set cs i c) ≡ drop (i + 1) before
as_before before cs i c e = drop-set-lt (i + 1) cs i c (omega arith) ∙ sym (drop-drop 1 i cs) ∙ ap (drop 1) e ∙ drop-drop 1 i before

-- all shots are added, and k pivots follow
pub planned : (xs : List Shot) (before cs pivots : List Call) (n k m : ℕ) → n ≡ length xs → k ≡ suc n → n + k ≡ m → m ≤ length before → take n cs ++ [] ≡ map add_of xs → drop n cs ≡ drop n before → pivots ≡ replicate k Pivot → Planned xs before (Some m) (take n cs ++ (pivots ++ drop k (drop n cs)))
planned xs before cs pivots n k m en ek em room adds beyond p =
    let size = length_plan xs in
    let front : take n cs ≡ map add_of xs = sym (append-nil (take n cs)) ∙ adds in
    let last : drop k (drop n cs) ≡ drop m before = ap (drop k) beyond ∙ drop-drop k n before ∙ ap (λ (i : ℕ). drop i before) em in
    let many : pivots ≡ replicate (suc (length xs)) Pivot = p ∙ ap (λ (i : ℕ). replicate i Pivot) (ek ∙ ap suc en) in
    (omega arith, room, rw (front, last, many) (sym (append_assoc (map add_of xs) (replicate (suc (length xs)) Pivot) (drop m before))))
