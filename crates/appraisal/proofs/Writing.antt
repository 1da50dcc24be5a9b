-- A field writes at most one number, so a text line writes at most one card.
use Rattle.std.proofs.Common.{◌≡◌, ℕ, List, length, ℤ, Some, None, Option, sym, ap, ◌∙◌, subst, w32, SFits, to_z, of_z}
use Rattle.std.proofs.lemmas.Int.{to_z-of_z}
use Rattle.fields.specs.Numbers.{signed_of}
use Rattle.fields.specs.Fields.{parts}
use Rattle.lines.specs.Lines.{IsLine, Made}
use Rattle.lines.specs.declared.line.Line.{Line}
use Rattle.appraisal.specs.Readings.{Writes, CardText, CardRead}

pub writes_same : (most : ℕ) (text : List ℕ) (k : ℕ) (x y : ℤ) → Writes most text k x → Writes most text k y → x ≡ y
writes_same most text k x y p q =
    let e : p.field ≡ q.field = cc (p.is, q.is) in
    sym p.value ∙ ap signed_of e ∙ q.value

-- a number as it reaches a call
pub writes_back : (most : ℕ) (text : List ℕ) (k : ℕ) (z : ℤ) → SFits w32 z → Writes most text k z → Writes most text k (to_z w32 (of_z w32 z))
writes_back most text k z f w = subst (Writes most text k) (sym (to_z-of_z w32 z f)) w

-- three numbers that make no line are no card's
pub no_card : (text : List ℕ) (a b c : ℤ) → Writes 6 text 0 a → Writes 6 text 1 b → Writes 8 text 2 c → (IsLine a b c → ⊥) → (l : Line) → CardText text l.a l.b l.c → ⊥
no_card text a b c p q r none l t =
    let ea = writes_same 6 text 0 l.a a t.a_text p in
    let eb = writes_same 6 text 1 l.b b t.b_text q in
    let ec = writes_same 8 text 2 l.c c t.c_text r in
    let is : IsLine l.a l.b l.c = record {
      ahead = l.ahead;
      fine = l.fine;
      fall = l.fall;
      rise = l.rise;
      low = l.low;
      high = l.high;
      lowest = l.lowest;
    } in
    none (subst (λ z. IsLine a b z) ec (subst (λ z. IsLine a z l.c) eb (subst (λ z. IsLine z l.b l.c) ea is)))

pub card_read : (text : List ℕ) (a b c : ℤ) (r : Option Line) → length (parts text) ≡ 3 → Writes 6 text 0 a → Writes 6 text 1 b → Writes 8 text 2 c → Made a b c r → CardRead text r
card_read text a b c (Some l) n p q r m = record {
  three = n;
  a_text = subst (Writes 6 text 0) (sym m.1.a) p;
  b_text = subst (Writes 6 text 1) (sym m.1.b) q;
  c_text = subst (Writes 8 text 2) (sym m.1.c) r;
}
card_read text a b c None n p q r m = no_card text a b c p q r m
