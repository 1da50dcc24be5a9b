-- `read_card`: a field that is no number is none of a card's, and three that are make the card.
use Rattle.std.proofs.Common.{w32, SFits, rules}
use Rattle.appraisal.proofs.Writing.{writes_back, card_read}
use Rattle.appraisal.proofs.reading.read_card.Goals as goal

pub returns-in_err-a : goal.returns-in_err-a
returns-in_err-a c = rw c.from_residual.ensures (λ l t. c.in_err-a.ensures l.a t.a_text)

pub returns-in_err-b : goal.returns-in_err-b
returns-in_err-b c = rw c.from_residual-in_err-b.ensures (λ l t. c.in_err-b.ensures l.b t.b_text)

pub returns-in_err-c : goal.returns-in_err-c
returns-in_err-c c = rw c.from_residual-in_err-c.ensures (λ l t. c.in_err-c.ensures l.c t.c_text)

pub returns : goal.returns
returns c =
    let text = c.args.text.now in
    let fa : SFits w32 c.in_ok-a.a = search rules in
    let fb : SFits w32 c.in_ok-b.b = search rules in
    let fc : SFits w32 c.in_ok-c.c = search rules in
    card_read text _ _ _ c.new.result (search rules) (writes_back 6 text 0 _ fa c.in_ok-a.ensures) (writes_back 6 text 1 _ fb c.in_ok-b.ensures) (writes_back 8 text 2 _ fc c.in_ok-c.ensures) c.new.ensures
