-- `text_line`: the input is cut at its first line feed, if it has one.
use Rattle.std.proofs.Common.{refl, sym, inl, inr, rules}
use Rattle.appraisal.proofs.Feeds.{cut_feed, no_feed, no_feed_at_all}
use Rattle.appraisal.proofs.text.text_line.Goals as goal

pub returns-in-Some : goal.returns-in-Some
returns-in-Some c =
    let xs = c.args.input.now in
    let n = c.in-Some.end in
    (no_feed xs n (sym c.in-Some.ensures), inl (cut_feed xs n (sym c.in-Some.ensures)))

pub returns-in-None : goal.returns-in-None
returns-in-None c = (no_feed_at_all c.args.input.now (sym c.in-None.ensures), inr (refl, refl, search rules))
