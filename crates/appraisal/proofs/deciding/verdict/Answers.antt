-- `verdict`: the test decides for a line with two speeds on it.
use Rattle.std.proofs.Common.{◌≡◌, true}
use Rattle.shots.specs.Prices.{even}
use Rattle.appraisal.proofs.deciding.verdict.Goals as goal

pub returns-in-None : goal.returns-in-None
returns-in-None g c =
    let two : c.has_two_speeds.result ≡ true = c.if-not-has_two_speeds.false in
    (c.has_two_speeds.ensures.shots.0 two, c.in-None.ensures.best ((c.has_two_speeds.ensures.points even).0 two))

pub returns-in-Some : goal.returns-in-Some
returns-in-Some g c =
    let two : c.has_two_speeds.result ≡ true = c.if-not-has_two_speeds.false in
    (c.has_two_speeds.ensures.shots.0 two, rw (← c.cheaper.ensures.0) at c.cheaper.ensures.1)
