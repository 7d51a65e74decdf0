use Rattle.std.proofs.Common.{sym, ◌∙◌}
use Rattle.runcheck.proofs.Following.{taken}
use Rattle.runcheck.proofs.follow.take.Goals as goal

pub returns-clause-yes : goal.returns-clause-yes
returns-clause-yes c = λ y. taken c.args.walk.now c.take.new.self c.args.standing.now c.enter.new.standing c.args.entries.now.items c.push.new.self.items c.args.call.now c.in_ok-entry.entry
    (c.asks.ensures.0 c.if-not-asks.false) (sym c.fits.ensures ∙ c.if-not-fits.false) c.in_ok-entry.ensures.entry c.in_ok-entry.ensures.stands c.in_ok-take.ensures c.in_ok-push.ensures.items
