use Rattle.std.proofs.Common.{Ok, Some, refl}
use Rattle.smithy_types.proofs.ChainLemmas.{chained_join}
use Rattle.body_guard.proofs.grace.Grace.violated.Goals as goal

pub returns-in-Ok-Some : goal.returns-in-Ok-Some
returns-in-Ok-Some g c =
    let opened = rw c.in-Ok-Some.field-0-is at c.in-Ok-Some.ensures in record {
      calls = _;
      these = record { found = Ok (Some c.in-Ok-Some.sleep); opens = opened.opens; asking = c.ask.ensures.calls; asks = c.ask.ensures.these; calls_are = refl };
      made = chained_join g.T.Timers.relates _ _ _ _ _ opened.calls c.ask.ensures.made;
    }
