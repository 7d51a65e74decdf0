use Rattle.std.proofs.Common.{refl, [], arith}
use Rattle.laws_client.proofs.retries.Attempts.{grew_as_allowed, had_memory}
use Rattle.example_bakery_client.proofs.client.invoke.Goals as goal

pub returns-clause-paid : goal.returns-clause-paid
returns-clause-paid g c = λ had.
    let handed = c.invoke.ensures.related had in
    (handed.0, handed.1, c.further_attempts_are_paid.ensures _ _ handed.0 (handed.2 c.args.client.now [] refl))

pub returns-clause-bucket : goal.returns-clause-bucket
returns-clause-bucket g c = λ had.
    let handed = c.invoke.ensures.related had in
    (handed.0, handed.1, c.decisions_tell_the_bucket.ensures _ _ handed.0 (handed.2 c.args.client.now [] refl))

pub returns-clause-attempts : goal.returns-clause-attempts
returns-clause-attempts g c = λ whole.
    let handed = c.invoke.ensures.related (had_memory _ whole) in
    let paid = c.further_attempts_are_paid.ensures _ _ handed.0 (handed.2 c.args.client.now [] refl) in
    grew_as_allowed _ _ _ c.args.fuel (omega arith) c.settings_bound_attempts.ensures (handed.0, handed.1, paid) g.In.Wire.accepts g.In.Wire.reads_as _ _ _ _ c.args.input _ whole c.invoke.ensures.answered
