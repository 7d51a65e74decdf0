-- Answers of an inner body, one after another, with what became of them.
use Rattle.std.specs.Prelude.{Ok}
use Rattle.body_guard.specs.Length.{Enforces}
use Rattle.body_guard.specs.declared.content_length.ContentLengthEnforcingBody.{ContentLengthEnforcingBody}
use Rattle.smithy_types.specs.declared.polled.Polled.{Polled}

-- an answer of the inner body, and what is answered for it
pub record JudgedStep : Type 0 where
  pub inner : Polled
  pub answer : Polled

-- one answer of the inner body goes through the guard
abbrev pub EnforcesStep : {B : Type 0} → ContentLengthEnforcingBody B → JudgedStep → ContentLengthEnforcingBody B →
    Type 0
EnforcesStep old step new = Enforces old step.inner (Ok step.answer) new
