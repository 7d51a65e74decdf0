-- Whole runs of guards.
use Rattle.std.proofs.Common.{◌≡◌, ℕ, ◌+◌, Bool, true, false, cond, List, [], ◌∷◌, map, Ok, Err, refl, ap, ◌∙◌}
use Rattle.smithy_types.specs.Chain.{Chained}
use Rattle.smithy_types.specs.declared.fault.Fault.{Fault}
use Rattle.smithy_types.specs.declared.memory.OutOfMemory.{OutOfMemory}
use Rattle.smithy_types.specs.declared.timers.TimersCall.{TimersCall}
use Rattle.std.specs.Prelude.{Result}
use Rattle.body_guard.specs.Download.{Judges, passed}
use Rattle.smithy_types.specs.Frames.{data_len}
use Rattle.body_guard.specs.Length.{Enforces, HasReceived, at_length, guarded_from}
use Rattle.body_guard.specs.Runs.{EnforcesStep, JudgedStep}
use Rattle.body_guard.specs.declared.content_length.ContentLengthEnforcingBody.{ContentLengthEnforcingBody}
use Rattle.body_guard.specs.declared.download.MinimumThroughputDownloadBody.{MinimumThroughputDownloadBody}
use Rattle.body_guard.specs.declared.grace.GraceAnswer.{GraceAnswer}
use Rattle.body_guard.specs.declared.grace.GraceAnswer.TheVariants.{InTime, NoSleep, Over}
use Rattle.smithy_types.specs.declared.polled.Polled.{Polled}
use Rattle.smithy_types.specs.declared.polled.Polled.TheVariants.{Pending, Data, Trailers, End, Failed}

-- an end is answered as an end or as a failure
no_end : (b : Bool) (failure : Fault) → Pending ≡ cond b End (Failed failure) → ⊥
no_end true failure e = cc
no_end false failure e = cc

-- what isn't a failure in its place is the inner body's answer
passed_pending : (inner : Polled) (said : Result GraceAnswer OutOfMemory) → Ok Pending ≡ passed inner said → inner ≡ Pending
passed_pending inner (Ok InTime) e = cc
passed_pending inner (Ok NoSleep) e = cc
passed_pending inner (Ok (Over text)) e = cc
passed_pending inner (Err refusal) e = cc

module _ {B : Type 0} where
  pub all_guarded : (body after : ContentLengthEnforcingBody B) (steps : List JudgedStep) (count : ℕ) → HasReceived body count → Chained EnforcesStep body steps after → map (λ s. s.answer) steps ≡ guarded_from body.expected_length count (map (λ s. s.inner) steps)
  all_guarded body after [] count had e = refl
  all_guarded body after (step ∷ steps) count had (mid, made, rest) =
      let behind = all_guarded mid after steps (count + data_len step.inner) (made.received count had) rest in
      ap (λ a. a ∷ map (λ s. s.answer) steps) (made.answered count had)
      ∙ ap (λ rests. at_length body.expected_length count step.inner ∷ rests) (behind ∙ ap (λ n. guarded_from n (count + data_len step.inner) (map (λ s. s.inner) steps)) made.declared)

  pub length_pending : (old new : ContentLengthEnforcingBody B) (inner : Polled) (count : ℕ) → HasReceived old count → Enforces old inner (Ok Pending) new → inner ≡ Pending
  length_pending old new Pending count had made = refl
  length_pending old new (Data bytes) count had made = let e : Pending ≡ Data bytes = made.answered count had in cc
  length_pending old new Trailers count had made = let e : Pending ≡ Trailers = made.answered count had in cc
  length_pending old new (Failed fault) count had made = let e : Pending ≡ Failed fault = made.answered count had in cc
  length_pending old new End count had made = absurd (no_end _ _ (made.answered count had))

  pub judged_pending : (sleeps : Bool) (old new : MinimumThroughputDownloadBody B) (inner : Polled) (calls : List TimersCall) → Judges sleeps old inner (Ok Pending) new calls → inner ≡ Pending
  judged_pending sleeps old new Pending calls judged = refl
  judged_pending sleeps old new (Data bytes) calls judged = passed_pending (Data bytes) judged.said judged.answered
  judged_pending sleeps old new Trailers calls judged = passed_pending Trailers judged.said judged.answered
  judged_pending sleeps old new (Failed fault) calls judged = let e = judged.0 in cc
  judged_pending sleeps old new End calls judged = let e = judged.0 in cc
