-- Why an answer comes.
use Rattle.std.proofs.Common.{◌≡◌, ◌≢◌, ◌↔◌, ℕ, Bool, true, false, List, [], ◌∷◌, ◌++◌, codes, Option, None, Some, Ok, refl, sym, ap, subst, ◌∙◌}
use Rattle.smithy_context.specs.StandingLayers.{StandingLayers}
use Rattle.smithy_types.specs.declared.http.Body.{Body}
use Rattle.smithy_types.specs.declared.http.Body.TheVariants.{Bytes, Once, Taken}
use Rattle.smithy_types.specs.declared.http.HttpRequest.{HttpRequest}
use Rattle.smithy_types.specs.declared.timers.TimersCall.TheVariants.{Ready}
use Rattle.outside.specs.Calls.{OutsideCall, OfTimers, Poll}
use Rattle.outside.specs.declared.answers.Sent.{Sent}
use Rattle.outside.specs.declared.answers.Sent.TheVariants as sents
use Rattle.run_grammar.specs.declared.answer.Answer.{Answer}
use Rattle.run_grammar.specs.declared.answer.Answer.TheVariants as answers
use Rattle.run_grammar.specs.declared.kind.Role.{Role}
use Rattle.client_call.specs.declared.call.Call.{Call}
use Rattle.client_call.specs.declared.sleeping.Sleeps.{Sleeps}
use Rattle.client_call.specs.declared.upload.Upload.{Upload}
use Rattle.client_call.specs.Causes.{AbsentWithoutSleeps, FailsWhereTaken, NeverPending, NothingToEnd, PendingWhileItRuns, PendsWithThePoll, WasMade}
use Rattle.client_call.specs.Ending.{AtRest, ending_calls}
use Rattle.client_call.specs.Loading.{loaded, loaded_body}
use Rattle.client_call.specs.Sleeping.{Starts, Waits, no_sleeps}
use Rattle.client_call.specs.Transmitting.{Pends, SentAs, StallsAs, Transmits}

pub absent_without_sleeps : AbsentWithoutSleeps
absent_without_sleeps has role nanos old answers.Absent new calls h = (λ _. h.0, λ _. refl)
absent_without_sleeps has role nanos old answers.Started new calls h = (λ e. absurd cc, λ e. let x = h.0 in absurd cc)
absent_without_sleeps has role nanos old _ new calls h = absurd h

pub pending_while_it_runs : PendingWhileItRuns
pending_while_it_runs None answers.Ready calls h = (λ e. absurd cc, λ (n, e). absurd cc)
pending_while_it_runs (Some sleep) answers.Ready calls h = (λ e. absurd cc, λ (n, e). absurd cc)
pending_while_it_runs (Some sleep) answers.Pending calls h = (λ e. (sleep, h), λ e. refl)
pending_while_it_runs _ _ calls h = absurd h

body_fails : (b : Body) → (loaded_body b ≡ answers.Failed (codes "body taken")) ↔ (b ≡ Taken)
body_fails (Bytes bytes) = (λ e. absurd cc, λ e. absurd cc)
body_fails (Once bytes) = (λ e. absurd cc, λ e. absurd cc)
body_fails Taken = (λ e. refl, λ e. refl)

pub fails_where_taken : FailsWhereTaken
fails_where_taken request = body_fails request.body

body_never_pending : (b : Body) → loaded_body b ≢ answers.Pending
body_never_pending (Bytes bytes) e = cc
body_never_pending (Once bytes) e = cc
body_never_pending Taken e = cc

pub never_pending : NeverPending
never_pending None e = cc
never_pending (Some request) e = body_never_pending request.body e

sent_pends : (sleeps : Bool) (upload : Option Upload) (sent : Sent) (a : Answer) (new : Call) (looking : List OutsideCall) → SentAs sleeps upload sent a new looking → a ≡ answers.Pending → sent ≡ sents.Pending
sent_pends sleeps upload sents.Pending a new looking h e = refl
sent_pends sleeps upload (sents.Response response) a new looking h e = let x = h.0 in absurd cc
sent_pends sleeps upload (sents.Failed kind text) a new looking h e = let x = h.0 in absurd cc

pub pends_with_the_poll : PendsWithThePoll
pends_with_the_poll sleeps settings None old a new calls h e = let x = h.0 in absurd cc
pends_with_the_poll sleeps settings (Some request) old a new calls h e =
    (h.beginning, h.looking, h.calls_are ∙ ap (λ s. h.beginning ++ Poll (Ok s) ∷ h.looking) (sent_pends sleeps h.upload h.sent a new h.looking h.sent_as e))

pub nothing_to_end : NothingToEnd
nothing_to_end sleeps call h = rw (h.sleeps_are, h.call_is) refl
