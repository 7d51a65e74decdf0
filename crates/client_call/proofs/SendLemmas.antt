-- A call that is begun and asked for its response.
use Rattle.std.proofs.Common.{◌≡◌, Bool, List, ◌∷◌, [], ◌++◌, Option, None, Some, Result, Ok, Err, IfOk, refl, subst, ◌∙◌}
use Rattle.smithy_context.specs.StandingLayers.{StandingLayers}
use Rattle.smithy_types.specs.Chain.{Chained, ByCalls}
use Rattle.smithy_types.proofs.ChainLemmas.{chained_join, chained_more}
use Rattle.smithy_types.specs.declared.fault.Fault.{Fault}
use Rattle.smithy_types.specs.declared.http.HttpRequest.{HttpRequest}
use Rattle.smithy_types.specs.declared.memory.OutOfMemory.{OutOfMemory}
use Rattle.outside.specs.Calls.{OutsideCall, Begin, Poll}
use Rattle.outside.specs.declared.answers.Sent.{Sent}
use Rattle.run_grammar.specs.declared.answer.Answer.{Answer}
use Rattle.client_call.specs.declared.call.Call.{Call}
use Rattle.client_call.specs.declared.call.Call.TheVariants.{Idle, Sending, Arrived, Reading, Left}
use Rattle.client_call.specs.declared.upload.Upload.{Upload}
use Rattle.client_call.specs.Ending.{quieting}
use Rattle.client_call.specs.Protection.{standing_stall, upload_marked, upload_options}
use Rattle.client_call.specs.Transmitting.{Begins, BeginsAnew, PendsWatched, Sends, SentAs, StallsAs, WatchesMaybe}
use Rattle.client_call.specs.Uploading.{Looks}
use Rattle.client_call.proofs.ChainLemmas.{sleeps_along}

begins_by_kind : (settings : StandingLayers) (request : HttpRequest) (old : Call) (upload : Option Upload) (calls : List OutsideCall) →
    ((watched : Option Upload) → old ≡ Sending watched → ⊥) → BeginsAnew settings request old upload calls → Begins settings request old upload calls
begins_by_kind settings request Idle upload calls n h = h
begins_by_kind settings request (Sending watched) upload calls n h = absurd (n watched refl)
begins_by_kind settings request Arrived upload calls n h = h
begins_by_kind settings request (Reading reading) upload calls n h = h
begins_by_kind settings request Left upload calls n h = h

module _ {X : Type 0} (makes : X → OutsideCall → X → Type 0) where
  pub begun : (settings : StandingLayers) (request : HttpRequest) (old : Call) (upload : Option Upload) (w x y z : X) →
      Chained makes w (quieting old) x → ByCalls makes x (WatchesMaybe (upload_options (upload_marked settings) (standing_stall settings)) request upload) y →
      makes y (Begin request settings (Ok tt)) z → ByCalls makes w (BeginsAnew settings request old upload) z
  begun settings request old upload w x y z quiets by begins = record {
    calls = quieting old ++ (by.calls ++ Begin request settings (Ok tt) ∷ []);
    these = record { watching = by.calls; watches = by.these; calls_are = refl };
    made = chained_join makes w x z (quieting old) (by.calls ++ Begin request settings (Ok tt) ∷ []) quiets (chained_more makes x y z by.calls (Begin request settings (Ok tt)) by.made begins);
  }

  pub begun_anew : (settings : StandingLayers) (request : HttpRequest) (old : Call) (r : Result (Option Upload) OutOfMemory) (x y : X) →
      ((watched : Option Upload) → old ≡ Sending watched → ⊥) → IfOk r (λ upload. ByCalls makes x (BeginsAnew settings request old upload) y) →
      IfOk r (λ upload. ByCalls makes x (Begins settings request old upload) y)
  begun_anew settings request old (Ok upload) x y n by = record {
    calls = by.calls;
    these = begins_by_kind settings request old upload by.calls n by.these;
    made = by.made;
  }
  begun_anew settings request old (Err e) x y n by = tt

  pub pended : (sleeps : Bool) (upload looked : Upload) (fault : Option Fault) (a : Answer) (new : Call) (x y : X) →
      ByCalls makes x (Looks sleeps upload fault looked) y → StallsAs fault looked a new → ByCalls makes x (PendsWatched sleeps upload a new) y
  pended sleeps upload looked fault a new x y by stalls = record {
    calls = by.calls;
    these = record { fault = fault; looked = looked; looks = by.these; stalls = stalls };
    made = by.made;
  }

  pub sent_on : (sleeps : X → Bool) → ((o : X) (c : OutsideCall) (n : X) → makes o c n → sleeps n ≡ sleeps o) →
      (settings : StandingLayers) (request : HttpRequest) (old new : Call) (upload : Option Upload) (sent : Sent) (r : Result Answer OutOfMemory) (w x y z : X) →
      ByCalls makes w (Begins settings request old upload) x → makes x (Poll (Ok sent)) y → IfOk r (λ a. ByCalls makes y (SentAs (sleeps y) upload sent a new) z) →
      IfOk r (λ a. ByCalls makes w (Sends (sleeps w) settings request old a new) z)
  sent_on sleeps stay settings request old new upload sent (Ok a) w x y z begins polled by = record {
    calls = begins.calls ++ Poll (Ok sent) ∷ by.calls;
    these = record {
      upload = upload;
      beginning = begins.calls;
      begins = begins.these;
      sent = sent;
      looking = by.calls;
      sent_as = subst (λ s. SentAs s upload sent a new by.calls) (stay x (Poll (Ok sent)) y polled ∙ sleeps_along makes sleeps stay w x begins.calls begins.made) by.these;
      calls_are = refl;
    };
    made = chained_join makes w x z begins.calls (Poll (Ok sent) ∷ by.calls) begins.made (y, polled, by.made);
  }
  sent_on sleeps stay settings request old new upload sent (Err e) w x y z begins polled by = tt
