-- An upload that was read before the request was sent never stalls.
use Rattle.std.proofs.Common.{◌≡◌, ℕ, Bool, true, List, [], ◌∷◌, ◌++◌, Option, None, Some, Result, Ok, Err, refl, sym, ap, subst, ◌∙◌}
use Rattle.smithy_context.specs.StandingLayers.{StandingLayers}
use Rattle.smithy_types.specs.declared.fault.Fault.{Fault}
use Rattle.smithy_types.specs.declared.http.HttpRequest.{HttpRequest}
use Rattle.smithy_types.specs.declared.kinds.ConnectorKind.{ConnectorKind}
use Rattle.smithy_types.specs.declared.memory.OutOfMemory.{OutOfMemory}
use Rattle.smithy_types.specs.declared.timers.TimersCall.{TimersCall}
use Rattle.outside.specs.Calls.{OutsideCall, Poll}
use Rattle.outside.specs.declared.answers.Sent.{Sent}
use Rattle.outside.specs.declared.answers.Sent.TheVariants as sents
use Rattle.stream_guard.specs.Report.{Came, Looked, report_of}
use Rattle.stream_guard.specs.declared.options.MinimumThroughputBodyOptions.{MinimumThroughputBodyOptions}
use Rattle.stream_guard.specs.declared.report.ThroughputReport.{ThroughputReport}
use Rattle.stream_guard.specs.declared.report.ThroughputReport.TheVariants.{Complete}
use Rattle.stream_guard.specs.declared.throughput.Throughput.{Throughput}
use Rattle.body_guard.specs.Grace.{Grants}
use Rattle.body_guard.specs.Rates.{upload_rate, violation}
use Rattle.body_guard.specs.Upload.{Checks, upload_answer}
use Rattle.body_guard.specs.declared.grace.Grace.{Grace}
use Rattle.body_guard.specs.declared.grace.GraceAnswer.{GraceAnswer}
use Rattle.body_guard.specs.declared.grace.GraceAnswer.TheVariants.{InTime}
use Rattle.run_grammar.specs.declared.answer.Answer.{Answer}
use Rattle.run_grammar.specs.declared.answer.Answer.TheVariants as answers
use Rattle.client_call.specs.declared.call.Call.{Call}
use Rattle.client_call.specs.declared.call.Call.TheVariants.{Idle, Sending, Arrived, Reading, Left}
use Rattle.client_call.specs.declared.upload.Upload.{Upload}
use Rattle.client_call.specs.Causes.{IsRead, IsUploaded, SendsWell, UploadsNeverStall, WasMade}
use Rattle.client_call.specs.Transmitting.{Begins, BeginsAnew, Pends, SentAs, StallsAs, Transmits, WatchesMaybe}
use Rattle.client_call.specs.Uploading.{Looks, Watches, body_bytes, came_of}

-- the beginning

watched_is_read : (options : Option MinimumThroughputBodyOptions) (request : HttpRequest) (upload : Option Upload) (calls : List OutsideCall) → WatchesMaybe options request upload calls → IsRead upload
watched_is_read None request upload calls h = subst IsRead (sym h.0) tt
watched_is_read (Some options) request None calls h = absurd h
watched_is_read (Some options) request (Some upload) calls h = (h.complete, (came_of (body_bytes request.body) h.now, h.kept))

begins_read : (settings : StandingLayers) (request : HttpRequest) (old : Call) (upload : Option Upload) (calls : List OutsideCall) → Begins settings request old upload calls → IsUploaded old → IsRead upload
begins_read settings request (Sending watched) upload calls h u = subst IsRead (sym h.0) u
begins_read settings request Idle upload calls h u = watched_is_read _ request upload h.watching h.watches
begins_read settings request Arrived upload calls h u = watched_is_read _ request upload h.watching h.watches
begins_read settings request (Reading r) upload calls h u = watched_is_read _ request upload h.watching h.watches
begins_read settings request Left upload calls h u = watched_is_read _ request upload h.watching h.watches

-- a look

complete_report : (start resolution now : ℕ) (complete : Bool) (came : List Came) → complete ≡ true → report_of start resolution complete came now ≡ Complete
complete_report start resolution now complete came e = rw e refl

said_in_time : (fault : Option Fault) (said : Result GraceAnswer OutOfMemory) → Ok fault ≡ upload_answer said → said ≡ Ok InTime → fault ≡ None
said_in_time fault said e s = let x : Ok fault ≡ Ok None = e ∙ ap upload_answer s in cc

grants_in_time : (sleeps : Bool) (minimum : Throughput) (report : ThroughputReport) (old new : Grace) (said : Result GraceAnswer OutOfMemory) (calls : List TimersCall) → report ≡ Complete →
    Grants sleeps (violation minimum (upload_rate report)) old said new calls → said ≡ Ok InTime
grants_in_time sleeps minimum report old new said calls e h = let g = subst (λ r. Grants sleeps (violation minimum (upload_rate r)) old said new calls) e h in g.0

record LookedWell (fault : Option Fault) (looked : Upload) : Type 0 where
  in_time : fault ≡ None
  still : IsRead (Some looked)

looks_well : (sleeps : Bool) (upload : Upload) (fault : Option Fault) (looked : Upload) (calls : List OutsideCall) → Looks sleeps upload fault looked calls → IsRead (Some upload) → LookedWell fault looked
looks_well sleeps upload fault looked calls h u =
    let k = h.checks in
    let report = k.reported u.1.0 u.1.1 ∙ complete_report upload.log.start upload.log.resolution k.now upload.log.complete u.1.0 u.0 in
    record {
      in_time = said_in_time fault k.said k.answered (grants_in_time sleeps upload.check.grace.options.minimum_throughput k.report upload.check.grace looked.check.grace k.said k.granting report k.grants);
      still = (k.settings.complete ∙ u.0, (u.1.0 ++ Looked k.now ∷ [], k.kept u.1.0 u.1.1));
    }

-- an ask

-- the poll failed so
abbrev FailsOnly : Sent → Answer → Type 0
FailsOnly sent a = (kind : ConnectorKind) (text : List ℕ) → a ≡ answers.ConnectorFailed kind text → sent ≡ sents.Failed kind text

record SentWell (sent : Sent) (a : Answer) (new : Call) : Type 0 where
  fails : FailsOnly sent a
  uploaded : IsUploaded new

stalls_well : (sent : Sent) (fault : Option Fault) (looked : Upload) (a : Answer) (new : Call) → StallsAs fault looked a new → fault ≡ None → IsRead (Some looked) → SentWell sent a new
stalls_well sent None looked a new h n u = record {
  fails = λ kind text e. let x = h.0 in absurd cc;
  uploaded = subst IsUploaded (sym h.1) u;
}
stalls_well sent (Some fault) looked a new h n u = absurd cc

pends_well : (sleeps : Bool) (sent : Sent) (upload : Option Upload) (a : Answer) (new : Call) (looking : List OutsideCall) → Pends sleeps upload a new looking → IsRead upload → SentWell sent a new
pends_well sleeps sent None a new looking h u = record {
  fails = λ kind text e. let x = h.0 in absurd cc;
  uploaded = subst IsUploaded (sym h.1) tt;
}
pends_well sleeps sent (Some upload) a new looking h u =
    let l = looks_well sleeps upload h.fault h.looked looking h.looks u in stalls_well sent h.fault h.looked a new h.stalls l.in_time l.still

sent_well : (sleeps : Bool) (upload : Option Upload) (sent : Sent) (a : Answer) (new : Call) (looking : List OutsideCall) → SentAs sleeps upload sent a new looking → IsRead upload → SentWell sent a new
sent_well sleeps upload sents.Pending a new looking h u = pends_well sleeps sents.Pending upload a new looking h u
sent_well sleeps upload (sents.Response response) a new looking h u = record {
  fails = λ kind text e. let x = h.0 in absurd cc;
  uploaded = subst IsUploaded (sym h.1) tt;
}
sent_well sleeps upload (sents.Failed k t) a new looking h u = record {
  fails = λ kind text e. let x = h.0 in cc;
  uploaded = subst IsUploaded (sym h.1) tt;
}

pub uploads_never_stall : UploadsNeverStall
uploads_never_stall sleeps settings None old a new calls h u = record {
  failed = λ kind text e. let x = h.0 in absurd cc;
  uploaded = subst IsUploaded (sym h.1) u;
}
uploads_never_stall sleeps settings (Some request) old a new calls h u =
    let w = sent_well sleeps h.upload h.sent a new h.looking h.sent_as (begins_read settings request old h.upload h.beginning h.begins u) in
    record {
      failed = λ kind text e. (h.beginning, h.looking, h.calls_are ∙ ap (λ s. h.beginning ++ Poll (Ok s) ∷ h.looking) (w.fails kind text e));
      uploaded = w.uploaded;
    }
