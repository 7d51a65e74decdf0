-- Asks of a call are determined.
use Rattle.std.proofs.Common.{◌≡◌, ◌∙◌, refl, sym, ap, subst, ℕ, ◌+◌, ◌<◌, ◌≤◌, Bool, true, false, arith, inl, inr, List, ◌++◌, ◌∷◌, [], map, Option, None, Some, Ok, append_assoc, length}
use Rattle.std.proofs.lemmas.List.{append-nil}
use Rattle.smithy_types.specs.Frames.{ends}
use Rattle.body_guard.specs.Grace.{give_up_calls}
use Rattle.client_call.specs.Ending.{quieting}
use Rattle.client_call.specs.Frames.{gathered, stop_of}
use Rattle.client_call.specs.Guarding.{Passes, ThroughputGuard, stopping_guard}
use Rattle.client_call.specs.Protection.{standing_stall, upload_marked, upload_options}
use Rattle.client_call.specs.Reading.{Asks, ClosesAs, GoesOn, Opens, ReadsBody, ReadsOn, StopsBehind, calls_of, closing, failed_call}
use Rattle.client_call.specs.Transmitting.{Begins, BeginsAnew, Pends, SentAs, StallsAs, Transmits, WatchesMaybe}
use Rattle.client_call.specs.Uploading.{body_bytes}
use Rattle.client_call.specs.declared.call.Call.{Call}
use Rattle.client_call.specs.declared.call.Call.TheVariants.{Idle, Sending, Arrived, Reading, Left}
use Rattle.client_call.specs.declared.reading.Reading.{Reading as OpenBody}
use Rattle.client_call.specs.declared.reading.Stop.{Stop}
use Rattle.client_call.specs.declared.reading.Stop.TheVariants as stops
use Rattle.client_call.specs.declared.upload.Upload.{Upload}
use Rattle.outside.specs.Calls.{OutsideCall, OfTimers, Begin, Frame, Poll}
use Rattle.outside.specs.declared.answers.Sent.{Sent}
use Rattle.outside.specs.declared.answers.Sent.TheVariants as sents
use Rattle.run_grammar.specs.declared.answer.Answer.{Answer}
use Rattle.run_grammar.specs.declared.answer.Answer.TheVariants as answers
use Rattle.smithy_context.specs.StandingLayers.{StandingLayers}
use Rattle.smithy_types.specs.Chain.{Chained}
use Rattle.smithy_types.specs.declared.fault.Fault.{Fault}
use Rattle.smithy_types.specs.declared.http.HttpRequest.{HttpRequest}
use Rattle.smithy_types.specs.declared.http.HttpResponse.{HttpResponse}
use Rattle.smithy_types.specs.declared.kinds.ConnectorKind.TheVariants.{Timeout}
use Rattle.stream_guard.specs.declared.options.MinimumThroughputBodyOptions.{MinimumThroughputBodyOptions}
use Rattle.laws_determined.specs.Steady.Steady.{IsSteady}
use Rattle.laws_determined.proofs.steady.Calls.{Onward, onward, past, same_calls}
use Rattle.laws_determined.specs.Calls.Alike.{BodiesAlike, MaybeAlike, OpenAlike, ThroughputsAlike, UploadsAlike}
use Rattle.laws_determined.specs.Calls.Asking as asking
use Rattle.laws_determined.proofs.calls.Guarded.{passes_alike, sets_up_alike, upload_looks, watches_alike}

-- ---- what is given up

stopping_by : (one two : Option ThroughputGuard) → MaybeAlike ThroughputsAlike one two → stopping_guard one ≡ stopping_guard two
stopping_by None None alike = refl
stopping_by None (Some two) alike = absurd alike
stopping_by (Some one) None alike = absurd alike
stopping_by (Some one) (Some two) alike = ap (λ g. map OfTimers (give_up_calls g.sleep)) alike.grace

pub quieting_alike : (one two : Call) → OpenAlike one two → quieting one ≡ quieting two
quieting_alike (Reading one) (Reading two) alike = stopping_by one.guards.throughput two.guards.throughput alike.guards.throughput
quieting_alike Idle Idle alike = refl
quieting_alike (Sending one) (Sending two) alike = refl
quieting_alike Arrived Arrived alike = refl
quieting_alike Left Left alike = refl
quieting_alike one two alike = absurd alike

open_by : (one two new other : Call) → new ≡ one → other ≡ two → OpenAlike one two → OpenAlike new other
open_by one two new other p q alike = subst (λ x. OpenAlike x other) (sym p) (subst (λ x. OpenAlike one x) (sym q) alike)

module _ {X : Type 0} (makes : X → OutsideCall → X → Type 0) (steady : IsSteady makes) where
  -- what is the same in front, each list grouped as it is said
  grouped : (all front rest more : List OutsideCall) (old new : X) → all ≡ front ++ rest → Chained makes old (all ++ more) new → Chained makes old (front ++ (rest ++ more)) new
  grouped all front rest more old new is made = subst (λ l. Chained makes old l new) (ap (λ l. l ++ more) is ∙ append_assoc front rest more) made

  -- ---- Transmit

  watching_alike : (options : Option MinimumThroughputBodyOptions) (request : HttpRequest) (one two : Option Upload) (watching watched calls later : List OutsideCall) (from new also : X)
      → WatchesMaybe options request one watching → WatchesMaybe options request two watched → Chained makes from (watching ++ calls) new → Chained makes from (watched ++ later) also
      → MaybeAlike UploadsAlike one two × Onward makes calls later new also
  watching_alike None request one two watching watched calls later from new also s t did again = (
    subst (λ x. MaybeAlike UploadsAlike x two) (sym s.0) (subst (λ x. MaybeAlike UploadsAlike None x) (sym t.0) tt),
    record { state = from; first = subst (λ l. Chained makes from (l ++ calls) new) s.1 did; second = subst (λ l. Chained makes from (l ++ later) also) t.1 again },
  )
  watching_alike (Some options) request None two watching watched calls later from new also s t did again = absurd s
  watching_alike (Some options) request (Some one) None watching watched calls later from new also s t did again = absurd t
  watching_alike (Some options) request (Some one) (Some two) watching watched calls later from new also s t did again =
      watches_alike makes steady options (body_bytes request.body) one two watching watched calls later from new also s t did again

  begins_anew : (settings : StandingLayers) (request : HttpRequest) (old other : Call) (one two : Option Upload) (beginning begun calls later : List OutsideCall) (from new also : X)
      → quieting old ≡ quieting other → BeginsAnew settings request old one beginning → BeginsAnew settings request other two begun
      → Chained makes from (beginning ++ calls) new → Chained makes from (begun ++ later) also → MaybeAlike UploadsAlike one two × Onward makes calls later new also
  begins_anew settings request old other one two beginning begun calls later from new also quiet s t did again =
      let sent = Begin request settings (Ok tt) ∷ [] in
      let quieted = past makes steady (quieting other) ((s.watching ++ sent) ++ calls) ((t.watching ++ sent) ++ later) from new also
      (subst (λ q. Chained makes from (q ++ ((s.watching ++ sent) ++ calls)) new) quiet (grouped beginning (quieting old) (s.watching ++ sent) calls from new s.calls_are did))
      (grouped begun (quieting other) (t.watching ++ sent) later from also t.calls_are again) in
      let watched = watching_alike (upload_options (upload_marked settings) (standing_stall settings)) request one two s.watching t.watching (sent ++ calls) (sent ++ later) quieted.state new also s.watches t.watches
      (grouped (s.watching ++ sent) s.watching sent calls quieted.state new refl quieted.first) (grouped (t.watching ++ sent) t.watching sent later quieted.state also refl quieted.second) in
      (watched.0, past makes steady sent calls later watched.1.state new also watched.1.first watched.1.second)

  begins_alike : (settings : StandingLayers) (request : HttpRequest) (old other : Call) (one two : Option Upload) (beginning begun calls later : List OutsideCall) (from new also : X)
      → OpenAlike old other → Begins settings request old one beginning → Begins settings request other two begun
      → Chained makes from (beginning ++ calls) new → Chained makes from (begun ++ later) also → MaybeAlike UploadsAlike one two × Onward makes calls later new also
  begins_alike settings request (Sending old) (Sending other) one two beginning begun calls later from new also alike s t did again = (
    subst (λ x. MaybeAlike UploadsAlike x two) (sym s.0) (subst (λ x. MaybeAlike UploadsAlike old x) (sym t.0) alike),
    record { state = from; first = subst (λ l. Chained makes from (l ++ calls) new) s.1 did; second = subst (λ l. Chained makes from (l ++ later) also) t.1 again },
  )
  begins_alike settings request Idle Idle one two beginning begun calls later from new also alike s t did again = begins_anew settings request Idle Idle one two beginning begun calls later from new also refl s t did again
  begins_alike settings request Arrived Arrived one two beginning begun calls later from new also alike s t did again = begins_anew settings request Arrived Arrived one two beginning begun calls later from new also refl s t did again
  begins_alike settings request Left Left one two beginning begun calls later from new also alike s t did again = begins_anew settings request Left Left one two beginning begun calls later from new also refl s t did again
  begins_alike settings request (Reading old) (Reading other) one two beginning begun calls later from new also alike s t did again =
      begins_anew settings request (Reading old) (Reading other) one two beginning begun calls later from new also (quieting_alike (Reading old) (Reading other) alike) s t did again
  begins_alike settings request old other one two beginning begun calls later from new also alike s t did again = absurd alike

  stalls_alike : (fault also : Option Fault) (one two : Upload) (a b : Answer) (new more : Call) → fault ≡ also → UploadsAlike one two → StallsAs fault one a new → StallsAs also two b more → (a ≡ b) × OpenAlike new more
  stalls_alike None None one two a b new more same alike s t = (s.0 ∙ sym t.0, open_by (Sending (Some one)) (Sending (Some two)) new more s.1 t.1 alike)
  stalls_alike None (Some also) one two a b new more same alike s t = absurd (cc same)
  stalls_alike (Some fault) None one two a b new more same alike s t = absurd (cc same)
  stalls_alike (Some fault) (Some also) one two a b new more same alike s t =
      (s.0 ∙ (ap (connector_failed fault) same ∙ sym t.0), open_by Left Left new more s.1 t.1 tt)
    where
      connector_failed : Fault → Option Fault → Answer
      connector_failed d None = answers.Absent
      connector_failed d (Some fault) = answers.ConnectorFailed Timeout fault.text

  pends_alike : (sleeps : Bool) (one two : Option Upload) (a b : Answer) (new more : Call) (looking looked : List OutsideCall) (from made also : X) → MaybeAlike UploadsAlike one two
      → Pends sleeps one a new looking → Pends sleeps two b more looked → Chained makes from looking made → Chained makes from looked also → (a ≡ b) × OpenAlike new more × (made ≡ also)
  pends_alike sleeps None None a b new more looking looked from made also alike s t did again = (
    s.0 ∙ sym t.0,
    open_by (Sending None) (Sending None) new more s.1 t.1 tt,
    same_calls makes steady [] from made also (subst (λ l. Chained makes from l made) s.2 did) (subst (λ l. Chained makes from l also) t.2 again),
  )
  pends_alike sleeps None (Some two) a b new more looking looked from made also alike s t did again = absurd alike
  pends_alike sleeps (Some one) None a b new more looking looked from made also alike s t did again = absurd alike
  pends_alike sleeps (Some one) (Some two) a b new more looking looked from made also alike s t did again =
      let met = upload_looks makes steady sleeps one two s.looked t.looked s.fault t.fault looking looked [] [] from made also alike s.looks t.looks
      (subst (λ l. Chained makes from l made) (sym (append-nil looking)) did) (subst (λ l. Chained makes from l also) (sym (append-nil looked)) again) in
      let said = stalls_alike s.fault t.fault s.looked t.looked a b new more met.0 met.1 s.stalls t.stalls in
      (said.0, said.1, met.2.first ∙ sym met.2.second)

  sent_alike : (sleeps : Bool) (one two : Option Upload) (sent : Sent) (a b : Answer) (new more : Call) (looking looked : List OutsideCall) (from made also : X) → MaybeAlike UploadsAlike one two
      → SentAs sleeps one sent a new looking → SentAs sleeps two sent b more looked → Chained makes from looking made → Chained makes from looked also → (a ≡ b) × OpenAlike new more × (made ≡ also)
  sent_alike sleeps one two sents.Pending a b new more looking looked from made also alike s t did again = pends_alike sleeps one two a b new more looking looked from made also alike s t did again
  sent_alike sleeps one two (sents.Response response) a b new more looking looked from made also alike s t did again = (
    s.0 ∙ sym t.0,
    open_by Arrived Arrived new more s.1 t.1 tt,
    same_calls makes steady [] from made also (subst (λ l. Chained makes from l made) s.2 did) (subst (λ l. Chained makes from l also) t.2 again),
  )
  sent_alike sleeps one two (sents.Failed kind text) a b new more looking looked from made also alike s t did again = (
    s.0 ∙ sym t.0,
    open_by Idle Idle new more s.1 t.1 tt,
    same_calls makes steady [] from made also (subst (λ l. Chained makes from l made) s.2 did) (subst (λ l. Chained makes from l also) t.2 again),
  )

  transmit_by : (sleeps : Bool) (settings : StandingLayers) (request : Option HttpRequest) (old other new more : Call) (a b : Answer) (calls later : List OutsideCall) (from made also : X) → OpenAlike old other
      → Transmits sleeps settings request old a new calls → Transmits sleeps settings request other b more later → Chained makes from calls made → Chained makes from later also → (a ≡ b) × OpenAlike new more × (made ≡ also)
  transmit_by sleeps settings None old other new more a b calls later from made also alike s t did again = (
    s.0 ∙ sym t.0,
    open_by old other new more s.1 t.1 alike,
    same_calls makes steady [] from made also (subst (λ l. Chained makes from l made) s.2 did) (subst (λ l. Chained makes from l also) t.2 again),
  )
  transmit_by sleeps settings (Some request) old other new more a b calls later from made also alike s t did again =
      let begun = begins_alike settings request old other s.upload t.upload s.beginning t.beginning (Poll (Ok s.sent) ∷ s.looking) (Poll (Ok t.sent) ∷ t.looking) from made also alike s.begins t.begins
      (subst (λ l. Chained makes from l made) s.calls_are did) (subst (λ l. Chained makes from l also) t.calls_are again) in
      let polled = onward makes steady (λ sent. Poll (Ok sent)) steady.poll s.sent t.sent s.looking t.looking begun.1.state made also begun.1.first begun.1.second in
      sent_alike sleeps s.upload t.upload s.sent a b new more s.looking t.looking polled.1.state made also begun.0 s.sent_as
      (subst (λ x. SentAs sleeps t.upload x b more t.looking) (sym polled.0) t.sent_as) polled.1.first polled.1.second

  pub transmits : asking.TransmitsAreDetermined makes
  transmits sleeps settings request one two after left a b alike s t =
      let met = transmit_by sleeps settings request one.call two.call after.call left.call a b s.calls t.calls two.outside after.outside left.outside alike.call s.these t.these
      (subst (λ x. Chained makes x s.calls after.outside) alike.outside s.made) t.made in
      (met.0, record { outside = met.2; call = met.1 })

  -- ---- Body

  asks_alike : (sleeps : Bool) (old other new more : OpenBody) (one two : Option Stop) (asked again calls later : List OutsideCall) (from made also : X) → BodiesAlike old other
      → Asks sleeps old one new asked → Asks sleeps other two more again → Chained makes from (asked ++ calls) made → Chained makes from (again ++ later) also
      → (one ≡ two) × BodiesAlike new more × Onward makes calls later made also
  asks_alike sleeps old other new more one two asked again calls later from made also alike s t did too =
      let frame = onward makes steady (λ f. Frame (Ok f)) steady.frame s.frame t.frame (s.judging ++ calls) (t.judging ++ later) from made also
      (subst (λ l. Chained makes from (l ++ calls) made) s.calls_are did) (subst (λ l. Chained makes from (l ++ later) also) t.calls_are too) in
      let passed = passes_alike makes steady sleeps old.guards other.guards new.guards more.guards t.frame s.passed t.passed s.judging t.judging calls later frame.1.state made also alike.guards
      (subst (λ f. Passes sleeps old.guards f s.passed new.guards s.judging) frame.0 s.passes) t.passes frame.1.first frame.1.second in (
        s.stop_is ∙ ((λ i. stop_of (alike.bytes i) (ends (frame.0 i)) (passed.0 i)) ∙ sym t.stop_is),
        record { bytes = s.bytes_are ∙ ((λ i. gathered (alike.bytes i) (passed.0 i)) ∙ sym t.bytes_are); guards = passed.1 },
        passed.2,
      )

  some_stop : (stop : Stop) → None ≡ Some stop → ⊥
  some_stop stop is = cc is

  -- a run of frames that stops here, and one that goes on
  can_not : (sleeps : Bool) (count : ℕ) (old other mid more : OpenBody) (frames : List (List OutsideCall)) (stop : Stop) (this last : List OutsideCall) (calls later : List OutsideCall) (from made also : X)
      → BodiesAlike old other → GoesOn sleeps old this mid → count + length frames < 64 → StopsBehind sleeps count other stop more last
      → Chained makes from (this ++ calls) made → Chained makes from (last ++ later) also → ⊥
  can_not sleeps count old other mid more frames stop this last calls later from made also alike s few (inl t) did again =
      some_stop stop ((asks_alike sleeps old other mid more None (Some stop) this last calls later from made also alike s t.1 did again).0)
  can_not sleeps count old other mid more frames stop this last calls later from made also alike s few (inr t) did again = let full = t.0 in omega (arith, few, full)

  stops_few : (sleeps : Bool) (count : ℕ) (old new : OpenBody) (stop : Stop) (last : List OutsideCall) → StopsBehind sleeps count old stop new last → count ≤ 64
  stops_few sleeps count old new stop last (inl s) = let few = s.0 in omega (arith, few)
  stops_few sleeps count old new stop last (inr s) = let full = s.0 in omega (arith, full)

  stop_alike : (sleeps : Bool) (count : ℕ) (old other new more : OpenBody) (one two : Stop) (last end : List OutsideCall) (calls later : List OutsideCall) (from made also : X) → BodiesAlike old other
      → StopsBehind sleeps count old one new last → StopsBehind sleeps count other two more end → Chained makes from (last ++ calls) made → Chained makes from (end ++ later) also
      → (one ≡ two) × BodiesAlike new more × Onward makes calls later made also
  stop_alike sleeps count old other new more one two last end calls later from made also alike (inl s) (inl t) did again =
      let met = asks_alike sleeps old other new more (Some one) (Some two) last end calls later from made also alike s.1 t.1 did again in
      (ap (or_stop one) met.0, met.1, met.2)
    where
      or_stop : Stop → Option Stop → Stop
      or_stop d None = d
      or_stop d (Some stop) = stop
  stop_alike sleeps count old other new more one two last end calls later from made also alike (inl s) (inr t) did again = let few = s.0 in let full = t.0 in absurd (omega (arith, few, full))
  stop_alike sleeps count old other new more one two last end calls later from made also alike (inr s) (inl t) did again = let few = t.0 in let full = s.0 in absurd (omega (arith, few, full))
  stop_alike sleeps count old other new more one two last end calls later from made also alike (inr s) (inr t) did again = (
    s.1 ∙ sym t.1,
    subst (λ x. BodiesAlike x more) (sym s.2) (subst (λ x. BodiesAlike old x) (sym t.2) alike),
    record { state = from; first = subst (λ l. Chained makes from (l ++ calls) made) s.3 did; second = subst (λ l. Chained makes from (l ++ later) also) t.3 again },
  )

  can_not_too : (sleeps : Bool) (count : ℕ) (old other new mid : OpenBody) (frames : List (List OutsideCall)) (stop : Stop) (last this : List OutsideCall) (calls later : List OutsideCall) (from made also : X)
      → BodiesAlike old other → GoesOn sleeps other this mid → count + length frames < 64 → StopsBehind sleeps count old stop new last
      → Chained makes from (last ++ calls) made → Chained makes from (this ++ later) also → ⊥
  can_not_too sleeps count old other new mid frames stop last this calls later from made also alike s few (inl t) did again =
      some_stop stop (sym (asks_alike sleeps old other new mid (Some stop) None last this calls later from made also alike t.1 s did again).0)
  can_not_too sleeps count old other new mid frames stop last this calls later from made also alike s few (inr t) did again = let full = t.0 in omega (arith, few, full)

  regroup : (this frames last calls : List OutsideCall) (from made : X) → Chained makes from (((this ++ frames) ++ last) ++ calls) made → Chained makes from (this ++ ((frames ++ last) ++ calls)) made
  regroup this frames last calls from made did =
      subst (λ l. Chained makes from l made) (ap (λ l. l ++ calls) (append_assoc this frames last) ∙ append_assoc this (frames ++ last) calls) did

  -- the frames of an ask, behind so many
  runs_alike : (sleeps : Bool) (count one_total two_total : ℕ) (old other before left new more : OpenBody) (frames others : List (List OutsideCall)) (one two : Stop) (last end calls later : List OutsideCall) (from made also : X)
      → BodiesAlike old other → one_total ≡ count + length frames → two_total ≡ count + length others
      → Chained (GoesOn sleeps) old frames before → StopsBehind sleeps one_total before one new last → Chained (GoesOn sleeps) other others left → StopsBehind sleeps two_total left two more end
      → Chained makes from ((calls_of frames ++ last) ++ calls) made → Chained makes from ((calls_of others ++ end) ++ later) also → (one ≡ two) × BodiesAlike new more × Onward makes calls later made also
  runs_alike sleeps count one_total two_total old other before left new more [] [] one two last end calls later from made also alike p q s stop t stopped did again =
      let total : one_total ≡ two_total = omega (arith, p, q) in
      stop_alike sleeps two_total old other new more one two last end calls later from made also alike
      (subst (λ n. StopsBehind sleeps n old one new last) total (subst (λ b. StopsBehind sleeps one_total b one new last) s stop)) (subst (λ b. StopsBehind sleeps two_total b two more end) t stopped) did again
  runs_alike sleeps count one_total two_total old other before left new more (this ∷ frames) [] one two last end calls later from made also alike p q (mid, go, rest) stop t stopped did again =
      let most = stops_few sleeps one_total before new one last stop in
      absurd (can_not sleeps two_total old other mid more frames two this end ((calls_of frames ++ last) ++ calls) later from made also alike go (omega (arith, p, q, most))
      (subst (λ b. StopsBehind sleeps two_total b two more end) t stopped) (regroup this (calls_of frames) last calls from made did) again)
  runs_alike sleeps count one_total two_total old other before left new more [] (that ∷ others) one two last end calls later from made also alike p q s stop (away, go, rest) stopped did again =
      let most = stops_few sleeps two_total left more two end stopped in
      absurd (can_not_too sleeps one_total old other new away others one last that calls ((calls_of others ++ end) ++ later) from made also alike go (omega (arith, p, q, most))
      (subst (λ b. StopsBehind sleeps one_total b one new last) s stop) did (regroup that (calls_of others) end later from also again))
  runs_alike sleeps count one_total two_total old other before left new more (this ∷ frames) (that ∷ others) one two last end calls later from made also alike p q (mid, go, rest) stop (away, gone, more_rest) stopped did again =
      let met = asks_alike sleeps old other mid away None None this that ((calls_of frames ++ last) ++ calls) ((calls_of others ++ end) ++ later) from made also alike go gone
      (regroup this (calls_of frames) last calls from made did) (regroup that (calls_of others) end later from also again) in
      runs_alike sleeps (count + 1) one_total two_total mid away before left new more frames others one two last end calls later met.2.state made also met.1 (omega (arith, p)) (omega (arith, q))
      rest stop more_rest stopped met.2.first met.2.second

  closing_alike : (stop : Stop) (one two : OpenBody) → BodiesAlike one two → closing stop one ≡ closing stop two
  closing_alike stops.Pending one two alike = refl
  closing_alike stops.End one two alike = stopping_by one.guards.throughput two.guards.throughput alike.guards.throughput
  closing_alike (stops.Failed text over) one two alike = stopping_by one.guards.throughput two.guards.throughput alike.guards.throughput
  closing_alike stops.TooLong one two alike = stopping_by one.guards.throughput two.guards.throughput alike.guards.throughput

  failed_alike : (over : Bool) → OpenAlike (failed_call over) (failed_call over)
  failed_alike true = tt
  failed_alike false = tt

  closes_alike : (stop : Stop) (one two : OpenBody) (a b : Answer) (new more : Call) → BodiesAlike one two → ClosesAs stop one a new → ClosesAs stop two b more → (a ≡ b) × OpenAlike new more
  closes_alike stops.Pending one two a b new more alike s t = (s.0 ∙ sym t.0, open_by (Reading one) (Reading two) new more s.1 t.1 alike)
  closes_alike stops.End one two a b new more alike s t = (s.0 ∙ (ap answers.Read alike.bytes ∙ sym t.0), open_by Idle Idle new more s.1 t.1 tt)
  closes_alike (stops.Failed text over) one two a b new more alike s t = (s.0 ∙ sym t.0, open_by (failed_call over) (failed_call over) new more s.1 t.1 (failed_alike over))
  closes_alike stops.TooLong one two a b new more alike s t = (s.0 ∙ sym t.0, open_by Left Left new more s.1 t.1 tt)

  body_alike : (sleeps : Bool) (old other : OpenBody) (a b : Answer) (new more : Call) (calls later : List OutsideCall) (from made also : X) → BodiesAlike old other
      → ReadsBody sleeps old a new calls → ReadsBody sleeps other b more later → Chained makes from calls made → Chained makes from later also → (a ≡ b) × OpenAlike new more × (made ≡ also)
  body_alike sleeps old other a b new more calls later from made also alike s t did again =
      let ran = runs_alike sleeps 0 (length s.runs.frames) (length t.runs.frames) old other s.runs.before t.runs.before s.end t.end s.runs.frames t.runs.frames s.stop t.stop s.runs.last t.runs.last (closing s.stop s.end) (closing t.stop t.end) from made also
      alike (omega arith) (omega arith) s.runs.go_on s.runs.stops t.runs.go_on t.runs.stops
      (subst (λ l. Chained makes from l made) (s.calls_are ∙ ap (λ l. l ++ closing s.stop s.end) s.runs.calls_are) did)
      (subst (λ l. Chained makes from l also) (t.calls_are ∙ ap (λ l. l ++ closing t.stop t.end) t.runs.calls_are) again) in
      let said = closes_alike t.stop s.end t.end a b new more ran.1 (subst (λ x. ClosesAs x s.end a new) ran.0 s.closes) t.closes in
      let closed : closing s.stop s.end ≡ closing t.stop t.end = ap (λ x. closing x s.end) ran.0 ∙ closing_alike t.stop s.end t.end ran.1 in
      (said.0, said.1, same_calls makes steady (closing t.stop t.end) ran.2.state made also (subst (λ l. Chained makes ran.2.state l made) closed ran.2.first) ran.2.second)

  absent_alike : (old other new more : Call) (a b : Answer) (calls later : List OutsideCall) (from made also : X) → OpenAlike old other → (a ≡ answers.Absent) × (new ≡ old) × (calls ≡ [])
      → (b ≡ answers.Absent) × (more ≡ other) × (later ≡ []) → Chained makes from calls made → Chained makes from later also → (a ≡ b) × OpenAlike new more × (made ≡ also)
  absent_alike old other new more a b calls later from made also alike s t did again =
      (s.0 ∙ sym t.0, open_by old other new more s.1 t.1 alike, same_calls makes steady [] from made also (subst (λ l. Chained makes from l made) s.2 did) (subst (λ l. Chained makes from l also) t.2 again))

  reads_on : (sleeps : Bool) (old other : Call) (a b : Answer) (new more : Call) (calls later : List OutsideCall) (from made also : X) → OpenAlike old other
      → ReadsOn sleeps old a new calls → ReadsOn sleeps other b more later → Chained makes from calls made → Chained makes from later also → (a ≡ b) × OpenAlike new more × (made ≡ also)
  reads_on sleeps (Reading old) (Reading other) a b new more calls later from made also alike s t did again = body_alike sleeps old other a b new more calls later from made also alike s t did again
  reads_on sleeps Idle Idle a b new more calls later from made also alike s t did again = absent_alike Idle Idle new more a b calls later from made also alike s t did again
  reads_on sleeps (Sending old) (Sending other) a b new more calls later from made also alike s t did again = absent_alike (Sending old) (Sending other) new more a b calls later from made also alike s t did again
  reads_on sleeps Arrived Arrived a b new more calls later from made also alike s t did again = absent_alike Arrived Arrived new more a b calls later from made also alike s t did again
  reads_on sleeps Left Left a b new more calls later from made also alike s t did again = absent_alike Left Left new more a b calls later from made also alike s t did again
  reads_on sleeps old other a b new more calls later from made also alike s t did again = absurd alike

  kept_open : (old other new more : Call) (opening opened calls later : List OutsideCall) (from made also : X) → OpenAlike old other → (new ≡ old) × (opening ≡ []) → (more ≡ other) × (opened ≡ [])
      → Chained makes from (opening ++ calls) made → Chained makes from (opened ++ later) also → OpenAlike new more × Onward makes calls later made also
  kept_open old other new more opening opened calls later from made also alike s t did again = (
    open_by old other new more s.0 t.0 alike,
    record { state = from; first = subst (λ l. Chained makes from (l ++ calls) made) s.1 did; second = subst (λ l. Chained makes from (l ++ later) also) t.1 again },
  )

  opens_alike : (settings : StandingLayers) (response : Option HttpResponse) (old other new more : Call) (opening opened calls later : List OutsideCall) (from made also : X) → OpenAlike old other
      → Opens settings response old new opening → Opens settings response other more opened → Chained makes from (opening ++ calls) made → Chained makes from (opened ++ later) also → OpenAlike new more × Onward makes calls later made also
  opens_alike settings response Arrived Arrived new more opening opened calls later from made also alike (body, new_is, s) (too, more_is, t) did again =
      let met = sets_up_alike makes steady settings response body.guards too.guards opening opened calls later from made also s.guards t.guards did again in
      (open_by (Reading body) (Reading too) new more new_is more_is (record { bytes = s.bytes ∙ sym t.bytes; guards = met.0 }), met.1)
  opens_alike settings response Idle Idle new more opening opened calls later from made also alike s t did again = kept_open Idle Idle new more opening opened calls later from made also alike s t did again
  opens_alike settings response (Sending old) (Sending other) new more opening opened calls later from made also alike s t did again = kept_open (Sending old) (Sending other) new more opening opened calls later from made also alike s t did again
  opens_alike settings response (Reading old) (Reading other) new more opening opened calls later from made also alike s t did again = kept_open (Reading old) (Reading other) new more opening opened calls later from made also alike s t did again
  opens_alike settings response Left Left new more opening opened calls later from made also alike s t did again = kept_open Left Left new more opening opened calls later from made also alike s t did again
  opens_alike settings response old other new more opening opened calls later from made also alike s t did again = absurd alike

  pub bodies : asking.BodiesAreDetermined makes
  bodies sleeps settings response one two after left a b alike s t =
      let r = s.these in
      let u = t.these in
      let opened = opens_alike settings response one.call two.call r.opened u.opened r.opening u.opening r.reading u.reading two.outside after.outside left.outside alike.call r.opens u.opens
      (subst (λ l. Chained makes two.outside l after.outside) r.calls_are (subst (λ x. Chained makes x s.calls after.outside) alike.outside s.made))
      (subst (λ l. Chained makes two.outside l left.outside) u.calls_are t.made) in
      let met = reads_on sleeps r.opened u.opened a b after.call left.call r.reading u.reading opened.1.state after.outside left.outside opened.0 r.reads u.reads opened.1.first opened.1.second in
      (met.0, record { outside = met.2; call = met.1 })
