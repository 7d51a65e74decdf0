-- What the asks of a body tell of its bytes and its frames.
use Rattle.std.proofs.Common.{◌≡◌, ◌⊎◌, ◌<◌, ◌+◌, ℕ, suc, Bool, true, false, if◌then◌else◌, ◌==◌, min, ◌^◌, ◌-◌, List, [], ◌∷◌, ◌++◌, length, map, Option, None, Some, Result, Ok, Err, inl, inr, refl, sym, ap, subst, ◌∙◌, append-nil, append_assoc, zero-add, arith}
use Rattle.smithy_context.specs.StandingLayers.{StandingLayers}
use Rattle.smithy_types.specs.Chain.{Chained}
use Rattle.smithy_types.specs.declared.fault.Fault.{Fault}
use Rattle.smithy_types.specs.declared.http.HttpResponse.{HttpResponse}
use Rattle.smithy_types.specs.declared.memory.OutOfMemory.{OutOfMemory}
use Rattle.smithy_types.specs.declared.timers.TimersCall.{TimersCall}
use Rattle.outside.specs.Calls.{OutsideCall, OfTimers, Begin, Poll, Frame, DropCall, Resolve, DropResolve, Word, Poison, Park}
use Rattle.smithy_types.specs.declared.polled.Polled.TheVariants as polls
use Rattle.stream_guard.specs.declared.options.MinimumThroughputBodyOptions.{MinimumThroughputBodyOptions}
use Rattle.body_guard.specs.Download.{Judges, passed as passed_by}
use Rattle.smithy_types.specs.Frames.{data_len}
use Rattle.body_guard.specs.Length.{at_length}
use Rattle.body_guard.specs.Texts.{length_text, no_sleep, response_fault}
use Rattle.body_guard.specs.declared.grace.GraceAnswer.{GraceAnswer}
use Rattle.body_guard.specs.declared.grace.GraceAnswer.TheVariants.{InTime, NoSleep, Over}
use Rattle.body_guard.specs.declared.length.LengthFault.{LengthFault}
use Rattle.smithy_types.specs.declared.polled.Polled.{Polled}
use Rattle.smithy_types.specs.declared.polled.Polled.TheVariants.{Pending, Data, Trailers, End, Failed}
use Rattle.run_grammar.specs.declared.answer.Answer.{Answer}
use Rattle.run_grammar.specs.declared.answer.Answer.TheVariants as answers
use Rattle.client_call.specs.declared.call.Call.{Call}
use Rattle.client_call.specs.declared.call.Call.TheVariants.{Idle, Sending, Arrived, Reading, Left}
use Rattle.client_call.specs.declared.guards.Guards.{Guards}
use Rattle.client_call.specs.declared.reading.Reading.{Reading as OpenBody}
use Rattle.client_call.specs.declared.reading.Stop.{Stop}
use Rattle.client_call.specs.declared.reading.Stop.TheVariants as stops
use Rattle.client_call.specs.Causes.{Counted, IsCounted, ReadsAll, WasMade, answer_data, bytes_of, call_data, data_of, frames_in, with_frame}
use Rattle.client_call.specs.Frames.{fits_in, gathered, stop_of}
use Rattle.client_call.specs.Guarding.{GuardsLength, GuardsThroughput, HoldsTo, LengthGuard, LengthPasses, Passes, ThroughputGuard, ThroughputPasses, stopping, stopping_guard}
use Rattle.client_call.specs.Reading.{Asks, BeginsReading, ClosesAs, GoesOn, Opens, Reads, ReadsOn, Runs, StopsBehind, calls_of, closing, failed_call}

-- lists of calls

data_of-append : (cs ds : List OutsideCall) → data_of (cs ++ ds) ≡ data_of cs ++ data_of ds
data_of-append [] ds = refl
data_of-append (c ∷ cs) ds = ap (λ l. call_data c ++ l) (data_of-append cs ds) ∙ sym (append_assoc (call_data c) (data_of cs) (data_of ds))

with_frame-add : (c : OutsideCall) (m n : ℕ) → with_frame c (m + n) ≡ with_frame c m + n
with_frame-add (Frame answer) m n = omega arith
with_frame-add _ m n = refl

frames_in-append : (cs ds : List OutsideCall) → frames_in (cs ++ ds) ≡ frames_in cs + frames_in ds
frames_in-append [] ds = sym (zero-add (frames_in ds))
frames_in-append (c ∷ cs) ds = ap (with_frame c) (frames_in-append cs ds) ∙ with_frame-add c (frames_in cs) (frames_in ds)

-- no frame was asked for
record Silent (calls : List OutsideCall) : Type 0 where
  data_is : data_of calls ≡ []
  frames_are : frames_in calls ≡ 0

silent_none : Silent []
silent_none = record { data_is = refl; frames_are = refl }

silent_timed : (calls : List TimersCall) → Silent (map OfTimers calls)
silent_timed [] = silent_none
silent_timed (c ∷ cs) = record { data_is = (silent_timed cs).data_is; frames_are = (silent_timed cs).frames_are }

silent_as : (calls ds : List OutsideCall) → calls ≡ ds → Silent ds → Silent calls
silent_as calls ds e s = subst Silent (sym e) s

-- the guards

-- a frame is passed as it is, or a failure is passed in its place
abbrev PassedAs : Polled → Polled → Type 0
PassedAs frame passed = (passed ≡ frame) ⊎ ((fault : Fault) × (passed ≡ Failed fault))

end_is : (b : Bool) (fault : Fault) → PassedAs End (if b then End else Failed fault)
end_is true fault = inl refl
end_is false fault = inr (fault, refl)

at_length_is : (n count : ℕ) (frame : Polled) → PassedAs frame (at_length n count frame)
at_length_is n count End = end_is (count == n) (response_fault (length_text n (min count (2 ^ 64 - 1))))
at_length_is n count Pending = inl refl
at_length_is n count (Data bytes) = inl refl
at_length_is n count Trailers = inl refl
at_length_is n count (Failed fault) = inl refl

length_passes : (old new : Option LengthGuard) (frame passed : Polled) → LengthPasses old frame passed new → Counted old → Counted new × PassedAs frame passed
length_passes None new frame passed h c = (subst Counted (sym h.1) tt, inl h.0)
length_passes (Some old) None frame passed h c = absurd h
length_passes (Some old) (Some new) frame passed h c =
    ((c.0 + data_len frame, h.received c.0 c.1), subst (PassedAs frame) (sym (h.answered c.0 c.1)) (at_length_is old.expected_length c.0 frame))

said_passed : (frame passed : Polled) (said : Result GraceAnswer OutOfMemory) → Ok passed ≡ passed_by frame said → PassedAs frame passed
said_passed frame passed (Ok InTime) e = inl cc
said_passed frame passed (Ok NoSleep) e = inr (no_sleep, cc)
said_passed frame passed (Ok (Over text)) e = inr (response_fault text, cc)
said_passed frame passed (Err x) e = absurd cc

judged_passed : (sleeps : Bool) (old new : ThroughputGuard) (frame passed : Polled) (calls : List TimersCall) → Judges sleeps old frame (Ok passed) new calls → PassedAs frame passed
judged_passed sleeps old new End passed calls h = let e = h.0 in inl cc
judged_passed sleeps old new (Failed fault) passed calls h = let e = h.0 in inl cc
judged_passed sleeps old new Pending passed calls h = said_passed Pending passed h.said h.answered
judged_passed sleeps old new (Data bytes) passed calls h = said_passed (Data bytes) passed h.said h.answered
judged_passed sleeps old new Trailers passed calls h = said_passed Trailers passed h.said h.answered

throughput_passes : (sleeps : Bool) (old new : Option ThroughputGuard) (frame passed : Polled) (calls : List OutsideCall) → ThroughputPasses sleeps old frame passed new calls → PassedAs frame passed × Silent calls
throughput_passes sleeps None new frame passed calls h = (inl h.0, silent_as calls [] h.2 silent_none)
throughput_passes sleeps (Some old) None frame passed calls h = absurd h
throughput_passes sleeps (Some old) (Some new) frame passed calls h = (judged_passed sleeps old new frame passed h.0 h.1, silent_as calls (map OfTimers h.0) h.2 (silent_timed h.0))

passed_twice : (frame enforced passed : Polled) → PassedAs frame enforced → PassedAs enforced passed → PassedAs frame passed
passed_twice frame enforced passed (inl e) (inl f) = inl (f ∙ e)
passed_twice frame enforced passed (inr (x, e)) (inl f) = inr (x, f ∙ e)
passed_twice frame enforced passed (inl e) (inr g) = inr g
passed_twice frame enforced passed (inr e) (inr g) = inr g

record Passed (frame passed : Polled) (new : Guards) (calls : List OutsideCall) : Type 0 where
  counted : Counted new.length
  passed_as : PassedAs frame passed
  silent : Silent calls

passes_as : (sleeps : Bool) (old : Guards) (frame passed : Polled) (new : Guards) (calls : List OutsideCall) → Passes sleeps old frame passed new calls → Counted old.length → Passed frame passed new calls
passes_as sleeps old frame passed new calls h c =
    let l = length_passes old.length new.length frame h.enforced h.length c in
    let t = throughput_passes sleeps old.throughput new.throughput h.enforced passed calls h.throughput in
    record { counted = l.0; passed_as = passed_twice frame h.enforced passed l.1 t.0; silent = t.1 }

-- one frame

-- what a frame adds, by how the ask stops with it
abbrev IsAdded : Option Stop → List ℕ → List ℕ → Polled → List ℕ → Type 0
IsAdded None old new frame more = new ≡ old ++ more
IsAdded (Some stops.Pending) old new frame more = (frame ≡ polls.Pending) × (new ≡ old ++ more)
IsAdded (Some stops.End) old new frame more = (frame ≡ polls.End) × (new ≡ old ++ more)
IsAdded (Some (stops.Failed text over)) old new frame more = Unit {0}
IsAdded (Some stops.TooLong) old new frame more = Unit {0}

data_adds : (b : Bool) (bytes more : List ℕ) (frame : Polled) → IsAdded (if b then None else Some stops.TooLong) bytes (if b then bytes ++ more else bytes) frame more
data_adds true bytes more frame = refl
data_adds false bytes more frame = tt

frame_adds : (bytes : List ℕ) (over : Bool) (frame : Polled) → IsAdded (stop_of bytes over frame) bytes (gathered bytes frame) frame (answer_data (Ok frame))
frame_adds bytes over polls.Pending = (refl, sym (append-nil bytes))
frame_adds bytes over (polls.Data more) = data_adds (fits_in bytes more) bytes more (polls.Data more)
frame_adds bytes over polls.Trailers = sym (append-nil bytes)
frame_adds bytes over polls.End = (refl, sym (append-nil bytes))
frame_adds bytes over (polls.Failed fault) = tt

added_as : (stop : Option Stop) (old new : List ℕ) (frame : Polled) (more : List ℕ) (over : Bool) (passed : Polled) → stop ≡ stop_of old over passed → new ≡ gathered old passed →
    more ≡ answer_data (Ok frame) → PassedAs frame passed → IsAdded stop old new frame more
added_as stop old new frame more over passed s n d (inl e) =
    subst (λ m. IsAdded stop old new frame m) (sym d)
    (subst (λ l. IsAdded stop old l frame (answer_data (Ok frame))) (sym (n ∙ ap (gathered old) e))
    (subst (λ t. IsAdded t old (gathered old frame) frame (answer_data (Ok frame))) (sym (s ∙ ap (stop_of old over) e)) (frame_adds old over frame)))
added_as stop old new frame more over passed s n d (inr (fault, e)) =
    subst (λ t. IsAdded t old new frame more) (sym (s ∙ ap (stop_of old over) e)) tt

record Asked (old : OpenBody) (stop : Option Stop) (new : OpenBody) (frame : Polled) (calls : List OutsideCall) : Type 0 where
  counted : Counted new.guards.length
  added : IsAdded stop old.bytes new.bytes frame (data_of calls)
  one : frames_in calls ≡ 1

asks_add : (sleeps : Bool) (old : OpenBody) (stop : Option Stop) (new : OpenBody) (calls : List OutsideCall) (h : Asks sleeps old stop new calls) → Counted old.guards.length → Asked old stop new h.frame calls
asks_add sleeps old stop new calls h c =
    let p = passes_as sleeps old.guards h.frame h.passed new.guards h.judging h.passes c in
    record {
      counted = p.counted;
      added = added_as stop old.bytes new.bytes h.frame (data_of calls) _ h.passed h.stop_is h.bytes_are
          (ap data_of h.calls_are ∙ ap (λ l. answer_data (Ok h.frame) ++ l) p.silent.data_is ∙ append-nil (answer_data (Ok h.frame))) p.passed_as;
      one = ap frames_in h.calls_are ∙ ap suc p.silent.frames_are;
    }

-- the frames of an ask

record Went (old new : OpenBody) (frames : List (List OutsideCall)) : Type 0 where
  counted : Counted new.guards.length
  bytes_are : new.bytes ≡ old.bytes ++ data_of (calls_of frames)
  frames_are : frames_in (calls_of frames) ≡ length frames

more_bytes : (old mid new : List ℕ) (cs ds : List OutsideCall) → mid ≡ old ++ data_of cs → new ≡ mid ++ data_of ds → new ≡ old ++ data_of (cs ++ ds)
more_bytes old mid new cs ds m n = n ∙ ap (λ l. l ++ data_of ds) m ∙ append_assoc old (data_of cs) (data_of ds) ∙ ap (λ l. old ++ l) (sym (data_of-append cs ds))

one_more : (n m k l : ℕ) → n ≡ m + k → m ≡ 1 → k ≡ l → n ≡ suc l
one_more n m k l a b c = omega (arith, a, b, c)

chain_adds : (sleeps : Bool) (old new : OpenBody) (frames : List (List OutsideCall)) → Chained (GoesOn sleeps) old frames new → Counted old.guards.length → Went old new frames
chain_adds sleeps old new [] e c = record {
  counted = subst (λ (r : OpenBody). Counted r.guards.length) (sym e) c;
  bytes_are = ap (λ (r : OpenBody). r.bytes) e ∙ sym (append-nil old.bytes);
  frames_are = refl;
}
chain_adds sleeps old new (f ∷ fs) (mid, m, r) c =
    let a = asks_add sleeps old None mid f m c in
    let t = chain_adds sleeps mid new fs r a.counted in
    record {
      counted = t.counted;
      bytes_are = more_bytes old.bytes mid.bytes new.bytes f (calls_of fs) a.added t.bytes_are;
      frames_are = one_more _ _ _ _ (frames_in-append f (calls_of fs)) a.one t.frames_are;
    }

-- what a stop tells of an ask
abbrev Tells : Stop → List ℕ → List ℕ → List OutsideCall → Type 0
Tells stops.Pending old new calls = (new ≡ old ++ data_of calls) × (WasMade (Frame (Ok polls.Pending)) calls ⊎ (frames_in calls ≡ 64))
Tells stops.End old new calls = (new ≡ old ++ data_of calls) × WasMade (Frame (Ok polls.End)) calls
Tells (stops.Failed text over) old new calls = Unit {0}
Tells stops.TooLong old new calls = Unit {0}

made_last : (frame known : Polled) (before last judging calls : List OutsideCall) → frame ≡ known → last ≡ Frame (Ok frame) ∷ judging → calls ≡ before ++ last → WasMade (Frame (Ok known)) calls
made_last frame known before last judging calls f l e = (before, judging, e ∙ ap (λ t. before ++ t) (l ∙ ap (λ x. Frame (Ok x) ∷ judging) f))

last_tells : (sleeps : Bool) (old : List ℕ) (mid end : OpenBody) (stop : Stop) (before last : List OutsideCall) (a : Asks sleeps mid (Some stop) end last) → mid.bytes ≡ old ++ data_of before →
    Asked mid (Some stop) end a.frame last → Tells stop old end.bytes (before ++ last)
last_tells sleeps old mid end stops.Pending before last a m t =
    (more_bytes old mid.bytes end.bytes before last m t.added.1, inl (made_last a.frame polls.Pending before last a.judging (before ++ last) t.added.0 a.calls_are refl))
last_tells sleeps old mid end stops.End before last a m t =
    (more_bytes old mid.bytes end.bytes before last m t.added.1, made_last a.frame polls.End before last a.judging (before ++ last) t.added.0 a.calls_are refl)
last_tells sleeps old mid end (stops.Failed text over) before last a m t = tt
last_tells sleeps old mid end stops.TooLong before last a m t = tt

record Ran (old : OpenBody) (stop : Stop) (end : OpenBody) (calls : List OutsideCall) : Type 0 where
  counted : Counted end.guards.length
  tells : Tells stop old.bytes end.bytes calls

stops_tell : (sleeps : Bool) (old mid end : OpenBody) (stop : Stop) (frames : List (List OutsideCall)) (last : List OutsideCall) → Went old mid frames → StopsBehind sleeps (length frames) mid stop end last →
    Ran old stop end (calls_of frames ++ last)
stops_tell sleeps old mid end stop frames last w (inl (below, a)) =
    let t = asks_add sleeps mid (Some stop) end last a w.counted in
    record { counted = t.counted; tells = last_tells sleeps old.bytes mid end stop (calls_of frames) last a w.bytes_are t }
stops_tell sleeps old mid end stop frames last w (inr (many, is, same, none)) =
    let calls : calls_of frames ++ last ≡ calls_of frames = ap (λ l. calls_of frames ++ l) none ∙ append-nil (calls_of frames) in
    let bytes : end.bytes ≡ old.bytes ++ data_of (calls_of frames ++ last) = ap (λ (r : OpenBody). r.bytes) same ∙ w.bytes_are ∙ ap (λ l. old.bytes ++ data_of l) (sym calls) in
    record {
      counted = subst (λ (r : OpenBody). Counted r.guards.length) (sym same) w.counted;
      tells = subst (λ s. Tells s old.bytes end.bytes (calls_of frames ++ last)) (sym is) (bytes, inr (ap frames_in calls ∙ w.frames_are ∙ many));
    }

runs_tell : (sleeps : Bool) (old : OpenBody) (stop : Stop) (end : OpenBody) (calls : List OutsideCall) → Runs sleeps old stop end calls → Counted old.guards.length → Ran old stop end calls
runs_tell sleeps old stop end calls h c =
    subst (λ l. Ran old stop end l) (sym h.calls_are)
    (stops_tell sleeps old h.before end stop h.frames h.last (chain_adds sleeps old h.before h.frames h.go_on c) h.stops)

-- an ask

made_more : (call : OutsideCall) (calls more : List OutsideCall) → WasMade call calls → WasMade call (calls ++ more)
made_more call calls more (before, after, e) = (before, after ++ more, ap (λ l. l ++ more) e ∙ append_assoc before (call ∷ after) more)

made_behind : (call : OutsideCall) (first calls : List OutsideCall) → WasMade call calls → WasMade call (first ++ calls)
made_behind call first calls (before, after, e) = (first ++ before, after, ap (λ l. first ++ l) e ∙ sym (append_assoc first before (call ∷ after)))

stopping_silent : (guard : Option ThroughputGuard) → Silent (stopping_guard guard)
stopping_silent None = silent_none
stopping_silent (Some guard) = silent_timed _

failed_counted : (over : Bool) → IsCounted (failed_call over)
failed_counted true = tt
failed_counted false = tt

data_then_silent : (calls more : List OutsideCall) → Silent more → data_of calls ≡ data_of (calls ++ more)
data_then_silent calls more s = sym (data_of-append calls more ∙ ap (λ l. data_of calls ++ l) s.data_is ∙ append-nil (data_of calls))

closes_tell : (old end : OpenBody) (stop : Stop) (a : Answer) (new : Call) (running : List OutsideCall) → ClosesAs stop end a new → Ran old stop end running → ReadsAll (Reading old) a new (running ++ closing stop end)
closes_tell old end stops.Pending a new running h r =
    subst (λ l. ReadsAll (Reading old) a new l) (sym (append-nil running))
    (record {
      read = λ blob e. let x = h.0 in absurd cc;
      pending = λ e. (ap bytes_of h.1 ∙ r.tells.0, r.tells.1);
      counted = subst IsCounted (sym h.1) r.counted;
    })
closes_tell old end stops.End a new running h r = record {
  read = λ blob e. let x = h.0 in let same : blob ≡ end.bytes = cc in
      (same ∙ r.tells.0 ∙ ap (λ l. old.bytes ++ l) (data_then_silent running (stopping end.guards) (stopping_silent end.guards.throughput)), made_more _ running (stopping end.guards) r.tells.1);
  pending = λ e. let x = h.0 in absurd cc;
  counted = subst IsCounted (sym h.1) tt;
}
closes_tell old end (stops.Failed text over) a new running h r = record {
  read = λ blob e. let x = h.0 in absurd cc;
  pending = λ e. let x = h.0 in absurd cc;
  counted = subst IsCounted (sym h.1) (failed_counted over);
}
closes_tell old end stops.TooLong a new running h r = record {
  read = λ blob e. let x = h.0 in absurd cc;
  pending = λ e. let x = h.0 in absurd cc;
  counted = subst IsCounted (sym h.1) tt;
}

absent_tells : (old : Call) (a : Answer) (new : Call) (calls : List OutsideCall) → a ≡ answers.Absent → new ≡ old → IsCounted old → ReadsAll old a new calls
absent_tells old a new calls x n c = record {
  read = λ blob e. absurd cc;
  pending = λ e. absurd cc;
  counted = subst IsCounted (sym n) c;
}

reads_on_tells : (sleeps : Bool) (old : Call) (a : Answer) (new : Call) (calls : List OutsideCall) → ReadsOn sleeps old a new calls → IsCounted old → ReadsAll old a new calls
reads_on_tells sleeps (Reading r) a new calls h c =
    subst (λ l. ReadsAll (Reading r) a new l) (sym h.calls_are) (closes_tell r h.end h.stop a new h.running h.closes (runs_tell sleeps r h.stop h.end h.running h.runs c))
reads_on_tells sleeps Idle a new calls h c = absent_tells Idle a new calls h.0 h.1 c
reads_on_tells sleeps (Sending upload) a new calls h c = absent_tells (Sending upload) a new calls h.0 h.1 c
reads_on_tells sleeps Arrived a new calls h c = absent_tells Arrived a new calls h.0 h.1 c
reads_on_tells sleeps Left a new calls h c = absent_tells Left a new calls h.0 h.1 c

-- the opening

holds_counted : (declared : Result (Option ℕ) LengthFault) (made : Option LengthGuard) → HoldsTo declared made → Counted made
holds_counted (Ok (Some length)) (Some made) h = (0, h.1)
holds_counted (Ok (Some length)) None h = absurd h
holds_counted (Ok None) made h = subst Counted (sym h) tt
holds_counted (Err fault) made h = subst Counted (sym h) tt

length_counted : (b : Bool) (response : Option HttpResponse) (made : Option LengthGuard) → GuardsLength b response made → Counted made
length_counted true (Some response) made h = holds_counted h.0 made h.2
length_counted true None made h = subst Counted (sym h) tt
length_counted false response made h = subst Counted (sym h) tt

throughput_silent : (options : Option MinimumThroughputBodyOptions) (made : Option ThroughputGuard) (calls : List OutsideCall) → GuardsThroughput options made calls → Silent calls
throughput_silent None made calls h = silent_as calls [] h.1 silent_none
throughput_silent (Some options) None calls h = absurd h
throughput_silent (Some options) (Some made) calls h = silent_as calls (map OfTimers h.1) h.3 (silent_timed h.1)

record Opened (old opened : Call) (calls : List OutsideCall) : Type 0 where
  bytes_are : bytes_of opened ≡ bytes_of old
  counted : IsCounted opened
  silent : Silent calls

opened_same : (old opened : Call) (calls : List OutsideCall) → opened ≡ old → calls ≡ [] → IsCounted old → Opened old opened calls
opened_same old opened calls e n c = record { bytes_are = ap bytes_of e; counted = subst IsCounted (sym e) c; silent = silent_as calls [] n silent_none }

opens_tell : (settings : StandingLayers) (response : Option HttpResponse) (old opened : Call) (calls : List OutsideCall) → Opens settings response old opened calls → IsCounted old → Opened old opened calls
opens_tell settings response Arrived opened calls h c = record {
  bytes_are = ap bytes_of h.1 ∙ h.2.bytes;
  counted = subst IsCounted (sym h.1) (length_counted _ response h.0.guards.length h.2.guards.length);
  silent = throughput_silent _ h.0.guards.throughput calls h.2.guards.throughput;
}
opens_tell settings response Idle opened calls h c = opened_same Idle opened calls h.0 h.1 c
opens_tell settings response (Sending upload) opened calls h c = opened_same (Sending upload) opened calls h.0 h.1 c
opens_tell settings response (Reading r) opened calls h c = opened_same (Reading r) opened calls h.0 h.1 c
opens_tell settings response Left opened calls h c = opened_same Left opened calls h.0 h.1 c

behind_silent : (opening reading : List OutsideCall) → Silent opening → data_of reading ≡ data_of (opening ++ reading)
behind_silent opening reading s = sym (data_of-append opening reading ∙ ap (λ l. l ++ data_of reading) s.data_is)

frames_behind : (opening reading : List OutsideCall) → Silent opening → frames_in (opening ++ reading) ≡ frames_in reading
frames_behind opening reading s = frames_in-append opening reading ∙ ap (λ n. n + frames_in reading) s.frames_are ∙ zero-add (frames_in reading)

why_pending : (opening reading : List OutsideCall) → Silent opening → WasMade (Frame (Ok polls.Pending)) reading ⊎ (frames_in reading ≡ 64) →
    WasMade (Frame (Ok polls.Pending)) (opening ++ reading) ⊎ (frames_in (opening ++ reading) ≡ 64)
why_pending opening reading s (inl m) = inl (made_behind _ opening reading m)
why_pending opening reading s (inr n) = inr (frames_behind opening reading s ∙ n)

behind_opening : (old opened : Call) (a : Answer) (new : Call) (opening reading : List OutsideCall) → Opened old opened opening → ReadsAll opened a new reading → ReadsAll old a new (opening ++ reading)
behind_opening old opened a new opening reading o r =
    let bytes : bytes_of opened ++ data_of reading ≡ bytes_of old ++ data_of (opening ++ reading) = ap (λ l. l ++ data_of reading) o.bytes_are ∙ ap (λ l. bytes_of old ++ l) (behind_silent opening reading o.silent) in
    record {
      read = λ blob e. ((r.read blob e).0 ∙ bytes, made_behind _ opening reading (r.read blob e).1);
      pending = λ e. ((r.pending e).0 ∙ bytes, why_pending opening reading o.silent (r.pending e).1);
      counted = r.counted;
    }

pub bodies_are_whole : (sleeps : Bool) (settings : StandingLayers) (response : Option HttpResponse) (old : Call) (a : Answer) (new : Call) (calls : List OutsideCall) →
    Reads sleeps settings response old a new calls → IsCounted old → ReadsAll old a new calls
bodies_are_whole sleeps settings response old a new calls h c =
    let o = opens_tell settings response old h.opened h.opening h.opens c in
    subst (λ l. ReadsAll old a new l) (sym h.calls_are)
    (behind_opening old h.opened a new h.opening h.reading o (reads_on_tells sleeps h.opened a new h.reading h.reads o.counted))
