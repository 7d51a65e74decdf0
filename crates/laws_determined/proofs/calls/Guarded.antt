-- What guards and uploads make of what comes is determined.
use Rattle.std.proofs.Common.{◌≡◌, ◌∙◌, refl, sym, ap, subst, ℕ, ◌+◌, Bool, true, false, List, ◌++◌, ◌∷◌, [], map, Option, None, Some, Result, Ok, Err}
use Rattle.body_guard.specs.Declaring.{DeclaresLength, ReadsLength, lengths}
use Rattle.body_guard.specs.Download.{Judges, JudgesBy, LooksAt, passed}
use Rattle.body_guard.specs.Events.{with_event}
use Rattle.smithy_types.specs.Frames.{data_len, ends}
use Rattle.body_guard.specs.Length.{Enforces, HasReceived, at_length}
use Rattle.body_guard.specs.Grace.{Grants}
use Rattle.body_guard.specs.Rates.{download_rate, upload_rate, violation}
use Rattle.body_guard.specs.Upload.{upload_answer}
use Rattle.body_guard.specs.declared.grace.GraceAnswer.{GraceAnswer}
use Rattle.body_guard.specs.declared.length.LengthFault.{LengthFault}
use Rattle.body_guard.specs.declared.length.LengthFault.TheVariants.{Multiple, NotANumber}
use Rattle.smithy_types.specs.declared.polled.Polled.{Polled}
use Rattle.client_call.specs.Guarding.{GuardsLength, GuardsThroughput, HoldsTo, LengthGuard, LengthPasses, Passes, SetsUp, ThroughputGuard, ThroughputPasses}
use Rattle.client_call.specs.Protection.{download_options, enforces_length, standing_stall}
use Rattle.client_call.specs.Uploading.{Looks, Watches, came_calls, came_of}
use Rattle.client_call.specs.declared.guards.Guards.{Guards}
use Rattle.client_call.specs.declared.upload.Upload.{Upload}
use Rattle.http_header.specs.FieldValue.{FieldValue}
use Rattle.outside.specs.Calls.{OutsideCall, OfTimers}
use Rattle.smithy_context.specs.StandingLayers.{StandingLayers}
use Rattle.smithy_types.specs.Chain.{Chained}
use Rattle.smithy_types.specs.declared.fault.Fault.{Fault}
use Rattle.smithy_types.specs.declared.http.HttpResponse.{HttpResponse}
use Rattle.smithy_types.specs.declared.memory.OutOfMemory.{OutOfMemory}
use Rattle.smithy_types.specs.declared.timers.TimersCall.{TimersCall}
use Rattle.smithy_types.specs.declared.timers.TimersCall.TheVariants.{Now}
use Rattle.stream_guard.specs.Logs.{Keeps, Log, SameSettings}
use Rattle.stream_guard.specs.Report.{Came, Looked, report_of}
use Rattle.stream_guard.specs.declared.options.MinimumThroughputBodyOptions.{MinimumThroughputBodyOptions}
use Rattle.laws_determined.specs.Steady.Steady.{IsSteady}
use Rattle.laws_determined.proofs.steady.Calls.{Onward, onward}
use Rattle.laws_determined.specs.Calls.Alike.{GuardsAlike, LengthsAlike, LogsAlike, MaybeAlike, ThroughputsAlike, UploadsAlike}
use Rattle.laws_determined.proofs.calls.Graces.{Had, grants_alike, timed_past}

-- ---- logs

report_alike : (one two : Log) (alike : LogsAlike one two) (came more : List Came) (now later : ℕ) → came ≡ more → now ≡ later
    → report_of one.start one.resolution one.complete came now ≡ report_of two.start two.resolution two.complete more later
report_alike one two alike came more now later p q = λ i. report_of (alike.start i) (alike.resolution i) (alike.complete i) (p i) (q i)

left_alike : (one two new other : Log) (came more : List Came) → LogsAlike one two → SameSettings one new → SameSettings two other → came ≡ more → Keeps new came → Keeps other more → LogsAlike new other
left_alike one two new other came more alike s t same first second = record {
  start = s.start ∙ (alike.start ∙ sym t.start);
  resolution = s.resolution ∙ (alike.resolution ∙ sym t.resolution);
  complete = s.complete ∙ (alike.complete ∙ sym t.complete);
  came = came;
  first = first;
  second = subst (λ c. Keeps other c) (sym same) second;
}

-- ---- memory

passed_had : (inner answer : Polled) (said : Result GraceAnswer OutOfMemory) → Ok answer ≡ passed inner said → Had said
passed_had inner answer (Ok said) is = tt
passed_had inner answer (Err e) is = absurd (subst Had is tt)

upload_had : (fault : Option Fault) (said : Result GraceAnswer OutOfMemory) → Ok fault ≡ upload_answer said → Had said
upload_had fault (Ok said) is = tt
upload_had fault (Err e) is = absurd (subst Had is tt)

or_else : {A E : Type 0} → A → Result A E → A
or_else d (Ok x) = x
or_else d (Err e) = d

same_ok : {A E : Type 0} (r : Result A E) (x y : A) → Ok x ≡ r → r ≡ Ok y → x ≡ y
unfolding or_else
same_ok r x y p q = ap (or_else x) (p ∙ q)

-- ---- the length

enforced_alike : (old other new more : LengthGuard) (frame also a b : Polled) → LengthsAlike old other → frame ≡ also → Enforces old frame (Ok a) new → Enforces other also (Ok b) more → (a ≡ b) × LengthsAlike new more
enforced_alike old other new more frame also a b alike same s t =
    let count = alike.count in (
      s.answered count alike.first ∙ ((λ i. at_length (alike.expected i) count (same i)) ∙ sym (t.answered count alike.second)),
      record {
        expected = s.declared ∙ (alike.expected ∙ sym t.declared);
        count = count + data_len frame;
        first = s.received count alike.first;
        second = subst (λ f. HasReceived more (count + data_len f)) (sym same) (t.received count alike.second);
      },
    )

length_alike : (old other new more : Option LengthGuard) (frame a b : Polled) → MaybeAlike LengthsAlike old other → LengthPasses old frame a new → LengthPasses other frame b more → (a ≡ b) × MaybeAlike LengthsAlike new more
length_alike None None new more frame a b alike s t = (s.0 ∙ sym t.0, subst (λ x. MaybeAlike LengthsAlike x more) (sym s.1) (subst (λ x. MaybeAlike LengthsAlike None x) (sym t.1) tt))
length_alike None (Some other) new more frame a b alike s t = absurd alike
length_alike (Some old) None new more frame a b alike s t = absurd alike
length_alike (Some old) (Some other) (Some new) (Some more) frame a b alike s t = enforced_alike old other new more frame frame a b alike refl s t
length_alike (Some old) (Some other) None more frame a b alike s t = absurd s
length_alike (Some old) (Some other) (Some new) None frame a b alike s t = absurd t

declared_same : (bytes : List ℕ) (a b : Result (Option ℕ) LengthFault) → ReadsLength bytes a → ReadsLength bytes b → a ≡ b
declared_same bytes (Ok (Some n)) (Ok (Some m)) s t = ap (λ x. Ok (Some x)) (s.1 ∙ sym t.1)
declared_same bytes (Ok (Some n)) (Ok None) s t = absurd t
declared_same bytes (Ok (Some n)) (Err NotANumber) s t = absurd (t s.0)
declared_same bytes (Ok (Some n)) (Err Multiple) s t = absurd t
declared_same bytes (Ok None) b s t = absurd s
declared_same bytes (Err NotANumber) (Ok (Some m)) s t = absurd (s t.0)
declared_same bytes (Err NotANumber) (Ok None) s t = absurd t
declared_same bytes (Err NotANumber) (Err NotANumber) s t = refl
declared_same bytes (Err NotANumber) (Err Multiple) s t = absurd t
declared_same bytes (Err Multiple) b s t = absurd s

declares_same : (values : List FieldValue) (a b : Result (Option ℕ) LengthFault) → DeclaresLength values a → DeclaresLength values b → a ≡ b
declares_same [] a b s t = s ∙ sym t
declares_same (value ∷ []) a b s t = declared_same value.bytes a b s t
declares_same (value ∷ other ∷ more) a b s t = s ∙ sym t

holds_alike : (declared : Result (Option ℕ) LengthFault) (made more : Option LengthGuard) → HoldsTo declared made → HoldsTo declared more → MaybeAlike LengthsAlike made more
holds_alike (Ok (Some length)) (Some made) (Some more) s t = record { expected = s.0 ∙ sym t.0; count = 0; first = s.1; second = t.1 }
holds_alike (Ok (Some length)) None more s t = absurd s
holds_alike (Ok (Some length)) (Some made) None s t = absurd t
holds_alike (Ok None) made more s t = subst (λ x. MaybeAlike LengthsAlike x more) (sym s) (subst (λ x. MaybeAlike LengthsAlike None x) (sym t) tt)
holds_alike (Err fault) made more s t = subst (λ x. MaybeAlike LengthsAlike x more) (sym s) (subst (λ x. MaybeAlike LengthsAlike None x) (sym t) tt)

guards_length : (enforces : Bool) (response : Option HttpResponse) (made more : Option LengthGuard) → GuardsLength enforces response made → GuardsLength enforces response more → MaybeAlike LengthsAlike made more
guards_length true (Some response) made more s t =
    holds_alike s.0 made more s.2 (subst (λ d. HoldsTo d more) (sym (declares_same (lengths response.headers) s.0 t.0 s.1 t.1)) t.2)
guards_length true None made more s t = subst (λ x. MaybeAlike LengthsAlike x more) (sym s) (subst (λ x. MaybeAlike LengthsAlike None x) (sym t) tt)
guards_length false response made more s t = subst (λ x. MaybeAlike LengthsAlike x more) (sym s) (subst (λ x. MaybeAlike LengthsAlike None x) (sym t) tt)

module _ {X : Type 0} (makes : X → OutsideCall → X → Type 0) (steady : IsSteady makes) where
  -- the present moment is the same
  now_alike : (now later : ℕ) (front other after also : List TimersCall) (calls more : List OutsideCall) (old made too : X) → front ≡ Now now ∷ after → other ≡ Now later ∷ also
      → Chained makes old (map OfTimers front ++ calls) made → Chained makes old (map OfTimers other ++ more) too
      → (now ≡ later) × Onward makes (map OfTimers after ++ calls) (map OfTimers also ++ more) made too
  now_alike now later front other after also calls more old made too p q did again =
      onward makes steady (λ moment. OfTimers (Now moment)) steady.now now later (map OfTimers after ++ calls) (map OfTimers also ++ more) old made too
      (subst (λ l. Chained makes old (map OfTimers l ++ calls) made) p did) (subst (λ l. Chained makes old (map OfTimers l ++ more) too) q again)

  -- ---- the throughput of a body

  looks_alike : (sleeps : Bool) (old other new more : ThroughputGuard) (inner a b : Polled) (judging judged : List TimersCall) (calls later : List OutsideCall) (from made too : X)
      → ThroughputsAlike old other → LooksAt sleeps old inner (Ok a) new judging → LooksAt sleeps other inner (Ok b) more judged
      → Chained makes from (map OfTimers judging ++ calls) made → Chained makes from (map OfTimers judged ++ later) too → (a ≡ b) × ThroughputsAlike new more × Onward makes calls later made too
  looks_alike sleeps old other new more inner a b judging judged calls later from made too alike s t did again =
      let logs = alike.logs in
      let moment = now_alike s.now t.now judging judged s.granting t.granting calls later from made too s.calls_are t.calls_are did again in
      let came : with_event logs.came s.now inner ≡ with_event logs.came t.now inner = ap (λ n. with_event logs.came n inner) moment.0 in
      let report : s.report ≡ t.report = s.sees.reported logs.came logs.first
      ∙ (report_alike old.logs other.logs logs (with_event logs.came s.now inner) (with_event logs.came t.now inner) s.now t.now came moment.0 ∙ sym (t.sees.reported logs.came logs.second)) in
      let seen : violation old.grace.options.minimum_throughput (download_rate s.report) ≡ violation other.grace.options.minimum_throughput (download_rate t.report) =
      λ i. violation (alike.grace i).options.minimum_throughput (download_rate (report i)) in
      let granted = grants_alike makes steady sleeps (violation other.grace.options.minimum_throughput (download_rate t.report)) other.grace s.said t.said new.grace more.grace s.granting t.granting calls later
      moment.1.state made too (passed_had inner a s.said s.answered) (passed_had inner b t.said t.answered)
      (subst (λ v. Grants sleeps v other.grace s.said new.grace s.granting) seen
      (subst (λ g. Grants sleeps (violation old.grace.options.minimum_throughput (download_rate s.report)) g s.said new.grace s.granting) alike.grace s.grants))
      t.grants moment.1.first moment.1.second in (
        same_ok (passed inner s.said) a b s.answered (ap (passed inner) granted.0 ∙ sym t.answered),
        record {
          logs = left_alike old.logs other.logs new.logs more.logs (with_event logs.came s.now inner ++ Looked s.now ∷ []) (with_event logs.came t.now inner ++ Looked t.now ∷ []) logs s.sees.settings t.sees.settings
              (λ i. with_event logs.came (moment.0 i) inner ++ Looked (moment.0 i) ∷ []) (s.sees.kept logs.came logs.first) (t.sees.kept logs.came logs.second);
          grace = granted.1;
        },
        granted.2,
      )

  judges_by : (over sleeps : Bool) (old other new more : ThroughputGuard) (inner a b : Polled) (judging judged : List TimersCall) (calls later : List OutsideCall) (from made too : X)
      → ThroughputsAlike old other → JudgesBy over sleeps old inner (Ok a) new judging → JudgesBy over sleeps other inner (Ok b) more judged
      → Chained makes from (map OfTimers judging ++ calls) made → Chained makes from (map OfTimers judged ++ later) too → (a ≡ b) × ThroughputsAlike new more × Onward makes calls later made too
  judges_by true sleeps old other new more inner a b judging judged calls later from made too alike s t did again = (
    same_ok (Ok inner) a b s.0 (sym t.0),
    subst (λ x. ThroughputsAlike x more) (sym s.1) (subst (λ x. ThroughputsAlike old x) (sym t.1) alike),
    timed_past makes steady judging judged [] calls later from made too s.2 t.2 did again,
  )
  judges_by false sleeps old other new more inner a b judging judged calls later from made too alike s t did again = looks_alike sleeps old other new more inner a b judging judged calls later from made too alike s t did again

  nothing_past : (calls more : List OutsideCall) (front other : List OutsideCall) (old made too : X) → front ≡ [] → other ≡ [] → Chained makes old (front ++ calls) made → Chained makes old (other ++ more) too → Onward makes calls more made too
  nothing_past calls more front other old made too p q did again =
      record { state = old; first = subst (λ l. Chained makes old (l ++ calls) made) p did; second = subst (λ l. Chained makes old (l ++ more) too) q again }

  throughput_alike : (sleeps : Bool) (old other new more : Option ThroughputGuard) (frame also a b : Polled) (judging judged calls later : List OutsideCall) (from made too : X)
      → MaybeAlike ThroughputsAlike old other → frame ≡ also → ThroughputPasses sleeps old frame a new judging → ThroughputPasses sleeps other also b more judged
      → Chained makes from (judging ++ calls) made → Chained makes from (judged ++ later) too → (a ≡ b) × MaybeAlike ThroughputsAlike new more × Onward makes calls later made too
  throughput_alike sleeps None None new more frame also a b judging judged calls later from made too alike same s t did again =
      (s.0 ∙ (same ∙ sym t.0), subst (λ x. MaybeAlike ThroughputsAlike x more) (sym s.1) (subst (λ x. MaybeAlike ThroughputsAlike None x) (sym t.1) tt), nothing_past calls later judging judged from made too s.2 t.2 did again)
  throughput_alike sleeps None (Some other) new more frame also a b judging judged calls later from made too alike same s t did again = absurd alike
  throughput_alike sleeps (Some old) None new more frame also a b judging judged calls later from made too alike same s t did again = absurd alike
  throughput_alike sleeps (Some old) (Some other) (Some new) (Some more) frame also a b judging judged calls later from made too alike same s t did again =
      judges_by (ends also) sleeps old other new more also a b s.0 t.0 calls later from made too alike (subst (λ f. Judges sleeps old f (Ok a) new s.0) same s.1) t.1
      (subst (λ l. Chained makes from (l ++ calls) made) s.2 did) (subst (λ l. Chained makes from (l ++ later) too) t.2 again)
  throughput_alike sleeps (Some old) (Some other) None more frame also a b judging judged calls later from made too alike same s t did again = absurd s
  throughput_alike sleeps (Some old) (Some other) (Some new) None frame also a b judging judged calls later from made too alike same s t did again = absurd t

  -- what the guards make of a frame
  pub passes_alike : (sleeps : Bool) (old other new more : Guards) (frame a b : Polled) (judging judged calls later : List OutsideCall) (from made too : X)
      → GuardsAlike old other → Passes sleeps old frame a new judging → Passes sleeps other frame b more judged
      → Chained makes from (judging ++ calls) made → Chained makes from (judged ++ later) too → (a ≡ b) × GuardsAlike new more × Onward makes calls later made too
  passes_alike sleeps old other new more frame a b judging judged calls later from made too alike s t did again =
      let length = length_alike old.length other.length new.length more.length frame s.enforced t.enforced alike.length s.length t.length in
      let rate = throughput_alike sleeps old.throughput other.throughput new.throughput more.throughput s.enforced t.enforced a b judging judged calls later from made too alike.throughput length.0 s.throughput t.throughput did again in
      (rate.0, record { length = length.1; throughput = rate.1 }, rate.2)

  guards_throughput : (options : Option MinimumThroughputBodyOptions) (made more : Option ThroughputGuard) (setting set calls later : List OutsideCall) (from new also : X)
      → GuardsThroughput options made setting → GuardsThroughput options more set → Chained makes from (setting ++ calls) new → Chained makes from (set ++ later) also → MaybeAlike ThroughputsAlike made more × Onward makes calls later new also
  guards_throughput None made more setting set calls later from new also s t did again =
      (subst (λ x. MaybeAlike ThroughputsAlike x more) (sym s.0) (subst (λ x. MaybeAlike ThroughputsAlike None x) (sym t.0) tt), nothing_past calls later setting set from new also s.1 t.1 did again)
  guards_throughput (Some options) None more setting set calls later from new also s t did again = absurd s
  guards_throughput (Some options) (Some made) None setting set calls later from new also s t did again = absurd t
  guards_throughput (Some options) (Some made) (Some more) setting set calls later from new also (body, starting, s, setting_is) (other, started, t, set_is) did again =
      let moment = now_alike s.now t.now starting started [] [] calls later from new also s.calls_are t.calls_are
      (subst (λ l. Chained makes from (l ++ calls) new) setting_is did) (subst (λ l. Chained makes from (l ++ later) also) set_is again) in (
        record {
          logs = record { start = s.start ∙ (moment.0 ∙ sym t.start); resolution = s.resolution ∙ sym t.resolution; complete = s.complete ∙ sym t.complete; came = []; first = s.kept; second = t.kept };
          grace = s.grace ∙ sym t.grace;
        },
        moment.1,
      )

  pub sets_up_alike : (settings : StandingLayers) (response : Option HttpResponse) (made more : Guards) (setting set calls later : List OutsideCall) (from new also : X)
      → SetsUp settings response made setting → SetsUp settings response more set → Chained makes from (setting ++ calls) new → Chained makes from (set ++ later) also → GuardsAlike made more × Onward makes calls later new also
  sets_up_alike settings response made more setting set calls later from new also s t did again =
      let rate = guards_throughput (download_options (standing_stall settings)) made.throughput more.throughput setting set calls later from new also s.throughput t.throughput did again in
      (record { length = guards_length (enforces_length settings) response made.length more.length s.length t.length; throughput = rate.0 }, rate.1)

  -- ---- uploads

  pub upload_looks : (sleeps : Bool) (old other new more : Upload) (fault also : Option Fault) (looking looked calls later : List OutsideCall) (from made too : X)
      → UploadsAlike old other → Looks sleeps old fault new looking → Looks sleeps other also more looked
      → Chained makes from (looking ++ calls) made → Chained makes from (looked ++ later) too → (fault ≡ also) × UploadsAlike new more × Onward makes calls later made too
  upload_looks sleeps old other new more fault also looking looked calls later from made too alike s t did again =
      let logs = alike.log in
      let c = s.checks in
      let d = t.checks in
      let moment = now_alike c.now d.now s.checking t.checking c.granting d.granting calls later from made too c.calls_are d.calls_are
      (subst (λ l. Chained makes from (l ++ calls) made) s.calls_are did) (subst (λ l. Chained makes from (l ++ later) too) t.calls_are again) in
      let report : c.report ≡ d.report = c.reported logs.came logs.first ∙ (report_alike old.log other.log logs logs.came logs.came c.now d.now refl moment.0 ∙ sym (d.reported logs.came logs.second)) in
      let seen : violation old.check.grace.options.minimum_throughput (upload_rate c.report) ≡ violation other.check.grace.options.minimum_throughput (upload_rate d.report) =
      λ i. violation (alike.grace i).options.minimum_throughput (upload_rate (report i)) in
      let granted = grants_alike makes steady sleeps (violation other.check.grace.options.minimum_throughput (upload_rate d.report)) other.check.grace c.said d.said new.check.grace more.check.grace c.granting d.granting calls later
      moment.1.state made too (upload_had fault c.said c.answered) (upload_had also d.said d.answered)
      (subst (λ v. Grants sleeps v other.check.grace c.said new.check.grace c.granting) seen
      (subst (λ g. Grants sleeps (violation old.check.grace.options.minimum_throughput (upload_rate c.report)) g c.said new.check.grace c.granting) alike.grace c.grants))
      d.grants moment.1.first moment.1.second in (
        same_ok (upload_answer c.said) fault also c.answered (ap upload_answer granted.0 ∙ sym d.answered),
        record {
          log = left_alike old.log other.log new.log more.log (logs.came ++ Looked c.now ∷ []) (logs.came ++ Looked d.now ∷ []) logs c.settings d.settings (ap (λ n. logs.came ++ Looked n ∷ []) moment.0)
              (c.kept logs.came logs.first) (d.kept logs.came logs.second);
          grace = granted.1;
        },
        granted.2,
      )

  came_alike : (bytes : List ℕ) (now later : ℕ) (calls more : List OutsideCall) (old made too : X) → Chained makes old (map OfTimers (came_calls bytes now) ++ calls) made → Chained makes old (map OfTimers (came_calls bytes later) ++ more) too
      → (came_of bytes now ≡ came_of bytes later) × Onward makes calls more made too
  came_alike [] now later calls more old made too did again = (refl, record { state = old; first = did; second = again })
  came_alike (b ∷ bs) now later calls more old made too did again =
      let moment = onward makes steady (λ moment. OfTimers (Now moment)) steady.now now later calls more old made too did again in
      (ap (λ n. came_of (b ∷ bs) n) moment.0, moment.1)

  pub watches_alike : (options : MinimumThroughputBodyOptions) (bytes : List ℕ) (made more : Upload) (watching watched calls later : List OutsideCall) (from new also : X)
      → Watches options bytes made watching → Watches options bytes more watched → Chained makes from (watching ++ calls) new → Chained makes from (watched ++ later) also → UploadsAlike made more × Onward makes calls later new also
  watches_alike options bytes made more watching watched calls later from new also s t did again =
      let moment = now_alike s.start t.start (Now s.start ∷ came_calls bytes s.now) (Now t.start ∷ came_calls bytes t.now) (came_calls bytes s.now) (came_calls bytes t.now) calls later from new also refl refl
      (subst (λ l. Chained makes from (l ++ calls) new) s.calls_are did) (subst (λ l. Chained makes from (l ++ later) also) t.calls_are again) in
      let came = came_alike bytes s.now t.now calls later moment.1.state new also moment.1.first moment.1.second in (
        record {
          log = record {
            start = s.started ∙ (moment.0 ∙ sym t.started);
            resolution = s.resolution ∙ sym t.resolution;
            complete = s.complete ∙ sym t.complete;
            came = came_of bytes s.now;
            first = s.kept;
            second = subst (λ c. Keeps more.log c) (sym came.0) t.kept;
          };
          grace = s.check ∙ sym t.check;
        },
        came.1,
      )
