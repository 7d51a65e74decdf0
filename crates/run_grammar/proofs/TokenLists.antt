-- The sample runs under Retry Behavior 2.1 are whole: the machine goes through each of them, call by call.
use Rattle.std.proofs.Common.{ℕ, List, refl}
use Rattle.smithy_types.specs.declared.config.RetryConfig.{RetryConfig}
use Rattle.smithy_types.specs.declared.config.RetrySpec.{RetrySpec}
use Rattle.smithy_types.specs.declared.fault.Fault.{Fault}
use Rattle.smithy_types.specs.declared.kinds.StopPoint.TheVariants as stops
use Rattle.run_grammar.specs.Entry.{pending, ready, fails}
use Rattle.run_grammar.specs.Fits.{fits}
use Rattle.run_grammar.specs.Change.{changed}
use Rattle.run_grammar.specs.Standing.{asked, step}
use Rattle.run_grammar.specs.Grammar.{run}
use Rattle.run_grammar.specs.Tests.{failed, delayed, went, went_on, started, not_streaming, body_read, decided_yes, decided_no_after, decided_delay, endpoint_stands, load_body, checkpoint_stands, failure_stands, timeout_stands, token_needed}
use Rattle.run_grammar.specs.Samples.{Parts}
use Rattle.run_grammar.specs.TokenRuns as runs
use Rattle.run_grammar.proofs.SampleLists.{Accepted, comes}

-- 61 calls
token_delays_accepted : (p : Parts) (r : RetryConfig) (x : RetrySpec) (b : List ℕ) (f : Fault) (d t : ℕ) → Accepted stops.None p.input (runs.token_delays p r x b f d t)
unfolding run failed delayed went went_on started not_streaming body_read decided_yes decided_no_after decided_delay endpoint_stands load_body checkpoint_stands failure_stands timeout_stands token_needed pending ready fails step asked changed
token_delays_accepted p r x b f d t =
    (refl, (refl, (refl, (refl, (refl, (refl, (refl, (refl, (refl, (refl, (refl, (refl, (refl, (refl, (refl, (refl, (refl, (refl, (refl, (refl, (refl, (refl, (refl, (refl, (refl, (refl, (refl, (refl, (refl, (refl, (refl, (refl, (refl, (refl, (refl, (refl, (refl, (refl, (refl, (refl, (refl, (refl, (refl, (refl, (refl, (refl, (refl, (refl, (refl, (refl, (refl, (refl, (refl, (refl, (refl, (refl, (refl, (refl, (refl, (refl, (refl, refl)))))))))))))))))))))))))))))))))))))))))))))))))))))))))))))

pub token_delays : runs.TokenDelays
unfolding step asked changed fits
token_delays p r x b f d t = comes stops.None p.input (runs.token_delays p r x b f d t) 61 _ (token_delays_accepted p r x b f d t) refl refl refl

-- 56 calls
token_refused_accepted : (p : Parts) (r : RetryConfig) (x : RetrySpec) (b : List ℕ) (f : Fault) → Accepted stops.None p.input (runs.token_refused p r x b f)
unfolding run failed delayed went went_on started not_streaming body_read decided_yes decided_no_after decided_delay endpoint_stands load_body checkpoint_stands failure_stands timeout_stands token_needed pending ready fails step asked changed
token_refused_accepted p r x b f =
    (refl, (refl, (refl, (refl, (refl, (refl, (refl, (refl, (refl, (refl, (refl, (refl, (refl, (refl, (refl, (refl, (refl, (refl, (refl, (refl, (refl, (refl, (refl, (refl, (refl, (refl, (refl, (refl, (refl, (refl, (refl, (refl, (refl, (refl, (refl, (refl, (refl, (refl, (refl, (refl, (refl, (refl, (refl, (refl, (refl, (refl, (refl, (refl, (refl, (refl, (refl, (refl, (refl, (refl, (refl, (refl, refl))))))))))))))))))))))))))))))))))))))))))))))))))))))))

pub token_refused : runs.TokenRefused
unfolding step asked changed fits
token_refused p r x b f = comes stops.None p.input (runs.token_refused p r x b f) 56 _ (token_refused_accepted p r x b f) refl refl refl

-- 37 calls
token_fails_accepted : (p : Parts) (r : RetryConfig) (x : RetrySpec) (b : List ℕ) (f : Fault) (d : ℕ) → Accepted stops.None p.input (runs.token_fails p r x b f d)
unfolding run failed delayed went went_on started not_streaming body_read decided_yes decided_no_after decided_delay endpoint_stands load_body checkpoint_stands failure_stands timeout_stands token_needed pending ready fails step asked changed
token_fails_accepted p r x b f d =
    (refl, (refl, (refl, (refl, (refl, (refl, (refl, (refl, (refl, (refl, (refl, (refl, (refl, (refl, (refl, (refl, (refl, (refl, (refl, (refl, (refl, (refl, (refl, (refl, (refl, (refl, (refl, (refl, (refl, (refl, (refl, (refl, (refl, (refl, (refl, (refl, (refl, refl)))))))))))))))))))))))))))))))))))))

pub token_fails : runs.TokenFails
unfolding step asked changed fits
token_fails p r x b f d = comes stops.None p.input (runs.token_fails p r x b f d) 37 _ (token_fails_accepted p r x b f d) refl refl refl

-- 36 calls
token_unslept_accepted : (p : Parts) (r : RetryConfig) (x : RetrySpec) (b : List ℕ) (f : Fault) (t : ℕ) → Accepted stops.None p.input (runs.token_unslept p r x b f t)
unfolding run failed delayed went went_on started not_streaming body_read decided_yes decided_no_after decided_delay endpoint_stands load_body checkpoint_stands failure_stands timeout_stands token_needed pending ready fails step asked changed
token_unslept_accepted p r x b f t =
    (refl, (refl, (refl, (refl, (refl, (refl, (refl, (refl, (refl, (refl, (refl, (refl, (refl, (refl, (refl, (refl, (refl, (refl, (refl, (refl, (refl, (refl, (refl, (refl, (refl, (refl, (refl, (refl, (refl, (refl, (refl, (refl, (refl, (refl, (refl, (refl, refl))))))))))))))))))))))))))))))))))))

pub token_unslept : runs.TokenUnslept
unfolding step asked changed fits
token_unslept p r x b f t = comes stops.None p.input (runs.token_unslept p r x b f t) 36 _ (token_unslept_accepted p r x b f t) refl refl refl

-- 38 calls
refusal_pauses_accepted : (p : Parts) (r : RetryConfig) (x : RetrySpec) (b : List ℕ) (f : Fault) (n : ℕ) → Accepted stops.None p.input (runs.refusal_pauses p r x b f n)
unfolding run failed delayed went went_on started not_streaming body_read decided_yes decided_no_after decided_delay endpoint_stands load_body checkpoint_stands failure_stands timeout_stands token_needed pending ready fails step asked changed
refusal_pauses_accepted p r x b f n =
    (refl, (refl, (refl, (refl, (refl, (refl, (refl, (refl, (refl, (refl, (refl, (refl, (refl, (refl, (refl, (refl, (refl, (refl, (refl, (refl, (refl, (refl, (refl, (refl, (refl, (refl, (refl, (refl, (refl, (refl, (refl, (refl, (refl, (refl, (refl, (refl, (refl, (refl, refl))))))))))))))))))))))))))))))))))))))

pub refusal_pauses : runs.RefusalPauses
unfolding step asked changed fits
refusal_pauses p r x b f n = comes stops.None p.input (runs.refusal_pauses p r x b f n) 38 _ (refusal_pauses_accepted p r x b f n) refl refl refl

-- 35 calls
refusal_unslept_accepted : (p : Parts) (r : RetryConfig) (x : RetrySpec) (b : List ℕ) (f : Fault) (n : ℕ) → Accepted stops.None p.input (runs.refusal_unslept p r x b f n)
unfolding run failed delayed went went_on started not_streaming body_read decided_yes decided_no_after decided_delay endpoint_stands load_body checkpoint_stands failure_stands timeout_stands token_needed pending ready fails step asked changed
refusal_unslept_accepted p r x b f n =
    (refl, (refl, (refl, (refl, (refl, (refl, (refl, (refl, (refl, (refl, (refl, (refl, (refl, (refl, (refl, (refl, (refl, (refl, (refl, (refl, (refl, (refl, (refl, (refl, (refl, (refl, (refl, (refl, (refl, (refl, (refl, (refl, (refl, (refl, (refl, refl)))))))))))))))))))))))))))))))))))

pub refusal_unslept : runs.RefusalUnslept
unfolding step asked changed fits
refusal_unslept p r x b f n = comes stops.None p.input (runs.refusal_unslept p r x b f n) 35 _ (refusal_unslept_accepted p r x b f n) refl refl refl

-- 41 calls
token_cut_accepted : (p : Parts) (r : RetryConfig) (x : RetrySpec) (b : List ℕ) (f : Fault) (n m t : ℕ) → Accepted stops.None p.input (runs.token_cut p r x b f n m t)
unfolding run failed delayed went went_on started not_streaming body_read decided_yes decided_no_after decided_delay endpoint_stands load_body checkpoint_stands failure_stands timeout_stands token_needed pending ready fails step asked changed
token_cut_accepted p r x b f n m t =
    (refl, (refl, (refl, (refl, (refl, (refl, (refl, (refl, (refl, (refl, (refl, (refl, (refl, (refl, (refl, (refl, (refl, (refl, (refl, (refl, (refl, (refl, (refl, (refl, (refl, (refl, (refl, (refl, (refl, (refl, (refl, (refl, (refl, (refl, (refl, (refl, (refl, (refl, (refl, (refl, (refl, refl)))))))))))))))))))))))))))))))))))))))))

pub token_cut : runs.TokenCut
unfolding step asked changed fits
token_cut p r x b f n m t = comes stops.None p.input (runs.token_cut p r x b f n m t) 41 _ (token_cut_accepted p r x b f n m t) refl refl refl

-- 40 calls
pause_cut_accepted : (p : Parts) (r : RetryConfig) (x : RetrySpec) (b : List ℕ) (f : Fault) (n m d : ℕ) → Accepted stops.None p.input (runs.pause_cut p r x b f n m d)
unfolding run failed delayed went went_on started not_streaming body_read decided_yes decided_no_after decided_delay endpoint_stands load_body checkpoint_stands failure_stands timeout_stands token_needed pending ready fails step asked changed
pause_cut_accepted p r x b f n m d =
    (refl, (refl, (refl, (refl, (refl, (refl, (refl, (refl, (refl, (refl, (refl, (refl, (refl, (refl, (refl, (refl, (refl, (refl, (refl, (refl, (refl, (refl, (refl, (refl, (refl, (refl, (refl, (refl, (refl, (refl, (refl, (refl, (refl, (refl, (refl, (refl, (refl, (refl, (refl, (refl, refl))))))))))))))))))))))))))))))))))))))))

pub pause_cut : runs.PauseCut
unfolding step asked changed fits
pause_cut p r x b f n m d = comes stops.None p.input (runs.pause_cut p r x b f n m d) 40 _ (pause_cut_accepted p r x b f n m d) refl refl refl
