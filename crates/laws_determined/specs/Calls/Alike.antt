-- When two calls at the connector are alike: nothing that is answered tells one from the other.
use Rattle.std.specs.Prelude.{◌≡◌, ℕ, List, Option, None, Some}
use Rattle.body_guard.specs.Length.{HasReceived}
use Rattle.client_call.specs.Guarding.{LengthGuard, ThroughputGuard}
use Rattle.client_call.specs.declared.call.Call.{Call}
use Rattle.client_call.specs.declared.call.Call.TheVariants.{Idle, Sending, Arrived, Reading, Left}
use Rattle.client_call.specs.declared.guards.Guards.{Guards}
use Rattle.client_call.specs.declared.reading.Reading.{Reading as OpenBody}
use Rattle.client_call.specs.declared.upload.Upload.{Upload}
use Rattle.stream_guard.specs.Logs.{Keeps, Log}
use Rattle.stream_guard.specs.Report.{Came}

-- the same settings, and the same events came to both
pub record LogsAlike (one two : Log) : Type 0 where
  pub start : one.start ≡ two.start
  pub resolution : one.resolution ≡ two.resolution
  pub complete : one.complete ≡ two.complete
  pub came : List Came
  pub first : Keeps one came
  pub second : Keeps two came

-- the same length is expected, and as many bytes came
pub record LengthsAlike (one two : LengthGuard) : Type 0 where
  pub expected : one.expected_length ≡ two.expected_length
  pub count : ℕ
  pub first : HasReceived one count
  pub second : HasReceived two count

-- logs that are alike, and the same grace
pub record ThroughputsAlike (one two : ThroughputGuard) : Type 0 where
  pub logs : LogsAlike one.logs two.logs
  pub grace : one.grace ≡ two.grace

-- logs that are alike, and the same grace
pub record UploadsAlike (one two : Upload) : Type 0 where
  pub log : LogsAlike one.log two.log
  pub grace : one.check.grace ≡ two.check.grace

-- both are absent, or alike
abbrev pub MaybeAlike : {A : Type 0} → (A → A → Type 0) → Option A → Option A → Type 0
MaybeAlike alike None None = Unit {0}
MaybeAlike alike None (Some two) = ⊥
MaybeAlike alike (Some one) None = ⊥
MaybeAlike alike (Some one) (Some two) = alike one two

-- each guard is absent from both, or alike
pub record GuardsAlike (one two : Guards) : Type 0 where
  pub length : MaybeAlike LengthsAlike one.length two.length
  pub throughput : MaybeAlike ThroughputsAlike one.throughput two.throughput

-- the same bytes so far, and guards that are alike
pub record BodiesAlike (one two : OpenBody) : Type 0 where
  pub bytes : one.bytes ≡ two.bytes
  pub guards : GuardsAlike one.guards two.guards

-- both calls stand at the same step, and what is open there is alike
abbrev pub OpenAlike : Call → Call → Type 0
OpenAlike Idle Idle = Unit {0}
OpenAlike (Sending one) (Sending two) = MaybeAlike UploadsAlike one two
OpenAlike Arrived Arrived = Unit {0}
OpenAlike (Reading one) (Reading two) = BodiesAlike one two
OpenAlike Left Left = Unit {0}
OpenAlike one two = ⊥

-- a call over an outside
pub record Calls (X : Type 0) : Type 0 where
  pub outside : X
  pub call : Call

-- one outside, and calls that are alike
pub record CallsAlike {X : Type 0} (one two : Calls X) : Type 0 where
  pub outside : one.outside ≡ two.outside
  pub call : OpenAlike one.call two.call
