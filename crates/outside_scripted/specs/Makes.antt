-- What a call makes of a scripted outside.
use Rattle.std.specs.Prelude.{◌≡◌, ℕ, ◌+◌, ◌-◌, ◌^◌, ◌==◌, nat_le, if◌then◌else◌, List, [], ◌∷◌, ◌++◌, Option, None}
use Rattle.std.specs.Prelude.{Some, Ok, Err, MatchBool, option_to_list, drop, position, slice_get, unwrap_or, codes}
use Rattle.outside.specs.Calls.{OutsideCall, OfTimers, Begin, Poll, Frame, DropCall, Resolve, DropResolve, Word, Poison}
use Rattle.outside.specs.Calls.{Park}
use Rattle.outside.specs.declared.answers.IdentityPoll.{IdentityPoll}
use Rattle.outside.specs.declared.answers.IdentityPoll.TheVariants as identity
use Rattle.outside.specs.declared.answers.Sent.{Sent}
use Rattle.outside.specs.declared.answers.Sent.TheVariants as sent
use Rattle.smithy_types.specs.declared.http.Body.TheVariants.{Taken}
use Rattle.smithy_types.specs.declared.timers.TimersCall.{TimersCall}
use Rattle.smithy_types.specs.declared.timers.TimersCall.TheVariants.{Now, Start, Ready, GiveUp}
use Rattle.outside_scripted.specs.declared.call.OpenCall.TheVariants.{Idle, Streaming}
use Rattle.outside_scripted.specs.declared.scripted_outside.ScriptedOutside.{ScriptedOutside}
use Rattle.outside_scripted.specs.declared.records.IdentityAnswer.{IdentityAnswer}
use Rattle.outside_scripted.specs.declared.records.IdentityAnswer.TheVariants as source
use Rattle.outside_scripted.specs.declared.records.IdentityRecord.{IdentityRecord}
use Rattle.outside_scripted.specs.declared.records.RecordAnswer.{RecordAnswer}
use Rattle.outside_scripted.specs.declared.records.RecordAnswer.TheVariants as given
use Rattle.outside_scripted.specs.Call.{answer_at, call_of, call_due, Gives}
use Rattle.outside_scripted.specs.Loads.{due_at, due_of, has_id}
use Rattle.outside_scripted.specs.Sleeps.{without}
use Rattle.outside_scripted.specs.Time.{later}
use Rattle.outside_scripted.specs.Wake.{Wakes}
use Rattle.outside_scripted.specs.Words.{next_word, words_after}

-- one failure more was handed out, as far as the count has room
abbrev pub raised : ℕ → ℕ
raised faults = if faults == 2 ^ 64 - 1 then faults else faults + 1

-- The clock stands still. A sleep is over at the moment that is its number, and is open until it
-- is given up.
abbrev pub Ticks : ScriptedOutside → TimersCall → ScriptedOutside → Type 0
Ticks old (Now moment) new = (moment ≡ old.moment) × (new ≡ old)
Ticks old (Start nanos (Ok sleep)) new =
    (sleep ≡ Some (later old.moment nanos)) × (new ≡ record old { sleeps = old.sleeps ++ later old.moment nanos ∷ [] })
Ticks old (Start nanos (Err error)) new = new ≡ old
Ticks old (Ready sleep is_over) new = (is_over ≡ nat_le sleep old.moment) × (new ≡ old)
Ticks old (GiveUp sleep) new = new ≡ record old { sleeps = without sleep old.sleeps }

-- What has come of the request is handed out. A response that sets the clock sets it then, and the
-- first frame counts from that moment.
abbrev pub Hands : ScriptedOutside → Option RecordAnswer → Sent → ScriptedOutside → Type 0
Hands old None answer new = (answer ≡ sent.Pending) × (new ≡ old)
Hands old (Some (given.Failed kind text)) answer new =
    (answer ≡ sent.Failed kind text) × (new ≡ record old { call = Idle; faults = raised old.faults })
Hands old (Some (given.Response response)) answer new =
    (answer ≡ sent.Response (record { status = response.status; headers = response.headers; body = Taken }))
    × (new ≡ record old {
      moment = unwrap_or response.clock old.moment;
      call = Streaming (record {
        frames = response.frames;
        next = 0;
        repeat = response.repeat;
        since = unwrap_or response.clock old.moment;
      });
    })

-- the sources of the client's identities
abbrev pub identities_of : Option (List IdentityRecord) → List IdentityRecord
identities_of None = []
identities_of (Some identities) = identities

-- what a load that is over comes to
abbrev pub Loads : ScriptedOutside → IdentityAnswer → IdentityPoll → ScriptedOutside → Type 0
Loads old (source.Identity content) answer new = (answer ≡ identity.Ready content) × (new ≡ record old { load = None })
Loads old (source.Failed text) answer new =
    (answer ≡ identity.Failed text) × (new ≡ record old { load = None; faults = raised old.faults })

-- an ask for a load of this source, which is over at this moment
abbrev pub Asks : ScriptedOutside → ℕ → ℕ → IdentityAnswer → IdentityPoll → ScriptedOutside → Type 0
Asks old place due content answer new =
    MatchBool (nat_le due old.moment)
    (Loads old content answer new)
    ((answer ≡ identity.Pending) × (new ≡ record old { load = Some (record { source = place; due = due }) }))

-- an ask for a load of the source at this place; without a source it fails at once
abbrev pub AsksAt : ScriptedOutside → ℕ → Option IdentityRecord → IdentityPoll → ScriptedOutside → Type 0
AsksAt old place None answer new = Loads old (source.Failed (codes "no identity source")) answer new
AsksAt old place (Some found) answer new =
    Asks old place (due_of old.load place (later old.moment found.delay)) found.answer answer new

-- the first source of the auth scheme is asked
abbrev pub Resolves : ScriptedOutside → Option ℕ → IdentityPoll → ScriptedOutside → Type 0
Resolves old None answer new = AsksAt old 0 None answer new
Resolves old (Some place) answer new = AsksAt old place (slice_get (identities_of old.identities) place) answer new

-- when each thing that is open is due: sleeps, the request or the next frame, the load
abbrev pub dues : ScriptedOutside → List ℕ
dues old = old.sleeps ++ option_to_list (call_due old.call) ++ option_to_list (due_at old.load)

-- one call, with what it answered
abbrev pub Makes : ScriptedOutside → OutsideCall → ScriptedOutside → Type 0
Makes old (OfTimers call) new = Ticks old call new
Makes old (Begin request settings (Ok done)) new =
    new ≡ record old { records = drop 1 old.records; call = call_of old.moment (slice_get old.records 0) }
Makes old (Begin request settings (Err error)) new = ⊥
Makes old (Poll (Ok answer)) new = Hands old (answer_at old.moment old.call) answer new
Makes old (Poll (Err error)) new = ⊥
Makes old (Frame (Ok polled)) new = Gives old.moment old.call polled new.call × (new ≡ record old { call = new.call })
Makes old (Frame (Err error)) new = new ≡ old
Makes old DropCall new = new ≡ record old { call = Idle }
Makes old (Resolve id (Ok answer)) new = Resolves old (position (has_id id) (identities_of old.identities)) answer new
Makes old (Resolve id (Err error)) new = new ≡ old
Makes old DropResolve new = new ≡ record old { load = None }
Makes old (Word word) new = (word ≡ next_word old.words) × (new ≡ record old { words = words_after old.words })
Makes old (Poison number) new = new ≡ old
Makes old Park new = Wakes old.moment (dues old) new.moment × (new ≡ record old { moment = new.moment })
