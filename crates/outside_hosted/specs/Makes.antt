-- What a call makes of a hosted outside.
use Rattle.std.specs.Prelude.{◌≡◌, ℕ, ◌+◌, ◌-◌, ◌^◌, ◌==◌, nat_le, nat_eq, Bool, true, false, not, ◌&&◌, ◌||◌, if◌then◌else◌}
use Rattle.std.specs.Prelude.{List, [], ◌∷◌, ◌++◌, Option, None, Some, Ok, Err, MatchBool, slice_get}
use Rattle.std.specs.Cmp.Lexicographic.{pointwise}
use Rattle.smithy_types.specs.declared.http.Body.TheVariants.{Taken}
use Rattle.smithy_types.specs.declared.polled.Polled.{Polled}
use Rattle.smithy_types.specs.declared.polled.Polled.TheVariants as polled
use Rattle.smithy_types.specs.declared.timers.TimersCall.{TimersCall}
use Rattle.smithy_types.specs.declared.timers.TimersCall.TheVariants.{Now, Start, Ready, GiveUp}
use Rattle.rand_pcg.specs.Pcg.{pcg64}
use Rattle.outside.specs.Calls.{OutsideCall, OfTimers, Begin, Poll, Frame, DropCall, Resolve, DropResolve, Word, Poison}
use Rattle.outside.specs.Calls.{Park}
use Rattle.outside.specs.declared.answers.IdentityPoll.{IdentityPoll}
use Rattle.outside.specs.declared.answers.IdentityPoll.TheVariants as identity
use Rattle.outside.specs.declared.answers.Sent.{Sent}
use Rattle.outside.specs.declared.answers.Sent.TheVariants as sent
use Rattle.outside_scripted.specs.Sleeps.{without}
use Rattle.outside_scripted.specs.Time.{later}
use Rattle.outside_hosted.specs.declared.body.HostBody.{HostBody}
use Rattle.outside_hosted.specs.declared.call.HostCall.{HostCall}
use Rattle.outside_hosted.specs.declared.call.HostCall.TheVariants.{Idle, Waiting, Streaming}
use Rattle.outside_hosted.specs.declared.events.HostFrame.{HostFrame}
use Rattle.outside_hosted.specs.declared.events.HostFrame.TheVariants.{Data, Trailers, End, Broken}
use Rattle.outside_hosted.specs.declared.events.HostIdentity.{HostIdentity}
use Rattle.outside_hosted.specs.declared.events.HostIdentity.TheVariants.{Loaded, NotLoaded}
use Rattle.outside_hosted.specs.declared.events.HostReply.TheVariants.{Response, NoResponse}
use Rattle.outside_hosted.specs.declared.hosted_outside.HostedOutside.{HostedOutside}
use Rattle.outside_hosted.specs.declared.load.HostLoad.{HostLoad}
use Rattle.outside_hosted.specs.Body.{behind, no_body}
use Rattle.outside_hosted.specs.Call.{call_has_news}
use Rattle.outside_hosted.specs.Load.{load_has_news, opened_load}
use Rattle.outside_hosted.specs.Order.{order_of}

-- one more, as far as the count has room
abbrev pub raised : ℕ → ℕ
raised n = if n == 2 ^ 64 - 1 then n else n + 1

-- The clock stands still. A sleep is over at the moment that is its number, and is open until it
-- is given up.
abbrev pub Ticks : HostedOutside → TimersCall → HostedOutside → Type 0
Ticks old (Now moment) new = (moment ≡ old.moment) × (new ≡ old)
Ticks old (Start nanos (Ok sleep)) new =
    (sleep ≡ Some (later old.moment nanos)) × (new ≡ record old { sleeps = old.sleeps ++ later old.moment nanos ∷ [] })
Ticks old (Start nanos (Err error)) new = new ≡ old
Ticks old (Ready sleep is_over) new = (is_over ≡ nat_le sleep old.moment) × (new ≡ old)
Ticks old (GiveUp sleep) new = new ≡ record old { sleeps = without sleep old.sleeps }

-- What came of the request is handed out, once. Behind a response its body comes, and behind a
-- failure nothing is open.
abbrev pub Hands : HostedOutside → HostCall → Sent → HostedOutside → Type 0
Hands old (Waiting number order (Some (Response status headers)) body) answer new =
    (answer ≡ sent.Response (record { status = status; headers = headers; body = Taken }))
    × (new ≡ record old { call = Streaming number body; has_given = true })
Hands old (Waiting number order (Some (NoResponse kind text)) body) answer new =
    (answer ≡ sent.Failed kind text)
    × (new ≡ record old { call = Idle; faults = raised old.faults; has_given = true })
Hands old (Waiting number order None body) answer new =
    (answer ≡ sent.Pending) × (new ≡ record old { call = Waiting number order None body })
Hands old Idle answer new = (answer ≡ sent.Pending) × (new ≡ record old { call = Idle })
Hands old (Streaming number body) answer new =
    (answer ≡ sent.Pending) × (new ≡ record old { call = Streaming number body })

-- The next frame of this call's body is handed out, and this body is left. Behind the end, and
-- where it broke off, nothing is open.
abbrev pub Flows : HostedOutside → ℕ → Option HostFrame → HostBody → Polled → HostedOutside → Type 0
Flows old number None rest answer new = (answer ≡ polled.Pending) × (new ≡ record old { call = Streaming number rest })
Flows old number (Some (Data bytes)) rest answer new =
    (answer ≡ polled.Data bytes) × (new ≡ record old { call = Streaming number rest; has_given = true })
Flows old number (Some Trailers) rest answer new =
    (answer ≡ polled.Trailers) × (new ≡ record old { call = Streaming number rest; has_given = true })
Flows old number (Some End) rest answer new =
    (answer ≡ polled.End) × (new ≡ record old { call = Idle; has_given = true })
Flows old number (Some (Broken fault)) rest answer new =
    (answer ≡ polled.Failed fault) × (new ≡ record old { call = Idle; faults = raised old.faults; has_given = true })

-- What is given where the body is asked. Without a call there is nothing to come, and before the
-- response nothing yet.
abbrev pub Gives : HostedOutside → HostCall → Polled → HostedOutside → Type 0
Gives old Idle answer new = (answer ≡ polled.End) × (new ≡ record old { call = Idle })
Gives old (Waiting number order reply body) answer new =
    (answer ≡ polled.Pending) × (new ≡ record old { call = Waiting number order reply body })
Gives old (Streaming number body) answer new = Flows old number (slice_get body.frames 0) (behind body) answer new

-- what came of the load is handed out, once
abbrev pub Loads : HostedOutside → HostLoad → Option HostIdentity → IdentityPoll → HostedOutside → Type 0
Loads old load None answer new =
    (answer ≡ identity.Pending)
    × (new ≡ record old { load = Some (record { id = load.id; is_told = load.is_told; answer = None }) })
Loads old load (Some (Loaded content)) answer new =
    (answer ≡ identity.Ready content) × (new ≡ record old { load = None; has_given = true })
Loads old load (Some (NotLoaded text)) answer new =
    (answer ≡ identity.Failed text) × (new ≡ record old { load = None; faults = raised old.faults; has_given = true })

-- a load of this scheme is opened
abbrev pub Opens : HostedOutside → List ℕ → IdentityPoll → HostedOutside → Type 0
Opens old id answer new = (answer ≡ identity.Pending) × (new ≡ record old { load = Some (opened_load id) })

-- an open load of this scheme is asked, and one of another scheme given up
abbrev pub Resolves : HostedOutside → List ℕ → Option HostLoad → IdentityPoll → HostedOutside → Type 0
Resolves old id None answer new = Opens old id answer new
Resolves old id (Some load) answer new =
    MatchBool (pointwise nat_eq load.id id) (Loads old load load.answer answer new) (Opens old id answer new)

-- whether something came that wasn't asked for yet
abbrev pub has_news : HostedOutside → Bool
has_news old = call_has_news old.call || load_has_news old.load

-- One call, with what it answered. A park waits for the host, but where something that came was handed out since the
-- last one, and more is left to be asked for.
abbrev pub Makes : HostedOutside → OutsideCall → HostedOutside → Type 0
Makes old (OfTimers call) new = Ticks old call new
Makes old (Begin request settings (Ok done)) new =
    new ≡ record old {
      call = Waiting old.calls (Some (order_of request settings)) None no_body;
      calls = raised old.calls;
    }
Makes old (Begin request settings (Err error)) new = new ≡ old
Makes old (Poll (Ok answer)) new = Hands old old.call answer new
Makes old (Poll (Err error)) new = ⊥
Makes old (Frame (Ok answer)) new = Gives old old.call answer new
Makes old (Frame (Err error)) new = ⊥
Makes old DropCall new = new ≡ record old { call = Idle }
Makes old (Resolve id (Ok answer)) new = Resolves old id old.load answer new
Makes old (Resolve id (Err error)) new = new ≡ record old { load = None }
Makes old DropResolve new = new ≡ record old { load = None }
Makes old (Word word) new =
    (word ≡ (pcg64 old.generator).0) × (new ≡ record old { generator = (pcg64 old.generator).1 })
Makes old (Poison number) new = new ≡ record old { poisoned = Some number }
Makes old Park new = new ≡ record old { is_parked = not (old.has_given && has_news old); has_given = false }
