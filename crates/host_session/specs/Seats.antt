-- What a message for a seat makes of it, and what the host is told.
use Rattle.std.specs.Prelude.{◌≡◌, ◌⊎◌, ℕ, true, List, [], ◌++◌, Option, Some, None}
use Rattle.run_grammar.specs.declared.answer.Entry.{Entry}
use Rattle.smithy_types.specs.declared.kinds.StopPoint.{StopPoint}
use Rattle.smithy_types.specs.declared.payload.Payload.{Payload}
use Rattle.orchestrate.specs.Handing.{HandedOn}
use Rattle.run_driver.specs.Driving.{RunsThrough, Stretches}
use Rattle.run_driver.specs.Running.{Goes, IsOver}
use Rattle.outside_scripted.specs.Wake.{IsNext}
use Rattle.outside_hosted.specs.declared.events.HostEvent.{HostEvent}
use Rattle.outside_hosted.specs.Telling.{after_told, told_of}
use Rattle.json_forms.specs.Lines.{line}
use Rattle.json_host.specs.Replies.{poison_text, told_text}
use Rattle.json_host.specs.declared.message.HostInvocation.{HostInvocation}
use Rattle.json_host.specs.declared.message.SeatMessage.{SeatMessage}
use Rattle.json_host.specs.declared.message.SeatMessage.TheVariants as message
use Rattle.json_print.specs.Print.{ending_data}
use Rattle.json_print.specs.declared.ending.Ending.{Ending}
use Rattle.host_session.specs.declared.seat.Seat.{Seat}
use Rattle.host_session.specs.declared.seat.SeatRun.{SeatRun}
use Rattle.host_session.specs.declared.seat.SeatTerms.{SeatTerms}
use Rattle.host_session.specs.Ending.{EndsBy, done_data, given_up_data, log_text}
use Rattle.host_session.specs.Handing.{fed}
use Rattle.host_session.specs.Meaning.{HostedMeaning}
use Rattle.host_session.specs.Running.{Starts, calls_of}

-- the client once the host fed the outside
abbrev pub feeding : {W : Type 0} → HostedMeaning W → ℕ → List HostEvent → W → W
feeding means moment events old = means.with_outside (fed moment events (means.outside old)) old

module _ {W : Type 0} (means : HostedMeaning W) where
  -- A run is driven on: the client answers what it asks, and the log grows by it. It asks nothing behind the first
  -- question where it has to wait.
  pub record Drives (old : W) (run : SeatRun) (new : W) (after : SeatRun) : Type 0 where
    pub related : HandedOn means.relates old new (means.calls old) (means.calls new)
    pub stretches : Stretches means.calls means.relates means.parks old new
    pub goes : (p : Payload) (stop : StopPoint) (before : List Entry) →
        Goes p stop run.driven before (means.calls old) → Goes p stop after.driven before (means.calls new)
    pub fuel : after.driven.fuel ≡ run.driven.fuel
    pub others : after ≡ record run { driven = after.driven }

  -- It waits: the host is told what is open, and of what is new only once.
  pub record Waits (world : W) (run : SeatRun) (terms : SeatTerms) (before : List ℕ) (new : Seat W) (text : List ℕ)
      : Type 0 where
    pub wake : Option ℕ
    pub next : IsNext (means.outside world).moment (means.outside world).sleeps wake
    pub text_is : text ≡ before ++ told_text terms.number (told_of wake (means.outside world))
    pub after : new ≡ record {
      world = means.with_outside (after_told (means.outside world)) world;
      run = Some run;
      terms = terms;
    }

  -- What is open is ended, and the host is told whose connection isn't used again.
  pub record Rests (number : ℕ) (old : W) (before : List ℕ) (new : W) (text : List ℕ) : Type 0 where
    pub ended : W
    pub ends : means.rests old ended
    pub after : new ≡ means.with_outside (after_told (means.outside ended)) ended
    pub text_is : text ≡ before ++ poison_text number (means.outside ended).poisoned

  -- It is over: nothing is open any more, and the host is told how it ended.
  pub record Closes (world : W) (run : SeatRun) (terms : SeatTerms) (before : List ℕ) (new : Seat W) (text : List ℕ)
      : Type 0 where
    pub told : List ℕ
    pub rest : Rests terms.number world before new.world told
    pub ending : Ending
    pub ends : EndsBy run ending
    pub over : IsOver run.driven
    pub text_is : text ≡ (told ++ log_text run.is_logged (means.calls new.world))
        ++ line (done_data terms.number (calls_of run) (ending_data ending))
    pub after : new ≡ record { world = new.world; run = None; terms = terms }

  -- The run is driven on from this client, until it has to wait or is over. It is told as over only where it never had to
  -- wait.
  pub record GoesOnAs (run : SeatRun) (old : W) (terms : SeatTerms) (before : List ℕ) (new : Seat W) (text : List ℕ)
      : Type 0 where
    pub world : W
    pub after : SeatRun
    pub drives : Drives old run world after
    pub told : ((means.parks world ≡ true) × Waits world after terms before new text)
        ⊎ (RunsThrough means.calls means.relates means.parks old world × Closes world after terms before new text)

  -- the run of the seat, where there is one
  abbrev pub GoesOn : Option SeatRun → W → SeatTerms → List ℕ → Seat W → List ℕ → Type 0
  GoesOn (Some run) old terms before new text = GoesOnAs run old terms before new text
  GoesOn None old terms before new text = (new ≡ record { world = old; run = None; terms = terms }) × (text ≡ before)

  -- A run is begun at this moment with an empty log, and driven on.
  pub record Begins (i : HostInvocation) (old : W) (terms : SeatTerms) (before : List ℕ) (new : Seat W) (text : List ℕ)
      : Type 0 where
    pub run : SeatRun
    pub starts : Starts i terms run
    pub goes_on : GoesOnAs run (feeding means i.moment [] (means.emptied old)) terms before new text

  -- The run is ended where it stands, and the host is told so.
  pub record GivesUp (run : SeatRun) (old : W) (terms : SeatTerms) (before : List ℕ) (new : Seat W) (text : List ℕ)
      : Type 0 where
    pub told : List ℕ
    pub rest : Rests terms.number old before new.world told
    pub text_is : text ≡ told ++ line (done_data terms.number (calls_of run) given_up_data)
    pub after : new ≡ record { world = new.world; run = None; terms = terms }

  -- the same where there may be no run
  abbrev pub GivesAnyUp : Option SeatRun → W → SeatTerms → List ℕ → Seat W → List ℕ → Type 0
  GivesAnyUp (Some run) old terms before new text = GivesUp run old terms before new text
  GivesAnyUp None old terms before new text =
      (new ≡ record { world = old; run = None; terms = terms }) × (text ≡ before)

  -- what a message makes of a seat that takes it
  abbrev pub Takes : SeatMessage → Seat W → List ℕ → Seat W → List ℕ → Type 0
  Takes (message.Invoke i) old before new text = Begins i old.world old.terms before new text
  Takes (message.At moment events) old before new text =
      GoesOn old.run (feeding means moment events old.world) old.terms before new text
  Takes (message.GiveUp moment) old before new text =
      GivesAnyUp old.run (feeding means moment [] old.world) old.terms before new text
