-- The frames of one ask, one after another.
use Rattle.std.proofs.Common.{◌≡◌, ◌<◌, ◌+◌, ℕ, Bool, List, [], ◌∷◌, ◌++◌, length, Option, Some, None, Result, Ok, Err, IfOk, inl, inr, refl, sym, ap, subst, ◌∙◌, append-nil, append_assoc, length-append}
use Rattle.smithy_context.specs.StandingLayers.{StandingLayers}
use Rattle.smithy_types.specs.Chain.{Chained, ByCalls}
use Rattle.smithy_types.proofs.ChainLemmas.{chained_join, chained_more}
use Rattle.smithy_types.specs.declared.http.HttpResponse.{HttpResponse}
use Rattle.smithy_types.specs.declared.memory.OutOfMemory.{OutOfMemory}
use Rattle.outside.specs.Calls.{OutsideCall, Frame}
use Rattle.smithy_types.specs.Frames.{ends}
use Rattle.smithy_types.specs.declared.polled.Polled.{Polled}
use Rattle.run_grammar.specs.declared.answer.Answer.{Answer}
use Rattle.client_call.specs.declared.call.Call.{Call}
use Rattle.client_call.specs.declared.call.Call.TheVariants.{Reading as TheReading}
use Rattle.client_call.specs.declared.guards.Guards.{Guards}
use Rattle.client_call.specs.declared.reading.Reading.{Reading}
use Rattle.client_call.specs.declared.reading.Stop.{Stop}
use Rattle.client_call.specs.declared.reading.Stop.TheVariants.{Pending}
use Rattle.client_call.specs.Frames.{gathered, stop_of}
use Rattle.client_call.specs.Guarding.{Passes}
use Rattle.client_call.specs.Reading.{Asks, ClosesAs, GoesOn, Opens, Reads, ReadsOn, Runs, calls_of, closing}
use Rattle.client_call.proofs.ChainLemmas.{sleeps_along}

calls_of-more : (frames : List (List OutsideCall)) (calls : List OutsideCall) → calls_of (frames ++ calls ∷ []) ≡ calls_of frames ++ calls
calls_of-more [] calls = append-nil calls
calls_of-more (f ∷ fs) calls = ap (λ l. f ++ l) (calls_of-more fs calls) ∙ sym (append_assoc f (calls_of fs) calls)

module _ {X : Type 0} (makes : X → OutsideCall → X → Type 0) (sleeps : X → Bool)
    (stay : (o : X) (c : OutsideCall) (n : X) → makes o c n → sleeps n ≡ sleeps o) where
  -- so many frames were read, and the ask goes on
  pub record Went (old new : Reading) (x y : X) (count : ℕ) : Type 0 where
    pub frames : List (List OutsideCall)
    pub counted : length frames ≡ count
    pub go_on : Chained (GoesOn (sleeps x)) old frames new
    pub made : Chained makes x (calls_of frames) y

  same : (x y : X) (calls : List OutsideCall) → Chained makes x calls y → sleeps y ≡ sleeps x
  same x y calls h = sleeps_along makes sleeps stay x y calls h

  pub went_nowhere : (r : Reading) (x : X) → Went r r x x 0
  went_nowhere r x = record { frames = []; counted = refl; go_on = refl; made = refl }

  pub went_on : (old mid new : Reading) (x y z : X) (count : ℕ) → Went old mid x y count → ByCalls makes y (Asks (sleeps y) mid None new) z → Went old new x z (count + 1)
  went_on old mid new x y z count w by = record {
    frames = w.frames ++ by.calls ∷ [];
    counted = length-append w.frames (by.calls ∷ []) ∙ ap (λ n. n + 1) w.counted;
    go_on = chained_more (GoesOn (sleeps x)) old mid new w.frames by.calls w.go_on (subst (λ s. Asks s mid None new by.calls) (same x y (calls_of w.frames) w.made) by.these);
    made = subst (λ l. Chained makes x l z) (sym (calls_of-more w.frames by.calls)) (chained_join makes x y z (calls_of w.frames) by.calls w.made by.made);
  }

  pub stopped : (old mid new : Reading) (x y z : X) (count : ℕ) (stop : Stop) → count < 64 → Went old mid x y count → ByCalls makes y (Asks (sleeps y) mid (Some stop) new) z →
      ByCalls makes x (Runs (sleeps x) old stop new) z
  stopped old mid new x y z count stop below w by = record {
    calls = calls_of w.frames ++ by.calls;
    these = record {
      frames = w.frames;
      before = mid;
      go_on = w.go_on;
      last = by.calls;
      stops = inl (subst (λ n. n < 64) (sym w.counted) below, subst (λ s. Asks s mid (Some stop) new by.calls) (same x y (calls_of w.frames) w.made) by.these);
      calls_are = refl;
    };
    made = chained_join makes x y z (calls_of w.frames) by.calls w.made by.made;
  }

  pub had_enough : (old new : Reading) (x y : X) → Went old new x y 64 → ByCalls makes x (Runs (sleeps x) old Pending new) y
  had_enough old new x y w = record {
    calls = calls_of w.frames;
    these = record { frames = w.frames; before = new; go_on = w.go_on; last = []; stops = inr (w.counted, refl, refl, refl); calls_are = sym (append-nil (calls_of w.frames)) };
    made = w.made;
  }

  -- a frame was asked for, passed by the guards and taken in
  pub asked : (old new : Reading) (guards : Guards) (frame passed : Polled) (over : Bool) (r : Result (Option Stop) OutOfMemory) (x y z : X) →
      makes x (Frame (Ok frame)) y → over ≡ ends frame → ByCalls makes y (Passes (sleeps y) old.guards frame passed guards) z →
      IfOk r (λ stop. (stop ≡ stop_of old.bytes over passed) × (new ≡ record { bytes = gathered old.bytes passed; guards = guards })) →
      IfOk r (λ stop. ByCalls makes x (Asks (sleeps x) old stop new) z)
  asked old new guards frame passed over (Ok stop) x y z made o by (is, gathers) = record {
    calls = Frame (Ok frame) ∷ by.calls;
    these = record {
      frame = frame;
      passed = passed;
      judging = by.calls;
      passes =
          subst (λ g. Passes (sleeps x) old.guards frame passed g by.calls) (sym (ap (λ (t : Reading). t.guards) gathers))
          (subst (λ s. Passes s old.guards frame passed guards by.calls) (stay x (Frame (Ok frame)) y made) by.these);
      stop_is = is ∙ ap (λ b. stop_of old.bytes b passed) o;
      bytes_are = ap (λ (t : Reading). t.bytes) gathers;
      calls_are = refl;
    };
    made = (y, made, by.made);
  }
  asked old new guards frame passed over (Err e) x y z made o by h = tt

  -- an ask of an open body closes as its stop says
  pub closed : (old end : Reading) (call new : Call) (stop : Stop) (r : Result Answer OutOfMemory) (x y z : X) → call ≡ TheReading old →
      ByCalls makes x (Runs (sleeps x) old stop end) y → IfOk r (λ a. ClosesAs stop end a new) → Chained makes y (closing stop end) z →
      IfOk r (λ a. ByCalls makes x (ReadsOn (sleeps x) call a new) z)
  closed old end call new stop (Ok a) x y z is by closes rest = record {
    calls = by.calls ++ closing stop end;
    these = rw is (record { stop = stop; end = end; running = by.calls; runs = by.these; closes = closes; calls_are = refl });
    made = chained_join makes x y z by.calls (closing stop end) by.made rest;
  }
  closed old end call new stop (Err e) x y z is by closes rest = tt

  -- the body is opened and read on
  pub read : (settings : StandingLayers) (response : Option HttpResponse) (old opened new : Call) (r : Result Answer OutOfMemory) (x y z : X) →
      ByCalls makes x (Opens settings response old opened) y → IfOk r (λ a. ByCalls makes y (ReadsOn (sleeps y) opened a new) z) →
      IfOk r (λ a. ByCalls makes x (Reads (sleeps x) settings response old a new) z)
  read settings response old opened new (Ok a) x y z opens by = record {
    calls = opens.calls ++ by.calls;
    these = record {
      opened = opened;
      opening = opens.calls;
      opens = opens.these;
      reading = by.calls;
      reads = subst (λ s. ReadsOn s opened a new by.calls) (same x y opens.calls opens.made) by.these;
      calls_are = refl;
    };
    made = chained_join makes x y z opens.calls by.calls opens.made by.made;
  }
  read settings response old opened new (Err e) x y z opens by = tt
