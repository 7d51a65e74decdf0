-- What a world keeps of a fleet's calls.
use Rattle.std.proofs.Common.{◌≡◌, ℕ, ◌⊎◌, inl, inr, zero, suc, List, [], ◌∷◌, ◌++◌, Ok, Some, None, Option, Bool, true, false, ap, sym, refl, ◌∙◌, append_assoc, subst, cond}
use Rattle.std.specs.Prelude.{IfSome, ◌==◌}
use Rattle.std.proofs.lemmas.List.{append-nil}
use Rattle.smithy_types.specs.Chain.{Chained}
use Rattle.smithy_types.specs.declared.timers.TimersCall.TheVariants.{Now, Ready, Start}
use Rattle.waiter_fleet.specs.declared.event.FleetEvent.{FleetEvent}
use Rattle.waiter_fleet.specs.declared.event.FleetEvent.TheVariants.{Poll, Sleep, Charged, Refused, End}
use Rattle.waiter_fleet.specs.Acts.{Act, calls_of, calls_with, events_of, open_sleep}
use Rattle.waiter_fleet.specs.Calls.{FleetAnswer, FleetCall, answered, awaited, drawn, drew, noted, parked, polled, started, timed, told, unanswered, unready, woken}
use Rattle.waiter_fleet.specs.Events.{waiter_of}
use Rattle.waiter_fleet.specs.Notes.{AreNotes, AreNotesOf, Keeps, Wakes}
use Rattle.waiter_fleet.specs.Steps.{Origin, Rest, unpolled, asleep, awoken}

pub chained-split : {T C : Type 0} (makes : T → C → T → Type 0) (xs ys : List C) (old new : T) → Chained makes old (xs ++ ys) new →
    (mid : T) × Chained makes old xs mid × Chained makes mid ys new
chained-split makes [] ys old new made = (old, refl, made)
chained-split makes (x ∷ xs) ys old new (next, done, made) =
    let rest = chained-split makes xs ys next new made in
    (rest.0, (next, done, rest.1), rest.2)

module _ {T : Type 0} (does : T → FleetCall → T → Type 0) (answers : T → List FleetAnswer) (moment : T → Option ℕ)
    (notes : (old : T) (call : FleetCall) (new : T) → does old call new → answers new ≡ answers old ++ noted (moment new) call)
    (tells : (old : T) (at : ℕ) (new : T) → does old (timed (Now at)) new → IfSome (moment old) (λ one. at ≡ one)) where
  kept-none : (old new : T) → new ≡ old → answers new ≡ answers old ++ []
  kept-none old new same = ap answers same ∙ sym (append-nil (answers old))

  kept-join : (old mid new : T) (xs ys : List FleetAnswer) → answers mid ≡ answers old ++ xs → answers new ≡ answers mid ++ ys →
      answers new ≡ answers old ++ (xs ++ ys)
  kept-join old mid new xs ys first second = second ∙ (ap (λ all. all ++ ys) first ∙ append_assoc (answers old) xs ys)

  unanswered-kept : (waiter times : ℕ) (old new : T) → Chained does old (unanswered waiter times) new → answers new ≡ answers old ++ []
  unanswered-kept waiter zero old new same = kept-none old new same
  unanswered-kept waiter (suc times) old new (asked, done, (mid, parks, made)) =
      kept-join old mid new [] [] (kept-join old asked mid [] [] (notes old (polled waiter (Ok None)) asked done) (notes asked parked mid parks))
      (unanswered-kept waiter times mid new made)

  unready-kept : (sleep times : ℕ) (old new : T) → Chained does old (unready sleep times) new → answers new ≡ answers old ++ []
  unready-kept sleep zero old new same = kept-none old new same
  unready-kept sleep (suc times) old new (asked, done, (mid, parks, made)) =
      kept-join old mid new [] [] (kept-join old asked mid [] [] (notes old (timed (Ready sleep false)) asked done) (notes asked parked mid parks))
      (unready-kept sleep times mid new made)

  awaited-kept : (sleep : Option ℕ) (times : ℕ) (old new : T) → Chained does old (awaited sleep times) new →
      (woke : List FleetAnswer) × Wakes woke × (answers new ≡ answers old ++ woke)
  awaited-kept None times old new same = ([], inl refl, kept-none old new same)
  awaited-kept (Some sleep) times old new made =
      let parts = chained-split does (unready sleep times) (timed (Ready sleep true) ∷ []) old new made in
      let over = parts.2 in (
        woken sleep ∷ [],
        inr (sleep, refl),
        kept-join old parts.0 new [] (woken sleep ∷ []) (unready-kept sleep times old parts.0 parts.1)
            (ap answers over.2 ∙ notes parts.0 (timed (Ready sleep true)) over.0 over.1),
      )

  paused-kept : (none : Bool) (nanos sleep : ℕ) (old new : T) → Chained does old (cond none [] (timed (Start nanos (Ok (Some sleep))) ∷ [])) new →
      answers new ≡ answers old ++ cond none [] (started nanos sleep ∷ [])
  paused-kept true nanos sleep old new same = kept-none old new same
  paused-kept false nanos sleep old new (mid, done, same) = ap answers same ∙ notes old (timed (Start nanos (Ok (Some sleep)))) mid done

  ask-kept : (before : Option ℕ) (times at : ℕ) (old new : T) → Chained does old (awaited before times ++ timed (Now at) ∷ []) new →
      (own : List FleetAnswer) × ((woke : List FleetAnswer) × Wakes woke × (own ≡ woke ++ told at ∷ [])) × (answers new ≡ answers old ++ own)
  ask-kept before times at old new made =
      let parts = chained-split does (awaited before times) (timed (Now at) ∷ []) old new made in
      let woke = awaited-kept before times old parts.0 parts.1 in
      let clock = parts.2 in (
        woke.0 ++ told at ∷ [],
        (woke.0, woke.1, refl),
        kept-join old parts.0 new woke.0 (told at ∷ []) woke.2 (ap answers clock.2 ∙ notes parts.0 (timed (Now at)) clock.0 clock.1),
      )

  act-kept : (event : FleetEvent) (times sleep : ℕ) (before : Option ℕ) (old new : T) → Chained does old (calls_with event times sleep before) new →
      (own : List FleetAnswer) × AreNotesOf event own × (answers new ≡ answers old ++ own)
  act-kept (Poll waiter number at seen state) times sleep before old new made =
      let parts = chained-split does (unanswered waiter times) (polled waiter (Ok (Some (seen, state))) ∷ timed (Now at) ∷ []) old new made in
      let poll = parts.2 in
      let clock = poll.2 in (
        answered waiter seen state (moment poll.0) ∷ told at ∷ [],
        (moment poll.0, tells poll.0 at clock.0 clock.1, refl),
        kept-join old parts.0 new [] (answered waiter seen state (moment poll.0) ∷ told at ∷ []) (unanswered-kept waiter times old parts.0 parts.1)
            (kept-join parts.0 poll.0 new (answered waiter seen state (moment poll.0) ∷ []) (told at ∷ [])
            (notes parts.0 (polled waiter (Ok (Some (seen, state)))) poll.0 poll.1)
            (ap answers clock.2 ∙ notes poll.0 (timed (Now at)) clock.0 clock.1)),
      )
  act-kept (Sleep waiter nanos elapsed word) times sleep before old new (mid, done, made) = (
    drawn word ∷ cond (nanos == 0) [] (started nanos sleep ∷ []),
    (sleep, refl),
    kept-join old mid new (drawn word ∷ []) (cond (nanos == 0) [] (started nanos sleep ∷ [])) (notes old (drew word) mid done)
        (paused-kept (nanos == 0) nanos sleep mid new made),
  )
  act-kept (Charged waiter at) times sleep before old new made = ask-kept before times at old new made
  act-kept (Refused waiter cost at) times sleep before old new made = ask-kept before times at old new made
  act-kept (End waiter ending) times sleep before old new same = ([], refl, kept-none old new same)

  acts-kept : (acts : List Act) (old new : T) → Chained does old (calls_of acts) new →
      (all : List FleetAnswer) × AreNotes (events_of acts) all × (answers new ≡ answers old ++ all)
  acts-kept [] old new same = ([], refl, kept-none old new same)
  acts-kept (act ∷ before) old new made =
      let own_calls = calls_with act.event act.times act.sleep (open_sleep (waiter_of act.event) before) in
      let parts = chained-split does (calls_of before) own_calls old new made in
      let earlier = acts-kept before old parts.0 parts.1 in
      let own = act-kept act.event act.times act.sleep (open_sleep (waiter_of act.event) before) parts.0 new parts.2 in
      (earlier.0 ++ own.0, (earlier.0, own.0, refl, earlier.1, own.1), kept-join old parts.0 new earlier.0 own.0 earlier.2 own.2)

  rest-kept : (o : Origin T) (start : ℕ) (acts : List Act) (rest : List FleetCall) (old new : T) → Rest does o start acts rest → Chained does old rest new →
      (last : List FleetAnswer) × Wakes last × (answers new ≡ answers old ++ last)
  rest-kept o start acts rest old new (unpolled waiter times turn paid) made = ([], inl refl, unanswered-kept waiter times old new made)
  rest-kept o start acts rest old new (asleep waiter sleep times turn unpaid is) made = ([], inl refl, unready-kept sleep times old new made)
  rest-kept o start acts rest old new (awoken waiter times turn unpaid) made = awaited-kept (open_sleep waiter acts) times old new made

  any_rest-kept : (o : Origin T) (start : ℕ) (acts : List Act) (rest : List FleetCall) (old new : T) → (rest ≡ []) ⊎ Rest does o start acts rest →
      Chained does old rest new → (last : List FleetAnswer) × Wakes last × (answers new ≡ answers old ++ last)
  any_rest-kept o start acts rest old new (inl none) made =
      let P : List FleetCall → Type 0 = λ calls. Chained does old calls new in
      ([], inl refl, kept-none old new (subst P none made))
  any_rest-kept o start acts rest old new (inr is) made = rest-kept o start acts rest old new is made

  pub keeps-made : (o : Origin T) (start : ℕ) (acts : List Act) (rest : List FleetCall) (old new : T) → (rest ≡ []) ⊎ Rest does o start acts rest →
      Chained does old (timed (Now start) ∷ (calls_of acts ++ rest)) new → Keeps start (events_of acts) (answers old) (answers new)
  keeps-made o start acts rest old new is (begun, clock, made) =
      let parts = chained-split does (calls_of acts) rest begun new made in
      let all = acts-kept acts begun parts.0 parts.1 in
      let last = any_rest-kept o start acts rest parts.0 new is parts.2 in
      record {
        notes = all.0;
        last = last.0;
        are = all.1;
        woke = last.1;
        kept = kept-join old begun new (told start ∷ []) (all.0 ++ last.0) (notes old (timed (Now start)) begun clock)
            (kept-join begun parts.0 new all.0 last.0 all.2 last.2);
      }
