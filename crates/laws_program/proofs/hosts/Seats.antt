-- What a seat tells its host is determined.
use Rattle.std.proofs.Common.{◌≡◌, ◌∙◌, ◌⊎◌, inl, inr, refl, sym, ap, subst, ℕ, true, false, List, [], ◌++◌, Option, None, Some, arith}
use Rattle.std.proofs.lemmas.Bool.{false≢true}
use Rattle.cli_serve.specs.Means.{client_means}
use Rattle.cli_serve.specs.Opening.{ServedClient}
use Rattle.client_retries.specs.Meanings.{InterceptorMeans}
use Rattle.host_session.specs.Ending.{EndsBy, done_data, given_up_data, log_text}
use Rattle.host_session.specs.Running.{calls_of}
use Rattle.host_session.specs.Seats.{Begins, Closes, GivesAnyUp, GivesUp, GoesOn, GoesOnAs, Rests, Takes, Waits, feeding}
use Rattle.host_session.specs.declared.seat.Seat.{Seat}
use Rattle.host_session.specs.declared.seat.SeatRun.{SeatRun}
use Rattle.host_session.specs.declared.seat.SeatTerms.{SeatTerms}
use Rattle.json_forms.specs.Lines.{line}
use Rattle.json_host.specs.Replies.{poison_text, told_text}
use Rattle.json_host.specs.declared.message.SeatMessage.{SeatMessage}
use Rattle.json_host.specs.declared.message.SeatMessage.TheVariants as message
use Rattle.json_print.proofs.determined.Endings.{one_ending}
use Rattle.json_print.specs.Endings.{Ends}
use Rattle.json_print.specs.Print.{ending_data}
use Rattle.json_print.specs.declared.ending.Ending.{Ending}
use Rattle.json_print.specs.declared.head.RunHead.{RunHead}
use Rattle.outside_hosted.specs.Telling.{told_of}
use Rattle.outside_hosted.specs.declared.hosted_outside.HostedOutside.{HostedOutside}
use Rattle.outside_scripted.proofs.DeterminedLemmas.{wakes}
use Rattle.outside_scripted.specs.Wake.{IsLeastAbove, IsNext, NothingAbove}
use Rattle.run_driver.specs.Driving.{RunsThrough}
use Rattle.run_grammar.specs.declared.answer.Answer.TheVariants as answers
use Rattle.run_grammar.specs.declared.answer.Entry.{Entry}
use Rattle.smithy_context.specs.declared.context.InterceptorContext.{InterceptorContext}
use Rattle.smithy_types.specs.declared.notes.RetryAction.{RetryAction}
use Rattle.laws_determined.proofs.client.Answered.{ends_alike}
use Rattle.laws_determined.specs.Retries.Kinds.{RunsAlike}
use Rattle.laws_program.proofs.clients.Invoked.{paces, pays, pays_from}
use Rattle.laws_program.proofs.hosts.Parts.{plain}
use Rattle.laws_program.proofs.hosts.Running.{GoingAlike, Halts, UnderWayAlike, awake_through, begun_alike, drives_alike, same_calls}
use Rattle.laws_program.proofs.hosts.Worlds.{HaltedAlike, WorldsAlike, emptied_alike, fed_alike, means, told_alike}

none_next : (moment : ℕ) (dues : List ℕ) (a : ℕ) → IsLeastAbove moment dues a → NothingAbove moment dues → ⊥
none_next moment dues a p q =
    let low = q a p.is_due in
    let high = p.above in omega (arith, low, high)

-- there is one next moment
next_once : (moment : ℕ) (dues : List ℕ) (a b : Option ℕ) → IsNext moment dues a → IsNext moment dues b → a ≡ b
next_once moment dues None None p q = refl
next_once moment dues None (Some b) p q = absurd (none_next moment dues b q p)
next_once moment dues (Some a) None p q = absurd (none_next moment dues a p q)
next_once moment dues (Some a) (Some b) p q = ap Some (wakes moment dues a b (inl p) (inl q))

same_head : (h k : RunHead) (m n : ℕ) → h ≡ k → m ≡ n → record h { fuel = m } ≡ record k { fuel = n }
same_head h k m n p q = λ i. record (p i) { fuel = q i }

module _ {C I : Type 0} where
  -- two seats whose clients are alike, with runs of which each has made its log
  pub record SeatsAlike (alike : ServedClient C I → ServedClient C I → Type 0) (one two : Seat (ServedClient C I)) : Type 0 where
    pub worlds : alike one.world two.world
    pub run : UnderWayAlike one.run two.run one.world.components.log two.world.components.log
    pub terms : one.terms ≡ two.terms

  -- the same was told, and what is left is alike
  pub record ToldAlike (new more : Seat (ServedClient C I)) (text other : List ℕ) : Type 0 where
    pub seats : SeatsAlike WorldsAlike new more
    pub text_is : text ≡ other

  -- so it is of a client at rest
  record RestsAlike (new more : ServedClient C I) (text other : List ℕ) : Type 0 where
    worlds : WorldsAlike new more
    text_is : text ≡ other

  module _ (says : C → InterceptorContext → RetryAction → RetryAction) (chain : InterceptorMeans I) (runs : RunsAlike chain.runs) (terms : SeatTerms) (before : List ℕ) where
    by_others : (new base more also : Seat (ServedClient C I)) → new ≡ base → more ≡ also → SeatsAlike WorldsAlike base also → SeatsAlike WorldsAlike new more
    by_others new base more also p q alike = subst (λ x. SeatsAlike WorldsAlike x more) (sym p) (subst (λ x. SeatsAlike WorldsAlike base x) (sym q) alike)

    worlds_by : (new base more also : ServedClient C I) → new ≡ base → more ≡ also → WorldsAlike base also → WorldsAlike new more
    worlds_by new base more also p q alike = subst (λ x. WorldsAlike x more) (sym p) (subst (λ x. WorldsAlike base x) (sym q) alike)

    -- a seat without a run
    resting : (one two : ServedClient C I) → WorldsAlike one two → SeatsAlike WorldsAlike (record { world = one; run = None; terms = terms }) (record { world = two; run = None; terms = terms })
    resting one two alike = record { worlds = alike; run = tt; terms = refl }

    -- ---- a run waits, or is over

    waits_alike : (one two : ServedClient C I) (run other_run : SeatRun) (new more : Seat (ServedClient C I)) (text other : List ℕ) → HaltedAlike one two → GoingAlike run other_run one.components.log two.components.log
        → Waits (means says chain) one run terms before new text → Waits (means says chain) two other_run terms before more other → ToldAlike new more text other
    waits_alike one two run other_run new more text other alike going s t =
        let outside = alike.parts.outside in
        let wake : s.wake ≡ t.wake = next_once two.components.parts.outside.moment two.components.parts.outside.sleeps s.wake t.wake
        (subst (λ (o : HostedOutside). IsNext o.moment o.sleeps s.wake) outside s.next) t.next in
        record {
          seats = by_others new _ more _ s.after t.after (record { worlds = told_alike says chain one two alike; run = going; terms = refl });
          text_is = s.text_is ∙ (λ i. before ++ told_text terms.number (told_of (wake i) (outside i))) ∙ sym t.text_is;
        }

    rests_alike : (old two new more : ServedClient C I) (text other : List ℕ) → HaltedAlike old two → Rests (means says chain) terms.number old before new text → Rests (means says chain) terms.number two before more other
        → RestsAlike new more text other
    rests_alike old two new more text other alike s t =
        let ended = ends_alike pays_from pays paces (client_means says chain) (plain says chain runs) old.components.parts two.components.parts s.ended.components.parts t.ended.components.parts
        answers.Absent answers.Absent alike.parts s.ends.0 t.ends.0 in
        let halted : HaltedAlike s.ended t.ended = record { parts = ended; log = s.ends.1 ∙ alike.log ∙ sym t.ends.1 } in
        record {
          worlds = worlds_by new _ more _ s.after t.after (told_alike says chain s.ended t.ended halted);
          text_is = s.text_is ∙ ap (λ (o : HostedOutside). before ++ poison_text terms.number o.poisoned) ended.outside ∙ sym t.text_is;
        }

    -- it has one ending
    ends_once : (run other_run : SeatRun) (log other : List Entry) (first second : Ending) → log ≡ other → GoingAlike run other_run log other → EndsBy run first → EndsBy other_run second → first ≡ second
    ends_once run other_run log other first second logs going s t =
        one_ending (record run.head { fuel = calls_of run }) run.head.stop log first second (s log going.first)
        (subst (λ (h : RunHead). Ends h [] log second) (sym (same_head run.head other_run.head (calls_of run) (calls_of other_run) going.head (same_calls run other_run log other logs going)))
        (subst (λ (l : List Entry). Ends (record other_run.head { fuel = calls_of other_run }) [] l second) (sym logs) (t other going.second)))

    closes_alike : (one two : ServedClient C I) (run other_run : SeatRun) (new more : Seat (ServedClient C I)) (text other : List ℕ) → HaltedAlike one two → GoingAlike run other_run one.components.log two.components.log
        → Closes (means says chain) one run terms before new text → Closes (means says chain) two other_run terms before more other → ToldAlike new more text other
    closes_alike one two run other_run new more text other alike going s t =
        let rest = rests_alike one two new.world more.world s.told t.told alike s.rest t.rest in
        let calls = same_calls run other_run one.components.log two.components.log alike.log going in
        let ending = ends_once run other_run one.components.log two.components.log s.ending t.ending alike.log going s.ends t.ends in
        record {
          seats = by_others new _ more _ s.after t.after (resting new.world more.world rest.worlds);
          text_is = s.text_is ∙ (λ i. (rest.text_is i ++ log_text (going.is_logged i) (rest.worlds.halted.log i)) ++ line (done_data terms.number (calls i) (ending_data (ending i)))) ∙ sym t.text_is;
        }

    gives_up_alike : (one two : ServedClient C I) (run other_run : SeatRun) (new more : Seat (ServedClient C I)) (text other : List ℕ) → HaltedAlike one two → GoingAlike run other_run one.components.log two.components.log
        → GivesUp (means says chain) run one terms before new text → GivesUp (means says chain) other_run two terms before more other → ToldAlike new more text other
    gives_up_alike one two run other_run new more text other alike going s t =
        let rest = rests_alike one two new.world more.world s.told t.told alike s.rest t.rest in
        let calls = same_calls run other_run one.components.log two.components.log alike.log going in
        record {
          seats = by_others new _ more _ s.after t.after (resting new.world more.world rest.worlds);
          text_is = s.text_is ∙ (λ i. rest.text_is i ++ line (done_data terms.number (calls i) given_up_data)) ∙ sym t.text_is;
        }

    -- ---- a run is driven on

    abbrev Told : ServedClient C I → SeatRun → ServedClient C I → SeatRun → Seat (ServedClient C I) → List ℕ → Type 0
    Told old run world after new text =
        ((world.components.parts.outside.is_parked ≡ true) × Waits (means says chain) world after terms before new text)
        ⊎ (RunsThrough (means says chain).calls (means says chain).relates (means says chain).parks old world × Closes (means says chain) world after terms before new text)

    halts : (old : ServedClient C I) (run : SeatRun) (world : ServedClient C I) (after : SeatRun) (new : Seat (ServedClient C I)) (text : List ℕ) → Told old run world after new text → Halts says chain world after
    halts old run world after new text (inl (parked, s)) = inl parked
    halts old run world after new text (inr (through, s)) = inr s.over

    met : (old two : ServedClient C I) (run other_run : SeatRun) (world other_world : ServedClient C I) (after rest : SeatRun) (new more : Seat (ServedClient C I)) (text other : List ℕ) → old.components.parts.outside.is_parked ≡ false → two.components.parts.outside.is_parked ≡ false
        → HaltedAlike world other_world → GoingAlike after rest world.components.log other_world.components.log → Told old run world after new text → Told two other_run other_world rest more other → ToldAlike new more text other
    met old two run other_run world other_world after rest new more text other awake up alike going (inl (parked, s)) (inl (waits, t)) = waits_alike world other_world after rest new more text other alike going s t
    met old two run other_run world other_world after rest new more text other awake up alike going (inl (parked, s)) (inr (through, t)) =
        absurd (false≢true (sym (awake_through says chain two other_world through up) ∙ ap (λ (o : HostedOutside). o.is_parked) (sym alike.parts.outside) ∙ parked))
    met old two run other_run world other_world after rest new more text other awake up alike going (inr (through, s)) (inl (parked, t)) =
        absurd (false≢true (sym (awake_through says chain old world through awake) ∙ ap (λ (o : HostedOutside). o.is_parked) alike.parts.outside ∙ parked))
    met old two run other_run world other_world after rest new more text other awake up alike going (inr (through, s)) (inr (along, t)) = closes_alike world other_world after rest new more text other alike going s t

    goes_on_as : (old two : ServedClient C I) (run other_run : SeatRun) (new more : Seat (ServedClient C I)) (text other : List ℕ) → WorldsAlike old two → GoingAlike run other_run old.components.log two.components.log
        → GoesOnAs (means says chain) run old terms before new text → GoesOnAs (means says chain) other_run two terms before more other → ToldAlike new more text other
    goes_on_as old two run other_run new more text other alike going s t =
        let ended = drives_alike says chain runs run other_run s.after t.after old two s.world t.world alike going s.drives t.drives
        (halts old run s.world s.after new text s.told) (halts two other_run t.world t.after more other t.told) in
        met old two run other_run s.world t.world s.after t.after new more text other alike.awake (ap (λ (o : HostedOutside). o.is_parked) (sym alike.halted.parts.outside) ∙ alike.awake) ended.halted ended.going s.told t.told

    goes_on : (old two : ServedClient C I) (run other_run : Option SeatRun) (new more : Seat (ServedClient C I)) (text other : List ℕ) → WorldsAlike old two → UnderWayAlike run other_run old.components.log two.components.log
        → GoesOn (means says chain) run old terms before new text → GoesOn (means says chain) other_run two terms before more other → ToldAlike new more text other
    goes_on old two None None new more text other alike going s t = record { seats = by_others new _ more _ s.0 t.0 (resting old two alike); text_is = s.1 ∙ sym t.1 }
    goes_on old two None (Some run) new more text other alike going s t = absurd going
    goes_on old two (Some run) None new more text other alike going s t = absurd going
    goes_on old two (Some run) (Some other_run) new more text other alike going s t = goes_on_as old two run other_run new more text other alike going s t

    gives_any_up : (old two : ServedClient C I) (run other_run : Option SeatRun) (new more : Seat (ServedClient C I)) (text other : List ℕ) → WorldsAlike old two → UnderWayAlike run other_run old.components.log two.components.log
        → GivesAnyUp (means says chain) run old terms before new text → GivesAnyUp (means says chain) other_run two terms before more other → ToldAlike new more text other
    gives_any_up old two None None new more text other alike going s t = record { seats = by_others new _ more _ s.0 t.0 (resting old two alike); text_is = s.1 ∙ sym t.1 }
    gives_any_up old two None (Some run) new more text other alike going s t = absurd going
    gives_any_up old two (Some run) None new more text other alike going s t = absurd going
    gives_any_up old two (Some run) (Some other_run) new more text other alike going s t = gives_up_alike old two run other_run new more text other alike.halted going s t

    takes_by : (m : SeatMessage) (old two new more : Seat (ServedClient C I)) (text other : List ℕ) → old.terms ≡ terms → two.terms ≡ terms → SeatsAlike WorldsAlike old two
        → Takes (means says chain) m old before new text → Takes (means says chain) m two before more other → ToldAlike new more text other
    takes_by (message.Invoke i) old two new more text other own its alike s t =
        let one : Begins (means says chain) i old.world terms before new text = subst (λ (x : SeatTerms). Begins (means says chain) i old.world x before new text) own s in
        let two_begins : Begins (means says chain) i two.world terms before more other = subst (λ (x : SeatTerms). Begins (means says chain) i two.world x before more other) its t in
        goes_on_as (feeding (means says chain) i.moment [] ((means says chain).emptied old.world)) (feeding (means says chain) i.moment [] ((means says chain).emptied two.world)) one.run two_begins.run new more text other
        (fed_alike says chain i.moment [] ((means says chain).emptied old.world) ((means says chain).emptied two.world) (emptied_alike says chain old.world two.world alike.worlds))
        (begun_alike i terms one.run two_begins.run one.starts two_begins.starts) one.goes_on two_begins.goes_on
    takes_by (message.At moment events) old two new more text other own its alike s t =
        goes_on (feeding (means says chain) moment events old.world) (feeding (means says chain) moment events two.world) old.run two.run new more text other (fed_alike says chain moment events old.world two.world alike.worlds) alike.run
        (subst (λ (x : SeatTerms). GoesOn (means says chain) old.run (feeding (means says chain) moment events old.world) x before new text) own s)
        (subst (λ (x : SeatTerms). GoesOn (means says chain) two.run (feeding (means says chain) moment events two.world) x before more other) its t)
    takes_by (message.GiveUp moment) old two new more text other own its alike s t =
        gives_any_up (feeding (means says chain) moment [] old.world) (feeding (means says chain) moment [] two.world) old.run two.run new more text other (fed_alike says chain moment [] old.world two.world alike.worlds) alike.run
        (subst (λ (x : SeatTerms). GivesAnyUp (means says chain) old.run (feeding (means says chain) moment [] old.world) x before new text) own s)
        (subst (λ (x : SeatTerms). GivesAnyUp (means says chain) two.run (feeding (means says chain) moment [] two.world) x before more other) its t)

  -- to a message two seats that are alike tell the same, and are alike afterwards
  pub takes_alike : (says : C → InterceptorContext → RetryAction → RetryAction) (chain : InterceptorMeans I) → RunsAlike chain.runs → (m : SeatMessage) (old two new more : Seat (ServedClient C I)) (before text other : List ℕ) → SeatsAlike WorldsAlike old two
      → Takes (means says chain) m old before new text → Takes (means says chain) m two before more other → ToldAlike new more text other
  takes_alike says chain runs m old two new more before text other alike s t = takes_by says chain runs two.terms before m old two new more text other alike.terms refl alike s t
