-- The runs of two seats are driven on alike.
use Rattle.std.proofs.Common.{◌≡◌, ◌∙◌, ◌⊎◌, inl, inr, sym, ap, subst, ◌-◌, true, false, List, [], length, Option, None, Some, arith}
use Rattle.cli_serve.specs.Means.{client_means}
use Rattle.cli_serve.specs.Opening.{ServedClient}
use Rattle.client_retries.specs.Meanings.{InterceptorMeans}
use Rattle.host_session.specs.Running.{IsGoing, Starts, calls_of}
use Rattle.host_session.specs.Seats.{Drives}
use Rattle.host_session.specs.declared.seat.SeatRun.{SeatRun}
use Rattle.host_session.specs.declared.seat.SeatTerms.{SeatTerms}
use Rattle.json_host.specs.declared.message.HostInvocation.{HostInvocation}
use Rattle.json_print.specs.declared.head.RunHead.{RunHead}
use Rattle.orchestrate.proofs.Standings.{stands_begins_run}
use Rattle.outside_hosted.specs.declared.hosted_outside.HostedOutside.{HostedOutside}
use Rattle.run_driver.specs.Driving.{RunsThrough}
use Rattle.run_driver.specs.Running.{Goes, IsOver}
use Rattle.run_grammar.specs.Laws.{Begins, IsWhole}
use Rattle.run_grammar.specs.Standing.{start}
use Rattle.run_grammar.specs.declared.answer.Entry.{Entry}
use Rattle.smithy_context.specs.declared.context.InterceptorContext.{InterceptorContext}
use Rattle.smithy_types.specs.declared.kinds.StopPoint.{StopPoint}
use Rattle.smithy_types.specs.declared.notes.RetryAction.{RetryAction}
use Rattle.laws_determined.proofs.client.Driven.{driven_once, through_awake}
use Rattle.laws_determined.specs.Client.Driving.{Drives as DrivesOn}
use Rattle.laws_determined.specs.Retries.Kinds.{RunsAlike}
use Rattle.laws_program.proofs.clients.Invoked.{paces, pays, pays_from}
use Rattle.laws_program.proofs.hosts.Parts.{plain}
use Rattle.laws_program.proofs.hosts.Worlds.{HaltedAlike, WorldsAlike, means}

-- two runs of one head, of which each has made its log
pub record GoingAlike (one two : SeatRun) (log other : List Entry) : Type 0 where
  pub head : one.head ≡ two.head
  pub is_logged : one.is_logged ≡ two.is_logged
  pub first : IsGoing one log
  pub second : IsGoing two other

-- two such runs, or none
abbrev pub UnderWayAlike : Option SeatRun → Option SeatRun → List Entry → List Entry → Type 0
UnderWayAlike None None log other = Unit {0}
UnderWayAlike None (Some two) log other = ⊥
UnderWayAlike (Some one) None log other = ⊥
UnderWayAlike (Some one) (Some two) log other = GoingAlike one two log other

-- ---- a run

begun : (i : HostInvocation) (terms : SeatTerms) (run : SeatRun) → Starts i terms run → IsGoing run []
begun i terms run s = record {
  fuel = s.fuel ∙ sym (ap (λ (h : RunHead). h.fuel) s.head);
  goes = subst (λ (h : RunHead). Goes h.input h.stop run.driven [] []) (sym s.head) (s.goes []);
}

pub begun_alike : (i : HostInvocation) (terms : SeatTerms) (one two : SeatRun) → Starts i terms one → Starts i terms two → GoingAlike one two [] []
begun_alike i terms one two s t = record {
  head = s.head ∙ sym t.head;
  is_logged = s.is_logged ∙ sym t.is_logged;
  first = begun i terms one s;
  second = begun i terms two t;
}

-- it made as many calls as its log has entries
calls_made : (run : SeatRun) (log : List Entry) → IsGoing run log → calls_of run ≡ length log
calls_made run log going = sym (ap length going.goes.progress.grown ∙ going.goes.progress.counted)

pub same_calls : (one two : SeatRun) (log other : List Entry) → log ≡ other → GoingAlike one two log other → calls_of one ≡ calls_of two
same_calls one two log other logs alike = calls_made one log alike.first ∙ ap length logs ∙ sym (calls_made two other alike.second)

module _ {C I : Type 0} (says : C → InterceptorContext → RetryAction → RetryAction) (chain : InterceptorMeans I) where
  -- a stretch of it, as the law of clients has it
  abbrev Stretch : RunHead → ServedClient C I → ServedClient C I → Type 0
  Stretch head old new = DrivesOn (client_means says chain) (λ (c : ServedClient C I). c.components.parts) (λ (c : ServedClient C I). c.components.log) (λ (o : HostedOutside). o.is_parked) head.stop (start head.input) head.fuel old new

  going_on : (run after : SeatRun) (old new : ServedClient C I) → Drives (means says chain) old run new after → IsGoing run old.components.log → IsGoing after new.components.log
  going_on run after old new d going = record {
    fuel = d.fuel ∙ going.fuel ∙ sym (ap (λ (r : SeatRun). r.head.fuel) d.others);
    goes = subst (λ (h : RunHead). Goes h.input h.stop after.driven [] new.components.log) (sym (ap (λ (r : SeatRun). r.head) d.others)) (d.goes run.head.input run.head.stop [] going.goes);
  }

  -- it has to wait, or it is over
  abbrev pub Halts : ServedClient C I → SeatRun → Type 0
  Halts new after = (new.components.parts.outside.is_parked ≡ true) ⊎ IsOver after.driven

  module _ (run after : SeatRun) (old new : ServedClient C I) (d : Drives (means says chain) old run new after) (going : IsGoing run old.components.log) where
    goes : Goes run.head.input run.head.stop after.driven [] new.components.log
    goes = d.goes run.head.input run.head.stop [] going.goes

    full : after.driven.fuel ≡ run.head.fuel
    full = d.fuel ∙ going.fuel

    halts : Halts new after → (new.components.parts.outside.is_parked ≡ true) ⊎ ((length new.components.log ≡ run.head.fuel) ⊎ IsWhole run.head.stop (start run.head.input) new.components.log)
    halts (inl parked) = inl parked
    halts (inr (inl none)) =
        let p = goes.progress in
        let long : length new.components.log ≡ length p.list = ap length p.grown in
        let made : length p.list ≡ after.driven.fuel - after.driven.left = p.counted in inr (inl (omega (arith, long, made, none, full)))
    halts (inr (inr done)) =
        let p = goes.progress in
        inr (inr (subst (λ (l : List Entry). IsWhole run.head.stop (start run.head.input) l) (sym p.grown)
        (subst (λ (t : StopPoint). IsWhole t (start run.head.input) p.list) p.same (done (start run.head.input) p.list p.stands))))

    stretch : Halts new after → Stretch run.head old new
    stretch h =
        let p = goes.progress in
        let long : length new.components.log ≡ length p.list = ap length p.grown in
        let made : length p.list ≡ after.driven.fuel - after.driven.left = p.counted in
        record {
          stretches = d.stretches;
          begins = subst (λ (l : List Entry). Begins run.head.stop (start run.head.input) l) (sym p.grown)
              (subst (λ (t : StopPoint). Begins t (start run.head.input) p.list) p.same (stands_begins_run (start run.head.input) p.list after.driven.invocation p.stands));
          within = omega (arith, long, made, full);
          stops = halts h;
        }

  -- where it didn't have to wait, it needn't now
  pub awake_through : (old new : ServedClient C I) → RunsThrough (means says chain).calls (means says chain).relates (means says chain).parks old new → old.components.parts.outside.is_parked ≡ false → new.components.parts.outside.is_parked ≡ false
  awake_through old new through awake =
      through_awake pays_from pays paces (client_means says chain) (λ (c : ServedClient C I). c.components.parts) (λ (c : ServedClient C I). c.components.log) (λ (o : HostedOutside). o.is_parked) old new through awake

  module _ (runs : RunsAlike chain.runs) where
    -- two stretches end alike
    pub record HaltsAlike (new more : ServedClient C I) (after rest : SeatRun) : Type 0 where
      pub halted : HaltedAlike new more
      pub going : GoingAlike after rest new.components.log more.components.log

    pub drives_alike : (run other_run after rest : SeatRun) (old other new more : ServedClient C I) → WorldsAlike old other → GoingAlike run other_run old.components.log other.components.log
        → Drives (means says chain) old run new after → Drives (means says chain) other other_run more rest → Halts new after → Halts more rest → HaltsAlike new more after rest
    drives_alike run other_run after rest old other new more alike going d e h k =
        let met = driven_once pays_from pays paces (client_means says chain) (λ (c : ServedClient C I). c.components.parts) (λ (c : ServedClient C I). c.components.log) (λ (o : HostedOutside). o.is_parked) (plain says chain runs)
        run.head.stop (start run.head.input) run.head.fuel old other new more alike.halted.parts alike.halted.log
        (stretch run after old new d going.first h) (subst (λ (head : RunHead). Stretch head other more) (sym going.head) (stretch other_run rest other more e going.second k)) alike.awake in
        record {
          halted = record { parts = met.1; log = met.0 };
          going = record {
            head = ap (λ (r : SeatRun). r.head) d.others ∙ going.head ∙ sym (ap (λ (r : SeatRun). r.head) e.others);
            is_logged = ap (λ (r : SeatRun). r.is_logged) d.others ∙ going.is_logged ∙ sym (ap (λ (r : SeatRun). r.is_logged) e.others);
            first = going_on run after old new d going.first;
            second = going_on other_run rest other more e going.second;
          };
        }
