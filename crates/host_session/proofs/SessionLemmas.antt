-- What holds of a session's runs, line after line.
use Rattle.std.specs.Prelude.{◌≡◌, ◌≢◌, Bool, ℕ, zero, suc, ◌-◌, List, [], ◌∷◌, ◌++◌, slice_get, slice_set, Option, Some, None}
use Rattle.std.proofs.Common.{sym, ap, subst, ◌∙◌, inl, inr, refl, arith}
use Rattle.rate_limit.specs.Pace.{Pace}
use Rattle.retry_quota.specs.Registers.{Registers}
use Rattle.run_grammar.specs.declared.answer.Entry.{Entry}
use Rattle.outside_hosted.specs.declared.hosted_outside.HostedOutside.{HostedOutside}
use Rattle.outside_hosted.specs.Telling.{after_told}
use Rattle.run_driver.specs.Running.{Goes}
use Rattle.json_print.specs.Endings.{Ends}
use Rattle.json_print.specs.Print.{ending_data}
use Rattle.json_forms.specs.Lines.{line}
use Rattle.json_host.specs.Messages.{IsMessage}
use Rattle.json_print.specs.declared.head.RunHead.{RunHead}
use Rattle.json_host.specs.declared.message.HostInvocation.{HostInvocation}
use Rattle.json_host.specs.declared.message.HostMessage.{HostMessage}
use Rattle.json_host.specs.declared.message.HostMessage.TheVariants as message
use Rattle.json_host.specs.declared.message.SeatMessage.{SeatMessage}
use Rattle.json_host.specs.declared.message.SeatMessage.TheVariants as seat_message
use Rattle.host_session.specs.declared.seat.Seat.{Seat}
use Rattle.host_session.specs.declared.seat.SeatRun.{SeatRun}
use Rattle.host_session.specs.declared.seat.SeatTerms.{SeatTerms}
use Rattle.host_session.specs.declared.session.Fed.{Fed}
use Rattle.host_session.specs.declared.session.Session.{Session}
use Rattle.host_session.specs.declared.why.Why.{Why}
use Rattle.host_session.specs.Ending.{done_data, log_text}
use Rattle.host_session.specs.Feeding.{Feeds, Meets, MeetsBy, TakesAt, lent}
use Rattle.host_session.specs.Handing.{fed}
use Rattle.host_session.specs.Laws.{AreUnderWay, IsNotFor, TellsItsRun}
use Rattle.host_session.specs.Meaning.{HostedMeaning}
use Rattle.host_session.specs.Refusing.{refusal_at}
use Rattle.host_session.specs.Running.{IsGoing, IsUnderWay, Starts, calls_of}
use Rattle.host_session.specs.Seats.{Drives, GivesAnyUp, GoesOn, GoesOnAs, Takes, feeding}

same_some : {X : Type 0} (x y : X) → Some x ≡ Some y → x ≡ y
same_some x y e = cc

-- an element is put in a list of which each has some property, and has it too
set_keeps : {X : Type 0} (P : X → Type 0) (xs : List X) (i : ℕ) (y : X) → P y → ((k : ℕ) (x : X) → slice_get xs k ≡ Some x → P x) → (k : ℕ) (x : X) → slice_get (slice_set xs i y) k ≡ Some x → P x
set_keeps P [] i y p h k x e = h k x e
set_keeps P (z ∷ xs) zero y p h zero x e = subst P (same_some y x e) p
set_keeps P (z ∷ xs) zero y p h (suc k) x e = h (suc k) x e
set_keeps P (z ∷ xs) (suc i) y p h zero x e = h zero x e
set_keeps P (z ∷ xs) (suc i) y p h (suc k) x e = set_keeps P xs i y p (λ j. h (suc j)) k x e

-- the others stay
set_leaves : {X : Type 0} (xs : List X) (i k : ℕ) (y : X) → i ≢ k → slice_get (slice_set xs i y) k ≡ slice_get xs k
set_leaves [] i k y other = refl
set_leaves (z ∷ xs) zero zero y other = absurd (other refl)
set_leaves (z ∷ xs) zero (suc k) y other = refl
set_leaves (z ∷ xs) (suc i) zero y other = refl
set_leaves (z ∷ xs) (suc i) (suc k) y other = set_leaves xs i k y (λ e. other (ap suc e))

-- a run is none
none_is_some : (run : SeatRun) → Some run ≡ None → ⊥
none_is_some run e = absurd (cc e)

-- a run that just began
started : (i : HostInvocation) (terms : SeatTerms) (run : SeatRun) (log : List Entry) → log ≡ [] → Starts i terms run → IsGoing run log
started i terms run log empty s = record {
  fuel = s.fuel ∙ sym (ap (λ (h : RunHead). h.fuel) s.head);
  goes = subst (λ (h : RunHead). Goes h.input h.stop run.driven [] log) (sym s.head) (subst (λ (l : List Entry). Goes i.input i.stop run.driven l log) empty (s.goes log));
}

module _ {W : Type 0} (means : HostedMeaning W) where
  -- a seat whose run, if it has one, has made its log
  abbrev IsKept : Seat W → Type 0
  IsKept s = IsUnderWay s.run (means.calls s.world)

  -- the run goes on
  going_on : (run after : SeatRun) (old new : W) → Drives means old run new after → IsGoing run (means.calls old) → IsGoing after (means.calls new)
  going_on run after old new d g = record {
    fuel = d.fuel ∙ g.fuel ∙ sym (ap (λ (r : SeatRun). r.head.fuel) d.others);
    goes = subst (λ (h : RunHead). Goes h.input h.stop after.driven [] (means.calls new)) (sym (ap (λ (r : SeatRun). r.head) d.others)) (d.goes run.head.input run.head.stop [] g.goes);
  }

  module _ (calls_stay : (o : HostedOutside) (w : W) → means.calls (means.with_outside o w) ≡ means.calls w) (calls_go : (w : W) → means.calls (means.emptied w) ≡ []) (quiet : (old new : W) → means.rests old new → means.calls new ≡ means.calls old) where
    -- a run that is driven on is under way, or is no more
    goes_on_as : (run : SeatRun) (old : W) (terms : SeatTerms) (new : Seat W) (before text : List ℕ) → GoesOnAs means run old terms before new text → IsGoing run (means.calls old) → IsKept new
    goes_on_as run old terms new before text g going = elim g.told as (λ _. IsKept new) [
      | inl w ↦
          subst (λ (s : Seat W). IsKept s) (sym w.1.after)
          (subst (λ (l : List Entry). IsGoing g.after l) (sym (calls_stay _ g.world)) (going_on run g.after old g.world g.drives going))
      | inr (through, c) ↦ subst (λ (s : Seat W). IsKept s) (sym c.after) tt
    ]

    -- the same where a run may be under way
    goes_on : (run : Option SeatRun) (old : W) (terms : SeatTerms) (new : Seat W) (before text : List ℕ) → GoesOn means run old terms before new text → IsUnderWay run (means.calls old) → IsKept new
    goes_on None old terms new before text g going = subst (λ (s : Seat W). IsKept s) (sym g.0) tt
    goes_on (Some run) old terms new before text g going = goes_on_as run old terms new before text g going

    -- a run that is given up is under way no more
    gives_up : (run : Option SeatRun) (old : W) (terms : SeatTerms) (new : Seat W) (before text : List ℕ) → GivesAnyUp means run old terms before new text → IsKept new
    gives_up None old terms new before text g = subst (λ (s : Seat W). IsKept s) (sym g.0) tt
    gives_up (Some run) old terms new before text g = subst (λ (s : Seat W). IsKept s) (sym g.after) tt

    takes : (m : SeatMessage) (old new : Seat W) (before text : List ℕ) → Takes means m old before new text → IsKept old → IsKept new
    takes (seat_message.Invoke i) old new before text t going =
        goes_on_as t.run (feeding means i.moment [] (means.emptied old.world)) old.terms new before text t.goes_on
        (started i old.terms t.run (means.calls (feeding means i.moment [] (means.emptied old.world))) (calls_stay _ (means.emptied old.world) ∙ calls_go old.world) t.starts)
    takes (seat_message.At moment events) old new before text t going =
        goes_on old.run (feeding means moment events old.world) old.terms new before text t
        (subst (λ (l : List Entry). IsUnderWay old.run l) (sym (calls_stay (fed moment events (means.outside old.world)) old.world)) going)
    takes (seat_message.GiveUp moment) old new before text t going = gives_up old.run (feeding means moment [] old.world) old.terms new before text t

    -- a run that is no more is told whole
    pub tells : (run : SeatRun) (old : W) (terms : SeatTerms) (new : Seat W) (before text : List ℕ) → GoesOnAs means run old terms before new text → IsGoing run (means.calls old) → new.run ≡ None → TellsItsRun terms.number run (means.calls new.world) before text
    tells run old terms new before text g going gone =
        elim g.told as (λ _. TellsItsRun terms.number run (means.calls new.world) before text) [
          | inl w ↦ absurd (none_is_some g.after (sym (ap (λ (s : Seat W). s.run) w.1.after) ∙ gone))
          | inr (through, c) ↦ record {
            made = calls_of g.after;
            ending = c.ending;
            bound = let e : g.after.driven.fuel ≡ run.head.fuel = g.drives.fuel ∙ going.fuel in omega arith;
            ends = subst (λ (l : List Entry). Ends (record run.head { fuel = calls_of g.after }) [] l c.ending)
                (sym (ap means.calls c.rest.after ∙ calls_stay (after_told (means.outside c.rest.ended)) c.rest.ended ∙ quiet g.world c.rest.ended c.rest.ends))
                (subst (λ (h : RunHead). Ends (record h { fuel = calls_of g.after }) [] (means.calls g.world) c.ending) (ap (λ (r : SeatRun). r.head) g.drives.others)
                (c.ends (means.calls g.world) (going_on run g.after old g.world g.drives going)));
            poisoned = (means.outside c.rest.ended).poisoned;
            text_is = subst (λ (told : List ℕ). text ≡ (told ++ log_text run.is_logged (means.calls new.world)) ++ line (done_data terms.number (calls_of g.after) (ending_data c.ending))) c.rest.text_is
                (subst (λ (b : Bool). text ≡ (c.told ++ log_text b (means.calls new.world)) ++ line (done_data terms.number (calls_of g.after) (ending_data c.ending)))
                (ap (λ (r : SeatRun). r.is_logged) g.drives.others) c.text_is);
          }
        ]

    module _ (quota_keeps : (q : Registers Pace) (w : W) → means.calls (means.with_quota q w) ≡ means.calls w) where
      -- a seat that is lent a quota has made the same log
      kept_lent : (q : Registers Pace) (seat : Seat W) → IsKept seat → IsKept (lent means q seat)
      kept_lent q seat kept = subst (λ (l : List Entry). IsUnderWay seat.run l) (sym (quota_keeps q seat.world)) kept

      taken_at : (number : ℕ) (m : SeatMessage) (old new : Session W) (before text : List ℕ) → TakesAt means number m old before new text → AreUnderWay means.calls old.seats.items → AreUnderWay means.calls new.seats.items
      taken_at number m old new before text t going =
          subst (λ (seats : List (Seat W)). AreUnderWay means.calls seats) (sym t.seats)
          (set_keeps (λ (s : Seat W). IsKept s) old.seats.items number (lent means (means.quota t.seat.world) t.after)
          (kept_lent (means.quota t.seat.world) t.after
          (takes m (lent means old.quota t.seat) t.after before text t.takes (kept_lent old.quota t.seat (going number t.seat t.stands)))) going)

      same_session : (old new : Session W) → new ≡ old → AreUnderWay means.calls old.seats.items → AreUnderWay means.calls new.seats.items
      same_session old new same going = subst (λ (s : Session W). AreUnderWay means.calls s.seats.items) (sym same) going

      met_by : (reason : Option Why) (number : ℕ) (m : SeatMessage) (old new : Session W) (before text : List ℕ) (come : Fed) → MeetsBy means reason number m old before new text come → AreUnderWay means.calls old.seats.items → AreUnderWay means.calls new.seats.items
      met_by (Some reason) number m old new before text come refused going = same_session old new refused.same going
      met_by None number m old new before text come taken going = taken_at number m old new before text taken.0 going

      met : (m : HostMessage) (old new : Session W) (before text : List ℕ) (come : Fed) → Meets means m old before new text come → AreUnderWay means.calls old.seats.items → AreUnderWay means.calls new.seats.items
      met (message.Seat number m) old new before text come h going = met_by (refusal_at old.seats.items number m) number m old new before text come h going
      met message.Sums old new before text come h going = same_session old new h.0 going
      met message.Close old new before text come h going = same_session old new h.0 going

      -- whatever the line, each log is what its run has made
      pub feeds : (bytes : List ℕ) (old new : Session W) (before text : List ℕ) (come : Fed) → Feeds means bytes old before new text come → AreUnderWay means.calls old.seats.items → AreUnderWay means.calls new.seats.items
      feeds bytes old new before text come (inl m) going = met m.0 old new before text come m.2 going
      feeds bytes old new before text come (inr refused) going = same_session old new refused.1.same going

  -- ---- the other seats

  unlike_by : (reason : Option Why) (number k : ℕ) (m : SeatMessage) (old new : Session W) (before text : List ℕ) (come : Fed) → number ≢ k → MeetsBy means reason number m old before new text come → slice_get new.seats.items k ≡ slice_get old.seats.items k
  unlike_by (Some reason) number k m old new before text come other refused = ap (λ (s : Session W). slice_get s.seats.items k) refused.same
  unlike_by None number k m old new before text come other taken =
      ap (λ (seats : List (Seat W)). slice_get seats k) taken.0.seats
      ∙ set_leaves old.seats.items number k (lent means (means.quota taken.0.seat.world) taken.0.after) other

  unlike : (bytes : List ℕ) (m : HostMessage) (k : ℕ) (old new : Session W) (before text : List ℕ) (come : Fed) → IsMessage bytes m → IsNotFor k bytes → Meets means m old before new text come → slice_get new.seats.items k ≡ slice_get old.seats.items k
  unlike bytes (message.Seat number m) k old new before text come is other h = unlike_by (refusal_at old.seats.items number m) number k m old new before text come (other number m is) h
  unlike bytes message.Sums k old new before text come is other h = ap (λ (s : Session W). slice_get s.seats.items k) h.0
  unlike bytes message.Close k old new before text come is other h = ap (λ (s : Session W). slice_get s.seats.items k) h.0

  -- a line that isn't for a seat leaves it
  pub others_stay : (bytes : List ℕ) (k : ℕ) (old new : Session W) (before text : List ℕ) (come : Fed) → Feeds means bytes old before new text come → IsNotFor k bytes → slice_get new.seats.items k ≡ slice_get old.seats.items k
  others_stay bytes k old new before text come (inl m) other = unlike bytes m.0 k old new before text come m.1 other m.2
  others_stay bytes k old new before text come (inr refused) other = ap (λ (s : Session W). slice_get s.seats.items k) refused.1.same
