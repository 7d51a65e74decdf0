-- A load that a caller met has ended before the next one begins.
use Rattle.std.proofs.Common.{◌≡◌, ℕ, ◌+◌, ◌<◌, inl, inr, Bool, true, false, cond, nat_lt, nat_eq, Some, None, option_and_then, List, [], ◌∷◌, ◌++◌, refl, ap, ◌∙◌, sym, subst, add-zero, append_assoc}
use Rattle.std.proofs.lemmas.Bool.{eqb-true, lt-ltb, ltb-false}
use Rattle.std.proofs.lemmas.Option.{option_and_then_some}
use Rattle.identity_cell.specs.declared.event.Event.{Event}
use Rattle.identity_cell.specs.declared.event.Event.TheVariants as event
use Rattle.identity_cell.specs.declared.event.ClearReply.TheVariants as reply
use Rattle.identity_cell.specs.History.{Standing, Empty, Loading, Full, after, begins, begun_in, replay_from, replay, IsLegal}
use Rattle.identity_cell.specs.Waiting.{StandsIn, ClearedIn, WasCleared, EndedIn}
use Rattle.identity_cell.specs.declared.cell.CellState.TheVariants as state
use Rattle.identity_cell.specs.declared.cell.Begin.{Begin}
use Rattle.identity_cell.specs.declared.cell.Cleared.{Cleared}
use Rattle.identity_cell.specs.Cell.{Cell, begin_event}
use Rattle.identity_cell.specs.Runs.{Asked, Began, Makes}
use Rattle.identity_cell.proofs.HistoryLemmas.{some_injective, begun_in-append}
use Rattle.identity_cell.proofs.Lawful.{guarded, was_some}

-- what stands among later events stands among all
first : (e : Event) (es : List Event) → StandsIn e (e ∷ es)
first e es = record { earlier = []; later = es; split = refl }

behind : (e d : Event) (es : List Event) → StandsIn e es → StandsIn e (d ∷ es)
behind e d es s = record { earlier = d ∷ s.earlier; later = s.later; split = ap (λ l. d ∷ l) s.split }

cleared_behind : (buffer x : ℕ) (d : Event) (es : List Event) → ClearedIn buffer x es → ClearedIn buffer x (d ∷ es)
cleared_behind buffer x d es c = (c.0, c.1, behind _ d es c.2, c.3)

was_cleared_behind : (buffer u : ℕ) (d : Event) (es : List Event) → WasCleared buffer u es → WasCleared buffer u (d ∷ es)
was_cleared_behind buffer u d es w = record { expiry = w.expiry; earlier = d ∷ w.earlier; later = w.later; split = ap (λ l. d ∷ l) w.split; cleared = w.cleared }

ended_behind : (buffer u : ℕ) (d : Event) (es : List Event) → EndedIn buffer u es → EndedIn buffer u (d ∷ es)
ended_behind buffer u d es (inl f) = inl (behind _ d es f)
ended_behind buffer u d es (inr (inl f)) = inr (inl (behind _ d es f))
ended_behind buffer u d es (inr (inr w)) = inr (inr (was_cleared_behind buffer u d es w))

-- one event at a value that stands: it stays, or this event removed it
full_clear : (buffer x now : ℕ) (early waited : Bool) (u : ℕ) (s : Standing) (es : List Event) → nat_lt (now + buffer) x ≡ early → cond early (cond waited (Some (Full u x)) None) (Some Empty) ≡ Some s → (s ≡ Full u x → ClearedIn buffer x es) → ClearedIn buffer x (event.Clear now waited reply.None ∷ es)
full_clear buffer x now true true u s es b h stay = cleared_behind buffer x _ es (stay (sym (some_injective h)))
full_clear buffer x now true false u s es b h stay = cc
full_clear buffer x now false waited u s es b h stay = (now, waited, first _ es, ltb-false (now + buffer) x b)

full_step : (buffer n u x : ℕ) (e : Event) (es : List Event) (s : Standing) → after buffer n (Full u x) e ≡ Some s → (s ≡ Full u x → ClearedIn buffer x es) → ClearedIn buffer x (e ∷ es)
full_step buffer n u x (event.Begin v) es s h stay = cc
full_step buffer n u x (event.Hit v) es s h stay = cleared_behind buffer x _ es (stay (sym (guarded _ _ _ h).1))
full_step buffer n u x event.Wait es s h stay = cc
full_step buffer n u x (event.Done v y) es s h stay = cc
full_step buffer n u x (event.Failed v) es s h stay = cc
full_step buffer n u x (event.Dropped v) es s h stay = cc
full_step buffer n u x (event.Clear now waited reply.Kept) es s h stay = cleared_behind buffer x _ es (stay (sym (guarded _ _ _ h).1))
full_step buffer n u x (event.Clear now waited reply.NotYet) es s h stay = cc
full_step buffer n u x (event.Clear now waited reply.None) es s h stay = full_clear buffer x now (nat_lt (now + buffer) x) waited u s es refl h stay

-- a value that stands was removed before the next load begins
full : (buffer n u x : ℕ) (es : List Event) (next : ℕ) (last : Standing) → replay_from buffer n (Full u x) (es ++ event.Begin next ∷ []) ≡ Some last → ClearedIn buffer x es
full buffer n u x [] next last h = cc
full buffer n u x (e ∷ es) next last h =
    option_and_then_some _ (after buffer n (Full u x) e) last h (λ s step rest.
    full_step buffer n u x e es s step (λ is. full buffer (n + begins e) u x es next last (subst (λ m. replay_from buffer (n + begins e) m (es ++ event.Begin next ∷ []) ≡ Some last) is rest)))

done_first : (buffer u v x : ℕ) (es : List Event) → nat_eq v u ≡ true → ClearedIn buffer x es → EndedIn buffer u (event.Done v x ∷ es)
done_first buffer u v x es b c = inr (inr (record { expiry = x; earlier = []; later = es; split = ap (λ k. event.Done k x ∷ es) (eqb-true v u b); cleared = c }))

load_step : (buffer n u : ℕ) (e : Event) (es : List Event) (s : Standing) → after buffer n (Loading u) e ≡ Some s → (s ≡ Loading u → EndedIn buffer u es) → ((x : ℕ) → s ≡ Full u x → ClearedIn buffer x es) → EndedIn buffer u (e ∷ es)
load_step buffer n u (event.Begin v) es s h stay full = cc
load_step buffer n u (event.Hit v) es s h stay full = cc
load_step buffer n u event.Wait es s h stay full = ended_behind buffer u _ es (stay (sym (some_injective h)))
load_step buffer n u (event.Done v x) es s h stay full = done_first buffer u v x es (guarded _ _ _ h).0 (full x (sym (guarded _ _ _ h).1))
load_step buffer n u (event.Failed v) es s h stay full = inl (subst (λ k. StandsIn (event.Failed k) (event.Failed v ∷ es)) (eqb-true v u (guarded _ _ _ h).0) (first _ es))
load_step buffer n u (event.Dropped v) es s h stay full = inr (inl (subst (λ k. StandsIn (event.Dropped k) (event.Dropped v ∷ es)) (eqb-true v u (guarded _ _ _ h).0) (first _ es)))
load_step buffer n u (event.Clear now waited reply.Kept) es s h stay full = cc
load_step buffer n u (event.Clear now waited reply.None) es s h stay full = cc
load_step buffer n u (event.Clear now waited reply.NotYet) es s h stay full = ended_behind buffer u _ es (stay (sym (some_injective h)))

-- an open load has ended before the next one begins
load : (buffer n u : ℕ) (es : List Event) (next : ℕ) (last : Standing) → replay_from buffer n (Loading u) (es ++ event.Begin next ∷ []) ≡ Some last → EndedIn buffer u es
load buffer n u [] next last h = cc
load buffer n u (e ∷ es) next last h =
    option_and_then_some _ (after buffer n (Loading u) e) last h (λ s step rest.
    load_step buffer n u e es s step
    (λ is. load buffer (n + begins e) u es next last (subst (λ m. replay_from buffer (n + begins e) m (es ++ event.Begin next ∷ []) ≡ Some last) is rest))
    (λ x is. full buffer (n + begins e) u x es next last (subst (λ m. replay_from buffer (n + begins e) m (es ++ event.Begin next ∷ []) ≡ Some last) is rest)))

-- what follows a front begins where the front leads
onto : (buffer begun : ℕ) (s : Standing) (before rest : List Event) (mid last : Standing) → replay_from buffer begun s before ≡ Some mid → replay_from buffer begun s (before ++ rest) ≡ Some last → (n : ℕ) × (replay_from buffer n mid rest ≡ Some last)
onto buffer begun s [] rest mid last h g = (begun, subst (λ m. replay_from buffer begun m rest ≡ Some last) (some_injective h) g)
onto buffer begun s (e ∷ es) rest mid last h g =
    option_and_then_some _ (after buffer begun s e) mid h (λ next step front.
    onto buffer (begun + begins e) next es rest mid last front (subst (λ o. option_and_then (λ m. replay_from buffer (begun + begins e) m (es ++ rest)) o ≡ Some last) step g))

-- the waiter's own event first
waited : (buffer n u : ℕ) (es : List Event) (next : ℕ) (last : Standing) → replay_from buffer n (Loading u) (event.Wait ∷ es ++ event.Begin next ∷ []) ≡ Some last → EndedIn buffer u es
waited buffer n u es next last h = load buffer (n + begins event.Wait) u es next last h

pub load_ended : (buffer : ℕ) (before between : List Event) (ticket next : ℕ) → replay buffer before ≡ Some (Loading ticket) → IsLegal buffer (before ++ event.Wait ∷ between ++ event.Begin next ∷ []) → EndedIn buffer ticket between
load_ended buffer before between ticket next open_load legal =
    let end = was_some (replay buffer (before ++ event.Wait ∷ between ++ event.Begin next ∷ [])) legal in
    let on = onto buffer 0 Empty before (event.Wait ∷ between ++ event.Begin next ∷ []) (Loading ticket) end.0 open_load (subst (λ es. replay buffer es ≡ Some end.0) (append_assoc before (event.Wait ∷ between) (event.Begin next ∷ [])) end.1) in
    waited buffer on.0 ticket between next end.0 on.1

-- a caller that finds an unexpired value leaves it, and begins no load
pub unexpired : {T : Type 0} (copies : T → T → Type 0) (old mid new : Cell T) (ticket expiry now : ℕ) (value : T) (waited : Bool) (cleared : Cleared T) (answer : Begin T) → old.state ≡ state.Full ticket value expiry → now + old.buffer < expiry → Makes copies old (Asked now waited cleared) mid → Makes copies mid (Began answer) new → begun_in new.events ≡ begun_in old.events
unexpired copies old mid new ticket expiry now value waited cleared answer is early asked began =
    let kept : mid.state ≡ state.Full ticket value expiry = ap (λ c. c.state) asked.1 ∙ rw (is, lt-ltb (now + old.buffer) expiry early) refl in
    let same : begun_in mid.events ≡ begun_in old.events = ap (λ c. begun_in c.events) asked.1 ∙ begun_in-append old.events _ ∙ add-zero (begun_in old.events) in
    ap (λ c. begun_in c.events) began.1 ∙ begun_in-append mid.events _ ∙ ap (λ s. begun_in mid.events + begins (begin_event s (begun_in mid.events))) kept ∙ add-zero (begun_in mid.events) ∙ same
