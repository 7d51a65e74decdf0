-- The lines of events, one after another.
use Rattle.std.proofs.Common.{◌≡◌, ℕ, ◌+◌, ◌<◌, ◌≤◌, List, [], ◌∷◌, ◌++◌, Option, None, Some, length, drop, get_or, refl, ap, ◌∙◌, sym, drop-cons, add-one, append_assoc}
use Rattle.std.proofs.lemmas.List.{append-nil, drop_all}
use Rattle.serde_json.specs.Data.{Data}
use Rattle.serde_json.specs.Written.{compact_text}
use Rattle.waiter_fleet.specs.declared.event.FleetEvent.{FleetEvent}
use Rattle.cli_waiters.specs.Print.{event_data, events_text, line, line_of}

events_text-cons : (event : FleetEvent) (events : List FleetEvent) → events_text (event ∷ events) ≡ line_of (event_data event) ++ events_text events
unfolding events_text
events_text-cons event events = refl

events_text-nil : events_text [] ≡ []
unfolding events_text
events_text-nil = refl

drop-step : (i : ℕ) (events : List FleetEvent) (d : FleetEvent) → i < length events → drop i events ≡ get_or events i d ∷ drop (i + 1) events
drop-step i events d h = drop-cons events i d h ∙ ap (λ (j : ℕ). get_or events i d ∷ drop j events) (sym (add-one i))

-- one event more
pub events_more : (i : ℕ) (events : List FleetEvent) (d : FleetEvent) (out new : List ℕ) → i < length events →
    new ≡ out ++ line_of (event_data (get_or events i d)) → new ++ events_text (drop (i + 1) events) ≡ out ++ events_text (drop i events)
events_more i events d out new h w =
    ap (λ (t : List ℕ). t ++ events_text (drop (i + 1) events)) w
    ∙ append_assoc out (line_of (event_data (get_or events i d))) (events_text (drop (i + 1) events))
    ∙ ap (λ (t : List ℕ). out ++ t) (sym (ap events_text (drop-step i events d h) ∙ events_text-cons (get_or events i d) (drop (i + 1) events)))

-- no event more
pub events_end : (i : ℕ) (events : List FleetEvent) (out : List ℕ) → length events ≤ i → out ++ events_text (drop i events) ≡ out
events_end i events out h =
    ap (λ (l : List FleetEvent). out ++ events_text l) (drop_all i events h) ∙ ap (λ (t : List ℕ). out ++ t) events_text-nil ∙ append-nil out

-- the line of an event was written,
pub line_written : (out new : List ℕ) (d : Data) (one : Option Data) → new ≡ out ++ compact_text d ++ 10 ∷ [] → Some d ≡ one → new ≡ out ++ line_of one
line_written out new d one h is = h ∙ append_assoc out (compact_text d) (10 ∷ []) ∙ ap (λ (x : Option Data). out ++ line_of x) is

-- or it has none
pub none_written : (out : List ℕ) (one : Option Data) → None ≡ one → out ≡ out ++ line_of one
none_written out one is = sym (append-nil out) ∙ ap (λ (x : Option Data). out ++ line_of x) is
