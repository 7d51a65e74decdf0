-- What holds along every run of calls.
use Rattle.std.proofs.Common.{◌≡◌, ℕ, ◌+◌, Bool, true, false, cond, nat_lt, Some, None, List, [], ◌∷◌, ◌++◌, ◌⊎◌, inl, inr, refl, ap, ◌∙◌, sym, subst}
use Rattle.std.proofs.lemmas.Bool.{eqb-true}
use Rattle.identity_cell.specs.declared.event.Event.{Event}
use Rattle.identity_cell.specs.declared.event.Event.TheVariants as event
use Rattle.identity_cell.specs.declared.event.ClearReply.TheVariants as reply
use Rattle.identity_cell.specs.declared.cell.CellState.{CellState}
use Rattle.identity_cell.specs.declared.cell.CellState.TheVariants as state
use Rattle.identity_cell.specs.declared.cell.Begin.{Begin}
use Rattle.identity_cell.specs.declared.cell.Begin.TheVariants as begun
use Rattle.identity_cell.specs.declared.cell.Cleared.{Cleared}
use Rattle.identity_cell.specs.declared.cell.Cleared.TheVariants as cleared
use Rattle.identity_cell.specs.declared.event.ClearReply.{ClearReply}
use Rattle.identity_cell.specs.History.{Empty, Loading, Full, after, begun_in}
use Rattle.identity_cell.specs.Cell.{Cell, empty_cell, IsReplayed, standing_of, moved, begin_event, state_after_begin, AnswersBegin, is_open, reply_in, state_after_clear, AnswersClear}
use Rattle.identity_cell.specs.Runs.{Call, Began, Done, Failed, Abandoned, Asked, Makes, Run, answered, WasDone, WasStored}
use Rattle.identity_cell.proofs.CellLemmas.{moved_replayed, end_replayed, same_ticket}

-- the event of begin may come
begin_comes : {T : Type 0} (buffer : ℕ) (es : List Event) (s : CellState T) → after buffer (begun_in es) (standing_of s) (begin_event s (begun_in es)) ≡ Some (standing_of (state_after_begin s (begun_in es)))
begin_comes buffer es state.Empty = same_ticket (begun_in es) (Some (Loading (begun_in es))) None
begin_comes buffer es (state.Loading t) = refl
begin_comes buffer es (state.Full t v x) = same_ticket t (Some (Full t x)) None

-- so may that of clear
full_clear_comes : {T : Type 0} (early waited : Bool) (buffer begun t : ℕ) (v : T) (x now : ℕ) → nat_lt (now + buffer) x ≡ early → after buffer begun (Full t x) (event.Clear now waited (cond early (cond waited reply.None reply.Kept) reply.None)) ≡ Some (standing_of (cond early (state.Full t v x) state.Empty))
full_clear_comes true true buffer begun t v x now h = rw h refl
full_clear_comes true false buffer begun t v x now h = rw h refl
full_clear_comes false true buffer begun t v x now h = rw h refl
full_clear_comes false false buffer begun t v x now h = rw h refl

clear_comes : {T : Type 0} (buffer begun : ℕ) (s : CellState T) (now : ℕ) (waited : Bool) → after buffer begun (standing_of s) (event.Clear now waited (reply_in buffer s now waited)) ≡ Some (standing_of (state_after_clear buffer s now))
clear_comes buffer begun state.Empty now waited = refl
clear_comes buffer begun (state.Loading t) now waited = refl
clear_comes buffer begun (state.Full t v x) now waited = full_clear_comes (nat_lt (now + buffer) x) waited buffer begun t v x now refl

-- and the end of the open load; with another ticket nothing comes
end_legal : {T : Type 0} (c : Cell T) (ticket : ℕ) (next : CellState T) (e : Event) (b : Bool) → is_open c.state ticket ≡ b → after c.buffer (begun_in c.events) (Loading ticket) e ≡ Some (standing_of next) → IsReplayed c → IsReplayed (cond b (moved c next e) c)
end_legal c ticket next e true h may legal = end_replayed c.buffer c.events (c.events ++ e ∷ []) c.state ticket e (standing_of next) h legal refl may
end_legal c ticket next e false h may legal = legal

makes_legal : {T : Type 0} (copies : T → T → Type 0) (old new : Cell T) (call : Call T) → Makes copies old call new → IsReplayed old → IsReplayed new
makes_legal copies old new (Began answer) m legal =
    rw m.1 (moved_replayed old.buffer old.events _ old.state _ _ legal refl (begin_comes old.buffer old.events old.state))
makes_legal copies old new (Done t v x) m legal =
    rw m (end_legal old t (state.Full t v x) (event.Done t x) (is_open old.state t) refl (same_ticket t (Some (Full t x)) None) legal)
makes_legal copies old new (Failed t) m legal =
    rw m (end_legal old t state.Empty (event.Failed t) (is_open old.state t) refl (same_ticket t (Some Empty) None) legal)
makes_legal copies old new (Abandoned t) m legal =
    rw m (end_legal old t state.Empty (event.Dropped t) (is_open old.state t) refl (same_ticket t (Some Empty) None) legal)
makes_legal copies old new (Asked now waited answer) m legal =
    rw m.1 (moved_replayed old.buffer old.events _ old.state _ _ legal refl (clear_comes old.buffer (begun_in old.events) old.state now waited))

pub run_legal : {T : Type 0} (copies : T → T → Type 0) (old new : Cell T) (calls : List (Call T)) → Run copies old calls new → IsReplayed old → IsReplayed new
run_legal copies old new [] r legal = rw r legal
run_legal copies old new (call ∷ calls) r legal = run_legal copies r.0 new calls r.2 (makes_legal copies old r.0 call r.1 legal)

-- where a call leaves a value, it was there before, or the call stored it
begin_stored : {T : Type 0} (s : CellState T) (k t : ℕ) (v : T) (x : ℕ) → state_after_begin s k ≡ state.Full t v x → s ≡ state.Full t v x
begin_stored state.Empty k t v x h = cc
begin_stored (state.Loading u) k t v x h = cc
begin_stored (state.Full u w y) k t v x h = h

full_stored : {T : Type 0} (early : Bool) (s : CellState T) (t : ℕ) (v : T) (x : ℕ) → cond early s state.Empty ≡ state.Full t v x → s ≡ state.Full t v x
full_stored true s t v x h = h
full_stored false s t v x h = cc

clear_stored : {T : Type 0} (buffer : ℕ) (s : CellState T) (now t : ℕ) (v : T) (x : ℕ) → state_after_clear buffer s now ≡ state.Full t v x → s ≡ state.Full t v x
clear_stored buffer state.Empty now t v x h = cc
clear_stored buffer (state.Loading u) now t v x h = cc
clear_stored buffer (state.Full u w y) now t v x h = full_stored (nat_lt (now + buffer) y) (state.Full u w y) t v x h

open_is : {T : Type 0} (s : CellState T) (t : ℕ) → is_open s t ≡ true → s ≡ state.Loading t
open_is state.Empty t h = cc
open_is (state.Full u v x) t h = cc
open_is (state.Loading u) t h = ap (λ k. state.Loading k) (sym (eqb-true t u h))

end_stored : {T : Type 0} (c : Cell T) (ticket : ℕ) (next : CellState T) (e : Event) (b : Bool) (t : ℕ) (v : T) (x : ℕ) → is_open c.state ticket ≡ b → (cond b (moved c next e) c).state ≡ state.Full t v x → (c.state ≡ state.Full t v x) ⊎ ((c.state ≡ state.Loading ticket) × (next ≡ state.Full t v x))
end_stored c ticket next e true t v x o h = inr (open_is c.state ticket o, h)
end_stored c ticket next e false t v x o h = inl h

-- the call ended the open load with the value
abbrev Ends : {T : Type 0} → Cell T → Call T → ℕ → T → ℕ → Type 0
Ends c call t v x = (c.state ≡ state.Loading t) × (call ≡ Done t v x)

done_ends : {T : Type 0} (c : Cell T) (u : ℕ) (w : T) (y t : ℕ) (v : T) (x : ℕ) → c.state ≡ state.Loading u → state.Full u w y ≡ state.Full t v x → Ends c (Done u w y) t v x
done_ends c u w y t v x o h = let a : u ≡ t = cc in let b : w ≡ v = cc in let c : y ≡ x = cc in (cc, cc)

makes_stored : {T : Type 0} (copies : T → T → Type 0) (old new : Cell T) (call : Call T) (t : ℕ) (v : T) (x : ℕ) → Makes copies old call new → new.state ≡ state.Full t v x → (old.state ≡ state.Full t v x) ⊎ Ends old call t v x
makes_stored copies old new (Began answer) t v x m h =
    inl (begin_stored old.state (begun_in old.events) t v x (ap (λ c. c.state) (sym m.1) ∙ h))
makes_stored copies old new (Done u w y) t v x m h =
    elim (end_stored old u (state.Full u w y) (event.Done u y) (is_open old.state u) t v x refl (ap (λ c. c.state) (sym m) ∙ h)) [ inl s ↦ inl s | inr s ↦ inr (done_ends old u w y t v x s.0 s.1) ]
makes_stored copies old new (Failed u) t v x m h =
    elim (end_stored old u state.Empty (event.Failed u) (is_open old.state u) t v x refl (ap (λ c. c.state) (sym m) ∙ h)) [ inl s ↦ inl s | inr s ↦ cc ]
makes_stored copies old new (Abandoned u) t v x m h =
    elim (end_stored old u state.Empty (event.Dropped u) (is_open old.state u) t v x refl (ap (λ c. c.state) (sym m) ∙ h)) [ inl s ↦ inl s | inr s ↦ cc ]
makes_stored copies old new (Asked now waited answer) t v x m h =
    inl (clear_stored old.buffer old.state now t v x (ap (λ c. c.state) (sym m.1) ∙ h))

first_done : {T : Type 0} (copies : T → T → Type 0) (old : Cell T) (call : Call T) (calls : List (Call T)) (t : ℕ) (v : T) (x : ℕ) → Ends old call t v x → WasDone copies old (call ∷ calls) t v x
first_done copies old call calls t v x e = record {
  earlier = [];
  later = calls;
  split = ap (λ c. c ∷ calls) e.1;
  cell = old;
  reached = refl;
  loading = e.0;
}

later_done : {T : Type 0} (copies : T → T → Type 0) (old mid : Cell T) (call : Call T) (calls : List (Call T)) (t : ℕ) (v : T) (x : ℕ) → Makes copies old call mid → WasDone copies mid calls t v x → WasDone copies old (call ∷ calls) t v x
later_done copies old mid call calls t v x m d = record {
  earlier = call ∷ d.earlier;
  later = d.later;
  split = ap (λ cs. call ∷ cs) d.split;
  cell = d.cell;
  reached = (mid, m, d.reached);
  loading = d.loading;
}

run_stored : {T : Type 0} (copies : T → T → Type 0) (old new : Cell T) (calls : List (Call T)) (t : ℕ) (v : T) (x : ℕ) → Run copies old calls new → new.state ≡ state.Full t v x → (old.state ≡ state.Full t v x) ⊎ WasDone copies old calls t v x
run_stored copies old new [] t v x r h = inl (ap (λ c. c.state) (sym r) ∙ h)
run_stored copies old new (call ∷ calls) t v x r h =
    elim (run_stored copies r.0 new calls t v x r.2 h) [
      | inl s ↦ elim (makes_stored copies old r.0 call t v x r.1 s) [ inl before ↦ inl before | inr ends ↦ inr (first_done copies old call calls t v x ends) ]
      | inr later ↦ inr (later_done copies old r.0 call calls t v x r.1 later)
    ]

-- a value is answered only of the state
abbrev FromState : {T : Type 0} → (T → T → Type 0) → CellState T → T → Type 0
FromState {T} copies s copy = (t : ℕ) × (v : T) × (x : ℕ) × (s ≡ state.Full t v x) × copies v copy

begin_answer : {T : Type 0} (copies : T → T → Type 0) (s : CellState T) (k : ℕ) (a : Begin T) (copy : T) → AnswersBegin copies s k a → answered (Began a) ≡ Some copy → FromState copies s copy
begin_answer copies (state.Full t v x) k (begun.Value w) copy a h = let e : w ≡ copy = cc in (t, v, x, refl, subst (copies v) e a)
begin_answer copies (state.Full t v x) k (begun.Load u) copy a h = cc
begin_answer copies (state.Full t v x) k begun.NotYet copy a h = cc
begin_answer copies (state.Loading t) k (begun.Value w) copy a h = absurd a
begin_answer copies (state.Loading t) k (begun.Load u) copy a h = cc
begin_answer copies (state.Loading t) k begun.NotYet copy a h = cc
begin_answer copies state.Empty k (begun.Value w) copy a h = absurd a
begin_answer copies state.Empty k (begun.Load u) copy a h = cc
begin_answer copies state.Empty k begun.NotYet copy a h = cc

clear_answer : {T : Type 0} (copies : T → T → Type 0) (s : CellState T) (r : ClearReply) (now : ℕ) (waited : Bool) (a : Cleared T) (copy : T) → AnswersClear copies s r a → answered (Asked now waited a) ≡ Some copy → FromState copies s copy
clear_answer copies s r now waited cleared.None copy a h = cc
clear_answer copies s r now waited cleared.NotYet copy a h = cc
clear_answer copies (state.Full t v x) reply.Kept now waited (cleared.Value w) copy a h = let e : w ≡ copy = cc in (t, v, x, refl, subst (copies v) e a)
clear_answer copies (state.Full t v x) reply.None now waited (cleared.Value w) copy a h = absurd a
clear_answer copies (state.Full t v x) reply.NotYet now waited (cleared.Value w) copy a h = absurd a
clear_answer copies (state.Loading t) reply.Kept now waited (cleared.Value w) copy a h = absurd a
clear_answer copies (state.Loading t) reply.None now waited (cleared.Value w) copy a h = absurd a
clear_answer copies (state.Loading t) reply.NotYet now waited (cleared.Value w) copy a h = absurd a
clear_answer copies state.Empty reply.Kept now waited (cleared.Value w) copy a h = absurd a
clear_answer copies state.Empty reply.None now waited (cleared.Value w) copy a h = absurd a
clear_answer copies state.Empty reply.NotYet now waited (cleared.Value w) copy a h = absurd a

call_answer : {T : Type 0} (copies : T → T → Type 0) (old new : Cell T) (call : Call T) (copy : T) → Makes copies old call new → answered call ≡ Some copy → FromState copies old.state copy
call_answer copies old new (Began a) copy m h = begin_answer copies old.state (begun_in old.events) a copy m.0 h
call_answer copies old new (Asked now waited a) copy m h = clear_answer copies old.state (reply_in old.buffer old.state now waited) now waited a copy m.0 h
call_answer copies old new (Done t v x) copy m h = cc
call_answer copies old new (Failed t) copy m h = cc
call_answer copies old new (Abandoned t) copy m h = cc

pub answer_stored : {T : Type 0} (copies : T → T → Type 0) (buffer : ℕ) (calls : List (Call T)) (next : Call T) (c after : Cell T) (copy : T) → Run copies (empty_cell buffer) calls c → Makes copies c next after → answered next ≡ Some copy → WasStored copies (empty_cell buffer) calls c copy
answer_stored copies buffer calls next c after copy run makes h =
    let from = call_answer copies c after next copy makes h in
    record {
      ticket = from.0;
      value = from.1;
      expiry = from.2;
      stored = elim (run_stored copies (empty_cell buffer) c calls from.0 from.1 from.2 run from.3) [ inl s ↦ cc | inr among ↦ among ];
      copied = from.4;
      stands = run_legal copies (empty_cell buffer) c calls run refl ∙ ap (λ s. Some (standing_of s)) from.3;
    }
