-- Each call leaves a cell whose history is legal and leads to its state.
use Rattle.std.proofs.Common.{◌≡◌, ℕ, ◌+◌, ◌<◌, ◌≤◌, Bool, true, false, cond, nat_eq, Some, None, List, [], ◌∷◌, ◌++◌, refl, ap, ◌∙◌, sym}
use Rattle.std.proofs.lemmas.Bool.{eqb-true, eq-eqb, lt-ltb, le-ltb}
use Rattle.identity_cell.specs.declared.event.Event.{Event}
use Rattle.identity_cell.specs.declared.event.Event.TheVariants as event
use Rattle.identity_cell.specs.declared.event.ClearReply.TheVariants as reply
use Rattle.identity_cell.specs.declared.cell.CellState.{CellState}
use Rattle.identity_cell.specs.declared.cell.CellState.TheVariants as state
use Rattle.identity_cell.specs.History.{Standing, Empty, Loading, Full, after, begun_in, replay}
use Rattle.identity_cell.specs.Cell.{standing_of, is_open}
use Rattle.identity_cell.proofs.HistoryLemmas.{replay-last}

-- the end of the open load, whichever it is
pub end_replayed : {T : Type 0} (buffer : ℕ) (es all : List Event) (old : CellState T) (ticket : ℕ) (e : Event) (new : Standing) → is_open old ticket ≡ true → replay buffer es ≡ Some (standing_of old) → all ≡ es ++ e ∷ [] → after buffer (begun_in es) (Loading ticket) e ≡ Some new → replay buffer all ≡ Some new
end_replayed buffer es all state.Empty ticket e new h legal grown next = cc
end_replayed buffer es all (state.Full t v x) ticket e new h legal grown next = cc
end_replayed buffer es all (state.Loading t) ticket e new h legal grown next =
    replay-last buffer es all e (Loading t) new legal grown (ap (λ k. after buffer (begun_in es) (Loading k) e) (sym (eqb-true ticket t h)) ∙ next)

-- a test of a number against itself
pub same_ticket : {A : Type 0} (t : ℕ) (x y : A) → cond (nat_eq t t) x y ≡ x
same_ticket t x y = ap (λ b. cond b x y) (eq-eqb t t refl)

-- one event more that may come where the cell stands
pub moved_replayed : {T : Type 0} (buffer : ℕ) (es all : List Event) (old new : CellState T) (e : Event) → replay buffer es ≡ Some (standing_of old) → all ≡ es ++ e ∷ [] → after buffer (begun_in es) (standing_of old) e ≡ Some (standing_of new) → replay buffer all ≡ Some (standing_of new)
moved_replayed buffer es all old new e legal grown next = replay-last buffer es all e (standing_of old) (standing_of new) legal grown next

-- each event may come where it is made, by the state
pub begin_may : {T : Type 0} (buffer : ℕ) (es : List Event) (s : CellState T) (t : ℕ) → s ≡ state.Empty → t ≡ begun_in es → after buffer (begun_in es) (standing_of s) (event.Begin t) ≡ Some (Loading t)
begin_may buffer es s t is ticket = rw is (ap (λ b. cond b (Some (Loading t)) None) (eq-eqb t (begun_in es) ticket))

pub wait_may : {T : Type 0} (buffer begun : ℕ) (s : CellState T) (t : ℕ) → s ≡ state.Loading t → after buffer begun (standing_of s) event.Wait ≡ Some (standing_of s)
wait_may buffer begun s t is = rw is refl

pub hit_may : {T : Type 0} (buffer begun : ℕ) (s : CellState T) (t : ℕ) (v : T) (x : ℕ) → s ≡ state.Full t v x → after buffer begun (standing_of s) (event.Hit t) ≡ Some (standing_of s)
hit_may buffer begun s t v x is = rw is (same_ticket t (Some (Full t x)) None)

pub clear_empty_may : {T : Type 0} (buffer begun : ℕ) (s : CellState T) (now : ℕ) (waited : Bool) → s ≡ state.Empty → after buffer begun (standing_of s) (event.Clear now waited reply.None) ≡ Some (standing_of s)
clear_empty_may buffer begun s now waited is = rw is refl

pub clear_loading_may : {T : Type 0} (buffer begun : ℕ) (s : CellState T) (now : ℕ) (waited : Bool) (t : ℕ) → s ≡ state.Loading t → after buffer begun (standing_of s) (event.Clear now waited reply.NotYet) ≡ Some (standing_of s)
clear_loading_may buffer begun s now waited t is = rw is refl

pub clear_expired_may : {T : Type 0} (buffer begun : ℕ) (s : CellState T) (now : ℕ) (waited : Bool) (t : ℕ) (v : T) (x : ℕ) → s ≡ state.Full t v x → x ≤ now + buffer → after buffer begun (standing_of s) (event.Clear now waited reply.None) ≡ Some Empty
clear_expired_may buffer begun s now waited t v x is late = rw (is, le-ltb (now + buffer) x late) refl

pub clear_waited_may : {T : Type 0} (buffer begun : ℕ) (s : CellState T) (now : ℕ) (waited : Bool) (t : ℕ) (v : T) (x : ℕ) → s ≡ state.Full t v x → now + buffer < x → waited ≡ true → after buffer begun (standing_of s) (event.Clear now waited reply.None) ≡ Some (standing_of s)
clear_waited_may buffer begun s now waited t v x is early w = rw (is, lt-ltb (now + buffer) x early, w) refl

pub clear_kept_may : {T : Type 0} (buffer begun : ℕ) (s : CellState T) (now : ℕ) (waited : Bool) (t : ℕ) (v : T) (x : ℕ) → s ≡ state.Full t v x → now + buffer < x → waited ≡ false → after buffer begun (standing_of s) (event.Clear now waited reply.Kept) ≡ Some (standing_of s)
clear_kept_may buffer begun s now waited t v x is early w = rw (is, lt-ltb (now + buffer) x early, w) refl
