-- The laws over histories and over runs of calls.
use Rattle.std.proofs.Common.{◌≡◌, ℕ, ◌+◌, ◌≤◌, Bool, true, false, cond, not, nat_eq, nat_lt, Option, Some, None, List, [], ◌∷◌, ◌++◌, length, filter, arith, refl, ap, ◌∙◌, sym}
use Rattle.std.specs.Prelude.{IsSome}
use Rattle.std.proofs.lemmas.Bool.{eqb-true, eq-eqb}
use Rattle.std.proofs.lemmas.Option.{option_and_then_some}
use Rattle.identity_cell.specs.declared.event.Event.{Event}
use Rattle.identity_cell.specs.declared.event.Event.TheVariants as event
use Rattle.identity_cell.specs.declared.event.ClearReply.{ClearReply}
use Rattle.identity_cell.specs.declared.event.ClearReply.TheVariants as reply
use Rattle.identity_cell.specs.History.{Standing, Empty, Loading, Full, after, after_clear, begins, begun_in, replay_from, replay, IsLegal}
use Rattle.identity_cell.specs.Runs.{open_after, open_loads_from, open_loads}
use Rattle.identity_cell.proofs.HistoryLemmas.{replay_from-append}

-- what a guarded answer says
pub guarded : {A : Type 0} (b : Bool) (x y : A) → cond b (Some x) None ≡ Some y → (b ≡ true) × (x ≡ y)
guarded true x y h = (refl, cc)
guarded false x y h = cc

-- the ticket of the load in which a cell stands
abbrev pub tickets_of : Standing → List ℕ
tickets_of Empty = []
tickets_of (Loading t) = t ∷ []
tickets_of (Full t expiry) = []

ended : (t u : ℕ) → nat_eq u t ≡ true → filter (λ v. not (nat_eq v u)) (t ∷ []) ≡ []
ended t u h = ap (λ b. cond (not b) (t ∷ []) []) (eq-eqb t u (sym (eqb-true u t h)))

kept : (s next : Standing) → Some s ≡ Some next → tickets_of s ≡ tickets_of next
kept s next h = let e : s ≡ next = cc in ap tickets_of e

full_clear : (early waited : Bool) (t x : ℕ) (next : Standing) → cond early (cond waited (Some (Full t x)) None) (Some Empty) ≡ Some next → [] ≡ tickets_of next
full_clear true true t x next h = kept (Full t x) next h
full_clear true false t x next h = cc
full_clear false waited t x next h = kept Empty next h

clear_keeps : (buffer : ℕ) (s : Standing) (now : ℕ) (waited : Bool) (r : ClearReply) (next : Standing) → after_clear buffer s now waited r ≡ Some next → tickets_of s ≡ tickets_of next
clear_keeps buffer Empty now waited reply.None next h = kept Empty next h
clear_keeps buffer Empty now waited reply.Kept next h = cc
clear_keeps buffer Empty now waited reply.NotYet next h = cc
clear_keeps buffer (Loading t) now waited reply.NotYet next h = kept (Loading t) next h
clear_keeps buffer (Loading t) now waited reply.Kept next h = cc
clear_keeps buffer (Loading t) now waited reply.None next h = cc
clear_keeps buffer (Full t x) now waited reply.Kept next h = ap tickets_of (guarded _ _ _ h).1
clear_keeps buffer (Full t x) now waited reply.NotYet next h = cc
clear_keeps buffer (Full t x) now waited reply.None next h = full_clear (nat_lt (now + buffer) x) waited t x next h

-- one event keeps that the open loads are those of the standing
open_step : (buffer begun : ℕ) (s : Standing) (e : Event) (next : Standing) → after buffer begun s e ≡ Some next → open_after (tickets_of s) e ≡ tickets_of next
open_step buffer begun Empty (event.Begin u) next h = ap tickets_of (guarded _ _ _ h).1
open_step buffer begun Empty (event.Hit u) next h = cc
open_step buffer begun Empty event.Wait next h = cc
open_step buffer begun Empty (event.Done u y) next h = cc
open_step buffer begun Empty (event.Failed u) next h = cc
open_step buffer begun Empty (event.Dropped u) next h = cc
open_step buffer begun Empty (event.Clear now waited r) next h = clear_keeps buffer Empty now waited r next h
open_step buffer begun (Loading t) (event.Begin u) next h = cc
open_step buffer begun (Loading t) (event.Hit u) next h = cc
open_step buffer begun (Loading t) event.Wait next h = kept (Loading t) next h
open_step buffer begun (Loading t) (event.Done u y) next h = ended t u (guarded _ _ _ h).0 ∙ ap tickets_of (guarded _ _ _ h).1
open_step buffer begun (Loading t) (event.Failed u) next h = ended t u (guarded _ _ _ h).0 ∙ ap tickets_of (guarded _ _ _ h).1
open_step buffer begun (Loading t) (event.Dropped u) next h = ended t u (guarded _ _ _ h).0 ∙ ap tickets_of (guarded _ _ _ h).1
open_step buffer begun (Loading t) (event.Clear now waited r) next h = clear_keeps buffer (Loading t) now waited r next h
open_step buffer begun (Full t x) (event.Begin u) next h = cc
open_step buffer begun (Full t x) (event.Hit u) next h = ap tickets_of (guarded _ _ _ h).1
open_step buffer begun (Full t x) event.Wait next h = cc
open_step buffer begun (Full t x) (event.Done u y) next h = cc
open_step buffer begun (Full t x) (event.Failed u) next h = cc
open_step buffer begun (Full t x) (event.Dropped u) next h = cc
open_step buffer begun (Full t x) (event.Clear now waited r) next h = clear_keeps buffer (Full t x) now waited r next h

-- a front of a legal history is one
front : (buffer begun : ℕ) (s : Standing) (before later : List Event) (last : Standing) → replay_from buffer begun s (before ++ later) ≡ Some last → (mid : Standing) × (replay_from buffer begun s before ≡ Some mid)
front buffer begun s [] later last h = (s, refl)
front buffer begun s (e ∷ es) later last h =
    option_and_then_some _ (after buffer begun s e) last h (λ next step rest.
    let rest_of = front buffer (begun + begins e) next es later last rest in (rest_of.0, rw step rest_of.1))

-- the open loads are those of the standing
open_is : (buffer begun : ℕ) (s : Standing) (es : List Event) (last : Standing) → replay_from buffer begun s es ≡ Some last → open_loads_from (tickets_of s) es ≡ tickets_of last
open_is buffer begun s [] last h = kept s last h
open_is buffer begun s (e ∷ es) last h =
    option_and_then_some _ (after buffer begun s e) last h (λ next step rest.
    ap (λ ts. open_loads_from ts es) (open_step buffer begun s e next step) ∙ open_is buffer (begun + begins e) next es last rest)

at_most_one : (s : Standing) → length (tickets_of s) ≤ 1
at_most_one Empty = omega arith
at_most_one (Loading t) = omega arith
at_most_one (Full t x) = omega arith

pub was_some : {A : Type 0} (o : Option A) → IsSome o → (x : A) × (o ≡ Some x)
was_some (Some x) h = (x, refl)
was_some None h = cc

pub one_open : (buffer : ℕ) (before later : List Event) → IsLegal buffer (before ++ later) → length (open_loads before) ≤ 1
one_open buffer before later h =
    let end = was_some (replay buffer (before ++ later)) h in
    let mid = front buffer 0 Empty before later end.0 end.1 in
    rw (open_is buffer 0 Empty before mid.0 mid.1) (at_most_one mid.0)

drop_step : (buffer begun : ℕ) (s : Standing) (t : ℕ) (next : Standing) → after buffer begun s (event.Dropped t) ≡ Some next → Some next ≡ Some Empty
drop_step buffer begun Empty t next h = cc
drop_step buffer begun (Full u x) t next h = cc
drop_step buffer begun (Loading u) t next h = ap (λ s. Some s) (sym (guarded _ _ _ h).1)

pub dropped_empties : (buffer : ℕ) (before : List Event) (t : ℕ) → IsLegal buffer (before ++ event.Dropped t ∷ []) → replay buffer (before ++ event.Dropped t ∷ []) ≡ Some Empty
dropped_empties buffer before t h =
    let end = was_some (replay buffer (before ++ event.Dropped t ∷ [])) h in
    let mid = front buffer 0 Empty before (event.Dropped t ∷ []) end.0 end.1 in
    let last = replay_from-append buffer 0 Empty before (event.Dropped t) mid.0 mid.1 in
    end.1 ∙ drop_step buffer (0 + begun_in before) mid.0 t end.0 (sym last ∙ end.1)
