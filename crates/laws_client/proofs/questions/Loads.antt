-- No cell of a cache is loading but that of the load that is open.
use Rattle.std.proofs.Common.{◌≡◌, ◌∙◌, refl, sym, ap, subst, ℕ, ◌+◌, ◌<◌, Bool, true, false, cond, List, [], ◌∷◌, ◌++◌, length, remove, Option, None, Some, is_some, unwrap_or, nat_lt, add-zero, arith}
use Rattle.std.proofs.lemmas.Bool.{eq-eqb, lt-ltb, ltb-true}
use Rattle.std.specs.Map.{lookup, set_value}
use Rattle.identity_cell.proofs.CellLemmas.{same_ticket}
use Rattle.identity_cell.proofs.HistoryLemmas.{begun_in-append}
use Rattle.identity_cell.specs.Cell.{Cell, after_clear, after_end, empty_cell, is_open, moved, reply_in, state_after_begin, state_after_clear}
use Rattle.identity_cell.specs.History.{begun_in}
use Rattle.identity_cell.specs.LazyCache.{AnswersLook, Cache, Entry, after_none, cell_at, dropped_at, done_at, failed_at, is_id, looked_at, put, with_cell, with_last, within_most, without_oldest}
use Rattle.identity_cell.specs.declared.cell.CellState.{CellState}
use Rattle.identity_cell.specs.declared.cell.CellState.TheVariants.{Empty, Loading, Full}
use Rattle.identity_cell.specs.declared.event.ClearReply.TheVariants as reply
use Rattle.identity_cell.specs.declared.event.Event.{Event}
use Rattle.identity_cell.specs.declared.event.Event.TheVariants as event
use Rattle.identity_cell.specs.declared.looked.Looked.TheVariants as looked
use Rattle.smithy_types.specs.declared.identity.Identity.{Identity}
use Rattle.laws_client.specs.Questions.Loading.{NoneLoading, is_loading}

-- ---- lists of cells

set_idle : (test : List ℕ → Bool) (es : List Entry) (new : Cell Identity) → NoneLoading es → is_loading new.state ≡ false → NoneLoading (set_value test es new)
set_idle test [] new none is = tt
set_idle test (e ∷ es) new none is = by (test e.0) (set_idle test es new none.1 is)
  where
    by : (t : Bool) → NoneLoading (set_value test es new) → NoneLoading (cond t ((e.0, new) ∷ es) (e ∷ set_value test es new))
    by true later = (is, none.1)
    by false later = (none.0, later)

-- another cell in the same place
set_other : (test : List ℕ → Bool) (es : List Entry) (v w : Cell Identity) → is_loading w.state ≡ false → NoneLoading (set_value test es v) → NoneLoading (set_value test es w)
set_other test [] v w is none = tt
set_other test (e ∷ es) v w is none = by (test e.0) (set_other test es v w is) none
  where
    by : (t : Bool) → (NoneLoading (set_value test es v) → NoneLoading (set_value test es w)) → NoneLoading (cond t ((e.0, v) ∷ es) (e ∷ set_value test es v)) → NoneLoading (cond t ((e.0, w) ∷ es) (e ∷ set_value test es w))
    by true later h = (is, h.1)
    by false later h = (h.0, later h.1)

-- what is written over what was written
set_twice : (test : List ℕ → Bool) (es : List Entry) (v w : Cell Identity) → set_value test (set_value test es v) w ≡ set_value test es w
set_twice test [] v w = refl
set_twice test (e ∷ es) v w = by (test e.0) refl (set_twice test es v w)
  where
    by : (t : Bool) → test e.0 ≡ t → set_value test (set_value test es v) w ≡ set_value test es w
        → set_value test (cond t ((e.0, v) ∷ es) (e ∷ set_value test es v)) w ≡ cond t ((e.0, w) ∷ es) (e ∷ set_value test es w)
    by true is later = ap (λ b. cond b ((e.0, w) ∷ es) ((e.0, v) ∷ set_value test es w)) is
    by false is later = ap (λ b. cond b ((e.0, w) ∷ set_value test es v) (e ∷ set_value test (set_value test es v) w)) is ∙ ap (λ l. e ∷ l) later

written : (test : List ℕ → Bool) (es : List Entry) (v w : Cell Identity) → lookup test es ≡ Some v → lookup test (set_value test es w) ≡ Some w
written test [] v w found = cc
written test (e ∷ es) v w found = by (test e.0) refl found (written test es v w)
  where
    by : (t : Bool) → test e.0 ≡ t → cond t (Some e.1) (lookup test es) ≡ Some v → (lookup test es ≡ Some v → lookup test (set_value test es w) ≡ Some w)
        → lookup test (cond t ((e.0, w) ∷ es) (e ∷ set_value test es w)) ≡ Some w
    by true is found later = rw is refl
    by false is found later = rw is (later found)

last_idle : (es : List Entry) (id : List ℕ) (new : Cell Identity) → NoneLoading es → is_loading new.state ≡ false → NoneLoading (es ++ (id, new) ∷ [])
last_idle [] id new none is = (is, tt)
last_idle (e ∷ es) id new none is = (none.0, last_idle es id new none.1 is)

rest_idle : (es : List Entry) → NoneLoading es → NoneLoading (remove es 0)
rest_idle [] none = tt
rest_idle (e ∷ es) none = none.1

found_idle : (test : List ℕ → Bool) (es : List Entry) (cell : Cell Identity) → NoneLoading es → lookup test es ≡ Some cell → is_loading cell.state ≡ false
found_idle test [] cell none found = absurd (cc found)
found_idle test (e ∷ es) cell none found = by (test e.0) found (found_idle test es cell none.1)
  where
    by : (t : Bool) → cond t (Some e.1) (lookup test es) ≡ Some cell → (lookup test es ≡ Some cell → is_loading cell.state ≡ false) → is_loading cell.state ≡ false
    by true h later = ap (λ o. is_loading (unwrap_or o e.1).state) (sym h) ∙ none.0
    by false h later = later h

pub at_idle : (cache : Cache) (id : List ℕ) → NoneLoading cache.cells → is_loading (cell_at cache id).state ≡ false
at_idle cache id none = by (lookup (is_id id) cache.cells) refl
  where
    by : (o : Option (Cell Identity)) → lookup (is_id id) cache.cells ≡ o → is_loading (unwrap_or o (empty_cell cache.terms.buffer)).state ≡ false
    by None there = refl
    by (Some cell) there = found_idle (is_id id) cache.cells cell none there

same_id : (id : List ℕ) → is_id id id ≡ true
same_id [] = refl
same_id (x ∷ id) = rw (eq-eqb x x refl) (same_id id)

-- ---- the end of a load

-- the end of a load leaves its cell idle, whichever end it is
ends_idle : (test : List ℕ → Bool) (es : List Entry) (cell : Cell Identity) (ticket : ℕ) (v w : CellState Identity) (d e : Event) → is_loading w ≡ false
    → NoneLoading (set_value test es (after_end cell ticket v d)) → NoneLoading (set_value test es (after_end cell ticket w e))
ends_idle test es cell ticket v w d e is none = by (is_open cell.state ticket) none
  where
    by : (t : Bool) → NoneLoading (set_value test es (cond t (moved cell v d) cell)) → NoneLoading (set_value test es (cond t (moved cell w e) cell))
    by true h = set_other test es (moved cell v d) (moved cell w e) is h
    by false h = h

pub failed_idle : (cache : Cache) (id : List ℕ) (ticket : ℕ) → NoneLoading (dropped_at cache id ticket).cells → NoneLoading (failed_at cache id ticket).cells
failed_idle cache id ticket none = ends_idle (is_id id) cache.cells (cell_at cache id) ticket Empty Empty (event.Dropped ticket) (event.Failed ticket) refl none

pub done_idle : (cache : Cache) (id : List ℕ) (ticket : ℕ) (identity : Identity) (expiry : ℕ) → NoneLoading (dropped_at cache id ticket).cells → NoneLoading (done_at cache id ticket identity expiry).cells
done_idle cache id ticket identity expiry none =
    ends_idle (is_id id) cache.cells (cell_at cache id) ticket Empty (Full ticket identity expiry) (event.Dropped ticket) (event.Done ticket expiry) refl none

-- ---- a look

cleared_reply : (buffer now : ℕ) (s : CellState Identity) → state_after_clear buffer s now ≡ Empty → reply_in buffer s now false ≡ reply.None
cleared_reply buffer now Empty h = refl
cleared_reply buffer now (Loading t) h = absurd (cc h)
cleared_reply buffer now (Full t v x) h = by (nat_lt (now + buffer) x) h
  where
    by : (b : Bool) → cond b (Full t v x) Empty ≡ Empty → cond b reply.Kept reply.None ≡ reply.None
    by true h = absurd (cc h)
    by false h = refl

-- a look that begins a load leaves its cell loading under the load's ticket
pub begun_state : (cell : Cell Identity) (now ticket : ℕ) → AnswersLook cell now (looked.Load ticket) → (looked_at cell now).state ≡ Loading ticket
begun_state cell now ticket (is, empty) =
    let cleared = after_clear cell now false in
    ap (λ r. (after_none r cleared).state) (cleared_reply cell.buffer now cell.state empty)
    ∙ (ap (λ s. state_after_begin s (begun_in cleared.events)) empty
    ∙ ap (λ n. Loading n) (begun_in-append cell.events _ ∙ (add-zero (begun_in cell.events) ∙ sym is)))

-- a look that finds a value leaves its cell with it
pub hit_idle : (cell : Cell Identity) (now : ℕ) (identity : Identity) → AnswersLook cell now (looked.Hit identity) → is_loading (looked_at cell now).state ≡ false
hit_idle cell now identity (ticket, expiry, is, early) = rw (is, lt-ltb (now + cell.buffer) expiry early) refl

within_idle : (cache : Cache) → NoneLoading cache.cells → NoneLoading (within_most cache).cells
within_idle cache none = by (nat_lt cache.terms.max_partitions (length cache.cells))
  where
    by : (b : Bool) → NoneLoading (cond b (without_oldest cache) cache).cells
    by true = rest_idle cache.cells none
    by false = none

pub put_idle : (cache : Cache) (id : List ℕ) (new : Cell Identity) → NoneLoading cache.cells → is_loading new.state ≡ false → NoneLoading (put cache id new).cells
put_idle cache id new none is = by (is_some (lookup (is_id id) cache.cells))
  where
    by : (b : Bool) → NoneLoading (cond b (with_cell cache id new) (within_most (with_last cache id new))).cells
    by true = set_idle (is_id id) cache.cells new none is
    by false = within_idle (with_last cache id new) (last_idle cache.cells id new none is)

-- ---- a load that is begun

-- what the end of the load of this ticket leaves among these cells
abbrev Drops : (List ℕ → Bool) → List Entry → Cell Identity → ℕ → Type 0
Drops test es new ticket = NoneLoading (set_value test es (after_end (unwrap_or (lookup test es) new) ticket Empty (event.Dropped ticket)))

ended : (cell : Cell Identity) (ticket : ℕ) (next : CellState Identity) (e : Event) → cell.state ≡ Loading ticket → (after_end cell ticket next e).state ≡ next
ended cell ticket next e is =
    subst (λ s. (cond (is_open s ticket) (moved cell next e) cell).state ≡ next) (sym is) (ap (λ (c : Cell Identity). c.state) (same_ticket ticket (moved cell next e) cell))

ended_state : (cell : Cell Identity) (ticket : ℕ) → cell.state ≡ Loading ticket → is_loading (after_end cell ticket Empty (event.Dropped ticket)).state ≡ false
ended_state cell ticket is = ap is_loading (ended cell ticket Empty (event.Dropped ticket) is)

found_drops : (test : List ℕ → Bool) (es : List Entry) (old new fresh : Cell Identity) (ticket : ℕ) → lookup test es ≡ Some old → NoneLoading es → new.state ≡ Loading ticket → Drops test (set_value test es new) fresh ticket
found_drops test es old new fresh ticket found none is =
    let next = after_end new ticket Empty (event.Dropped ticket) in
    subst (λ o. NoneLoading (set_value test (set_value test es new) (after_end (unwrap_or o fresh) ticket Empty (event.Dropped ticket)))) (sym (written test es old new found))
    (subst NoneLoading (sym (set_twice test es new next)) (set_idle test es next none (ended_state new ticket is)))

later_none : (test : List ℕ → Bool) (e : Entry) (es : List Entry) → lookup test (e ∷ es) ≡ None → (test e.0 ≡ false) × (lookup test es ≡ None)
later_none test e es h = by (test e.0) refl h
  where
    by : (t : Bool) → test e.0 ≡ t → cond t (Some e.1) (lookup test es) ≡ None → (test e.0 ≡ false) × (lookup test es ≡ None)
    by true is h = absurd (cc h)
    by false is h = (is, h)

lookup_last : (test : List ℕ → Bool) (es : List Entry) (id : List ℕ) (new : Cell Identity) → test id ≡ true → lookup test es ≡ None → lookup test (es ++ (id, new) ∷ []) ≡ Some new
lookup_last test [] id new same h = rw same refl
lookup_last test (e ∷ es) id new same h = let n = later_none test e es h in rw (n.0) (lookup_last test es id new same n.1)

set_last : (test : List ℕ → Bool) (es : List Entry) (id : List ℕ) (new w : Cell Identity) → test id ≡ true → lookup test es ≡ None → NoneLoading es → is_loading w.state ≡ false → NoneLoading (set_value test (es ++ (id, new) ∷ []) w)
set_last test [] id new w same h none is = rw same (is, tt)
set_last test (e ∷ es) id new w same h none is = let n = later_none test e es h in rw (n.0) (none.0, set_last test es id new w same n.1 none.1 is)

last_drops : (test : List ℕ → Bool) (es : List Entry) (id : List ℕ) (new fresh : Cell Identity) (ticket : ℕ) → test id ≡ true → lookup test es ≡ None → NoneLoading es → new.state ≡ Loading ticket → Drops test (es ++ (id, new) ∷ []) fresh ticket
last_drops test es id new fresh ticket same h none is =
    let next = after_end new ticket Empty (event.Dropped ticket) in
    subst (λ o. NoneLoading (set_value test (es ++ (id, new) ∷ []) (after_end (unwrap_or o fresh) ticket Empty (event.Dropped ticket)))) (sym (lookup_last test es id new same h))
    (set_last test es id new next same h none (ended_state new ticket is))

rest_drops : (test : List ℕ → Bool) (es : List Entry) (id : List ℕ) (new fresh : Cell Identity) (ticket : ℕ) → test id ≡ true → lookup test es ≡ None → NoneLoading es → new.state ≡ Loading ticket → Drops test (remove (es ++ (id, new) ∷ []) 0) fresh ticket
rest_drops test [] id new fresh ticket same h none is = tt
rest_drops test (e ∷ es) id new fresh ticket same h none is = last_drops test es id new fresh ticket same (later_none test e es h).1 none.1 is

-- a load that is begun is the only one
pub begun_idle : (cache : Cache) (id : List ℕ) (new : Cell Identity) (ticket : ℕ) → NoneLoading cache.cells → new.state ≡ Loading ticket → NoneLoading (dropped_at (put cache id new) id ticket).cells
begun_idle cache id new ticket none is = by (lookup (is_id id) cache.cells) refl
  where
    within : (b : Bool) → lookup (is_id id) cache.cells ≡ None → NoneLoading (dropped_at (cond b (without_oldest (with_last cache id new)) (with_last cache id new)) id ticket).cells
    within true there = rest_drops (is_id id) cache.cells id new (empty_cell cache.terms.buffer) ticket (same_id id) there none is
    within false there = last_drops (is_id id) cache.cells id new (empty_cell cache.terms.buffer) ticket (same_id id) there none is

    by : (o : Option (Cell Identity)) → lookup (is_id id) cache.cells ≡ o → NoneLoading (dropped_at (cond (is_some o) (with_cell cache id new) (within_most (with_last cache id new))) id ticket).cells
    by None there = within (nat_lt cache.terms.max_partitions (length (cache.cells ++ (id, new) ∷ []))) there
    by (Some cell) there = found_drops (is_id id) cache.cells cell new (empty_cell cache.terms.buffer) ticket there none is

-- ---- what the cell of a load has

-- the cell of a load that is begun waits for it, where the cache keeps any cell
pub begun_waits : (cache : Cache) (id : List ℕ) (new : Cell Identity) (ticket : ℕ) → new.state ≡ Loading ticket → 0 < (put cache id new).terms.max_partitions → (cell_at (put cache id new) id).state ≡ Loading ticket
begun_waits cache id new ticket is some = by (lookup (is_id id) cache.cells) refl some
  where
    state_in : Option (Cell Identity) → CellState Identity
    state_in o = (unwrap_or o (empty_cell cache.terms.buffer)).state

    rest : (es : List Entry) → lookup (is_id id) es ≡ None → nat_lt cache.terms.max_partitions (length (es ++ (id, new) ∷ [])) ≡ true → 0 < cache.terms.max_partitions
        → state_in (lookup (is_id id) (remove (es ++ (id, new) ∷ []) 0)) ≡ Loading ticket
    rest [] there more k = absurd (omega (arith, ltb-true cache.terms.max_partitions 1 more))
    rest (e ∷ es) there more k = ap state_in (lookup_last (is_id id) es id new (same_id id) (later_none (is_id id) e es there).1) ∙ is

    within : (b : Bool) → nat_lt cache.terms.max_partitions (length (cache.cells ++ (id, new) ∷ [])) ≡ b → lookup (is_id id) cache.cells ≡ None → 0 < (cond b (without_oldest (with_last cache id new)) (with_last cache id new)).terms.max_partitions
        → (cell_at (cond b (without_oldest (with_last cache id new)) (with_last cache id new)) id).state ≡ Loading ticket
    within true more there k = rest cache.cells there more k
    within false more there k = ap state_in (lookup_last (is_id id) cache.cells id new (same_id id) there) ∙ is

    by : (o : Option (Cell Identity)) → lookup (is_id id) cache.cells ≡ o → 0 < (cond (is_some o) (with_cell cache id new) (within_most (with_last cache id new))).terms.max_partitions
        → (cell_at (cond (is_some o) (with_cell cache id new) (within_most (with_last cache id new))) id).state ≡ Loading ticket
    by None there k = within (nat_lt cache.terms.max_partitions (length (cache.cells ++ (id, new) ∷ []))) refl there k
    by (Some cell) there k = ap state_in (written (is_id id) cache.cells cell new there) ∙ is

-- the cell that waited has the identity
pub done_full : (cache : Cache) (id : List ℕ) (ticket : ℕ) (identity : Identity) (expiry : ℕ) → (cell_at cache id).state ≡ Loading ticket → (cell_at (done_at cache id ticket identity expiry) id).state ≡ Full ticket identity expiry
done_full cache id ticket identity expiry waits =
    by (lookup (is_id id) cache.cells) refl waits (after_end (cell_at cache id) ticket (Full ticket identity expiry) (event.Done ticket expiry))
    (ended (cell_at cache id) ticket (Full ticket identity expiry) (event.Done ticket expiry) waits)
  where
    by : (found : Option (Cell Identity)) → lookup (is_id id) cache.cells ≡ found → (unwrap_or found (empty_cell cache.terms.buffer)).state ≡ Loading ticket
        → (new : Cell Identity) → new.state ≡ Full ticket identity expiry
        → (unwrap_or (lookup (is_id id) (set_value (is_id id) cache.cells new)) (empty_cell cache.terms.buffer)).state ≡ Full ticket identity expiry
    by None there h new full = absurd (cc h)
    by (Some cell) there h new full = ap (λ o. (unwrap_or o (empty_cell cache.terms.buffer)).state) (written (is_id id) cache.cells cell new there) ∙ full
