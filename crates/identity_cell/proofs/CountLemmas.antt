-- How many loads the calls of a cache count.
use Rattle.std.proofs.Common.{◌≡◌, ◌∙◌, ℕ, ◌+◌, min, Bool, true, false, cond, nat_lt, if◌then◌else◌, Option, Some, None, is_some, List, [], ◌∷◌, ◌++◌, length, ap, sym, refl, sum_by, add-zero, zero-add, arith}
use Rattle.std.proofs.lemmas.Bool.{ltb-false}
use Rattle.std.proofs.lemmas.List.{map-append}
use Rattle.std.proofs.lemmas.List.Sums.{sum_by-cons, sum_by-append}
use Rattle.std.proofs.lemmas.Map.Entries.{sum_by-set_value}
use Rattle.std.specs.Option.{unwrap_or}
use Rattle.std.specs.Map.{lookup, set_value, values_of}
use Rattle.smithy_types.specs.declared.identity.Identity.{Identity}
use Rattle.identity_cell.specs.declared.lazy_terms.LazyCacheTerms.{LazyCacheTerms}
use Rattle.identity_cell.specs.declared.cell.CellState.{CellState}
use Rattle.identity_cell.specs.declared.cell.CellState.TheVariants.{Empty, Loading, Full}
use Rattle.identity_cell.specs.declared.event.Event.{Event}
use Rattle.identity_cell.specs.declared.event.Event.TheVariants as event
use Rattle.identity_cell.specs.declared.event.ClearReply.TheVariants as reply
use Rattle.identity_cell.specs.declared.looked.Looked.{Looked}
use Rattle.identity_cell.specs.declared.looked.Looked.TheVariants as looked
use Rattle.identity_cell.specs.History.{begun_in, begins}
use Rattle.identity_cell.specs.Cell.{Cell, empty_cell, moved, after_end, is_open}
use Rattle.identity_cell.specs.LazyCache.{Entry, Cache, cache_of, is_id, cell_at, loads_in, loads, without_oldest, within_most, with_last, with_cell, put, after_none, looked_at, AnswersLook, begun_by}
use Rattle.identity_cell.proofs.HistoryLemmas.{begun_in-append}
use Rattle.identity_cell.proofs.LazyLemmas.{set_value-absent}

-- an event that begins no load
same_count : (events : List Event) (e : Event) → begins e ≡ 0 → begun_in (events ++ e ∷ []) ≡ begun_in events
same_count events e none = begun_in-append events e ∙ (ap (λ n. begun_in events + n) none ∙ add-zero (begun_in events))

-- such an event, and then a load
one_more : (events : List Event) (e : Event) (ticket : ℕ) → begins e ≡ 0 → begun_in ((events ++ e ∷ []) ++ event.Begin ticket ∷ []) ≡ begun_in events + 1
one_more events e ticket none = begun_in-append (events ++ e ∷ []) (event.Begin ticket) ∙ ap (λ n. n + 1) (same_count events e none)

look_events : (buffer now : ℕ) (events : List Event) (answer : Looked) (state : CellState Identity) → AnswersLook (record { buffer = buffer; state = state; events = events }) now answer → begun_in (looked_at (record { buffer = buffer; state = state; events = events }) now).events ≡ begun_in events + begun_by answer
look_events buffer now events (looked.Hit i) Empty h = cc
look_events buffer now events (looked.Load t) Empty h = one_more events _ _ refl
look_events buffer now events looked.NotYet Empty h = cc
look_events buffer now events (looked.Hit i) (Loading u) h = cc
look_events buffer now events (looked.Load t) (Loading u) h = cc
look_events buffer now events looked.NotYet (Loading u) h = same_count events _ refl ∙ sym (add-zero (begun_in events))
look_events buffer now events answer (Full u v x) h = by (nat_lt (now + buffer) x) refl answer h
  where
    by : (b : Bool) → nat_lt (now + buffer) x ≡ b → (answer : Looked) → AnswersLook (record { buffer = buffer; state = Full u v x; events = events }) now answer → begun_in (after_none (cond b reply.Kept reply.None) (moved (record { buffer = buffer; state = Full u v x; events = events }) (cond b (Full u v x) Empty) (event.Clear now false (cond b reply.Kept reply.None)))).events ≡ begun_in events + begun_by answer
    by true is (looked.Hit i) h = same_count events _ refl ∙ sym (add-zero (begun_in events))
    by true is (looked.Load t) h = let e : cond true (Full u v x) Empty ≡ Empty = ap (λ b. cond b (Full u v x) Empty) (sym is) ∙ h.1 in cc
    by true is looked.NotYet h = cc
    by false is (looked.Hit i) h = let e : x ≡ h.1 = cc in absurd (omega (arith, ltb-false (now + buffer) x is, h.3, e))
    by false is (looked.Load t) h = one_more events _ _ refl
    by false is looked.NotYet h = cc

-- a look at a cell counts the load that it begins
pub look_loads : (cell : Cell Identity) (now : ℕ) (answer : Looked) → AnswersLook cell now answer → loads_in (looked_at cell now) ≡ loads_in cell + begun_by answer
look_loads cell now answer h = look_events cell.buffer now cell.events answer cell.state h

-- the end of a load counts none
pub end_loads : (cell : Cell Identity) (ticket : ℕ) (state : CellState Identity) (e : Event) → begins e ≡ 0 → loads_in (after_end cell ticket state e) ≡ loads_in cell
end_loads cell ticket state e none = by (is_open cell.state ticket)
  where
    by : (b : Bool) → loads_in (if b then moved cell state e else cell) ≡ loads_in cell
    by true = same_count cell.events e none
    by false = refl

-- the cells' loads, where one cell among them has so many more
more_there : (test : List ℕ → Bool) (es : List Entry) (cell new : Cell Identity) (n : ℕ) → lookup test es ≡ Some cell → loads_in new ≡ loads_in cell + n → sum_by loads_in (values_of (set_value test es new)) ≡ sum_by loads_in (values_of es) + n
more_there test es cell new n found more = omega (arith, sum_by-set_value loads_in test es cell new found, more)

-- where a last cell came
more_last : (es : List Entry) (id : List ℕ) (new : Cell Identity) → sum_by loads_in (values_of (es ++ (id, new) ∷ [])) ≡ sum_by loads_in (values_of es) + loads_in new
more_last es id new =
    ap (λ cs. sum_by loads_in cs) (map-append (λ e. e.1) es ((id, new) ∷ []))
    ∙ (sum_by-append loads_in (values_of es) (new ∷ []) ∙ ap (λ n. sum_by loads_in (values_of es) + n) (zero-add (loads_in new)))

-- a cell that goes leaves its count
gone : (terms : LazyCacheTerms) (given_up : ℕ) (es : List Entry) → loads (without_oldest (cache_of terms es given_up)) ≡ loads (cache_of terms es given_up)
gone terms given_up [] = omega arith
gone terms given_up (e ∷ es) =
    let s : sum_by loads_in (values_of (e ∷ es)) ≡ loads_in e.1 + sum_by loads_in (values_of es) = sum_by-cons loads_in e.1 (values_of es) in
    omega (arith, s)

within : (cache : Cache) → loads (within_most cache) ≡ loads cache
within cache = by (nat_lt cache.terms.max_partitions (length cache.cells))
  where
    by : (b : Bool) → loads (if b then without_oldest cache else cache) ≡ loads cache
    by true = gone cache.terms cache.given_up cache.cells
    by false = refl

-- a scheme's cell with so many loads more
pub put_loads : (cache : Cache) (id : List ℕ) (new : Cell Identity) (n : ℕ) → loads_in new ≡ loads_in (cell_at cache id) + n → loads (put cache id new) ≡ min (loads cache + n) 18446744073709551615
put_loads cache id new n more = by (lookup (is_id id) cache.cells) refl more
  where
    by : (o : Option (Cell Identity)) → lookup (is_id id) cache.cells ≡ o → loads_in new ≡ loads_in (unwrap_or o (empty_cell cache.terms.buffer)) + n → loads (if is_some o then with_cell cache id new else within_most (with_last cache id new)) ≡ min (loads cache + n) 18446744073709551615
    by None none more = within (with_last cache id new) ∙ omega (arith, more_last cache.cells id new, more)
    by (Some cell) found more = omega (arith, more_there (is_id id) cache.cells cell new n found more)

pub with_cell_loads : (cache : Cache) (id : List ℕ) (new : Cell Identity) → loads_in new ≡ loads_in (cell_at cache id) → loads (with_cell cache id new) ≡ loads cache
with_cell_loads cache id new same = by (lookup (is_id id) cache.cells) refl same
  where
    by : (o : Option (Cell Identity)) → lookup (is_id id) cache.cells ≡ o → loads_in new ≡ loads_in (unwrap_or o (empty_cell cache.terms.buffer)) → loads (with_cell cache id new) ≡ loads cache
    by None none same = ap (λ es. loads (cache_of cache.terms es cache.given_up)) (sym (set_value-absent (is_id id) cache.cells new (sym none)))
    by (Some cell) found same = omega (arith, more_there (is_id id) cache.cells cell new 0 found (same ∙ sym (add-zero (loads_in cell))))

pub look_counts : (cache : Cache) (id : List ℕ) (now : ℕ) (answer : Looked) → AnswersLook (cell_at cache id) now answer → loads (put cache id (looked_at (cell_at cache id) now)) ≡ min (loads cache + begun_by answer) 18446744073709551615
look_counts cache id now answer h = put_loads cache id (looked_at (cell_at cache id) now) (begun_by answer) (look_loads (cell_at cache id) now answer h)

pub end_counts : (cache : Cache) (id : List ℕ) (ticket : ℕ) (state : CellState Identity) (e : Event) → begins e ≡ 0 → loads (with_cell cache id (after_end (cell_at cache id) ticket state e)) ≡ loads cache
end_counts cache id ticket state e none = with_cell_loads cache id _ (end_loads (cell_at cache id) ticket state e none)
