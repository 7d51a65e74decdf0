-- What the calls of a cache of identities make of its cells.
use Rattle.std.proofs.Common.{◌≡◌, ◌∙◌, ℕ, Bool, true, false, cond, if◌then◌else◌, Option, Some, None, List, [], ◌∷◌, ◌++◌, ap, sym, subst, refl, remove}
use Rattle.std.specs.Option.{unwrap_or}
use Rattle.std.specs.Map.{lookup, set_value}
use Rattle.smithy_types.specs.declared.identity.Identity.{Identity}
use Rattle.identity_cell.specs.declared.lazy_terms.LazyCacheTerms.{LazyCacheTerms}
use Rattle.identity_cell.specs.declared.cell.CellState.{CellState}
use Rattle.identity_cell.specs.declared.event.Event.{Event}
use Rattle.identity_cell.specs.Cell.{Cell, empty_cell, after_end, is_open, moved}
use Rattle.identity_cell.specs.LazyCache.{Entry, Cache, cache_of, is_id, cell_at, HaveBuffer, with_cell}
use Rattle.identity_cell.proofs.HistoryLemmas.{some_injective}

-- where no key passes, nothing is written
pub set_value-absent : {K X : Type 0} (test : K → Bool) (es : List (K × X)) (w : X) → None ≡ lookup test es → es ≡ set_value test es w
set_value-absent test [] w none = refl
set_value-absent {K} {X} test (e ∷ es) w none = by (test e.0) none (set_value-absent test es w)
  where
    by : (t : Bool) → None ≡ cond t (Some e.1) (lookup test es) → (None ≡ lookup test es → es ≡ set_value test es w) → (e ∷ es) ≡ cond t ((e.0, w) ∷ es) (e ∷ set_value test es w)
    by true h later = cc
    by false h later = ap (λ s. e ∷ s) (later h)

-- what one of the cells became, against what the cache was
pub at_cell : (terms : LazyCacheTerms) (given_up : ℕ) (es written : List Entry) (id : List ℕ) (cell new : Cell Identity) (f : Cell Identity → Cell Identity) (old : Cache) → cache_of terms es given_up ≡ old → Some cell ≡ lookup (is_id id) es → new ≡ f cell → written ≡ set_value (is_id id) es new → cache_of terms written given_up ≡ with_cell old id (f (cell_at old id))
at_cell terms given_up es written id cell new f old same found is write =
    ap (λ s. cache_of terms s given_up) write
    ∙ (ap (λ n. cache_of terms (set_value (is_id id) es n) given_up) (is ∙ ap (λ o. f (unwrap_or o (empty_cell terms.buffer))) found)
    ∙ ap (λ c. with_cell c id (f (cell_at c id))) same)

-- a scheme without a cell
pub at_none : (terms : LazyCacheTerms) (given_up : ℕ) (es written : List Entry) (id : List ℕ) (new : Cell Identity) (old : Cache) → cache_of terms es given_up ≡ old → None ≡ lookup (is_id id) es → written ≡ es → cache_of terms written given_up ≡ with_cell old id new
at_none terms given_up es written id new old same none kept =
    ap (λ s. cache_of terms s given_up) (kept ∙ set_value-absent (is_id id) es new none)
    ∙ ap (λ c. with_cell c id new) same

-- the buffer of a cell that was found
pub found_buffer : (buffer : ℕ) (test : List ℕ → Bool) (es : List Entry) (cell : Cell Identity) → HaveBuffer buffer es → Some cell ≡ lookup test es → cell.buffer ≡ buffer
found_buffer buffer test [] cell have found = cc
found_buffer buffer test (e ∷ es) cell have found = by (test e.0) found (found_buffer buffer test es cell have.1)
  where
    by : (t : Bool) → Some cell ≡ cond t (Some e.1) (lookup test es) → (Some cell ≡ lookup test es → cell.buffer ≡ buffer) → cell.buffer ≡ buffer
    by true h later = ap (λ c. c.buffer) (some_injective h) ∙ have.0
    by false h later = later h

-- the buffer of the scheme's cell
pub at_buffer : (cache : Cache) (id : List ℕ) → HaveBuffer cache.terms.buffer cache.cells → (cell_at cache id).buffer ≡ cache.terms.buffer
at_buffer cache id have = by (lookup (is_id id) cache.cells) (λ cell found. found_buffer cache.terms.buffer (is_id id) cache.cells cell have found)
  where
    by : (o : Option (Cell Identity)) → ((cell : Cell Identity) → Some cell ≡ o → cell.buffer ≡ cache.terms.buffer) → (unwrap_or o (empty_cell cache.terms.buffer)).buffer ≡ cache.terms.buffer
    by None there = refl
    by (Some cell) there = there cell refl

-- a cell that is written has the buffer too
pub set_buffer : (buffer : ℕ) (test : List ℕ → Bool) (es : List Entry) (new : Cell Identity) → HaveBuffer buffer es → new.buffer ≡ buffer → HaveBuffer buffer (set_value test es new)
set_buffer buffer test [] new have is = tt
set_buffer buffer test (e ∷ es) new have is = by (test e.0) (set_buffer buffer test es new have.1 is)
  where
    by : (t : Bool) → HaveBuffer buffer (set_value test es new) → HaveBuffer buffer (cond t ((e.0, new) ∷ es) (e ∷ set_value test es new))
    by true later = (is, have.1)
    by false later = (have.0, later)

pub last_buffer : (buffer : ℕ) (es : List Entry) (id : List ℕ) (new : Cell Identity) → HaveBuffer buffer es → new.buffer ≡ buffer → HaveBuffer buffer (es ++ (id, new) ∷ [])
last_buffer buffer [] id new have is = (is, tt)
last_buffer buffer (e ∷ es) id new have is = (have.0, last_buffer buffer es id new have.1 is)

pub rest_buffer : (buffer : ℕ) (es : List Entry) → HaveBuffer buffer es → HaveBuffer buffer (remove es 0)
rest_buffer buffer [] have = tt
rest_buffer buffer (e ∷ es) have = have.1

-- the end of a load keeps the buffer
pub end_buffer : (cell : Cell Identity) (ticket : ℕ) (state : CellState Identity) (event : Event) → (after_end cell ticket state event).buffer ≡ cell.buffer
end_buffer cell ticket state event = by (is_open cell.state ticket)
  where
    by : (t : Bool) → (if t then moved cell state event else cell).buffer ≡ cell.buffer
    by true = refl
    by false = refl

-- the same of what stands among the cells
pub written_buffer : (buffer : ℕ) (test : List ℕ → Bool) (es written : List Entry) (cell new : Cell Identity) → HaveBuffer buffer es → Some cell ≡ lookup test es → new.buffer ≡ cell.buffer → written ≡ set_value test es new → HaveBuffer buffer written
written_buffer buffer test es written cell new have found is write =
    subst (λ s. HaveBuffer buffer s) (sym write) (set_buffer buffer test es new have (is ∙ found_buffer buffer test es cell have found))
