-- A cache of identities by the ids of schemes, and what calls make of it.
use Rattle.std.specs.Prelude.{◌≡◌, ◌⊎◌, ℕ, ◌+◌, ◌<◌, nat_eq, nat_lt, min, Bool, false, Option, Some, None, is_some}
use Rattle.std.specs.Prelude.{if◌then◌else◌, List, [], ◌∷◌, ◌++◌, length, remove, slice_get, sum_by}
use Rattle.std.specs.List.{AllByRecursion}
use Rattle.std.specs.Option.{unwrap_or, option_map_or}
use Rattle.std.specs.Map.{lookup, set_value, values_of}
use Rattle.std.specs.Cmp.Lexicographic.{pointwise}
use Rattle.smithy_types.specs.declared.identity.Identity.{Identity}
use Rattle.identity_cell.specs.declared.lazy_terms.LazyCacheTerms.{LazyCacheTerms}
use Rattle.identity_cell.specs.declared.cell.CellState.TheVariants as state
use Rattle.identity_cell.specs.declared.event.Event.TheVariants as event
use Rattle.identity_cell.specs.declared.event.ClearReply.{ClearReply}
use Rattle.identity_cell.specs.declared.event.ClearReply.TheVariants as reply
use Rattle.identity_cell.specs.declared.looked.Looked.{Looked}
use Rattle.identity_cell.specs.declared.looked.Looked.TheVariants as looked
use Rattle.identity_cell.specs.Cell.{Cell, empty_cell, after_clear, after_begin, after_end, reply_in, state_after_clear}
use Rattle.identity_cell.specs.Expiry.{stored_expiry}
use Rattle.identity_cell.specs.Timeout.{load_timeout}
use Rattle.smithy_context.specs.StandingLayers.{StandingLayers}
use Rattle.identity_cell.specs.History.{begun_in}

-- a scheme's id with its cell
abbrev pub Entry : Type 0
Entry = List ℕ × Cell Identity

-- a lazy identity cache: its terms, and the cell of each scheme
pub record Cache : Type 0 where
  pub terms : LazyCacheTerms
  -- the cells in the order in which they were made
  pub cells : List Entry
  -- how many loads were begun in the cells that were given up, up to 2^64 - 1
  pub given_up : ℕ

-- a cache by its fields
abbrev pub cache_of : LazyCacheTerms → List Entry → ℕ → Cache
cache_of terms cells given_up = record { terms = terms; cells = cells; given_up = given_up }

-- the same scheme
abbrev pub is_id : List ℕ → List ℕ → Bool
is_id = pointwise nat_eq

-- the scheme's cell; where it has none, a new one
abbrev pub cell_at : Cache → List ℕ → Cell Identity
cell_at cache id = unwrap_or (lookup (is_id id) cache.cells) (empty_cell cache.terms.buffer)

-- each cell goes by the cache's buffer
abbrev pub HaveBuffer : ℕ → List Entry → Type 0
HaveBuffer buffer cells = AllByRecursion (λ e. e.1.buffer ≡ buffer) cells

-- how many loads were begun in a cell
abbrev pub loads_in : Cell Identity → ℕ
loads_in cell = begun_in cell.events

-- all loads that were ever begun, those in cells that were given up too; it stops at 2^64 - 1
abbrev pub loads : Cache → ℕ
loads cache = min (cache.given_up + sum_by loads_in (values_of cache.cells)) 18446744073709551615

-- without the cell that was made first
abbrev pub without_oldest : Cache → Cache
without_oldest cache =
    cache_of cache.terms (remove cache.cells 0)
    (min (cache.given_up + option_map_or (λ e. loads_in e.1) (slice_get cache.cells 0) 0) 18446744073709551615)

-- where there are too many cells, the oldest goes
abbrev pub within_most : Cache → Cache
within_most cache = if nat_lt cache.terms.max_partitions (length cache.cells) then without_oldest cache else cache

-- with a new cell, which goes last
abbrev pub with_last : Cache → List ℕ → Cell Identity → Cache
with_last cache id cell = cache_of cache.terms (cache.cells ++ (id, cell) ∷ []) cache.given_up

-- with another cell in the place of the scheme's; where it has none, nothing changes
abbrev pub with_cell : Cache → List ℕ → Cell Identity → Cache
with_cell cache id cell = cache_of cache.terms (set_value (is_id id) cache.cells cell) cache.given_up

-- with this as the scheme's cell: it keeps its place, and a new one goes last and may drive out the
-- oldest
abbrev pub put : Cache → List ℕ → Cell Identity → Cache
put cache id cell =
    if is_some (lookup (is_id id) cache.cells) then with_cell cache id cell else within_most (with_last cache id cell)

-- a cell that was asked for a value at this moment, and where it gave none, to begin a load
abbrev pub after_none : {T : Type 0} → ClearReply → Cell T → Cell T
after_none reply.None cell = after_begin cell
after_none _ cell = cell

-- a cell after a look for its value at this moment; without a value the look begins a load
abbrev pub looked_at : {T : Type 0} → Cell T → ℕ → Cell T
looked_at cell now = after_none (reply_in cell.buffer cell.state now false) (after_clear cell now false)

-- what such a look answers: a copy of the value where there is one that hasn't expired, the ticket
-- of a new load where there is none, and to wait where a load is open
abbrev pub AnswersLook : Cell Identity → ℕ → Looked → Type 0
AnswersLook cell now (looked.Hit identity) =
    (ticket : ℕ) × (expiry : ℕ) × (cell.state ≡ state.Full ticket identity expiry) × (now + cell.buffer < expiry)
AnswersLook cell now (looked.Load ticket) =
    (ticket ≡ begun_in cell.events) × (state_after_clear cell.buffer cell.state now ≡ state.Empty)
AnswersLook cell now looked.NotYet = (ticket : ℕ) × (cell.state ≡ state.Loading ticket)

-- how many loads a look began
abbrev pub begun_by : Looked → ℕ
begun_by (looked.Load ticket) = 1
begun_by _ = 0

-- the load of the ticket gave this identity, which expires at this moment
abbrev pub done_at : Cache → List ℕ → ℕ → Identity → ℕ → Cache
done_at cache id ticket identity expiry =
    with_cell cache id
    (after_end (cell_at cache id) ticket (state.Full ticket identity expiry) (event.Done ticket expiry))

-- the load of the ticket failed
abbrev pub failed_at : Cache → List ℕ → ℕ → Cache
failed_at cache id ticket = with_cell cache id (after_end (cell_at cache id) ticket state.Empty (event.Failed ticket))

-- the load of the ticket was given up
abbrev pub dropped_at : Cache → List ℕ → ℕ → Cache
dropped_at cache id ticket = with_cell cache id (after_end (cell_at cache id) ticket state.Empty (event.Dropped ticket))

-- when an identity expires that was first asked for at a moment, by the terms of a cache and a
-- random word
abbrev pub expiry_by : LazyCacheTerms → Identity → ℕ → ℕ → ℕ
expiry_by terms identity asked_at word =
    stored_expiry identity.expiration asked_at terms.default_expiration terms.buffer word

-- how long a load may take by the terms of a cache, or else by the settings
abbrev pub timeout_by : LazyCacheTerms → StandingLayers → ℕ
timeout_by terms settings = unwrap_or terms.load_timeout (load_timeout settings)

-- a look into the scheme's cell among these, where it has one
abbrev pub LooksIn : List Entry → List ℕ → ℕ → Option Looked → List Entry → Type 0
LooksIn old id now (Some looked) new =
    (cell : Cell Identity) × (lookup (is_id id) old ≡ Some cell) × (new ≡ set_value (is_id id) old (looked_at cell now))
    × AnswersLook cell now looked
LooksIn old id now None new = (lookup (is_id id) old ≡ None) × (new ≡ old)

-- what a look leaves for which there was no memory: all as it was, or the cell has answered that it
-- has no value
abbrev pub StaysIn : List Entry → List ℕ → ℕ → List Entry → Type 0
StaysIn old id now new =
    (new ≡ old)
    ⊎ ((cell : Cell Identity) × (lookup (is_id id) old ≡ Some cell)
    × (new ≡ set_value (is_id id) old (after_clear cell now false)))
