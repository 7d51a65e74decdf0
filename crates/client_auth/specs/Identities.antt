-- A client's identities, with the cache that they may have.
use Rattle.std.specs.Prelude.{◌≡◌, ℕ, Bool, List, [], ◌++◌, Option, None, Some, is_some}
use Rattle.identity_cell.specs.LazyCache.{cache_of, loads}
use Rattle.identity_cell.specs.declared.identity_cache.SharedIdentityCache.{SharedIdentityCache}
use Rattle.identity_cell.specs.declared.identity_cache.SharedIdentityCache.TheVariants.{NoCache, Lazy}
use Rattle.outside.specs.Calls.{OutsideCall}
use Rattle.outside.specs.declared.answers.IdentityPoll.{IdentityPoll}
use Rattle.run_grammar.specs.declared.answer.Answer.{Answer}
use Rattle.smithy_context.specs.StandingLayers.{StandingLayers}
use Rattle.smithy_types.specs.declared.identity.Endpoint.{Endpoint}
use Rattle.client_auth.specs.Caching.{ChoosesCached, dropped_open, giving_up_open}
use Rattle.client_auth.specs.Choosing.{Chooses, ending_load, no_load}
use Rattle.client_auth.specs.declared.identities.CachedIdentities.{CachedIdentities}
use Rattle.client_auth.specs.declared.identities.Identities.{Identities}

-- a cache of these terms with nothing in it
abbrev pub cached_by : SharedIdentityCache → Option CachedIdentities
cached_by NoCache = None
cached_by (Lazy terms) = Some (record { cache = cache_of terms [] 0; current = None })

-- identities are kept in a cache
abbrev pub has_cache : {R : Type 0} → Identities R → Bool
has_cache identities = is_some identities.cached

-- how many loads were begun into the cache
abbrev pub loads_of : Option CachedIdentities → ℕ
loads_of None = 0
loads_of (Some cached) = loads cached.cache

-- ---- what is open is given up

-- the load into the cache gives its sleep and its cell up
abbrev pub ending_cached : Option CachedIdentities → List OutsideCall
ending_cached None = []
ending_cached (Some cached) = giving_up_open cached.current

-- the cache without an open load, which is given up in its cell
abbrev pub rested : Option CachedIdentities → Option CachedIdentities
rested None = None
rested (Some cached) = Some (record { cache = dropped_open cached.cache cached.current; current = None })

-- first the outside's load is dropped
abbrev pub ending_choice : {R : Type 0} → Identities R → List OutsideCall
ending_choice identities = ending_load identities.load ++ ending_cached identities.cached

-- a client's identities with no load open
abbrev pub at_rest : {R : Type 0} → Identities R → Identities R
at_rest identities = record identities { cached = rested identities.cached; load = no_load }

-- ---- Choose

-- by whether there is a cache
abbrev pub ChoosesBy : {A R : Type 0} → (A → List ℕ) → (R → IdentityPoll → R → Type 0) → List (List ℕ) → List A
    → Endpoint → Bool → StandingLayers
    → Option CachedIdentities → Identities R → Answer → Identities R → List OutsideCall → Type 0
ChoosesBy names polls options schemes endpoint time_source settings None old a new calls =
    Chooses names polls options schemes endpoint settings old.sources.items old.load a new.sources.items new.load calls
    × (new ≡ record old { sources = new.sources; load = new.load })
ChoosesBy names polls options schemes endpoint time_source settings (Some cached) old a new calls =
    (after : CachedIdentities)
    × ChoosesCached polls names options schemes endpoint time_source settings old.sources.items cached.cache
    cached.current old.load a new.sources.items after.cache after.current new.load calls
    × (new ≡ record old { sources = new.sources; cached = Some after; load = new.load })
