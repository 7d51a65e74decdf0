-- The loads of a client's cache, and what a choice that is pending asked.
use Rattle.std.specs.Prelude.{◌≡◌, ℕ, Bool, true, false, List, [], ◌∷◌, ◌++◌, map, position, Option, None, Some}
use Rattle.std.specs.List.{AllByRecursion}
use Rattle.auth_endpoint.specs.Choice.{is_id}
use Rattle.client_auth.specs.Choosing.{AsksAt, Picks, endpoint_before}
use Rattle.client_auth.specs.Identities.{cached_by, rested}
use Rattle.client_auth.specs.declared.choose.OpenLoad.{OpenLoad}
use Rattle.client_auth.specs.declared.choose.Picked.TheVariants.{Scheme}
use Rattle.client_auth.specs.declared.identities.CachedIdentities.{CachedIdentities}
use Rattle.client_auth.specs.declared.identities.Identities.{Identities}
use Rattle.client_auth.specs.declared.sources.RegisteredSource.{RegisteredSource}
use Rattle.client_components.specs.Resting.{Exchanges}
use Rattle.client_components.specs.Meaning.{ClientMeaning}
use Rattle.client_components.specs.Serving.{Served}
use Rattle.client_components.specs.declared.parts.Parts.{Parts}
use Rattle.identity_cell.specs.LazyCache.{Entry as CacheEntry}
use Rattle.identity_cell.specs.declared.cell.CellState.{CellState}
use Rattle.identity_cell.specs.declared.cell.CellState.TheVariants.{Loading}
use Rattle.identity_cell.specs.declared.identity_cache.SharedIdentityCache.{SharedIdentityCache}
use Rattle.outside.specs.Calls.{OutsideCall}
use Rattle.outside.specs.declared.answers.IdentityPoll.{IdentityPoll}
use Rattle.outside.specs.declared.answers.IdentityPoll.TheVariants as polled
use Rattle.run_grammar.specs.Entry.{entry}
use Rattle.run_grammar.specs.declared.answer.Answer.TheVariants as answers
use Rattle.run_grammar.specs.declared.answer.Entry.{Entry}
use Rattle.run_grammar.specs.declared.question.Question.TheVariants as questions
use Rattle.smithy_context.specs.StandingLayers.{StandingLayers}
use Rattle.smithy_types.specs.Chain.{Chained}
use Rattle.smithy_types.specs.declared.identity.Endpoint.{Endpoint}

-- ---- cells

-- a cell waits for a load
abbrev pub is_loading : {T : Type 0} → CellState T → Bool
is_loading (Loading ticket) = true
is_loading _ = false

-- none of these cells is loading
abbrev pub NoneLoading : List CacheEntry → Type 0
NoneLoading cells = AllByRecursion (λ e. is_loading e.1.state ≡ false) cells

-- no cell of the cache is loading, where there is a cache
abbrev pub NoneLoads : Option CachedIdentities → Type 0
NoneLoads None = Unit {0}
NoneLoads (Some cached) = NoneLoading cached.cache.cells

-- no cell is loading but that of the load that is open: once it is given up, none is
abbrev pub LoadsAlone : {R : Type 0} → Identities R → Type 0
LoadsAlone identities = NoneLoads (rested identities.cached)

-- so it is at a client's start, where nothing was kept yet
abbrev pub BeginsAlone : Type 0 → Type 0
BeginsAlone R =
    (identities : Identities R) (cache : SharedIdentityCache) → identities.cached ≡ cached_by cache
    → LoadsAlone identities

-- ---- a choice that is pending

-- among these calls the source of the scheme that is picked was asked, and answered Pending: the outside's resolve, or
-- the resolver that is registered
pub record SourcePends {A R : Type 0} (names : A → List ℕ) (polls : R → IdentityPoll → R → Type 0)
    (options : List (List ℕ)) (schemes : List A) (endpoint : Endpoint) (settings : StandingLayers)
    (old new : List (RegisteredSource R)) (calls : List OutsideCall) : Type 0 where
  pub id : List ℕ
  pub picks : Picks (map names schemes) (map (λ (s : RegisteredSource R). s.id) old) options
      (endpoint_before endpoint settings) settings (Scheme id)
  pub place : ℕ
  pub placed : position (λ (s : RegisteredSource R). is_id id s.id) old ≡ Some place
  pub earlier : List OutsideCall
  pub asking : List OutsideCall
  pub later : List OutsideCall
  pub open_load : OpenLoad
  pub asked : AsksAt polls id place old polled.Pending new open_load asking
  pub calls_are : calls ≡ earlier ++ (asking ++ later)

module _ {T X Q C I A R Z D P L : Type 0} (means : ClientMeaning T X Q C I A R Z D P L) where
  -- a choice that was answered Pending, with the calls that it made
  pub record PendsWithSource (old : Parts T X Q C I A R Z D P L) (before : List Entry) (settings : StandingLayers)
      (new : Parts T X Q C I A R Z D P L) : Type 0 where
    pub parts : Parts T X Q C I A R Z D P L
    pub served : Served means old before parts
    pub calls : List OutsideCall
    pub made : Chained means.makes parts.outside calls new.outside
    pub pends : SourcePends means.names means.polls
        parts.given.options parts.given.schemes.items parts.given.endpoint settings
        parts.identities.sources.items new.identities.sources.items calls

  -- so it is of each choice that was answered Pending, where no cell was loading at first but that of an open load
  abbrev pub PendingChoicesAsked : Type 0
  PendingChoicesAsked =
      (old new : Parts T X Q C I A R Z D P L) (before : List Entry) (settings : StandingLayers)
      → LoadsAlone old.identities
      → Served means old (before ++ entry (questions.Choose settings) answers.Pending ∷ []) new
      → PendsWithSource old before settings new

  -- whatever a client answers, it stays so
  abbrev pub LoadsStayAlone : Type 0
  LoadsStayAlone =
      (old new : Parts T X Q C I A R Z D P L) (l : List Entry) → LoadsAlone old.identities → Served means old l new
      → LoadsAlone new.identities

  -- and where outside and quota are exchanged
  abbrev pub ExchangedAlone : Type 0
  ExchangedAlone =
      (old : Parts T X Q C I A R Z D P L) (outside : X) (quota : Q) (new : Parts T X Q C I A R Z D P L)
      (outside_after : X) (quota_after : Q) → LoadsAlone old.identities
      → Exchanges means.makes old outside quota new outside_after quota_after → LoadsAlone new.identities
