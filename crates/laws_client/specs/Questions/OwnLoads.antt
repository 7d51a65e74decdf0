-- The load that a choice goes on with is of the scheme that it picks, and what it gives is stored in
-- that scheme's cell.
use Rattle.std.specs.Prelude.{◌≡◌, ℕ, ◌<◌, false, List, [], ◌∷◌, ◌++◌, map, Option, None, Some}
use Rattle.client_auth.specs.Choosing.{Picks, endpoint_before}
use Rattle.client_auth.specs.declared.choose.Picked.{Picked}
use Rattle.client_auth.specs.declared.choose.Picked.TheVariants.{Scheme}
use Rattle.client_auth.specs.declared.identities.CachedIdentities.{CachedIdentities}
use Rattle.client_auth.specs.declared.sources.RegisteredSource.{RegisteredSource}
use Rattle.client_components.specs.Meaning.{ClientMeaning}
use Rattle.client_components.specs.Serving.{Served}
use Rattle.client_components.specs.declared.parts.Parts.{Parts}
use Rattle.identity_cell.specs.LazyCache.{cell_at}
use Rattle.identity_cell.specs.declared.cell.CellState.TheVariants.{Full}
use Rattle.identity_cell.specs.declared.identity_load.IdentityLoad.{IdentityLoad}
use Rattle.run_grammar.specs.Entry.{entry, is_pending}
use Rattle.run_grammar.specs.Laws.{Begins}
use Rattle.run_grammar.specs.Standing.{start}
use Rattle.run_grammar.specs.declared.answer.Answer.{Answer}
use Rattle.run_grammar.specs.declared.answer.Answer.TheVariants as answers
use Rattle.run_grammar.specs.declared.answer.Chosen.{Chosen}
use Rattle.run_grammar.specs.declared.answer.Entry.{Entry}
use Rattle.run_grammar.specs.declared.question.Question.TheVariants as questions
use Rattle.smithy_context.specs.StandingLayers.{StandingLayers}
use Rattle.smithy_types.specs.declared.kinds.StopPoint.{StopPoint}
use Rattle.smithy_types.specs.declared.notes.ChooseNote.TheVariants.{Load}
use Rattle.smithy_types.specs.declared.payload.Payload.{Payload}

-- the load that is open
abbrev pub current_of : Option CachedIdentities → Option IdentityLoad
current_of None = None
current_of (Some cached) = cached.current

-- the chosen scheme's cell has the chosen identity, where the cache keeps any cell at all
pub record IsStored (chosen : Chosen) (cached : Option CachedIdentities) : Type 0 where
  pub after : CachedIdentities
  pub keeps : cached ≡ Some after
  pub ticket : ℕ
  pub expiry : ℕ
  pub stored : 0 < after.cache.terms.max_partitions
      → (cell_at after.cache chosen.scheme).state ≡ Full ticket chosen.identity expiry

-- of an answer: a choice whose identity was loaded has stored it
abbrev pub Stores : Answer → Option CachedIdentities → Type 0
Stores (answers.Chosen chosen) cached = chosen.note ≡ Some Load → IsStored chosen cached
Stores _ cached = Unit {0}

module _ {T X Q C I A R Z D P L : Type 0} (means : ClientMeaning T X Q C I A R Z D P L) where
  -- what a choice picks of a client's options, by these settings
  abbrev pub PicksFrom : Parts T X Q C I A R Z D P L → StandingLayers → Picked → Type 0
  PicksFrom parts settings picked =
      Picks (map means.names parts.given.schemes.items)
      (map (λ (s : RegisteredSource R). s.id) parts.identities.sources.items) parts.given.options
      (endpoint_before parts.given.endpoint settings) settings picked

  -- a load that is open before the choice is of the scheme that is picked;
  -- behind it one is open only where it is pending
  pub record GoesOnWithOwn (old : Parts T X Q C I A R Z D P L) (before : List Entry) (settings : StandingLayers)
      (a : Answer) (new : Parts T X Q C I A R Z D P L) : Type 0 where
    pub parts : Parts T X Q C I A R Z D P L
    pub served : Served means old before parts
    pub own : (load : IdentityLoad) (picked : Picked) → current_of parts.identities.cached ≡ Some load
        → PicksFrom parts settings picked → picked ≡ Scheme load.id
    pub ended : is_pending a ≡ false → current_of new.identities.cached ≡ None
    pub stored : Stores a new.identities.cached

  -- so it is of each choice of a list that begins a run, where the client's parts answered the list
  abbrev pub ChoicesGoOnWithOwn : Type 0
  ChoicesGoOnWithOwn =
      (stop : StopPoint) (p : Payload) (old new : Parts T X Q C I A R Z D P L) (before : List Entry)
      (settings : StandingLayers) (a : Answer)
      → Begins stop (start p) (before ++ entry (questions.Choose settings) a ∷ [])
      → Served means old (before ++ entry (questions.Choose settings) a ∷ []) new
      → GoesOnWithOwn old before settings a new
