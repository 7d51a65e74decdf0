-- Choose, with a lazy cache of identities.
use Rattle.std.specs.Prelude.{◌≡◌, ◌⊎◌, ℕ, Bool, true, false, is_some, IsSome, IsTrue, ◌↔◌, List, [], ◌∷◌, ◌++◌, map}
use Rattle.std.specs.Prelude.{position, Option, None, Some, Ok, unwrap_or, codes}
use Rattle.std.specs.Fmt.{decimal}
use Rattle.auth_endpoint.specs.Choice.{is_id}
use Rattle.identity_cell.specs.LazyCache.{Cache, AnswersLook, cell_at, done_at, dropped_at, expiry_by, failed_at}
use Rattle.identity_cell.specs.LazyCache.{looked_at, put, timeout_by}
use Rattle.identity_cell.specs.declared.identity_load.IdentityLoad.{IdentityLoad}
use Rattle.identity_cell.specs.declared.looked.Looked.TheVariants as looked
use Rattle.outside.specs.Calls.{OutsideCall, OfTimers, Word}
use Rattle.outside.specs.Clock.{clock_calls}
use Rattle.outside.specs.declared.answers.IdentityPoll.{IdentityPoll}
use Rattle.outside.specs.declared.answers.IdentityPoll.TheVariants as polled
use Rattle.run_grammar.specs.declared.answer.Answer.{Answer}
use Rattle.run_grammar.specs.declared.answer.Answer.TheVariants as answers
use Rattle.smithy_context.specs.StandingLayers.{StandingLayers}
use Rattle.smithy_types.specs.declared.identity.Endpoint.{Endpoint}
use Rattle.smithy_types.specs.declared.identity.Identity.{Identity}
use Rattle.smithy_types.specs.declared.notes.ChooseNote.{ChooseNote}
use Rattle.smithy_types.specs.declared.notes.ChooseNote.TheVariants.{Hit, Load}
use Rattle.smithy_types.specs.declared.timers.TimersCall.TheVariants.{Start, Ready, GiveUp}
use Rattle.client_auth.specs.Choosing.{Asks, Picks, ending_load, endpoint_before, no_load}
use Rattle.client_auth.specs.declared.cached.Opened.{Opened}
use Rattle.client_auth.specs.declared.cached.Opened.TheVariants as opened
use Rattle.client_auth.specs.declared.choose.OpenLoad.{OpenLoad}
use Rattle.client_auth.specs.declared.choose.Picked.{Picked}
use Rattle.client_auth.specs.declared.choose.Picked.TheVariants.{Scheme, Refused}
use Rattle.client_auth.specs.declared.sources.RegisteredSource.{RegisteredSource}

-- ---- a load's sleep

-- the load's sleep is asked whether it is over, where there is one
abbrev pub asking_sleep : Option ℕ → Bool → List OutsideCall
asking_sleep None over = []
asking_sleep (Some sleep) over = OfTimers (Ready sleep over) ∷ []

-- the load's sleep is given up, where there is one
abbrev pub giving_up : Option ℕ → List OutsideCall
giving_up None = []
giving_up (Some sleep) = OfTimers (GiveUp sleep) ∷ []

-- ---- an open load, where there is one

-- the sleep of an open load is asked, and isn't over
abbrev pub asking_open : Option IdentityLoad → List OutsideCall
asking_open None = []
asking_open (Some load) = asking_sleep load.sleep false

-- the sleep of an open load is given up
abbrev pub giving_up_open : Option IdentityLoad → List OutsideCall
giving_up_open None = []
giving_up_open (Some load) = giving_up load.sleep

-- the open load has failed in its cell
abbrev pub failed_open : Cache → Option IdentityLoad → Cache
failed_open cache None = cache
failed_open cache (Some load) = failed_at cache load.id load.ticket

-- the open load is given up in its cell
abbrev pub dropped_open : Cache → Option IdentityLoad → Cache
dropped_open cache None = cache
dropped_open cache (Some load) = dropped_at cache load.id load.ticket

-- the identity that was loaded stands in its cell, until it expires
abbrev pub kept_open : Cache → Option IdentityLoad → Identity → ℕ → Cache
kept_open cache None identity word = cache
kept_open cache (Some load) identity word =
    done_at cache load.id load.ticket identity (expiry_by cache.terms identity load.asked_at word)

-- ---- the look

-- what a look at this moment answers, and what it leaves: a value that hasn't expired, another load that is open, or a
-- load that is begun, with its sleep
abbrev pub LooksAt : StandingLayers → List ℕ → Cache → ℕ → Opened → Cache → Option IdentityLoad → List OutsideCall
    → Type 0
LooksAt settings id old now (opened.Hit identity) new open_load calls =
    AnswersLook (cell_at old id) now (looked.Hit identity) × (new ≡ put old id (looked_at (cell_at old id) now))
    × (open_load ≡ None) × (calls ≡ [])
LooksAt settings id old now opened.NotYet new open_load calls =
    AnswersLook (cell_at old id) now looked.NotYet × (new ≡ put old id (looked_at (cell_at old id) now))
    × (open_load ≡ None) × (calls ≡ [])
LooksAt settings id old now opened.Load new open_load calls =
    (ticket : ℕ) × (sleep : Option ℕ) × AnswersLook (cell_at old id) now (looked.Load ticket)
    × (new ≡ put old id (looked_at (cell_at old id) now))
    × (open_load ≡ Some (record {
      id = id;
      ticket = ticket;
      asked_at = now;
      timeout = timeout_by new.terms settings;
      sleep = sleep;
    }))
    × (calls ≡ OfTimers (Start (timeout_by new.terms settings) (Ok sleep)) ∷ [])

-- the clock is asked, and then the cell
pub record LooksUp (time_source : Bool) (settings : StandingLayers) (id : List ℕ) (old : Cache) (found : Opened)
    (new : Cache) (open_load : Option IdentityLoad) (calls : List OutsideCall) : Type 0 where
  pub moment : Option ℕ
  pub known : IsSome moment ↔ IsTrue time_source
  pub sleeping : List OutsideCall
  pub looks : LooksAt settings id old (unwrap_or moment 0) found new open_load sleeping
  pub calls_are : calls ≡ clock_calls moment ++ sleeping

-- a load that is open already is gone on with, and nothing is looked up
abbrev pub OpensLoad : Bool → StandingLayers → List ℕ → Cache → Option IdentityLoad → Opened → Cache
    → Option IdentityLoad → List OutsideCall → Type 0
OpensLoad time_source settings id old (Some load) found new open_load calls =
    (found ≡ opened.Load) × (new ≡ old) × (open_load ≡ Some load) × (calls ≡ [])
OpensLoad time_source settings id old None found new open_load calls =
    LooksUp time_source settings id old found new open_load calls

-- ---- the load

-- the scheme of this id with this identity, and where the identity came from
abbrev pub chosen_so : List ℕ → Identity → Option Endpoint → ChooseNote → Answer
chosen_so id identity endpoint note =
    answers.Chosen (record { scheme = id; identity = identity; endpoint = endpoint; settings = []; note = Some note })

-- why a load failed that took longer than it may
abbrev pub timed_out : ℕ → List ℕ
timed_out timeout = codes "identity resolver timed out after " ++ decimal timeout ++ codes " ns"

-- the resolver is pending, and so the load's sleep is asked:
-- where it is there and over, the load has failed and is given up
pub record TimesOut (cache : Cache) (open_load : Option IdentityLoad) (load : OpenLoad) (a : Answer) (new : Cache)
    (open_after : Option IdentityLoad) (load_after : OpenLoad) (calls : List OutsideCall) : Type 0 where
  pub waiting : IdentityLoad
  pub is_open : open_load ≡ Some waiting
  pub has_sleep : is_some waiting.sleep ≡ true
  pub answer_is : a ≡ answers.Failed (timed_out waiting.timeout)
  pub cell : new ≡ failed_at cache waiting.id waiting.ticket
  pub none_open : open_after ≡ None
  pub dropped : load_after ≡ no_load
  pub calls_are : calls ≡ asking_sleep waiting.sleep true ++ (giving_up waiting.sleep ++ ending_load load)

-- the load goes on: its time isn't over, and nothing changes
abbrev pub StaysPending : Cache → Option IdentityLoad → OpenLoad → Answer → Cache → Option IdentityLoad → OpenLoad
    → List OutsideCall → Type 0
StaysPending cache open_load load a new open_after load_after calls =
    (a ≡ answers.Pending) × (new ≡ cache) × (open_after ≡ open_load) × (load_after ≡ load)
    × (calls ≡ asking_open open_load)

-- what a source's answer makes of an open load: it is kept by a random word, it has failed, or it is waited for
abbrev pub Continues : List ℕ → Option Endpoint → Option IdentityPoll → Cache → Option IdentityLoad → OpenLoad → Answer
    → Cache → Option IdentityLoad → OpenLoad → List OutsideCall → Type 0
Continues id endpoint None cache open_load load a new open_after load_after calls =
    (a ≡ answers.Absent) × (new ≡ cache) × (open_after ≡ open_load) × (load_after ≡ load) × (calls ≡ [])
Continues id endpoint (Some polled.Pending) cache open_load load a new open_after load_after calls =
    StaysPending cache open_load load a new open_after load_after calls
    ⊎ TimesOut cache open_load load a new open_after load_after calls
Continues id endpoint (Some (polled.Failed text)) cache open_load load a new open_after load_after calls =
    (a ≡ answers.Failed text) × (new ≡ failed_open cache open_load) × (open_after ≡ None) × (load_after ≡ load)
    × (calls ≡ giving_up_open open_load)
Continues id endpoint (Some (polled.Ready identity)) cache open_load load a new open_after load_after calls =
    (word : ℕ) × (a ≡ chosen_so id identity endpoint Load) × (new ≡ kept_open cache open_load identity word)
    × (open_after ≡ None) × (load_after ≡ load)
    × (calls ≡ Word word ∷ giving_up_open open_load)

module _ {R : Type 0} (polls : R → IdentityPoll → R → Type 0) where
  -- the source is asked first
  pub record GoesOnLoading (id : List ℕ) (endpoint : Option Endpoint) (old : List (RegisteredSource R)) (cache : Cache)
      (open_load : Option IdentityLoad) (load : OpenLoad) (a : Answer)
      (new : List (RegisteredSource R)) (cache_after : Cache) (open_after : Option IdentityLoad) (load_after : OpenLoad)
      (calls : List OutsideCall) : Type 0 where
    pub answer : Option IdentityPoll
    pub load_asked : OpenLoad
    pub asking : List OutsideCall
    pub asks : Asks polls id (position (λ s. is_id id s.id) old) old load answer new load_asked asking
    pub going_on : List OutsideCall
    pub continues : Continues id endpoint answer cache open_load load_asked a cache_after open_after load_after going_on
    pub calls_are : calls ≡ asking ++ going_on

  -- a value that was found is the answer; else the load goes on, where it is this choice's
  abbrev pub Answered : List ℕ → Option Endpoint → Opened → List (RegisteredSource R) → Cache → Option IdentityLoad
      → OpenLoad → Answer → List (RegisteredSource R) → Cache → Option IdentityLoad → OpenLoad → List OutsideCall
      → Type 0
  Answered id endpoint (opened.Hit identity) old cache open_load load a new cache_after open_after load_after calls =
      (a ≡ chosen_so id identity endpoint Hit) × (new ≡ old) × (cache_after ≡ cache) × (open_after ≡ open_load)
      × (load_after ≡ load) × (calls ≡ [])
  Answered id endpoint opened.NotYet old cache open_load load a new cache_after open_after load_after calls =
      (a ≡ answers.Pending) × (new ≡ old) × (cache_after ≡ cache) × (open_after ≡ open_load) × (load_after ≡ load)
      × (calls ≡ [])
  Answered id endpoint opened.Load old cache open_load load a new cache_after open_after load_after calls =
      GoesOnLoading id endpoint old cache open_load load a new cache_after open_after load_after calls

  -- the cache is looked up: an identity there is the answer, and else one is waited for or loaded
  pub record ResolvesCached (time_source : Bool) (settings : StandingLayers) (id : List ℕ) (endpoint : Option Endpoint)
      (old : List (RegisteredSource R)) (cache : Cache) (open_load : Option IdentityLoad) (load : OpenLoad) (a : Answer)
      (new : List (RegisteredSource R)) (cache_after : Cache) (open_after : Option IdentityLoad) (load_after : OpenLoad)
      (calls : List OutsideCall) : Type 0 where
    pub found : Opened
    pub cache_looked : Cache
    pub open_looked : Option IdentityLoad
    pub looking : List OutsideCall
    pub opens : OpensLoad time_source settings id cache open_load found cache_looked open_looked looking
    pub answering : List OutsideCall
    pub answered : Answered id endpoint found old cache_looked open_looked load a new cache_after
        open_after load_after answering
    pub calls_are : calls ≡ looking ++ answering

  -- what follows what was picked: an identity by the cache, or a refusal that asks nothing
  abbrev pub GoesOnCached : Bool → StandingLayers → Option Endpoint → Picked → List (RegisteredSource R) → Cache
      → Option IdentityLoad → OpenLoad → Answer → List (RegisteredSource R) → Cache → Option IdentityLoad → OpenLoad
      → List OutsideCall → Type 0
  GoesOnCached time_source settings endpoint (Scheme id) old cache open_load load a new cache_after open_after
      load_after calls =
      ResolvesCached time_source settings id endpoint old cache open_load load a new cache_after
      open_after load_after calls
  GoesOnCached time_source settings endpoint (Refused text) old cache open_load load a new cache_after open_after
      load_after calls =
      (a ≡ answers.Failed text) × (new ≡ old) × (cache_after ≡ cache) × (open_after ≡ open_load) × (load_after ≡ load)
      × (calls ≡ [])

  -- a scheme is picked, and its identity comes from the cache or by a load into it
  pub record ChoosesCached {A : Type 0} (names : A → List ℕ) (options : List (List ℕ)) (schemes : List A)
      (endpoint : Endpoint) (time_source : Bool) (settings : StandingLayers)
      (old : List (RegisteredSource R)) (cache : Cache) (open_load : Option IdentityLoad) (load : OpenLoad) (a : Answer)
      (new : List (RegisteredSource R)) (cache_after : Cache) (open_after : Option IdentityLoad) (load_after : OpenLoad)
      (calls : List OutsideCall) : Type 0 where
    pub picked : Picked
    pub picks : Picks (map names schemes) (map (λ (s : RegisteredSource R). s.id) old) options
        (endpoint_before endpoint settings) settings picked
    pub goes_on : GoesOnCached time_source settings (endpoint_before endpoint settings) picked old cache open_load load
        a new cache_after open_after load_after calls
