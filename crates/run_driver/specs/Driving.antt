-- What driving a run on makes of it.
use Rattle.std.specs.Prelude.{◌≡◌, ◌⊎◌, ℕ, ◌+◌, false, Bool, List, [], ◌∷◌, ◌++◌}
use Rattle.smithy_types.specs.Chain.{Chained}
use Rattle.smithy_types.specs.declared.kinds.StopPoint.{StopPoint}
use Rattle.smithy_types.specs.declared.payload.Payload.{Payload}
use Rattle.run_grammar.specs.declared.answer.Entry.{Entry}
use Rattle.run_grammar.specs.Laws.{IsWhole}
use Rattle.run_grammar.specs.Standing.{State}
use Rattle.orchestrate.specs.declared.invocation.Invocation.{Invocation}
use Rattle.orchestrate.specs.Handing.{HandedOn}
use Rattle.orchestrate.specs.Stands.{Progress, RunLost, Stands}

-- a run that made some calls has made so many more, by which the log grew
abbrev pub Advances : Invocation → Invocation → List Entry → List Entry → ℕ → Type 0
Advances old new log more calls =
    (p : Payload) (stop : StopPoint) (before : List Entry) (n : ℕ) → Progress p stop old before log n →
    Progress p stop new before more (n + calls)

-- the run is whole
abbrev pub IsDone : Invocation → Type 0
IsDone v = (s : State) (l : List Entry) → Stands s l v → IsWhole v.stop s l

-- want of memory: a run that made some calls has made so many more at most, and what it made begins
-- a run, or ends with the question that had no memory
abbrev pub IsInterrupted : Invocation → List Entry → List Entry → ℕ → Type 0
IsInterrupted old log more fuel =
    (p : Payload) (stop : StopPoint) (before : List Entry) (n : ℕ) → Progress p stop old before log n →
    RunLost p stop (n + fuel) before more

module _ {W : Type 0} (calls : W → List Entry) (relates : W → List Entry → W → Type 0) where
  -- the world answered one question, by this entry
  pub record MakesOne (old : W) (one : Entry) (new : W) : Type 0 where
    pub grows : calls new ≡ calls old ++ one ∷ []
    pub related : HandedOn relates old new (calls old) (calls new)

  -- nothing was asked
  pub record MakesNone (old new : W) : Type 0 where
    pub stays : calls new ≡ calls old
    pub related : HandedOn relates old new (calls old) (calls new)

  -- it answered one, and behind it the run needn't wait
  abbrev pub GoesPast : (W → Bool) → W → Entry → W → Type 0
  GoesPast parks old one new = MakesOne old one new × (parks new ≡ false)

  -- One question was asked behind another. The run had to wait behind none of them but the last, if behind that.
  pub record Stretches (parks : W → Bool) (old new : W) : Type 0 where
    pub entries : List Entry
    pub last : W
    pub goes_past : Chained (GoesPast parks) old entries last
    pub ends : MakesNone last new ⊎ ((one : Entry) × MakesOne last one new)

  -- One question was asked behind another, and the run had to wait behind none of them.
  pub record RunsThrough (parks : W → Bool) (old new : W) : Type 0 where
    pub entries : List Entry
    pub last : W
    pub goes_past : Chained (GoesPast parks) old entries last
    pub ends : MakesNone last new
