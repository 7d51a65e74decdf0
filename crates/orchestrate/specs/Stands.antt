-- What an invocation stands for.
use Rattle.std.specs.Prelude.{ℕ, length, ◌≤◌, true, false, if◌then◌else◌, Option, None, Some, option_map, List, [], ◌∷◌}
use Rattle.std.specs.Prelude.{◌++◌, ◌≡◌, ◌⊎◌}
use Rattle.smithy_types.specs.declared.kinds.StopPoint.{StopPoint}
use Rattle.smithy_types.specs.declared.payload.Payload.{Payload}
use Rattle.run_grammar.specs.declared.kind.Kind.{Kind}
use Rattle.run_grammar.specs.declared.question.Question.{Question}
use Rattle.run_grammar.specs.declared.answer.Answer.{Answer}
use Rattle.run_grammar.specs.declared.answer.Answer.TheVariants.{NoMemory}
use Rattle.run_grammar.specs.declared.answer.Entry.{Entry}
use Rattle.run_grammar.specs.declared.standing.Standing.{Standing}
use Rattle.run_grammar.specs.Question.{kind_of_question, nanos_of}
use Rattle.run_grammar.specs.Entry.{entry, kind_of}
use Rattle.run_grammar.specs.Fits.{fits}
use Rattle.run_grammar.specs.Change.{changed}
use Rattle.run_grammar.specs.Standing.{State, standing, start, WellHanded, asks}
use Rattle.run_grammar.specs.Grammar.{run}
use Rattle.run_grammar.specs.Machine.{begin, after, Path}
use Rattle.run_grammar.specs.Laws.{EachFits, IsWhole, Begins}
use Rattle.orchestrate.specs.declared.point.Point.{Point}
use Rattle.orchestrate.specs.declared.invocation.Invocation.{Invocation}
use Rattle.orchestrate.specs.declared.invocation.Step.{Step}
use Rattle.orchestrate.specs.declared.invocation.Step.TheVariants.{Asked, Ended}
use Rattle.orchestrate.specs.Driving.{asks_at, moved_at, stage_position}

-- the invocation stands at this list, from what stood at the start
pub record Stands (s : State) (l : List Entry) (v : Invocation) : Type 0 where
  pub path : Path (begin (run v.stop) s) s l
  pub handed : WellHanded s l
  pub fitting : EachFits l
  pub at : stage_position v.stop v.stage ≡ after (begin (run v.stop) s) s l
  pub context : v.standing ≡ (standing s l).context

-- the kind of the question that is next: none where the run is whole, or where memory ran out in it
abbrev pub next_kind : Invocation → Option Kind
next_kind v = if v.lost then None else option_map (λ p. asks_at p v.stage.waiting) v.stage.place.point

-- the entry that the invocation makes at the point with this answer, and the invocation after it
abbrev pub made : Invocation → Point → Answer → Entry
made v p a = entry (asks (asks_at p v.stage.waiting) v.standing) a

-- what stands in the invocation after the entry
abbrev pub stood : Invocation → Entry → Standing
stood v e = changed (kind_of e) (nanos_of e.question) e.answer v.standing

-- the invocation after an answer to the question of its point
abbrev pub driven : Invocation → Point → Answer → Invocation
driven v p a =
    let e = made v p a in
    let c = stood v e in
    record {
      stop = v.stop;
      standing = c;
      stage = moved_at v.stop v.stage.place.armed p v.stage.waiting (record { context = c; last = Some e }) e;
      lost = false;
    }

-- what drive did: the run was whole, and nothing changed; or it made one entry, and stands at the list with it
abbrev pub Drove : Step → Invocation → Invocation → List Entry → List Entry → Type 0
Drove Ended v w before log =
    (w ≡ v) × (log ≡ before) × ((s : State) (l : List Entry) → Stands s l v → IsWhole v.stop s l)
Drove Asked v w before log =
    (e : Entry) × (log ≡ before ++ e ∷ []) × (w.stop ≡ v.stop)
    × ((s : State) (l : List Entry) → Stands s l v → (IsWhole v.stop s l → ⊥) × Stands s (l ++ e ∷ []) w)

-- the question continues the list: each fitting answer to it gives a list that begins a run
abbrev pub Continues : StopPoint → State → List Entry → Question → Type 0
Continues stop s l q = (a : Answer) → fits (kind_of_question q) a ≡ true → Begins stop s (l ++ entry q a ∷ [])

-- want of memory: the log is as it was, or grew by one question with NoMemory which continues the list,
-- or by one entry with which the list begins a run
abbrev pub LostAt : StopPoint → State → List Entry → List Entry → List Entry → Type 0
LostAt stop s l before log =
    (log ≡ before)
    ⊎ ((q : Question) × (log ≡ before ++ entry q NoMemory ∷ []) × Continues stop s l q)
    ⊎ ((e : Entry) × (log ≡ before ++ e ∷ []) × Begins stop s (l ++ e ∷ []))

-- what asking the question of a point left: one entry with a fitting answer, and the invocation after it
abbrev pub AskedOnce : Invocation → Invocation → Point → List Entry → List Entry → Type 0
AskedOnce v w p before log =
    (a : Answer) × (log ≡ before ++ made v p a ∷ []) × (fits (asks_at p v.stage.waiting) a ≡ true)
    × (w ≡ record (driven v p a) { lost = v.lost })

-- and where there was no memory: nothing, the question with NoMemory, or that entry
abbrev pub AskedInVain : Invocation → Invocation → Point → List Entry → List Entry → Type 0
AskedInVain v w p before log =
    (w.lost ≡ v.lost)
    × ((log ≡ before)
    ⊎ (log ≡ before ++ entry (asks (asks_at p v.stage.waiting) v.standing) NoMemory ∷ [])
    ⊎ ((a : Answer) × (log ≡ before ++ made v p a ∷ []) × (fits (asks_at p v.stage.waiting) a ≡ true)))

-- want of memory: the invocation asks nothing more
abbrev pub Lost : Invocation → Invocation → List Entry → List Entry → Type 0
Lost v w before log = (w.lost ≡ true) × ((s : State) (l : List Entry) → Stands s l v → LostAt v.stop s l before log)

-- what running did: the log grew by one whole run, and what stands at its end is handed back;
-- or by fuel calls that begin a run and are no whole one
abbrev pub Ran : Payload → StopPoint → ℕ → Option Standing → List Entry → List Entry → Type 0
Ran p stop fuel (Some c) before log =
    (l : List Entry) × (log ≡ before ++ l) × (length l ≤ fuel) × IsWhole stop (start p) l
    × (c ≡ (standing (start p) l).context)
Ran p stop fuel None before log =
    (l : List Entry) × (log ≡ before ++ l) × (length l ≡ fuel) × Begins stop (start p) l
    × (IsWhole stop (start p) l → ⊥)

-- a list that begins a run, or such a list and one question with NoMemory that continues it
abbrev pub Interrupted : StopPoint → State → List Entry → Type 0
Interrupted stop s l =
    Begins stop s l
    ⊎ ((m : List Entry) × (q : Question) × (l ≡ m ++ entry q NoMemory ∷ []) × Begins stop s m × Continues stop s m q)

-- memory ran out in a run: the log grew by at most fuel entries, as a run that was interrupted
abbrev pub RunLost : Payload → StopPoint → ℕ → List Entry → List Entry → Type 0
RunLost p stop fuel before log =
    (l : List Entry) × (log ≡ before ++ l) × (length l ≤ fuel) × Interrupted stop (start p) l

-- after n calls the invocation stands at the list that the log grew by
pub record Progress (p : Payload) (stop : StopPoint) (v : Invocation) (before log : List Entry) (n : ℕ) : Type 0 where
  pub list : List Entry
  pub grown : log ≡ before ++ list
  pub counted : length list ≡ n
  pub stands : Stands (start p) list v
  pub same : v.stop ≡ stop
