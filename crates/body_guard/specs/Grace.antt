-- How long a stream may be too slow, and which calls of the timers a look makes.
use Rattle.std.specs.Prelude.{◌≡◌, ℕ, Bool, true, false, IsTrue, IsSome, ◌↔◌, IfOk, List, [], ◌∷◌, ◌++◌, Option, None}
use Rattle.std.specs.Prelude.{Some, Result, Ok, Err}
use Rattle.smithy_types.specs.declared.memory.OutOfMemory.{OutOfMemory}
use Rattle.smithy_types.specs.declared.timers.TimersCall.{TimersCall}
use Rattle.smithy_types.specs.declared.timers.TimersCall.TheVariants.{Start, Ready, GiveUp}
use Rattle.stream_guard.specs.declared.throughput.Throughput.{Throughput}
use Rattle.body_guard.specs.Texts.{below_text}
use Rattle.body_guard.specs.declared.grace.Grace.{Grace}
use Rattle.body_guard.specs.declared.grace.GraceAnswer.{GraceAnswer}
use Rattle.body_guard.specs.declared.grace.GraceAnswer.TheVariants.{InTime, NoSleep, Over}

-- an open sleep is given up
abbrev pub give_up_calls : Option ℕ → List TimersCall
give_up_calls None = []
give_up_calls (Some sleep) = GiveUp sleep ∷ []

-- the sleep of a violation: the open one, or else one that is started, where there are sleeps
abbrev pub Opens : Bool → Option ℕ → Result (Option ℕ) OutOfMemory → Type 0
Opens sleeps (Some open_sleep) found = found ≡ Ok (Some open_sleep)
Opens sleeps None found = IfOk found (λ sleep. IsSome sleep ↔ IsTrue sleeps)

-- it is started where none is open
abbrev pub opening : ℕ → Option ℕ → Result (Option ℕ) OutOfMemory → List TimersCall
opening grace_period (Some open_sleep) found = []
opening grace_period None found = Start grace_period found ∷ []

-- the sleep is asked. While it runs the stream is in time; where it is over, it is given up, and the stream is
-- too slow. Without memory for the text the sleep stays open
abbrev pub AsksSleep : Result (Option ℕ) OutOfMemory → Throughput → Grace → Result GraceAnswer OutOfMemory → Grace →
    List TimersCall → Type 0
AsksSleep (Err e) actual old answer new calls = (answer ≡ Err e) × (new ≡ old) × (calls ≡ [])
AsksSleep (Ok None) actual old answer new calls = (answer ≡ Ok NoSleep) × (new ≡ old) × (calls ≡ [])
AsksSleep (Ok (Some sleep)) actual old (Ok InTime) new calls =
    (new ≡ record old { sleep = Some sleep }) × (calls ≡ Ready sleep false ∷ [])
AsksSleep (Ok (Some sleep)) actual old (Ok NoSleep) new calls = ⊥
AsksSleep (Ok (Some sleep)) actual old (Ok (Over text)) new calls =
    (text ≡ below_text old.options.minimum_throughput actual) × (new ≡ record old { sleep = None })
    × (calls ≡ Ready sleep true ∷ GiveUp sleep ∷ [])
AsksSleep (Ok (Some sleep)) actual old (Err e) new calls =
    (new ≡ record old { sleep = Some sleep }) × (calls ≡ Ready sleep true ∷ [])

-- a look that saw a stream at this rate, which is too slow
pub record Violates (sleeps : Bool) (actual : Throughput) (old : Grace) (answer : Result GraceAnswer OutOfMemory)
    (new : Grace) (calls : List TimersCall) : Type 0 where
  pub found : Result (Option ℕ) OutOfMemory
  pub opens : Opens sleeps old.sleep found
  pub asking : List TimersCall
  pub asks : AsksSleep found actual old answer new asking
  pub calls_are : calls ≡ opening old.options.grace_period old.sleep found ++ asking

-- a look, which saw a violation or none
abbrev pub Grants : Bool → Option Throughput → Grace → Result GraceAnswer OutOfMemory → Grace → List TimersCall → Type 0
Grants sleeps None old answer new calls =
    (answer ≡ Ok InTime) × (new ≡ record old { sleep = None }) × (calls ≡ give_up_calls old.sleep)
Grants sleeps (Some actual) old answer new calls = Violates sleeps actual old answer new calls
