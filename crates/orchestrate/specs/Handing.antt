-- How the relation of a world is handed on over the entries that its log grew by.
use Rattle.std.specs.Prelude.{List, ◌++◌, Result, Ok, Err, ◌≡◌}
use Rattle.run_grammar.specs.declared.answer.Entry.{Entry}
use Rattle.orchestrate.specs.declared.execution.InvokeError.{InvokeError}
use Rattle.orchestrate.specs.declared.execution.InvokeError.TheVariants.{Sdk, Unfinished, WrongType, OutOfMemory}

-- whatever world was related to the one before, it is related by the new entries too to the one after
abbrev pub HandedOn : {W : Type 0} → (W → List Entry → W → Type 0) → W → W → List Entry → List Entry → Type 0
HandedOn {W} relates old new before log =
    (m : List Entry) × (log ≡ before ++ m) × ((w : W) (l : List Entry) → relates w l old → relates w (l ++ m) new)

-- the answer isn't want of memory
abbrev pub HadMemory : {X E : Type 0} → Result X (InvokeError E) → Type 0
HadMemory (Ok x) = Unit {0}
HadMemory (Err (Sdk e)) = Unit {0}
HadMemory (Err Unfinished) = Unit {0}
HadMemory (Err (WrongType p)) = Unit {0}
HadMemory (Err OutOfMemory) = ⊥
