-- The log of a script's run, and the answers that it took.
use Rattle.std.proofs.Common.{ℕ, List, [], ◌++◌, length, Result, Ok, Err, ◌≡◌, refl, sym, ap, ◌∙◌, subst}
use Rattle.std.specs.Prelude.{IfOk, OnOk}
use Rattle.smithy_types.specs.declared.memory.OutOfMemory.{OutOfMemory}
use Rattle.run_grammar.specs.declared.answer.Entry.{Entry}
use Rattle.orchestrate.specs.Handing.{HandedOn}
use Rattle.json_print.specs.declared.ending.Ending.{Ending}
use Rattle.cli_replay.specs.ReplayValue.{ReplayValue}
use Rattle.cli_replay.specs.Taking.{Takes}

-- what a list of entries makes of the world of a replay
abbrev pub Related : ReplayValue → List Entry → ReplayValue → Type 0
Related w l v = Takes w.answers (length w.log) w.until l v.answers (length v.log) v.until

-- from an empty log on, the log took of the answers that were there
taken_whole : (v w : ReplayValue) (before log : List Entry) → HandedOn Related v w before log → before ≡ [] → v.log ≡ [] → v.until ≡ 0 → Takes v.answers 0 0 log w.answers (length w.log) w.until
taken_whole v w before log (m, e, f) h i j =
    subst (λ (u : ℕ). Takes v.answers 0 u log w.answers (length w.log) w.until) j
    (subst (λ (b : List Entry). Takes v.answers (length b) v.until log w.answers (length w.log) w.until) i
    (subst (λ (l : List Entry). Related v l w) (sym (e ∙ ap (λ (b : List Entry). b ++ m) h)) (f v [] (refl, refl, refl))))

pub taken_if_ended : (x : Result Ending OutOfMemory) (v w : ReplayValue) → OnOk x (HandedOn Related v w v.log w.log) →
    IfOk x (λ e. v.log ≡ [] → v.until ≡ 0 → Takes v.answers 0 0 w.log w.answers (length w.log) w.until)
taken_if_ended (Ok e) v w h = λ n z. taken_whole v w v.log w.log h n n z
taken_if_ended (Err o) v w h = tt
