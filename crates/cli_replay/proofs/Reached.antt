-- What a replay prints is checked.
use Rattle.std.proofs.Common.{◌≡◌, ℕ, List, [], ◌∷◌, Bool, true, false, ◌&&◌, Option, Some, None, IsUtf8, codes, ap, subst, refl, sym, ◌∙◌}
use Rattle.std.proofs.lemmas.Bool.{and_parts, and_from}
use Rattle.std.specs.List.{list_all}
use Rattle.json_forms.specs.Lines.{are_readable}
use Rattle.orchestrate.specs.Script.{Replies, RepliesBy, Spelled, default_for, left_by, next_of}
use Rattle.orchestrate.specs.declared.script.ScriptAnswer.{ScriptAnswer}
use Rattle.runcheck.proofs.Ended.{ended_reached, unfinished_not}
use Rattle.runcheck.specs.Carried.{IsCarried, answer_tellable, answers_tellable, change_tellable, fault_tellable, hook_answer_tellable, outcome_tellable}
use Rattle.runcheck.specs.Reach.{Reach}
use Rattle.run_grammar.specs.Entry.{kind_of}
use Rattle.run_grammar.specs.declared.answer.Answer.{Answer}
use Rattle.run_grammar.specs.declared.answer.Answer.TheVariants as answers
use Rattle.run_grammar.specs.declared.answer.Entry.{Entry}
use Rattle.run_grammar.specs.declared.kind.Kind.{Kind}
use Rattle.run_grammar.specs.declared.kind.Kind.TheVariants as kinds
use Rattle.json_print.specs.Endings.{Ends}
use Rattle.json_print.specs.Print.{run_data, run_text}
use Rattle.json_print.specs.declared.ending.Ending.{Ending}
use Rattle.json_print.specs.declared.ending.Ending.TheVariants as endings
use Rattle.cli_replay.specs.Script.Replay.{script_spellable}
use Rattle.cli_replay.specs.declared.script.replay.Script.{Script}
use Rattle.cli_shell.specs.Said.{Said, prints, refuses}
use Rattle.cli_shell.specs.declared.status.PrintStatus.{PrintStatus}
use Rattle.cli_shell.specs.declared.status.PrintStatus.TheVariants as outcomes
use Rattle.smithy_context.specs.declared.intercept.Change.{Change}
use Rattle.smithy_context.specs.declared.intercept.Change.TheVariants as changes
use Rattle.smithy_context.specs.declared.intercept.HookAnswer.{HookAnswer}
use Rattle.smithy_types.specs.declared.fault.FaultKind.{FaultKind}
use Rattle.smithy_types.specs.declared.fault.FaultKind.TheVariants as faults
use Rattle.smithy_types.specs.declared.fault.Outcome.{Outcome}
use Rattle.smithy_types.specs.declared.fault.Outcome.TheVariants as standing_outcomes
use Rattle.json_values.specs.Spellable.{answer_spellable, change_spellable, fault_kind_spellable, hook_answer_spellable, layer_spellable, none_or, outcome_spellable, payload_spellable}
use Rattle.runcheck.specs.Check.{check_says, line_of}
use Rattle.cli_replay.specs.Laws.{ReplaysAreChecked, ReplaysAreReached}
use Rattle.cli_replay.specs.Replay.{IsReplay, Replays, replay_says}
use Rattle.json_print.specs.World.Outcome.{came_to}

-- ---- what a script may write can be told

fault_told : (k : FaultKind) → fault_kind_spellable k ≡ true → fault_tellable k ≡ true
unfolding fault_kind_spellable fault_tellable
fault_told (faults.Interceptor hook) h = refl
fault_told (faults.Operation payload) h = h
fault_told (faults.Connector kind) h = refl
fault_told faults.Timeout h = refl
fault_told faults.Response h = refl
fault_told faults.Other h = refl

outcome_told : (o : Outcome) → outcome_spellable o ≡ true → outcome_tellable o ≡ true
unfolding outcome_spellable outcome_tellable
outcome_told (standing_outcomes.Output payload) h = h
outcome_told (standing_outcomes.Failed fault) h = fault_told fault.kind h

change_told : (c : Change) → change_spellable c ≡ true → change_tellable c ≡ true
unfolding change_spellable change_tellable
change_told (changes.Input payload) h = h
change_told (changes.Request request) h = h
change_told (changes.Response response) h = h
change_told (changes.Outcome outcome) h = outcome_told outcome h

none_or_told : (c : Option Change) → none_or change_spellable c ≡ true → none_or change_tellable c ≡ true
none_or_told None h = refl
none_or_told (Some c) h = change_told c h

hook_answer_told : (a : HookAnswer) → hook_answer_spellable a ≡ true → hook_answer_tellable a ≡ true
unfolding hook_answer_spellable hook_answer_tellable
hook_answer_told a h =
    let p = and_parts (none_or change_spellable a.change) (layer_spellable a.settings) h in
    and_from (none_or change_tellable a.change) (layer_spellable a.settings) (none_or_told a.change p.0) p.1

answer_told : (a : Answer) → answer_spellable a ≡ true → answer_tellable a ≡ true
unfolding answer_spellable answer_tellable
answer_told answers.Pending h = h
answer_told answers.Absent h = h
answer_told (answers.Failed text) h = h
answer_told (answers.ConnectorFailed kind text) h = h
answer_told (answers.Layer layer) h = h
answer_told (answers.Hooked answer) h = hook_answer_told answer h
answer_told (answers.Request request) h = h
answer_told (answers.Loaded bytes) h = h
answer_told answers.Go h = h
answer_told answers.No h = h
answer_told (answers.Delay nanos) h = h
answer_told answers.Started h = h
answer_told answers.Ready h = h
answer_told (answers.Chosen chosen) h = h
answer_told (answers.Endpoint endpoint) h = h
answer_told (answers.Response response) h = h
answer_told answers.NotStreaming h = h
answer_told (answers.Outcome outcome) h = outcome_told outcome h
answer_told (answers.Read bytes) h = h
answer_told (answers.Decided choice note) h = h
answer_told answers.Abandoned h = h
answer_told answers.Parked h = h
answer_told answers.NoMemory h = h

-- ---- the answers of a replay

abbrev AllSpellable : List ScriptAnswer → Type 0
AllSpellable xs = list_all (λ (a : ScriptAnswer). answer_spellable a.answer) xs ≡ true

default_told : (k : Kind) → answer_spellable (default_for k) ≡ true
unfolding answer_spellable hook_answer_spellable layer_spellable
default_told (kinds.Hook hook) = refl
default_told (kinds.Wait role) = refl
default_told (kinds.Abandon what) = refl
default_told kinds.Park = refl
default_told _ = refl

next_told : (xs : List ScriptAnswer) (x : ScriptAnswer) → AllSpellable xs → next_of xs ≡ Some x → answer_spellable x.answer ≡ true
next_told [] x h e = absurd (cc)
next_told (y ∷ ys) x h e =
    let same : y ≡ x = cc in
    subst (λ (z : ScriptAnswer). answer_spellable z.answer ≡ true) same (and_parts (answer_spellable y.answer) _ h).0

reply_told : (xs : List ScriptAnswer) (k : Kind) (a : Answer) (taken : Bool) → AllSpellable xs → Replies xs k a taken → answer_tellable a ≡ true
reply_told xs k a true h (x, e, f, same) = subst (λ b. answer_tellable b ≡ true) (sym same) (answer_told x.answer (next_told xs x h e))
reply_told xs k a false h (passed, same) = subst (λ b. answer_tellable b ≡ true) (sym same) (answer_told (default_for k) (default_told k))

left_spellable : (taken : Bool) (xs : List ScriptAnswer) → AllSpellable xs → AllSpellable (left_by taken xs)
left_spellable true [] h = h
left_spellable true (x ∷ xs) h = (and_parts (answer_spellable x.answer) _ h).1
left_spellable false xs h = h

answers_told : (xs : List ScriptAnswer) (l : List Entry) (ys : List ScriptAnswer) → AllSpellable xs → Spelled xs l ys → answers_tellable l ≡ true
answers_told xs [] ys h s = refl
answers_told xs (e ∷ l) ys h (taken, r, s) =
    and_from (answer_tellable e.answer) (answers_tellable l) (reply_told xs (kind_of e) e.answer taken h r) (answers_told (left_by taken xs) l ys (left_spellable taken xs h) s)

-- JSON carries what is printed of a script that JSON spells.
carried : (s : Script) (log : List Entry) (e : Ending) → script_spellable s ≡ true → Replays s log e → are_readable (run_data s.head log e) ≡ true → IsUtf8 (run_text s.head log e) → IsCarried s.head log e
carried s log e p (ends, left_over, spelled) lines characters =
    let parts = and_parts (payload_spellable (s.head).input) _ p in
    record { input = parts.0; answers = answers_told s.answers log left_over parts.1 spelled; lines = lines; characters = characters }

-- ---- what it is

used_up : (e : Ending) → came_to e ≡ outcomes.Unfinished → e ≡ endings.Unfinished
used_up (endings.Output payload) h = absurd (cc)
used_up (endings.Stopped request) h = absurd (cc)
used_up (endings.Error error) h = absurd (cc)
used_up endings.Unfinished h = refl
used_up (endings.WrongType payload) h = absurd (cc)

not_reached : (s : Script) (log : List Entry) (e : Ending) → e ≡ endings.Unfinished → Ends s.head [] log e → IsCarried s.head log e → Reach (run_text s.head log e) → ⊥
not_reached s log e h =
    subst (λ x. Ends s.head [] log x → IsCarried s.head log x → Reach (run_text s.head log x) → ⊥) (sym h) (unfinished_not s.head log)

pub replays_reached : ReplaysAreReached
replays_reached bytes text outcome (s, i, p, (w, (log, e, r, t, o, lines, characters))) =
    let c = carried s log e p r lines characters in (
      λ n. subst Reach (sym t) (ended_reached s.head log e r.0 (λ h. n (o ∙ ap came_to h)) c),
      λ u h. not_reached s log e (used_up e (sym o ∙ u)) r.0 c (subst Reach t h),
    )

-- ---- what is said of it

says_yes : (text : List ℕ) (said : Said) → check_says text said → Reach text → said ≡ prints outcomes.Ok (line_of (codes "yes"))
says_yes text (prints outcomes.Ok t) (r, e) h = ap (λ (x : List ℕ). prints outcomes.Ok x) e
says_yes text (prints outcomes.CheckNo t) (n, e) h = absurd (n h)
says_yes text (prints outcomes.SdkError t) c h = absurd c
says_yes text (prints outcomes.Unfinished t) c h = absurd c
says_yes text (prints outcomes.WrongType t) c h = absurd c
says_yes text (prints outcomes.WaiterFailed t) c h = absurd c
says_yes text (refuses refusal) c h = absurd c

says_no : (text : List ℕ) (said : Said) → check_says text said → (Reach text → ⊥) → said ≡ prints outcomes.CheckNo (line_of (codes "no"))
says_no text (prints outcomes.Ok t) (r, e) n = absurd (n r)
says_no text (prints outcomes.CheckNo t) (m, e) n = ap (λ (x : List ℕ). prints outcomes.CheckNo x) e
says_no text (prints outcomes.SdkError t) c n = absurd c
says_no text (prints outcomes.Unfinished t) c n = absurd c
says_no text (prints outcomes.WrongType t) c n = absurd c
says_no text (prints outcomes.WaiterFailed t) c n = absurd c
says_no text (refuses refusal) c n = absurd c

pub replays_checked : ReplaysAreChecked
replays_checked bytes text outcome said h c =
    let reached = replays_reached bytes text outcome h in
    (λ n. says_yes text said c (reached.0 n), λ u. says_no text said c (reached.1 u))
