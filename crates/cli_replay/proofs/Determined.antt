-- A replay is determined by its bytes.
use Rattle.std.proofs.Common.{true, ℕ, List, [], ◌≡◌, ◌≤◌, false, length, refl, sym, ap, ◌∙◌, subst, inl, inr, arith}
use Rattle.run_grammar.specs.declared.answer.Entry.{Entry}
use Rattle.run_grammar.specs.Standing.{start}
use Rattle.orchestrate.proofs.SpelledLaw.{one_spelled_run}
use Rattle.json_print.proofs.determined.Endings.{one_ending, run_of, same_some}
use Rattle.json_print.specs.Endings.{EndsBy}
use Rattle.json_print.specs.Print.{run_text}
use Rattle.json_print.specs.declared.ending.Ending.{Ending}
use Rattle.cli_replay.specs.Script.Replay.{IsScript, is_within}
use Rattle.cli_replay.specs.declared.script.replay.Script.{Script}
use Rattle.cli_shell.specs.Determined.{IsFunctional}
use Rattle.cli_shell.specs.Said.{Said, prints, refuses}
use Rattle.cli_shell.specs.declared.status.PrintStatus.{PrintStatus}
use Rattle.cli_shell.specs.declared.status.Refusal.TheVariants as refusals
use Rattle.cli_shell.specs.declared.status.Ended.{Ended}
use Rattle.cli_shell.specs.Sink.{SinkView}
use Rattle.cli_shell.specs.Source.{SourceView}
use Rattle.cli_shell.proofs.Determined.{Seen, seen, Told, status_of}
use Rattle.cli_shell.proofs.Saying.{bytes-say-once}
use Rattle.cli_replay.specs.Laws.{EachScriptIsReplayed, is_printed}
use Rattle.cli_replay.specs.Replay.{IsReplay, Replays, replay_means, replay_says}
use Rattle.json_print.specs.World.Outcome.{came_to}

one_script : (bytes : List ℕ) (s t : Script) → IsScript bytes s → IsScript bytes t → s ≡ t
one_script bytes s t (u, e) (v, f) = same_some s t (sym e ∙ f)

-- ---- one run

one_replay : (s : Script) (log m : List Entry) (e f : Ending) → Replays s log e → Replays s m f → (log ≡ m) × (e ≡ f)
one_replay s log m e f (x, left, u) (y, rest, v) =
    let h = s.head in
    let same = one_spelled_run h.stop (start h.input) h.fuel s.answers left rest log m (run_of h h.stop log e x) (run_of h h.stop m f y) u v in
    (same, one_ending h h.stop m e f (subst (λ l. EndsBy h h.stop [] l e) same x) y)

one_print : (s : Script) (t u : List ℕ) (a b : PrintStatus) → IsReplay s t a → IsReplay s u b → (t ≡ u) × (a ≡ b)
one_print s t u a b (log, e, x, g, i, r, v) (m, f, y, h, j, q, w) =
    let same = one_replay s log m e f x y in
    (g ∙ ap (λ l. run_text s.head l e) same.0 ∙ ap (λ z. run_text s.head m z) same.1 ∙ sym h, i ∙ ap came_to same.1 ∙ sym j)

-- ---- one thing is said

same_prints : (a b : PrintStatus) (t u : List ℕ) → a ≡ b → t ≡ u → prints a t ≡ prints b u
same_prints a b t u e f = ap (λ (o : PrintStatus). prints o t) e ∙ ap (λ (x : List ℕ). prints b x) f

one_said : (s : Script) (a b : PrintStatus) (t u : List ℕ) → IsReplay s t a → IsReplay s u b → prints a t ≡ prints b u
one_said s a b t u h k =
    let same = one_print s t u a b h k in
    same_prints a b t u same.1 same.0

-- a script within its limits passes none
within_passes : (s r : Script) → s ≡ r → is_within s ≡ true → is_within r ≡ false → ⊥
within_passes s r e w v = let f = sym w ∙ ap is_within e ∙ v in cc

pub replay_once : IsFunctional replay_says
replay_once = bytes-say-once replay_means one_script one_said

-- ---- each script within its limits is replayed

printed_by : (bytes : List ℕ) (s : Script) (x : Said) → IsScript bytes s → is_within s ≡ true → replay_says bytes x → is_printed (status_of x) ≡ true
printed_by bytes s (prints a t) i w h = refl
printed_by bytes s (refuses refusals.TooLarge) i w (r, j, v) = absurd (within_passes s r (one_script bytes s r i j) w v)
printed_by bytes s (refuses refusals.BadScript) i w f = absurd (f s i)
printed_by bytes s (refuses refusals.NotBuilt) i w h = absurd h

replayed_by : {K : Type 0} (view : K → SinkView) (bytes : List ℕ) (s : Script) (ended : Ended) (old new : K) → length bytes ≤ 16777216 → IsScript bytes s → is_within s ≡ true →
    Seen view replay_says bytes ended old new → is_printed ended ≡ true
replayed_by view bytes s ended old new n i w (inl (e, m, k)) = absurd (omega (arith, n, m))
replayed_by view bytes s ended old new n i w (inr (m, (x, h, e, k))) = ap is_printed e ∙ printed_by bytes s x i w h

pub each_script_is_replayed : {K : Type 0} (view : K → SinkView) → EachScriptIsReplayed view
each_script_is_replayed view bytes s ended before after old new e n i w h r = replayed_by view bytes s ended old new n i w (seen view replay_says bytes ended before after old new e h r)
