-- What `client` and `make` say is determined.
use Rattle.std.proofs.Common.{◌≡◌, ◌∙◌, refl, sym, ap, ℕ, arith, List, []}
use Rattle.cli_client.specs.Client.{IsToldOf, client_means, client_says}
use Rattle.cli_client.specs.Means.{SlotRuns, own_chain, own_ranked, own_says}
use Rattle.cli_client.specs.declared.report.Report.{Report}
use Rattle.cli_client.specs.declared.report.Report.TheVariants as reports
use Rattle.json_scripts.specs.Client.Script.{IsClientScript}
use Rattle.json_scripts.specs.declared.client.script.ClientScript.{ClientScript}
use Rattle.laws_determined.specs.Retries.Kinds.{RunsAlike}
use Rattle.cli_shell.proofs.Saying.{bytes-say-once}
use Rattle.cli_shell.specs.Determined.{IsFunctional}
use Rattle.cli_shell.specs.Said.{prints, refuses}
use Rattle.cli_shell.specs.declared.status.PrintStatus.{PrintStatus}
use Rattle.cli_shell.specs.declared.status.Refusal.TheVariants as refusals
use Rattle.smithy_base.specs.declared.intercept.Slot.TheVariants as slots
use Rattle.json_scripts.specs.Workload.Made.{made_script}
use Rattle.laws_program.proofs.runs.Parts.{own_alike}
use Rattle.laws_program.specs.Clients.Making.{MakesOneThing}
use Rattle.json_print.proofs.determined.Endings.{same_some}
use Rattle.laws_program.proofs.clients.Opened.{opened_alike}
use Rattle.laws_program.proofs.clients.Told.{OneTelling, counts_once, plays_once}

-- ---- the interceptors are those of the crate

pub slot_alike : {W : Type 0} {w : W → Type 0} → RunsAlike (SlotRuns {W = W} {w = w})
slot_alike (slots.Own one) after left hook view a b (new, is, ran) (more, too, again) = let met = own_alike one new more hook view a b ran again in (met.0, is ∙ (ap slots.Own met.1 ∙ sym too))
slot_alike (slots.Boxed box) after left hook view a b s t = absurd s

-- ---- one thing is told of a script

told_once : (report : Report) (script : ClientScript) (text other : List ℕ) (outcome status : PrintStatus) → IsToldOf report script text outcome → IsToldOf report script other status → OneTelling text other outcome status
told_once reports.Print script text other outcome status s t =
    plays_once own_says own_chain slot_alike script.invocations [] text other outcome status s.first t.first s.last t.last
    (opened_alike own_ranked script.buckets script.start script.words script.clients s.first t.first s.opened t.opened) s.reports t.reports
told_once (reports.Counts count seed) script text other outcome status s t =
    counts_once own_says own_chain slot_alike count seed script.invocations text other outcome status s.first t.first s.last t.last
    (opened_alike own_ranked script.buckets script.start script.words script.clients s.first t.first s.opened t.opened) s.reports t.reports

same_prints : (outcome status : PrintStatus) (text other : List ℕ) → OneTelling text other outcome status → prints outcome text ≡ prints status other
same_prints outcome status text other one = λ i. prints (one.outcome_is i) (one.text_is i)

one_said : (s : ClientScript) (outcome status : PrintStatus) (text other : List ℕ) → IsToldOf reports.Print s text outcome → IsToldOf reports.Print s other status → prints outcome text ≡ prints status other
one_said s outcome status text other one two = same_prints outcome status text other (told_once reports.Print s text other outcome status one two)

-- ---- one thing is said of bytes

one_script : (bytes : List ℕ) (s r : ClientScript) → IsClientScript bytes s → IsClientScript bytes r → s ≡ r
one_script bytes s r one two = same_some s r (sym one.1 ∙ two.1)

pub client_once : IsFunctional client_says
client_once = bytes-say-once client_means one_script one_said

pub make_once : MakesOneThing
make_once count seed (prints a t) (prints b u) (w, h) (v, k) = same_prints a b t u (told_once (reports.Counts count seed) (made_script count seed) t u a b h k)
make_once count seed (prints a t) (refuses refusals.TooLarge) (w, h) v = absurd (omega (arith, w, v))
make_once count seed (prints a t) (refuses refusals.BadScript) h k = absurd k
make_once count seed (prints a t) (refuses refusals.NotBuilt) h k = absurd k
make_once count seed (refuses refusals.TooLarge) (prints b u) v (w, h) = absurd (omega (arith, w, v))
make_once count seed (refuses refusals.TooLarge) (refuses refusals.TooLarge) h k = refl
make_once count seed (refuses refusals.TooLarge) (refuses refusals.BadScript) h k = absurd k
make_once count seed (refuses refusals.TooLarge) (refuses refusals.NotBuilt) h k = absurd k
make_once count seed (refuses refusals.BadScript) x h k = absurd h
make_once count seed (refuses refusals.NotBuilt) x h k = absurd h
