-- What `wait` says is determined by its input.
use Rattle.std.proofs.Common.{◌≡◌, ℕ, false, List, Some, ap, sym, subst, ◌∙◌}
use Rattle.cli_shell.proofs.Saying.{bytes-say-once}
use Rattle.cli_shell.specs.Determined.{IsFunctional}
use Rattle.cli_shell.specs.Said.{prints}
use Rattle.cli_shell.specs.declared.status.PrintStatus.{PrintStatus}
use Rattle.cli_wait.specs.declared.ending.WaitEnding.{WaitEnding}
use Rattle.cli_wait.specs.declared.script.WaitScript.{WaitScript}
use Rattle.cli_wait.specs.declared.scripted_timers.ScriptedTimers.{ScriptedTimers}
use Rattle.cli_wait.specs.Endings.{came_to}
use Rattle.cli_wait.specs.Print.{wait_text}
use Rattle.cli_wait.specs.Script.{IsScript}
use Rattle.cli_wait.specs.Wait.{AreFirst, IsWait, wait_means, wait_says}
use Rattle.cli_wait.specs.Walk.{EndsBy}
use Rattle.laws_program.proofs.waits.Turned.{Goes, asking, one_way}
use Rattle.laws_program.proofs.waits.Walked.{waits_go}

same_some : {A : Type 0} (one other : A) → Some one ≡ Some other → one ≡ other
same_some one other is = cc

one_script : (bytes : List ℕ) (s t : WaitScript) → IsScript bytes s → IsScript bytes t → s ≡ t
one_script bytes s t one two = same_some s t (sym one.1 ∙ two.1)

-- there is one beginning of a script
one_beginning : (s : WaitScript) (one other : ScriptedTimers) → AreFirst s one → AreFirst s other → one ≡ other
one_beginning s one other first second = λ i. record {
  moment = (first.moment ∙ sym second.moment) i;
  words = (first.words ∙ sym second.words) i;
  polls = (first.polls ∙ sym second.polls) i;
  poll_due = (first.poll_due ∙ sym second.poll_due) i;
  sleeps = (first.sleeps ∙ sym second.sleeps) i;
  notes = (first.notes ∙ sym second.notes) i;
  unready = (first.unready ∙ sym second.unready) i;
}

-- a waiter of a script goes one way
goes : (least greatest most fuel : ℕ) (old last : ScriptedTimers) (ending : WaitEnding) → EndsBy least greatest most old fuel ending last → Goes least greatest most old.moment fuel asking 0 false old ending last
goes least greatest most fuel old last ending ends =
    let walks = ends.walks in
    let way = waits_go walks.backoff old last fuel ends.answered ending walks.waits ends.ends in
    subst (λ n. Goes n greatest most old.moment fuel asking 0 false old ending last) walks.min_is
    (subst (λ n. Goes walks.backoff.min_delay n most old.moment fuel asking 0 false old ending last) walks.max_is
    (subst (λ n. Goes walks.backoff.min_delay walks.backoff.max_delay n old.moment fuel asking 0 false old ending last) walks.max_wait_is way))

record SamePrint (text other : List ℕ) (status too : PrintStatus) : Type 0 where
  text_is : text ≡ other
  status_is : status ≡ too

one_print : (s : WaitScript) (text other : List ℕ) (status too : PrintStatus) → IsWait s text status → IsWait s other too → SamePrint text other status too
one_print s text other status too one two =
    let begun = one_beginning s two.first one.first two.are_first one.are_first in
    let way = goes s.min s.max s.max_wait s.fuel one.first one.last one.ending one.ends in
    let again = goes s.min s.max s.max_wait s.fuel one.first two.last two.ending (subst (λ t. EndsBy s.min s.max s.max_wait t s.fuel two.ending two.last) begun two.ends) in
    let met = one_way s.min s.max s.max_wait one.first.moment s.fuel asking 0 false one.first one.ending two.ending one.last two.last way again in
    record {
      text_is = one.text_is ∙ ((λ i. wait_text (met.timers_are i).notes (met.ending_is i)) ∙ sym two.text_is);
      status_is = one.status_is ∙ (ap came_to met.ending_is ∙ sym two.status_is);
    }

one_said : (s : WaitScript) (a b : PrintStatus) (t u : List ℕ) → IsWait s t a → IsWait s u b → prints a t ≡ prints b u
one_said s a b t u one two =
    let same = one_print s t u a b one two in
    λ i. prints (same.status_is i) (same.text_is i)

-- of one text `wait` says one thing
pub wait_once : IsFunctional wait_says
wait_once = bytes-say-once wait_means one_script one_said
