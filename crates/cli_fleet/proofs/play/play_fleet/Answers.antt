use Rattle.std.proofs.Common.{◌∙◌, ◌++◌, ap, map, subst, sym}
use Rattle.retry_quota_cell.specs.Fleet.{AreTheirs}
use Rattle.retry_quota_cell.specs.Known.{opening_of}
use Rattle.retry_quota.specs.Book.{book_of, sums_of}
use Rattle.retry_quota.specs.History.{end_of}
use Rattle.cli_shell.specs.declared.status.PrintStatus.TheVariants as outcomes
use denote.Param.Send.{param_send, param_sync, sendable}
use Rattle.cli_fleet.proofs.Crosses.{caller_send}
use Rattle.cli_fleet.proofs.Playing.{done_of, each_mapped, has_ended, mapped_twice, read_of, works_done}
use Rattle.cli_fleet.proofs.Printing.{at_each}
use Rattle.cli_fleet.specs.Fleet.{works_from}
use Rattle.cli_fleet.specs.Print.{IsEnded, callers_text, latest, left_text}
use Rattle.cli_fleet.specs.Working.{EndsSo, steps_of}
use Rattle.cli_fleet.specs.declared.caller.CallerState.TheVariants.{Ready}
use Rattle.cli_fleet.proofs.play.play_fleet.Goals as goal
use Rattle.cli_fleet.proofs.play.play_fleet.Lts as lts

pub run_callers-callers-requires-send-C : goal.run_callers-callers-requires-send-C
run_callers-callers-requires-send-C g c κs within = let y = c.type_bounds.sync-G in param_send 0 (lts.arg-10-0 g.row.R g.row.G g.R.laws g.G.laws g.R.Threads-dict g.R.Wait-dict g.G.Gate-dict κs) (search (caller_send, param_sync, sendable) depth 20)

pub print_callers-requires : goal.print_callers-requires
print_callers-requires g c =
    let place = c.in_ok-bucket.bucket in
    at_each (λ x y. EndsSo place x.state y.state) (λ y. IsEnded y.state) (λ x y e. has_ended place x.state y.state e) c.in_ok-callers.callers.items c.run_callers-callers.result.0.items c.run_callers-callers.ensures.ends

pub returns : goal.returns
returns g c =
    let place = c.in_ok-bucket.bucket in
    let script = c.args.script in
    let callers = c.run_callers-callers.result.0.items in
    let states = map (λ x. x.state) callers in
    let log = c.run_callers-callers.ensures.history.0 in
    let length_is = c.run_callers-callers.ensures.history.3 in
    let opened = c.in_ok-bucket.ensures.opening ∙ ap (λ b. opening_of b c.len-count.result) c.with_terms.ensures ∙ ap (opening_of (book_of script.bucket)) (c.len-count.ensures ∙ c.in_ok-callers.ensures.count) in
    let sums_is = c.run_callers-callers.ensures.history.2 ∙ ap (λ o. sums_of (end_of o.book log)) opened in
    let text = callers_text 0 (map (λ d. d.text) (map done_of states)) in
    record {
      place = place;
      opened = opened;
      done = map done_of states;
      each = works_done place (works_from script.start script.words 0 script.callers) (map (λ x. x.state) c.in_ok-callers.callers.items) states (c.in_ok-callers.ensures.ready ∙ ap (λ w. map Ready (works_from script.start w 0 script.callers)) c.as_slice.ensures)
          (each_mapped (λ x. x.state) (λ x. x.state) (EndsSo place) c.in_ok-callers.callers.items callers c.run_callers-callers.ensures.ends) c.in_ok-came.ensures.told;
      history = log;
      theirs = subst (λ l. AreTheirs place.opening l log) (sym (mapped_twice (λ x. x.state) steps_of callers) ∙ sym (read_of (λ d. d.steps) states)) c.run_callers-callers.ensures.history.1;
      text_is = c.in_ok-print_left.ensures
          ∙ ap (λ t. t ++ left_text c.run_callers-callers.result.1 c.run_callers-callers.result.2) (c.in_ok-came.ensures.printed ∙ ap (λ t. t ++ callers_text 0 (map (λ s. (done_of s).text) states)) c.new-text.ensures.items ∙ ap (callers_text 0) (sym (read_of (λ d. d.text) states)))
          ∙ ap (λ s. text ++ left_text s c.run_callers-callers.result.2) sums_is ∙ ap (λ n. text ++ left_text (sums_of (end_of (book_of script.bucket) log)) n) length_is;
      came = c.in_ok-came.ensures.came_is ∙ ap (latest outcomes.Ok) (sym (read_of (λ d. d.outcome) states));
    }
