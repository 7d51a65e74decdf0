use Rattle.std.proofs.Common.{refl, inr}
use Rattle.smithy_types.proofs.ChainLemmas.{chained_more}
use Rattle.client_retries.proofs.BucketStays.{in_force}
use Rattle.client_retries.proofs.Lacking.{called, lacking}
use Rattle.client_retries.proofs.decide.decide_standard.Goals as goal

pub sums_in_force-requires : goal.sums_in_force-requires
sums_in_force-requires g c =
    let made = rw c.in-Some.is at c.in_ok-decision.ensures in
    in_force _ _ _ _ _ _ _ _ _ _ _ (rw made at c.should_attempt_retry-decided.ensures.decides)

pub returns-in_ok-note-in-Some-clause-ok : goal.returns-in_ok-note-in-Some-clause-ok
returns-in_ok-note-in-Some-clause-ok g c =
    let made = rw c.in-Some.is at c.in_ok-decision.ensures in
    let decides = rw made at c.should_attempt_retry-decided.ensures.decides in (
      _,
      chained_more g.X.Outside.makes _ _ _ _ _ c.present-moment.ensures.calls c.word-word.ensures,
      record {
        now = c.present-moment.result;
        word = c.word-word.result;
        known = c.present-moment.ensures.known;
        calls_are = refl;
        decides = (
          c.in-Some.decision,
          rw (c.settings-settings.ensures, c.run_each-verdict.ensures) at decides,
          c.paused.ensures,
          rw (c.in_ok-note-in-Some.ensures, c.sums_in_force.ensures, c.settings-settings.ensures, c.run_each-verdict.ensures) refl,
        );
      },
    )

pub returns-in-None-clause-ok : goal.returns-in-None-clause-ok
returns-in-None-clause-ok g c =
    let missing = rw c.in-None.is at c.in_ok-decision.ensures in (
      _,
      chained_more g.X.Outside.makes _ _ _ _ _ c.present-moment.ensures.calls c.word-word.ensures,
      record {
        now = c.present-moment.result;
        word = c.word-word.result;
        known = c.present-moment.ensures.known;
        calls_are = refl;
        decides = (
          (rw c.settings-settings.ensures at c.should_attempt_retry-decided.ensures.missing).0 missing,
          rw missing at c.should_attempt_retry-decided.ensures.slot,
          rw missing at c.should_attempt_retry-decided.ensures.kept,
        );
      },
    )

-- without memory the clock was asked and a word drawn
pub returns-in_err-decision-clause-outside : goal.returns-in_err-decision-clause-outside
returns-in_err-decision-clause-outside g c =
    called g.X.Outside.makes _ _ _ _ (chained_more g.X.Outside.makes _ _ _ _ _ c.present-moment.ensures.calls c.word-word.ensures)

pub returns-in_err-note-in-Some-clause-outside : goal.returns-in_err-note-in-Some-clause-outside
returns-in_err-note-in-Some-clause-outside g c =
    called g.X.Outside.makes _ _ _ _ (chained_more g.X.Outside.makes _ _ _ _ _ c.present-moment.ensures.calls c.word-word.ensures)

pub returns-in_err-note-in-Some-clause-err : goal.returns-in_err-note-in-Some-clause-err
returns-in_err-note-in-Some-clause-err g c =
    let made = rw c.in-Some.is at c.in_ok-decision.ensures in
    let decides = rw made at c.should_attempt_retry-decided.ensures.decides in
    lacking _ (inr (c.present-moment.result, c.word-word.result, c.in-Some.decision, rw (c.settings-settings.ensures, c.run_each-verdict.ensures) at decides))
