use Rattle.json_print.proofs.parts.write_outcome.Goals.{in-Output+in_ok-begin_tagged-in-Output+in_ok-write_payload-in-Output, in-Failed+in_ok-begin_tagged-in-Failed+in_ok-write_fault-in-Failed}
use Rattle.json_values.specs.Values.{outcome_data}
use Rattle.json_print.proofs.RowText.{begun_end, begun_tagged}
use Rattle.json_print.proofs.parts.write_outcome.Goals as goal

pub returns : goal.returns
unfolding outcome_data
returns c =
    elim c.match-outcome.branch [
      | in-Output+in_ok-begin_tagged-in-Output+in_ok-write_payload-in-Output w ↦
          rw w.in-Output.is (begun_end (begun_tagged w.in_ok-begin_tagged-in-Output.ensures w.in_ok-write_payload-in-Output.ensures) (rw w.out-is at c.in_ok-push.ensures.items))
      | in-Failed+in_ok-begin_tagged-in-Failed+in_ok-write_fault-in-Failed w ↦
          rw w.in-Failed.is (begun_end (begun_tagged w.in_ok-begin_tagged-in-Failed.ensures w.in_ok-write_fault-in-Failed.ensures) (rw w.out-is at c.in_ok-push.ensures.items))
    ]
