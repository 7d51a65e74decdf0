-- How a run of a seat ends.
use Rattle.std.specs.Prelude.{◌≡◌, List, [], Some, Result}
use Rattle.std.proofs.Common.{sym, subst}
use Rattle.smithy_context.specs.declared.context.InterceptorContext.{InterceptorContext}
use Rattle.smithy_types.specs.declared.kinds.StopPoint.{StopPoint}
use Rattle.smithy_types.specs.declared.kinds.StopPoint.TheVariants as stops
use Rattle.smithy_types.specs.declared.payload.Payload.{Payload}
use Rattle.run_grammar.specs.declared.answer.Entry.{Entry}
use Rattle.orchestrate.specs.Answered.{ContextAnswered, PayloadAnswered}
use Rattle.orchestrate.specs.declared.execution.InvokeError.{InvokeError}
use Rattle.run_driver.specs.Running.{Goes}
use Rattle.json_print.specs.Endings as endings
use Rattle.json_print.specs.Endings.{ending_of, stopped_ending_of}
use Rattle.json_print.specs.declared.ending.Ending.{Ending}
use Rattle.host_session.specs.Ending.{EndsBy}
use Rattle.host_session.specs.Running.{calls_of}
use Rattle.host_session.specs.declared.seat.SeatRun.{SeatRun}

-- a run to its end
pub ended : (run : SeatRun) (r : Result Payload (InvokeError Payload)) (e : Ending) → run.head.stop ≡ stops.None →
    ((p : Payload) (before log : List Entry) → Goes p stops.None run.driven before log → PayloadAnswered p (calls_of run) r before log) →
    ending_of run.head r ≡ Some e → EndsBy run e
unfolding ending_of
ended run r e at finish is log going =
    subst (λ (stop : StopPoint). endings.EndsBy (record run.head { fuel = calls_of run }) stop [] log e) (sym at)
    (r, finish run.head.input [] log (subst (λ (stop : StopPoint). Goes run.head.input stop run.driven [] log) at going.goes), is)

-- a run to its stop point
pub stopped : (run : SeatRun) (r : Result InterceptorContext (InvokeError Payload)) (e : Ending) → run.head.stop ≡ stops.BeforeTransmit →
    ((p : Payload) (stop : StopPoint) (before log : List Entry) → Goes p stop run.driven before log → ContextAnswered p stop (calls_of run) r before log) →
    stopped_ending_of run.head r ≡ Some e → EndsBy run e
unfolding stopped_ending_of
stopped run r e at finish is log going =
    subst (λ (stop : StopPoint). endings.EndsBy (record run.head { fuel = calls_of run }) stop [] log e) (sym at)
    (r, finish run.head.input stops.BeforeTransmit [] log (subst (λ (stop : StopPoint). Goes run.head.input stop run.driven [] log) at going.goes), is)
