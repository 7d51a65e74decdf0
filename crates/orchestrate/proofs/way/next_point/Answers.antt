use Rattle.std.proofs.Common.{ap, sym, ◌∙◌}
use Rattle.orchestrate.specs.Points.{next_point}
use Rattle.orchestrate.proofs.way.next_point.Goals as goal

pub returns-in-AtConfigureFinal : goal.returns-in-AtConfigureFinal
returns-in-AtConfigureFinal c = λ s h t. c.after_configuration.ensures c.args.stop s h t ∙ ap (λ p. next_point c.args.stop c.args.armed p s) (sym c.in-AtConfigureFinal.is)

pub returns-in-AtStartOperation : goal.returns-in-AtStartOperation
returns-in-AtStartOperation c = λ s h t. c.after_start_operation.ensures c.args.armed c.args.stop s t ∙ ap (λ p. next_point c.args.stop c.args.armed p s) (sym c.in-AtStartOperation.is)

pub returns-in-AtSerialize : goal.returns-in-AtSerialize
returns-in-AtSerialize c = λ s h t. c.after_serialize.ensures c.args.stop s h t ∙ ap (λ p. next_point c.args.stop c.args.armed p s) (sym c.in-AtSerialize.is)

pub returns-in-AtInitial : goal.returns-in-AtInitial
returns-in-AtInitial c = λ s h t. c.after_initial.ensures c.args.stop s h t ∙ ap (λ p. next_point c.args.stop c.args.armed p s) (sym c.in-AtInitial.is)

pub returns-in-AtStartSend : goal.returns-in-AtStartSend
returns-in-AtStartSend c = λ s h t. c.after_start_send.ensures c.args.stop s t ∙ ap (λ p. next_point c.args.stop c.args.armed p s) (sym c.in-AtStartSend.is)

pub returns-in-AtStartAttempt : goal.returns-in-AtStartAttempt
returns-in-AtStartAttempt c = λ s h t. c.after_start_attempt.ensures c.args.stop s t ∙ ap (λ p. next_point c.args.stop c.args.armed p s) (sym c.in-AtStartAttempt.is)

pub returns-in-AtChoose : goal.returns-in-AtChoose
returns-in-AtChoose c = λ s h t. c.after_choose.ensures c.args.stop s h t ∙ ap (λ p. next_point c.args.stop c.args.armed p s) (sym c.in-AtChoose.is)

pub returns-in-AtStream : goal.returns-in-AtStream
returns-in-AtStream c = λ s h t. c.after_stream.ensures c.args.stop s t ∙ ap (λ p. next_point c.args.stop c.args.armed p s) (sym c.in-AtStream.is)

pub returns-in-AtBody : goal.returns-in-AtBody
returns-in-AtBody c = λ s h t. c.after_body.ensures c.args.stop s t ∙ ap (λ p. next_point c.args.stop c.args.armed p s) (sym c.in-AtBody.is)

pub returns-in-AtDecide : goal.returns-in-AtDecide
returns-in-AtDecide c = λ s h t. c.after_decision.ensures c.args.stop s h t ∙ ap (λ p. next_point c.args.stop c.args.armed p s) (sym c.in-AtDecide.is)

pub returns-in-AtStartRetry : goal.returns-in-AtStartRetry
returns-in-AtStartRetry c = λ s h t. c.after_start_retry.ensures c.args.stop s h t ∙ ap (λ p. next_point c.args.stop c.args.armed p s) (sym c.in-AtStartRetry.is)

pub returns-in-AtStartLongPoll : goal.returns-in-AtStartLongPoll
returns-in-AtStartLongPoll c = λ s h t. c.after_start_long_poll.ensures c.args.stop s t ∙ ap (λ p. next_point c.args.stop c.args.armed p s) (sym c.in-AtStartLongPoll.is)

pub returns-in-AtTokenInitial : goal.returns-in-AtTokenInitial
returns-in-AtTokenInitial c = λ s h t. c.after_token.ensures c.args.stop s h t ∙ ap (λ p. next_point c.args.stop c.args.armed p s) (sym c.in-AtTokenInitial.is)

pub returns-in-AtTokenStartSend : goal.returns-in-AtTokenStartSend
returns-in-AtTokenStartSend c = λ s h t. c.after_token_start_send.ensures c.args.stop s t ∙ ap (λ p. next_point c.args.stop c.args.armed p s) (sym c.in-AtTokenStartSend.is)

pub returns-in-Hook : goal.returns-in-Hook
returns-in-Hook c = λ s h t. c.after_hook.ensures s t ∙ ap (λ p. next_point c.args.stop c.args.armed p s) (sym c.in-Hook.is)
