use Rattle.std.proofs.Common.{refl, sym, ◌∙◌}
use Rattle.runcheck.proofs.Following.{along_more, along_stuck, apart_from, end_open, end_whole}
use Rattle.runcheck.proofs.follow.follow.Goals as goal

pub returns-then-not-taken-clause-none : goal.returns-then-not-taken-clause-none
returns-then-not-taken-clause-none c = λ n. along_stuck c.args.stop c.args.input c.args.calls.now c.loop-call.walk c.loop-call.standing c.loop-call.entries.items c.loop-call.call-index c.call-item.result
    c.loop-call-test.true c.call-item.is (c.in_ok-taken.ensures.no c.if-not-taken.true) c.loop-call.invariant (c.runs_are_accepted.ensures _ _ _)

pub loop-call-preserved : goal.loop-call-preserved
loop-call-preserved c = along_more c.args.stop c.args.input c.args.calls.now c.loop-call.walk c.take.new.walk c.loop-call.standing c.take.new.standing c.loop-call.entries.items c.take.new.entries.items
    c.loop-call.call-index c.call-item.result c.loop-call-test.true c.call-item.is (c.in_ok-taken.ensures.yes c.if-not-taken.false) c.loop-call.invariant

pub returns-then-is_whole-clause-whole : goal.returns-then-is_whole-clause-whole
returns-then-is_whole-clause-whole c = end_whole c.args.stop c.args.input c.args.calls.now c.loop-call.walk c.loop-call.standing c.loop-call.entries.items c.loop-call.call-index
    c.loop-call-test.false (c.is_whole.ensures.0 c.if-is_whole.true) c.loop-call.invariant (c.runs_are_accepted.ensures _ _ _)

pub returns-clause-none : goal.returns-clause-none
returns-clause-none c = λ n. end_open c.args.stop c.args.input c.args.calls.now c.loop-call.walk c.loop-call.standing c.loop-call.entries.items c.loop-call.call-index
    c.loop-call-test.false (apart_from _ _ c.is_whole.ensures c.if-is_whole.false) c.loop-call.invariant (c.runs_are_accepted.ensures _ _ _)
