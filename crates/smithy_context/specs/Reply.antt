-- What stands for a hook's answer.
use Rattle.std.specs.Prelude.{Option, None, Some, []}
use Rattle.smithy_context.specs.declared.intercept.HookAnswer.{HookAnswer}

-- the answer of a hook that does nothing
abbrev pub done : HookAnswer
done = record { change = None; settings = []; failure = None }

-- the answer that is kept: none stands for that of a hook that does nothing
abbrev pub reply_of : Option HookAnswer → HookAnswer
reply_of None = done
reply_of (Some a) = a
