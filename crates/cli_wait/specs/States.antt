-- The names of what acceptors say.
use Rattle.std.specs.Prelude.{ℕ, List, [], ◌∷◌, codes}
use Rattle.smithy_types.specs.declared.acceptor.AcceptorState.{AcceptorState}
use Rattle.smithy_types.specs.declared.acceptor.AcceptorState.TheVariants.{NoAcceptorsMatched, Success, Failure, Retry}

-- the name of what the acceptors say
abbrev pub state_text : AcceptorState → List ℕ
state_text NoAcceptorsMatched = codes "NoAcceptorsMatched"
state_text Success = codes "Success"
state_text Failure = codes "Failure"
state_text Retry = codes "Retry"

-- all that the acceptors may say
abbrev pub acceptor_states : List AcceptorState
acceptor_states = NoAcceptorsMatched ∷ Success ∷ Failure ∷ Retry ∷ []
