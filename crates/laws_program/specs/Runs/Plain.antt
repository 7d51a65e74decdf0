-- What each part of a script's client answers follows from what it is and what it is handed.
use Rattle.cli_client_runs.specs.Means.{client_means}
use Rattle.client_retries.specs.Meanings.{InterceptorMeans}
use Rattle.smithy_context.specs.declared.context.InterceptorContext.{InterceptorContext}
use Rattle.smithy_types.specs.declared.notes.RetryAction.{RetryAction}
use Rattle.laws_determined.specs.Client.Answering.{ArePlain}
use Rattle.laws_determined.specs.Retries.Kinds.{RunsAlike}

-- where its interceptors are so
abbrev pub ClientsArePlain : {C I : Type 0} → (C → InterceptorContext → RetryAction → RetryAction)
    → InterceptorMeans I → Type 0
ClientsArePlain says chain = RunsAlike chain.runs → ArePlain (client_means says chain)
