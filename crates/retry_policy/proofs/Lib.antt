mod DecisionLemmas
mod GrantLemmas
mod StepLemmas
mod WaitLemmas
