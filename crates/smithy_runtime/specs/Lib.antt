pub mod Types
pub use Rattle.client_auth.specs.Identities
pub use Rattle.client_auth.specs.Responses
pub use Rattle.client_builder.specs.Built
pub use Rattle.client_builder.specs.Refusal
pub use Rattle.client_call.specs.Ending
pub use Rattle.client_components.specs.Meaning as ClientMeaning
pub use Rattle.client_operations.specs.Polling
pub use Rattle.client_operations.specs.Watching
pub use Rattle.client_components.specs.Paying
pub use Rattle.client_components.specs.Serving
pub use Rattle.client_retries.specs.Strategies
pub use Rattle.http_schemes.specs.Signing
pub use Rattle.laws_client.specs.Retries.Attempting
pub use Rattle.laws_client.specs.Retries.Telling
pub use Rattle.orchestrate.specs.Answered
pub use Rattle.orchestrate.specs.Growth
pub use Rattle.orchestrate.specs.Handing
pub use Rattle.outside.specs.Calls as OutsideCalls
pub use Rattle.retry_quota.specs.Calls as QuotaCalls
pub use Rattle.retry_quota.specs.Meaning
pub use Rattle.retry_quota.specs.Registers
pub use Rattle.run_grammar.specs.Grammar
pub use Rattle.smithy_base.specs.Requests
pub use Rattle.smithy_types.specs.Chain
pub use Rattle.smithy_types.specs.Config
pub use Rattle.text_payloads.specs.Text
pub use Rattle.waiters.specs.Calls as WaiterCalls
pub use Rattle.waiters.specs.Count
pub use Rattle.waiters.specs.Walk
pub use Rattle.waiters.specs.WalkCalls
