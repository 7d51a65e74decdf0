-- What a script names by its place is there.
use Rattle.std.specs.Prelude.{ℕ, ◌<◌, All, length, IfSome}
use Rattle.json_scripts.specs.declared.client.script.ClientScript.{ClientScript}
use Rattle.json_scripts.specs.declared.client.terms.ClientObject.{ClientObject}
use Rattle.json_scripts.specs.declared.client.terms.ClientRules.{ClientRules}
use Rattle.json_scripts.specs.declared.client.terms.InvocationRecord.{InvocationRecord}

-- a custom partition's bucket is one of so many
abbrev pub RulesHaveBucket : ℕ → ClientRules → Type 0
RulesHaveBucket buckets r = IfSome r.bucket (λ b. b < buckets)

-- the bucket that a client names, if it names one, is one of so many
abbrev pub HasBucket : ℕ → ClientObject → Type 0
HasBucket buckets c = RulesHaveBucket buckets c.rules

-- an invocation's client is one of so many
abbrev pub HasClient : ℕ → InvocationRecord → Type 0
HasClient clients i = i.client < clients

-- each client has its bucket, and each invocation its client
abbrev pub IsPlaced : ClientScript → Type 0
IsPlaced s = All (HasBucket (length s.buckets)) s.clients × All (HasClient (length s.clients)) s.invocations
