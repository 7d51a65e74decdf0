-- The script that is made from a number of invocations and a seed.
use Rattle.std.specs.Prelude.{ℕ, zero, suc, ◌+◌, ◌%◌, List, [], ◌∷◌, ◌++◌, Option, None, Some, true, false, codes}
use Rattle.std.specs.Prelude.{replicate}
use Rattle.std.specs.Fmt.{decimal}
use Rattle.json_scripts.specs.declared.client.script.ClientScript.{ClientScript}
use Rattle.json_scripts.specs.declared.client.terms.AuthChoice.TheVariants as auths
use Rattle.json_scripts.specs.declared.client.terms.ClassifierChoice.TheVariants as classifiers
use Rattle.json_scripts.specs.declared.client.terms.ClientObject.{ClientObject}
use Rattle.json_scripts.specs.declared.client.terms.ClientRules.{ClientRules}
use Rattle.json_scripts.specs.declared.client.terms.InvocationRecord.{InvocationRecord}
use Rattle.json_scripts.specs.declared.client.terms.RetryChoice.TheVariants as retries
use Rattle.outside_scripted.specs.declared.records.Frame.{Frame}
use Rattle.outside_scripted.specs.declared.records.RecordAnswer.TheVariants as answers
use Rattle.outside_scripted.specs.declared.records.ResponseRecord.{ResponseRecord}
use Rattle.retry_quota.specs.Book.{plain_terms}
use Rattle.retry_quota.specs.declared.state.BucketTerms.{BucketTerms}
use Rattle.smithy_types.specs.declared.config.ReconnectMode.TheVariants as reconnects
use Rattle.smithy_types.specs.declared.config.RetryMode.TheVariants as modes
use Rattle.smithy_types.specs.declared.kinds.StopPoint.TheVariants as stops
use Rattle.json_scripts.specs.Workload.Words.{word_behind}

-- five hundred tokens, of which a retry takes five, and ten after a transient error
abbrev pub made_bucket : BucketTerms
made_bucket = plain_terms 500

-- three attempts with whole backoffs from 1 s to 20 s, no deadline, and that bucket
abbrev pub made_rules : ClientRules
made_rules = record {
  bucket = Some 0;
  retry = retries.Standard (record {
    mode = modes.Standard;
    max_attempts = 3;
    initial_backoff = 1000000000;
    max_backoff = 20000000000;
    reconnect = reconnects.ReconnectOnTransientError;
    static_base = true;
    spec = None;
  });
  timeouts = record { connect = None; read = None; operation = None; attempt = None };
  stall = None;
  flags = record { sleep = true; time = true; poisoning = false; enforce = false; v2 = true };
}

-- a client that signs nothing and retries where the service fails
abbrev pub made_client : ClientObject
made_client = record {
  target = record { service = codes "made"; operation = codes "made"; url = codes "http://localhost:1"; prefix = None };
  rules = made_rules;
  classifiers = classifiers.Status (500 ∷ 502 ∷ 503 ∷ 504 ∷ []) ∷ [];
  auth = auths.NoAuth;
}

-- a response of this status that comes at once, with these frames
abbrev pub response_at_once : ℕ → List Frame → ResponseRecord
response_at_once status frames = record {
  delay = 0;
  answer = answers.Response (record { status = status; headers = []; frames = frames; repeat = false; clock = None });
}

-- the service is unavailable so often
abbrev pub unavailable : ℕ → List ResponseRecord
unavailable times = replicate times (response_at_once 503 [])

-- then it answers
abbrev pub available : ResponseRecord
available = response_at_once 200 (record { delay = 0; bytes = codes "ok" } ∷ [])

-- The invocation of this number. Its word modulo 3 is how often the service is unavailable.
abbrev pub made_invocation : ℕ → ℕ → InvocationRecord
made_invocation number word = record {
  client = 0;
  input = record { kind = 1; bytes = decimal number };
  fuel = 100;
  stop = stops.None;
  responses = unavailable (word % 3) ++ available ∷ [];
}

-- the first invocations of a seed, numbered from 1
abbrev pub made_invocations : ℕ → ℕ → List InvocationRecord
made_invocations seed zero = []
made_invocations seed (suc n) = made_invocations seed n ++ made_invocation (n + 1) (word_behind seed n) ∷ []

-- the script of so many invocations
abbrev pub made_script : ℕ → ℕ → ClientScript
made_script count seed = record {
  buckets = made_bucket ∷ [];
  start = 0;
  words = [];
  clients = made_client ∷ [];
  invocations = made_invocations seed count;
}
