-- The invocations that `client` prints pay for their attempts.
use Rattle.std.proofs.Common.{◌≡◌, ◌∙◌, ap, refl, subst, sym, ℕ, ◌-◌, ◌<◌, ◌^◌, ◌++◌, true, List, [], ◌∷◌, length, map, append_assoc, inl, inr, arith, IfSome, None, Option, Some, slice_get}
use Rattle.std.specs.Prelude.{min, option_map}
use Rattle.std.specs.Option.{option_map_or}
use Rattle.std.proofs.lemmas.Bool.Decides.{nat_tests}
use Rattle.std.proofs.lemmas.Option.{slice_get-map, slice_get_within}
use Rattle.std.specs.List.{AllByRecursion}
use Rattle.cli_client.specs.Means.{NoClassifier, NoInterceptor, none, own_chain, own_ranked, own_says, OwnServed}
use Rattle.laws_client.specs.Retries.Attempting.{SettingsBoundAttempts}
use Rattle.cli_client_runs.specs.Invoking.{head_by}
use Rattle.cli_client_runs.specs.Means.{client_means}
use Rattle.cli_client_runs.specs.Print.{buckets_text, loads_data}
use Rattle.cli_client_runs.specs.Running.{Ran, Runs, loads_in}
use Rattle.cli_client_runs.specs.declared.set.ClientSet.{ClientSet}
use Rattle.client_scripted.specs.declared.service.error.ServiceError.{ServiceError}
use Rattle.client_components.proofs.PaidLemmas.{all_later, all_paid, kept_prices}
use Rattle.client_components.proofs.QuotaLemmas.{all_keep}
use Rattle.client_scripted.specs.Clients.{BuildsOne, Described}
use Rattle.client_scripted.specs.Parts.{PartitionOf}
use Rattle.cli_client.specs.Opening.{quota_of}
use Rattle.rate_limit.specs.Pace.{Pace}
use Rattle.retry_quota.proofs.CallLemmas.{keeps_then}
use Rattle.retry_quota.specs.Book.{book_of, cost_of}
use Rattle.retry_quota.specs.Calls.{KeepsThere}
use Rattle.retry_quota.specs.Registers.{Registers, meaning_of}
use Rattle.smithy_types.specs.declared.kinds.ErrorKind.{ErrorKind}
use Rattle.smithy_types.specs.declared.partition.RetryPartition.{RetryPartition}
use Rattle.retry_quota.specs.declared.state.BucketTerms.{BucketTerms}
use Rattle.json_print.proofs.determined.Endings.{run_of}
use Rattle.client_builder.specs.declared.own_interceptor.OwnInterceptor.{OwnInterceptor}
use Rattle.orchestrate.specs.SpelledRuns.{IsRunWithin}
use Rattle.retry_policy.specs.declared.classify.Classifier.{Classifier}
use Rattle.run_grammar.specs.Standing.{State}
use Rattle.run_grammar.specs.declared.answer.Entry.{Entry}
use Rattle.json_print.specs.Print.{line}
use Rattle.smithy_base.specs.declared.intercept.Slot.{Slot}
use Rattle.smithy_types.specs.Chain.{Chained}
use Rattle.smithy_types.specs.declared.kinds.StopPoint.{StopPoint}
use Rattle.client_components.specs.Paying.{Pays, prices_of}
use Rattle.laws_program.specs.Paid.Paid.{ClientsPay, IsPaidFor}

-- a run within its fuel has as many entries at most
within : (stop : StopPoint) (s : State) (fuel : ℕ) (l : List Entry) → IsRunWithin stop s fuel l → fuel < 2 ^ 64 → length l < 2 ^ 64
within stop s fuel l (inl h) few = omega (arith, h.0, few)
within stop s fuel l (inr h) few = omega (arith, h.0, few)

-- the classifiers and the interceptors of a script's clients
abbrev OwnClassifier : Type 0
OwnClassifier = Classifier ServiceError NoClassifier none

abbrev OwnSlot : Type 0
OwnSlot = Slot OwnInterceptor NoInterceptor none

-- what is printed behind the invocations: the buckets, and the number of loads
abbrev buckets_of : ClientSet OwnClassifier OwnSlot → List ℕ
buckets_of last = buckets_text 0 last.quota.books

abbrev loads_of : ClientSet OwnClassifier OwnSlot → List ℕ
loads_of last = line (loads_data (min (loads_in last.clients.items) (2 ^ 64 - 1)))

-- ---- a bucket that is there stays there, with its costs

abbrev Keeps : ClientSet OwnClassifier OwnSlot → ClientSet OwnClassifier OwnSlot → Type 0
Keeps old new = (bucket : ℕ) → (meaning_of old.quota).has bucket ≡ true → KeepsThere (meaning_of old.quota) (meaning_of new.quota) bucket

-- outside and quota come back as the run left them
came_back : (old new : ClientSet OwnClassifier OwnSlot) (ran : Ran) (made : Runs OwnServed old ran new) → new.quota ≡ made.invoked.served.parts.quota
came_back old new ran made = made.invoked.leaves.quota_is ∙ ap (λ p. p.quota) made.invoked.leaves.ends.others

run_keeps : (old new : ClientSet OwnClassifier OwnSlot) (ran : Ran) → Runs OwnServed old ran new → Keeps old new
run_keeps old new ran made = λ bucket there.
    let entered = ap (λ p. p.quota) made.invoked.enters.parts in
    let kept = all_keep (client_means own_says own_chain) made.invoked.entered.parts made.invoked.served.parts ran.log bucket
    (subst (λ q. (meaning_of q).has bucket ≡ true) (sym entered) there) made.invoked.serves in
    subst (λ q. KeepsThere (meaning_of q) (meaning_of new.quota) bucket) entered
    (subst (λ q. KeepsThere (meaning_of made.invoked.entered.parts.quota) (meaning_of q) bucket) (sym (came_back old new ran made)) kept)

kept_so : (old new : ClientSet OwnClassifier OwnSlot) → new ≡ old → Keeps old new
kept_so old new same = λ bucket there. subst (λ (s : ClientSet OwnClassifier OwnSlot). KeepsThere (meaning_of old.quota) (meaning_of s.quota) bucket) (sym same)
    (record { has = there; cost = λ kind. refl; reward = refl })

runs_keep : (old new : ClientSet OwnClassifier OwnSlot) (runs : List Ran) → Chained (Runs OwnServed) old runs new → Keeps old new
runs_keep old new [] made = kept_so old new made
runs_keep old new (ran ∷ runs) (mid, made, rest) = λ bucket there.
    let first = run_keeps old mid ran made bucket there in
    keeps_then (meaning_of old.quota) (meaning_of mid.quota) (meaning_of new.quota) bucket first (runs_keep mid new runs rest bucket first.has)

-- ---- the script's buckets

partition_keeps : (service : List ℕ) (bucket : Option ℕ) (old : Registers Pace) (partition : Option RetryPartition) (new : Registers Pace)
    → PartitionOf service bucket old partition new → new.books ≡ old.books
partition_keeps service None old partition new h = ap (λ (r : Registers Pace). r.books) h.1
partition_keeps service (Some bucket) old None new h = absurd h
partition_keeps service (Some bucket) old (Some partition) new h = h.3.bucket.1

built_keep : (old new : Registers Pace) (described : List (Described OwnClassifier OwnSlot)) → Chained (BuildsOne {V = NoClassifier} {W = NoInterceptor} {v = none} {w = none} own_ranked) old described new
    → new.books ≡ old.books
built_keep old new [] h = ap (λ (r : Registers Pace). r.books) h
built_keep old new (d ∷ ds) (mid, one, rest) =
    built_keep mid new ds rest ∙ partition_keeps d.object.target.service d.object.rules.bucket old one.partition mid one.registered

priced_so : (buckets : List BucketTerms) (first last : Registers Pace) → first.books ≡ map book_of buckets
    → ((bucket : ℕ) → (meaning_of first).has bucket ≡ true → KeepsThere (meaning_of first) (meaning_of last) bucket)
    → (bucket : ℕ) (found : Option BucketTerms) → slice_get buckets bucket ≡ found → IfSome found (λ terms. (kind : ErrorKind) → (meaning_of last).cost bucket kind ≡ cost_of kind (book_of terms))
priced_so buckets first last opened keeps bucket None is = tt
priced_so buckets first last opened keeps bucket (Some terms) is = λ kind.
    let stands : slice_get first.books bucket ≡ Some (book_of terms) =
    ap (λ books. slice_get books bucket) opened ∙ slice_get-map book_of buckets bucket ∙ ap (option_map book_of) is in
    let below = slice_get_within first.books bucket (book_of terms) stands in
    (keeps bucket (grind (arith, nat_tests, below))).cost kind ∙ ap (λ o. option_map_or (cost_of kind) o 0) stands

module _ (bound : SettingsBoundAttempts) where
  one_pays : (old new : ClientSet OwnClassifier OwnSlot) (ran : Ran) → Runs OwnServed old ran new → IsPaidFor (prices_of (meaning_of new.quota)) ran
  one_pays old new ran made =
      let i = ran.invocation in
      let served = made.invoked.serves in
      let paid = subst (λ q. AllByRecursion (λ e. Pays (prices_of (meaning_of q)) e.question e.answer) ran.log) (sym (came_back old new ran made))
      (all_paid (client_means own_says own_chain) made.invoked.entered.parts made.invoked.served.parts ran.log served) in
      record {
        paid = paid;
        attempts = λ few whole. bound (prices_of (meaning_of new.quota)) i.stop i.input ran.log whole
            (within i.stop _ i.fuel ran.log (run_of (head_by i) i.stop ran.log ran.ending made.invoked.ends) few) paid;
      }

  -- what was paid is so at the prices of the buckets that are left
  paid_later : (mid last : ClientSet OwnClassifier OwnSlot) (ran : Ran) → Keeps mid last → IsPaidFor (prices_of (meaning_of mid.quota)) ran → IsPaidFor (prices_of (meaning_of last.quota)) ran
  paid_later mid last ran keeps h = record {
    paid = all_later (prices_of (meaning_of mid.quota)) (prices_of (meaning_of last.quota)) ran.log (kept_prices (meaning_of mid.quota) (meaning_of last.quota) keeps) h.paid;
    attempts = h.attempts;
  }

  all_pay : (old new : ClientSet OwnClassifier OwnSlot) (runs : List Ran) → Chained (Runs OwnServed) old runs new → AllByRecursion (IsPaidFor (prices_of (meaning_of new.quota))) runs
  all_pay old new [] made = tt
  all_pay old new (ran ∷ runs) (mid, made, rest) = (paid_later mid new ran (runs_keep mid new runs rest) (one_pays old mid ran made), all_pay mid new runs rest)

  pub clients_pay : ClientsPay
  clients_pay script text outcome h =
      let plays = h.reports in
      let all = plays.runs in
      record {
        runs = all.runs;
        these = all.these;
        quota = h.last.quota;
        left = loads_of h.last;
        text_is = plays.text_is ∙ append_assoc plays.printed (buckets_of h.last) (loads_of h.last)
            ∙ ap (λ (t : List ℕ). t ++ (buckets_of h.last ++ loads_of h.last)) all.printed;
        prices = λ bucket. priced_so script.buckets h.first.quota h.last.quota (built_keep (quota_of script.buckets) h.first.quota h.opened.clients.described h.opened.clients.over)
            (runs_keep h.first h.last all.runs all.made) bucket (slice_get script.buckets bucket) refl;
        pay = all_pay h.first h.last all.runs all.made;
      }
