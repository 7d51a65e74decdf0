-- The invocations of a script's clients are determined.
use Rattle.std.proofs.Common.{◌≡◌, ◌∙◌, refl, sym, subst, ◌+◌, List, [], ◌∷◌, map}
use Rattle.std.proofs.lemmas.List.Sums.{sum_by-cons}
use Rattle.std.specs.Prelude.{slice_set}
use Rattle.client_auth.specs.Identities.{loads_of}
use Rattle.cli_client_runs.specs.Means.{ServedBy}
use Rattle.cli_client_runs.specs.Running.{InvokedIn, Ran, Runs, loads_in}
use Rattle.cli_client_runs.specs.declared.set.ClientSet.{ClientSet}
use Rattle.json_scripts.specs.declared.client.terms.InvocationRecord.{InvocationRecord}
use Rattle.client_retries.specs.Meanings.{InterceptorMeans}
use Rattle.run_grammar.specs.declared.answer.Entry.{Entry}
use Rattle.json_print.specs.declared.ending.Ending.{Ending}
use Rattle.client_scripted.specs.declared.client.ScriptedClient.{ScriptedClient}
use Rattle.smithy_context.specs.declared.context.InterceptorContext.{InterceptorContext}
use Rattle.smithy_types.specs.Chain.{Chained}
use Rattle.smithy_types.specs.declared.notes.RetryAction.{RetryAction}
use Rattle.laws_determined.specs.Retries.Alike.{AreAlike}
use Rattle.laws_determined.specs.Retries.Kinds.{RunsAlike}
use Rattle.laws_program.proofs.clients.Each.{EachAlike, found_alike, set_alike}
use Rattle.laws_program.proofs.clients.Invoked.{ClientsAlike, invoked_once}

abbrev pub asked : Ran → InvocationRecord
asked r = r.invocation

same_ran : (r q : Ran) → r.invocation ≡ q.invocation → r.log ≡ q.log → r.ending ≡ q.ending → r ≡ q
same_ran r q a b c = λ i. record { invocation = a i; log = b i; ending = c i }

module _ {C I : Type 0} where
  -- of clients that are each alike as many loads were begun
  pub loads_alike : (ones twos : List (ScriptedClient C I)) → EachAlike ClientsAlike ones twos → loads_in ones ≡ loads_in twos
  loads_alike [] [] alike = refl
  loads_alike [] (y ∷ ys) alike = absurd alike
  loads_alike (x ∷ xs) [] alike = absurd alike
  loads_alike (x ∷ xs) (y ∷ ys) alike =
      let loads = λ (c : ScriptedClient C I). loads_of c.world.parts.identities.cached in
      sum_by-cons loads x xs ∙ ((λ i. loads_of (alike.0.parts.identities.cached i) + loads_alike xs ys alike.1 i) ∙ sym (sum_by-cons loads y ys))

  -- clients over one outside and registers that are alike
  pub record SetsAlike (one two : ClientSet C I) : Type 0 where
    pub outside : one.outside ≡ two.outside
    pub quota : AreAlike one.quota two.quota
    pub clients : EachAlike ClientsAlike one.clients.items two.clients.items

  -- ---- one of them is invoked

  record OneIn (log other : List Entry) (ending last : Ending) (new more : ClientSet C I) : Type 0 where
    log_is : log ≡ other
    ending_is : ending ≡ last
    sets : SetsAlike new more

  module _ (says : C → InterceptorContext → RetryAction → RetryAction) (chain : InterceptorMeans I) (runs : RunsAlike chain.runs) where
    invoked_in : (i : InvocationRecord) (old two new more : ClientSet C I) (log other : List Entry) (ending last : Ending) → SetsAlike old two
        → InvokedIn (ServedBy says chain) old i log ending new → InvokedIn (ServedBy says chain) two i other last more → OneIn log other ending last new more
    invoked_in i old two new more log other ending last alike s t =
        let met = invoked_once says chain runs i s.client t.client s.after t.after old.outside two.outside new.outside more.outside old.quota two.quota new.quota more.quota log other ending last
        (found_alike ClientsAlike old.clients.items two.clients.items i.client s.client t.client alike.clients s.there t.there) alike.outside alike.quota s.invoked t.invoked in
        record {
          log_is = met.log_is;
          ending_is = met.ending_is;
          sets = record {
            outside = met.outside;
            quota = met.quota;
            clients = subst (λ l. EachAlike ClientsAlike l more.clients.items) (sym s.clients)
                (subst (λ l. EachAlike ClientsAlike (slice_set old.clients.items i.client s.after) l) (sym t.clients)
                (set_alike ClientsAlike old.clients.items two.clients.items i.client s.after t.after alike.clients met.clients));
          };
        }

    abbrev Make : ClientSet C I → List Ran → ClientSet C I → Type 0
    Make = Chained (Runs (ServedBy says chain))

    -- the same invocations come to the same runs, and leave clients that are alike
    pub ran_once : (rs qs : List Ran) (old two new more : ClientSet C I) → SetsAlike old two → map asked rs ≡ map asked qs → Make old rs new → Make two qs more → (rs ≡ qs) × SetsAlike new more
    ran_once [] [] old two new more alike same s t = (refl, subst (λ x. SetsAlike x more) (sym s) (subst (λ x. SetsAlike old x) (sym t) alike))
    ran_once [] (q ∷ qs) old two new more alike same s t = absurd (cc same)
    ran_once (r ∷ rs) [] old two new more alike same s t = absurd (cc same)
    ran_once (r ∷ rs) (q ∷ qs) old two new more alike same (mid, this, rest) (away, that, later) =
        let head : r.invocation ≡ q.invocation = cc same in
        let tail : map asked rs ≡ map asked qs = cc same in
        let met = invoked_in r.invocation old two mid away r.log q.log r.ending q.ending alike this (subst (λ i. InvokedIn (ServedBy says chain) two i q.log q.ending away) (sym head) that) in
        let others = ran_once rs qs mid away new more met.sets tail rest later in
        ((λ i. same_ran r q head met.log_is met.ending_is i ∷ others.0 i), others.1)
