-- An invocation of a client is determined.
use Rattle.std.proofs.Common.{◌≡◌, ◌∙◌, sym, ap, subst, ℕ, List, []}
use Rattle.cli_client_runs.specs.Invoking.{Invoked, begun, head_by}
use Rattle.cli_client_runs.specs.Means.{ServedBy, client_means}
use Rattle.json_scripts.specs.declared.client.terms.InvocationRecord.{InvocationRecord}
use Rattle.rate_limit.specs.Pace.{Pace, pace_from}
use Rattle.rate_limit.specs.Steps.{after_acquire, after_update, reply_to}
use Rattle.client_retries.specs.Meanings.{InterceptorMeans}
use Rattle.retry_quota.specs.Calls.{Limiters, limiters_by}
use Rattle.retry_quota.specs.Registers.{Registers}
use Rattle.retry_quota.specs.declared.permit.Permit.{Permit}
use Rattle.run_grammar.specs.Standing.{start}
use Rattle.run_grammar.specs.declared.answer.Entry.{Entry}
use Rattle.json_print.specs.Endings.{EndsBy}
use Rattle.json_print.specs.declared.ending.Ending.{Ending}
use Rattle.outside_scripted.specs.declared.scripted_outside.ScriptedOutside.{ScriptedOutside}
use Rattle.client_scripted.specs.declared.client.ScriptedClient.{ScriptedClient}
use Rattle.smithy_context.specs.declared.context.InterceptorContext.{InterceptorContext}
use Rattle.smithy_types.specs.declared.notes.RetryAction.{RetryAction}
use Rattle.laws_determined.proofs.client.Served.{runs_once}
use Rattle.laws_program.proofs.runs.Parts.{plain}
use Rattle.laws_determined.specs.Retries.Alike.{AreAlike}
use Rattle.laws_determined.specs.Retries.Kinds.{RunsAlike}
use Rattle.json_print.proofs.determined.Endings.{one_ending, run_of}
use Rattle.laws_program.proofs.clients.Resting.{RestAlike, enters, leaves}

-- the bucket and the amount of a permit, and what limiters do
abbrev pub pays_from : Permit → ℕ
pays_from permit = permit.bucket

abbrev pub pays : Permit → ℕ
pays permit = permit.amount

abbrev pub paces : Limiters Pace
paces = limiters_by pace_from after_acquire reply_to after_update

module _ {C I : Type 0} where
  -- two clients of scripts at rest
  pub record ClientsAlike (one two : ScriptedClient C I) : Type 0 where
    pub parts : RestAlike pays_from pays one.world.parts two.world.parts
    pub identities : one.identities ≡ two.identities

  -- there was one invocation, and what is left is alike
  pub record OneInvocation (log other : List Entry) (ending last : Ending) (new more : ScriptedClient C I) (left too : ScriptedOutside) (rest also : Registers Pace) : Type 0 where
    pub log_is : log ≡ other
    pub ending_is : ending ≡ last
    pub clients : ClientsAlike new more
    pub outside : left ≡ too
    pub quota : AreAlike rest also

  module _ (says : C → InterceptorContext → RetryAction → RetryAction) (chain : InterceptorMeans I) (runs : RunsAlike chain.runs) where
    pub invoked_once : (i : InvocationRecord) (old two new more : ScriptedClient C I) (outside out left too : ScriptedOutside) (quota given rest also : Registers Pace) (log other : List Entry) (ending last : Ending)
        → ClientsAlike old two → outside ≡ out → AreAlike quota given
        → Invoked (ServedBy says chain) old outside quota i log ending new left rest → Invoked (ServedBy says chain) two out given i other last more too also
        → OneInvocation log other ending last new more left too rest also
    invoked_once i old two new more outside out left too quota given rest also log other ending last alike same quotas s t =
        let met = enters pays_from pays paces (client_means says chain) old.world.parts two.world.parts s.entered.parts t.entered.parts
        (begun i.responses old.identities outside) (begun i.responses two.identities out) s.own_outside t.own_outside quota given s.own_quota t.own_quota
        alike.parts (λ k. begun i.responses (alike.identities k) (same k)) quotas s.enters t.enters in
        let ran = runs_once pays_from pays paces (client_means says chain) (plain says chain runs) i.stop (start i.input) i.fuel s.entered.parts t.entered.parts s.served.parts t.served.parts log other
        met (run_of (head_by i) i.stop log ending s.ends) (run_of (head_by i) i.stop other last t.ends) s.serves t.serves in
        let gone = leaves pays_from pays paces (client_means says chain) (plain says chain runs) s.served.parts t.served.parts new.world.parts more.world.parts
        s.own_outside t.own_outside left too s.own_quota t.own_quota rest also ran.1 s.leaves t.leaves in
        record {
          log_is = ran.0;
          ending_is = one_ending (head_by i) i.stop other ending last (subst (λ l. EndsBy (head_by i) i.stop [] l ending) ran.0 s.ends) t.ends;
          clients = record {
            parts = gone.parts;
            identities = ap (λ (c : ScriptedClient C I). c.identities) s.others ∙ (alike.identities ∙ sym (ap (λ (c : ScriptedClient C I). c.identities) t.others));
          };
          outside = gone.outside;
          quota = gone.quota;
        }
