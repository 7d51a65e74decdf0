-- Whatever a client's parts answer, no cell is loading but that of the load that is open, and a choice is pending with its
-- source.
use Rattle.std.proofs.Common.{refl, sym, subst, [], ◌∷◌, Option, None, Some}
use Rattle.client_auth.specs.Identities.{rested}
use Rattle.client_auth.specs.declared.identities.CachedIdentities.{CachedIdentities}
use Rattle.identity_cell.specs.declared.identity_cache.SharedIdentityCache.TheVariants.{NoCache, Lazy}
use Rattle.outside.specs.Calls.{OutsideCall}
use Rattle.run_grammar.specs.Entry.{entry}
use Rattle.run_grammar.specs.declared.answer.Answer.{Answer}
use Rattle.run_grammar.specs.declared.answer.Answer.TheVariants as answers
use Rattle.run_grammar.specs.declared.kind.Abandonable.TheVariants as abandoned
use Rattle.run_grammar.specs.declared.kind.ConfigureStage.TheVariants as stages
use Rattle.run_grammar.specs.declared.question.Question.{Question}
use Rattle.run_grammar.specs.declared.question.Question.TheVariants as questions
use Rattle.client_components.specs.Resting.{Exchanges}
use Rattle.client_components.specs.Meaning.{ClientMeaning}
use Rattle.client_components.specs.Serving.{Answers}
use Rattle.client_components.specs.declared.parts.Parts.{Parts}
use Rattle.laws_client.specs.Questions.Loading.{BeginsAlone, LoadsAlone, LoadsStayAlone, NoneLoads, PendingChoicesAsked}
use Rattle.laws_client.proofs.questions.Answered.{last_served}
use Rattle.laws_client.proofs.questions.Pendings.{choice_alone, choice_pends}

still_at_rest : (cached : Option CachedIdentities) → NoneLoads (rested cached) → NoneLoads (rested (rested cached))
still_at_rest None h = h
still_at_rest (Some cached) h = h

pub begins_alone : {R : Type 0} → BeginsAlone R
begins_alone identities NoCache is = subst (λ c. NoneLoads (rested c)) (sym is) tt
begins_alone identities (Lazy terms) is = subst (λ c. NoneLoads (rested c)) (sym is) tt

abbrev IsAlone : {T X Q C I A R Z D P L : Type 0} → Parts T X Q C I A R Z D P L → Type 0
IsAlone parts = LoadsAlone parts.identities

-- of the outside's calls alone, which is all that an exchange is about
pub exchanged_alone : {T X Q C I A R Z D P L : Type 0} (makes : X → OutsideCall → X → Type 0) (old : Parts T X Q C I A R Z D P L) (outside : X) (quota : Q) (new : Parts T X Q C I A R Z D P L) (outside_after : X) (quota_after : Q)
    → IsAlone old → Exchanges makes old outside quota new outside_after quota_after → IsAlone new
exchanged_alone makes old outside quota new outside_after quota_after alone h =
    subst IsAlone (sym h.parts) (subst IsAlone (sym h.ends.others) (still_at_rest old.identities.cached alone))

module _ {T X Q C I A R Z D P L : Type 0} (means : ClientMeaning T X Q C I A R Z D P L) where
  alone_step : (old new : Parts T X Q C I A R Z D P L) (q : Question) (a : Answer) → IsAlone old → Answers means old q a new → IsAlone new
  alone_step old new (questions.Configure stages.Client settings) a s h = subst IsAlone (sym h.1.others) (still_at_rest old.identities.cached s)
  alone_step old new (questions.Configure stages.Operation settings) a s h = subst IsAlone (sym h.1) s
  alone_step old new (questions.Configure stages.Final settings) a s h = subst IsAlone (sym h.1) s
  alone_step old new (questions.Hook hook view) a s h = subst IsAlone (sym h.others) s
  alone_step old new (questions.Serialize input settings) a s h = subst IsAlone (sym h.1) s
  alone_step old new (questions.Load request) a s h = subst IsAlone (sym h.1) s
  alone_step old new (questions.Initial settings) a s h = subst IsAlone (sym h.others) s
  alone_step old new (questions.Start role nanos) a s h = subst IsAlone (sym h.1) s
  alone_step old new (questions.Wait role) a s h = subst IsAlone (sym h.1) s
  alone_step old new (questions.Choose settings) a s h =
      choice_alone means.names means.polls old.given.options old.given.schemes.items old.given.endpoint settings old.given.time_source old.identities.cached old.identities a new.identities h.calls refl s h.chooses
  alone_step old new (questions.Endpoint settings identity) a s h = subst IsAlone (sym h.1) s
  alone_step old new (questions.Apply settings request endpoint) a s h = subst IsAlone (sym h.1) s
  alone_step old new (questions.Sign settings request scheme identity endpoint) a s h = subst IsAlone (sym h.1) s
  alone_step old new (questions.Transmit settings request) a s h = subst IsAlone (sym h.1) s
  alone_step old new (questions.Stream settings response) a s h = subst IsAlone (sym h.1) s
  alone_step old new (questions.Body settings response) a s h = subst IsAlone (sym h.1) s
  alone_step old new (questions.Deserialize settings response) a s h = subst IsAlone (sym h.1) s
  alone_step old new (questions.Decide settings request response outcome attempt) a s h = subst IsAlone (sym h.others) s
  alone_step old new (questions.Abandon abandoned.Choose) a s h = subst IsAlone (sym h.2) (still_at_rest old.identities.cached s)
  alone_step old new (questions.Abandon _) a s h = subst IsAlone (sym h.2) s
  alone_step old new questions.Park a s h = subst IsAlone (sym h.2) s

  pub loads_alone : LoadsStayAlone means
  loads_alone old new [] alone same = subst IsAlone (sym same) alone
  loads_alone old new (e ∷ l) alone (next, serves, rest) = loads_alone next new l (alone_step old next e.question e.answer alone serves) rest

  pub pending_asked : PendingChoicesAsked means
  pending_asked old new before settings alone served =
      let at = last_served means before (entry (questions.Choose settings) answers.Pending) old new served in
      record {
        parts = at.0;
        served = at.1;
        calls = at.2.calls;
        made = at.2.made;
        pends = choice_pends means.names means.polls at.0.given.options at.0.given.schemes.items at.0.given.endpoint settings at.0.given.time_source at.0.identities.cached at.0.identities answers.Pending new.identities at.2.calls
            refl (loads_alone old at.0 before alone at.1) at.2.chooses refl;
      }
