-- Between two invocations: an outside and a quota go into a client, and come back.
use Rattle.std.proofs.Common.{◌≡◌, ◌∙◌, refl, sym, ap, subst, ℕ}
use Rattle.client_auth.specs.Identities.{at_rest}
use Rattle.client_call.specs.Sleeping.{no_sleeps}
use Rattle.client_call.specs.declared.call.Call.TheVariants.{Idle}
use Rattle.client_components.specs.Resting.{Exchanges}
use Rattle.client_components.specs.Meaning.{ClientMeaning}
use Rattle.client_components.specs.declared.parts.Parts.{Parts}
use Rattle.retry_quota.specs.Calls.{Limiters}
use Rattle.retry_quota.specs.Registers.{Registers}
use Rattle.run_grammar.specs.declared.answer.Answer.TheVariants as answers
use Rattle.laws_determined.specs.Auth.Alike.{IdentitiesAlike}
use Rattle.laws_determined.specs.Client.Alike.{GivenAlike, PartsAlike}
use Rattle.laws_determined.specs.Client.Answering.{ArePlain}
use Rattle.laws_determined.proofs.client.Answered.{ends_alike}
use Rattle.laws_determined.proofs.client.Sleeping.{rest_alike}
use Rattle.laws_determined.specs.Retries.Alike.{AreAlike, HoldAlike}

module _ {T X C I A R Z D P L : Type 0} (bucket amount : P → ℕ) where
  -- alike but for the outside and the quota that each has of its own, and for what is open
  pub record RestAlike (one two : Parts T X (Registers L) C I A R Z D P L) : Type 0 where
    pub given : GivenAlike one.given two.given
    pub strategy : HoldAlike bucket amount one.strategy two.strategy
    pub interceptors : one.interceptors.items ≡ two.interceptors.items
    pub identities : IdentitiesAlike one.identities two.identities

module _ {T X C I A R Z D P L : Type 0} (bucket amount : P → ℕ) (limiters : Limiters L) (means : ClientMeaning T X (Registers L) C I A R Z D P L) where
  abbrev Client : Type 0
  Client = Parts T X (Registers L) C I A R Z D P L

  -- the client at rest over this outside and this quota
  abbrev over : Client → X → Registers L → Client
  over old outside quota = record old { sleeps = no_sleeps; call = Idle; identities = at_rest old.identities; outside = outside; quota = quota }

  entered_is : (old new : Client) (outside own : X) (quota kept : Registers L) → Exchanges means.makes old outside quota new own kept → new ≡ over old outside quota
  entered_is old new outside own quota kept h = h.parts ∙ ap (λ (p : Client). record p { outside = outside; quota = quota }) h.ends.others

  -- one outside and registers that are alike go into clients that are alike at rest
  pub enters : (old other new more : Client) (outside out own kept : X) (quota given mine yours : Registers L) → RestAlike bucket amount old other → outside ≡ out → AreAlike quota given
      → Exchanges means.makes old outside quota new own mine → Exchanges means.makes other out given more kept yours → PartsAlike bucket amount new more
  enters old other new more outside out own kept quota given mine yours alike same quotas s t =
      subst (λ x. PartsAlike bucket amount x more) (sym (entered_is old new outside own quota mine s))
      (subst (λ x. PartsAlike bucket amount (over old outside quota) x) (sym (entered_is other more out kept given yours t)) (record {
        given = alike.given;
        sleeps = refl;
        call = tt;
        strategy = alike.strategy;
        interceptors = alike.interceptors;
        identities = rest_alike old.identities other.identities alike.identities;
        outside = same;
        quota = quotas;
      }))

  -- what comes back, and what stays
  pub record LeftAlike (new more : Client) (left too : X) (rest also : Registers L) : Type 0 where
    pub parts : RestAlike bucket amount new more
    pub outside : left ≡ too
    pub quota : AreAlike rest also

  pub leaves : ArePlain means → (old other new more : Client) (own kept left too : X) (mine yours rest also : Registers L) → PartsAlike bucket amount old other
      → Exchanges means.makes old own mine new left rest → Exchanges means.makes other kept yours more too also → LeftAlike new more left too rest also
  leaves plain old other new more own kept left too mine yours rest also alike s t =
      let ended = ends_alike bucket amount limiters means plain old other s.ended t.ended answers.Absent answers.Absent alike s.ends t.ends in
      record {
        parts = subst (λ x. RestAlike bucket amount x more) (sym s.parts) (subst (λ x. RestAlike bucket amount (record (s.ended) { outside = own; quota = mine }) x) (sym t.parts) (record {
          given = ended.given;
          strategy = ended.strategy;
          interceptors = ended.interceptors;
          identities = ended.identities;
        }));
        outside = s.outside_is ∙ (ended.outside ∙ sym t.outside_is);
        quota = subst (λ x. AreAlike x also) (sym s.quota_is) (subst (λ x. AreAlike (s.ended).quota x) (sym t.quota_is) ended.quota);
      }
