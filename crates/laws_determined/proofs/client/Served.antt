-- What a client serves of an operation is determined.
use Rattle.std.proofs.Common.{ℕ, ◌≤◌, length, List, [], ◌∷◌, ◌++◌, ◌≡◌, ◌⊎◌, refl, sym, ap, ◌∙◌, subst, inl, inr, arith, append-nil, append_assoc, length-append}
use Rattle.client_components.specs.Meaning.{ClientMeaning}
use Rattle.client_components.specs.Serving.{Answers, Served}
use Rattle.client_components.specs.declared.parts.Parts.{Parts}
use Rattle.orchestrate.specs.SpelledRuns.{IsRunWithin}
use Rattle.retry_quota.specs.Calls.{Limiters}
use Rattle.retry_quota.specs.Registers.{Registers}
use Rattle.run_grammar.proofs.TheLaws.{no_prefix_law, one_question_law}
use Rattle.run_grammar.specs.Entry.{entry}
use Rattle.run_grammar.specs.Laws.{Begins, IsWhole}
use Rattle.run_grammar.specs.Standing.{State}
use Rattle.run_grammar.specs.declared.answer.Answer.TheVariants as answers
use Rattle.run_grammar.specs.declared.answer.Entry.{Entry}
use Rattle.smithy_types.specs.declared.kinds.StopPoint.{StopPoint}
use Rattle.laws_determined.specs.Retries.Alike.{AreAlike}
use Rattle.laws_determined.specs.Client.Alike.{PartsAlike}
use Rattle.laws_determined.specs.Client.Answering.{ArePlain, over_registers}
use Rattle.laws_determined.specs.Client.Exchanging.{ExchangesAreDetermined}
use Rattle.laws_determined.specs.Client.Serving.{RunsAreDetermined}
use Rattle.laws_determined.proofs.client.Answered.{answer_once, ends_alike}

same_entry : (e f : Entry) → e.question ≡ f.question → e.answer ≡ f.answer → e ≡ f
same_entry e f p q = subst (λ x. e ≡ entry x f.answer) p (subst (λ a. e ≡ entry e.question a) q refl)

-- ---- two lists from one beginning, of which one goes on where the other ends

begins_front : (stop : StopPoint) (s : State) (a b : List Entry) → Begins stop s (a ++ b) → Begins stop s a
begins_front stop s a b (n, w) = (b ++ n, subst (λ l. IsWhole stop s l) (append_assoc a b n) w)

abbrev pub Fronts : List Entry → List Entry → Type 0
Fronts l m = ((n : List Entry) × (m ≡ l ++ n)) ⊎ ((n : List Entry) × (l ≡ m ++ n))

fronts_more : (e f : Entry) (l m : List Entry) → e ≡ f → Fronts l m → Fronts (e ∷ l) (f ∷ m)
fronts_more e f l m h (inl (n, g)) = inl (n, subst (λ x. x ∷ m ≡ e ∷ (l ++ n)) h (ap (λ x. e ∷ x) g))
fronts_more e f l m h (inr (n, g)) = inr (n, subst (λ x. e ∷ l ≡ x ∷ (m ++ n)) h (ap (λ x. e ∷ x) g))

front_nil : (a b : List Entry) → a ++ b ≡ [] → a ≡ []
front_nil [] b e = refl
front_nil (x ∷ a) b e = absurd (cc e)

module _ (stop : StopPoint) (s : State) where
  pub no_more : (l n : List Entry) → IsWhole stop s l → Begins stop s (l ++ n) → n ≡ []
  no_more l n w (k, v) = front_nil n k (no_prefix_law stop s l (n ++ k) w (subst (IsWhole stop s) (append_assoc l n k) v))

  begins_within : (fuel : ℕ) (l : List Entry) → IsRunWithin stop s fuel l → Begins stop s l
  begins_within fuel l (inl (h, w)) = ([], subst (IsWhole stop s) (sym (append-nil l)) w)
  begins_within fuel l (inr (h, b, n)) = b

  longer_nil : (l n : List Entry) (fuel : ℕ) → length l ≡ fuel → length (l ++ n) ≤ fuel → n ≡ []
  longer_nil l [] fuel h g = refl
  longer_nil l (x ∷ n) fuel h g = absurd (let e = length-append l (x ∷ n) in omega (arith, e, h, g))

  within : (fuel : ℕ) (l : List Entry) → IsRunWithin stop s fuel l → length l ≤ fuel
  within fuel l (inl (h, w)) = h
  within fuel l (inr (h, b, n)) = omega (arith, h)

  ends_there : (fuel : ℕ) (l n : List Entry) → IsRunWithin stop s fuel l → IsRunWithin stop s fuel (l ++ n) → n ≡ []
  ends_there fuel l n (inl (h, w)) r = no_more l n w (begins_within fuel (l ++ n) r)
  ends_there fuel l n (inr (h, b, i)) r = longer_nil l n fuel h (within fuel (l ++ n) r)

  joined : (fuel : ℕ) (l m : List Entry) → IsRunWithin stop s fuel l → IsRunWithin stop s fuel m → Fronts l m → l ≡ m
  joined fuel l m r q (inl (n, e)) =
      let h = ends_there fuel l n r (subst (IsRunWithin stop s fuel) e q) in
      sym (e ∙ ap (λ x. l ++ x) h ∙ append-nil l)
  joined fuel l m r q (inr (n, e)) =
      let h = ends_there fuel m n q (subst (IsRunWithin stop s fuel) e r) in
      e ∙ ap (λ x. m ++ x) h ∙ append-nil m

-- ---- served lists

module _ {T X C I A R Z D P L : Type 0} (bucket amount : P → ℕ) (limiters : Limiters L) (means : ClientMeaning T X (Registers L) C I A R Z D P L) (plain : ArePlain means) where
  abbrev Client : Type 0
  Client = Parts T X (Registers L) C I A R Z D P L

  abbrev Serves : Client → List Entry → Client → Type 0
  Serves old l new = Served (over_registers bucket amount limiters means) old l new

  -- the same list leaves parts that are alike
  pub left_alike : (l : List Entry) (old other new more : Client) → PartsAlike bucket amount old other → Serves old l new → Serves other l more → PartsAlike bucket amount new more
  left_alike [] old other new more alike s t = subst (λ x. PartsAlike bucket amount x more) (sym s) (subst (λ x. PartsAlike bucket amount old x) (sym t) alike)
  left_alike (e ∷ l) old other new more alike (mid, this, rest) (away, that, later) =
      left_alike l mid away new more (answer_once bucket amount limiters means plain e.question old other mid away e.answer e.answer alike this that).1 rest later

  module _ (stop : StopPoint) (s : State) where
    pub fronts : (k l m : List Entry) (old other new more : Client) → PartsAlike bucket amount old other → Begins stop s (k ++ l) → Begins stop s (k ++ m) → Serves old l new → Serves other m more → Fronts l m
    fronts k [] m old other new more alike b c u v = inl (m, refl)
    fronts k (e ∷ l) [] old other new more alike b c u v = inr (e ∷ l, refl)
    fronts k (e ∷ l) (f ∷ m) old other new more alike b c (mid, this, rest) (away, that, later) =
        let b1 = subst (Begins stop s) (sym (append_assoc k (e ∷ []) l)) b in
        let c1 = subst (Begins stop s) (sym (append_assoc k (f ∷ []) m)) c in
        let q = one_question_law stop s k e f (begins_front stop s (k ++ e ∷ []) l b1) (begins_front stop s (k ++ f ∷ []) m c1) in
        let met = answer_once bucket amount limiters means plain e.question old other mid away e.answer f.answer alike this
        (subst (λ x. Answers (over_registers bucket amount limiters means) other x f.answer away) (sym q) that) in
        let h = same_entry e f q met.0 in
        fronts_more e f l m h
        (fronts (k ++ e ∷ []) l m mid away new more met.1 b1 (subst (λ z. Begins stop s ((k ++ z ∷ []) ++ m)) (sym h) c1) rest later)

pub runs_once : {T X C I A R Z D P L : Type 0} (bucket amount : P → ℕ) (limiters : Limiters L) (means : ClientMeaning T X (Registers L) C I A R Z D P L) → RunsAreDetermined bucket amount limiters means
runs_once bucket amount limiters means plain stop begin fuel old other new more l m alike r q s t =
    let same = joined stop begin fuel l m r q
    (fronts bucket amount limiters means plain stop begin [] l m old other new more alike (begins_within stop begin fuel l r) (begins_within stop begin fuel m q) s t) in
    (same, left_alike bucket amount limiters means plain m old other new more alike (subst (λ x. Served (over_registers bucket amount limiters means) old x new) same s) t)

pub exchanges_once : {T X C I A R Z D P L : Type 0} (bucket amount : P → ℕ) (means : ClientMeaning T X (Registers L) C I A R Z D P L) → ExchangesAreDetermined bucket amount means
exchanges_once bucket amount means plain old other new more outside out too quota given left also alike quotas s t =
    let ended = ends_alike bucket amount means.quota.limiters means plain old other s.ended t.ended answers.Absent answers.Absent alike s.ends t.ends in (
      subst (λ x. PartsAlike bucket amount x more) (sym s.parts) (subst (λ x. PartsAlike bucket amount (record (s.ended) { outside = outside; quota = quota }) x) (sym t.parts) (record {
        given = ended.given;
        sleeps = ended.sleeps;
        call = ended.call;
        strategy = ended.strategy;
        interceptors = ended.interceptors;
        identities = ended.identities;
        outside = refl;
        quota = quotas;
      })),
      s.outside_is ∙ (ended.outside ∙ sym t.outside_is),
      subst (λ x. AreAlike x also) (sym s.quota_is) (subst (λ x. AreAlike (s.ended).quota x) (sym t.quota_is) ended.quota),
    )
