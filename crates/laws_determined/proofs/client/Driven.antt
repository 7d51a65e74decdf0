-- How far a client's run is driven on is determined.
use Rattle.std.proofs.Common.{ℕ, ◌+◌, ◌≤◌, Bool, true, false, length, List, [], ◌∷◌, ◌++◌, ◌≡◌, ◌⊎◌, refl, sym, ap, ◌∙◌, subst, inl, inr, arith, append-nil, append_assoc, length-append}
use Rattle.std.proofs.lemmas.Bool.{false≢true}
use Rattle.client_components.specs.Meaning.{ClientMeaning}
use Rattle.client_components.specs.Serving.{Answers, Served}
use Rattle.client_components.specs.declared.parts.Parts.{Parts}
use Rattle.retry_quota.specs.Calls.{Limiters}
use Rattle.retry_quota.specs.Registers.{Registers}
use Rattle.run_driver.specs.Driving.{GoesPast, MakesNone, MakesOne, RunsThrough}
use Rattle.run_grammar.specs.Laws.{Begins, IsWhole}
use Rattle.run_grammar.specs.Standing.{State}
use Rattle.run_grammar.specs.declared.answer.Entry.{Entry}
use Rattle.smithy_types.specs.Chain.{Chained}
use Rattle.smithy_types.specs.declared.kinds.StopPoint.{StopPoint}
use Rattle.laws_determined.specs.Client.Alike.{PartsAlike}
use Rattle.laws_determined.specs.Client.Answering.{ArePlain, over_registers}
use Rattle.laws_determined.specs.Client.Driving.{Drives, DrivesAreDetermined, RegistersClient}
use Rattle.laws_determined.proofs.client.Served.{Fronts, fronts, left_alike, no_more}

same_rest : (a b c : List Entry) → a ++ b ≡ a ++ c → b ≡ c
same_rest [] b c is = is
same_rest (x ∷ a) b c is = same_rest a b c (cc is)

nothing_left : (a n : List Entry) → [] ≡ a ++ n → n ≡ []
nothing_left [] n is = sym is
nothing_left (x ∷ a) n is = absurd (cc is)

module _ {W T X C I A R Z D P L : Type 0} (bucket amount : P → ℕ) (limiters : Limiters L) (means : ClientMeaning T X (Registers L) C I A R Z D P L)
    (parts : W → Parts T X (Registers L) C I A R Z D P L) (log : W → List Entry) (parks : X → Bool) where
  abbrev Client : Type 0
  Client = Parts T X (Registers L) C I A R Z D P L

  abbrev Serves : Client → List Entry → Client → Type 0
  Serves old l new = Served (over_registers bucket amount limiters means) old l new

  abbrev relates : W → List Entry → W → Type 0
  relates old l new = Serves (parts old) l (parts new)

  abbrev parked : W → Bool
  parked w = parks (parts w).outside

  -- ---- what was asked along a stretch

  one_made : (old : W) (e : Entry) (new : W) → MakesOne log relates old e new → Answers (over_registers bucket amount limiters means) (parts old) e.question e.answer (parts new)
  one_made old e new made =
      let one : made.related.0 ≡ e ∷ [] = same_rest (log old) made.related.0 (e ∷ []) (sym made.related.1 ∙ made.grows) in
      let served : Serves (parts old) (e ∷ []) (parts new) = subst (λ l. Serves (parts old) l (parts new)) one (made.related.2 old [] refl) in
      subst (λ x. Answers (over_registers bucket amount limiters means) (parts old) e.question e.answer x) (sym served.2) served.1

  none_made : (old new : W) → MakesNone log relates old new → parts new ≡ parts old
  none_made old new made =
      let none : made.related.0 ≡ [] = same_rest (log old) made.related.0 [] (sym made.related.1 ∙ made.stays ∙ sym (append-nil (log old))) in
      subst (λ l. Serves (parts old) l (parts new)) none (made.related.2 old [] refl)

  last_awake : (l : List Entry) (old last : W) → parked old ≡ false → Chained (GoesPast log relates parked) old l last → parked last ≡ false
  last_awake [] old last awake same = ap parked same ∙ awake
  last_awake (e ∷ l) old last awake (mid, (made, past), rest) = last_awake l mid last past rest

  -- a run that never had to wait needn't wait at its end
  pub through_awake : (old new : W) → RunsThrough log relates parked old new → parked old ≡ false → parked new ≡ false
  through_awake old new through awake =
      ap (λ (p : Client). parks p.outside) (none_made through.last new through.ends) ∙ last_awake through.entries old through.last awake through.goes_past

  -- behind some of these entries, but not all, the run needn't wait
  abbrev Passes : Client → List Entry → Type 0
  Passes old entries = (a n : List Entry) → entries ≡ a ++ n → (n ≡ [] → ⊥) → (mid : Client) × Serves old a mid × (parks mid.outside ≡ false)

  record Walked (old new : W) : Type 0 where
    entries : List Entry
    served : Serves (parts old) entries (parts new)
    grows : log new ≡ log old ++ entries
    passes : Passes (parts old) entries

  passes_none : (old : Client) → Passes old []
  passes_none old a n is some = absurd (some (nothing_left a n is))

  passes_more : (old mid : Client) (e : Entry) (l : List Entry) → parks old.outside ≡ false → Answers (over_registers bucket amount limiters means) old e.question e.answer mid
      → Passes mid l → Passes old (e ∷ l)
  passes_more old mid e l awake this behind [] n is some = (old, refl, awake)
  passes_more old mid e l awake this behind (x ∷ a) n is some =
      let head : e ≡ x = cc is in
      let past = behind a n (cc is) some in
      (past.0, (mid, subst (λ (y : Entry). Answers (over_registers bucket amount limiters means) old y.question y.answer mid) head this, past.1), past.2)

  ended : (last new : W) → parked last ≡ false → (MakesNone log relates last new ⊎ ((one : Entry) × MakesOne log relates last one new)) → Walked last new
  ended last new awake (inl made) = record {
    entries = [];
    served = none_made last new made;
    grows = made.stays ∙ sym (append-nil (log last));
    passes = passes_none (parts last);
  }
  ended last new awake (inr (e, made)) =
      let this = one_made last e new made in
      record {
        entries = e ∷ [];
        served = (parts new, this, refl);
        grows = made.grows;
        passes = passes_more (parts last) (parts new) e [] awake this (passes_none (parts new));
      }

  walked : (l : List Entry) (old last new : W) → parked old ≡ false → Chained (GoesPast log relates parked) old l last → (MakesNone log relates last new ⊎ ((one : Entry) × MakesOne log relates last one new)) → Walked old new
  walked [] old last new awake same end = subst (λ w. Walked w new) same (ended last new (ap parked same ∙ awake) end)
  walked (e ∷ l) old last new awake (mid, (made, past), rest) end =
      let behind = walked l mid last new past rest end in
      let this = one_made old e mid made in
      record {
        entries = e ∷ behind.entries;
        served = (parts mid, this, behind.served);
        grows = behind.grows ∙ ap (λ k. k ++ behind.entries) made.grows ∙ append_assoc (log old) (e ∷ []) behind.entries;
        passes = passes_more (parts old) (parts mid) e behind.entries awake this behind.passes;
      }

  -- ---- two stretches from one place

  module _ (plain : ArePlain means) (stop : StopPoint) (begin : State) (fuel : ℕ) where
    -- one that needn't wait goes no further
    no_further : (front more : List Entry) (x : Entry) (n : List Entry) → (length front ≡ fuel) ⊎ IsWhole stop begin front → more ≡ front ++ x ∷ n → Begins stop begin more → length more ≤ fuel → ⊥
    no_further front more x n (inl full) is begins within =
        let long : length more ≡ length front + length (x ∷ n) = ap length is ∙ length-append front (x ∷ n) in omega (arith, full, long, within)
    no_further front more x n (inr whole) is begins within =
        let none : x ∷ n ≡ [] = no_more stop begin front (x ∷ n) whole (subst (Begins stop begin) is begins) in cc none

    module _ (old other new more : W) (alike : PartsAlike bucket amount (parts old) (parts other)) (logs : log old ≡ log other)
        (one : Drives (over_registers bucket amount limiters means) parts log parks stop begin fuel old new) (two : Drives (over_registers bucket amount limiters means) parts log parks stop begin fuel other more) where
      abbrev Same : Type 0
      Same = (log new ≡ log more) × PartsAlike bucket amount (parts new) (parts more)

      module _ (first : Walked old new) (second : Walked other more) where
        same_log : (n : List Entry) → first.entries ≡ second.entries ++ n → log new ≡ log more ++ n
        same_log n is = first.grows ∙ (λ i. logs i ++ is i) ∙ sym (append_assoc (log other) second.entries n) ∙ ap (λ l. l ++ n) (sym second.grows)

        same_other : (n : List Entry) → second.entries ≡ first.entries ++ n → log more ≡ log new ++ n
        same_other n is = second.grows ∙ (λ i. sym logs i ++ is i) ∙ sym (append_assoc (log old) first.entries n) ∙ ap (λ l. l ++ n) (sym first.grows)

        met : Fronts first.entries second.entries → Same
        met (inl ([], is)) =
            let same : second.entries ≡ first.entries = is ∙ append-nil first.entries in (
              sym (same_other [] is ∙ append-nil (log new)),
              left_alike bucket amount limiters means plain first.entries (parts old) (parts other) (parts new) (parts more) alike first.served (subst (λ l. Serves (parts other) l (parts more)) same second.served),
            )
        met (inl (x ∷ n, is)) = absurd (elim one.stops [
          | inl parked ↦
              let past = second.passes first.entries (x ∷ n) is (λ none. cc none) in
              let left = left_alike bucket amount limiters means plain first.entries (parts old) (parts other) (parts new) past.0 alike first.served past.1 in
              false≢true (sym past.2 ∙ sym (ap parks left.outside) ∙ parked)
          | inr over ↦ no_further (log new) (log more) x n over (same_other (x ∷ n) is) two.begins two.within
        ])
        met (inr ([], is)) =
            let same : first.entries ≡ second.entries = is ∙ append-nil second.entries in (
              same_log [] is ∙ append-nil (log more),
              left_alike bucket amount limiters means plain second.entries (parts old) (parts other) (parts new) (parts more) alike (subst (λ l. Serves (parts old) l (parts new)) same first.served) second.served,
            )
        met (inr (x ∷ n, is)) = absurd (elim two.stops [
          | inl parked ↦
              let past = first.passes second.entries (x ∷ n) is (λ none. cc none) in
              let left = left_alike bucket amount limiters means plain second.entries (parts old) (parts other) past.0 (parts more) alike past.1 second.served in
              false≢true (sym past.2 ∙ ap parks left.outside ∙ parked)
          | inr over ↦ no_further (log more) (log new) x n over (same_log (x ∷ n) is) one.begins one.within
        ])

        joined : Same
        joined =
            met (fronts bucket amount limiters means plain stop begin (log old) first.entries second.entries (parts old) (parts other) (parts new) (parts more) alike
            (subst (Begins stop begin) first.grows one.begins) (subst (Begins stop begin) (second.grows ∙ ap (λ l. l ++ second.entries) (sym logs)) two.begins) first.served second.served)

      pub driven_once : parked old ≡ false → Same
      driven_once awake =
          joined (walked one.stretches.entries old one.stretches.last new awake one.stretches.goes_past one.stretches.ends)
          (walked two.stretches.entries other two.stretches.last more (ap parks (sym alike.outside) ∙ awake) two.stretches.goes_past two.stretches.ends)

module _ {T X C I A R Z D P L : Type 0} (bucket amount : P → ℕ) (limiters : Limiters L) (means : ClientMeaning T X (Registers L) C I A R Z D P L) where
  pub drives_once : DrivesAreDetermined bucket amount limiters means
  drives_once plain parks stop begin fuel old other new more alike logs awake one two =
      driven_once bucket amount limiters means (λ (c : RegistersClient T X C I A R Z D P L). c.parts) (λ (c : RegistersClient T X C I A R Z D P L). c.log) parks plain stop begin fuel
      old other new more alike logs one two awake
