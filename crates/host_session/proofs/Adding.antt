-- The classifier for delays is put behind a client's own.
use Rattle.std.proofs.Common.{◌≡◌, ◌∙◌, sym, ap, List, [], ◌∷◌, ◌++◌, length, Option, map, append_assoc, append-nil}
use Rattle.std.proofs.lemmas.List.{nil_from_length}
use Rattle.std.specs.Prelude.{Vec}
use Rattle.std.specs.declared.alloc.Global.{Global}
use Rattle.client_components.specs.declared.parts.Parts.{Parts}
use Rattle.client_components.specs.declared.world.RuntimeComponents.{RuntimeComponents}
use Rattle.run_grammar.specs.declared.answer.Entry.{Entry}
use Rattle.host_session.specs.Classifiers.{AddsRetryAfter, classifiers_with, with_classifiers}
use Rattle.host_session.specs.declared.service.classifier.HostedClassifier.{HostedClassifier}
use Rattle.host_session.specs.declared.service.classifier.HostedClassifier.TheVariants.{Own}
use Rattle.host_session.specs.declared.service.retry_after.RetryAfterClassifier.{RetryAfterClassifier}

-- none of a client's own is moved yet
pub begun : {C : Type 0} (front : List (HostedClassifier C)) (left own : List C) → left ≡ own →
    front ++ map Own left ≡ front ++ map Own own
begun front left own e = ap (λ l. front ++ map Own l) e

-- one more is moved
pub moved : {C : Type 0} (front more all : List (HostedClassifier C)) (old new : List C) (x : C) →
    more ≡ front ++ Own x ∷ [] → old ≡ x ∷ new → front ++ map Own old ≡ all → more ++ map Own new ≡ all
moved front more all old new x grown e h =
    ap (λ l. l ++ map Own new) grown ∙ append_assoc front (Own x ∷ []) (map Own new)
    ∙ sym (ap (λ l. front ++ map Own l) e) ∙ h

-- none is left
pub ended : {C : Type 0} (now all : List (HostedClassifier C)) (left : List C) → length left ≡ 0 →
    now ++ map Own left ≡ all → now ≡ all
ended now all left none h =
    sym (append-nil now) ∙ sym (ap (λ l. now ++ map Own l) (nil_from_length left none)) ∙ h

-- a client of a client's parts, with these classifiers
pub adds : {T U X Q C I A R Z D P L : Type 0} (client : RuntimeComponents T X Q C I A R Z D P L)
    (parts : Parts T X Q C I A R Z D P L) (list : Vec (HostedClassifier C) Global) (log : List Entry)
    (retry_after : Option RetryAfterClassifier) → parts ≡ client.parts →
    list.items ≡ classifiers_with parts.given.classifiers.items retry_after → log ≡ [] →
    AddsRetryAfter {U = U} retry_after client (record { parts = with_classifiers list parts; log = log })
adds client parts list log retry_after e f none = record {
  classifiers = f ∙ ap (λ (p : Parts _ _ _ _ _ _ _ _ _ _ _). classifiers_with p.given.classifiers.items retry_after) e;
  others = ap (with_classifiers list) e;
  log = none;
}
