-- Calls that are followed along the grammar.
use Rattle.std.proofs.Common.{Bool, false, true, ℕ, suc, ◌+◌, ◌<◌, ◌≤◌, length, drop, get_or, drop-cons, add-one, Option, List, [], ◌∷◌, ◌++◌, ◌≡◌, ◌↔◌, refl, sym, ap, ◌∙◌, subst, None, Some, append_assoc}
use Rattle.std.proofs.lemmas.List.{append-nil, drop_all}
use Rattle.run_grammar.proofs.Finishing.{asked_kind}
use Rattle.run_grammar.proofs.Spots.{standing-append}
use Rattle.run_grammar.specs.Change.{changed}
use Rattle.run_grammar.specs.Entry.{entry, kind_of}
use Rattle.run_grammar.specs.Fits.{fits}
use Rattle.run_grammar.specs.Grammar.{run}
use Rattle.run_grammar.specs.Laws.{EachFits, IsRun, IsWhole}
use Rattle.run_grammar.specs.Machine.{Accepts, Asks, Position, Whole, begin, next}
use Rattle.run_grammar.specs.Question.{nanos_of}
use Rattle.run_grammar.specs.Standing.{State, WellHanded, asked, asks, standing, start, starting, step}
use Rattle.run_grammar.specs.declared.answer.Answer.{Answer}
use Rattle.run_grammar.specs.declared.answer.Entry.{Entry}
use Rattle.run_grammar.specs.declared.kind.Kind.{Kind}
use Rattle.run_grammar.specs.declared.question.Question.{Question}
use Rattle.run_grammar.specs.declared.standing.Standing.{Standing}
use Rattle.runcheck.specs.Reading.Places.{position_of}
use Rattle.runcheck.specs.declared.reading.walk.Walk.{Walk}
use Rattle.smithy_types.specs.declared.kinds.StopPoint.{StopPoint}
use Rattle.smithy_types.specs.declared.payload.Payload.{Payload}
use Rattle.runcheck.specs.Follow.{after_call, call_of, calls_of, entry_of, log_of}
use Rattle.runcheck.specs.Taken.{Taken}
use Rattle.runcheck.specs.declared.told.Call.{Call}

-- each call is asked for and its answer fits, and then nothing is left to ask
abbrev pub Goes : Position → Standing → List Call → Type 0
Goes p s [] = p ≡ Whole
Goes p s (c ∷ cs) = Asks p c.kind × (fits c.kind c.answer ≡ true) × Goes (next p (after_call s c) (entry_of s c)) (after_call s c).context cs

kind_back : (s : Standing) (c : Call) → kind_of (entry_of s c) ≡ c.kind
unfolding asked
kind_back s c = asked_kind c.kind (record { context = s; last = None })

-- what stands after a call took its answer in
pub entered : (s t : Standing) (c : Call) (q : Question) (n : Option ℕ) → q ≡ asks c.kind s → n ≡ nanos_of q → t ≡ changed c.kind n c.answer s → t ≡ (after_call s c).context
unfolding step
entered s t c q n e f h =
    h ∙ ap (λ m. changed c.kind m c.answer s) (f ∙ ap nanos_of e) ∙ ap (λ k. changed k (nanos_of (asks c.kind s)) c.answer s) (sym (kind_back s c))

pub handed : (cs : List Call) (s : State) → WellHanded s (log_of s.context cs)
unfolding asked step
handed [] s = tt
handed (c ∷ cs) s = (ap (λ k. asks k s.context) (sym (kind_back s.context c)), handed cs (step s (entry_of s.context c)))

pub accepted : (cs : List Call) (p : Position) (s : State) → Goes p s.context cs → Accepts p s (log_of s.context cs)
unfolding step
accepted [] p s g = g
accepted (c ∷ cs) p s (a, f, g) =
    (subst (λ k. Asks p k) (sym (kind_back s.context c)) a, accepted cs (next p (step s (entry_of s.context c)) (entry_of s.context c)) (step s (entry_of s.context c)) g)

pub each_fits : (cs : List Call) (p : Position) (s : State) → Goes p s.context cs → EachFits (log_of s.context cs)
unfolding step
each_fits [] p s g = tt
each_fits (c ∷ cs) p s (a, f, g) =
    (subst (λ k. fits k c.answer ≡ true) (sym (kind_back s.context c)) f, each_fits cs (next p (step s (entry_of s.context c)) (entry_of s.context c)) (step s (entry_of s.context c)) g)

pub goes_of : (cs : List Call) (p : Position) (s : State) → Accepts p s (log_of s.context cs) → EachFits (log_of s.context cs) → Goes p s.context cs
unfolding step
goes_of [] p s a f = a
goes_of (c ∷ cs) p s (a, g) (f, h) = (
  subst (λ k. Asks p k) (kind_back s.context c) a,
  subst (λ k. fits k c.answer ≡ true) (kind_back s.context c) f,
  goes_of cs (next p (step s (entry_of s.context c)) (entry_of s.context c)) (step s (entry_of s.context c)) g h,
)

-- a list whose questions are handed what stands is the log of its calls
pub log_back : (l : List Entry) (s : State) → WellHanded s l → log_of s.context (calls_of l) ≡ l
unfolding asked step
log_back [] s h = refl
log_back (e ∷ l) s (h, w) =
    ap (λ (x : Entry). x ∷ log_of (step s x).context (calls_of l)) (ap (λ q. entry q e.answer) (sym h))
    ∙ ap (λ (m : List Entry). e ∷ m) (log_back l (step s e) w)

call_with : Kind → Answer → Call
call_with k a = record { kind = k; answer = a }

call_back : (s : Standing) (c : Call) → call_of (entry_of s c) ≡ c
unfolding call_with
call_back s c = ap (λ k. call_with k c.answer) (kind_back s c)

pub calls_back : (cs : List Call) (s : Standing) → calls_of (log_of s cs) ≡ cs
calls_back [] s = refl
calls_back (c ∷ cs) s =
    ap (λ (d : Call). d ∷ calls_of (log_of (after_call s c).context cs)) (call_back s c) ∙ ap (λ (ds : List Call). c ∷ ds) (calls_back cs (after_call s c).context)

abbrev pub IsAccepted : StopPoint → State → List Entry → Type 0
IsAccepted stop s l = IsRun stop s l ↔ Accepts (begin (run stop) s) s l

pub goes_whole : (stop : StopPoint) (input : Payload) (cs : List Call) → IsAccepted stop (start input) (log_of (starting input) cs) →
    Goes (begin (run stop) (start input)) (starting input) cs → IsWhole stop (start input) (log_of (starting input) cs)
goes_whole stop input cs (f, g) h = record {
  run = g (accepted cs (begin (run stop) (start input)) (start input) h);
  handed = handed cs (start input);
  fitting = each_fits cs (begin (run stop) (start input)) (start input) h;
}

pub whole_goes : (stop : StopPoint) (input : Payload) (cs : List Call) → IsAccepted stop (start input) (log_of (starting input) cs) →
    IsWhole stop (start input) (log_of (starting input) cs) → Goes (begin (run stop) (start input)) (starting input) cs
whole_goes stop input cs (f, g) w = goes_of cs (begin (run stop) (start input)) (start input) (f w.run) w.fitting

-- ---- one call

abbrev pub state_with : Standing → Entry → State
state_with t e = record { context = t; last = Some e }

state_after : (s t : Standing) (c : Call) (e : Entry) → e ≡ entry_of s c → t ≡ (after_call s c).context → state_with t e ≡ after_call s c
unfolding step
state_after s t c e f h = ap (λ u. state_with u e) h ∙ ap (λ x. state_with (after_call s c).context x) f

pub taken : (v w : Walk) (s t : Standing) (l m : List Entry) (c : Call) (e : Entry) → Asks (position_of v) c.kind → fits c.kind c.answer ≡ true → e ≡ entry_of s c → t ≡ (after_call s c).context
    → position_of w ≡ next (position_of v) (state_with t e) e → m ≡ l ++ e ∷ [] → Taken v w s t l m c
taken v w s t l m c e a f n h p g = record {
  asked = a;
  fitting = f;
  position = p ∙ ap (λ x. next (position_of v) x e) (state_after s t c e n h) ∙ ap (λ x. next (position_of v) (after_call s c) x) n;
  stands = h;
  entries = g ∙ ap (λ x. l ++ x ∷ []) n;
}

-- ---- the loop

-- so far these entries came, this stands, and these calls are left
pub record Along (stop : StopPoint) (input : Payload) (cs : List Call) (walk : Walk) (s : Standing) (l : List Entry) (rest : List Call) : Type 0 where
  pub log : log_of (starting input) cs ≡ l ++ log_of s rest
  pub stands : s ≡ (standing (start input) l).context
  pub goes : Goes (begin (run stop) (start input)) (starting input) cs ↔ Goes (position_of walk) s rest

pub along_first : (stop : StopPoint) (input : Payload) (cs : List Call) (walk : Walk) (s : Standing) (l : List Entry) → position_of walk ≡ begin (run stop) (start input) → s ≡ starting input → l ≡ [] →
    Along stop input cs walk s l cs
along_first stop input cs walk s l p e n = record {
  log = ap (λ t. log_of t cs) (sym e) ∙ ap (λ (m : List Entry). m ++ log_of s cs) (sym n);
  stands = e ∙ ap (λ m. (standing (start input) m).context) (sym n);
  goes = let same : Goes (begin (run stop) (start input)) (starting input) cs ≡ Goes (position_of walk) s cs = ap (λ q. Goes q (starting input) cs) (sym p) ∙ ap (λ t. Goes (position_of walk) t cs) (sym e) in
      (λ g. subst (λ X. X) same g, λ g. subst (λ X. X) (sym same) g);
}

context-step : (s t : State) (e : Entry) → s.context ≡ t.context → (step s e).context ≡ (step t e).context
unfolding step
context-step s t e h = ap (λ c. (step (record { context = c; last = None }) e).context) h

pub along_on : (stop : StopPoint) (input : Payload) (cs : List Call) (v w : Walk) (s t : Standing) (l m : List Entry) (c : Call) (rest : List Call) → Taken v w s t l m c → Along stop input cs v s l (c ∷ rest) →
    Along stop input cs w t m rest
along_on stop input cs v w s t l m c rest k a = record {
  log = a.log ∙ sym (append_assoc l (entry_of s c ∷ []) (log_of (after_call s c).context rest)) ∙ ap (λ (x : List Entry). x ++ log_of (after_call s c).context rest) (sym k.entries)
      ∙ ap (λ u. m ++ log_of u rest) (sym k.stands);
  stands = k.stands ∙ context-step (record { context = s; last = None }) (standing (start input) l) (entry_of s c) a.stands
      ∙ ap (λ (u : State). u.context) (sym (standing-append l (entry_of s c ∷ []) (start input))) ∙ ap (λ x. (standing (start input) x).context) (sym k.entries);
  goes = let same : Goes (next (position_of v) (after_call s c) (entry_of s c)) (after_call s c).context rest ≡ Goes (position_of w) t rest =
      ap (λ q. Goes q (after_call s c).context rest) (sym k.position) ∙ ap (λ u. Goes (position_of w) u rest) (sym k.stands) in
      (λ g. subst (λ X. X) same (a.goes.0 g).2, λ g. a.goes.1 (k.asked, k.fitting, subst (λ X. X) (sym same) g));
}

pub along_not : (stop : StopPoint) (input : Payload) (cs : List Call) (v : Walk) (s : Standing) (l : List Entry) (c : Call) (rest : List Call) → (Asks (position_of v) c.kind → fits c.kind c.answer ≡ true → ⊥) →
    Along stop input cs v s l (c ∷ rest) → IsAccepted stop (start input) (log_of (starting input) cs) → IsWhole stop (start input) (log_of (starting input) cs) → ⊥
along_not stop input cs v s l c rest n a r w = let g = a.goes.0 (whole_goes stop input cs r w) in n g.0 g.1

pub along_end : (stop : StopPoint) (input : Payload) (cs : List Call) (v : Walk) (s : Standing) (l : List Entry) (rest : List Call) → rest ≡ [] → Along stop input cs v s l rest → log_of (starting input) cs ≡ l
along_end stop input cs v s l rest n a = a.log ∙ ap (λ r. l ++ log_of s r) n ∙ append-nil l

pub along_whole : (stop : StopPoint) (input : Payload) (cs : List Call) (v : Walk) (s : Standing) (l : List Entry) (rest : List Call) → rest ≡ [] → position_of v ≡ Whole → Along stop input cs v s l rest →
    IsAccepted stop (start input) (log_of (starting input) cs) → IsWhole stop (start input) (log_of (starting input) cs)
along_whole stop input cs v s l rest n p a r = goes_whole stop input cs r (a.goes.1 (subst (λ x. Goes (position_of v) s x) (sym n) p))

pub along_open : (stop : StopPoint) (input : Payload) (cs : List Call) (v : Walk) (s : Standing) (l : List Entry) (rest : List Call) → rest ≡ [] → (position_of v ≡ Whole → ⊥) → Along stop input cs v s l rest →
    IsAccepted stop (start input) (log_of (starting input) cs) → IsWhole stop (start input) (log_of (starting input) cs) → ⊥
along_open stop input cs v s l rest n p a r w = p (subst (λ x. Goes (position_of v) s x) n (a.goes.0 (whole_goes stop input cs r w)))

-- ---- the calls by their index

rest_step : (cs : List Call) (i : ℕ) (c : Call) → i < length cs → c ≡ get_or cs i c → drop i cs ≡ c ∷ drop (i + 1) cs
rest_step cs i c h e = drop-cons cs i c h ∙ ap (λ (q : Call). q ∷ drop (suc i) cs) (sym e) ∙ ap (λ (j : ℕ). c ∷ drop j cs) (sym (add-one i))

pub along_more : (stop : StopPoint) (input : Payload) (cs : List Call) (v w : Walk) (s t : Standing) (l m : List Entry) (i : ℕ) (c : Call) → i < length cs → c ≡ get_or cs i c → Taken v w s t l m c →
    Along stop input cs v s l (drop i cs) → Along stop input cs w t m (drop (i + 1) cs)
along_more stop input cs v w s t l m i c h e k a = along_on stop input cs v w s t l m c (drop (i + 1) cs) k (subst (λ r. Along stop input cs v s l r) (rest_step cs i c h e) a)

pub along_stuck : (stop : StopPoint) (input : Payload) (cs : List Call) (v : Walk) (s : Standing) (l : List Entry) (i : ℕ) (c : Call) → i < length cs → c ≡ get_or cs i c → (Asks (position_of v) c.kind → fits c.kind c.answer ≡ true → ⊥) →
    Along stop input cs v s l (drop i cs) → IsAccepted stop (start input) (log_of (starting input) cs) → IsWhole stop (start input) (log_of (starting input) cs) → ⊥
along_stuck stop input cs v s l i c h e n a = along_not stop input cs v s l c (drop (i + 1) cs) n (subst (λ r. Along stop input cs v s l r) (rest_step cs i c h e) a)

pub end_log : (stop : StopPoint) (input : Payload) (cs : List Call) (v : Walk) (s : Standing) (l : List Entry) (i : ℕ) → length cs ≤ i → Along stop input cs v s l (drop i cs) → l ≡ log_of (starting input) cs
end_log stop input cs v s l i h a = sym (along_end stop input cs v s l (drop i cs) (drop_all i cs h) a)

pub end_stands : (stop : StopPoint) (input : Payload) (cs : List Call) (v : Walk) (s : Standing) (l : List Entry) (i : ℕ) → length cs ≤ i → Along stop input cs v s l (drop i cs) → s ≡ (standing (start input) (log_of (starting input) cs)).context
end_stands stop input cs v s l i h a = a.stands ∙ ap (λ x. (standing (start input) x).context) (end_log stop input cs v s l i h a)

pub end_whole : (stop : StopPoint) (input : Payload) (cs : List Call) (v : Walk) (s : Standing) (l : List Entry) (i : ℕ) → length cs ≤ i → position_of v ≡ Whole → Along stop input cs v s l (drop i cs) →
    IsAccepted stop (start input) (log_of (starting input) cs) → IsWhole stop (start input) (log_of (starting input) cs)
end_whole stop input cs v s l i h p a = along_whole stop input cs v s l (drop i cs) (drop_all i cs h) p a

pub end_open : (stop : StopPoint) (input : Payload) (cs : List Call) (v : Walk) (s : Standing) (l : List Entry) (i : ℕ) → length cs ≤ i → (position_of v ≡ Whole → ⊥) → Along stop input cs v s l (drop i cs) →
    IsAccepted stop (start input) (log_of (starting input) cs) → IsWhole stop (start input) (log_of (starting input) cs) → ⊥
end_open stop input cs v s l i h p a = along_open stop input cs v s l (drop i cs) (drop_all i cs h) p a

apart : false ≡ true → ⊥
apart h = absurd (cc)

-- what a test that was false was asked
pub apart_from : (b : Bool) (X : Type 0) → (b ≡ true) ↔ X → b ≡ false → X → ⊥
apart_from b X (f, g) h x = apart (sym h ∙ g x)
