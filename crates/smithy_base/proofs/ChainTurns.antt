-- One more of a chain had its turn.
use Rattle.std.proofs.Common.{◌≡◌, ◌<◌, ◌+◌, ℕ, Option, None, Some, List, [], ◌∷◌, ◌++◌, length, take, drop, get_or, refl, sym, ap, subst, ◌∙◌, add-one, arith, drop-cons, length-set, append-nil, append_assoc, Bool, true, false, ◌⊎◌, inl, inr, Result, Ok, Err, OnOk, OnErr}
use Rattle.std.proofs.Math.Seq.{take-suc}
use Rattle.std.proofs.lemmas.List.{take-set, drop-set-lt, set-get_or, take-append-drop}
use Rattle.std.proofs.lemmas.Bool.{or_parts}
use Rattle.std.proofs.lemmas.Grind.{get_or-set_at}
use Rattle.std.specs.List.{list_any}
use Rattle.std.proofs.Math.ListN.{set}
use Rattle.smithy_types.specs.declared.hook.Hook.{Hook}
use Rattle.smithy_context.specs.declared.intercept.HookAnswer.{HookAnswer}
use Rattle.smithy_context.specs.declared.intercept.HookView.{HookView}
use Rattle.smithy_context.specs.declared.layer.LayerEntry.{LayerEntry}
use Rattle.smithy_context.specs.Hooks.{allowed, seen_after}
use Rattle.smithy_context.specs.Layer.{merged}
use Rattle.smithy_context.specs.Settings.{or_else}
use Rattle.smithy_base.specs.declared.walk.Walk.{Walk}
use Rattle.smithy_base.specs.Chain.{last_of, all_merged, together, seen, is_run, Turn, Turns, RunsChain, RunsInPart}
use Rattle.smithy_base.specs.Walk.{answered_too, noted, all_noted}

-- ---- what is answered together, with one more answer

or_else-assoc : {T : Type 0} (a b c : Option T) → or_else (or_else a b) c ≡ or_else a (or_else b c)
or_else-assoc None b c = refl
or_else-assoc (Some x) b c = refl

or_else-none : {T : Type 0} (a : Option T) → a ≡ or_else a None
or_else-none None = refl
or_else-none (Some x) = refl

last_of-more : {A : Type 0} (f : HookAnswer → Option A) (l : List HookAnswer) (a : HookAnswer) → last_of f (l ++ a ∷ []) ≡ or_else (f a) (last_of f l)
last_of-more f [] a = or_else-none (f a)
last_of-more f (b ∷ l) a = ap (λ o. or_else o (f b)) (last_of-more f l a) ∙ or_else-assoc (f a) (last_of f l) (f b)

all_merged-more : (k : List LayerEntry) (l : List HookAnswer) (a : HookAnswer) → all_merged k (l ++ a ∷ []) ≡ merged (all_merged k l) a.settings
all_merged-more k [] a = refl
all_merged-more k (b ∷ l) a = all_merged-more (merged k b.settings) l a

seen-join : (h : Hook) (v : HookView) (l m : List HookAnswer) → seen h v (l ++ m) ≡ seen h (seen h v l) m
seen-join h v [] m = refl
seen-join h v (a ∷ l) m = seen-join h (seen_after h v a) l m

together-more : (h : Hook) (l : List HookAnswer) (a : HookAnswer) → answered_too h (together h l) a ≡ together h (l ++ a ∷ [])
together-more h l a =
    let change = last_of-more (λ (b : HookAnswer). allowed h b.change) l a in
    let settings = all_merged-more [] l a in
    let failure = last_of-more (λ (b : HookAnswer). b.failure) l a in
    rw (change, settings, failure) refl

-- what a walk has come to after these answers
abbrev pub walked : Hook → HookView → List HookAnswer → Walk
walked h v l = record { view = seen h v l; answer = together h l }

pub walked-join : (h : Hook) (v : HookView) (l m : List HookAnswer) → all_noted h (walked h v l) m ≡ walked h v (l ++ m)
walked-join h v l [] = rw (append-nil l) refl
walked-join h v l (a ∷ m) =
    let one : noted h (walked h v l) a ≡ walked h v (l ++ a ∷ []) =
    rw (seen-join h v l (a ∷ []), together-more h l a) refl in
    ap (λ w. all_noted h w m) one ∙ walked-join h v (l ++ a ∷ []) m ∙ ap (walked h v) (append_assoc l (a ∷ []) m)

-- nothing was answered
pub done_together : (h : Hook) (a : HookAnswer) → a.change ≡ None → a.settings ≡ [] → a.failure ≡ None → a ≡ together h []
done_together h a c s f = λ i. record { change = c i; settings = s i; failure = f i }

-- ---- the turns of a chain

module _ {I : Type 0} (names : I → List ℕ) (hooks : I → Hook → Bool) (runs : I → Hook → HookView → HookAnswer → I → Type 0) (h : Hook) where
  pub turns_more : (v : HookView) (xs : List I) (l : List HookAnswer) (ys : List I) (x : I) (m : List HookAnswer) (y : I) →
      Turns names hooks runs h v xs l ys → Turn names hooks runs h (seen h v l) x m y → Turns names hooks runs h v (xs ++ x ∷ []) (l ++ m) (ys ++ y ∷ [])
  turns_more v [] l ys x m y (e, f) t =
      rw (e, f) (m, [], y, [], sym (append-nil m), refl, subst (λ k. Turn names hooks runs h (seen h v k) x m y) e t, (refl, refl))
  turns_more v (z ∷ xs) l ys x m y (first, later, w, rest, e, f, one, others) t =
      let t' : Turn names hooks runs h (seen h (seen h v first) later) x m y = subst (λ u. Turn names hooks runs h u x m y) (ap (seen h v) e ∙ seen-join h v first later) t in (
        first,
        later ++ m,
        w,
        rest ++ y ∷ [],
        ap (λ k. k ++ m) e ∙ append_assoc first later m,
        ap (λ k. k ++ y ∷ []) f,
        one,
        turns_more (seen h v first) xs later rest x m y others t',
      )

  -- those before i had their turns, and the others are as they were
  pub record HadTurns (v : HookView) (first chain : List I) (i : ℕ) (w : Walk) : Type 0 where
    pub answers : List HookAnswer
    pub turns : Turns names hooks runs h v (take i first) answers (take i chain)
    pub walk : w ≡ walked h v answers
    pub others : drop i chain ≡ drop i first

  pub first_turn : (v : HookView) (first : List I) (w : Walk) → w ≡ walked h v [] → HadTurns v first first 0 w
  first_turn v first w e = record { answers = []; turns = (refl, refl); walk = e; others = refl }

  pub one_turn : (v : HookView) (first chain : List I) (i : ℕ) (w w' : Walk) (x y : I) (m : List HookAnswer) → i < length chain → length chain ≡ length first → x ≡ get_or chain i x →
      HadTurns v first chain i w → Turn names hooks runs h w.view x m y → w' ≡ all_noted h w m →
      HadTurns v first (set chain i y) (i + 1) w'
  one_turn v first chain i w w' x y m inside same is had turn after =
      let inside_first : i < length first = subst (λ n. i < n) same inside in
      let both : (get_or chain i x ∷ drop (i + 1) chain) ≡ (get_or first i x ∷ drop (i + 1) first) = rw add-one (sym (drop-cons chain i x inside) ∙ had.others ∙ drop-cons first i x inside_first) in
      let head : get_or first i x ≡ x = cc in
      let tail : drop (i + 1) chain ≡ drop (i + 1) first = cc in
      let seen_first : take (i + 1) first ≡ take i first ++ x ∷ [] = rw add-one (rw (take-suc first i x inside_first, head) refl) in
      let seen_chain : take (i + 1) (set chain i y) ≡ take i chain ++ y ∷ [] = rw add-one (rw (take-suc (set chain i y) i y (rw length-set inside), take-set, get_or-set_at chain i i y y refl inside) refl) in
      record {
        answers = had.answers ++ m;
        turns = rw (seen_first, seen_chain) (turns_more v (take i first) had.answers (take i chain) x m y had.turns (subst (λ (u : Walk). Turn names hooks runs h u.view x m y) had.walk turn));
        walk = after ∙ ap (λ u. all_noted h u m) had.walk ∙ walked-join h v had.answers m;
        others = drop-set-lt (i + 1) chain i y (omega arith) ∙ tail;
      }

  -- where none overrides the hook, none runs, and none changes
  none_runs : (v : HookView) (xs : List I) → list_any (λ x. hooks x h) xs ≡ false → Turns names hooks runs h v xs [] xs
  none_runs v [] e = (refl, refl)
  none_runs v (x ∷ xs) e =
      let parts = or_parts (hooks x h) (list_any (λ x. hooks x h) xs) e in
      ([], [], x, xs, refl, refl, inl (rw parts.0 refl, refl, refl), none_runs v xs parts.1)

  pub chain_unrun : (v : HookView) (xs : List I) (answer : HookAnswer) → list_any (λ x. hooks x h) xs ≡ false → answer ≡ together h [] → RunsChain names hooks runs h v xs answer xs
  chain_unrun v xs answer e is = ([], none_runs v xs e, is)

  -- a run is a turn
  pub turned : (v : HookView) (x : I) (a : HookAnswer) (y : I) → is_run names hooks runs h v x ≡ true → runs x h v a y → Turn names hooks runs h v x (a ∷ []) y
  turned v x a y e r = inr (e, a, refl, r)

  pub turn_noted : {T E : Type 0} (r : Result T E) (w w' : Walk) (x : I) (a : HookAnswer) (y : I) → Turn names hooks runs h w.view x (a ∷ []) y → OnOk r (w' ≡ noted h w a) →
      OnOk r ((l : List HookAnswer) × Turn names hooks runs h w.view x l y × (w' ≡ all_noted h w l))
  turn_noted (Ok t) w w' x a y turn e = (a ∷ [], turn, e)
  turn_noted (Err t) w w' x a y turn e = e

  pub turn_kept : {T E : Type 0} (r : Result T E) (v : HookView) (x : I) (a : HookAnswer) (y : I) → Turn names hooks runs h v x (a ∷ []) y →
      OnErr r ((y ≡ x) ⊎ ((l : List HookAnswer) × Turn names hooks runs h v x l y))
  turn_kept (Ok t) v x a y turn = tt
  turn_kept (Err t) v x a y turn = inr (a ∷ [], turn)

  -- a walk that stops leaves a part that had its turns, and a rest
  had_turns_in_part : (v : HookView) (first chain : List I) (i : ℕ) (w : Walk) → HadTurns v first chain i w → RunsInPart names hooks runs h v first chain
  had_turns_in_part v first chain i w had = (
    take i first,
    drop i first,
    take i chain,
    had.answers,
    sym (take-append-drop i first),
    sym (take-append-drop i chain) ∙ ap (λ l. take i chain ++ l) had.others,
    had.turns,
  )

  pub stopped : (v : HookView) (first chain : List I) (i : ℕ) (w : Walk) (x y : I) → i < length chain → length chain ≡ length first → x ≡ get_or chain i x →
      HadTurns v first chain i w → (y ≡ x) ⊎ ((l : List HookAnswer) × Turn names hooks runs h w.view x l y) →
      RunsInPart names hooks runs h v first (set chain i y)
  stopped v first chain i w x y inside same is had (inl e) =
      let as_it_was : set chain i y ≡ chain = ap (set chain i) (e ∙ is) ∙ set-get_or chain i x in
      subst (RunsInPart names hooks runs h v first) (sym as_it_was) (had_turns_in_part v first chain i w had)
  stopped v first chain i w x y inside same is had (inr (l, turn)) =
      had_turns_in_part v first (set chain i y) (i + 1) (all_noted h w l) (one_turn v first chain i w (all_noted h w l) x y l inside same is had turn refl)

  pub stopped_by : {T E F : Type 0} (r : Result T E) (q : Result F E) (v : HookView) (first chain : List I) (i : ℕ) (w : Walk) (x y : I) (e : E) → r ≡ Err e →
      i < length chain → length chain ≡ length first → x ≡ get_or chain i x → HadTurns v first chain i w →
      OnErr r ((y ≡ x) ⊎ ((l : List HookAnswer) × Turn names hooks runs h w.view x l y)) → OnErr q (RunsInPart names hooks runs h v first (set chain i y))
  stopped_by (Ok d) q v first chain i w x y e was inside same is had s = grind arith
  stopped_by (Err d) (Ok t) v first chain i w x y e was inside same is had s = tt
  stopped_by (Err d) (Err t) v first chain i w x y e was inside same is had s = stopped v first chain i w x y inside same is had s
