-- A chain of interceptors: which of them run, what they see, and what they answer together.
use Rattle.std.specs.Prelude.{Bool, true, false, ◌&&◌, not, ℕ, nat_eq, Option, None, Some, List, [], ◌∷◌, ◌++◌, ◌≡◌}
use Rattle.std.specs.Prelude.{◌⊎◌}
use Rattle.std.specs.List.{list_any}
use Rattle.std.specs.Cmp.Lexicographic.{pointwise}
use Rattle.smithy_types.specs.declared.hook.Hook.{Hook}
use Rattle.smithy_context.specs.declared.intercept.HookAnswer.{HookAnswer}
use Rattle.smithy_context.specs.declared.intercept.HookView.{HookView}
use Rattle.smithy_context.specs.declared.layer.LayerEntry.{LayerEntry}
use Rattle.smithy_context.specs.declared.setting.Setting.{Setting}
use Rattle.smithy_context.specs.declared.setting.Setting.TheVariants as settings
use Rattle.smithy_context.specs.declared.setting.SettingKey.TheVariants as keys
use Rattle.smithy_context.specs.Hooks.{allowed, seen_after}
use Rattle.smithy_context.specs.Layer.{merged}
use Rattle.smithy_context.specs.Settings.{loaded, or_else}

-- ---- who runs

-- the names in a Disable setting
abbrev pub names_in : Option Setting → List (List ℕ)
names_in (Some (settings.Disable names)) = names
names_in _ = []

-- whether the name stands in the list
abbrev pub stands_in : List (List ℕ) → List ℕ → Bool
stands_in names name = list_any (λ n. pointwise nat_eq n name) names

-- whether the Disable setting that is seen has the name
abbrev pub is_disabled : HookView → List ℕ → Bool
is_disabled v name = stands_in (names_in (loaded v.settings keys.Disable)) name

-- ---- what is answered together

-- what the last answer that has it gives
abbrev pub last_of : {A : Type 0} → (HookAnswer → Option A) → List HookAnswer → Option A
last_of f [] = None
last_of f (a ∷ given) = or_else (last_of f given) (f a)

-- the layer with those of the answers merged into it, in their order
abbrev pub all_merged : List LayerEntry → List HookAnswer → List LayerEntry
all_merged l [] = l
all_merged l (a ∷ given) = all_merged (merged l a.settings) given

-- the last change that the hook may make, the layers merged in order, and the last failure
abbrev pub together : Hook → List HookAnswer → HookAnswer
together h given = record {
  change = last_of (λ (a : HookAnswer). allowed h a.change) given;
  settings = all_merged [] given;
  failure = last_of (λ (a : HookAnswer). a.failure) given;
}

-- what is seen after these answers
abbrev pub seen : Hook → HookView → List HookAnswer → HookView
seen h v [] = v
seen h v (a ∷ given) = seen h (seen_after h v a) given

-- ---- the walk

module _ {I : Type 0} (names : I → List ℕ) (hooks : I → Hook → Bool)
    (runs : I → Hook → HookView → HookAnswer → I → Type 0) (h : Hook) where
  -- whether the interceptor is run on this view: it overrides the hook and isn't disabled
  abbrev pub is_run : HookView → I → Bool
  is_run v x = hooks x h && not (is_disabled v (names x))

  -- a turn on this view: an interceptor that isn't run stays as it is and answers nothing, and any other runs once
  abbrev pub Turn : HookView → I → List HookAnswer → I → Type 0
  Turn v x given y =
      ((is_run v x ≡ false) × (given ≡ []) × (y ≡ x))
      ⊎ ((is_run v x ≡ true) × (a : HookAnswer) × (given ≡ a ∷ []) × runs x h v a y)

  -- their turns from left to right, each on what is seen after the earlier answers:
  -- all answers, and what the turns leave
  abbrev pub Turns : HookView → List I → List HookAnswer → List I → Type 0
  Turns v [] given ys = (given ≡ []) × (ys ≡ [])
  Turns v (x ∷ xs) given ys =
      (first later : List HookAnswer) × (y : I) × (rest : List I) × (given ≡ first ++ later) × (ys ≡ y ∷ rest)
      × Turn v x first y × Turns (seen h v first) xs later rest

  -- the chain: each has its turn, and the answer is that of all together
  abbrev pub RunsChain : HookView → List I → HookAnswer → List I → Type 0
  RunsChain v xs answer ys = (given : List HookAnswer) × Turns v xs given ys × (answer ≡ together h given)

  -- some of the chain, from its left end on, had their turns and keep what they did, and the rest are as they were
  abbrev pub RunsInPart : HookView → List I → List I → Type 0
  RunsInPart v xs ys =
      (front rest after : List I) × (given : List HookAnswer) × (xs ≡ front ++ rest) × (ys ≡ after ++ rest)
      × Turns v front given after
