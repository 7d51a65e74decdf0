-- Chains are joined, grow by one step, and are carried from one kind of step to another.
use Rattle.std.proofs.Common.{List, [], ◌∷◌, ◌++◌, map, subst, refl}
use Rattle.smithy_types.specs.Chain.{Chained}

module _ {T C : Type 0} (makes : T → C → T → Type 0) where
  pub chained_join : (old mid new : T) (cs ds : List C) → Chained makes old cs mid → Chained makes mid ds new → Chained makes old (cs ++ ds) new
  chained_join old mid new [] ds e h = subst (λ t. Chained makes t ds new) e h
  chained_join old mid new (c ∷ cs) ds (t, m, r) h = (t, m, chained_join t mid new cs ds r h)

  pub chained_one : (old new : T) (c : C) → makes old c new → Chained makes old (c ∷ []) new
  chained_one old new c h = (new, h, refl)

  pub chained_more : (old mid new : T) (cs : List C) (c : C) → Chained makes old cs mid → makes mid c new → Chained makes old (cs ++ c ∷ []) new
  chained_more old mid new cs c h m = chained_join old mid new cs (c ∷ []) h (chained_one mid new c m)

-- each step of one kind being a step of another
pub chained_lift : {T C D : Type 0} (makes : T → C → T → Type 0) (does : T → D → T → Type 0) (f : C → D) →
    ((o : T) (c : C) (n : T) → makes o c n → does o (f c) n) →
    (old new : T) (cs : List C) → Chained makes old cs new → Chained does old (map f cs) new
chained_lift makes does f l old new [] e = e
chained_lift makes does f l old new (c ∷ cs) (t, m, r) = (t, l old c t m, chained_lift makes does f l t new cs r)
