-- The first absent part among two lists of checks.
use Rattle.std.proofs.Common.{rules, ◌≡◌, refl, Bool, true, false, List, [], ◌∷◌, ◌++◌, Option, None, Some, IsSome, is_none}
use Rattle.smithy_types.specs.declared.build_error.Part.{Part}
use Rattle.client_builder.specs.Refusal.{Check, first_absent}

-- a part that is absent in front is the first of both
pub in_front : (cs ds : List Check) (which : Part) → first_absent cs ≡ Some which → first_absent (cs ++ ds) ≡ Some which
in_front [] ds which h = absurd (cc)
in_front ((true, one) ∷ cs) ds which h = h
in_front ((false, one) ∷ cs) ds which h = in_front cs ds which h

-- where none is absent in front, the first is that of the rest
pub behind : (cs ds : List Check) → first_absent cs ≡ None → first_absent (cs ++ ds) ≡ first_absent ds
behind [] ds h = refl
behind ((true, one) ∷ cs) ds h = absurd (cc)
behind ((false, one) ∷ cs) ds h = behind cs ds h

-- where none is absent, the second isn't
pub second : (a b : Bool) (u w : Part) (cs : List Check) → first_absent ((a, u) ∷ (b, w) ∷ cs) ≡ None → b ≡ false
second true b u w cs h = absurd (cc)
second false true u w cs h = absurd (cc)
second false false u w cs h = refl

-- what isn't none is some
pub some_of : {X : Type 0} (o : Option X) → is_none o ≡ false → IsSome o
some_of None h = absurd (cc)
some_of (Some x) h = search rules
