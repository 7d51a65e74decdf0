-- A kind is found by the text that it prints as, and by a search of three lists.
use Rattle.std.proofs.Common.{◌≡◌, ℕ, Bool, List, ◌++◌, true, nat_eq, Option, Some, ap, sym, ◌∙◌}
use Rattle.std.specs.Prelude.{find, map}
use Rattle.std.specs.Option.{option_or}
use Rattle.std.proofs.lemmas.List.Folds.{find-append}
use Rattle.std.specs.Cmp.Lexicographic.{pointwise}
use lib.Pointwise.{bytes_decides}
use Rattle.json_forms.specs.Forms.{named}
use Rattle.smithy_types.specs.Hooks.{all_hooks}
use Rattle.run_grammar.specs.declared.kind.Kind.{Kind}
use Rattle.run_grammar.specs.declared.kind.Kind.TheVariants as kinds
use Rattle.json_values.specs.AnswerReadings.{kind_at}
use Rattle.json_values.specs.Names.{all_abandoned, all_kinds, all_roles, all_stages, kind_text, plain_kinds}
use Rattle.json_values.specs.Values.{kind_data}
use Rattle.json_values.proofs.PrintedNames.{kind_read}

pub by_its_text : (k : Kind) → named kind_text all_kinds (kind_text k) ≡ Some k
unfolding kind_at kind_data
by_its_text k = kind_read k

pub found_by_name : (s : List ℕ) (k : Kind) → pointwise nat_eq s (kind_text k) ≡ true → Some k ≡ named kind_text all_kinds s
found_by_name s k h = sym (ap (named kind_text all_kinds) ((bytes_decides s (kind_text k)).0 h) ∙ by_its_text k)

-- the kinds but for the steps of the configuration and for the hooks
abbrev other_kinds : List Kind
other_kinds = plain_kinds ++ map kinds.Start all_roles ++ map kinds.Wait all_roles ++ map kinds.Abandon all_abandoned

-- searching the steps, the hooks and the others is searching all kinds
pub named_in_three : (s : List ℕ) →
    option_or (option_or (named kind_text (map kinds.Configure all_stages) s) (named kind_text (map kinds.Hook all_hooks) s)) (named kind_text other_kinds s)
    ≡ named kind_text all_kinds s
named_in_three s =
    let test : Kind → Bool = λ k. pointwise nat_eq s (kind_text k) in
    ap (λ (o : Option Kind). option_or o (find test other_kinds)) (sym (find-append test (map kinds.Configure all_stages) (map kinds.Hook all_hooks)))
    ∙ sym (find-append test (map kinds.Configure all_stages ++ map kinds.Hook all_hooks) other_kinds)
