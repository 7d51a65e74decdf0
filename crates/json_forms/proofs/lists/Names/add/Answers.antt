use Rattle.std.proofs.Common.{ℕ, List, map, ap, ◌∙◌, not, nat_eq, string_bytes}
use Rattle.std.specs.Cmp.Lexicographic.{pointwise}
use Rattle.std.specs.List.{list_any}
use Rattle.json_forms.proofs.Seen.{any_seen}
use Rattle.json_forms.proofs.lists.Names.add.Goals as goal

pub returns-clause-added : goal.returns-clause-added
returns-clause-added c =
    c.in_ok-is_new.ensures.added
    ∙ ap not (any_seen (string_bytes c.in_ok-name.name) c.self.inside.seen.keys
    ∙ ap (λ (n : List ℕ). list_any (pointwise nat_eq n) (map string_bytes c.self.inside.seen.keys)) c.in_ok-name.ensures.ok
    ∙ ap (λ (l : List (List ℕ)). list_any (pointwise nat_eq c.args.name.now) l) c.self.view_is)
