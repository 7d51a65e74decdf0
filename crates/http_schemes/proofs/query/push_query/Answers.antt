use Rattle.std.proofs.Common.{◌++◌, ◌∙◌, ap, codes, option_copied, string_bytes}
use Rattle.http_schemes.proofs.QueryLemmas.{written}
use Rattle.http_schemes.proofs.query.push_query.Goals as goal

pub returns : goal.returns
returns c =
    c.in_ok-push_str-3.ensures.bytes
    ∙ ap (λ t. t ++ c.args.value.now) (c.in_ok-push_str-2.ensures.bytes ∙ ap (λ t. t ++ codes "=") (c.in_ok-push_str.ensures.bytes ∙ ap (λ t. t ++ c.args.name.now) c.in_ok-push_others.ensures))
    ∙ written (string_bytes c.args.text.now) c.args.name.now c.args.value.now (option_copied c.args.query)
