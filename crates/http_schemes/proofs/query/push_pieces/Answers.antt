use Rattle.std.proofs.Common.{◌≡◌, ◌++◌, ◌==◌, ◌∙◌, sym, ap, lit<, flat_map, string_bytes}
use Rattle.std.specs.List.{slice_split}
use Rattle.std.specs.Str.Iter.{split_steps}
use Rattle.std.specs.Str.Pattern.{FindsChar}
use Rattle.std.proofs.lemmas.Bool.{cond-false}
use Rattle.std.proofs.lemmas.Iterator.Splits.{YieldsList-from_str_split}
use Rattle.http_schemes.specs.Query.{kept_text}
use Rattle.http_schemes.proofs.YieldLemmas.{written_more, written_all}
use Rattle.http_schemes.proofs.query.push_pieces.Goals as goal

pub loop-piece-init : goal.loop-piece-init
loop-piece-init c =
    rw c.into_iter-piece-iterator.ensures.into_iter_gives
    (record {
      left = slice_split (λ b. b == 38) c.args.query.now;
      yields = YieldsList-from_str_split 38 c.args.query.now (lit< tt) c.split-piece-items.ensures.text c.split-piece-items.ensures.has_more c.split-piece-items.ensures.pattern;
      comes_to = ap (λ l. string_bytes c.args.text.now ++ flat_map (kept_text c.args.name.now) l) (sym (cond-false _ _ _ (sym c.is_empty.ensures ∙ c.if-is_empty.false)));
    })

pub loop-piece-preserved : goal.loop-piece-preserved
loop-piece-preserved c =
    written_more (split_steps FindsChar (λ a b. b ≡ a)) (λ x. x.now) (kept_text c.args.name.now) (string_bytes c.loop-piece.text) (string_bytes c.push_other.new.text) _ c.loop-piece.piece-iterator c.next.new.self c.in-Some.piece c.loop-piece.invariant c.in-Some.ensures.steps c.in_ok-push_other.ensures

pub returns : goal.returns
returns c =
    written_all (split_steps FindsChar (λ a b. b ≡ a)) (λ x. x.now) (kept_text c.args.name.now) (string_bytes c.loop-piece.text) _ c.loop-piece.piece-iterator c.next.new.self c.loop-piece.invariant c.in-None.ensures.steps
