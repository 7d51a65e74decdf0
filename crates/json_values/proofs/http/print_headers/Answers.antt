use Rattle.std.proofs.Common.{◌≡◌, ◌≢◌, List, [], ◌∷◌, refl, ◌∙◌, ap}
use Rattle.serde_json.specs.Data.{Data, array}
use Rattle.serde_json.specs.View.{items_of}
use Rattle.smithy_types.specs.HeaderList.{HeaderList}
use Rattle.json_values.specs.Values.{headers_data}
use Rattle.json_values.proofs.http.print_headers.Goals as goal

-- what has no header has an empty array
empty_array : (hs : HeaderList) (P : Type 0) → (P → ⊥) → (hs ≢ [] → P) → array (items_of []) ≡ headers_data hs
unfolding headers_data
empty_array [] P n f = refl
empty_array (h ∷ hs) P n f = absurd (n (f (λ e. cc)))

pub returns-in-None : goal.returns-in-None
returns-in-None c =
    c.finish.ensures ∙ ap (λ (ds : List Data). array (items_of ds)) c.new.ensures ∙ empty_array c.args.headers.now _ (λ s. absurd (cc)) c.in-None.ensures.found
