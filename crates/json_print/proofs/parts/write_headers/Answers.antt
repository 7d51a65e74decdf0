use Rattle.std.proofs.Common.{◌≡◌, ◌≢◌, [], ◌∷◌, refl}
use Rattle.json_forms.specs.Prints.{row}
use Rattle.smithy_types.specs.HeaderList.{HeaderList}
use Rattle.json_values.specs.Values.{headers_data}
use Rattle.json_print.proofs.RowText.{none_written, written_same}
use Rattle.json_print.proofs.parts.write_headers.Goals as goal

-- what has no header has an empty array
empty_array : (hs : HeaderList) (P : Type 0) → (P → ⊥) → (hs ≢ [] → P) → row [] ≡ headers_data hs
unfolding headers_data
empty_array [] P n f = refl
empty_array (h ∷ hs) P n f = absurd (n (f (λ e. cc)))

pub returns-in_ok-extend_from_slice-in-None : goal.returns-in_ok-extend_from_slice-in-None
returns-in_ok-extend_from_slice-in-None c =
    written_same (empty_array c.args.headers.now _ (λ s. absurd (cc)) c.in-None.ensures.found) (none_written c.in_ok-extend_from_slice-in-None.ensures.items)
