-- What is found in a value by a name is found in its data.
use Rattle.std.proofs.Common.{◌≡◌, ℕ, List, Bool, true, false, cond, bytes_eq, Option, Some, None, option_map, Bor, refl, sym, ap, ◌∙◌, subst, true≢false}
use Rattle.std.proofs.lemmas.Slice.Eq.{bytes_eq-Decides}
use Rattle.json.specs.Json as json
use Rattle.json.specs.Find as find
use Rattle.json.specs.Value.{value_view}
use Rattle.json.specs.declared.value.Value.{Value}
use Rattle.serde_json.specs.Data.{Data, Members, no_members, put}
use Rattle.serde_json.specs.Find.{get, get_member}
use Rattle.serde_json.proofs.Views.{get_member-put, get_member-put_other}
use Rattle.json_forms.specs.View.{data_of_json, members_of_json, view}

abbrev or_else : Option Data → Option Data → Option Data
or_else None earlier = earlier
or_else (Some d) earlier = Some d

found_put_by : (b : Bool) (name k : List ℕ) (d : Data) (found : Members) → bytes_eq k name ≡ b → get_member name (put k d found) ≡ cond b (Some d) (get_member name found)
found_put_by true name k d found e = subst (λ n. get_member n (put k d found) ≡ Some d) ((bytes_eq-Decides k name).0 e) (get_member-put k d found)
found_put_by false name k d found e = get_member-put_other name k d found (λ same. true≢false (sym ((bytes_eq-Decides k name).1 (sym same)) ∙ e))

later_found : (o : Option json.Json) (b : Bool) (j : json.Json) (earlier : Option Data) →
    or_else (option_map data_of_json o) (cond b (Some (data_of_json j)) earlier) ≡ or_else (option_map data_of_json (find.later_or o (cond b (Some j) None))) earlier
later_found None true j earlier = refl
later_found None false j earlier = refl
later_found (Some i) b j earlier = refl

member_found : (name : List ℕ) (ms : json.Members) (found : Members) → get_member name (members_of_json ms found) ≡ or_else (option_map data_of_json (find.get_member name ms)) (get_member name found)
member_found name json.no_members found = refl
member_found name (json.member k j ms) found =
    member_found name ms (put k (data_of_json j) found)
    ∙ ap (or_else (option_map data_of_json (find.get_member name ms))) (found_put_by (bytes_eq k name) name k (data_of_json j) found refl)
    ∙ later_found (find.get_member name ms) (bytes_eq k name) j (get_member name found)

or_none : (o : Option Data) → or_else o None ≡ o
or_none None = refl
or_none (Some d) = refl

-- of an object, of whichever form the value is
pub data_found : (name : List ℕ) (j : json.Json) → get name (data_of_json j) ≡ option_map data_of_json (find.get name j)
data_found name json.null = refl
data_found name (json.boolean b) = refl
data_found name (json.number s) = refl
data_found name (json.string s) = refl
data_found name (json.array js) = refl
data_found name (json.object ms) = member_found name ms no_members ∙ or_none (option_map data_of_json (find.get_member name ms))

seen_value : {A : Type 0} (o : Option (Bor (Value A))) → option_map (λ v. view v.now) o ≡ option_map data_of_json (option_map (λ v. value_view v.now) o)
unfolding view
seen_value None = refl
seen_value (Some v) = refl

pub view_found : {A : Type 0} (name : List ℕ) (v : Value A) (o : Option (Bor (Value A))) → option_map (λ w. value_view w.now) o ≡ find.get name (value_view v) → get name (view v) ≡ option_map (λ w. view w.now) o
unfolding view
view_found name v o e = data_found name (value_view v) ∙ ap (option_map data_of_json) (sym e) ∙ sym (seen_value o)
