use Rattle.std.proofs.Common.{◌≡◌, ◌∙◌, ℕ, sym, ap, refl, Option, option_map, List, [], ◌∷◌, Bool, ◌&&◌, rules, string_bytes, tests, String, Global, unwrap_or}
use Rattle.std.specs.List.{list_all}
use Rattle.std.specs.Map.{keys_of}
use Rattle.std.proofs.lemmas.Iterator.Consumers.{YieldsList-from_rest}
use Rattle.std.proofs.lemmas.Iterator.Search.{all_from_yields_List}
use Rattle.serde_json.specs.Data.{Members}
use Rattle.serde_json.specs.View.{members_view}
use Rattle.serde_json.specs.declared.value.Value.{Value}
use Rattle.sg_json.specs.Members.{is_known, member_names}
use Rattle.sg_json.proofs.form.has_known_names.Goals as goal

-- a test of all names is one of all keys
all_keys : (t : List ℕ → Bool) (es : List (String Global × Value)) →
    list_all t (member_names (members_view es)) ≡ list_all (λ k. t (string_bytes k)) (keys_of es)
all_keys t [] = refl
all_keys t (e ∷ es) = ap (λ (b : Bool). t (string_bytes e.0) && b) (all_keys t es)

pub returns-in-Some : goal.returns-in-Some
returns-in-Some c = all_from_yields_List (λ k. is_known c.args.form (string_bytes k)) _ _ _ c.all.ensures.ran
    (YieldsList-from_rest (keys_of c.in-Some.map.now.entries) c.keys.ensures.rest) (λ x b q k. search (rules, tests))
    ∙ sym (all_keys (is_known c.args.form) c.in-Some.map.now.entries)
    ∙ ap (λ (o : Option Members). list_all (is_known c.args.form) (unwrap_or (option_map member_names o) [])) c.in-Some.ensures
