-- The first key that isn't known, among the keys of a map.
use Rattle.std.proofs.Common.{◌≡◌, ℕ, Bool, true, false, not, ◌||◌, cond, List, [], ◌∷◌, refl, ap, string_bytes, String, Global}
use Rattle.std.specs.Prelude.{Option, Some, option_map}
use Rattle.std.specs.List.{list_any, find}
use Rattle.std.specs.Map.{keys_of}
use Rattle.std.specs.Str.{bytes_eq}
use Rattle.toml.specs.declared.value.Value.{Value}
use Rattle.toml.specs.View.{members_view}
use Rattle.lab_keys.specs.KeyRows.{KeyRow}
use Rattle.lab_keys.specs.Keys.{names_of, is_one_of, stray_in}

-- a key is known if it is the name of a row
pub known_same : (key : List ℕ) (rows : List KeyRow) → list_any (λ k. bytes_eq key k.name) rows ≡ is_one_of (names_of rows) key
known_same key [] = refl
known_same key (row ∷ rows) = ap (λ b. bytes_eq key row.name || b) (known_same key rows)

pub stray_found : (known : List (List ℕ)) (es : List (String Global × Value))
    → option_map string_bytes (find (λ k. not (is_one_of known (string_bytes k))) (keys_of es)) ≡ stray_in known (members_view es)
stray_found known [] = refl
stray_found known (e ∷ es) =
    by_test (is_one_of known (string_bytes e.0)) (find (λ k. not (is_one_of known (string_bytes k))) (keys_of es))
    (stray_in known (members_view es)) (stray_found known es)
  where
    by_test : (t : Bool) (o : Option (String Global)) (r : Option (List ℕ)) → option_map string_bytes o ≡ r
        → option_map string_bytes (cond (not t) (Some e.0) o) ≡ cond t r (Some (string_bytes e.0))
    by_test true o r rest = rest
    by_test false o r rest = refl
