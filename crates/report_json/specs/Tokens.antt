-- Tokens of JSON, and those of values behind them.
use Rattle.std.specs.Prelude.{List, [], ◌∷◌, ◌++◌}
use Rattle.json.specs.Token.{Token}
use Rattle.serde_json.specs.Data.{Data, null, boolean, number, string, array, object, Items, no_items, item, Members, no_members, member}
use Rattle.serde_json.specs.Written.{number_text}

abbrev mutual
  pub with_value : Data → List Token → List Token
  with_value null before = before ++ Token.null ∷ []
  with_value (boolean b) before = before ++ Token.boolean b ∷ []
  with_value (number n) before = before ++ Token.number (number_text n) ∷ []
  with_value (string s) before = before ++ Token.string s ∷ []
  with_value (array ds) before = with_items ds (before ++ Token.begin_array ∷ [])
  with_value (object ms) before = with_members ms (before ++ Token.begin_object ∷ [])

  -- with the closing bracket
  pub with_items : Items → List Token → List Token
  with_items no_items before = before ++ Token.end_array ∷ []
  with_items (item d ds) before = with_items ds (with_value d before)

  pub with_members : Members → List Token → List Token
  with_members no_members before = before ++ Token.end_object ∷ []
  with_members (member k d ms) before = with_members ms (with_value d (before ++ Token.key k ∷ []))

abbrev pub with_values : List Data → List Token → List Token
with_values [] before = before
with_values (d ∷ ds) before = with_values ds (with_value d before)
