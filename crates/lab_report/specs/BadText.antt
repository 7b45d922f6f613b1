-- The line that tells why an input is refused.
use Rattle.std.specs.Prelude.{ℕ, List, [], ◌∷◌, ◌++◌, codes, decimal}
use Rattle.lab_input.specs.declared.bad.BadInput.{BadInput}
use Rattle.lab_input.specs.declared.bad.BadInput.TheVariants.{NotToml, Shape, Limit, Unknown, Repeated}

abbrev pub fault_text : BadInput → List ℕ
fault_text NotToml = codes "not toml"
fault_text (Shape path) = codes "shape " ++ path
fault_text (Limit path number) = codes "limit " ++ path ++ codes " " ++ decimal number
fault_text (Unknown name) = codes "unknown " ++ name
fault_text (Repeated text) = codes "repeated " ++ text

unfoldable pub bad_line : BadInput → List ℕ
bad_line bad = codes "bad input: " ++ fault_text bad ++ 10 ∷ []
