use Rattle.std.proofs.Common.{◌++◌, List, ℕ, sym, ap, string_bytes}
use Rattle.std.specs.Prelude.{Option, option_map}
use Rattle.std.specs.Borrow.{Bor}
use Rattle.std.proofs.lemmas.Result.{IfOk-equal}
use Rattle.lab_hints.specs.Shapes.{instead_words}
use Rattle.lab_hints.proofs.stray.push_instead.Goals as goal

pub returns-in-Some : goal.returns-in-Some
returns-in-Some c =
    IfOk-equal c.push_misspelt.result _ _ _ c.push_misspelt.ensures
    (ap (λ (o : Option (Bor (List ℕ))). string_bytes c.args.text.now ++ instead_words (option_map (λ key. key.now) o) c.args.name.now) (sym c.in-Some.is))
