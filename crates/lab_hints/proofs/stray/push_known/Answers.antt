use Rattle.std.proofs.Common.{◌++◌, List, ℕ, map, sym, ap, string_bytes}
use Rattle.std.specs.Prelude.{Option, option_map}
use Rattle.std.specs.Borrow.{Bor}
use Rattle.std.proofs.lemmas.Result.{IfOk-equal}
use Rattle.lab_hints.specs.Shapes.{known_words}
use Rattle.lab_hints.proofs.stray.push_known.Goals as goal

pub returns-in-Some : goal.returns-in-Some
returns-in-Some c =
    IfOk-equal c.push_question.result _ _ _ c.push_question.ensures
    (ap (λ (o : Option (Bor (List ℕ))). string_bytes c.args.text.now
    ++ known_words (option_map (λ name. name.now) o) (map (λ name. name.now) c.args.names.now)) (sym c.in-Some.is))

pub returns-in-None : goal.returns-in-None
returns-in-None c =
    IfOk-equal c.push_names.result _ _ _ c.push_names.ensures
    (ap (λ (o : Option (Bor (List ℕ))). string_bytes c.args.text.now
    ++ known_words (option_map (λ name. name.now) o) (map (λ name. name.now) c.args.names.now)) (sym c.in-None.is))
