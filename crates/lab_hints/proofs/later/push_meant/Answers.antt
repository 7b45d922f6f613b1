use Rattle.std.proofs.Common.{◌++◌, List, ℕ, sym, ap, string_bytes}
use Rattle.std.specs.Prelude.{Option, option_map}
use Rattle.std.specs.Borrow.{Bor}
use Rattle.std.proofs.lemmas.Result.{IfOk-equal}
use Rattle.lab_hints.specs.Later.{meant_words}
use Rattle.lab_hints.proofs.later.push_meant.Goals as goal

pub returns-in-Some : goal.returns-in-Some
returns-in-Some c =
    IfOk-equal c.push_question.result _ _ _ c.push_question.ensures
    (ap (λ (o : Option (Bor (List ℕ))). string_bytes c.args.text.now ++ meant_words (option_map (λ name. name.now) o)) (sym c.in-Some.is))
