use Rattle.std.proofs.Common.{◌∙◌, length, sym, ap}
use Rattle.std.proofs.lemmas.List.{length-map}
use Rattle.toml.specs.View.{view}
use Rattle.lab_tables.proofs.expects.count_at.Goals as goal

pub returns-in-Some : goal.returns-in-Some
returns-in-Some c = sym (length-map c.in-Some.values.now view) ∙ ap length c.in-Some.ensures
