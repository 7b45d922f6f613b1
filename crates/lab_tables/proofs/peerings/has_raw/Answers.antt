use Rattle.std.proofs.Common.{◌∙◌, ap}
use Rattle.std.specs.List.{list_any}
use Rattle.toml.specs.View.{view}
use Rattle.lab_tables.specs.Peerings.{is_raw_of}
use Rattle.lab_tables.proofs.Groups.{any_of_mapped}
use Rattle.lab_tables.proofs.peerings.has_raw.Goals as goal

pub returns-in-Some : goal.returns-in-Some
returns-in-Some c = c.any_raw.ensures ∙ any_of_mapped (is_raw_of c.args.name.now) view c.in-Some.steps.now
    ∙ ap (list_any (is_raw_of c.args.name.now)) c.in-Some.ensures
