use Rattle.std.proofs.Common.{ℕ, List, ◌∙◌, min, ap}
use Rattle.std.specs.Prelude.{sum_by, codes}
use Rattle.toml.specs.Data.{Data}
use Rattle.toml.specs.View.{view, table_view}
use Rattle.lab_keys.specs.Values.{items_at}
use Rattle.lab_tables.specs.Expects.{grafts_of}
use Rattle.lab_tables.proofs.GraftNumbers.{sum_mapped}
use Rattle.lab_tables.proofs.expects.most_graft.Goals as goal

abbrev most : ℕ → List Data → ℕ
most peerings steps = min 4294967295 (sum_by (grafts_of peerings) steps)

pub returns-in-Some : goal.returns-in-Some
returns-in-Some c =
    let peerings = c.count_at-peerings.result in
    let steps = items_at (codes "step") (table_view c.args.doc.now) in
    c.most_of.ensures ∙ ap (min 4294967295) (sum_mapped (grafts_of peerings) view c.in-Some.steps.now)
    ∙ ap (most peerings) c.in-Some.ensures ∙ ap (λ n. most n steps) c.count_at-peerings.ensures

pub returns-in-None : goal.returns-in-None
returns-in-None c =
    let peerings = c.count_at-peerings.result in
    let steps = items_at (codes "step") (table_view c.args.doc.now) in
    ap (most peerings) c.in-None.ensures ∙ ap (λ n. most n steps) c.count_at-peerings.ensures
