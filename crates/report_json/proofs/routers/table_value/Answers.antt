use Rattle.std.proofs.Common.{◌≤◌, List, length, sym, ap, ◌∙◌, arith}
use Rattle.std.proofs.lemmas.Option.{slice_get_past}
use Rattle.serde_json.specs.Data.{array}
use Rattle.serde_json.specs.View.{items_view}
use Rattle.serde_json.specs.declared.value.Value.{Value}
use Rattle.serde_json.proofs.Views.{view-Array}
use Rattle.report_json.specs.Run.{table_json}
use Rattle.report_json.proofs.routers.table_value.Goals as goal

-- no routes of a router that has no table
pub returns-in-None : goal.returns-in-None
returns-in-None c =
    let past : length c.args.tables.now ≤ c.args.index = omega (arith, c.in-None.ensures.lookup) in
    let none = slice_get_past c.args.tables.now c.args.index past in
    view-Array c.new.result ∙ ap (λ (values : List Value). array (items_view values)) c.new.ensures.items ∙ sym (ap (table_json c.args.input.now) none)
