use Rattle.std.proofs.Common.{ℕ, ◌≡◌, List, [], refl, sym, ap, ◌∙◌, subst}
use Rattle.serde_json.specs.Data.{array}
use Rattle.serde_json.specs.View.{items_view}
use Rattle.serde_json.specs.declared.value.Value.{Value}
use Rattle.serde_json.proofs.Views.{view-Array}
use Rattle.lab_report.specs.Traces.{forward_maps_of}
use Rattle.report_json.specs.Traces.{Traces}
use Rattle.report_json.proofs.traces.traces_value.Goals as goal

-- no walks where there are no addresses
pub returns-then-is_empty : goal.returns-then-is_empty
returns-then-is_empty c =
    let lab = c.args.lab.now in
    let none : lab.input.trace ≡ [] = c.is_empty.ensures.0 c.if-is_empty.true in
    let is = subst (λ (each : List ℕ). Traces lab.input (forward_maps_of lab) each []) (sym none) refl in
    ([], is, view-Array c.new.result ∙ ap (λ (values : List Value). array (items_view values)) c.new.ensures.items)
