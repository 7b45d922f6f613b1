use Rattle.std.proofs.Common.{◌++◌, List, sym, ap, ◌∙◌, append-nil}
use Rattle.std.specs.Prelude.{Option}
use Rattle.route_policy.specs.Candidates.{RouterRoute}
use Rattle.lab_tables.specs.declared.input.CostInput.{CostInput}
use Rattle.lab_report.specs.declared.lab.RouterTable.{RouterTable}
use Rattle.why_view.specs.Sources.{interior_cost, told_in}
use Rattle.why_view.proofs.GivenParts.{router_itself, router_is}
use Rattle.why_view.proofs.sources.push_router.Goals as goal

pub returns-then-is_same : goal.returns-then-is_same
returns-then-is_same c =
    let routers = c.args.routers.now in
    sym (append-nil routers) ∙ ap (λ (l : List RouterRoute). routers ++ l)
    (sym (router_itself c.args.lab.now c.args.number.0 c.args.prefix (c.args.other.0, c.args.router.now) (sym c.is_same.ensures ∙ c.if-is_same.true)))

pub returns : goal.returns
returns c =
    let lab = c.args.lab.now in
    let r = c.args.number.0 in
    let q = c.args.other.0 in
    c.in_ok-push.ensures.ok ∙ ap (λ (l : List RouterRoute). c.args.routers.now ++ l)
    (router_is lab r c.args.prefix (q, c.args.router.now) c.interior_cost-cost.result c.in_ok-told.told
    (sym c.is_same.ensures ∙ c.if-is_same.false)
    (c.interior_cost-cost.ensures ∙ ap (λ (costs : List CostInput). interior_cost costs r q) c.as_slice.ensures)
    (c.in_ok-told.ensures ∙ ap (λ (table : Option RouterTable). told_in table q c.args.prefix) c.table_of-table.ensures))
