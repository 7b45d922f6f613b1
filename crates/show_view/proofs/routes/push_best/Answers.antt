use Rattle.std.proofs.Common.{List, ℕ, ◌++◌, string_bytes}
use Rattle.std.specs.Prelude.{codes}
use Rattle.lab_report.specs.Report.{from_text, line_end}
use Rattle.show_view.specs.Routes.{route_start, route_words}
use Rattle.show_view.proofs.Pieces.{behind}
use Rattle.show_view.proofs.routes.push_best.Goals as goal

pub returns : goal.returns
returns c =
    let text = string_bytes c.args.text.now in
    let begun = string_bytes c.push_start.new.text in
    let best = c.args.best.now in
    let start : List ℕ = route_start (codes "best") c.args.name.now best.prefix in
    let from : List ℕ = from_text c.args.input.now best.from in
    let words : List ℕ = codes " " ++ from ++ route_words best.route in
    behind text (start ++ words) line_end
    (behind text start words c.in_ok-push_start.ensures
    (behind begun (codes " " ++ from) (route_words best.route)
    (behind begun (codes " ") from c.in_ok-push_str.ensures.bytes c.in_ok-push_from.ensures) c.in_ok-push_route.ensures))
    c.in_ok-push_str-2.ensures.bytes
