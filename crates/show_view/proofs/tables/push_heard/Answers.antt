use Rattle.std.proofs.Common.{List, ℕ, Some, ap, string_bytes}
use Rattle.std.proofs.lemmas.Result.{on_ok_weaker}
use Rattle.show_view.specs.Routes.{heard_line, import_line}
use Rattle.show_view.proofs.Pieces.{behind, worded}
use Rattle.show_view.proofs.tables.push_heard.Goals as goal

pub returns : goal.returns
returns c = λ router number lines named.
    let text = string_bytes c.args.text.now in
    on_ok_weaker c.push_import.result
    (behind text (heard_line c.args.peering.now.name c.args.entry.now)
    (import_line c.args.input.now (Some router) (number, c.args.peering.now) lines c.args.entry.now)
    (worded text (ap (λ (name : List ℕ). heard_line name c.args.entry.now) c.as_str.ensures) c.in_ok-push_attrs_line.ensures))
    (c.push_import.ensures router number lines named)
