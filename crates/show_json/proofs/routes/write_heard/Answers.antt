use Rattle.std.proofs.Common.{[], ◌∷◌, ◌++◌, Some, ap, ◌∙◌}
use Rattle.std.specs.Prelude.{codes}
use Rattle.std.proofs.lemmas.Result.{on_ok_weaker}
use Rattle.json.specs.Token.{end_object}
use Rattle.serde_json.specs.Data.{string}
use Rattle.bgp_types.specs.declared.attrs.Attrs.{Attrs}
use Rattle.bgp_types.specs.Texts.{prefix_text}
use Rattle.message_json.specs.Attrs.{attrs_json}
use Rattle.report_json.specs.Tokens.{with_value}
use Rattle.report_json.proofs.Tokens.{member_added}
use Rattle.show_json.specs.Routes.{imported_json}
use Rattle.show_json.proofs.routes.write_heard.Goals as goal

pub returns : goal.returns
returns c = λ router number lines named.
    let entry = c.args.entry.now in
    let made = imported_json c.args.input.now (Some router) (number, c.args.peering.now) lines entry in
    let imported = c.in_ok-write_imported.ensures router number lines named in
    let written = c.in_ok-write_attrs.ensures ∙ ap (λ (a : Attrs). with_value (attrs_json a) c.name.new.self) c.deref.ensures in
    let attrs = member_added (codes "attrs") (attrs_json entry.1) c.in_ok-name.ensures written c.in_ok-begin_object.ensures in
    let import = member_added (codes "import") made c.in_ok-name-2.ensures imported attrs in
    let prefix = member_added (codes "prefix") (string (prefix_text entry.0)) c.in_ok-name-3.ensures c.in_ok-write_prefix.ensures import in
    on_ok_weaker c.end_object.result (λ e. e ∙ ap (λ ts. ts ++ end_object ∷ []) prefix) c.end_object.ensures
