use Rattle.std.proofs.Common.{[], ◌∷◌, ◌++◌, ap, ◌∙◌}
use Rattle.std.specs.Prelude.{codes}
use Rattle.std.proofs.lemmas.Result.{on_ok_weaker}
use Rattle.json.specs.Token.{end_object}
use Rattle.serde_json.specs.Data.{string}
use Rattle.bgp_types.specs.declared.attrs.Attrs.{Attrs}
use Rattle.bgp_types.specs.Texts.{prefix_text}
use Rattle.message_json.specs.Attrs.{attrs_json}
use Rattle.report_json.specs.Run.{from_json}
use Rattle.report_json.specs.Tokens.{with_value}
use Rattle.report_json.specs.Values.{count}
use Rattle.report_json.proofs.Tokens.{member_added}
use Rattle.show_json.proofs.routes.write_best.Goals as goal

pub returns : goal.returns
returns c =
    let best = c.args.best.now in
    let written = c.in_ok-write_attrs.ensures ∙ ap (λ (a : Attrs). with_value (attrs_json a) c.name.new.self) c.deref.ensures in
    let attrs = member_added (codes "attrs") (attrs_json best.route.attrs) c.in_ok-name.ensures written c.in_ok-begin_object.ensures in
    let from = member_added (codes "from") (from_json c.args.input.now best.from) c.in_ok-name-2.ensures c.in_ok-write_from.ensures attrs in
    let number = c.in_ok-number.ensures ∙ ap (λ n. with_value (count n) c.name-3.new.self) c.from.ensures in
    let pref = member_added (codes "pref") (count best.route.pref) c.in_ok-name-3.ensures number from in
    let prefix = member_added (codes "prefix") (string (prefix_text best.prefix)) c.in_ok-name-4.ensures c.in_ok-write_prefix.ensures pref in
    on_ok_weaker c.end_object.result (λ e. e ∙ ap (λ ts. ts ++ end_object ∷ []) prefix) c.end_object.ensures
