use Rattle.std.proofs.Common.{ℕ, List, [], ◌∷◌, ◌++◌, map, ap, ◌∙◌}
use Rattle.std.specs.Prelude.{codes}
use Rattle.std.proofs.lemmas.Result.{on_ok_weaker}
use Rattle.json.specs.Token.{end_object}
use Rattle.serde_json.specs.Data.{boolean, string}
use Rattle.bgp_types.specs.Texts.{address_text}
use Rattle.bgp_types.specs.declared.attrs.RawAttr.{RawAttr}
use Rattle.message_words.specs.Updates.{origin_text}
use Rattle.report_json.specs.Run.{path_json}
use Rattle.report_json.specs.Tokens.{with_value}
use Rattle.report_json.specs.Values.{count_or_null, list_of}
use Rattle.report_json.proofs.Tokens.{member_added}
use Rattle.message_json.specs.Attrs.{aggregator_json, raw_json}
use Rattle.message_json.proofs.attrs.write_attrs.Goals as goal

pub returns : goal.returns
returns c =
    let attrs = c.args.attrs.now in
    let aggregator =
    member_added (codes "aggregator") (aggregator_json attrs.aggregator) c.in_ok-name.ensures c.in_ok-write_aggregator.ensures c.in_ok-begin_object.ensures in
    let atomic = member_added (codes "atomic") (boolean attrs.atomic) c.in_ok-name-2.ensures c.in_ok-truth.ensures aggregator in
    let med = member_added (codes "med") (count_or_null attrs.med) c.in_ok-name-3.ensures c.in_ok-write_count_or_null.ensures atomic in
    let next_hop = member_added (codes "next_hop") (string (address_text attrs.next_hop)) c.in_ok-name-4.ensures c.in_ok-write_address.ensures med in
    let named = c.in_ok-text.ensures ∙ ap (λ (name : List ℕ). with_value (string name) c.name-5.new.self) c.origin_name.ensures in
    let origin = member_added (codes "origin") (string (origin_text attrs.origin)) c.in_ok-name-5.ensures named next_hop in
    let path = member_added (codes "path") (path_json attrs.path) c.in_ok-name-6.ensures c.in_ok-write_path.ensures origin in
    let others = c.in_ok-write_unknown.ensures ∙ ap (λ (raws : List RawAttr). with_value (list_of (map raw_json raws)) c.name-7.new.self) c.deref.ensures in
    let unknown = member_added (codes "unknown") (list_of (map raw_json attrs.unknown)) c.in_ok-name-7.ensures others path in
    on_ok_weaker c.end_object.result (λ e. e ∙ ap (λ ts. ts ++ end_object ∷ []) unknown) c.end_object.ensures
