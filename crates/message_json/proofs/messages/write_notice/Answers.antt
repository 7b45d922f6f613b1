use Rattle.std.proofs.Common.{ℕ, List, [], ◌∷◌, ◌++◌, Option, ap, ◌∙◌}
use Rattle.std.specs.Prelude.{codes}
use Rattle.std.proofs.lemmas.Result.{on_ok_weaker}
use Rattle.json.specs.Token.{end_object}
use Rattle.hex.specs.Hex.{encode_lower}
use Rattle.serde_json.specs.Data.{string}
use Rattle.message_words.specs.Names.{fault_name}
use Rattle.message_words.specs.Notices.{communication}
use Rattle.report_json.specs.Tokens.{with_value}
use Rattle.report_json.specs.Values.{count, text_or_null}
use Rattle.report_json.proofs.Tokens.{member_added}
use Rattle.message_json.proofs.messages.write_notice.Goals as goal

pub returns : goal.returns
returns c =
    let notice = c.args.notice.now in
    let first = c.in_ok-number.ensures ∙ ap (λ n. with_value (count n) c.name.new.self) c.from.ensures in
    let code = member_added (codes "code") (count notice.code) c.in_ok-name.ensures first c.in_ok-begin_object.ensures in
    let octets = c.in_ok-write_octets.ensures ∙ ap (λ (info : List ℕ). with_value (string (encode_lower info)) c.name-2.new.self) c.deref.ensures in
    let info = member_added (codes "data") (string (encode_lower notice.info)) c.in_ok-name-2.ensures octets code in
    let named = c.in_ok-write_text_or_null.ensures
    ∙ ap (λ (text : Option (List ℕ)). with_value (text_or_null text) c.name-3.new.self) c.fault_name.ensures in
    let name = member_added (codes "name") (text_or_null (fault_name notice.code notice.subcode)) c.in_ok-name-3.ensures named info in
    let second = c.in_ok-number-2.ensures ∙ ap (λ n. with_value (count n) c.name-4.new.self) c.from-2.ensures in
    let subcode = member_added (codes "subcode") (count notice.subcode) c.in_ok-name-4.ensures second name in
    let said = c.in_ok-write_text_or_null-2.ensures
    ∙ ap (λ (text : Option (List ℕ)). with_value (text_or_null text) c.name-5.new.self) c.communication.ensures in
    let text = member_added (codes "text") (text_or_null (communication notice)) c.in_ok-name-5.ensures said subcode in
    on_ok_weaker c.end_object.result (λ e. e ∙ ap (λ ts. ts ++ end_object ∷ []) text) c.end_object.ensures
