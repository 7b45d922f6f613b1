use Rattle.std.proofs.Common.{ap, ◌∙◌}
use Rattle.std.proofs.lemmas.Result.{on_ok_weaker}
use Rattle.serde_json.specs.Data.{Data}
use Rattle.report_json.specs.Tokens.{with_value}
use Rattle.report_json.specs.Values.{count}
use Rattle.why_view.specs.Stories.{story_peering}
use Rattle.show_json.proofs.Agreed.{width_is}
use Rattle.show_json.proofs.sessions.write_width.Goals as goal

pub returns-in-Some : goal.returns-in-Some
returns-in-Some c = λ input.
    let is = ap count c.from.ensures ∙ width_is (story_peering input c.args.peering.now).first c.args.opened.now _ c.in-Some.is c.as_octets.result
    c.is_wide.result c.as_octets.ensures (c.is_wide.ensures input) in
    on_ok_weaker c.number.result (λ w. w ∙ ap (λ (d : Data). with_value d c.args.out.now) is) c.number.ensures
