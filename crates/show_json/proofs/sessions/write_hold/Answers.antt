use Rattle.std.proofs.Common.{◌≡◌, min, ap, ◌∙◌, arith}
use Rattle.std.proofs.lemmas.Result.{on_ok_weaker}
use Rattle.serde_json.specs.Data.{Data}
use Rattle.report_json.specs.Tokens.{with_value}
use Rattle.report_json.specs.Values.{count}
use Rattle.why_view.specs.Stories.{story_peering}
use Rattle.show_json.proofs.Agreed.{hold_is}
use Rattle.show_json.proofs.sessions.write_hold.Goals as goal

pub returns-in-Some : goal.returns-in-Some
returns-in-Some c = λ input.
    let hold : c.min.result ≡ min c.args.peering.now.home_hold c.in-Some.theirs.hold = omega (arith, c.min.ensures) in
    let ours = (story_peering input c.args.peering.now).first in
    let is = ap count c.from.ensures ∙ hold_is ours c.args.opened.now c.in-Some.theirs c.in-Some.is c.min.result hold in
    on_ok_weaker c.number.result (λ w. w ∙ ap (λ (d : Data). with_value d c.args.out.now) is) c.number.ensures
