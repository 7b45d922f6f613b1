use Rattle.std.proofs.Common.{◌++◌, List, sym, ap, ◌∙◌, append-nil, option_copied}
use Rattle.std.proofs.lemmas.Result.{on_ok_weaker}
use Rattle.route_policy.specs.Candidates.{SessionRoute}
use Rattle.why_view.proofs.GivenParts.{session_there, session_elsewhere}
use Rattle.why_view.proofs.sources.push_session.Goals as goal

pub returns-then-is_at : goal.returns-then-is_at
returns-then-is_at c =
    let lab = c.args.lab.now in
    on_ok_weaker c.push_view.result
    (λ put. put ∙ ap (λ (l : List SessionRoute). c.args.sessions.now ++ l)
    (session_there lab (c.args.number.0, c.args.router.now) c.args.prefix (c.args.peering.0, c.args.input.now) (option_copied c.place_of-place.result)
    (option_copied c.view_of-view.result) c.is_at.result c.is_at.ensures c.place_of-place.ensures c.view_of-view.ensures c.if-is_at.true))
    (c.push_view.ensures lab.input)

pub returns : goal.returns
returns c =
    sym (append-nil c.args.sessions.now) ∙ ap (λ (l : List SessionRoute). c.args.sessions.now ++ l)
    (sym (session_elsewhere c.args.lab.now (c.args.number.0, c.args.router.now) c.args.prefix (c.args.peering.0, c.args.input.now)
    (option_copied c.place_of-place.result) c.is_at.result c.is_at.ensures c.place_of-place.ensures c.if-is_at.false))
