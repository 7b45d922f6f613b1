use Rattle.std.proofs.Common.{◌++◌, List, [], ◌∷◌, sym, ap, ◌∙◌, append-nil, option_copied}
use Rattle.std.specs.Prelude.{Option}
use Rattle.route_policy.specs.Candidates.{SessionRoute}
use Rattle.lab_report.specs.declared.lab.SessionView.{SessionView}
use Rattle.why_view.specs.Sources.{route_of_view}
use Rattle.why_view.proofs.sources.push_view.Goals as goal

pub returns-in_ok-push-in-Some : goal.returns-in_ok-push-in-Some
returns-in_ok-push-in-Some c = λ input.
    let sessions = c.args.sessions.now in
    let rest : Option SessionView → List SessionRoute =
    λ view. route_of_view input c.args.router.now c.args.prefix (c.args.number.0, c.args.peering.now) view in
    c.in_ok-push-in-Some.ensures.ok ∙ ap (λ (e : SessionRoute). sessions ++ e ∷ []) (c.in_ok-entry-in-Some.ensures input)
    ∙ ap (λ view. sessions ++ rest view) (sym (ap option_copied c.in-Some.is))

pub returns-in-None : goal.returns-in-None
returns-in-None c = λ input.
    let sessions = c.args.sessions.now in
    let rest : Option SessionView → List SessionRoute =
    λ view. route_of_view input c.args.router.now c.args.prefix (c.args.number.0, c.args.peering.now) view in
    sym (append-nil sessions) ∙ ap (λ view. sessions ++ rest view) (sym (ap option_copied c.in-None.is))
