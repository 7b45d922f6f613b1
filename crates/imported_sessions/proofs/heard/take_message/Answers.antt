use Rattle.std.proofs.Common.{◌≡◌, [], ◌++◌, sym, ap, ◌∙◌, subst, rules, arith}
use Rattle.imported_sessions.specs.declared.heard.Stage.TheVariants.{Whole}
use Rattle.imported_sessions.proofs.Behind.{Takes, takes_first, takes_joined, takes_apart, takes_later, opening_from}
use Rattle.imported_sessions.proofs.heard.take_message.Goals as goal
use Rattle.imported_sessions.proofs.heard.take_message.Goals.{then-kind-ne-KEEPALIVE-via-then-kind-ne-KEEPALIVE}
use Rattle.imported_sessions.proofs.heard.take_message.Goals.{then-kind-ne-KEEPALIVE-via-else-kind-ne-KEEPALIVE+then-saturating_add-gt-MOST}

pub returns-in-Nothing-clause-taken : goal.returns-in-Nothing-clause-taken
returns-in-Nothing-clause-taken c = λ all is kind. takes_first c.args.message all c.args.opening.now is c.in-Nothing.is

pub returns-then-kind-ne-KEEPALIVE-clause-taken : goal.returns-then-kind-ne-KEEPALIVE-clause-taken
returns-then-kind-ne-KEEPALIVE-clause-taken c = λ all is kind. takes_apart c.args.message all c.args.opening.now is c.in-Open.is (λ keepalive room.
    elim c.then-kind-ne-KEEPALIVE.branch [
      | then-kind-ne-KEEPALIVE-via-then-kind-ne-KEEPALIVE w ↦ w.if-kind-ne-KEEPALIVE.true (kind ∙ keepalive)
      | then-kind-ne-KEEPALIVE-via-else-kind-ne-KEEPALIVE+then-saturating_add-gt-MOST w ↦ omega arith
    ])

pub returns-in_ok-extend-in-Open-clause-taken : goal.returns-in_ok-extend-in-Open-clause-taken
returns-in_ok-extend-in-Open-clause-taken c = λ all is kind.
    let octets = c.in_ok-extend-in-Open.ensures.ok ∙ ap (λ xs. c.args.opening.now.octets ++ xs) c.deref.ensures in
    subst (λ o. Takes all c.args.message (opening_from Whole o) []) (sym octets)
    (takes_joined c.args.message all c.args.opening.now is c.in-Open.is (let e : c.args.kind ≡ 4 = search rules in sym kind ∙ e) (omega arith))

pub returns-in-Whole-clause-taken : goal.returns-in-Whole-clause-taken
returns-in-Whole-clause-taken c = λ all is kind. takes_later c.args.message all c.args.opening.now is c.in-Whole.is
