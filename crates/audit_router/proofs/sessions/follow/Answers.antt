use Rattle.std.proofs.Common.{ℕ, List, sym, subst, arith}
use Rattle.std.specs.Prelude.{OnOk}
use Rattle.std.proofs.lemmas.Result.{on_ok_weaker}
use Rattle.bgp_types.specs.Prefixes.{PrefixValue}
use Rattle.bgp_session.specs.declared.answers.ReadStep.{ReadStep}
use Rattle.router_tables.specs.Entering.{entry_here}
use Rattle.audit_tables.specs.Changes.{ChangesDue, EntersHere}
use Rattle.audit_tables.specs.Parts.{IsForgotten}
use Rattle.audit_tables.specs.declared.tables.Tables.{Tables}
use Rattle.audit_router.specs.Followed.{IsFollowed}
use Rattle.audit_router.proofs.Following.{both_ok, changed, closed, established, opened}
use Rattle.audit_router.proofs.sessions.follow.Goals as goal

pub forget-requires : goal.forget-requires
forget-requires c = omega (arith, c.requires.there, c.requires.sound.pending)

pub returns-in-Opened : goal.returns-in-Opened
returns-in-Opened c =
    let t = c.args.tables.now in
    let s = c.args.session.now.session in
    subst (λ (step : ReadStep). IsFollowed step c.args.p s t c.forget.new.self) (sym c.in-Opened.is)
    (opened t c.requires.sound c.args.p s c.forget.new.self (omega (arith, c.requires.there, c.requires.sound.pending)) c.forget.ensures.same c.forget.ensures.forgets)

pub returns-in-Established : goal.returns-in-Established
returns-in-Established c =
    let t = c.args.tables.now in
    let s = c.args.session.now.session in
    let u : Tables = c.set_due_best.new.self in
    let both : OnOk c.set_due_best.result (ChangesDue c.args.p t u × IsForgotten c.args.p u) =
    both_ok c.set_due_best.result (λ x changes forgets. (changes, forgets)) c.set_due_best.ensures.changes c.set_due_best.ensures.forgets in
    both_ok c.set_due_best.result (λ x due more. subst (λ (step : ReadStep). IsFollowed step c.args.p s t u) (sym c.in-Established.is)
    (established t c.requires.sound c.args.p s u due more.0 more.1)) c.set_due_best.ensures.due both

pub enter-requires-clause-there : goal.enter-requires-clause-there
enter-requires-clause-there c = omega (arith, c.requires.own.peering, c.requires.there)

pub returns-in-Changed : goal.returns-in-Changed
returns-in-Changed c =
    let t = c.args.tables.now in
    let s = c.args.session.now.session in
    let u : Tables = c.enter.new.self in
    on_ok_weaker c.enter.result (λ enters. subst (λ (step : ReadStep). IsFollowed step c.args.p s t u) (sym c.in-Changed.is)
    (changed t c.requires.sound c.args.p s u c.in-Changed.prefixes
    (subst (λ (n : ℕ). EntersHere n (entry_here t.home_as t.policies s) c.in-Changed.prefixes t u) c.requires.own.peering
    (subst (λ (l : List PrefixValue). EntersHere s.config.peering.0 (entry_here t.home_as t.policies s) l t u) c.as_slice.ensures enters))))
    c.enter.ensures

pub returns-in-Closed : goal.returns-in-Closed
returns-in-Closed c =
    let t = c.args.tables.now in
    let s = c.args.session.now.session in
    let mid : Tables = c.clear_due.new.self in
    let u : Tables = c.enter-in-Closed.new.self in
    on_ok_weaker c.enter-in-Closed.result (λ enters. subst (λ (step : ReadStep). IsFollowed step c.args.p s t u) (sym c.in-Closed.is)
    (closed t c.requires.sound c.args.p s u mid c.in-Closed.prefixes c.clear_due.ensures.due c.clear_due.ensures.changes
    (subst (λ (n : ℕ). EntersHere n (entry_here mid.home_as mid.policies s) c.in-Closed.prefixes mid u) c.requires.own.peering
    (subst (λ (l : List PrefixValue). EntersHere s.config.peering.0 (entry_here mid.home_as mid.policies s) l mid u) c.as_slice-in-Closed.ensures enters))))
    c.enter-in-Closed.ensures
