use Rattle.std.proofs.Common.{ap, sym, ◌∙◌, arith}
use Rattle.std.specs.Prelude.{slice_get}
use Rattle.std.specs.List.{filter_map}
use Rattle.std.proofs.lemmas.List.{take_all}
use Rattle.imported_sessions.proofs.Openings.{first_found, homes_are, none_found}
use Rattle.imported_sessions.proofs.home.first_home.Goals as goal

pub returns-in-Some : goal.returns-in-Some
returns-in-Some c = λ s all.
    let opened = c.args.opened.now in
    first_found (λ session. session.home) opened c.loop-session.session-index c.session-item.result c.loop-session-test.true c.session-item.is
    c.loop-session.invariant c.in-Some.home c.in-Some.is
    ∙ ap (λ homes. slice_get homes 0) (sym (homes_are s opened all))

pub loop-session-preserved : goal.loop-session-preserved
loop-session-preserved c =
    none_found (λ session. session.home) c.args.opened.now c.loop-session.session-index c.session-item.result c.loop-session-test.true c.session-item.is
    c.loop-session.invariant c.in_default.is

pub returns : goal.returns
returns c = λ s all.
    let opened = c.args.opened.now in
    let i = c.loop-session.session-index in
    let none = sym (ap (filter_map (λ session. session.home)) (take_all i opened (omega arith))) ∙ c.loop-session.invariant in
    sym (ap (λ homes. slice_get homes 0) (homes_are s opened all ∙ none))
