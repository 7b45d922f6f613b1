use Rattle.std.proofs.Common.{arith, List}
use Rattle.std.proofs.lemmas.Result.{on_ok_weaker}
use Rattle.imported_sessions.specs.declared.imported.Said.{Said}
use Rattle.imported_sessions.specs.Heard.{said_in}
use Rattle.imported_sessions.specs.Packed.{AreMoreStepsOf}
use Rattle.imported_sessions.proofs.Hearing.{unknown, takes_home, takes_remote}
use Rattle.imported_sessions.proofs.Packing.{none_more}
use Rattle.imported_sessions.proofs.heard.take_flow.Goals as goal

pub returns-then-flow-len : goal.returns-then-flow-len
returns-then-flow-len c = λ before count is.
    let u = unknown before c.args.flow.now count c.args.sessions.now.items is (omega arith) in
    (u.0, none_more c.args.opened.now c.args.home_as (said_in count before c.args.flow.now) c.args.steps.now.items u.1)

pub returns-in-Home : goal.returns-in-Home
returns-in-Home c = on_ok_weaker c.take_octets.result
    (λ taken before count is.
    takes_home before c.args.flow.now count c.args.sessions.now.items is (omega arith) c.index_mut-session.result.now c.index_mut-session.ensures.value
    c.in-Home.is c.take_octets.new.session c.deref.result.now
    (λ (more : List Said). AreMoreStepsOf c.args.opened.now c.args.home_as more c.args.steps.now.items c.take_octets.new.steps.items) c.deref.ensures taken)
    c.take_octets.ensures

pub returns-in-Remote : goal.returns-in-Remote
returns-in-Remote c = on_ok_weaker c.take_home.result
    (λ taken before count is.
    let t = takes_remote before c.args.flow.now count c.args.sessions.now.items is (omega arith) c.index_mut-session.result.now
    c.index_mut-session.ensures.value c.in-Remote.is c.deref-in-Remote.result.now c.take_home.new.home c.deref-in-Remote.ensures taken in
    (t.0, none_more c.args.opened.now c.args.home_as (said_in count before c.args.flow.now) c.args.steps.now.items t.1))
    c.take_home.ensures
