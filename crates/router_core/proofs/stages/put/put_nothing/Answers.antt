use Rattle.std.proofs.Common.{refl, sym, ◌∙◌}
use Rattle.std.proofs.lemmas.Result.{on_ok_weaker}
use Rattle.rib_stages.specs.Values.{table_at}
use Rattle.router_core.proofs.PutPlaces.{none_of, some_due, puts_idle, puts_nothing}
use Rattle.router_core.proofs.stages.put.put_nothing.Goals as goal

pub returns-then-is_none-clause-puts : goal.returns-then-is_none-clause-puts
returns-then-is_none-clause-puts c = puts_idle c.args.n c.args.router.now c.args.post.now c.requires.keeps
    (sym c.first.ensures ∙ none_of c.first.result c.is_none.result c.is_none.ensures c.if-is_none.true)

pub returns-clause-puts : goal.returns-clause-puts
returns-clause-puts c =
    let f = c.args.router.now in
    let due = some_due (table_at f.due_out c.args.n) c.first.result c.is_none.result c.first.ensures c.is_none.ensures c.if-is_none.false in
    on_ok_weaker c.note_router.result
    (λ wrote. puts_nothing f
    (record f { due_out = c.clear.new.self }) c.args.post.now c.note_router.new.post c.args.n c.requires.keeps c.requires.clean due.0 due.1
    c.clear.ensures.cleared c.clear.ensures.length refl wrote c.requires.planned)
    c.note_router.ensures.ok
