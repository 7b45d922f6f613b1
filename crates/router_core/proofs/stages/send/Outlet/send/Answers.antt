use Rattle.std.proofs.Common.{ℕ, [], ◌∷◌, length, subst}
use Rattle.std.proofs.lemmas.Result.{on_ok_weaker}
use Rattle.graft_steps.specs.declared.item.Item.TheVariants as items
use Rattle.graft_model.specs.declared.event.RouterEvent.TheVariants.{Emit}
use Rattle.router_core.specs.Rounds.{WritesEvent}
use Rattle.router_core.proofs.stages.send.Outlet.send.Goals as goal

pub returns-clause-sent : goal.returns-clause-sent
returns-clause-sent c = on_ok_weaker c.note_router_sent.result
    (λ wrote. subst (λ (n : ℕ). WritesEvent c.args.post.now (Emit c.args.self.place n (length c.args.segment.bytes))
    ((c.args.self.to, items.Seg c.args.segment) ∷ []) c.note_router_sent.new.post) c.offset_from.ensures
    (subst (λ (n : ℕ). WritesEvent c.args.post.now (Emit c.args.self.place c.offset_from.result n)
    ((c.args.self.to, items.Seg c.args.segment) ∷ []) c.note_router_sent.new.post) c.len.ensures wrote)) c.note_router_sent.ensures.ok
