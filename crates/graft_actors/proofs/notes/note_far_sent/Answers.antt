use Rattle.std.proofs.Common.{OnOk, subst, ◌∷◌, []}
use Rattle.graft_model.specs.declared.code.Code.{Code}
use Rattle.graft_actors.specs.Notes.{WroteOne}
use Rattle.graft_actors.proofs.notes.note_far_sent.Goals as goal

-- src/notes.rt
pub returns-clause-ok : goal.returns-clause-ok
returns-clause-ok g c = subst (λ (code : Code). OnOk c.note_and_send.result
    (WroteOne c.args.post.now code ((c.args.to, c.args.item) ∷ []) c.note_and_send.new.post)) c.code.ensures c.note_and_send.ensures.ok
