use Rattle.std.proofs.Common.{ℕ, [], ap, subst, ◌∙◌}
use Rattle.graft_actors.specs.Notes.{WroteOne}
use Rattle.std.proofs.lemmas.Result.{on_ok_weaker}
use Rattle.tcp_seq.specs.Endpoint.{PlacedSegment}
use Rattle.far_side.specs.Links.{LinkValue}
use Rattle.far_side.specs.Passes.{put_in}
use Rattle.far_side.specs.declared.fields.Fields.{Fields}
use Rattle.far_side.proofs.EmitSteps.{from_on, same_offsets}
use Rattle.far_side.proofs.emit.send.Goals as goal
use Rattle.graft_model.specs.declared.event.FarEvent.TheVariants.{Send}
use Rattle.graft_model.specs.Codes.{far_code}

pub put-requires : goal.put-requires
put-requires g c = from_on c.args.far.now c.args.segment c.requires.keeps c.requires.own

pub returns-clause-sent : goal.returns-clause-sent
returns-clause-sent g c = on_ok_weaker c.put.result
    (λ same. (
      subst (λ (n : ℕ). WroteOne c.args.post.now (far_code (Send c.args.from n)) [] c.note_far.new.post) c.len-len.ensures c.in_ok-note_far.ensures.ok,
      ap (λ (l : LinkValue). let f : Fields = record c.args.far.now { homeward = l } in f)
          (same ∙ ap (λ (p : PlacedSegment). put_in c.args.far.now.homeward c.args.far.now p) (same_offsets c.args.far.now c.args.segment c.requires.keeps)),
    ))
    c.put.ensures
