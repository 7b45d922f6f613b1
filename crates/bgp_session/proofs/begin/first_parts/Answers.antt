use Rattle.std.proofs.Common.{false, arith, ℕ, List, [], ◌∷◌, ap, ◌∙◌}
use Rattle.bgp_types.specs.declared.message.Message.TheVariants.{OpenMsg}
use Rattle.bgp_types.specs.declared.message.OpenMsg as open_type
use Rattle.tcp_seq.specs.declared.segment.Way.TheVariants.{Remote}
use Rattle.tcp_seq.specs.declared.state.EndState.{EndState}
use Rattle.tcp_end.specs.State.{fresh_end}
use Rattle.bgp_story.specs.declared.line.Line.TheVariants.{Put}
use Rattle.bgp_story.specs.States.{StoryValue}
use Rattle.bgp_session.proofs.Begun.{begins, first_short}
use Rattle.bgp_session.proofs.begin.first_parts.Goals as goal

pub first_end-requires : goal.first_end-requires
first_end-requires c = rw (c.as_slice.ensures, c.in_ok-octets.ensures) (let short = first_short c.args.config false c.requires in omega arith)

pub returns-clause-keeps : goal.returns-clause-keeps
returns-clause-keeps c =
    (begins c.args.config c.args.alloc c.requires (omega arith) (omega arith) c.in_ok-story.story c.new.result c.new-2.result c.in_ok-end.end
    (c.in_ok-story.ensures ∙ ap (λ (o : open_type.OpenMsg).
    let s : StoryValue = record { lines = Put (OpenMsg o) ∷ []; remote_as = c.args.config.remote_as } in s) c.in_ok-open.ensures)
    c.new.ensures c.new-2.ensures
    (c.in_ok-end.ensures ∙ ap (λ (xs : List ℕ). let e : EndState = record (fresh_end Remote c.args.config.peering
    c.args.config.send_first c.args.config.receive_first) { waiting = xs } in e) (c.as_slice.ensures ∙ c.in_ok-octets.ensures))).1
