use Rattle.std.proofs.Common.{ℕ, ◌≡◌, ◌+◌, ap, sym, subst, ◌∙◌}
use Rattle.tcp_seq.specs.declared.state.EndState.{EndState}
use Rattle.tcp_end.specs.State.{LieFrom}
use Rattle.tcp_end.specs.Whole.{numbered_in}
use Rattle.session_value.specs.Sessions.{unread}
use Rattle.bgp_session.specs.Running.{RunningSession}
use Rattle.capsule_parts.specs.Parts.{parts_of}
use Rattle.capsule_parts.specs.Sound.{IsAtRest, IsSound}
use Rattle.capsule_parts.proofs.Whole.{end_shown, held_shown, shown_parts, shown_sound, shown_whole}
use Rattle.capsule_parts.proofs.to.to_parts.Goals as goal

pub returns-clause-parts : goal.returns-clause-parts
returns-clause-parts c =
    let shown = c.session-session.result.now in
    let s = c.in_ok-end.end in
    let pieces = c.in_ok-end-2.field-0 in
    let same = c.in_ok-end-2.ensures.bytes ∙ ap numbered_in c.as_slice.ensures in
    let apart = λ (below high : ℕ) (lie : LieFrom (below + 1) high s.ahead).
    c.in_ok-end-2.ensures.apart below high (subst (LieFrom (below + 1) high) (sym c.as_slice.ensures) lie) in
    let end : EndState = record s { taken = s.taken + c.len.result; ready = c.replace-held.new.dest; ahead = pieces } in
    let held : c.held.inside.vec.items ≡ unread shown.session =
    let is = c.held.view_is in
    let value = c.replace-held.ensures.value in
    let all = held_shown shown s pieces c.in_ok-end.ensures.end c.in_ok-end.ensures.whole same apart in
    cc in
    subst (λ (r : RunningSession). shown_parts c.config-config.result.now c.in_ok-name_copy.field-0 c.in_ok-name_copy-2.field-0 end c.held.inside.vec.items
    c.in_ok-story_of.field-0 c.new-2.result ≡ parts_of r) c.session-session.ensures
    (shown_whole shown s pieces c.in_ok-end.ensures.end c.in_ok-end.ensures.whole same apart c.config-config.result.now c.in_ok-name_copy.field-0
    c.in_ok-name_copy-2.field-0 end c.held.inside.vec.items c.in_ok-story_of.field-0 c.new-2.result c.config-config.ensures c.in_ok-name_copy.ensures
    c.in_ok-name_copy-2.ensures
    (end_shown shown s pieces c.in_ok-end.ensures.end c.in_ok-end.ensures.whole same apart (s.taken + c.len.result) c.replace-held.new.dest
    (ap (λ (n : ℕ). s.taken + n) c.len.ensures) (c.replace-held.ensures.after ∙ c.new.ensures))
    held c.in_ok-story_of.ensures c.new-2.ensures)

pub returns-clause-sound : goal.returns-clause-sound
returns-clause-sound c = subst (λ (r : RunningSession). IsAtRest r → IsSound (parts_of r)) c.session-session.ensures
    (shown_sound c.session-session.result.now c.in_ok-end.end c.in_ok-end-2.field-0 c.in_ok-end.ensures.end c.in_ok-end.ensures.whole
    (c.in_ok-end-2.ensures.bytes ∙ ap numbered_in c.as_slice.ensures)
    (λ below high lie. c.in_ok-end-2.ensures.apart below high (subst (LieFrom (below + 1) high) (sym c.as_slice.ensures) lie)))
