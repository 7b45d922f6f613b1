-- What is got keeps a session tied to its story.
use Rattle.std.proofs.Common.{◌≡◌, ℕ, ◌≤◌, List, ◌∷◌, ◌++◌, length, sym, ap, ◌∙◌, subst, arith, length-append}
use Rattle.bgp_types.specs.declared.message.SessionState.{SessionState}
use Rattle.bgp_types.specs.FirstFault.{message_of}
use Rattle.bgp_story.specs.declared.line.Line.{Line}
use Rattle.bgp_story.specs.declared.line.Line.TheVariants.{Got}
use Rattle.bgp_story.specs.Legal.{Peering, expected_next}
use Rattle.bgp_story.specs.Readings.{Routes, ChangesTold, IsLegal, heard, told, apply_if, update_in, unless_closed}
use Rattle.bgp_story.specs.States.{state_of}
use Rattle.tcp_seq.specs.Endpoint.{received_bytes}
use Rattle.session_value.specs.Cases.{GetsFrame, put_by}
use Rattle.session_value.specs.Sessions.{SessionValue, peering_of, state}
use Rattle.session_value.specs.Ties.{IsTied, IsOfStory, most_put}
use Rattle.session_value.proofs.Ends.{read_more, read_within}
use Rattle.session_value.proofs.Gets as gets
use Rattle.session_value.proofs.Rooms.{got_has_room}

module _ (before after : SessionValue) (bytes : List ℕ) (g : GetsFrame before bytes after) where
  abbrev p : Peering
  p = peering_of before.config

  abbrev lines : List Line
  lines = before.story ++ Got bytes ∷ g.answer

  then_is : IsTied before → state_of lines ≡ g.next
  then_is tied = gets.state_next p before.story bytes g.answer g.next g.unclosed g.got g.reply tied.allowed

  pub gets_tied : IsTied before → IsTied after
  gets_tied tied = subst IsTied (sym g.effect) (record {
    allowed = gets.legal_then p before.story bytes g.answer g.next g.unclosed g.got g.reply tied.allowed (λ _ _. Unit {0}) tied.allowed;
    put = ap (λ (xs : List ℕ). xs ++ put_by before lines g.answer) tied.put
        ∙ sym (gets.put_then p before.story bytes g.answer g.next g.unclosed g.got g.reply tied.allowed);
    room = subst (λ (s : SessionState). length (before.end.stream ++ put_by before lines g.answer) ≤ most_put s) (sym (then_is tied))
        (omega (arith, length-append before.end.stream (put_by before lines g.answer), got_has_room before bytes g.answer g.next tied g.unclosed g.reply));
    read = read_within before.end.read (received_bytes before.end) bytes g.rest tied.read g.front;
    got = read_more before.end.read (received_bytes before.end) bytes g.rest g.front
        ∙ ap (λ (xs : List ℕ). xs ++ bytes) tied.got
        ∙ sym (gets.got_then p before.story bytes g.answer g.next g.unclosed g.got g.reply tied.allowed);
  })

  pub gets_of_story : IsOfStory before → IsOfStory after
  gets_of_story is = record {
    tied = gets_tied is.tied;
    legal = subst (λ (s : SessionValue). IsLegal (peering_of s.config) s.story (state s)) (sym g.effect)
        (gets.legal_then p before.story bytes g.answer g.next g.unclosed g.got g.reply is.tied.allowed ChangesTold is.legal);
    adj_rib_in = subst (λ (s : SessionValue). s.adj_rib_in ≡ heard (peering_of s.config) s.story) (sym g.effect)
        (ap (λ (x : Routes). unless_closed g.next (apply_if x (update_in (message_of (expected_next p before.story (state before)) bytes)))) is.adj_rib_in
        ∙ sym (gets.heard_then p before.story bytes g.answer g.next g.unclosed g.got g.reply is.tied.allowed));
    adj_rib_out = subst (λ (s : SessionValue). s.adj_rib_out ≡ told s.story) (sym g.effect)
        (ap (unless_closed g.next) is.adj_rib_out ∙ sym (gets.told_then p before.story bytes g.answer g.next g.unclosed g.got g.reply is.tied.allowed));
  }
