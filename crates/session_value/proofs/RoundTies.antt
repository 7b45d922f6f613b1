-- A round that passes keeps a session tied to its story.
use Rattle.std.proofs.Common.{◌≡◌, ℕ, ◌≤◌, List, ◌∷◌, ◌++◌, length, sym, ap, ◌∙◌, subst, arith, length-append}
use Rattle.bgp_types.specs.declared.message.SessionState.{SessionState}
use Rattle.bgp_story.specs.declared.line.Line.{Line}
use Rattle.bgp_story.specs.declared.line.Line.TheVariants.{Tick}
use Rattle.bgp_story.specs.Legal.{Peering}
use Rattle.bgp_story.specs.Readings.{ChangesTold, IsLegal, heard, told, unless_closed}
use Rattle.bgp_story.specs.States.{state_of}
use Rattle.session_value.specs.Cases.{PassesRound, put_by}
use Rattle.session_value.specs.Sessions.{SessionValue, peering_of, state}
use Rattle.session_value.specs.Ties.{IsTied, IsOfStory, most_put}
use Rattle.session_value.proofs.Rooms.{passed_has_room}
use Rattle.session_value.proofs.Rounds as rounds

module _ (before after : SessionValue) (round : ℕ) (g : PassesRound before round after) where
  abbrev p : Peering
  p = peering_of before.config

  abbrev lines : List Line
  lines = before.story ++ Tick round ∷ g.answer

  then_is : IsTied before → state_of lines ≡ g.next
  then_is tied = rounds.state_next p before.story round g.answer g.next g.up g.runs g.later g.reply tied.allowed

  pub passes_tied : IsTied before → IsTied after
  passes_tied tied = subst IsTied (sym g.effect) (record {
    allowed = rounds.legal_then p before.story round g.answer g.next g.up g.runs g.later g.reply tied.allowed (λ _ _. Unit {0}) tied.allowed;
    put = ap (λ (xs : List ℕ). xs ++ put_by before lines g.answer) tied.put
        ∙ sym (rounds.put_then p before.story round g.answer g.next g.up g.runs g.later g.reply tied.allowed);
    room = subst (λ (s : SessionState). length (before.end.stream ++ put_by before lines g.answer) ≤ most_put s) (sym (then_is tied))
        (omega (arith, length-append before.end.stream (put_by before lines g.answer), passed_has_room before round g.answer g.next g.up g.room g.reply));
    read = tied.read;
    got = tied.got ∙ sym (rounds.got_then p before.story round g.answer g.next g.up g.runs g.later g.reply tied.allowed);
  })

  pub passes_of_story : IsOfStory before → IsOfStory after
  passes_of_story is = record {
    tied = passes_tied is.tied;
    legal = subst (λ (s : SessionValue). IsLegal (peering_of s.config) s.story (state s)) (sym g.effect)
        (rounds.legal_then p before.story round g.answer g.next g.up g.runs g.later g.reply is.tied.allowed ChangesTold is.legal);
    adj_rib_in = subst (λ (s : SessionValue). s.adj_rib_in ≡ heard (peering_of s.config) s.story) (sym g.effect)
        (ap (unless_closed g.next) is.adj_rib_in ∙ sym (rounds.heard_then p before.story round g.answer g.next g.up g.runs g.later g.reply is.tied.allowed));
    adj_rib_out = subst (λ (s : SessionValue). s.adj_rib_out ≡ told s.story) (sym g.effect)
        (ap (unless_closed g.next) is.adj_rib_out ∙ sym (rounds.told_then p before.story round g.answer g.next g.up g.runs g.later g.reply is.tied.allowed));
  }
