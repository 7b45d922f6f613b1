-- A session that is made again: its end, and the rounds that pass in it.
use Rattle.std.proofs.Common.{◌≡◌, ℕ, ◌+◌, ◌≤◌, List, ◌∷◌, ◌++◌, length, refl, sym, ap, ◌∙◌, subst, arith, length-append}
use Rattle.bgp_types.specs.declared.message.SessionState.{SessionState}
use Rattle.bgp_story.specs.declared.line.Line.{Line}
use Rattle.bgp_story.specs.declared.line.Line.TheVariants.{Tick}
use Rattle.bgp_story.specs.Legal.{Peering}
use Rattle.bgp_story.specs.Readings.{ChangesTold, IsLegal, heard, told, unless_closed}
use Rattle.bgp_story.specs.States.{state_of}
use Rattle.session_value.specs.Cases.{put_by}
use Rattle.session_value.specs.Sessions.{SessionValue, peering_of, state}
use Rattle.session_value.specs.Ties.{IsTied, IsOfStory, most_put}
use Rattle.session_value.proofs.Rounds as rounds
use Rattle.tcp_seq.specs.declared.state.EndState.{EndState}
use Rattle.bgp_session.specs.declared.parts.Parts.{Parts}
use Rattle.bgp_session.specs.Inner.{SessionInvariant, running, value_of}
use Rattle.bgp_session.specs.Steps.{IsEndFor, PassesAgain, with_end}

-- ---- its end

pub end_is_for : (parts : Parts) (s : EndState) → s ≡ parts.end → SessionInvariant parts
    → IsEndFor (value_of parts) s × (running parts ≡ with_end (value_of parts) s)
end_is_for parts s same k = subst (λ (x : EndState). IsEndFor (value_of parts) x × (running parts ≡ with_end (value_of parts) x)) (sym same) (
  record { peering = k.peering; way = k.way; send_first = k.send_first; receive_first = k.receive_first; stands = k.stands; tied = k.tied },
  refl,
)

pub goes_on : (parts : Parts) (s end : EndState) → s ≡ end → SessionInvariant parts → IsEndFor (value_of parts) end
    → (running (record parts { end = s }) ≡ with_end (value_of parts) end) × SessionInvariant (record parts { end = s })
goes_on parts s end same k for =
    subst (λ (x : EndState). (running (record parts { end = x }) ≡ with_end (value_of parts) end) × SessionInvariant (record parts { end = x })) (sym same) (
      refl,
      record {
        stands = for.stands;
        tied = for.tied;
        peering = for.peering;
        way = for.way;
        send_first = for.send_first;
        receive_first = for.receive_first;
        send_fits = k.send_fits;
        receive_fits = k.receive_fits;
        remote_as = k.remote_as;
        opened = k.opened;
        left = k.left;
        next_round = k.next_round;
      },
    )

-- ---- a round that passes, whatever room it leaves

module _ (before after : SessionValue) (round : ℕ) (g : PassesAgain before round after) where
  abbrev p : Peering
  p = peering_of before.config

  abbrev lines : List Line
  lines = before.story ++ Tick round ∷ g.answer

  then_is : IsTied before → state_of lines ≡ g.next
  then_is tied = rounds.state_next p before.story round g.answer g.next g.up g.runs g.later g.reply tied.allowed

  pub again_tied : IsTied before → IsTied after
  again_tied tied = subst IsTied (sym g.effect) (record {
    allowed = rounds.legal_then p before.story round g.answer g.next g.up g.runs g.later g.reply tied.allowed (λ _ _. Unit {0}) tied.allowed;
    put = ap (λ (xs : List ℕ). xs ++ put_by before lines g.answer) tied.put
        ∙ sym (rounds.put_then p before.story round g.answer g.next g.up g.runs g.later g.reply tied.allowed);
    room = subst (λ (s : SessionState). length (before.end.stream ++ put_by before lines g.answer) ≤ most_put s) (sym (then_is tied))
        (let fits = g.fits in let all = length-append before.end.stream (put_by before lines g.answer) in omega (arith, all, fits));
    read = tied.read;
    got = tied.got ∙ sym (rounds.got_then p before.story round g.answer g.next g.up g.runs g.later g.reply tied.allowed);
  })

  pub again_of_story : IsOfStory before → IsOfStory after
  again_of_story is = record {
    tied = again_tied is.tied;
    legal = subst (λ (s : SessionValue). IsLegal (peering_of s.config) s.story (state s)) (sym g.effect)
        (rounds.legal_then p before.story round g.answer g.next g.up g.runs g.later g.reply is.tied.allowed ChangesTold is.legal);
    adj_rib_in = subst (λ (s : SessionValue). s.adj_rib_in ≡ heard (peering_of s.config) s.story) (sym g.effect)
        (ap (unless_closed g.next) is.adj_rib_in ∙ sym (rounds.heard_then p before.story round g.answer g.next g.up g.runs g.later g.reply is.tied.allowed));
    adj_rib_out = subst (λ (s : SessionValue). s.adj_rib_out ≡ told s.story) (sym g.effect)
        (ap (unless_closed g.next) is.adj_rib_out ∙ sym (rounds.told_then p before.story round g.answer g.next g.up g.runs g.later g.reply is.tied.allowed));
  }
