-- An UPDATE that is put keeps a session tied to its story.
use Rattle.std.proofs.Common.{◌≡◌, ℕ, ◌≤◌, List, [], ◌∷◌, ◌++◌, length, sym, ap, ◌∙◌, subst, arith, length-append}
use Rattle.bgp_types.specs.declared.message.Message.TheVariants.{UpdateMsg}
use Rattle.bgp_types.specs.declared.message.SessionState.{SessionState}
use Rattle.bgp_types.specs.declared.message.Update.{Update}
use Rattle.bgp_types.specs.Spelling.{spell}
use Rattle.bgp_story.specs.declared.line.Line.{Line}
use Rattle.bgp_story.specs.declared.line.Line.TheVariants.{Put}
use Rattle.bgp_story.specs.Legal.{Peering, is_wide}
use Rattle.bgp_story.specs.Readings.{Routes, ChangesTold, IsLegal, heard, told, apply}
use Rattle.session_value.specs.Cases.{PutsUpdate, Changes}
use Rattle.session_value.specs.Sessions.{SessionValue, peering_of, state}
use Rattle.session_value.specs.Ties.{IsTied, IsOfStory, most_put}
use Rattle.session_value.proofs.Updates as updates

module _ (before after : SessionValue) (u : Update) (g : PutsUpdate before u after) where
  abbrev p : Peering
  p = peering_of before.config

  abbrev lines : List Line
  lines = before.story ++ Put (UpdateMsg u) ∷ []

  abbrev octets : List ℕ
  octets = spell (UpdateMsg u) (is_wide p before.story)

  pub puts_tied : IsTied before → IsTied after
  puts_tied tied = subst IsTied (sym g.effect) (record {
    allowed = updates.legal_then p before.story u g.established g.one_way tied.allowed (λ _ _. Unit {0}) tt tied.allowed;
    put = ap (λ (xs : List ℕ). xs ++ octets) tied.put ∙ sym (updates.put_then p before.story u g.established g.one_way tied.allowed);
    room = subst (λ (s : SessionState). length (before.end.stream ++ octets) ≤ most_put s)
        (sym (updates.state_next p before.story u g.established g.one_way tied.allowed))
        (omega (arith, length-append before.end.stream octets, g.room));
    read = tied.read;
    got = tied.got ∙ sym (updates.got_then p before.story u g.established g.one_way tied.allowed);
  })

  changes : before.adj_rib_out ≡ told before.story → ChangesTold before.story u
  changes is = subst (λ (x : Routes). Changes x u) is g.changes

  pub puts_of_story : IsOfStory before → IsOfStory after
  puts_of_story is = record {
    tied = puts_tied is.tied;
    legal = subst (λ (s : SessionValue). IsLegal (peering_of s.config) s.story (state s)) (sym g.effect)
        (updates.legal_then p before.story u g.established g.one_way is.tied.allowed ChangesTold (changes is.adj_rib_out) is.legal);
    adj_rib_in = subst (λ (s : SessionValue). s.adj_rib_in ≡ heard (peering_of s.config) s.story) (sym g.effect)
        (is.adj_rib_in ∙ sym (updates.heard_then p before.story u g.established g.one_way is.tied.allowed));
    adj_rib_out = subst (λ (s : SessionValue). s.adj_rib_out ≡ told s.story) (sym g.effect)
        (ap (λ (x : Routes). apply x u) is.adj_rib_out ∙ sym (updates.told_then p before.story u g.established g.one_way is.tied.allowed));
  }
