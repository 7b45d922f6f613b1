-- A world in which an UPDATE is put: 10.0.0.0/8 is a network of router b's own, which router a has heard and is to tell on the session.
use Rattle.std.specs.Prelude.{ℕ, List, [], ◌∷◌, ◌++◌, None}
use Rattle.std.specs.FinMap as map
use Rattle.bgp_types.specs.declared.rank.From.TheVariants as from
use Rattle.bgp_types.specs.Spelling.{framed}
use Rattle.bgp_story.specs.WorkedSessions.{told_lines, attrs_over}
use Rattle.route_policy.specs.Candidates.{own_route}
use Rattle.route_policy.specs.declared.best.Best.{Best}
use Rattle.session_value.specs.Sessions.{SessionValue}
use Rattle.graft_model.specs.Points.{at}
use Rattle.graft_model.specs.Parts.{Vacant, Live, RouterPart, World}
use Rattle.graft_worked.specs.Places.{idle_router, nothing_on_the_way, world_of}
use Rattle.graft_worked.specs.Graft.{put_all, at_ten, ten_alone, far_before, far_after, operator_before, operator_after, a_after, b_after}
use Rattle.graft_worked.specs.Start.{end_with, session_joined}

abbrev pub own_at_b : Best
own_at_b = record { from = from.Router (record { 0 = 1 }); route = own_route }

abbrev pub a_to_put : RouterPart
a_to_put = record idle_router {
  places = at (λ p. Vacant) 0 (Live session_joined None);
  tellings = at (λ q. map.empty) 1 (at_ten own_route);
  best = at_ten own_at_b;
  due_out = at (λ p. map.empty) 0 ten_alone;
}

-- 10.0.0.0/8 is announced, with path 65000 and next hop 192.0.2.2
abbrev pub announced_bytes : List ℕ
announced_bytes = framed 2 (0x00 ∷ 0x00 ∷ 0x00 ∷ 0x12 ∷ 0x40 ∷ 0x01 ∷ 0x01 ∷ 0x00 ∷ 0x40 ∷ 0x02 ∷ 0x04
    ∷ 0x02 ∷ 0x01 ∷ 0xFD ∷ 0xE8 ∷ 0x40 ∷ 0x03 ∷ 0x04 ∷ 0xC0 ∷ 0x00 ∷ 0x02 ∷ 0x02 ∷ 0x08 ∷ 0x0A ∷ [])

abbrev pub session_told : SessionValue
session_told = record session_joined { story = told_lines 0; adj_rib_out = at_ten (attrs_over (65000 ∷ [])); end = end_with (put_all ++ announced_bytes) 48 }

abbrev pub a_has_put : RouterPart
a_has_put = record a_to_put { places = at (λ p. Vacant) 0 (Live session_told None); due_out = λ p. map.empty }

abbrev pub with_route_due : World
with_route_due = world_of a_to_put idle_router far_before operator_before nothing_on_the_way

abbrev pub with_route_put : World
with_route_put = world_of a_has_put idle_router far_before operator_before nothing_on_the_way

-- the last world of the graft, with the link still pointing at the source
abbrev pub with_link_at_source : World
with_link_at_source = world_of a_after b_after (record far_after { pointer = 0 }) operator_after nothing_on_the_way
