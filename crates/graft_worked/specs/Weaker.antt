-- Worlds in which one field of a claim is false, and all others hold. Each is the last world of the worked graft, or the one before it, with one
-- thing changed.
use Rattle.std.specs.Prelude.{[], ◌∷◌, ◌++◌, Some, None, false}
use Rattle.std.specs.FinMap as map
use Rattle.bgp_story.specs.declared.line.Line.TheVariants.{Got}
use Rattle.bgp_story.specs.WorkedSessions.{open_bytes, keepalive_bytes, sent_lines, heard_lines, attrs_over}
use Rattle.graft_steps.specs.declared.refusal.Outcome.TheVariants.{Accepted}
use Rattle.tcp_seq.specs.Endpoint.{PlacedSegment, Endpoint}
use Rattle.session_value.specs.Sessions.{SessionValue}
use Rattle.graft_model.specs.Parts.{Live, Shadow, Owing, Done, Seg, RouterPart, FarPart, World}
use Rattle.graft_model.specs.SmallWorlds.{config}
use Rattle.graft_worked.specs.First.{home_open_bytes}
use Rattle.graft_worked.specs.Places.{OnTheWay, holding, nothing_on_the_way, world_of}
use Rattle.graft_worked.specs.Graft.{put_all, said_all, from_zero, home_end, remote_end, at_ten, ten_alone, session, a_before, b_before}
use Rattle.graft_worked.specs.Graft.{far_before, operator_before, a_after, b_after, far_after, operator_ordered, operator_after, to_a}

-- ---- the last world, with another part

abbrev pub with_a : RouterPart → World
with_a a = world_of a b_after far_after operator_after nothing_on_the_way

abbrev pub with_b : RouterPart → World
with_b b = world_of a_after b far_after operator_after nothing_on_the_way

abbrev pub with_far : FarPart → World
with_far far = world_of a_after b_after far operator_after nothing_on_the_way

abbrev pub with_on_the_way : OnTheWay → World
with_on_the_way way = world_of a_after b_after far_after operator_after way

abbrev pub with_session : SessionValue → World
with_session s = with_b (holding b_after (Live s None))

abbrev pub with_remote : Endpoint → World
with_remote end = with_far (record far_after { end = end })

-- ---- not transparent

-- own: the remote has another address
abbrev pub addressed : SessionValue
addressed = record session { config = record config { remote_address = 0xC0000203 } }

abbrev pub with_other_address : World
with_other_address = with_session addressed

-- legal: the OPEN is put a second time
abbrev pub opened_twice : SessionValue
opened_twice = record session { story = heard_lines 0 ++ sent_lines 0 }

abbrev pub with_second_open : World
with_second_open = with_session opened_twice

-- received: one octet more than was put
abbrev pub with_octet_received : World
with_octet_received = with_remote (record remote_end { arrived = from_zero (put_all ++ 0 ∷ []) })

-- got: the remote never said the UPDATE. This one doesn't solve either, by its own field of this name.
abbrev pub with_update_unsaid : World
with_update_unsaid = with_remote (record remote_end { stream = open_bytes ++ keepalive_bytes })

-- heard: the route isn't in the table
abbrev pub unhearing : SessionValue
unhearing = record session { adj_rib_in = map.empty }

abbrev pub with_route_unheard : World
with_route_unheard = with_session unhearing

-- told: a route is in the table, and no UPDATE was put. No route is to be told, so this one doesn't solve either, by its own field of this name.
abbrev pub telling : SessionValue
telling = record session { adj_rib_out = at_ten (attrs_over (65000 ∷ [])) }

abbrev pub with_route_told : World
with_route_told = with_session telling

-- ---- not solved

-- placed: router b owes word of the landing; and it isn't quiet, by its field places
abbrev pub with_word_owed : World
with_word_owed = with_b (holding b_after (Live session (Some (Owing to_a))))

-- received: the KEEPALIVE that was put hasn't arrived
abbrev pub with_keepalive_missing : World
with_keepalive_missing = with_remote (record remote_end { arrived = from_zero home_open_bytes })

-- got: the remote said one more KEEPALIVE
abbrev pub with_keepalive_said : World
with_keepalive_said = with_remote (record remote_end { stream = said_all ++ keepalive_bytes })

-- got: a line of the story is no message
abbrev pub interrupted : SessionValue
interrupted = record session { story = heard_lines 0 ++ Got [] ∷ [] }

abbrev pub with_empty_line : World
with_empty_line = with_session interrupted

-- elsewhere: the shadow stays at the source
abbrev pub with_shadow_left : World
with_shadow_left = with_a (holding a_after (Shadow 1))

-- best: router a has no route. It tells nothing either way, since its route is one of router b.
abbrev pub with_best_missing : World
with_best_missing = with_a (record a_after { best = map.empty })

-- ---- not quiet

-- mesh: word of the landing is on its way
abbrev pub with_word_on_its_way : World
with_word_on_its_way = with_on_the_way (record nothing_on_the_way { to_a = Done 1 0 ∷ [] })

abbrev pub empty_segment : PlacedSegment
empty_segment = record { offset = 0; bytes = []; ack = 0 }

-- outward: a segment is on its way to the far side
abbrev pub with_segment_outward : World
with_segment_outward = with_on_the_way (record nothing_on_the_way { out_b = Seg empty_segment ∷ [] })

-- inward: one is on its way to a router
abbrev pub with_segment_inward : World
with_segment_inward = with_on_the_way (record nothing_on_the_way { in_a = empty_segment ∷ [] })

-- orders: a graft is ordered
abbrev pub with_order_on_its_way : World
with_order_on_its_way = with_on_the_way (record nothing_on_the_way { ordered = record { graft = 1; peering = 0; target = 1 } ∷ [] })

-- reports: its outcome is reported
abbrev pub with_report_on_its_way : World
with_report_on_its_way = with_on_the_way (record nothing_on_the_way { reported = record { graft = 1; outcome = Accepted } ∷ [] })

-- says: the remote is to announce
abbrev pub with_say_on_its_way : World
with_say_on_its_way = with_on_the_way (record nothing_on_the_way { said = 0 ∷ [] })

-- homeward, remoteward: the link holds a segment
abbrev pub with_segment_homeward : World
with_segment_homeward = with_far (record far_after { homeward = empty_segment ∷ [] })

abbrev pub with_segment_remoteward : World
with_segment_remoteward = with_far (record far_after { remoteward = empty_segment ∷ [] })

-- decided, told_in, told_out: the prefix is dirty, or due
abbrev pub with_prefix_dirty : World
with_prefix_dirty = with_b (record b_after { dirty = ten_alone })

abbrev pub with_prefix_due_in : World
with_prefix_due_in = with_b (record b_after { due_in = λ q. ten_alone })

abbrev pub with_prefix_due_out : World
with_prefix_due_out = with_b (record b_after { due_out = λ p. ten_alone })

-- places: the UPDATE is received and not read; it isn't received; the remote doesn't know that all that it said arrived, or the session doesn't
abbrev pub with_update_unread : World
with_update_unread = with_session (record session { end = record home_end { read = 48 } })

abbrev pub with_update_missing : World
with_update_missing = with_session (record session { end = record home_end { arrived = from_zero (open_bytes ++ keepalive_bytes) } })

abbrev pub with_remote_unanswered : World
with_remote_unanswered = with_remote (record remote_end { acked = 0 })

abbrev pub with_session_unanswered : World
with_session_unanswered = with_session (record session { end = record home_end { acked = 0 } })

-- issued: before the graft, where the first step wasn't ordered
abbrev pub with_say_unordered : World
with_say_unordered = world_of a_before b_before far_before (record operator_before { issued = λ n. false }) nothing_on_the_way

-- ended: the outcome isn't noted
abbrev pub with_outcome_unknown : World
with_outcome_unknown = world_of a_after b_after far_after operator_ordered nothing_on_the_way
