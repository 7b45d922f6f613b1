-- Worlds to which wrong rules would lead during the worked graft.
use Rattle.std.specs.Prelude.{[], ◌∷◌, Some, None}
use Rattle.bgp_story.specs.WorkedSessions.{ten}
use Rattle.graft_model.specs.Parts.{Live, Owing, Told, Moved, PointAt, World}
use Rattle.graft_worked.specs.Places.{holding, nothing_on_the_way, world_of}
use Rattle.graft_worked.specs.First.{session_first}
use Rattle.graft_worked.specs.Graft.{session, a_frozen, a_left, a_after, b_before, b_landed, b_put, to_a}
use Rattle.graft_worked.specs.Graft.{far_before, far_after, operator_ordered, operator_after}

-- the session has left, and its source still holds it
abbrev pub with_session_kept : World
with_session_kept = world_of a_frozen b_before far_before operator_ordered (record nothing_on_the_way { to_b = Moved 1 0 session ∷ [] })

-- what landed is a session that begins, with its OPEN put again
abbrev pub with_session_begun_again : World
with_session_begun_again = world_of a_left (holding b_landed (Live session_first (Some (Owing to_a)))) far_before operator_ordered
    (record nothing_on_the_way { out_b = PointAt 1 ∷ [] })

-- all is done except that one item is still on its way between the routers
abbrev pub with_telling_on_its_way : World
with_telling_on_its_way = world_of a_after b_put far_after operator_after (record nothing_on_the_way { to_b = Told ten None ∷ [] })
