-- What a plan does to the segments in a link, turn by turn.
use Rattle.std.specs.Prelude.{ℕ, ◌≡◌, ◌<◌, ◌+◌, ◌==◌, ◌^◌, nat_le, not, if◌then◌else◌, Bool, true, false, List, [], ◌∷◌, ◌++◌, length, map, filter, slice_set}
use Rattle.link_bag.specs.declared.plan.Fate.{Fate}
use Rattle.link_bag.specs.declared.plan.Fate.TheVariants.{Pass, Lose, Repeat, Hold, Stray}
use Rattle.tcp_seq.specs.Endpoint.{PlacedSegment, IsInStreams}
use Rattle.tcp_seq.specs.Placed.{placed}
use Rattle.tcp_seq.specs.declared.segment.Way.{Way}
use Rattle.tcp_seq.specs.declared.segment.Segment.{Segment}
use Rattle.tcp_seq.specs.declared.segment.Way.TheVariants.{Home, Remote}
use Rattle.graft_model.specs.FarRows.{without}
use Rattle.graft_model.specs.declared.event.FarEvent.TheVariants as events
use Rattle.graft_model.specs.declared.event.FarEvent.{FarEvent}
use Rattle.far_side.specs.declared.link.InLink.{InLink}
use Rattle.far_side.specs.declared.link.Act.{Act}
use Rattle.far_side.specs.declared.link.Act.TheVariants.{Stays, Delivered, Copied, Lost}

-- What happens to a segment of this fate in a turn, counted from its first delivery. The table of fates: one that passes is delivered at once; one
-- that is lost is lost then; a repeated one is delivered then, and again later; one that is held is delivered only later; and of one that strays, a
-- copy goes astray later.
abbrev pub act_of : Fate → ℕ → Act
act_of Pass turns = Delivered false
act_of Lose turns = Lost
act_of (Repeat after) turns = if nat_le after turns then Delivered false else if turns == 0 then Delivered true else Stays
act_of (Hold after) turns = if nat_le after turns then Delivered false else Stays
act_of (Stray after) turns = if nat_le after turns then Copied else if turns == 0 then Delivered true else Stays

abbrev pub act_in : InLink → Act
act_in x = act_of x.fate x.turns

-- whether the segment leaves the link by this
abbrev pub is_gone : Act → Bool
is_gone Stays = false
is_gone (Delivered keep) = not keep
is_gone Copied = true
is_gone Lost = true

-- how many turns after its first delivery a segment of this fate leaves the link
abbrev pub last_turn : Fate → ℕ
last_turn Pass = 0
last_turn Lose = 0
last_turn (Repeat after) = after
last_turn (Hold after) = after
last_turn (Stray after) = after

-- the same segment, one turn later
abbrev pub older : InLink → InLink
older x = record x { turns = x.turns + 1 }

-- a segment that is put now, while the link points at this router
abbrev pub put_now : Fate → ℕ → InLink
put_now fate router = record { fate = fate; turns = 0; pointed = record { 0 = router } }

-- ---- one turn over a link

-- the segments left in the link after it
abbrev pub left_in_link : List InLink → List InLink
left_in_link xs = map older (filter (λ x. not (is_gone (act_in x))) xs)

-- the event of a segment that goes home, at its index in the link, while the link points at this router
abbrev pub home_act : (pointer index : ℕ) → InLink → Act → List FarEvent
home_act pointer index x Stays = []
home_act pointer index x (Delivered keep) = events.Pass index keep pointer ∷ []
home_act pointer index x Copied = events.Pass index false x.pointed.0 ∷ []
home_act pointer index x Lost = events.Lose Home index ∷ []

abbrev pub home_event : (pointer : ℕ) → ℕ → InLink → List FarEvent
home_event pointer index x = home_act pointer index x (act_in x)

-- the event of a segment that goes to the remote, for which a stray copy is a second delivery
abbrev pub remote_act : (index : ℕ) → Act → List FarEvent
remote_act index Stays = []
remote_act index (Delivered keep) = events.Reach index keep ∷ []
remote_act index Copied = events.Reach index false ∷ []
remote_act index Lost = events.Lose Remote index ∷ []

abbrev pub remote_event : ℕ → InLink → List FarEvent
remote_event index x = remote_act index (act_in x)

-- the event of a segment that goes to one side
abbrev pub link_act : Way → (pointer index : ℕ) → InLink → Act → List FarEvent
link_act Home pointer index x act = home_act pointer index x act
link_act Remote pointer index x act = remote_act index act

abbrev pub link_event : Way → (pointer : ℕ) → ℕ → InLink → List FarEvent
link_event way pointer index x = link_act way pointer index x (act_in x)

-- the index of the next segment, where an index counts the segments that are still in the link
abbrev pub next_index : ℕ → InLink → ℕ
next_index index x = if is_gone (act_in x) then index else index + 1

-- the events of all segments from an index on, in ascending order of index
abbrev pub pass_events : (ℕ → InLink → List FarEvent) → ℕ → List InLink → List FarEvent
pass_events event index [] = []
pass_events event index (x ∷ xs) = event index x ++ pass_events event (next_index index x) xs

abbrev pub home_events : (pointer : ℕ) → List InLink → List FarEvent
home_events pointer xs = pass_events (home_event pointer) 0 xs

abbrev pub remote_events : List InLink → List FarEvent
remote_events xs = pass_events remote_event 0 xs

-- ---- a link

-- the side that it leads to and the peering, the initial sequence numbers of the stream that its segments carry and of the other one, its segments
-- with what the plan does to each, and how many were put
pub record LinkValue : Type 0 where
  pub way : Way
  pub peering : ℕ
  pub seq_first : ℕ
  pub ack_first : ℕ
  pub segments : List PlacedSegment
  pub plans : List InLink
  pub put : ℕ

-- the segment at an index stays one turn longer
abbrev pub aged : (index : ℕ) → InLink → LinkValue → LinkValue
aged index x link = record link { plans = slice_set link.plans index (older x) }

-- the segment at an index leaves the link
abbrev pub removed : (index : ℕ) → LinkValue → LinkValue
removed index link = record link { segments = without index link.segments; plans = without index link.plans }

-- the segment at an index is delivered, and leaves the link unless it is kept
abbrev pub given : Bool → (index : ℕ) → LinkValue → LinkValue
given keep index link = if keep then link else removed index link

-- a segment that this link may carry
pub record IsOn (link : LinkValue) (g : Segment) : Type 0 where
  pub way : g.way ≡ link.way
  pub peering : g.peering.0 ≡ link.peering
  pub in_streams : IsInStreams (placed link.seq_first link.ack_first g)
  pub short : length g.bytes < 2 ^ 16
