-- Which moment of which graft an event is.
use Rattle.std.specs.Prelude.{ℕ, Option, Some, None}
use Rattle.timeline_view.specs.declared.event.Event.{Event}
use Rattle.timeline_view.specs.declared.event.Event.TheVariants.{Freeze, Leave, Land, Order}
use Rattle.timeline_view.specs.declared.event.Moment.{Moment}
use Rattle.timeline_view.specs.declared.event.Moment.TheVariants.{Ordered, Frozen, Left, Landed}

abbrev pub ordered : Event → Option ℕ
ordered (Order graft) = Some graft
ordered event = None

abbrev pub frozen : Event → Option ℕ
frozen (Freeze graft) = Some graft
frozen event = None

abbrev pub left : Event → Option ℕ
left (Leave graft) = Some graft
left event = None

abbrev pub landed : Event → Option ℕ
landed (Land graft) = Some graft
landed event = None

-- the graft of which an event is this moment
abbrev pub graft_at : Moment → Event → Option ℕ
graft_at Ordered event = ordered event
graft_at Frozen event = frozen event
graft_at Left event = left event
graft_at Landed event = landed event
