-- Events as a journal stores them: a kind by its number, and three arguments, of which those that a kind doesn't have are 0.
use Rattle.std.specs.Prelude.{ℕ, Bool, false, true, Option, Some, None, nat_le, ◌==◌, ◌&&◌, if◌then◌else◌}
use Rattle.bgp_types.specs.Prefixes.{PrefixValue, IsPrefix, cleared}
use Rattle.tcp_seq.specs.declared.segment.Way.{Way}
use Rattle.tcp_seq.specs.declared.segment.Way.TheVariants.{Home, Remote}
use Rattle.graft_model.specs.declared.code.Code.{Code}
use Rattle.graft_model.specs.declared.event.ActorEvent.{ActorEvent}
use Rattle.graft_model.specs.declared.event.ActorEvent.TheVariants.{OfRouter, OfFar, OfOperator}
use Rattle.graft_model.specs.declared.event.RouterEvent.{RouterEvent}
use Rattle.graft_model.specs.declared.event.RouterEvent.TheVariants.{Put, Emit, Arrive, Stray, Got, Decide, Tell, Hear, Admit, Refuse, Freeze, Leave}
use Rattle.graft_model.specs.declared.event.RouterEvent.TheVariants.{Land, TurnBack, Return, Clear, Ask, Answer, Collect, Confirm, Tick}
use Rattle.graft_model.specs.declared.event.FarEvent.{FarEvent}
use Rattle.graft_model.specs.declared.event.FarEvent.TheVariants.{Say, Send, Take, Pass, Reach, Lose, Point, Beat}
use Rattle.graft_model.specs.declared.event.OperatorEvent.{OperatorEvent}
use Rattle.graft_model.specs.declared.event.OperatorEvent.TheVariants.{Order, Note, Go}

-- the prefix of an address and a length, if no bit past the length is set
abbrev pub prefix_of_args : ℕ → ℕ → Option PrefixValue
prefix_of_args address len = if nat_le len 32 && (cleared len address == address) then Some (record { address = address; len = len }) else None

abbrev pub coded : ℕ → ℕ → ℕ → ℕ → Code
coded kind a b c = record { kind = kind; a = a; b = b; c = c }

abbrev pub flag : Bool → ℕ
flag false = 0
flag true = 1

abbrev pub way_number : Way → ℕ
way_number Home = 0
way_number Remote = 1

-- Kinds 27 to 30 are unassigned.
abbrev pub router_code : RouterEvent → Code
router_code (Put p n) = coded 1 p n 0
router_code (Emit p from len) = coded 2 p from len
router_code (Arrive p) = coded 3 p 0 0
router_code (Stray p) = coded 4 p 0 0
router_code (Got p) = coded 5 p 0 0
router_code (Decide prefix) = coded 6 prefix.address prefix.len 0
router_code (Tell q prefix) = coded 7 q prefix.address prefix.len
router_code (Hear q) = coded 8 q 0 0
router_code (Admit k) = coded 9 k 0 0
router_code (Refuse k) = coded 10 k 0 0
router_code (Freeze k) = coded 11 k 0 0
router_code (Leave k) = coded 12 k 0 0
router_code (Land q) = coded 13 q 0 0
router_code (TurnBack q) = coded 14 q 0 0
router_code (Return q) = coded 15 q 0 0
router_code (Clear q) = coded 16 q 0 0
router_code (Tick p round) = coded 31 p round 0
router_code (Confirm k) = coded 33 k 0 0
router_code (Ask k q) = coded 34 k q 0
router_code (Answer q) = coded 35 q 0 0
router_code (Collect q) = coded 36 q 0 0

-- The event's prefix, if it has one, has no bit set past its length.
abbrev pub HasPrefix : RouterEvent → Type 0
HasPrefix (Decide prefix) = IsPrefix prefix
HasPrefix (Tell q prefix) = IsPrefix prefix
HasPrefix event = Unit {0}

abbrev pub far_code : FarEvent → Code
far_code (Say step) = coded 17 step 0 0
far_code (Send from len) = coded 18 from len 0
far_code (Take router) = coded 19 router 0 0
far_code (Pass index keep router) = coded 20 index (flag keep) router
far_code (Reach index keep) = coded 21 index (flag keep) 0
far_code (Lose way index) = coded 22 (way_number way) index 0
far_code (Point router) = coded 23 router 0 0
far_code (Beat round) = coded 32 round 0 0

abbrev pub operator_code : OperatorEvent → Code
operator_code (Order step number) = coded 24 step number 0
operator_code (Note router) = coded 25 router 0 0
operator_code Go = coded 26 0 0 0

abbrev pub actor_code : ActorEvent → Code
actor_code (OfRouter event) = router_code event
actor_code (OfFar event) = far_code event
actor_code (OfOperator event) = operator_code event

-- the same of any actor's event
abbrev pub EventHasPrefix : ActorEvent → Type 0
EventHasPrefix (OfRouter event) = HasPrefix event
EventHasPrefix (OfFar event) = Unit {0}
EventHasPrefix (OfOperator event) = Unit {0}
