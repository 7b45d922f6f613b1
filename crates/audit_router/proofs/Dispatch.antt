-- Which events take an item.
use Rattle.std.proofs.Common.{◌≡◌, ◌≢◌, ℕ, List, Some, None, inl, inr, refl}
use Rattle.std.proofs.lemmas.Option.{none-some}
use Rattle.bgp_types.specs.Prefixes.{PrefixValue}
use Rattle.graft_model.specs.Parts.{Answered, Asked, Back, Done, Moved, RouterPart, Told}
use Rattle.graft_model.specs.RouterRows.{MeshIn, OrderIn, RouterSent, SegmentIn}
use Rattle.graft_model.specs.Setups.{Setup}
use Rattle.graft_model.specs.Steps.{router_row}
use Rattle.graft_model.specs.declared.event.RouterEvent.{RouterEvent}
use Rattle.graft_model.specs.declared.event.RouterEvent.TheVariants as events
use Rattle.graft_actors.specs.Actors.{ActorName, FarSide, Operator, Router}
use Rattle.audit_ruling.specs.Senders.{router_sender}

-- an event with a sender doesn't happen without an item
pub never_alone : (setup : Setup) (r : ℕ) (event : RouterEvent) (from : ActorName) → router_sender event ≡ Some from
    → (before : RouterPart) (gave : List RouterSent) (after : RouterPart) → ¬ router_row setup r event before None gave after
never_alone setup r (events.Arrive p) from e before gave after row = none-some (SegmentIn p row.segment) row.takes
never_alone setup r (events.Stray p) from e before gave after row = none-some (SegmentIn p row.segment) row.takes
never_alone setup r (events.Hear q) from e before gave after row = none-some (MeshIn q (Told row.prefix row.route)) row.takes
never_alone setup r (events.Admit k) from e before gave after row =
    none-some (OrderIn (record { graft = k; peering = row.peering; target = row.target })) row.takes
never_alone setup r (events.Land q) from e before gave after row =
    none-some (MeshIn q (Moved row.comes.graft row.comes.peering row.comes.session)) row.comes.takes
never_alone setup r (events.TurnBack q) from e before gave after row =
    none-some (MeshIn q (Moved row.comes.graft row.comes.peering row.comes.session)) row.comes.takes
never_alone setup r (events.Return q) from e before gave after row =
    none-some (MeshIn q (Back row.graft row.peering row.session row.refusal)) row.takes
never_alone setup r (events.Clear q) from e before gave after row = none-some (MeshIn q (Done row.graft row.peering)) row.takes
never_alone setup r (events.Answer q) from e before gave after row = none-some (MeshIn q (Asked row.graft row.peering)) row.takes
never_alone setup r (events.Collect q) from e before gave after (inl row) = none-some (MeshIn q (Answered row.graft row.peering)) row.takes
never_alone setup r (events.Collect q) from e before gave after (inr row) = none-some (MeshIn q (Answered row.graft row.peering)) row.takes
never_alone setup r other from e before gave after row = none-some from e

-- none of the events that take nothing
pub record IsNoneAlone (event : RouterEvent) : Type 0 where
  pub put : (p n : ℕ) → event ≢ events.Put p n
  pub emit : (p from len : ℕ) → event ≢ events.Emit p from len
  pub got : (p : ℕ) → event ≢ events.Got p
  pub tick : (p round : ℕ) → event ≢ events.Tick p round
  pub decide : (prefix : PrefixValue) → event ≢ events.Decide prefix
  pub tell : (q : ℕ) (prefix : PrefixValue) → event ≢ events.Tell q prefix
  pub refuse : (k : ℕ) → event ≢ events.Refuse k
  pub freeze : (k : ℕ) → event ≢ events.Freeze k
  pub leave : (k : ℕ) → event ≢ events.Leave k
  pub ask : (k q : ℕ) → event ≢ events.Ask k q
  pub confirm : (k : ℕ) → event ≢ events.Confirm k

pub has_sender : (event : RouterEvent) → IsNoneAlone event → (from : ActorName) × (router_sender event ≡ Some from)
has_sender (events.Put p n) not = absurd (not.put p n refl)
has_sender (events.Emit p from len) not = absurd (not.emit p from len refl)
has_sender (events.Got p) not = absurd (not.got p refl)
has_sender (events.Tick p round) not = absurd (not.tick p round refl)
has_sender (events.Decide prefix) not = absurd (not.decide prefix refl)
has_sender (events.Tell q prefix) not = absurd (not.tell q prefix refl)
has_sender (events.Refuse k) not = absurd (not.refuse k refl)
has_sender (events.Freeze k) not = absurd (not.freeze k refl)
has_sender (events.Leave k) not = absurd (not.leave k refl)
has_sender (events.Ask k q) not = absurd (not.ask k q refl)
has_sender (events.Confirm k) not = absurd (not.confirm k refl)
has_sender (events.Arrive p) not = (FarSide p, refl)
has_sender (events.Stray p) not = (FarSide p, refl)
has_sender (events.Hear q) not = (Router q, refl)
has_sender (events.Admit k) not = (Operator, refl)
has_sender (events.Land q) not = (Router q, refl)
has_sender (events.TurnBack q) not = (Router q, refl)
has_sender (events.Return q) not = (Router q, refl)
has_sender (events.Clear q) not = (Router q, refl)
has_sender (events.Answer q) not = (Router q, refl)
has_sender (events.Collect q) not = (Router q, refl)

-- none of the events that take an item
pub record IsNoneTaking (event : RouterEvent) : Type 0 where
  pub arrive : (p : ℕ) → event ≢ events.Arrive p
  pub stray : (p : ℕ) → event ≢ events.Stray p
  pub hear : (q : ℕ) → event ≢ events.Hear q
  pub admit : (k : ℕ) → event ≢ events.Admit k
  pub land : (q : ℕ) → event ≢ events.Land q
  pub turn_back : (q : ℕ) → event ≢ events.TurnBack q
  pub give_back : (q : ℕ) → event ≢ events.Return q
  pub clear : (q : ℕ) → event ≢ events.Clear q
  pub answer : (q : ℕ) → event ≢ events.Answer q
  pub collect : (q : ℕ) → event ≢ events.Collect q

pub no_sender : (event : RouterEvent) → IsNoneTaking event → router_sender event ≡ None
no_sender (events.Arrive p) not = absurd (not.arrive p refl)
no_sender (events.Stray p) not = absurd (not.stray p refl)
no_sender (events.Hear q) not = absurd (not.hear q refl)
no_sender (events.Admit k) not = absurd (not.admit k refl)
no_sender (events.Land q) not = absurd (not.land q refl)
no_sender (events.TurnBack q) not = absurd (not.turn_back q refl)
no_sender (events.Return q) not = absurd (not.give_back q refl)
no_sender (events.Clear q) not = absurd (not.clear q refl)
no_sender (events.Answer q) not = absurd (not.answer q refl)
no_sender (events.Collect q) not = absurd (not.collect q refl)
no_sender other not = refl
