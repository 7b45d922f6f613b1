-- Which item it is that a row takes.
use Rattle.std.proofs.Common.{◌≡◌, ℕ, List, ◌∷◌, Option, Some, None, true, refl, ap, subst}
use Rattle.std.specs.Prelude.{slice_get}
use Rattle.bgp_session.specs.Running.{RunningSession, carried}
use Rattle.graft_edge.specs.declared.ids.PeeringId.{PeeringId}
use Rattle.graft_edge.specs.declared.ids.RouterId.{RouterId}
use Rattle.graft_steps.specs.declared.item.Item.TheVariants as items
use Rattle.tcp_seq.specs.Endpoint.{PlacedSegment}
use Rattle.tcp_seq.specs.declared.segment.Way.{Way}
use Rattle.tcp_seq.specs.declared.segment.Way.TheVariants.{Home, Remote}
use Rattle.graft_model.specs.Parts.{Answered, Asked, Back, Done, GraftOrder, Mesh, Moved, Told}
use Rattle.graft_model.specs.RouterRows.{MeshIn, OrderIn, RouterTaken, SegmentIn}
use Rattle.graft_model.specs.Setups.{Setup}
use Rattle.graft_actors.specs.Actors.{FarSide, MeshItem, Operator, Router, Thing}
use Rattle.graft_actors.specs.Items.{segment_of, segment_thing, thing_of}
use Rattle.audit_ruling.specs.Rulings.{Parcel, router_takes}
use Rattle.audit_router.specs.Nexts.{is_segment}
use Rattle.std.proofs.lemmas.Option.{none-some, same_Some}

-- ---- between routers

abbrev mesh_at : Thing → Option Mesh
mesh_at (MeshItem item) = Some item
mesh_at thing = None

abbrev mesh_in : Option RouterTaken → Option Mesh
mesh_in (Some (MeshIn q item)) = Some item
mesh_in taken = None

-- the item that stands for what routers send one another
abbrev pub IsParcelOf : Parcel → Mesh → Type 0
IsParcelOf item (Told prefix route) = item ≡ items.Told prefix route
IsParcelOf item (Moved graft peering session) =
    (s : RunningSession) × (item ≡ items.Moved graft s) × (s.session.config.peering.0 ≡ peering) × (s.session ≡ session)
IsParcelOf item (Back graft peering session refusal) =
    (s : RunningSession) × (item ≡ items.Back graft s refusal) × (s.session.config.peering.0 ≡ peering) × (s.session ≡ session)
IsParcelOf item (Asked graft peering) = (p : PeeringId) × (item ≡ items.Asked graft p) × (p.0 ≡ peering)
IsParcelOf item (Answered graft peering) = (p : PeeringId) × (item ≡ items.Answered graft p) × (p.0 ≡ peering)
IsParcelOf item (Done graft peering) = (p : PeeringId) × (item ≡ items.Done graft p) × (p.0 ≡ peering)

no_mesh : (way : Way) (segment : PlacedSegment) (mesh : Mesh) → mesh_at (segment_thing way segment) ≡ Some mesh → ⊥
no_mesh Home segment mesh e = none-some mesh e
no_mesh Remote segment mesh e = none-some mesh e

taken_mesh : (q : ℕ) (thing : Thing) (n : ℕ) (mesh : Mesh) → router_takes (Router q) thing ≡ Some (MeshIn n mesh) → mesh_at thing ≡ Some mesh
taken_mesh q (MeshItem item) n mesh e = ap mesh_in e
taken_mesh q other n mesh e = absurd (none-some mesh (ap mesh_in e))

parcel_is : (setup : Setup) (item : Parcel) (mesh : Mesh) → mesh_at (thing_of carried setup item) ≡ Some mesh → IsParcelOf item mesh
parcel_is setup (items.Seg g) mesh e = absurd (no_mesh g.way (segment_of setup g) mesh e)
parcel_is setup (items.Told prefix route) mesh e = subst (IsParcelOf (items.Told prefix route)) (same_Some (Told prefix route) mesh e) refl
parcel_is setup (items.Moved k s) mesh e =
    subst (IsParcelOf (items.Moved k s)) (same_Some (Moved k s.session.config.peering.0 s.session) mesh e) (s, refl, refl, refl)
parcel_is setup (items.Back k s refusal) mesh e =
    subst (IsParcelOf (items.Back k s refusal)) (same_Some (Back k s.session.config.peering.0 s.session refusal) mesh e) (s, refl, refl, refl)
parcel_is setup (items.Asked k p) mesh e = subst (IsParcelOf (items.Asked k p)) (same_Some (Asked k p.0) mesh e) (p, refl, refl)
parcel_is setup (items.Answered k p) mesh e = subst (IsParcelOf (items.Answered k p)) (same_Some (Answered k p.0) mesh e) (p, refl, refl)
parcel_is setup (items.Done k p) mesh e = subst (IsParcelOf (items.Done k p)) (same_Some (Done k p.0) mesh e) (p, refl, refl)
parcel_is setup other mesh e = absurd (none-some mesh e)

pub taken_is : (setup : Setup) (q : ℕ) (item : Parcel) (n : ℕ) (mesh : Mesh) → router_takes (Router q) (thing_of carried setup item) ≡ Some (MeshIn n mesh)
    → IsParcelOf item mesh
taken_is setup q item n mesh e = parcel_is setup item mesh (taken_mesh q (thing_of carried setup item) n mesh e)

-- ---- from the operator

abbrev order_of : Option RouterTaken → Option GraftOrder
order_of (Some (OrderIn order)) = Some order
order_of taken = None

-- the item that is this order
pub record IsOrderOf (item : Parcel) (order : GraftOrder) : Type 0 where
  pub peering : PeeringId
  pub target : RouterId
  pub is : item ≡ items.GraftOrder order.graft peering target
  pub peering_is : peering.0 ≡ order.peering
  pub target_is : target.0 ≡ order.target

no_order : (way : Way) (segment : PlacedSegment) (order : GraftOrder) → order_of (router_takes Operator (segment_thing way segment)) ≡ Some order → ⊥
no_order Home segment order e = none-some order e
no_order Remote segment order e = none-some order e

order_is : (setup : Setup) (item : Parcel) (order : GraftOrder) → order_of (router_takes Operator (thing_of carried setup item)) ≡ Some order
    → IsOrderOf item order
order_is setup (items.Seg g) order e = absurd (no_order g.way (segment_of setup g) order e)
order_is setup (items.GraftOrder k p target) order e =
    let own : GraftOrder = record { graft = k; peering = p.0; target = target.0 } in
    subst (IsOrderOf (items.GraftOrder k p target)) (same_Some own order e)
    (record { peering = p; target = target; is = refl; peering_is = refl; target_is = refl })
order_is setup other order e = absurd (none-some order e)

pub ordered_is : (setup : Setup) (item : Parcel) (order : GraftOrder) → router_takes Operator (thing_of carried setup item) ≡ Some (OrderIn order)
    → IsOrderOf item order
ordered_is setup item order e = order_is setup item order (ap order_of e)

-- ---- from a far side

abbrev segment_in : Option RouterTaken → Option PlacedSegment
segment_in (Some (SegmentIn p segment)) = Some segment
segment_in taken = None

pub segment_is : (setup : Setup) (p : ℕ) (item : Parcel) (n : ℕ) (segment : PlacedSegment)
    → router_takes (FarSide p) (thing_of carried setup item) ≡ Some (SegmentIn n segment) → is_segment (Some item) ≡ true
segment_is setup p (items.Seg g) n segment e = refl
segment_is setup p other n segment e = absurd (none-some segment (ap segment_in e))

-- ---- what is first in a channel

pub first_is : (channel : List Parcel) (item : Parcel) (more : List Parcel) → channel ≡ item ∷ more → slice_get channel 0 ≡ Some item
first_is channel item more e = ap (λ (xs : List Parcel). slice_get xs 0) e
