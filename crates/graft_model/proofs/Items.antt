-- What two equal items say of their parts.
use Rattle.std.proofs.Common.{◌≡◌, ℕ, Option, Some}
use Rattle.bgp_types.specs.declared.attrs.Route.{Route}
use Rattle.bgp_types.specs.Prefixes.{PrefixValue}
use Rattle.graft_steps.specs.declared.refusal.Refusal.{Refusal}
use Rattle.session_value.specs.Sessions.{SessionValue}
use Rattle.graft_model.specs.Parts.{Told, Moved, Back, Asked, Answered, Done}
use Rattle.graft_model.specs.RouterRows.{MeshIn}

pub told_is : (q : ℕ) (x y : PrefixValue) (s t : Option Route) → Some (MeshIn q (Told x s)) ≡ Some (MeshIn q (Told y t)) → (x ≡ y) × (s ≡ t)
told_is q x y s t e = (cc, cc)

-- an item that brings a session, or ends a graft
pub moved_is : (q k l p m : ℕ) (s t : SessionValue) → Some (MeshIn q (Moved k p s)) ≡ Some (MeshIn q (Moved l m t)) → (k ≡ l) × (p ≡ m) × (s ≡ t)
moved_is q k l p m s t e = (cc, cc, cc)

pub back_is : (q k l p m : ℕ) (s t : SessionValue) (f g : Refusal) → Some (MeshIn q (Back k p s f)) ≡ Some (MeshIn q (Back l m t g))
    → (k ≡ l) × (p ≡ m) × (s ≡ t) × (f ≡ g)
back_is q k l p m s t f g e = (cc, cc, cc, cc)

pub done_is : (q k l p m : ℕ) → Some (MeshIn q (Done k p)) ≡ Some (MeshIn q (Done l m)) → (k ≡ l) × (p ≡ m)
done_is q k l p m e = (cc, cc)

pub asked_is : (q k l p m : ℕ) → Some (MeshIn q (Asked k p)) ≡ Some (MeshIn q (Asked l m)) → (k ≡ l) × (p ≡ m)
asked_is q k l p m e = (cc, cc)

pub answered_is : (q k l p m : ℕ) → Some (MeshIn q (Answered k p)) ≡ Some (MeshIn q (Answered l m)) → (k ≡ l) × (p ≡ m)
answered_is q k l p m e = (cc, cc)
