-- What the first item of a channel is, by what is seen of it.
use Rattle.std.proofs.Common.{◌≡◌, ℕ, List, [], ◌∷◌, Option, Some, None, refl, ap, subst}
use Rattle.std.specs.Prelude.{IfNone, IfSome, slice_get}
use Rattle.std.specs.List.{AllByRecursion}
use Rattle.bgp_session.specs.Running.{RunningSession}
use Rattle.graft_edge.specs.declared.ids.PeeringId.{PeeringId}
use Rattle.graft_edge.specs.declared.ids.RouterId.{RouterId}
use Rattle.graft_steps.specs.declared.item.Item.TheVariants as items
use Rattle.session_value.specs.declared.config.SessionConfig.{SessionConfig}
use Rattle.graft_model.specs.Parts.{GraftOrder}
use Rattle.audit_ruling.specs.Rulings.{Parcel}
use Rattle.audit_router.specs.Nexts.{answered_in, asked_in, coming_in, done_in, order_in}
use Rattle.std.proofs.lemmas.Option.{none-some, same_Some}

-- a session that moves here
pub record IsMovedFirst (channel : List Parcel) (config : SessionConfig) : Type 0 where
  pub graft : ℕ
  pub session : RunningSession
  pub rest : List Parcel
  pub is : channel ≡ items.Moved graft session ∷ rest
  pub config_is : session.session.config ≡ config

pub moved_first : (channel : List Parcel) (config : SessionConfig) → coming_in (slice_get channel 0) ≡ Some config → IsMovedFirst channel config
moved_first [] config e = absurd (none-some config e)
moved_first (items.Moved k s ∷ rest) config e = record { graft = k; session = s; rest = rest; is = refl; config_is = same_Some s.session.config config e }
moved_first (item ∷ rest) config e = absurd (none-some config e)

-- a question, with the graft and the peering
pub record IsAskedFirst (channel : List Parcel) (of : ℕ × ℕ) : Type 0 where
  pub own : PeeringId
  pub rest : List Parcel
  pub is : channel ≡ items.Asked of.0 own ∷ rest
  pub peering : own.0 ≡ of.1

pub asked_first : (channel : List Parcel) (of : ℕ × ℕ) → asked_in (slice_get channel 0) ≡ Some of → IsAskedFirst channel of
asked_first [] of e = absurd (none-some of e)
asked_first (items.Asked k peering ∷ rest) of e = let same = same_Some (k, peering.0) of e in
    record { own = peering; rest = rest; is = ap (λ n. items.Asked n peering ∷ rest) (ap (λ x. x.0) same); peering = ap (λ x. x.1) same }
asked_first (item ∷ rest) of e = absurd (none-some of e)

-- an answer
pub record IsAnsweredFirst (channel : List Parcel) (of : ℕ × ℕ) : Type 0 where
  pub own : PeeringId
  pub rest : List Parcel
  pub is : channel ≡ items.Answered of.0 own ∷ rest
  pub peering : own.0 ≡ of.1

pub answered_first : (channel : List Parcel) (of : ℕ × ℕ) → answered_in (slice_get channel 0) ≡ Some of → IsAnsweredFirst channel of
answered_first [] of e = absurd (none-some of e)
answered_first (items.Answered k peering ∷ rest) of e = let same = same_Some (k, peering.0) of e in
    record { own = peering; rest = rest; is = ap (λ n. items.Answered n peering ∷ rest) (ap (λ x. x.0) same); peering = ap (λ x. x.1) same }
answered_first (item ∷ rest) of e = absurd (none-some of e)

-- word that a session has landed
pub record IsDoneFirst (channel : List Parcel) (of : ℕ × ℕ) : Type 0 where
  pub own : PeeringId
  pub rest : List Parcel
  pub is : channel ≡ items.Done of.0 own ∷ rest
  pub peering : own.0 ≡ of.1

pub done_first : (channel : List Parcel) (of : ℕ × ℕ) → done_in (slice_get channel 0) ≡ Some of → IsDoneFirst channel of
done_first [] of e = absurd (none-some of e)
done_first (items.Done k peering ∷ rest) of e = let same = same_Some (k, peering.0) of e in
    record { own = peering; rest = rest; is = ap (λ n. items.Done n peering ∷ rest) (ap (λ x. x.0) same); peering = ap (λ x. x.1) same }
done_first (item ∷ rest) of e = absurd (none-some of e)

-- an order
pub record IsOrderFirst (channel : List Parcel) (order : GraftOrder) : Type 0 where
  pub own : PeeringId
  pub target : RouterId
  pub rest : List Parcel
  pub is : channel ≡ items.GraftOrder order.graft own target ∷ rest
  pub peering_is : own.0 ≡ order.peering
  pub target_is : target.0 ≡ order.target

pub order_first : (channel : List Parcel) (order : GraftOrder) → order_in (slice_get channel 0) ≡ Some order → IsOrderFirst channel order
order_first [] order e = absurd (none-some order e)
order_first (items.GraftOrder k peering target ∷ rest) order e = let own : GraftOrder = record { graft = k; peering = peering.0; target = target.0 } in
    let same = same_Some own order e in record {
      own = peering;
      target = target;
      rest = rest;
      is = ap (λ (x : GraftOrder). items.GraftOrder x.graft peering target ∷ rest) same;
      peering_is = ap (λ (x : GraftOrder). x.peering) same;
      target_is = ap (λ (x : GraftOrder). x.target) same;
    }
order_first (item ∷ rest) order e = absurd (none-some order e)

-- ---- what is taken out

pub takes_first : (result : Option Parcel) (old new : List Parcel) → IfSome result (λ item. old ≡ item ∷ new) → IfNone result ((old ≡ []) × (new ≡ []))
    → (item : Parcel) (rest : List Parcel) → old ≡ item ∷ rest → (result ≡ Some item) × (new ≡ rest)
takes_first None old new some none item rest is = absurd (let empty = none.0 in let no : ⊥ = cc in no)
takes_first (Some own) old new some none item rest is = (let same : own ≡ item = cc in ap Some same, cc)

-- what is true of all that come is true of the first
pub fits_first : (Fits : Parcel → Type 0) {channel rest : List Parcel} {item : Parcel} → channel ≡ item ∷ rest → AllByRecursion Fits channel → Fits item
fits_first Fits is all = (subst (AllByRecursion Fits) is all).0
