-- What holds of the streams of every world that a run leads to.
use Rattle.std.proofs.Common.{◌≡◌, ℕ, ◌+◌, ◌<◌, ◌≤◌, ◌^◌, false, List, ◌∷◌, length, Option, Some, None, refl, sym, subst}
use Rattle.std.specs.Prelude.{slice_get, option_map}
use Rattle.std.specs.List.{AllByRecursion}
use Rattle.std.proofs.lemmas.Option.{same_Some}
use Rattle.bgp_types.specs.declared.message.Message.TheVariants.{KeepaliveMsg}
use Rattle.bgp_types.specs.Spelling.{spell}
use Rattle.graft_model.specs.FarRows.{FarTaken, FarSent, Beats}
use Rattle.graft_model.specs.Claims.{Transparent}
use Rattle.graft_model.specs.Parts.{FarPart, World}
use Rattle.graft_model.specs.Setups.{Setup, PeeringSetup, SayStep, IsSetup, keepalive_interval_of, peerings_in}
use Rattle.graft_laws.specs.Keeps.{Reached, IsInvariant, Has}
use Rattle.graft_laws.specs.Said.{Said, IsSayOf}
use Rattle.graft_laws.specs.Streams.{IsUnbroken, ArePlaced}
use Rattle.graft_laws.proofs.First.{some_peering}
use Rattle.graft_laws.proofs.Holders.{one_session}
use Rattle.graft_laws.proofs.Placed.{placed_are}
use Rattle.graft_laws.proofs.Runs.{carried, always_has}
use Rattle.graft_laws.proofs.SaidSteps.{first_said, steps_keep, beat_fits, say_fits}
use Rattle.graft_laws.proofs.Transparent.{transparent_is}
use Rattle.graft_laws.proofs.Unbroken.{first_unbroken, unbroken_then}

pub said_is : (setup : Setup) (p : ℕ) (peering : PeeringSetup) (w : World) → slice_get setup.peerings p ≡ Some peering → Reached setup w
    → Said setup p peering w
said_is setup p peering w known reached =
    carried setup (Said setup p peering) (first_said setup p peering known)
    (λ event before after reach step is. steps_keep setup p peering before after event known step is) w reached

pub says_are_orders : (setup : Setup) (p : ℕ) (w : World) → IsSetup setup → Reached setup w → p < peerings_in setup
    → AllByRecursion (IsSayOf setup p) (w.says p)
says_are_orders setup p w sound reached below = let some = some_peering setup p below in (said_is setup p some.0 w some.1 reached).orders

pub say_has_room : (setup : Setup) (p step : ℕ) (rest bytes : List ℕ) (w : World) → IsSetup setup → Reached setup w → p < peerings_in setup
    → w.says p ≡ step ∷ rest → slice_get setup.steps step ≡ Some (SayStep p bytes) → length (w.far p).end.stream + length bytes ≤ 2 ^ 20
say_has_room setup p step rest bytes w sound reached below head there =
    let some = some_peering setup p below in
    say_fits setup p some.0 w step rest bytes (sound.peerings p some.0 some.1) (said_is setup p some.0 w some.1 reached) head there

beat_has_room : (setup : Setup) (p round : ℕ) (w : World) (taken : Option FarTaken) (sent : List FarSent) (part : FarPart) → IsSetup setup
    → Reached setup w → Beats setup p round (w.far p) taken sent part
    → length (w.far p).end.stream + length (spell KeepaliveMsg false) ≤ 2 ^ 20
beat_has_room setup p round w taken sent part sound reached row = by_peering (slice_get setup.peerings p) refl row.is where
  by_peering : (o : Option PeeringSetup) → slice_get setup.peerings p ≡ o → option_map keepalive_interval_of o ≡ Some row.keepalive_interval
      → length (w.far p).end.stream + length (spell KeepaliveMsg false) ≤ 2 ^ 20
  by_peering None known e = absurd cc
  by_peering (Some peering) known e =
      beat_fits setup p peering w (sound.peerings p peering known) (said_is setup p peering w known reached)
      (subst (λ (n : ℕ). 0 < n) (sym (same_Some (keepalive_interval_of peering) row.keepalive_interval e)) row.some) row.few

pub keeps_unbroken : (setup : Setup) → IsSetup setup → IsInvariant setup (IsUnbroken setup)
keeps_unbroken setup sound = record {
  first = λ p config is. first_unbroken setup p config sound is;
  step = λ before after p phase next s t reached below stands stands' change is.
      unbroken_then setup before after p phase next s t
      (λ round taken sent part row. beat_has_room setup p round before taken sent part sound reached row) change is;
}

-- one unbroken session, in every world that a run leads to
pub always_unbroken : (setup : Setup) (w : World) (p : ℕ) → IsSetup setup → Reached setup w → p < peerings_in setup → Has setup (IsUnbroken setup) w p
always_unbroken setup w p sound reached below = always_has setup (IsUnbroken setup) sound (keeps_unbroken setup sound) w reached p below

pub always_transparent_is : (setup : Setup) (w : World) (p : ℕ) → IsSetup setup → Reached setup w → p < peerings_in setup → Transparent setup w p
always_transparent_is setup w p sound reached below =
    let has : Has setup (IsUnbroken setup) w p = always_unbroken setup w p sound reached below in
    transparent_is setup w p has.phase has.session (one_session setup w p has.phase has.session has.stands) has.more

pub always_placed : (setup : Setup) (w : World) (p : ℕ) → IsSetup setup → Reached setup w → p < peerings_in setup → ArePlaced w p
always_placed setup w p sound reached below =
    let has : Has setup (IsUnbroken setup) w p = always_unbroken setup w p sound reached below in
    placed_are w p has.session.end has.more.streams
