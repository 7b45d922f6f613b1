-- What holds of worlds on the way of a run.
use Rattle.std.proofs.Common.{◌≡◌, ℕ, ◌<◌, ◌≤◌, List, length, sym, ap, ◌∙◌, subst, inl, inr, arith}
use Rattle.std.specs.Prelude.{◌⊎◌}
use Rattle.tcp_seq.specs.Endpoint.{Endpoint}
use Rattle.tcp_seq.specs.Connection.{AreLinked}
use Rattle.session_value.specs.Sessions.{SessionValue}
use Rattle.graft_model.specs.Setups.{Setup, IsSetup, peerings_in}
use Rattle.graft_model.specs.Parts.{Vacant, Live, World}
use Rattle.graft_model.specs.First.{first_world}
use Rattle.graft_model.specs.Steps.{Event, Run}
use Rattle.graft_model.specs.Claims.{Transparent, sessions_of}
use Rattle.graft_laws.specs.Keeps.{Has}
use Rattle.graft_laws.specs.Owned.{Owned}
use Rattle.graft_laws.specs.Streams.{IsUnbroken}
use Rattle.graft_laws.proofs.Phases.{live_session}
use Rattle.graft_actors.specs.Seen.{IsWithin}
use Rattle.settled_check.specs.Worlds.{Fits, StreamsFit, IsOnTheWay}
use Rattle.world_runs.specs.Runs.{TransparentThroughout}
use Rattle.world_runs.proofs.Runs.{run_cut}

pub transparent_throughout : ((setup : Setup) (events : List Event) (w : World) (p : ℕ) → IsSetup setup
    → Run setup (first_world setup) events w → p < peerings_in setup → Transparent setup w p)
    → (setup : Setup) (events : List Event) (w : World) → IsSetup setup → Run setup (first_world setup) events w → TransparentThroughout setup events
transparent_throughout transparent setup events w sound run front back e =
    let h = run_cut setup front back (first_world setup) w (subst (λ (all : List Event). Run setup (first_world setup) all w) e run) in
    (h.0, h.1, λ p below. transparent setup front h.0 p sound h.1 below)

linked_fit : (one other : Endpoint) → AreLinked one other → Fits one other × Fits other one
linked_fit one other linked = (
  record { acked = linked.there.acked; received = omega (arith, linked.there.within, linked.there.emitted) },
  record { acked = linked.back.acked; received = omega (arith, linked.back.within, linked.back.emitted) },
)

pub below_or_past : (m n : ℕ) → (m < n) ⊎ (n ≤ m)
below_or_past m n = grind arith

module _ (setup : Setup) (w : World) (owned : Owned setup w) (unbroken : (p : ℕ) → p < peerings_in setup → Has setup (IsUnbroken setup) w p) where
  streams_fit : StreamsFit w
  streams_fit r p session order e = elim (below_or_past p (peerings_in setup)) [
    | inl below ↦ (let h = unbroken p below in subst (λ (s : SessionValue). Fits s.end (w.far p).end × Fits (w.far p).end s.end)
        (sym (live_session h.phase h.session session order r (sym e ∙ h.stands.places r))) (linked_fit h.session.end (w.far p).end h.more.streams.linked))
    | inr past ↦ (let none : Live session order ≡ Vacant = sym e ∙ (owned.no_others p past).places r in absurd cc)
  ]

  pub on_the_way : IsSetup setup → IsWithin setup w → ((p : ℕ) → p < peerings_in setup → length (sessions_of setup w p) ≡ 1) → IsOnTheWay setup w
  on_the_way sound within one = record {
    sound = sound;
    within = within;
    streams = streams_fit;
    held = λ p below none. absurd (omega (arith, one p below, ap (λ (sessions : List SessionValue). length sessions) none));
  }
