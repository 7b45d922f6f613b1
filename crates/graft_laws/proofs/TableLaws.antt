-- What holds of the tables of every world that a run leads to.
use Rattle.std.proofs.Common.{◌≡◌, ℕ, ◌<◌, Option, sym, ◌∙◌, subst}
use Rattle.session_value.specs.Sessions.{SessionValue}
use Rattle.session_value.specs.Ties.{IsOfStory}
use Rattle.graft_model.specs.Parts.{Errand, Live, World}
use Rattle.graft_model.specs.Setups.{Setup, IsSetup, peerings_in}
use Rattle.graft_laws.specs.Keeps.{Reached, IsInvariant, Has}
use Rattle.graft_laws.specs.Streams.{IsUnbroken}
use Rattle.graft_laws.specs.Tables.{Decided, Informed, Answered, IsWhole}
use Rattle.graft_laws.proofs.Answered.{first_answered, answered_row}
use Rattle.graft_laws.proofs.Decided.{first_decided, decided_row}
use Rattle.graft_laws.proofs.Deeds.{known_place}
use Rattle.graft_laws.proofs.Entered.{first_entered, entered_then}
use Rattle.graft_laws.proofs.Informed.{informed}
use Rattle.graft_laws.proofs.Phases.{live_session}
use Rattle.graft_laws.proofs.Routers.{of_routers}
use Rattle.graft_laws.proofs.Runs.{always_has, always_owned}
use Rattle.graft_laws.proofs.StreamLaws.{always_unbroken, keeps_unbroken}

pub always_decided : (setup : Setup) (w : World) → Reached setup w → (r : ℕ) → Decided setup r (w.router r)
always_decided setup w reached r =
    of_routers setup (Decided setup) (λ q event u taken sent part reach row is. decided_row setup q (u.router q) part is event taken sent row)
    (first_decided setup) w reached r

pub always_informed : (setup : Setup) (w : World) → Reached setup w → (a b : ℕ) → Informed setup a b w
always_informed setup w reached a b = informed setup a b w reached

-- a live session is what its story tells
pub live_story : (setup : Setup) (w : World) → IsSetup setup → Reached setup w → (r p : ℕ) (s : SessionValue) (o : Option Errand)
    → (w.router r).places p ≡ Live s o → IsOfStory s
live_story setup w sound reached r p s o live =
    let below : p < peerings_in setup = known_place setup w (always_owned setup sound w reached) r p (Live s o) live (λ e. cc) in
    let has : Has setup (IsUnbroken setup) w p = always_unbroken setup w p sound reached below in
    let is : s ≡ has.session = live_session has.phase has.session s o r (sym live ∙ has.stands.places r) in
    subst IsOfStory (sym is) has.more.story

pub always_answered : (setup : Setup) (w : World) → IsSetup setup → Reached setup w → (r : ℕ) → Answered setup r (w.router r)
always_answered setup w sound reached r =
    of_routers setup (Answered setup)
    (λ q event u taken sent part reach row is.
    answered_row setup q (u.router q) part is event taken sent (λ p s o live. live_story setup u sound reach q p s o live) row)
    (first_answered setup) w reached r

keeps_whole : (setup : Setup) → IsSetup setup → IsInvariant setup (IsWhole setup)
keeps_whole setup sound =
    let a : IsInvariant setup (IsUnbroken setup) = keeps_unbroken setup sound in
    record {
      first = λ p config is. record { unbroken = a.first p config is; entered = first_entered setup p config is };
      step = λ before after p phase next s t reached below stands stands' change is. record {
        unbroken = a.step before after p phase next s t reached below stands stands' change is.unbroken;
        entered = entered_then setup before after p phase next s t stands.bounds is.unbroken.story change is.entered;
      };
    }

-- its session, streams and entries, in one phase
pub always_whole : (setup : Setup) (w : World) (p : ℕ) → IsSetup setup → Reached setup w → p < peerings_in setup → Has setup (IsWhole setup) w p
always_whole setup w p sound reached below = always_has setup (IsWhole setup) sound (keeps_whole setup sound) w reached p below
