-- A quiet world solves.
use Rattle.std.proofs.Common.{ℕ, ◌<◌, subst}
use Rattle.bgp_types.specs.Prefixes.{PrefixValue}
use Rattle.session_value.specs.Sessions.{SessionValue}
use Rattle.graft_model.specs.Setups.{Setup, IsSetup, routers_in, peerings_in}
use Rattle.graft_model.specs.Parts.{World}
use Rattle.graft_model.specs.OperatorRows.{placement}
use Rattle.graft_model.specs.Quiet.{Quiet}
use Rattle.graft_model.specs.Claims.{SolvesOn, Solves}
use Rattle.graft_laws.specs.Phases.{Phase, Idle}
use Rattle.graft_laws.specs.Owned.{Stands}
use Rattle.graft_laws.specs.Keeps.{Reached, Has}
use Rattle.graft_laws.specs.Streams.{IsUnbroken}
use Rattle.graft_laws.specs.Pointing.{Points}
use Rattle.graft_laws.specs.Tables.{Entered, Decided, Informed, Answered}
use Rattle.graft_laws.proofs.First.{some_peering}
use Rattle.graft_laws.proofs.Heads.{one_phase, same_session}
use Rattle.graft_laws.proofs.Runs.{always_owned}
use Rattle.graft_laws.proofs.StreamLaws.{always_unbroken}
use Rattle.graft_laws.proofs.Pointing.{always_points}
use Rattle.graft_laws.proofs.QuietPhases.{quiet_phase}
use Rattle.graft_laws.proofs.SolvesOn.{solves_on}
use Rattle.graft_laws.proofs.SolvesBest.{GivesSame, own_number, entries_routes, heard_quiet, best_is}

-- what holds of a peering holds of it where it is known to stand
pub has_at : (setup : Setup) (I : World → ℕ → Phase → SessionValue → Type 0) (w : World) (p : ℕ) (phase : Phase) (s : SessionValue) → Has setup I w p
    → Stands setup w p phase s → I w p phase s
has_at setup I w p phase s h b =
    subst (λ (x : SessionValue). I w p phase x) (same_session setup w p h.phase phase h.session s h.stands b)
    (subst (λ (x : Phase). I w p x h.session) (one_phase setup w p h.phase phase h.session s h.stands b) h.more)

-- where a peering stands in a quiet world
record IsAtRest (setup : Setup) (w : World) (p : ℕ) : Type 0 where
  session : SessionValue
  stands : Stands setup w p (Idle (placement setup w.operator p)) session

module _ (setup : Setup) (ok : IsSetup setup) (w : World) (reached : Reached setup w) (quiet : Quiet setup w)
    (entered : (p : ℕ) → p < peerings_in setup → Has setup (Entered setup) w p) (decided : (r : ℕ) → r < routers_in setup → Decided setup r (w.router r))
    (informed : (a b : ℕ) → Informed setup a b w) (answered : (r : ℕ) → r < routers_in setup → Answered setup r (w.router r)) where
  at_rest : (p : ℕ) → p < peerings_in setup → IsAtRest setup w p
  at_rest p l =
      let h = (always_owned setup ok w reached).peerings p l in
      record {
        session = h.session;
        stands = subst (λ (x : Phase). Stands setup w p x h.session) (quiet_phase setup w p h.phase h.session quiet h.stands) h.stands;
      }

  peering_solves : (p : ℕ) → p < peerings_in setup → SolvesOn setup w p
  peering_solves p l =
      let a : IsAtRest setup w p = at_rest p l in
      let phase : Phase = Idle (placement setup w.operator p) in
      solves_on setup w p a.session quiet a.stands
      (has_at setup (IsUnbroken setup) w p phase a.session (always_unbroken setup w p ok reached l) a.stands)
      (has_at setup (Points setup) w p phase a.session (always_points setup ok w reached p l) a.stands)
      (has_at setup (Entered setup) w p phase a.session (entered p l) a.stands)
      (answered (placement setup w.operator p) a.stands.bounds)

  sessions_give : (r : ℕ) (x : PrefixValue) (p : ℕ) → p < peerings_in setup → GivesSame setup w r x p
  sessions_give r x p l =
      let a : IsAtRest setup w p = at_rest p l in
      let phase : Phase = Idle (placement setup w.operator p) in
      let some = some_peering setup p l in
      let unbroken : IsUnbroken setup w p phase a.session =
      has_at setup (IsUnbroken setup) w p phase a.session (always_unbroken setup w p ok reached l) a.stands in
      entries_routes setup w r p (placement setup w.operator p) x a.session a.stands (has_at setup (Entered setup) w p phase a.session (entered p l) a.stands)
      (own_number setup p some.0 a.session.config ok some.1 unbroken.own.config)

  pub solves : Solves setup w
  solves = record {
    best = λ r x l. best_is setup w quiet r l x (decided r l) informed (λ p below. sessions_give r x p below);
    tellings = λ r q x l m ne. heard_quiet setup w r q x quiet (informed r q) ne m;
    peerings = peering_solves;
  }
