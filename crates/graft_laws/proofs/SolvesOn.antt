-- A peering solves in a quiet world.
use Rattle.std.proofs.Common.{◌≡◌, ◌==◌, ℕ, false, take, None, refl, sym, ap, ◌∙◌, arith}
use Rattle.std.proofs.lemmas.Bool.Decides.{nat_tests}
use Rattle.std.proofs.Math.Seq.{take-length}
use Rattle.std.specs.Prelude.{◌≢◌, is_some}
use Rattle.std.specs.FinMap as map
use Rattle.bgp_types.specs.Prefixes.{PrefixValue}
use Rattle.bgp_types.specs.Tables.{prefix_cmp}
use Rattle.bgp_types.specs.declared.message.SessionState.{SessionState}
use Rattle.bgp_types.specs.declared.message.SessionState.TheVariants.{OpenSent, OpenConfirm, Established, Closed}
use Rattle.bgp_story.specs.Readings.{Routes, put_bytes}
use Rattle.bgp_story.proofs.Shapes.{got_in_frames_is}
use Rattle.tcp_seq.specs.Endpoint.{Endpoint, received_bytes}
use Rattle.tcp_seq.specs.Connection.{Flows}
use Rattle.session_value.specs.Sessions.{SessionValue, peering_of, state, unread, while_established}
use Rattle.session_value.specs.Sets.{Prefixes, has}
use Rattle.session_value.proofs.Ties.{received_is}
use Rattle.graft_model.specs.Setups.{Setup}
use Rattle.graft_model.specs.Parts.{World}
use Rattle.graft_model.specs.Decisions.{to_tell}
use Rattle.graft_model.specs.OperatorRows.{placement}
use Rattle.graft_model.specs.Quiet.{AllAcked, Quiet}
use Rattle.graft_model.specs.Claims.{GotAll, SolvesOn}
use Rattle.graft_laws.specs.Phases.{Idle}
use Rattle.graft_laws.specs.Owned.{Stands}
use Rattle.graft_laws.specs.Streams.{IsUnbroken}
use Rattle.graft_laws.specs.Pointing.{Points}
use Rattle.graft_laws.specs.Tables.{Entered, Answered}
use Rattle.graft_laws.proofs.Pointing.{linked}
use Rattle.graft_laws.proofs.ToldNone.{told_none}
use Rattle.graft_laws.proofs.QuietPhases.{placed_there, vacant_else, IsDone, quiet_done}

-- ---- both streams came whole

-- one side received all of the other's stream
whole : (from to : Endpoint) → Flows from to → AllAcked from to → received_bytes to ≡ from.stream
whole from to flows acked = flows.bytes ∙ (ap (λ (n : ℕ). take n from.stream) acked.received ∙ take-length from.stream)

pub none_there : (prefixes : Prefixes) (x : PrefixValue) → prefixes ≡ map.empty → has prefixes x ≡ false
none_there prefixes x none = ap (λ (s : Prefixes). has s x) none ∙ ap is_some (map.get-empty prefix_cmp x)

module _ (setup : Setup) (w : World) (p q : ℕ) (s : SessionValue) (b : Stands setup w p (Idle q) s)
    (quiet : Quiet setup w) (unbroken : IsUnbroken setup w p (Idle q) s) where
  done : IsDone w p s
  done = quiet_done setup w p q s quiet b

  all_put : received_bytes (w.far p).end ≡ put_bytes (peering_of s.config) s.story
  all_put = whole s.end (w.far p).end unbroken.streams.linked.there done.home ∙ unbroken.story.tied.put

  all_got : GotAll s (w.far p).end.stream
  all_got = record {
    rest = unread s;
    is = sym (whole (w.far p).end s.end unbroken.streams.linked.back done.remote) ∙ received_is s unbroken.story.tied;
    whole = got_in_frames_is (peering_of s.config) s.story (state s) unbroken.story.tied.allowed;
    end = done.read;
  }

  -- what was told is what is to be told
  told_all : Answered setup q (w.router q) → (x : PrefixValue) → map.get s.adj_rib_out x ≡ while_established (state s) (to_tell setup q (w.router q) s x)
  told_all answered x = by_state (state s) refl where
    none : state s ≢ Established → map.get s.adj_rib_out x ≡ None
    none up = ap (λ (t : Routes). map.get t x) (told_none s unbroken.story up) ∙ map.get-empty prefix_cmp x

    by_state : (now : SessionState) → state s ≡ now → map.get s.adj_rib_out x ≡ while_established now (to_tell setup q (w.router q) s x)
    by_state Established up = answered.adj_rib_out p s None (placed_there setup w p q s b) up x (none_there ((w.router q).due_out p) x (quiet.told_out q p))
    by_state OpenSent now = none (λ (up : state s ≡ Established). (let e : OpenSent ≡ Established = sym now ∙ up in absurd cc))
    by_state OpenConfirm now = none (λ (up : state s ≡ Established). (let e : OpenConfirm ≡ Established = sym now ∙ up in absurd cc))
    by_state Closed now = none (λ (up : state s ≡ Established). (let e : Closed ≡ Established = sym now ∙ up in absurd cc))

pub solves_on : (setup : Setup) (w : World) (p : ℕ) (s : SessionValue) → Quiet setup w → Stands setup w p (Idle (placement setup w.operator p)) s
    → IsUnbroken setup w p (Idle (placement setup w.operator p)) s
    → Points setup w p (Idle (placement setup w.operator p)) s → Entered setup w p (Idle (placement setup w.operator p)) s
    → Answered setup (placement setup w.operator p) (w.router (placement setup w.operator p)) → SolvesOn setup w p
solves_on setup w p s quiet b unbroken points entered answered =
    let q : ℕ = placement setup w.operator p in
    record {
      session = s;
      placed = placed_there setup w p q s b;
      linked = linked setup w p q s points (quiet.outward q p);
      adj_rib_out = told_all setup w p q s b quiet unbroken answered;
      received = all_put setup w p q s b quiet unbroken;
      got = all_got setup w p q s b quiet unbroken;
      elsewhere = λ r l ne. (vacant_else setup w p q r s b ne, entered.elsewhere r (let e : (r == q) ≡ false = grind (arith, nat_tests) in e) refl);
    }
