-- What a far side begins with, and when nothing is left to it.
use Rattle.std.proofs.Common.{◌≡◌, ◌≢◌, ℕ, ◌==◌, List, [], ◌∷◌, ◌++◌, length, map, Bool, true, false}
use Rattle.std.proofs.Common.{Option, Some, refl, sym, ap, ◌∙◌, arith}
use Rattle.std.specs.Prelude.{option_map, unwrap_or, slice_get}
use Rattle.std.proofs.lemmas.Bool.Decides.{nat_tests}
use Rattle.std.proofs.lemmas.Option.{slice_get_within}
use Rattle.tcp_seq.specs.Endpoint.{Endpoint, fresh_endpoint}
use Rattle.tcp_seq.specs.declared.segment.Segment.{Segment}
use Rattle.graft_steps.specs.declared.rest.Pending.{Pending}
use Rattle.graft_steps.specs.declared.rest.Pending.TheVariants.{Bag, Stream}
use Rattle.graft_model.specs.Setups.{PeeringSetup, keepalive_interval_of}
use Rattle.graft_model.specs.First.{first_far}
use Rattle.graft_model.specs.Parts.{FarPart}
use Rattle.graft_actors.specs.Items.{home_first, remote_first, segment_of}
use Rattle.graft_actors.specs.declared.known.Known.{Known}
use Rattle.actor_configs.specs.Says.{bytes_to_say, bytes_at}
use Rattle.actor_configs.specs.Fars.{IsFarConfigOf}
use Rattle.actor_configs.specs.declared.far.FarConfig.{FarConfig}
use Rattle.actor_configs.specs.declared.says.SayTable.{SayTable}
use Rattle.remote_end.specs.Remotes.{RemoteValue}
use Rattle.settled_check.specs.Left.{LeftAtFar}
use Rattle.audit_far.specs.Parts.{FarInvariant, far_part}
use Rattle.audit_far.specs.declared.far.AuditedFar.{AuditedFar}

-- ---- the beginning

abbrev pub begun : Known → FarConfig → SayTable → RemoteValue → List Segment → List Segment → AuditedFar
begun known config table r home remote = record {
  known = known;
  routers = config.routers;
  peering = config.peering;
  says = table;
  keepalive_interval = config.beat;
  remote = r;
  homeward = home;
  remoteward = remote;
  pointer = config.pointer;
  followed = 0;
  keepalives = 0;
  last_keepalive = 0;
}

module _ (known : Known) (config : FarConfig) (table : SayTable) (r : RemoteValue) (home remote : List Segment) (is : IsFarConfigOf known.setup config)
    (says : (step : ℕ) → bytes_at table step ≡ bytes_to_say config.says step)
    (r_is : r ≡ record {
      end = record fresh_endpoint { stream = config.opening };
      at_turn = 0;
      peering = config.peering.0;
      send_first = config.send_first.0;
      receive_first = config.receive_first.0;
    })
    (home_is : home ≡ []) (remote_is : remote ≡ []) where
  sends : config.send_first.0 ≡ remote_first known.setup config.peering.0
  sends = ap (λ s. s.0) is.sends
      ∙ sym (ap (λ (o : Option PeeringSetup). unwrap_or (option_map (λ c. c.receive_first.0) (option_map (λ q. q.config) o)) 0) is.is)

  receives : config.receive_first.0 ≡ home_first known.setup config.peering.0
  receives = ap (λ s. s.0) is.receives
      ∙ sym (ap (λ (o : Option PeeringSetup). unwrap_or (option_map (λ c. c.send_first.0) (option_map (λ q. q.config) o)) 0) is.is)

  ends : r.end ≡ record fresh_endpoint { stream = is.peering.opening }
  ends = ap (λ (v : RemoteValue). v.end) r_is ∙ ap (λ (xs : List ℕ). let e : Endpoint = record fresh_endpoint { stream = xs } in e) is.opening

  pub begun_first : far_part (begun known config table r home remote) ≡ first_far (slice_get known.setup.peerings config.peering.0)
  begun_first = (λ i. let v : FarPart = record {
    end = ends i;
    homeward = map (segment_of known.setup) (home_is i);
    remoteward = map (segment_of known.setup) (remote_is i);
    pointer = is.pointer i;
    followed = 0;
    keepalives = 0;
    last_keepalive = 0;
  } in v) ∙ ap first_far (sym is.is)

  pub begun_stands : FarInvariant (begun known config table r home remote)
  begun_stands = record {
    routers = is.routers;
    few = is.few;
    there = slice_get_within known.setup.peerings config.peering.0 is.peering is.is;
    keepalive_interval = ap (option_map keepalive_interval_of) is.is ∙ ap Some (sym is.beat);
    says = λ step. says step ∙ is.says step;
    remote = ap (λ (v : RemoteValue). v.peering) r_is;
    sends = ap (λ (v : RemoteValue). v.send_first) r_is ∙ sends;
    receives = ap (λ (v : RemoteValue). v.receive_first) r_is ∙ receives;
    homeward = rw home_is tt;
    remoteward = rw remote_is tt;
  }

-- ---- the rest

equal : (m n : ℕ) → ((m ≢ n) → ⊥) → m ≡ n
equal m n unlike = by_test (m == n) refl where
  by_test : (b : Bool) → (m == n) ≡ b → m ≡ n
  by_test true e = grind (arith, nat_tests)
  by_test false e =
      let other : m ≢ n = λ is. grind (arith, nat_tests) in
      absurd (unlike other)

module _ {A B : Type 0} (f : A → B) where
  no_items : (xs ys : List A) → ((map f xs ++ map f ys ≢ []) → ⊥) → (xs ≡ []) × (ys ≡ [])
  no_items [] [] unlike = (refl, refl)
  no_items [] (y ∷ ys) unlike = absurd (unlike (λ e. cc))
  no_items (x ∷ xs) ys unlike = absurd (unlike (λ e. cc))

module _ (f : AuditedFar) where
  abbrev IsResting : Type 0
  IsResting = (x : Pending) → ¬ LeftAtFar f.peering.0 (far_part f) x

  pub rests : f.homeward ≡ [] → f.remoteward ≡ [] → f.remote.end.acked ≡ length f.remote.end.stream → IsResting
  rests home remote acked (Bag q) left = left.1 (λ i. map (segment_of f.known.setup) (home i) ++ map (segment_of f.known.setup) (remote i))
  rests home remote acked (Stream q) left = left.1 acked
  rests home remote acked x left = left

  pub no_segments : IsResting → (f.homeward ≡ []) × (f.remoteward ≡ [])
  no_segments none = no_items (segment_of f.known.setup) f.homeward f.remoteward (λ some. none (Bag f.peering) (refl, some))

  pub all_acked : IsResting → f.remote.end.acked ≡ length f.remote.end.stream
  all_acked none = equal f.remote.end.acked (length f.remote.end.stream) (λ some. none (Stream f.peering) (refl, some))
