-- What is seen of an event, by the links of the auditor's far sides.
use Rattle.std.proofs.Common.{◌≡◌, ℕ, zero, suc, ◌+◌, ◌<◌, Bool, List, [], ◌∷◌, length, map, Option, Some, None, refl, sym, ap, ◌∙◌, subst}
use Rattle.std.specs.Prelude.{slice_get, unwrap_or}
use Rattle.std.specs.Option.{option_map, option_and_then}
use Rattle.std.specs.List.{AllByRecursion}
use Rattle.std.proofs.lemmas.List.{length-map}
use Rattle.std.proofs.lemmas.Option.{slice_get_within}
use Rattle.tcp_seq.specs.Endpoint.{PlacedSegment}
use Rattle.tcp_seq.specs.declared.segment.Segment.{Segment}
use Rattle.tcp_seq.specs.declared.segment.Way.{Way}
use Rattle.tcp_seq.specs.declared.segment.Way.TheVariants.{Home, Remote}
use Rattle.graft_model.specs.Setups.{Setup, routers_in}
use Rattle.graft_model.specs.Parts.{FarPart, World}
use Rattle.graft_model.specs.First.{first_far}
use Rattle.graft_model.specs.Steps.{Event, ByRouter, ByFar, ByOperator}
use Rattle.graft_model.specs.declared.event.FarEvent.{FarEvent}
use Rattle.graft_model.specs.declared.event.FarEvent.TheVariants.{Say, Send, Take, Pass, Reach, Lose, Point, Beat}
use Rattle.graft_actors.specs.Actors.{ActorName, ActorPart, FarIs, FarSide, actor_at}
use Rattle.graft_actors.specs.Items.{IsSegmentOf, segment_of}
use Rattle.graft_actors.specs.Laws.{IsEntryOf}
use Rattle.graft_actors.proofs.Numbers.{there}
use Rattle.ring_net.specs.declared.entry.JournalEntry.{JournalEntry}
use Rattle.audit_far.specs.Parts.{far_part}
use Rattle.audit_far.specs.declared.far.AuditedFar.{AuditedFar}
use Rattle.lab_tables.specs.declared.input.LabInput.{LabInput}
use Rattle.lab_setup.specs.Setups.{setup_of}
use Rattle.run_auditor.specs.Sound.{AuditorInvariant}
use Rattle.run_auditor.specs.States.{StandsFor, own_of}
use Rattle.run_auditor.specs.declared.auditor.Auditor.{Auditor}
use Rattle.lab_capture.specs.Taps.{packet_at, tapped}
use Rattle.lab_capture.specs.Tapping.{packet_of}

-- ---- the far sides of a world

abbrev far_in : ActorPart → FarPart → FarPart
far_in (FarIs part) other = part
far_in part other = other

far_is : (f : Auditor) (inv : AuditorInvariant f) (w : World) (s : StandsFor f w) (p : ℕ) (x : AuditedFar) → slice_get f.far_sides.items p ≡ Some x
    → far_part x ≡ w.far p
far_is f inv w s p x at = ap (λ (part : ActorPart). far_in part (far_part x))
    (ap (λ (o : Option AuditedFar). FarIs (unwrap_or (option_map far_part o) (first_far None))) (sym at)
    ∙ (ap (λ (o : Option ActorName). (own_of f o).part) (sym at_p) ∙ s.lab.sees.parts (routers_in f.known.setup + p) (FarSide p) at_p))
  where
    at_p : actor_at f.known.setup (routers_in f.known.setup + p) ≡ Some (FarSide p)
    at_p = there f.known.setup (FarSide p) (subst (λ (n : ℕ). p < n) inv.all_far_sides (slice_get_within f.far_sides.items p x at))

-- ---- the segment at an index of a link

in_link : (input : LabInput) (p : ℕ) (way : Way) (link : List Segment) (k : ℕ) → AllByRecursion (IsSegmentOf (setup_of input) p way) link
    → option_and_then (packet_of input) (slice_get link k)
    ≡ option_and_then (packet_at input p) (option_map (λ s. (way, s)) (slice_get (map (segment_of (setup_of input)) link) k))
in_link input p way [] k all = refl
in_link input p way (g ∷ link) zero all = λ i. packet_at input (all.0.peering i) (all.0.way i, segment_of (setup_of input) g)
in_link input p way (g ∷ link) (suc k) all = in_link input p way link k all.1

-- A far side of the input's laboratory, and what a world has for it.
record IsFar (input : LabInput) (p : ℕ) (x : AuditedFar) (part : FarPart) : Type 0 where
  homeward_fit : AllByRecursion (IsSegmentOf (setup_of input) p Home) x.homeward
  remoteward_fit : AllByRecursion (IsSegmentOf (setup_of input) p Remote) x.remoteward
  homeward : map (segment_of (setup_of input)) x.homeward ≡ part.homeward
  remoteward : map (segment_of (setup_of input)) x.remoteward ≡ part.remoteward

is_far : (input : LabInput) (f : Auditor) (inv : AuditorInvariant f) → f.known.setup ≡ setup_of input → (p : ℕ) (x : AuditedFar)
    → slice_get f.far_sides.items p ≡ Some x → (w : World) → StandsFor f w → IsFar input p x (w.far p)
is_far input f inv setup p x at w s =
    let keeps = inv.far_sides p x at in
    let own : x.known.setup ≡ setup_of input = keeps.setup ∙ setup in
    let part = far_is f inv w s p x at in
    record {
      homeward_fit = subst (λ (s : Setup). AllByRecursion (IsSegmentOf s p Home) x.homeward) own
          (subst (λ (n : ℕ). AllByRecursion (IsSegmentOf x.known.setup n Home) x.homeward) keeps.number keeps.sound.homeward);
      remoteward_fit = subst (λ (s : Setup). AllByRecursion (IsSegmentOf s p Remote) x.remoteward) own
          (subst (λ (n : ℕ). AllByRecursion (IsSegmentOf x.known.setup n Remote) x.remoteward) keeps.number keeps.sound.remoteward);
      homeward = ap (λ (s : Setup). map (segment_of s) x.homeward) (sym own) ∙ ap (λ (y : FarPart). y.homeward) part;
      remoteward = ap (λ (s : Setup). map (segment_of s) x.remoteward) (sym own) ∙ ap (λ (y : FarPart). y.remoteward) part;
    }

reached : (input : LabInput) (p : ℕ) (x : AuditedFar) (part : FarPart) → IsFar input p x part → (k : ℕ)
    → option_and_then (packet_of input) (slice_get x.remoteward k)
    ≡ option_and_then (packet_at input p) (option_map (λ s. (Remote, s)) (slice_get part.remoteward k))
reached input p x part far k = in_link input p Remote x.remoteward k far.remoteward_fit
    ∙ ap (λ (link : List PlacedSegment). option_and_then (packet_at input p) (option_map (λ s. (Remote, s)) (slice_get link k))) far.remoteward

sent : (input : LabInput) (p : ℕ) (x y : AuditedFar) (before after : FarPart) → IsFar input p x before → IsFar input p y after → (n : ℕ)
    → n ≡ length x.homeward → option_and_then (packet_of input) (slice_get y.homeward n)
    ≡ option_and_then (packet_at input p) (option_map (λ s. (Home, s)) (slice_get after.homeward (length before.homeward)))
sent input p x y before after far new n many = in_link input p Home y.homeward n new.homeward_fit
    ∙ (λ i. option_and_then (packet_at input p) (option_map (λ s. (Home, s)) (slice_get (new.homeward i) (length_is i))))
  where
    length_is : n ≡ length before.homeward
    length_is = many ∙ (sym (length-map x.homeward (segment_of (setup_of input))) ∙ ap (λ (link : List PlacedSegment). length link) far.homeward)

-- ---- events

module _ (input : LabInput) (f : Auditor) (inv : AuditorInvariant f) (setup : f.known.setup ≡ setup_of input) (p : ℕ) (x : AuditedFar)
    (at : slice_get f.far_sides.items p ≡ Some x) (w : World) (s : StandsFor f w) where
  pub reach_seen : (v : World) (index : ℕ) (keep : Bool)
      → option_and_then (packet_of input) (slice_get x.remoteward index) ≡ tapped input (ByFar p (Reach index keep)) w v
  reach_seen v index keep = reached input p x (w.far p) (is_far input f inv setup p x at w s) index

  pub send_seen : (g : Auditor) (new : AuditorInvariant g) → g.known.setup ≡ setup_of input → (y : AuditedFar) → slice_get g.far_sides.items p ≡ Some y
      → (v : World) → StandsFor g v → (from len n : ℕ) → n ≡ length x.homeward
      → option_and_then (packet_of input) (slice_get y.homeward n) ≡ tapped input (ByFar p (Send from len)) w v
  send_seen g new same y there v stands from len n many =
      sent input p x y (w.far p) (v.far p) (is_far input f inv setup p x at w s) (is_far input g new same p y there v stands) n many

-- nothing is seen of any other event
pub none_seen : (input : LabInput) (p : ℕ) (event : FarEvent) → ((from len : ℕ) → event ≡ Send from len → ⊥)
    → ((index : ℕ) (keep : Bool) → event ≡ Reach index keep → ⊥) → (w v : World) → None ≡ tapped input (ByFar p event) w v
none_seen input p (Say step) send reach w v = refl
none_seen input p (Send from len) send reach w v = absurd (send from len refl)
none_seen input p (Take router) send reach w v = refl
none_seen input p (Pass index keep router) send reach w v = refl
none_seen input p (Reach index keep) send reach w v = absurd (reach index keep refl)
none_seen input p (Lose way index) send reach w v = refl
none_seen input p (Point router) send reach w v = refl
none_seen input p (Beat round) send reach w v = refl

pub elsewhere_seen : (input : LabInput) (entry : JournalEntry) → ((p : ℕ) (event : FarEvent) → ¬ IsEntryOf (setup_of input) (ByFar p event) entry)
    → (event : Event) (w v : World) → IsEntryOf (setup_of input) event entry → None ≡ tapped input event w v
elsewhere_seen input entry none (ByRouter r event) w v own = refl
elsewhere_seen input entry none (ByFar p event) w v own = absurd (none p event own)
elsewhere_seen input entry none (ByOperator event) w v own = refl
