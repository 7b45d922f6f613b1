-- One segment more.
use Rattle.std.proofs.Common.{◌≡◌, ℕ, List, [], ◌∷◌, ◌++◌, Option, Some, None, set, refl, sym, ap, ◌∙◌, subst}
use Rattle.std.specs.List.{slice_get}
use Rattle.std.specs.Option.{option_and_then}
use Rattle.std.proofs.lemmas.List.{set-get_or}
use Rattle.std.proofs.lemmas.Option.{get_or_from_slice_get}
use Rattle.tcp_seq.specs.declared.segment.Way.{Way}
use Rattle.tcp_seq.specs.declared.segment.Way.TheVariants.{Home, Remote}
use Rattle.captured_streams.specs.declared.directed.Peer.{Peer}
use Rattle.captured_streams.specs.declared.directed.Directed.{Directed}
use Rattle.captured_streams.specs.declared.flows.Stream.{Stream}
use Rattle.captured_streams.specs.declared.flows.Both.{Both}
use Rattle.captured_streams.specs.declared.flows.Step.TheVariants.{Nothing, Brings as BringsOctets, Beyond}
use Rattle.captured_streams.specs.declared.streams.Flow.{Flow}
use Rattle.captured_streams.specs.Flows.{one_way, with_stream, stream_of, stream_at, set_stream, BringsOn, BringsAt, AreFlows}
use Rattle.captured_streams.specs.Peers.{peer_at}
use Rattle.captured_streams.specs.Steps.{IsStep, IsBeyondAt, with_slot, BringsNext}

-- ---- more flows behind

on_more : (all : List Both) (s : Directed) (flows more : List Flow) (P Q : List Both → List Flow → Type 0)
    → ((after : List Both) (rest : List Flow) → P after rest → Q after (rest ++ more)) → (k : ℕ) (o : Option Stream) → BringsOn all s flows P k o
    → BringsOn all s (flows ++ more) Q k o
on_more all s flows more P Q go k None b = go all flows b
on_more all s flows more P Q go k (Some before) b =
    (b.0, b.1, b.2 ++ more, b.3, b.4, ap (λ (fs : List Flow). fs ++ more) b.5, go (set_stream all k s.way b.1) b.2 b.6)

at_more : (all : List Both) (s : Directed) (flows more : List Flow) (P Q : List Both → List Flow → Type 0)
    → ((after : List Both) (rest : List Flow) → P after rest → Q after (rest ++ more)) → (o : Option ℕ) → BringsAt all s flows P o
    → BringsAt all s (flows ++ more) Q o
at_more all s flows more P Q go None b = go all flows b
at_more all s flows more P Q go (Some k) b = on_more all s flows more P Q go k (stream_at (stream_of all k s.way) s.segment) b

-- one segment more, which brings these flows
pub flows_more : (known : List Peer) (all : List Both) (before : List Directed) (s : Directed) (flows more : List Flow) (mid after : List Both)
    → AreFlows known all before flows mid → BringsAt mid s more (λ end rest. (rest ≡ []) × (after ≡ end)) (peer_at known s)
    → AreFlows known all (before ++ s ∷ []) (flows ++ more) after
flows_more known all [] s flows more mid after are next =
    subst (λ (fs : List Flow). BringsAt all s (fs ++ more) (λ end rest. (rest ≡ []) × (after ≡ end)) (peer_at known s)) (sym are.0)
    (subst (λ (m : List Both). BringsAt m s more (λ end rest. (rest ≡ []) × (after ≡ end)) (peer_at known s)) are.1 next)
flows_more known all (r ∷ before) s flows more mid after are next =
    at_more all r flows more (λ end rest. AreFlows known end before rest mid) (λ end rest. AreFlows known end (before ++ s ∷ []) rest after)
    (λ end rest behind. flows_more known end before s rest more mid after behind next) (peer_at known r) are

-- ---- what one segment does

pub same_slot : (way : Way) (both : Both) → with_slot way (one_way way both) both ≡ both
same_slot Home both = refl
same_slot Remote both = refl

slot_stream : (way : Way) (stream : Stream) (both : Both) → with_slot way (Some stream) both ≡ with_stream way stream both
slot_stream Home stream both = refl
slot_stream Remote stream both = refl

module _ (all : List Both) (s : Directed) (k : ℕ) (old new : Both) (there : slice_get all k ≡ Some old)
    (rest : new ≡ with_slot s.way (one_way s.way new) old) where
  stream_is : stream_of all k s.way ≡ one_way s.way old
  stream_is = ap (option_and_then (one_way s.way)) there

  at_is : stream_at (stream_of all k s.way) s.segment ≡ stream_at (one_way s.way old) s.segment
  at_is = ap (λ (o : Option Stream). stream_at o s.segment) stream_is

  pub step_nothing : IsStep s.way (one_way s.way old) s.segment (one_way s.way new) Nothing → BringsNext all s k [] (set all k new)
  step_nothing w =
      let same : new ≡ old = rest ∙ ap (λ (slot : Option Stream). with_slot s.way slot old) w.1 ∙ same_slot s.way old in
      let stays : set all k new ≡ all = ap (set all k) (same ∙ sym (get_or_from_slice_get all k old old there)) ∙ set-get_or all k old in
      subst (λ (o : Option Stream). BringsOn all s [] (λ end more. (more ≡ []) × (set all k new ≡ end)) k o) (sym (at_is ∙ w.0)) (refl, stays)

  pub step_brings : (octets : List ℕ) → IsStep s.way (one_way s.way old) s.segment (one_way s.way new) (BringsOctets octets)
      → BringsNext all s k (record { peer = k; way = s.way; octets = octets } ∷ []) (set all k new)
  step_brings octets w =
      let put : new ≡ with_stream s.way w.1 old =
      rest ∙ ap (λ (slot : Option Stream). with_slot s.way slot old) w.5 ∙ slot_stream s.way w.1 old in
      let none : Both = record { to_home = None; to_remote = None } in
      let stays : set all k new ≡ set_stream all k s.way w.1 =
      ap (set all k) (put ∙ ap (with_stream s.way w.1) (sym (get_or_from_slice_get all k old none there))) in
      subst (λ (o : Option Stream). BringsOn all s (record { peer = k; way = s.way; octets = octets } ∷ [])
      (λ end more. (more ≡ []) × (set all k new ≡ end)) k o) (sym (at_is ∙ w.2)) (octets, w.1, [], w.3, w.4, refl, (refl, stays))

  pub step_beyond : (given : ℕ) → IsStep s.way (one_way s.way old) s.segment (one_way s.way new) (Beyond given)
      → IsBeyondAt s.way (stream_of all k s.way) s.segment given
  step_beyond given w = subst (λ (o : Option Stream). IsBeyondAt s.way o s.segment given) (sym stream_is) w
