-- The messages of a stream are those of the joined bytes, however they came.
use Rattle.std.proofs.Common.{◌≡◌, ℕ, List, [], ◌∷◌, ◌++◌, length-append, Option, Some, None, refl, sym, ap, ◌∙◌, arith, append_assoc}
use Rattle.std.specs.List.{flat_map, All}
use Rattle.std.proofs.lemmas.List.{append-nil}
use Rattle.std.proofs.lemmas.List.Elements.{All-from_recursion, All-push, recursion_from_All}
use Rattle.bgp_types.specs.declared.fault.HeaderFault.{HeaderFault}
use Rattle.bgp_types.specs.Header.{frame_at}
use Rattle.bgp_types.specs.Many.{many}
use Rattle.bgp_types.proofs.FrameLaws.{IsFrame, front_frame, frame_is, frame_reads, header_same}
use Rattle.bgp_types.proofs.ManyLaws.{many_front}
use Rattle.bgp_frame.specs.Streams.{Stream, Call, Feed, Ask, asked, after_call, all_called, empty_stream, IsStream, HasFaultAtFront}

-- the frame at the front of bytes is whole by itself
pub front_is_whole : (bytes frame rest : List ℕ) → frame_at bytes ≡ Some (frame, rest) → frame_at frame ≡ Some (frame, [])
front_is_whole bytes frame rest e = ap frame_at (sym (append-nil frame)) ∙ (front_frame bytes (frame, rest) e).1 []

record Kept (s : Stream) : Type 0 where
  joined : flat_map (λ (frame : List ℕ). frame) s.given ++ s.held ≡ s.fed
  each : All IsFrame s.given

asked_keeps : (s : Stream) (o : Option (List ℕ × List ℕ)) → frame_at s.held ≡ o → Kept s → Kept (asked s o)
asked_keeps s None e k = k
asked_keeps s (Some x) e k =
    let f = front_frame s.held x e in
    let id : List ℕ → List ℕ = λ frame. frame in
    record {
      joined = append_assoc-flat s.given x.0 x.1 ∙ (ap (λ (y : List ℕ). flat_map id s.given ++ y) (sym f.0) ∙ k.joined);
      each = All-push IsFrame s.given x.0 k.each f.1;
    }
  where
    append_assoc-flat : (given : List (List ℕ)) (frame rest : List ℕ)
        → flat_map (λ (f : List ℕ). f) (given ++ frame ∷ []) ++ rest ≡ flat_map (λ (f : List ℕ). f) given ++ (frame ++ rest)
    append_assoc-flat [] frame rest = ap (λ (y : List ℕ). y ++ rest) (append-nil frame)
    append_assoc-flat (g ∷ given) frame rest =
        append_assoc g (flat_map (λ (f : List ℕ). f) (given ++ frame ∷ [])) rest
        ∙ (ap (λ (y : List ℕ). g ++ y) (append_assoc-flat given frame rest) ∙ sym (append_assoc g (flat_map (λ (f : List ℕ). f) given) (frame ++ rest)))

called_keeps : (s : Stream) (c : Call) → Kept s → Kept (after_call s c)
called_keeps s (Feed bytes) k =
    record { joined = sym (append_assoc (flat_map (λ (f : List ℕ). f) s.given) s.held bytes) ∙ ap (λ (y : List ℕ). y ++ bytes) k.joined; each = k.each }
called_keeps s Ask k = asked_keeps s (frame_at s.held) refl k

all_keep : (s : Stream) (calls : List Call) → Kept s → Kept (all_called s calls)
all_keep s [] k = k
all_keep s (c ∷ calls) k = all_keep (after_call s c) calls (called_keeps s c k)

pub stream_law : (calls : List Call) → IsStream (all_called empty_stream calls)
stream_law calls =
    let s : Stream = all_called empty_stream calls in
    let k = all_keep empty_stream calls (record { joined = refl; each = All-from_recursion IsFrame [] tt }) in
    record {
      joined = k.joined;
      frames = sym (many_front frame_at (λ frame. frame) IsFrame frame_reads s.given s.held (recursion_from_All IsFrame s.given k.each))
          ∙ ap (many frame_at) k.joined;
    }

-- ---- a faulty header stays

stuck_asked : (fault : HeaderFault) (before s : Stream) (o : Option (List ℕ × List ℕ)) → frame_at s.held ≡ o → HasFaultAtFront fault before s
    → HasFaultAtFront fault before (asked s o)
stuck_asked fault before s None e stuck = stuck
stuck_asked fault before s (Some x) e stuck = let sound = (frame_is s.held x e).1 in let faulty = stuck.fault_is in absurd cc

stuck_called : (fault : HeaderFault) (before s : Stream) (c : Call) → HasFaultAtFront fault before s → HasFaultAtFront fault before (after_call s c)
stuck_called fault before s (Feed bytes) stuck = let enough = stuck.enough in record {
  enough = omega (arith, length-append s.held bytes);
  fault_is = header_same s.held bytes stuck.enough ∙ stuck.fault_is;
  given = stuck.given;
}
stuck_called fault before s Ask stuck = stuck_asked fault before s (frame_at s.held) refl stuck

pub stuck_law : (fault : HeaderFault) (before s : Stream) (calls : List Call) → HasFaultAtFront fault before s
    → HasFaultAtFront fault before (all_called s calls)
stuck_law fault before s [] stuck = stuck
stuck_law fault before s (c ∷ calls) stuck = stuck_law fault before (after_call s c) calls (stuck_called fault before s c stuck)
