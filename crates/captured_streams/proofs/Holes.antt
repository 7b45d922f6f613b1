-- Holes that are left.
use Rattle.std.proofs.Common.{◌≡◌, ◌≢◌, ℕ, ◌-◌, Bool, List, [], ◌∷◌, length, Some, None, get_or, refl, sym, ap, ◌∙◌, arith}
use Rattle.std.specs.Prelude.{false, ◌==◌}
use Rattle.std.specs.List.{slice_get}
use Rattle.std.proofs.lemmas.Bool.{false≢true}
use Rattle.std.specs.Option.{option_and_then}
use Rattle.tcp_seq.specs.declared.segment.Way.TheVariants.{Home}
use Rattle.tcp_seq.specs.declared.state.Piece.{Piece}
use Rattle.tcp_reasm.specs.Runs.{AreRuns, held}
use Rattle.tcp_reasm.proofs.Held.{held_here}
use Rattle.captured_streams.specs.declared.flows.Stream.{Stream}
use Rattle.captured_streams.specs.declared.flows.Both.{Both}
use Rattle.captured_streams.specs.Flows.{one_way, stream_of}
use Rattle.captured_streams.specs.Readings.{HasOctets, HasRest}
use Rattle.captured_streams.proofs.Positions.{Some-None}

-- ---- pieces

some_held : (ps : List Piece) → AreRuns 0 ps → ps ≢ [] → (offset : ℕ) × (octet : ℕ) × (held ps offset ≡ Some octet)
some_held [] runs some = absurd (some refl)
some_held (p ∷ ps) runs some = (p.offset, get_or p.bytes (p.offset - p.offset) 0, held_here p ps p.offset (omega arith) (omega (arith, runs.1)))

not_empty : (ps : List Piece) (empty : Bool) → empty ≡ (length ps == 0) → empty ≡ false → ps ≢ []
not_empty ps empty is some e = false≢true (sym some ∙ is ∙ ap (λ (qs : List Piece). length qs == 0) e)

pub has_octets : (stream : Stream) (ps : List Piece) (empty : Bool) → ps ≡ stream.rest.pieces → AreRuns 0 ps → empty ≡ (length ps == 0)
    → empty ≡ false → HasOctets stream
has_octets stream ps empty is runs test some =
    let h = some_held ps runs (not_empty ps empty test some) in
    (h.0, h.1, ap (λ (qs : List Piece). held qs h.0) (sym is) ∙ h.2)

-- ---- one connection

module _ (all : List Both) (k : ℕ) (both : Both) (there : slice_get all k ≡ Some both) where
  home_is : stream_of all k Home ≡ both.to_home
  home_is = ap (option_and_then (one_way Home)) there

  pub rest_at : (stream : Stream) → both.to_home ≡ Some stream → HasOctets stream → HasRest all k stream
  rest_at stream is has = (home_is ∙ is, has)

  pub no_rest_at : ((stream : Stream) → both.to_home ≡ Some stream → ¬ HasOctets stream) → (stream : Stream) → ¬ HasRest all k stream
  no_rest_at none stream rest = none stream (sym home_is ∙ rest.0) rest.1

pub no_rest_past : (all : List Both) (k : ℕ) → slice_get all k ≡ None → (stream : Stream) → ¬ HasRest all k stream
no_rest_past all k past stream rest = Some-None stream (sym rest.0 ∙ ap (option_and_then (one_way Home)) past)
