-- Whether something stands at the front of bytes.
use Rattle.std.proofs.Common.{◌≡◌, ℕ, ◌≤◌, List, [], length, length-append, length-take, take, drop, take-append-drop}
use Rattle.std.proofs.Common.{append-nil, Option, Some, None, Err, refl, sym, ap, ◌∙◌, subst, inl, inr, arith}
use Rattle.std.specs.Prelude.{IsSome}
use Rattle.bgp_types.specs.declared.fault.Expected.{Expected}
use Rattle.bgp_types.specs.declared.fault.HeaderFault.{HeaderFault}
use Rattle.bgp_types.specs.FirstFault.{message_of, with_header}
use Rattle.bgp_types.specs.Header.{frame_at, header_fault, header_notice}
use Rattle.std.proofs.lemmas.Bool.{false≢true}
use Rattle.bgp_types.proofs.FrameLaws.{front_frame, header_same}
use Rattle.bgp_story.specs.Legal.{IsGot}
use Rattle.session_value.specs.Fronts.{BeginsNothing}
use Rattle.bgp_session.specs.Fronts.{BeginsSome}

-- the header at the front of more bytes is the same
pub front_fault : (bytes : List ℕ) (fault : HeaderFault) → 19 ≤ length bytes → header_fault bytes ≡ Some fault → header_fault (take 19 bytes) ≡ Some fault
front_fault bytes fault long faulty =
    sym (header_same (take 19 bytes) (drop 19 bytes) (omega (arith, length-take 19 bytes, long)))
    ∙ (ap header_fault (take-append-drop 19 bytes) ∙ faulty)

pub header_got : (bytes : List ℕ) (fault : HeaderFault) → 19 ≤ length bytes → header_fault bytes ≡ Some fault → IsGot (take 19 bytes)
header_got bytes fault long faulty = inr (omega (arith, length-take 19 bytes, long), subst IsSome (sym (front_fault bytes fault long faulty)) refl)

pub header_reads : (e : Expected) (bytes : List ℕ) (fault : HeaderFault) → header_fault bytes ≡ Some fault → message_of e bytes ≡ Err (header_notice fault)
unfolding message_of
header_reads e bytes fault h = ap (λ (o : Option HeaderFault). with_header o e bytes) h

-- ---- whether something can be read

pub first_frame : (bytes : List ℕ) (len : ℕ) → frame_at bytes ≡ Some (take len bytes, drop len bytes) → BeginsSome bytes
first_frame bytes len e =
    let f = front_frame bytes (take len bytes, drop len bytes) e in
    record { front = take len bytes; rest = drop len bytes; is = f.0; got = inl (ap frame_at (sym (append-nil (take len bytes))) ∙ f.1 []) }

pub some_fault : (bytes : List ℕ) (fault : HeaderFault) → 19 ≤ length bytes → header_fault bytes ≡ Some fault → BeginsSome bytes
some_fault bytes fault long faulty =
    record { front = take 19 bytes; rest = drop 19 bytes; is = sym (take-append-drop 19 bytes); got = header_got bytes fault long faulty }

-- without a whole message and a faulty header nothing can be got
pub begins_nothing : (bytes : List ℕ) → frame_at bytes ≡ None → (19 ≤ length bytes → header_fault bytes ≡ None) → BeginsNothing bytes
begins_nothing bytes none sound front rest is got = elim got [
  | inl frame ↦
      let there : frame_at bytes ≡ Some (front, rest) = ap frame_at is ∙ (front_frame front (front, []) frame).1 rest in
      absurd cc
  | inr faulty ↦
      let size : 19 ≤ length front = let l = faulty.0 in omega arith in
      let longer : 19 ≤ length bytes = rw is (omega (arith, length-append front rest)) in
      false≢true (subst (λ (o : Option HeaderFault). IsSome o) (sym (header_same front rest size) ∙ (ap header_fault (sym is) ∙ sound longer)) faulty.1)
]
