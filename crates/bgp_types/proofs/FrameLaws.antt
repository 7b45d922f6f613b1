-- A message at the front of bytes stands there whatever follows.
use Rattle.std.proofs.Common.{◌≡◌, ℕ, ◌-◌, ◌≤◌, List, ◌++◌, length, take, drop, get_or, eqb, subst, length-append}
use Rattle.std.proofs.Common.{length-drop, Option, Some, None, Bool, true, false, cond, ltb, refl, sym, ap, ◌∙◌, arith}
use Rattle.std.specs.Prelude.{is_some, ◌||◌}
use Rattle.std.specs.List.{list_all}
use Rattle.std.specs.Int.{w16, from_be_bytes}
use Rattle.std.proofs.lemmas.List.{take_at, drop_at, take-append-drop, take-append-le, drop-append-le, get_or_append_left, length-take-le}
use Rattle.std.proofs.lemmas.Bool.{ltb-false, le-ltb}
use Rattle.std.proofs.lemmas.Option.{same_Some}
use Rattle.bgp_types.specs.declared.fault.HeaderFault.{HeaderFault}
use Rattle.bgp_types.specs.declared.fault.HeaderFault.TheVariants.{NotSynchronized, BadLength, BadType}
use Rattle.bgp_types.specs.Header.{frame_at, header_fault, len_in, has_room, fault_of_kind}
use Rattle.bgp_types.proofs.ManyLaws.{Reads, Shortens, kept_out, either_false}

pub frame_is : (bytes : List ℕ) (x : List ℕ × List ℕ) → frame_at bytes ≡ Some x
    → (19 ≤ length bytes) × (header_fault bytes ≡ None) × (len_in bytes ≤ length bytes) × ((take (len_in bytes) bytes, drop (len_in bytes) bytes) ≡ x)
unfolding frame_at
frame_is bytes x e =
    let a = kept_out (ltb (length bytes) 19 || is_some (header_fault bytes)) _ x e in
    let t = either_false (ltb (length bytes) 19) (is_some (header_fault bytes)) a.0 in
    let b = kept_out (ltb (length bytes) (len_in bytes)) _ x a.1 in
    (ltb-false _ _ t.0, none_of (header_fault bytes) t.1, ltb-false _ _ b.0, same_Some _ x b.1)
  where
    none_of : (o : Option HeaderFault) → is_some o ≡ false → o ≡ None
    none_of None e = refl
    none_of (Some f) e = absurd cc

kind_long : (k len : ℕ) → fault_of_kind k len ≡ None → 19 ≤ len
kind_long k len e = by_test (ltb len 19) refl e where
  by_test : (t : Bool) → ltb len 19 ≡ t
      → cond (t || ltb 4096 len) (Some (BadLength len))
      (cond ((eqb k 0) || ltb 4 k) (Some (BadType k)) (cond (has_room k len) None (Some (BadLength len)))) ≡ None
      → 19 ≤ len
  by_test true f e = absurd cc
  by_test false f e = ltb-false _ _ f

-- a sound header has a length of 19 or more
pub long_enough : (bytes : List ℕ) → header_fault bytes ≡ None → 19 ≤ len_in bytes
unfolding header_fault
long_enough bytes e = by_test (list_all (λ b. eqb b 255) (take 16 bytes)) e where
  by_test : (t : Bool) → cond t (fault_of_kind (get_or bytes 18 0) (len_in bytes)) (Some NotSynchronized) ≡ None → 19 ≤ len_in bytes
  by_test true e = kind_long (get_or bytes 18 0) (len_in bytes) e
  by_test false e = absurd cc

pub len_same : (bytes more : List ℕ) → 19 ≤ length bytes → len_in (bytes ++ more) ≡ len_in bytes
len_same bytes more le =
    let l : 2 ≤ length (drop 16 bytes) = rw (length-drop 16 bytes) (omega arith) in
    ap (λ (y : List ℕ). from_be_bytes w16 y) (ap (take 2) (drop-append-le 16 bytes more (omega arith)) ∙ take-append-le 2 (drop 16 bytes) more l)

pub header_same : (bytes more : List ℕ) → 19 ≤ length bytes → header_fault (bytes ++ more) ≡ header_fault bytes
unfolding header_fault
header_same bytes more le =
    let f : Bool → ℕ → ℕ → Option HeaderFault = λ t k len. cond t (fault_of_kind k len) (Some NotSynchronized) in
    ap (λ (y : List ℕ). f (list_all (λ b. eqb b 255) y) (get_or (bytes ++ more) 18 0) (len_in (bytes ++ more))) (take-append-le 16 bytes more (omega arith))
    ∙ (ap (λ (k : ℕ). f (list_all (λ b. eqb b 255) (take 16 bytes)) k (len_in (bytes ++ more))) (get_or_append_left bytes more 0 18 (omega arith))
    ∙ ap (λ (len : ℕ). f (list_all (λ b. eqb b 255) (take 16 bytes)) (get_or bytes 18 0) len) (len_same bytes more le))

-- bytes that are a frame, whatever follows
abbrev pub IsFrame : List ℕ → Type 0
IsFrame frame = (rest : List ℕ) → frame_at (frame ++ rest) ≡ Some (frame, rest)

pub frame_of : (frame : List ℕ) → 19 ≤ length frame → header_fault frame ≡ None → len_in frame ≡ length frame → IsFrame frame
unfolding frame_at
frame_of frame le sound len rest =
    let short : ltb (length (frame ++ rest)) 19 ≡ false = le-ltb _ _ (omega (arith, length-append frame rest)) in
    let long : ltb (length (frame ++ rest)) (length frame) ≡ false = le-ltb _ _ (omega (arith, length-append frame rest)) in
    rw (
      short,
      header_same frame rest le,
      sound,
      len_same frame rest le,
      len,
      long,
      take_at frame rest (length frame) refl,
      drop_at frame rest (length frame) refl,
    ) refl

-- the frame at the front
pub front_frame : (bytes : List ℕ) (x : List ℕ × List ℕ) → frame_at bytes ≡ Some x → (bytes ≡ x.0 ++ x.1) × IsFrame x.0
front_frame bytes x e =
    let h = frame_is bytes x e in
    let n : ℕ = len_in bytes in
    let le : 19 ≤ n = long_enough bytes h.1 in
    let size : length (take n bytes) ≡ n = length-take-le n bytes h.2 in
    let parts : bytes ≡ take n bytes ++ drop n bytes = sym (take-append-drop n bytes) in
    let le2 : 19 ≤ length (take n bytes) = rw size le in
    let sound : header_fault (take n bytes) ≡ None = sym (header_same (take n bytes) (drop n bytes) le2) ∙ (ap header_fault (sym parts) ∙ h.1) in
    let len : len_in (take n bytes) ≡ length (take n bytes) =
    sym (len_same (take n bytes) (drop n bytes) le2) ∙ (ap (λ (y : List ℕ). len_in y) (sym parts) ∙ sym size) in
    let frame = frame_of (take n bytes) le2 sound len in
    (subst (λ (y : List ℕ × List ℕ). bytes ≡ y.0 ++ y.1) h.3 parts, subst (λ (y : List ℕ × List ℕ). IsFrame y.0) h.3 frame)

pub frame_shortens : Shortens frame_at
frame_shortens = record {
  shorter = λ bytes x e.
      let h = frame_is bytes x e in
      let le = long_enough bytes h.1 in
      let d : length x.1 ≡ length bytes - len_in bytes = rw (ap (λ (y : List ℕ × List ℕ). y.1) (sym h.3), length-drop (len_in bytes) bytes) refl in
      let room = h.0 in
      omega arith;
}

pub frame_reads : Reads frame_at (λ frame. frame) IsFrame
frame_reads = record { shortens = frame_shortens; again = λ frame rest f. f rest }
