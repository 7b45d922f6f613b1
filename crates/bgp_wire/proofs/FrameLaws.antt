-- How long a frame of a type is, and how long the fields of a message are.
use Rattle.std.proofs.Common.{◌≡◌, ℕ, ◌+◌, ◌<◌, ◌≤◌, List, [], ◌∷◌, ◌++◌, length, take, drop, Bool, true, false, cond}
use Rattle.std.proofs.Common.{eqb, Option, Some, None, ap, arith, subst, length-append, length-drop}
use Rattle.std.specs.Prelude.{All}
use Rattle.std.specs.List.{list_all, flat_map, AllByRecursion}
use Rattle.std.proofs.lemmas.Bool.Decides.{nat_tests}
use Rattle.std.proofs.lemmas.List.Elements.{All-from_recursion}
use Rattle.bgp_types.specs.declared.attrs.Attrs.{Attrs}
use Rattle.bgp_types.specs.declared.fault.HeaderFault.TheVariants.{NotSynchronized}
use Rattle.bgp_types.specs.declared.message.Cap.{Cap}
use Rattle.bgp_types.specs.declared.message.Message.{Message}
use Rattle.bgp_types.specs.declared.message.Message.TheVariants as messages
use Rattle.bgp_types.specs.declared.message.Update.{Update}
use Rattle.bgp_types.specs.Header.{frame_at, header_fault, len_in, kind_in, has_room, fault_of_kind}
use Rattle.bgp_types.specs.Prefixes.{PrefixValue}
use Rattle.bgp_types.specs.Spelling.{cap_octets, param_octets, spell_some_attrs, spell_update, spell_body, kind_of, spell}
use Rattle.bgp_types.specs.Writable.{HasAttrsFor, IsWritableBody}
use Rattle.bgp_types.proofs.FrameLaws.{frame_is}
use Rattle.bgp_types.proofs.Lengths.{framed_size, update_fields_size}
use Rattle.bgp_types.proofs.MessageLaws.{room_is}
use Rattle.bgp_wire.specs.Written.{FitsSome, FitsUpdate, FitsBody}

-- what a whole frame has
pub record IsSound (frame : List ℕ) : Type 0 where
  pub long : 19 ≤ length frame
  pub header : header_fault frame ≡ None
  pub open_long : kind_in frame ≡ 1 → 29 ≤ length frame
  pub notice_long : kind_in frame ≡ 3 → 21 ≤ length frame

sound_room : (bytes : List ℕ) → header_fault bytes ≡ None → has_room (kind_in bytes) (len_in bytes) ≡ true
unfolding header_fault
sound_room bytes e = by_test (list_all (λ b. eqb b 255) (take 16 bytes)) e where
  by_test : (t : Bool) → cond t (fault_of_kind (kind_in bytes) (len_in bytes)) (Some NotSynchronized) ≡ None → has_room (kind_in bytes) (len_in bytes) ≡ true
  by_test true e = (room_is (kind_in bytes) (len_in bytes) e).room
  by_test false e = absurd cc

open_room : (kind len : ℕ) → has_room kind len ≡ true → kind ≡ 1 → 29 ≤ len
open_room kind len r k = grind (arith, nat_tests)

notice_room : (kind len : ℕ) → has_room kind len ≡ true → kind ≡ 3 → 21 ≤ len
notice_room kind len r k = grind (arith, nat_tests)

pub sound_is : (frame : List ℕ) → frame_at frame ≡ Some (frame, []) → IsSound frame
sound_is frame e =
    let f = frame_is frame (frame, []) e in
    let whole : length (drop (len_in frame) frame) ≡ 0 = ap (λ (x : List ℕ × List ℕ). length x.1) f.3 in
    let le : length frame ≤ len_in frame = let d = length-drop (len_in frame) frame in omega arith in
    let back = f.2 in
    let same : len_in frame ≡ length frame = omega arith in
    let room : has_room (kind_in frame) (length frame) ≡ true = subst (λ (n : ℕ). has_room (kind_in frame) n ≡ true) same (sound_room frame f.1) in
    record {
      long = f.0;
      header = f.1;
      open_long = open_room (kind_in frame) (length frame) room;
      notice_long = notice_room (kind_in frame) (length frame) room;
    }

-- ---- fields of a message that is written

fits_some : (wide : Bool) (a : Option Attrs) (nlri : List PrefixValue) → HasAttrsFor a nlri → length (spell_some_attrs wide a) < 65536 → FitsSome a wide
fits_some wide None nlri h lt = tt
fits_some wide (Some a) nlri h lt = record { writable = h.1; size = lt }

fits_update : (wide : Bool) (u : Update) → HasAttrsFor u.attrs u.nlri → length (spell_update wide u) < 65536 → FitsUpdate u wide
fits_update wide u h lt =
    let size = update_fields_size wide u in
    record { withdrawn = omega arith; attrs = omega arith; each = fits_some wide u.attrs u.nlri h (omega arith) }

pub spelled_size : (m : Message) (wide : Bool) → length (spell m wide) ≡ 19 + length (spell_body m wide)
unfolding spell
spelled_size m wide = framed_size (kind_of m) (spell_body m wide)

fits : (m : Message) (wide : Bool) → IsWritableBody m → length (spell_body m wide) < 65536 → FitsBody m wide
fits (messages.OpenMsg o) wide w lt = w
fits (messages.UpdateMsg u) wide w lt = fits_update wide u w.attrs lt
fits (messages.NoticeMsg n) wide w lt = tt
fits messages.KeepaliveMsg wide w lt = tt

-- ---- parameters of an OPEN that is written

caps_below : (caps : List Cap) → length (flat_map (λ cap. param_octets (cap_octets cap)) caps) < 256
    → AllByRecursion (λ (cap : Cap). length cap.bytes + 2 < 256) caps
caps_below [] lt = tt
caps_below (cap ∷ caps) lt =
    let rest : List ℕ = flat_map (λ (c : Cap). param_octets (cap_octets c)) caps in
    let all : length (param_octets (cap_octets cap) ++ rest) ≡ length (param_octets (cap_octets cap)) + length rest =
    length-append (param_octets (cap_octets cap)) rest in
    (omega arith, caps_below caps (omega arith))

pub each_below : (caps : List Cap) → length (flat_map (λ cap. param_octets (cap_octets cap)) caps) < 256 → All (λ (cap : Cap). length cap.bytes + 2 < 256) caps
each_below caps lt = All-from_recursion (λ (cap : Cap). length cap.bytes + 2 < 256) caps (caps_below caps lt)
