-- A frame reads as one message.
use Rattle.std.proofs.Common.{◌≡◌, ℕ, ◌^◌, ◌<◌, List, [], drop, Bool, true, false, cond, eqb, ltb, Some, Result, Ok, refl, sym, ◌∙◌, arith, subst}
use Rattle.std.specs.Prelude.{◌↔◌}
use Rattle.std.proofs.lemmas.Bool.{le-ltb}
use Rattle.std.proofs.lemmas.Bool.Decides.{nat_tests}
use Rattle.bgp_types.specs.declared.fault.Expected.{Expected}
use Rattle.bgp_types.specs.declared.message.Message.{Message}
use Rattle.bgp_types.specs.declared.message.Message.TheVariants as messages
use Rattle.bgp_types.specs.declared.message.Notice.{Notice}
use Rattle.bgp_types.specs.declared.message.SessionState.TheVariants as states
use Rattle.bgp_types.specs.Expect.{is_from, IsExpected}
use Rattle.bgp_types.specs.FirstFault.{is_in_state, message_of}
use Rattle.bgp_types.specs.Header.{kind_in, frame_at}
use Rattle.bgp_types.specs.OctetLists.{AreOctets}
use Rattle.bgp_types.specs.OpenBody.{as_in, is_field}
use Rattle.bgp_types.specs.Reads.{Reads, ReadsBody}
use Rattle.bgp_types.specs.Spelling.{kind_of, framed}
use Rattle.bgp_types.proofs.MessageLaws.{message_read, message_are, whole_frame}
use Rattle.bgp_types.proofs.OpenLaws.{as_again}

-- a session that takes what the frame reads as
abbrev expecting : ℕ → ℕ → Bool → Expected
expecting kind as_number wide = record { state = cond (eqb kind 1) states.OpenSent states.Established; remote_as = as_number; offered = false; wide = wide }

abbrev expecting_in : List ℕ → Bool → Expected
expecting_in frame wide = expecting (kind_in frame) (as_in (drop 19 frame)) wide

state_takes : (m : Message) (as_number : ℕ) (wide : Bool) → is_in_state (expecting (kind_of m) as_number wide).state (kind_of m) ≡ true
state_takes (messages.OpenMsg o) as_number wide = refl
state_takes (messages.UpdateMsg u) as_number wide = refl
state_takes (messages.NoticeMsg n) as_number wide = refl
state_takes messages.KeepaliveMsg as_number wide = refl

same_field : (n : ℕ) → n < 2 ^ 16 → is_field n n ≡ true
same_field n lt =
    let short : ltb 65535 n ≡ false = le-ltb _ _ (omega arith) in
    rw short (let same : eqb n n ≡ true = grind (arith, nat_tests) in same)

from_field : (m : Message) (body : List ℕ) (wide : Bool) → ReadsBody body m wide → is_from (expecting (kind_of m) (as_in body) wide) m ≡ true
from_field (messages.OpenMsg o) body wide r =
    let n : ℕ = o.as_number in subst (λ (x : ℕ). is_field x n ≡ true) (sym (as_again body o r)) (same_field n r.as_number)
from_field (messages.UpdateMsg u) body wide r = refl
from_field (messages.NoticeMsg n) body wide r = refl
from_field messages.KeepaliveMsg body wide r = refl

takes : (frame : List ℕ) (m : Message) (wide : Bool) → Reads frame m wide → IsExpected (expecting_in frame wide) m
takes frame m wide r =
    let Q : List ℕ → Type 0 = λ y. IsExpected (expecting_in y wide) m in
    let here : Q (framed (kind_of m) r.body) = record { state = state_takes m (as_in r.body) wide; from = from_field m r.body wide r.says } in
    subst Q (sym r.octets) here

pub once : (frame : List ℕ) (one other : Message) (wide : Bool) → Reads frame one wide → Reads frame other wide → one ≡ other
once frame one other wide r s =
    let e = expecting_in frame wide in
    same one other (sym (message_are e frame one r (takes frame one wide r)) ∙ message_are e frame other s (takes frame other wide s))
  where
    same : (x y : Message) → (let r : Result Message Notice = Ok x in r) ≡ Ok y → x ≡ y
    same x y e = cc

pub reads_exactly : (frame : List ℕ) (expected : Expected) (m : Message) → AreOctets frame
    → ((frame_at frame ≡ Some (frame, [])) × (message_of expected frame ≡ Ok m)) ↔ (Reads frame m expected.wide × IsExpected expected m)
reads_exactly frame expected m octets =
    (λ e. message_read expected frame m octets e.0 e.1, λ r. (whole_frame expected frame m r.0 r.1, message_are expected frame m r.0 r.1))
