-- What a session got at once, by its header.
use Rattle.std.proofs.Common.{◌≡◌, ℕ, ◌≤◌, List, [], length, Bool, true, false, Option, Some, None, Result, Ok, Err, sym, ap, ◌∙◌, inl, inr, arith}
use Rattle.std.specs.Prelude.{is_some}
use Rattle.std.proofs.lemmas.Bool.Decides.{nat_tests}
use Rattle.bgp_types.specs.declared.fault.Expected.{Expected}
use Rattle.bgp_types.specs.declared.fault.HeaderFault.{HeaderFault}
use Rattle.bgp_types.specs.declared.message.Message.{Message}
use Rattle.bgp_types.specs.declared.message.Notice.{Notice}
use Rattle.bgp_types.specs.Faults.{fault_in}
use Rattle.bgp_types.specs.FirstFault.{with_header, message_of}
use Rattle.bgp_types.specs.Header.{header_fault, header_notice, frame_at}
use Rattle.bgp_story.specs.Legal.{IsGot}
use Rattle.bgp_story.proofs.HeaderKinds.{got_long}
use Rattle.message_words.specs.Messages.{faulty_words, answer_words, read_words}

-- it has at least a header
pub got_header : (bytes : List ℕ) → IsGot bytes → 19 ≤ length bytes
got_header bytes got = let long = got_long bytes got in grind (arith, nat_tests)

-- where that has no fault, it is a whole message
pub got_frame : (bytes : List ℕ) → IsGot bytes → header_fault bytes ≡ None → frame_at bytes ≡ Some (bytes, [])
got_frame bytes (inl whole) none = whole
got_frame bytes (inr faulty) none = let e : false ≡ true = ap is_some (sym none) ∙ faulty.1 in absurd cc

-- where it has one, it is read as that
pub fault_read : (expected : Expected) (bytes : List ℕ) (fault : HeaderFault) → header_fault bytes ≡ Some fault
    → message_of expected bytes ≡ Err (header_notice fault)
unfolding message_of
fault_read expected bytes fault is = ap (λ (o : Option HeaderFault). with_header o expected bytes) is

fault_is : (r : Result Message Notice) (n : Notice) → fault_in r ≡ Some n → r ≡ Err n
fault_is (Ok message) n is = absurd cc
fault_is (Err other) n is = let same : other ≡ n = cc in ap Err same

-- octets in which a session finds a fault
pub faulty_read : (full : Bool) (expected : Expected) (bytes : List ℕ) (n : Notice) → fault_in (message_of expected bytes) ≡ Some n
    → faulty_words full bytes n ≡ read_words full expected bytes
faulty_read full expected bytes n is = sym (ap (answer_words full bytes) (fault_is (message_of expected bytes) n is))
