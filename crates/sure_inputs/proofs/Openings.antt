-- The default opening of a remote is read without fault: its OPEN says the AS of the remote, whichever side offers AS numbers of four octets.
use Rattle.std.proofs.Common.{◌≡◌, ℕ, ◌^◌, ◌<◌, ◌≤◌, Bool, true, false, cond, eqb, ltb, List, [], length, Ok, refl, ap, ◌∙◌, subst, arith}
use Rattle.std.proofs.lemmas.Bool.Decides.{nat_tests}
use Rattle.std.proofs.lemmas.Nat.{from_be_bytes-to_be_bytes_4}
use Rattle.bgp_types.specs.declared.fault.Expected.{Expected}
use Rattle.bgp_types.specs.declared.message.Message.{Message}
use Rattle.bgp_types.specs.declared.message.Message.TheVariants.{OpenMsg, KeepaliveMsg}
use Rattle.bgp_types.specs.declared.message.OpenMsg as open_type
use Rattle.bgp_types.specs.declared.message.SessionState.TheVariants.{OpenSent, OpenConfirm}
use Rattle.bgp_types.specs.Expect.{IsExpected}
use Rattle.bgp_types.specs.FirstFault.{is_in_state, message_of}
use Rattle.bgp_types.specs.OpenBody.{as_said, is_said, is_field}
use Rattle.bgp_types.specs.PathOctets.{narrow_as}
use Rattle.bgp_types.specs.Spelling.{spell}
use Rattle.bgp_types.specs.Values.{is_no_host, is_short_hold}
use Rattle.bgp_types.specs.Writable.{IsWritable}
use Rattle.bgp_types.specs.Reads.{Reads}
use Rattle.bgp_types.proofs.FrameLaws.{IsFrame, front_frame}
use Rattle.bgp_types.proofs.MessageLaws.{message_are, whole_frame}
use Rattle.bgp_types.proofs.WrittenLaws.{written_reads}
use Rattle.bgp_story.specs.Opens.{offers}
use Rattle.lab_tables.specs.Peerings.{offered_caps}

same : (n : ℕ) → eqb n n ≡ true
same n = grind (arith, nat_tests)

narrow_fits : (n : ℕ) → narrow_as n < 2 ^ 16
narrow_fits n = by_test (ltb 65535 n) refl where
  by_test : (long : Bool) → ltb 65535 n ≡ long → cond long 23456 n < 2 ^ 16
  by_test true e = omega arith
  by_test false e = grind (arith, nat_tests)

-- the AS that the OPEN says, by each side's offer
said_so : (offered as4 : Bool) (n : ℕ) → n < 2 ^ 32
    → cond offered (is_said n (narrow_as n) (as_said (offered_caps as4 n))) (is_field n (narrow_as n)) ≡ true
said_so false as4 n fits = same (narrow_as n)
said_so true false n fits = same (narrow_as n)
said_so true true n fits = ap (λ k. eqb k n) (from_be_bytes-to_be_bytes_4 n fits) ∙ same n

-- a written message that is expected
pub written_frame : (expected : Expected) (m : Message) (bytes : List ℕ) → Reads bytes m expected.wide → IsExpected expected m → IsFrame bytes
written_frame expected m bytes reads is = (front_frame bytes (bytes, []) (whole_frame expected bytes m reads is)).1

module _ (remote_as hold identifier : ℕ) (as4 : Bool) where
  abbrev pub opened : open_type.OpenMsg
  opened = record { as_number = narrow_as remote_as; hold = hold; identifier = identifier; caps = offered_caps as4 remote_as }

  abbrev pub open_bytes : List ℕ
  open_bytes = spell (OpenMsg opened) false

-- it offers AS numbers of four octets where the remote does
pub offers_so : (remote_as hold identifier : ℕ) (as4 : Bool) → offers (opened remote_as hold identifier as4) ≡ as4
offers_so remote_as hold identifier true = refl
offers_so remote_as hold identifier false = refl

open_few : (remote_as hold identifier : ℕ) (as4 : Bool) → length (open_bytes remote_as hold identifier as4) ≤ 4096
unfolding spell
open_few remote_as hold identifier true = omega arith
open_few remote_as hold identifier false = omega arith

params_few : (remote_as hold identifier : ℕ) (as4 : Bool) → is_short_hold hold ≡ false → is_no_host identifier ≡ false → hold < 2 ^ 16
    → IsWritable (OpenMsg (opened remote_as hold identifier as4)) false
params_few remote_as hold identifier true long host fits = record {
  body = record { as_number = narrow_fits remote_as; hold = fits; hold_time = long; identifier = host; params = omega arith };
  size = open_few remote_as hold identifier true;
}
params_few remote_as hold identifier false long host fits = record {
  body = record { as_number = narrow_fits remote_as; hold = fits; hold_time = long; identifier = host; params = omega arith };
  size = open_few remote_as hold identifier false;
}

module _ (remote_as hold identifier : ℕ) (as4 offered : Bool) (fits : remote_as < 2 ^ 32) (hold_fits : hold < 2 ^ 16) (long : is_short_hold hold ≡ false)
    (host : is_no_host identifier ≡ false) where
  abbrev at_first : Expected
  at_first = record { state = OpenSent; remote_as = remote_as; offered = offered; wide = false }

  open_reads : Reads (open_bytes remote_as hold identifier as4) (OpenMsg (opened remote_as hold identifier as4)) false
  open_reads = written_reads (OpenMsg (opened remote_as hold identifier as4)) false (params_few remote_as hold identifier as4 long host hold_fits)

  open_expected : IsExpected at_first (OpenMsg (opened remote_as hold identifier as4))
  open_expected = record { state = refl; from = said_so offered as4 remote_as fits }

  pub open_got : message_of at_first (open_bytes remote_as hold identifier as4) ≡ Ok (OpenMsg (opened remote_as hold identifier as4))
  open_got = message_are at_first (open_bytes remote_as hold identifier as4) (OpenMsg (opened remote_as hold identifier as4)) open_reads open_expected

  pub open_frame : IsFrame (open_bytes remote_as hold identifier as4)
  open_frame = written_frame at_first (OpenMsg (opened remote_as hold identifier as4)) (open_bytes remote_as hold identifier as4) open_reads open_expected

-- ---- the KEEPALIVE behind it

abbrev pub keepalive_bytes : List ℕ
keepalive_bytes = spell KeepaliveMsg false

one_keepalive : (wide : Bool) → spell KeepaliveMsg wide ≡ keepalive_bytes
unfolding spell
one_keepalive wide = refl

keepalive_few : (wide : Bool) → length (spell KeepaliveMsg wide) ≤ 4096
unfolding spell
keepalive_few wide = omega arith

module _ (expected : Expected) (state : expected.state ≡ OpenConfirm) where
  keepalive_reads : Reads keepalive_bytes KeepaliveMsg expected.wide
  keepalive_reads = subst (λ (bytes : List ℕ). Reads bytes KeepaliveMsg expected.wide) (one_keepalive expected.wide)
      (written_reads KeepaliveMsg expected.wide (record { body = tt; size = keepalive_few expected.wide }))

  keepalive_expected : IsExpected expected KeepaliveMsg
  keepalive_expected = record { state = ap (λ s. is_in_state s 4) state; from = refl }

  pub keepalive_got : message_of expected keepalive_bytes ≡ Ok KeepaliveMsg
  keepalive_got = message_are expected keepalive_bytes KeepaliveMsg keepalive_reads keepalive_expected

  pub keepalive_frame : IsFrame keepalive_bytes
  keepalive_frame = written_frame expected KeepaliveMsg keepalive_bytes keepalive_reads keepalive_expected
