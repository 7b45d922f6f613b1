-- What octets are read as in an established session, and the UPDATEs that they spell.
use Rattle.std.proofs.Common.{◌≡◌, ◌≢◌, ℕ, ◌-◌, ◌^◌, ◌≤◌, Bool, List, [], length, min, Option, Some, None, Ok, refl, sym, ap, ◌∙◌, subst, arith}
use Rattle.std.specs.Prelude.{IfNone, IfSome}
use Rattle.bgp_types.specs.declared.fault.Expected.{Expected}
use Rattle.bgp_types.specs.declared.message.Message.{Message}
use Rattle.bgp_types.specs.declared.message.Message.TheVariants.{OpenMsg, UpdateMsg, NoticeMsg, KeepaliveMsg}
use Rattle.bgp_types.specs.declared.message.SessionState.TheVariants.{Established}
use Rattle.bgp_types.specs.declared.message.Update.{Update}
use Rattle.bgp_types.specs.Expect.{IsExpected}
use Rattle.bgp_types.specs.FirstFault.{message_of}
use Rattle.bgp_types.specs.Header.{frame_at}
use Rattle.bgp_types.specs.OctetLists.{AreOctets}
use Rattle.bgp_types.specs.Reads.{Reads}
use Rattle.bgp_types.specs.Spelling.{spell}
use Rattle.bgp_types.specs.Writable.{IsWritable}
use Rattle.bgp_types.proofs.MessageLaws.{message_are, whole_frame}
use Rattle.bgp_types.proofs.WrittenLaws.{written_reads}
use Rattle.bgp_story.specs.Readings.{update_in}
use Rattle.bgp_wire.proofs.ReadWritable.{answered}

abbrev pub expected_in : (remote_as : ℕ) → (offered wide : Bool) → Expected
expected_in remote_as offered wide = record { state = Established; remote_as = remote_as; offered = offered; wide = wide }

abbrev SpellsIfSome : Bool → Option Update → Type 0
SpellsIfSome wide answer = IfSome answer (λ update. IsWritable (UpdateMsg update) wide)

-- an UPDATE that is read can be written if its octets are few
pub short_writable : (octets : List ℕ) (expected : Expected) (m : Message) (wide : Bool) (size : ℕ) → AreOctets octets
    → frame_at octets ≡ Some (octets, []) → message_of expected octets ≡ Ok m → size ≡ min (length (spell m wide)) (2 ^ 64 - 1) → size ≤ 4096
    → (answer : Option Update) → answer ≡ update_in (Ok m) → SpellsIfSome wide answer
short_writable octets expected m wide size are whole read is short answer says = subst (SpellsIfSome wide) (sym says) (by_message m read is) where
  by_message : (m : Message) → message_of expected octets ≡ Ok m → size ≡ min (length (spell m wide)) (2 ^ 64 - 1) → SpellsIfSome wide (update_in (Ok m))
  by_message (OpenMsg _) read is = tt
  by_message (UpdateMsg u) read is =
      (answered octets expected (UpdateMsg u) wide are whole read).1
      (let few : length (spell (UpdateMsg u) wide) ≤ 4096 = omega (arith, is, short) in few)
  by_message (NoticeMsg _) read is = tt
  by_message KeepaliveMsg read is = tt

pub some_read : (octets : List ℕ) (expected : Expected) (answer : Option Message) (m : Message) → answer ≡ Some m
    → IfSome answer (λ x. message_of expected octets ≡ Ok x) → message_of expected octets ≡ Ok m
some_read octets expected answer m is some = subst (λ (o : Option Message). IfSome o (λ x. message_of expected octets ≡ Ok x)) is some

-- the UPDATE that octets spell is what they are read as
module _ (octets : List ℕ) (remote_as : ℕ) (offered wide : Bool) (update : Update)
    (writable : IsWritable (UpdateMsg update) wide) (are : octets ≡ spell (UpdateMsg update) wide) where
  reads : Reads octets (UpdateMsg update) wide
  reads = subst (λ (xs : List ℕ). Reads xs (UpdateMsg update) wide) (sym are) (written_reads (UpdateMsg update) wide writable)

  is_expected : IsExpected (expected_in remote_as offered wide) (UpdateMsg update)
  is_expected = record { state = refl; from = refl }

  pub written_whole : frame_at octets ≡ Some (octets, [])
  written_whole = whole_frame (expected_in remote_as offered wide) octets (UpdateMsg update) reads is_expected

  pub written_read : message_of (expected_in remote_as offered wide) octets ≡ Ok (UpdateMsg update)
  written_read = message_are (expected_in remote_as offered wide) octets (UpdateMsg update) reads is_expected

  pub some_is_read : (answer : Option Message) → answer ≡ None
      → IfNone answer ((m : Message) → message_of (expected_in remote_as offered wide) octets ≢ Ok m) → ⊥
  some_is_read answer is none =
      subst (λ (o : Option Message). IfNone o ((m : Message) → message_of (expected_in remote_as offered wide) octets ≢ Ok m)) is none
      (UpdateMsg update) written_read

  module _ (m : Message) (read : message_of (expected_in remote_as offered wide) octets ≡ Ok m) where
    pub read_is : m ≡ UpdateMsg update
    read_is = let said : Ok m ≡ Ok (UpdateMsg update) = sym read ∙ written_read in cc

    pub read_short : (size : ℕ) → size ≡ min (length (spell m wide)) (2 ^ 64 - 1) → size ≤ 4096
    read_short size is =
        let n = ap (λ (x : Message). length (spell x wide)) read_is in
        let few = writable.size in
        omega (arith, is, n, few)

    pub read_update : update_in (Ok m) ≡ Some update
    read_update = ap (λ (x : Message). update_in (Ok x)) read_is
