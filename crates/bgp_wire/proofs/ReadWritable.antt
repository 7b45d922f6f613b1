-- What a frame reads as can be written where its written form fits.
use Rattle.std.proofs.Common.{◌≡◌, ℕ, ◌+◌, ◌≤◌, ◌<◌, List, [], ◌++◌, length, Bool, Some, Ok, sym, subst, arith}
use Rattle.std.specs.Prelude.{◌↔◌}
use Rattle.std.specs.List.{flat_map}
use Rattle.std.specs.Int.{w16, to_be_bytes}
use Rattle.bgp_types.specs.declared.fault.Expected.{Expected}
use Rattle.bgp_types.specs.declared.message.Message.{Message}
use Rattle.bgp_types.specs.declared.message.Message.TheVariants as messages
use Rattle.bgp_types.specs.declared.message.OpenMsg.{OpenMsg}
use Rattle.bgp_types.specs.declared.message.Update.{Update}
use Rattle.bgp_types.specs.FirstFault.{message_of}
use Rattle.bgp_types.specs.Header.{frame_at}
use Rattle.bgp_types.specs.OctetLists.{AreOctets}
use Rattle.bgp_types.specs.Prefixes.{PrefixValue}
use Rattle.bgp_types.specs.Reads.{Reads, ReadsBody, ReadsUpdate, ReadsOpen}
use Rattle.bgp_types.specs.Spelling.{length_prefixed, cap_octets, param_octets, framed, kind_of, spell_open, spell}
use Rattle.bgp_types.specs.Writable.{IsWritable, IsWritableBody, IsWritableOpen, IsWritableUpdate}
use Rattle.bgp_types.proofs.AttrLaws.{AreOctets-drop}
use Rattle.bgp_types.proofs.MessageLaws.{message_read}
use Rattle.bgp_wire.specs.Written.{written_limit}
use Rattle.bgp_wire.proofs.FrameLaws.{spelled_size}
use Rattle.bgp_wire.proofs.OctetLaws.{AreOctets-front, AreOctets-back}
use Rattle.bgp_wire.proofs.OnceLaws.{AreApart, read_is, apart_is}
use Rattle.bgp_wire.proofs.ReadAttrs.{read_good, attrs_for}

update_is : (wide : Bool) (body : List ℕ) (u : Update) → AreOctets body → ReadsUpdate wide body u → IsWritableUpdate u
update_is wide body u octets r =
    let all : AreOctets (length_prefixed r.withdrawn ++ (length_prefixed r.attrs ++ r.nlri)) = subst AreOctets r.fields octets in
    let rest : AreOctets (length_prefixed r.attrs ++ r.nlri) = AreOctets-back (length_prefixed r.withdrawn) (length_prefixed r.attrs ++ r.nlri) all in
    let withdrawn : AreOctets r.withdrawn = AreOctets-back (to_be_bytes w16 (length r.withdrawn)) r.withdrawn
    (AreOctets-front (length_prefixed r.withdrawn) (length_prefixed r.attrs ++ r.nlri) all) in
    let attrs : AreOctets r.attrs = AreOctets-back (to_be_bytes w16 (length r.attrs)) r.attrs (AreOctets-front (length_prefixed r.attrs) r.nlri rest) in
    let nlri : AreOctets r.nlri = AreOctets-back (length_prefixed r.attrs) r.nlri rest in
    let prefixes = apart_is r.prefixes u.nlri (read_is r.withdrawn r.prefixes withdrawn r.reads_withdrawn) (read_is r.nlri u.nlri nlri r.reads_nlri) in
    let apart = subst (λ (ps : List PrefixValue). AreApart ps u.nlri) (sym r.others) prefixes in
    record {
      withdrawn = apart.withdrawn;
      nlri = apart.nlri;
      once = apart.once;
      attrs = attrs_for r.found u.attrs u.nlri (read_good wide r.attrs r.found attrs r.reads_attrs) r.announced;
    }

open_is : (body : List ℕ) (o : OpenMsg) → ReadsOpen body o → length (flat_map (λ cap. param_octets (cap_octets cap)) o.caps) < 256 → IsWritableOpen o
open_is body o r lt = record { as_number = r.as_number; hold = r.hold; hold_time = r.hold_time; identifier = r.host; params = lt }

-- how long an OPEN is
open_size : (o : OpenMsg) → length (spell_open o) ≡ 10 + length (flat_map (λ cap. param_octets (cap_octets cap)) o.caps)
open_size o = omega arith

body_is : (m : Message) (body : List ℕ) (wide other : Bool) → AreOctets body → ReadsBody body m wide → length (spell m other) ≤ written_limit m
    → IsWritableBody m
body_is (messages.OpenMsg o) body wide other octets r le =
    let total = spelled_size (messages.OpenMsg o) other in let size = open_size o in open_is body o r (omega arith)
body_is (messages.UpdateMsg u) body wide other octets r le = update_is wide body u octets r
body_is (messages.NoticeMsg n) body wide other octets r le = tt
body_is messages.KeepaliveMsg body wide other octets r le = tt

within_all : (m : Message) (n : ℕ) → n ≤ written_limit m → n ≤ 4096
within_all (messages.OpenMsg o) n le = omega arith
within_all (messages.UpdateMsg u) n le = le
within_all (messages.NoticeMsg n) k le = le
within_all messages.KeepaliveMsg n le = le

-- a message that is writable keeps within its limit
limit_kept : (m : Message) (wide : Bool) → IsWritable m wide → length (spell m wide) ≤ written_limit m
limit_kept (messages.OpenMsg o) wide w =
    let params = w.body.params in let total = spelled_size (messages.OpenMsg o) wide in let size = open_size o in omega arith
limit_kept (messages.UpdateMsg u) wide w = w.size
limit_kept (messages.NoticeMsg n) wide w = w.size
limit_kept messages.KeepaliveMsg wide w = w.size

pub any_spelling : (frame : List ℕ) (m : Message) (wide other : Bool) → AreOctets frame → Reads frame m wide
    → IsWritable m other ↔ (length (spell m other) ≤ written_limit m)
any_spelling frame m wide other octets r =
    let body : AreOctets r.body = AreOctets-drop 19 (framed (kind_of m) r.body) (subst AreOctets r.octets octets) in (
      limit_kept m other,
      λ le. record { body = body_is m r.body wide other body r.says le; size = within_all m (length (spell m other)) le },
    )

pub answered : (frame : List ℕ) (expected : Expected) (m : Message) (other : Bool) → AreOctets frame → frame_at frame ≡ Some (frame, [])
    → message_of expected frame ≡ Ok m → IsWritable m other ↔ (length (spell m other) ≤ written_limit m)
answered frame expected m other octets whole e = any_spelling frame m expected.wide other octets (message_read expected frame m octets whole e).0
