-- The parts of a file that is written.
use Rattle.std.proofs.Common.{◌≡◌, ℕ, zero, suc, ◌+◌, ◌≤◌, ◌<◌, get_or, List, [], ◌∷◌, ◌++◌, length, map, refl, sym, ap, ◌∙◌, subst, arith}
use Rattle.std.specs.List.{flat_map}
use Rattle.std.proofs.lemmas.Bool.{le-leb}
use Rattle.std.proofs.lemmas.Nat.{from_le_bytes-to_le_bytes_4}
use Rattle.pcap_form.specs.declared.order.ByteOrder.TheVariants.{Little}
use Rattle.pcap_form.specs.declared.link.LinkType.TheVariants.{Ipv4}
use Rattle.pcap_form.specs.declared.packet.CapturedPacket.{CapturedPacket}
use Rattle.pcap_form.specs.Numbers.{word_at, half_at, link_type}
use Rattle.pcap_form.specs.Pcap.{record_size, record_fields}
use Rattle.pcap_form.specs.Captures.{Before, Start, BehindHeader, IsPart, behind, AreParts, packets_in, joined, IsCapture}
use Rattle.pcap_form.specs.Written.{written_header, written_record, written, AreShort, read_back}
use Rattle.pcap_form.proofs.Rows.{none_wrong}

behind_header : behind Start written_header ≡ BehindHeader Little Ipv4
unfolding word_at link_type
behind_header = refl

IsPart-header : IsPart Start written_header
unfolding word_at half_at
IsPart-header = record { right = refl; whole = refl }

written_length : (p : CapturedPacket) → length p.octets ≤ 65535 → word_at Little (written_record p) 8 ≡ length p.octets
unfolding word_at
written_length p short = from_le_bytes-to_le_bytes_4 (length p.octets) (omega (arith, short))

IsPart-record : (p : CapturedPacket) → length p.octets ≤ 65535 → IsPart (BehindHeader Little Ipv4) (written_record p)
IsPart-record p short =
    let size : record_size Little (written_record p) ≡ 16 + length p.octets = ap (λ (n : ℕ). 16 + n) (written_length p short) in
    let long : length (written_record p) ≡ 16 + length p.octets = omega arith in
    record {
      right = none_wrong (record_fields Little (written_record p)) (
        le-leb 16 (length (written_record p)) (omega (arith, long)),
        (le-leb (record_size Little (written_record p)) (length (written_record p)) (omega (arith, long, size)), tt),
      );
      whole = long ∙ sym size;
    }

AreParts-records : (ps : List CapturedPacket) → AreShort ps → AreParts (BehindHeader Little Ipv4) (map written_record ps)
AreParts-records [] short = tt
AreParts-records (p ∷ ps) short = (IsPart-record p short.0, AreParts-records ps short.1)

joined_records : (ps : List CapturedPacket) → flat_map written_record ps ≡ joined (map written_record ps)
joined_records [] = refl
joined_records (p ∷ ps) = ap (λ (xs : List ℕ). written_record p ++ xs) (joined_records ps)

packets_back : (ps : List CapturedPacket) → read_back ps ≡ packets_in (BehindHeader Little Ipv4) (map written_record ps)
packets_back [] = refl
packets_back (p ∷ ps) = ap (λ xs. record { link = Ipv4; octets = p.octets } ∷ xs) (packets_back ps)

-- a packet of the list is short
pub short_at : (ps : List CapturedPacket) (i : ℕ) (p : CapturedPacket) → i < length ps → p ≡ get_or ps i p → AreShort ps → length p.octets ≤ 65535
short_at [] i p less is short = absurd (omega (arith, less))
short_at (q ∷ ps) zero p less is short = subst (λ (r : CapturedPacket). length r.octets ≤ 65535) (sym is) short.0
short_at (q ∷ ps) (suc i) p less is short = short_at ps i p (omega (arith, less)) is short.1

pub reads_back : (ps : List CapturedPacket) → AreShort ps → IsCapture (written ps) (read_back ps)
reads_back ps short = record {
  parts = written_header ∷ map written_record ps;
  some = λ e. absurd cc;
  are_parts = (IsPart-header, subst (λ (b : Before). AreParts b (map written_record ps)) (sym behind_header) (AreParts-records ps short));
  file_is = ap (λ (xs : List ℕ). written_header ++ xs) (joined_records ps);
  packets_are = packets_back ps ∙ ap (λ (b : Before). packets_in b (map written_record ps)) (sym behind_header);
}
