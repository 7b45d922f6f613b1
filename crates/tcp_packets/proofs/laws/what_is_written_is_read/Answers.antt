use Rattle.std.proofs.Common.{◌≡◌, ℕ, ◌+◌, ◌/◌, ◌%◌, Bool, true, false, List, length, take, drop, refl, ap, ◌∙◌, arith}
use Rattle.std.specs.Prelude.{◌==◌, nat_le, ◌&&◌, if◌then◌else◌, Ok, Err}
use Rattle.std.proofs.lemmas.Bool.{le-leb, cond-true}
use Rattle.std.proofs.lemmas.List.{take_all}
use Rattle.std.proofs.lemmas.Nat.{from_be_bytes-to_be_bytes_2, from_be_bytes-to_be_bytes_4}
use Rattle.pcap_form.specs.declared.order.ByteOrder.TheVariants.{Big}
use Rattle.pcap_form.specs.Numbers.{word_at, half_at}
use Rattle.tcp_seq.specs.Numbers.{plus}
use Rattle.tcp_packets.specs.declared.read.LeftOut.TheVariants.{Other}
use Rattle.tcp_packets.specs.Headers.{total_length, is_ipv4, is_tcp, carried, is_segment, is_syn}
use Rattle.tcp_packets.specs.Reading.{segment_of, tcp_in}
use Rattle.tcp_packets.specs.Writing.{tcp_check, tcp_segment, written_packet}
use Rattle.tcp_packets.proofs.laws.what_is_written_is_read.Goals as goal

-- neither of the flags that are written is that of a SYN
no_syn : (empty : Bool) → ((if empty then 0x10 else 0x18) / 2 % 2 == 1) ≡ false
no_syn true = refl
no_syn false = refl

pub returns : goal.returns
unfolding word_at half_at
returns c = λ source target s from to seq short.
    let packet = written_packet source target s in
    let segment = tcp_segment (tcp_check source target s) source target s in
    let size : length packet ≡ 40 + length s.bytes = omega arith in
    let total : total_length packet ≡ 40 + length s.bytes = from_be_bytes-to_be_bytes_2 (40 + length s.bytes) (omega (arith, short)) in
    let long : nat_le 20 (length packet) ≡ true = le-leb 20 (length packet) (omega (arith, size)) in
    let some : nat_le 20 (total_length packet) ≡ true = le-leb 20 (total_length packet) (omega (arith, total)) in
    let whole : nat_le (total_length packet) (length packet) ≡ true = le-leb (total_length packet) (length packet) (omega (arith, total, size)) in
    let ipv4 : is_ipv4 packet && is_tcp packet ≡ true = cc in
    let header : nat_le 20 (length segment) ≡ true = le-leb 20 (length segment) (omega arith) in
    let is : is_segment segment ≡ true = cc in
    let carries : carried packet ≡ segment =
    ap (λ (n : ℕ). drop 20 (take n packet)) total ∙ ap (drop 20) (take_all (40 + length s.bytes) packet (omega (arith, size))) in
    let in_packet : tcp_in packet ≡ Ok (segment_of packet segment) =
    ap (λ (xs : List ℕ). if is_segment xs then Ok (segment_of packet xs) else Err Other) carries
    ∙ cond-true (is_segment segment) (Ok (segment_of packet segment)) (Err Other) is in
    let opens : is_syn segment ≡ false = no_syn (length s.bytes == 0) in
    let source_address = from_be_bytes-to_be_bytes_4 source.address from.address in
    let source_port = from_be_bytes-to_be_bytes_2 source.port from.port in
    let target_address = from_be_bytes-to_be_bytes_4 target.address to.address in
    let target_port = from_be_bytes-to_be_bytes_2 target.port to.port in
    let number = from_be_bytes-to_be_bytes_4 s.seq.0 seq in
    let first : plus (word_at Big segment 4) (if is_syn segment then 1 else 0) ≡ s.seq.0 =
    ap (λ (b : Bool). plus (word_at Big segment 4) (if b then 1 else 0)) opens ∙ ap (λ (n : ℕ). plus n 0) number ∙ omega (arith, seq) in
    let same : segment_of packet segment ≡ record { source = source; target = target; opens = false; first = s.seq.0; octets = s.bytes } =
    λ i. record {
      source = record { address = source_address i; port = source_port i };
      target = record { address = target_address i; port = target_port i };
      opens = opens i;
      first = first i;
      octets = s.bytes;
    } in
    cond-true (is_ipv4 packet && is_tcp packet) (tcp_in packet) (Err Other) ipv4 ∙ in_packet ∙ ap Ok same
