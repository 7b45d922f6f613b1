-- A packet worked by hand.
use Rattle.std.specs.Prelude.{ℕ, List, [], ◌∷◌, ◌++◌, replicate}
use Rattle.tcp_seq.specs.declared.segment.Segment.{Segment}
use Rattle.tcp_seq.specs.declared.segment.Way.TheVariants.{Home}
use Rattle.tcp_packets.specs.declared.socket.Socket.{Socket}

-- A KEEPALIVE of 192.0.2.1, port 49152, to 192.0.2.2, port 179; its first octet is 5000, the next one that is expected 1000.
--
-- The words of the IPv4 header without its checksum, and their sum:
-- 4500 + 003b + 0000 + 4000 + 4006 + 0000 + c000 + 0201 + c000 + 0202 = 24944; 4944 + 2 = 4946, whose complement is b6b9.
--
-- Those in front of the segment, c000 + 0201 + c000 + 0202 + 0006 + 0027 = 18430; of its header, c000 + 00b3 + 0000 + 1388 + 0000 + 03e8 + 5018 +
-- 4000 + 0000 + 0000 = 1683b; and of its octets, 8 * ffff + 0013 + 0400 = 8040b. Together af076; f076 + a = f080, whose complement is 0f7f.
abbrev pub worked_keepalive : List ℕ
worked_keepalive =
    0x45 ∷ 0x00 ∷ 0x00 ∷ 0x3b ∷ 0x00 ∷ 0x00 ∷ 0x40 ∷ 0x00 ∷ 0x40 ∷ 0x06 ∷ 0xb6 ∷ 0xb9 ∷ 0xc0 ∷ 0x00 ∷ 0x02 ∷ 0x01 ∷ 0xc0 ∷ 0x00 ∷ 0x02 ∷ 0x02
    ∷ 0xc0 ∷ 0x00 ∷ 0x00 ∷ 0xb3 ∷ 0x00 ∷ 0x00 ∷ 0x13 ∷ 0x88 ∷ 0x00 ∷ 0x00 ∷ 0x03 ∷ 0xe8 ∷ 0x50 ∷ 0x18 ∷ 0x40 ∷ 0x00 ∷ 0x0f ∷ 0x7f ∷ 0x00 ∷ 0x00
    ∷ replicate 16 0xff ++ 0x00 ∷ 0x13 ∷ 0x04 ∷ []

abbrev pub worked_source : Socket
worked_source = record { address = 0xc0000201; port = 49152 }

abbrev pub worked_target : Socket
worked_target = record { address = 0xc0000202; port = 179 }

abbrev pub worked_segment : Segment
worked_segment = record {
  peering = record { 0 = 0 };
  way = Home;
  seq = record { 0 = 5000 };
  ack = record { 0 = 1000 };
  window = 16384;
  bytes = replicate 16 0xff ++ 0x00 ∷ 0x13 ∷ 0x04 ∷ [];
}
