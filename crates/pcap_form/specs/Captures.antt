-- Which octets are a capture, of which packets, and where the others are at fault.
use Rattle.std.specs.Prelude.{ℕ, ◌≡◌, ◌≢◌, ◌⊎◌, ◌+◌, Bool, if◌then◌else◌, List, [], ◌∷◌, ◌++◌, length, drop, None, Some}
use Rattle.std.specs.List.{flat_map}
use Rattle.pcap_form.specs.declared.order.ByteOrder.{ByteOrder}
use Rattle.pcap_form.specs.declared.link.LinkType.{LinkType}
use Rattle.pcap_form.specs.declared.blocks.Interface.{Interface}
use Rattle.pcap_form.specs.Numbers.{first_wrong}
use Rattle.pcap_form.specs.Pcap.{header_order, header_fields, header_link, record_size, record_fields}
use Rattle.pcap_form.specs.Blocks.{Captured, begins_section, section_order, section_size, section_fields}
use Rattle.pcap_form.specs.Blocks.{block_fields, interfaces_in, packets_in_block}
use Rattle.pcap_form.specs.Numbers.{word_at}

-- A capture is parts, one behind another: a header and records, or blocks, of which the first begins a section. What stands before a part says
-- which parts may come: nothing, or the header of all records, or the section's order and its interfaces so far.
pub data Before : Type 0 where
  Start : Before
  BehindHeader : ByteOrder → LinkType → Before
  InSection : ByteOrder → List Interface → Before

-- the fields of the part that these octets begin with
abbrev pub fields : Before → List ℕ → List (ℕ × Bool)
fields Start left = if begins_section left then section_fields left else header_fields left
fields (BehindHeader order link) left = record_fields order left
fields (InSection order interfaces) left = if begins_section left then section_fields left else block_fields order interfaces left

-- how long that part is
abbrev pub size : Before → List ℕ → ℕ
size Start left = if begins_section left then section_size left else 24
size (BehindHeader order link) left = record_size order left
size (InSection order interfaces) left = if begins_section left then section_size left else word_at order left 4

-- No field is wrong, and these octets are all of the part.
pub record IsPart (before : Before) (part : List ℕ) : Type 0 where
  pub right : first_wrong (fields before part) ≡ None
  pub whole : length part ≡ size before part

-- the packet of a part, if it has one
abbrev pub packets_of : Before → List ℕ → List Captured
packets_of Start part = []
packets_of (BehindHeader order link) part = record { link = link; octets = drop 16 part } ∷ []
packets_of (InSection order interfaces) part = if begins_section part then [] else packets_in_block order interfaces part

-- what stands before the part that follows
abbrev pub behind : Before → List ℕ → Before
behind Start part = if begins_section part then InSection (section_order part) [] else BehindHeader (header_order part) (header_link part)
behind (BehindHeader order link) part = BehindHeader order link
behind (InSection order interfaces) part =
    if begins_section part then InSection (section_order part) [] else InSection order (interfaces ++ interfaces_in order part)

-- ---- several parts

abbrev pub AreParts : Before → List (List ℕ) → Type 0
AreParts before [] = Unit {0}
AreParts before (part ∷ parts) = IsPart before part × AreParts (behind before part) parts

abbrev pub packets_in : Before → List (List ℕ) → List Captured
packets_in before [] = []
packets_in before (part ∷ parts) = packets_of before part ++ packets_in (behind before part) parts

abbrev pub behind_all : Before → List (List ℕ) → Before
behind_all before [] = before
behind_all before (part ∷ parts) = behind_all (behind before part) parts

abbrev pub joined : List (List ℕ) → List ℕ
joined parts = flat_map (λ part. part) parts

-- ---- whole files

-- The file is parts, one at least, and these are their packets.
pub record IsCapture (file : List ℕ) (packets : List Captured) : Type 0 where
  pub parts : List (List ℕ)
  pub some : parts ≢ []
  pub are_parts : AreParts Start parts
  pub file_is : file ≡ joined parts
  pub packets_are : packets ≡ packets_in Start parts

-- The file begins with parts, and the one behind them has its first wrong field at this place. Behind the first part a file may end. In the block
-- that begins a section the order, at 8, comes before the length, at 4: no number can be read before it.
pub record IsFormFault (file : List ℕ) (place : ℕ) : Type 0 where
  pub parts : List (List ℕ)
  pub left : List ℕ
  pub offset : ℕ
  pub more : (parts ≡ []) ⊎ (left ≢ [])
  pub are_parts : AreParts Start parts
  pub file_is : file ≡ joined parts ++ left
  pub wrong : first_wrong (fields (behind_all Start parts) left) ≡ Some offset
  pub place_is : place ≡ length (joined parts) + offset
