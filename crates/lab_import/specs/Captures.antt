-- What a capture is imported as, and why it isn't.
use Rattle.std.specs.Prelude.{ℕ, ◌≡◌, List, [], ◌∷◌, ◌++◌, codes, decimal, Option, Some, slice_get}
use Rattle.bgp_types.specs.Texts.{address_text}
use Rattle.lab_input.specs.Labs.{InputOf}
use Rattle.pcap_form.specs.Blocks.{Captured}
use Rattle.pcap_form.specs.Captures.{IsCapture, IsFormFault}
use Rattle.tcp_packets.specs.declared.socket.Socket.{Socket}
use Rattle.captured_streams.specs.Readings.{IsHole, IsReading}
use Rattle.captured_streams.specs.declared.directed.Peer.{Peer}
use Rattle.captured_streams.specs.declared.streams.Streams.{Streams}
use Rattle.imported_sessions.specs.Imports.{IsFirstWithoutOpen, IsImport, SayAll}
use Rattle.imported_sessions.specs.declared.imported.Imported.{Imported}
use Rattle.lab_import.specs.Texts.{line, text_of}
use Rattle.lab_import.specs.Limits.{Fits, IsBeyond}
use Rattle.lab_import.specs.Inputs.{input_of_import, IsTextOf}
use Rattle.lab_import.specs.declared.limits.Beyond.{Beyond}
use Rattle.lab_import.specs.declared.capture.CaptureFault.{CaptureFault}
use Rattle.lab_import.specs.declared.capture.CaptureFault.TheVariants.{Form, Missing, NoOpen, Limit, Unread}

-- ---- what is imported

-- the file is a capture with these sessions
pub record HasStreams (home : Option ℕ) (file : List ℕ) (s : Streams) : Type 0 where
  pub packets : List Captured
  pub captured : IsCapture file packets
  pub reading : IsReading home packets s

-- it is imported so
pub record HasImport (home : Option ℕ) (file : List ℕ) (s : Streams) (i : Imported) : Type 0 where
  pub streams : HasStreams home file s
  pub imported : IsImport s i

-- The file is a capture, and the text a laboratory that `read_lab` accepts in which each remote says just the octets that it says in the capture.
pub record IsImported (home : Option ℕ) (file text : List ℕ) : Type 0 where
  pub s : Streams
  pub i : Imported
  pub has : HasImport home file s i
  pub says : SayAll s i
  pub text_is : IsTextOf i text

-- ---- why it isn't

-- A limit is met at this place of a remote's stream.
pub record IsLimit (home : Option ℕ) (file : List ℕ) (remote : Socket) (octet : ℕ) : Type 0 where
  pub s : Streams
  pub i : Imported
  pub has : HasImport home file s i
  pub beyond : Beyond
  pub is : IsBeyond i beyond
  pub peer : Peer
  pub at : slice_get s.peers beyond.peer ≡ Some peer
  pub remote_is : remote ≡ peer.remote
  pub octet_is : octet ≡ beyond.octet

-- All have room, and the text isn't read as the laboratory. No capture is known for which that is so.
pub record IsUnread (home : Option ℕ) (file : List ℕ) : Type 0 where
  pub s : Streams
  pub i : Imported
  pub has : HasImport home file s i
  pub fits : Fits i
  pub other : ¬ InputOf (text_of i) (input_of_import i)

-- The file is no capture; or a remote's octets are missing; or a remote doesn't begin with a sound OPEN; or something has no room in an input; or the
-- text isn't read as the laboratory.
abbrev pub IsFault : (home : Option ℕ) → (file : List ℕ) → CaptureFault → Type 0
IsFault home file (Form place) = IsFormFault file place
IsFault home file (Missing hole) = (packets : List Captured) × IsCapture file packets × IsHole home packets hole
IsFault home file (NoOpen remote) = (s : Streams) × HasStreams home file s × IsFirstWithoutOpen s remote
IsFault home file (Limit remote octet) = IsLimit home file remote octet
IsFault home file Unread = IsUnread home file

-- the limit of octets of a capture
abbrev pub most_capture : ℕ
most_capture = 268435456

-- ---- what is said of it

abbrev pub socket_text : Socket → List ℕ
socket_text socket = address_text socket.address ++ codes ":" ++ decimal socket.port

abbrev pub remote_line : Socket → (kind : List ℕ) → ℕ → List ℕ
remote_line remote kind octet = line (codes "bad capture: " ++ socket_text remote ++ codes " " ++ kind ++ codes " " ++ decimal octet)

-- the line for a fault
abbrev pub fault_line : CaptureFault → List ℕ
fault_line (Form place) = line (codes "bad capture: form " ++ decimal place)
fault_line (Missing hole) = remote_line hole.remote (codes "hole") hole.octet
fault_line (NoOpen remote) = remote_line remote (codes "bgp") 0
fault_line (Limit remote octet) = remote_line remote (codes "limit") octet
fault_line Unread = line (codes "bad capture: unread")
