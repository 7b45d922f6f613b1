-- The words of worked messages, computed.
use Rattle.std.proofs.Common.{◌≡◌, true, map, refl}
use Rattle.std.specs.Char.{encode_utf8}
use Rattle.std.specs.Fmt.{digits}
use Rattle.std.specs.Str.{chars, is_utf8}
use Rattle.bgp_types.specs.FirstFault.{message_of}
use Rattle.bgp_types.specs.Header.{header_fault}
use Rattle.hex.specs.Hex.{encode_with}
use Rattle.message_words.specs.Messages.{message_words, read_words}
use Rattle.message_words.specs.Worked.{worked_messages, worked_words, worked_expected, worked_faults, worked_fault_words}

pub words_are : map (message_words true) worked_messages ≡ worked_words
unfolding digits chars is_utf8 encode_utf8 encode_with
words_are = refl

pub fault_words_are : map (read_words true worked_expected) worked_faults ≡ worked_fault_words
unfolding digits message_of header_fault encode_with
fault_words_are = refl
