use Rattle.std.proofs.Common.{◌≡◌, List, ℕ, ◌++◌, OnOk, Some, subst, string_bytes}
use Rattle.attr_codec.specs.declared.fault.CodecFault.{CodecFault}
use Rattle.attr_codec.specs.Decoding.{Stops}
use Rattle.bgp_types.specs.Faults.{fault_in}
use Rattle.bgp_types.specs.FirstFault.{message_of}
use Rattle.message_words.proofs.Frames.{faulty_read}
use Rattle.message_words.proofs.message.push_read.Goals as goal

-- a fault that is found
pub returns-in-Err-Wire : goal.returns-in-Err-Wire
returns-in-Err-Wire c =
    let fault = fault_in (message_of c.args.expected.now c.args.bytes.now) in
    let found : fault ≡ Some c.in-Err-Wire.notice = subst (λ (stop : CodecFault). Stops stop fault) c.in-Err-Wire.field-0-is c.in-Err-Wire.ensures in
    subst (λ (w : List ℕ). OnOk c.push_faulty.result (string_bytes c.push_faulty.new.text ≡ string_bytes c.args.text.now ++ w))
    (faulty_read c.args.full c.args.expected.now c.args.bytes.now c.in-Err-Wire.notice found) c.push_faulty.ensures
