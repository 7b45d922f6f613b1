use Rattle.std.proofs.Common.{ℕ, ◌≡◌, List, Some, Result, Ok, Err, ap, sym, ◌∙◌, subst}
use Rattle.std.proofs.lemmas.Result.{IfOk-weaker}
use Rattle.attr_codec.specs.declared.fault.CodecFault.{CodecFault}
use Rattle.attr_codec.specs.Decoding.{Stops}
use Rattle.bgp_types.specs.Faults.{fault_in}
use Rattle.bgp_types.specs.FirstFault.{message_of}
use Rattle.bgp_types.specs.declared.message.Message.{Message}
use Rattle.bgp_types.specs.declared.message.Notice.{Notice}
use Rattle.message_json.specs.Messages.{faulty_json, answer_json}
use Rattle.message_json.proofs.messages.read_value.Goals as goal

-- an answer with a fault is that fault
faulty_answer : (bytes : List ℕ) (answer : Result Message Notice) (n : Notice) → fault_in answer ≡ Some n → answer_json bytes answer ≡ faulty_json bytes n
faulty_answer bytes (Ok message) n is = absurd cc
faulty_answer bytes (Err other) n is = let same : other ≡ n = cc in ap (faulty_json bytes) same

-- a fault that is found
pub returns-in-Err-Wire : goal.returns-in-Err-Wire
returns-in-Err-Wire c =
    let answer = message_of c.args.expected.now c.args.bytes.now in
    let found : fault_in answer ≡ Some c.in-Err-Wire.notice =
    subst (λ (stop : CodecFault). Stops stop (fault_in answer)) c.in-Err-Wire.field-0-is c.in-Err-Wire.ensures in
    IfOk-weaker c.faulty_value.result _ _ (λ v is. is ∙ sym (faulty_answer c.args.bytes.now answer c.in-Err-Wire.notice found)) c.faulty_value.ensures
