use Rattle.std.proofs.Common.{List, ℕ, ◌++◌, ap, ◌∙◌, append_assoc, string_bytes}
use Rattle.message_words.specs.Messages.{type_words, fault_words, in_full}
use Rattle.message_words.proofs.message.push_faulty.Goals as goal

-- the type, the fault, and the octets
pub returns : goal.returns
returns c =
    let before = string_bytes c.args.text.now in
    let type = type_words c.args.bytes.now in
    let fault = fault_words c.args.notice.now in
    let octets = in_full c.args.full c.args.bytes.now in
    c.in_ok-push_in_full.ensures ∙ ap (λ (l : List ℕ). l ++ octets) (c.in_ok-push_fault.ensures ∙ ap (λ (l : List ℕ). l ++ fault)
    (c.in_ok-push_str.ensures.bytes ∙ ap (λ (w : List ℕ). before ++ w) c.type_name.ensures))
    ∙ ap (λ (l : List ℕ). l ++ octets) (append_assoc before type fault) ∙ append_assoc before (type ++ fault) octets
