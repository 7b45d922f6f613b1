use Rattle.std.proofs.Common.{◌≡◌, ℕ, List, [], ◌∷◌, ◌++◌, take, drop, sym, ap, ◌∙◌, subst}
use Rattle.std.proofs.lemmas.List.{append-nil}
use Rattle.pcap_form.specs.declared.order.ByteOrder.{ByteOrder}
use Rattle.pcap_form.specs.Blocks.{Captured, section_order, section_size}
use Rattle.pcap_form.specs.Captures.{Before, InSection, packets_of, IsFormFault}
use Rattle.pcap_form.proofs.SoFar.{SoFar, SoFar-section, SoFar-part, right_part, section_fault}
use Rattle.pcap_form.proofs.read.read_blocks.Goals as goal
use Rattle.pcap_form.proofs.read.read_blocks.Goals.{in-Some-packet_in+in_ok-push, in_default-packet_in}

pub returns-in-Some-clause-fault : goal.returns-in-Some-clause-fault
returns-in-Some-clause-fault c = λ place e.
    let same : c.in-Some.place ≡ place = cc in
    subst (IsFormFault c.args.file.now) same
    (section_fault c.args.file.now c.in-Some.place c.requires (sym c.section_fault.ensures.place ∙ c.in-Some.is))

pub loop-left-init : goal.loop-left-init
loop-left-init c =
    let file = c.args.file.now in
    let n = section_size file in
    let s = SoFar-section file c.requires (sym c.section_fault.ensures.place ∙ c.in_default.is) in
    let first : c.split_at.result.0.now ≡ take n file = c.split_at.ensures.front ∙ ap (λ (k : ℕ). take k file) c.section_size.ensures in
    let left : c.split_at.result.1.now ≡ drop n file = c.split_at.ensures.back ∙ ap (λ (k : ℕ). drop k file) c.section_size.ensures in
    let order : c.section_order.result ≡ section_order (take n file) = c.section_order.ensures ∙ ap section_order first in
    let state : InSection c.section_order.result c.new.result ≡ InSection (section_order (take n file)) [] =
    ap (λ (o : ByteOrder). InSection o c.new.result) order ∙ ap (InSection (section_order (take n file))) c.new.ensures in
    subst (λ (xs : List ℕ). SoFar file (InSection c.section_order.result c.new.result) c.new-packets.result xs) (sym left)
    (subst (λ (ps : List Captured). SoFar file (InSection c.section_order.result c.new.result) ps (drop n file)) (sym c.new-packets.ensures)
    (subst (λ (b : Before). SoFar file b [] (drop n file)) (sym state) s))

pub packet_in-requires : goal.packet_in-requires
packet_in-requires c =
    right_part (InSection c.loop-left.section.order c.loop-left.section.interfaces) c.loop-left.left.now c.size_of.result
    c.split_at-in-loop-left.result.0.now (sym c.fault_in.ensures.place ∙ c.in_default-fault_in.is) c.size_of.ensures c.split_at-in-loop-left.ensures.front

pub take_block-requires : goal.take_block-requires
take_block-requires c =
    right_part (InSection c.loop-left.section.order c.loop-left.section.interfaces) c.loop-left.left.now c.size_of.result
    c.split_at-in-loop-left.result.0.now (sym c.fault_in.ensures.place ∙ c.in_default-fault_in.is) c.size_of.ensures c.split_at-in-loop-left.ensures.front

none_more : (old more new : List Captured) → new ≡ old → more ≡ [] → new ≡ old ++ more
none_more old more new e none = e ∙ sym (append-nil old) ∙ ap (λ (xs : List Captured). old ++ xs) (sym none)

one_more : (old more new pushed : List Captured) (p : Captured) → new ≡ pushed → pushed ≡ old ++ p ∷ [] → more ≡ p ∷ [] → new ≡ old ++ more
one_more old more new pushed p e f one = e ∙ f ∙ ap (λ (xs : List Captured). old ++ xs) (sym one)

pub loop-left-preserved : goal.loop-left-preserved
loop-left-preserved c =
    let before = InSection c.loop-left.section.order c.loop-left.section.interfaces in
    let block = c.split_at-in-loop-left.result.0.now in
    let packets : c.match-packet_in.packets ≡ c.loop-left.packets ++ packets_of before block =
    elim c.match-packet_in.branch [
      | in-Some-packet_in+in_ok-push w ↦ one_more _ _ _ _ _ w.packets-is w.in_ok-push.ensures.ok w.in-Some-packet_in.ensures
      | in_default-packet_in w ↦ none_more _ _ _ w.packets-is w.in_default-packet_in.ensures
    ] in
    SoFar-part c.args.file.now before (InSection c.take_block.new.section.order c.take_block.new.section.interfaces) c.loop-left.packets
    c.match-packet_in.packets c.loop-left.left.now c.size_of.result block c.split_at-in-loop-left.result.1.now c.loop-left.invariant
    (sym c.fault_in.ensures.place ∙ c.in_default-fault_in.is) c.size_of.ensures c.split_at-in-loop-left.ensures.front
    c.split_at-in-loop-left.ensures.back packets c.in_ok-take_block.ensures
