use Rattle.std.proofs.Common.{◌≡◌, ℕ, ◌-◌, List, [], ◌∷◌, ◌++◌, length, take, drop, refl, sym, ap, ◌∙◌, subst, arith, length-drop}
use Rattle.std.proofs.lemmas.List.{take_all}
use Rattle.pcap_form.specs.Pcap.{header_order, header_link}
use Rattle.pcap_form.specs.Blocks.{Captured}
use Rattle.pcap_form.specs.Captures.{Before, BehindHeader, IsFormFault}
use Rattle.pcap_form.proofs.SoFar.{SoFar, SoFar-header, SoFar-part, header_fault}
use Rattle.pcap_form.proofs.read.read_records.Goals as goal

pub returns-in-Some-clause-fault : goal.returns-in-Some-clause-fault
returns-in-Some-clause-fault c = λ place e.
    let same : c.in-Some.place ≡ place = cc in
    subst (IsFormFault c.args.file.now) same
    (header_fault c.args.file.now c.in-Some.place c.requires (sym c.header_fault.ensures ∙ c.in-Some.is))

pub loop-left-init : goal.loop-left-init
loop-left-init c =
    let file = c.args.file.now in
    let s = SoFar-header file c.requires (sym c.header_fault.ensures ∙ c.in_default.is) in
    let order : c.header_order-order.result ≡ header_order (take 24 file) = c.header_order-order.ensures ∙ ap header_order c.split_at.ensures.front in
    let link : c.header_link-link.result ≡ header_link (take 24 file) = c.header_link-link.ensures ∙ ap header_link c.split_at.ensures.front in
    let state : BehindHeader c.header_order-order.result c.header_link-link.result ≡ BehindHeader (header_order (take 24 file)) (header_link (take 24 file)) =
    cc in
    subst (λ (xs : List ℕ). SoFar file (BehindHeader c.header_order-order.result c.header_link-link.result) c.new-packets.result xs)
    (sym c.split_at.ensures.back)
    (subst (λ (ps : List Captured). SoFar file (BehindHeader c.header_order-order.result c.header_link-link.result) ps (drop 24 file))
    (sym c.new-packets.ensures) (subst (λ (b : Before). SoFar file b [] (drop 24 file)) (sym state) s))

pub loop-left-preserved : goal.loop-left-preserved
loop-left-preserved c =
    let link = c.header_link-link.result in
    let before = BehindHeader c.header_order-order.result link in
    let part = c.split_at-in-loop-left.result.0.now in
    let octets : take (length part - 16) (drop 16 part) ≡ drop 16 part =
    take_all (length part - 16) (drop 16 part) (omega (arith, length-drop 16 part)) in
    let packet : c.new.result ≡ record { link = link; octets = drop 16 part } =
    c.new.ensures ∙ ap (λ (xs : List ℕ). let p : Captured = record { link = link; octets = xs } in p) octets in
    SoFar-part c.args.file.now before before c.loop-left.packets c.push.new.self c.loop-left.left.now c.record_size.result part
    c.split_at-in-loop-left.result.1.now c.loop-left.invariant (sym c.record_fault.ensures ∙ c.in_default-record_fault.is) c.record_size.ensures
    c.split_at-in-loop-left.ensures.front c.split_at-in-loop-left.ensures.back
    (c.in_ok-push.ensures.ok ∙ ap (λ (p : Captured). c.loop-left.packets ++ p ∷ []) packet) refl
