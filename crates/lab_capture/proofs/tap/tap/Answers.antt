use Rattle.std.proofs.Common.{◌≡◌, ◌<◌, ◌∙◌, ℕ, List, length, Option, Some, ap}
use Rattle.std.specs.Prelude.{slice_get}
use Rattle.std.specs.Option.{option_and_then}
use Rattle.std.proofs.lemmas.Result.{IfOk-weaker}
use Rattle.tcp_seq.specs.declared.segment.Segment.{Segment}
use Rattle.audit_far.specs.declared.far.AuditedFar.{AuditedFar}
use Rattle.lab_capture.specs.Tapping.{IsTapped, packet_of}
use Rattle.lab_capture.proofs.Tapped.{by_no_far, by_other, by_reach, by_send, far_read, far_there}
use Rattle.lab_capture.proofs.tap.tap.Goals as goal

pub returns-in_default-clause-tapped : goal.returns-in_default-clause-tapped
returns-in_default-clause-tapped c = by_no_far c.args.input.now c.args.entry.now c.args.auditor.now c.step.new.self c.requires.sound c.requires.setup
    c.in_ok-step.field-0 c.in_ok-step.ensures c.in_default.ensures.none

pub returns-in_ok-step-in_default-event : goal.returns-in_ok-step-in_default-event
returns-in_ok-step-in_default-event c = record {
  tapped = by_other c.args.input.now c.args.entry.now c.args.auditor.now c.step-in_default-event.new.self c.requires.sound c.requires.setup
      c.in_ok-step-in_default-event.field-0 c.in_ok-step-in_default-event.ensures c.an_entry_is_of_one_event.ensures.one c.in-Some.peering c.in-Some.event
      c.in-Some.ensures.some (λ from len is. c.in_default-event.not-Send from len is) (λ index keep is. c.in_default-event.not-Reach index keep is);
  short = tt;
}

pub returns-in_ok-step-in-Reach-clause-tapped : goal.returns-in_ok-step-in-Reach-clause-tapped
returns-in_ok-step-in-Reach-clause-tapped c =
    let input = c.args.input.now in
    let entry = c.args.entry.now in
    let old = c.args.auditor.now in
    let p = c.in-Some.peering in
    let below : p < length old.far_sides.items =
    far_there input old c.requires.sound c.requires.setup p c.in-Some.event entry c.in-Some.ensures.some in
    let x : AuditedFar = c.index-far_sides-peering-in-Reach.result in
    let at : slice_get old.far_sides.items p ≡ Some x =
    far_read old p x c.far_sides-in-Reach.result.now below c.far_sides-in-Reach.ensures c.index-far_sides-peering-in-Reach.is in
    by_reach input entry old c.step-in-Reach.new.self c.requires.sound c.requires.setup c.in_ok-step-in-Reach.field-0 c.in_ok-step-in-Reach.ensures
    c.an_entry_is_of_one_event.ensures.one p c.in-Some.event c.in-Some.ensures.some c.in-Reach.index c.in-Reach.keep c.in-Reach.is x at
    c.in_ok-packet-in-Reach.packet
    (c.in_ok-packet-in-Reach.ensures.packet
    ∙ ap (λ (link : List Segment). option_and_then (packet_of input) (slice_get link c.in-Reach.index)) c.remoteward-link.ensures)

pub returns-in_ok-step-in-Send-clause-tapped : goal.returns-in_ok-step-in-Send-clause-tapped
returns-in_ok-step-in-Send-clause-tapped c =
    let input = c.args.input.now in
    let entry = c.args.entry.now in
    let old = c.args.auditor.now in
    let new = c.step-in-Send.new.self in
    let p = c.in-Some.peering in
    let takes = c.in_ok-step-in-Send.ensures in
    let below : p < length old.far_sides.items =
    far_there input old c.requires.sound c.requires.setup p c.in-Some.event entry c.in-Some.ensures.some in
    let there : p < length new.far_sides.items =
    far_there input new takes.sound (takes.setup ∙ c.requires.setup) p c.in-Some.event entry c.in-Some.ensures.some in
    let x : AuditedFar = c.index-far_sides-peering.result in
    let y : AuditedFar = c.index-far_sides-peering-in-Send.result in
    let n : ℕ = length c.homeward-index.result.now in
    let seen : List Segment → Option (List ℕ) = λ link. option_and_then (packet_of input) (slice_get link n) in
    IfOk-weaker c.packet_at.result (λ packet. packet ≡ seen c.homeward.result.now) (λ packet. IsTapped input entry old packet new) (λ packet is.
    by_send input entry old new c.requires.sound c.requires.setup c.in_ok-step-in-Send.field-0 takes c.an_entry_is_of_one_event.ensures.one p c.in-Some.event
    c.in-Some.ensures.some c.in-Send.from c.in-Send.len c.in-Send.is x y
    (far_read old p x c.far_sides.result.now below c.far_sides.ensures c.index-far_sides-peering.is)
    (far_read new p y c.far_sides-in-Send.result.now there c.far_sides-in-Send.ensures c.index-far_sides-peering-in-Send.is)
    n (ap (λ (link : List Segment). length link) c.homeward-index.ensures) packet (is ∙ ap seen c.homeward.ensures)) c.packet_at.ensures.packet
