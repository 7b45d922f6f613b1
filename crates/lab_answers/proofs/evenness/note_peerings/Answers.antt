use Rattle.std.proofs.Common.{◌≡◌, ◌<◌, ◌≤◌, ◌∙◌, ap, sym, arith, length, List, ℕ}
use Rattle.std.specs.Prelude.{slice_index_or}
use Rattle.std.specs.List.{flat_map, enumerate_from}
use Rattle.std.proofs.lemmas.List.{take_all}
use Rattle.lab_input.proofs.Numbered.{flat_map_numbered}
use Rattle.lab_setup.specs.Setups.{setup_of, peering_setup}
use Rattle.lab_tables.specs.declared.input.PeeringInput.{PeeringInput}
use Rattle.even_inputs.specs.Evenness.{meds_by, Med}
use Rattle.lab_answers.proofs.Adding.{adds_none, adds_both, adds_same}
use Rattle.lab_answers.proofs.Meant.{at_index, peerings_over}
use Rattle.lab_answers.proofs.evenness.note_peerings.Goals as goal

pub note_peering-requires-clause-there : goal.note_peering-requires-clause-there
note_peering-requires-clause-there c =
    let ps : List PeeringInput = c.args.input.now.peerings in
    let same : c.deref-peering-items.result.now ≡ ps = c.deref-peering-items.ensures in
    let count : length c.deref-peering-items.result.now ≡ length ps = ap length same in
    let below : c.loop-i.i < length ps = omega (arith, c.loop-i-test.true, count) in
    at_index ps c.loop-i.i c.peering-item.result below
    (c.peering-item.is ∙ ap (λ (xs : List PeeringInput). slice_index_or xs c.loop-i.i c.peering-item.result) same)

pub loop-i-init : goal.loop-i-init
loop-i-init c = adds_none c.args.meds.now

pub loop-i-preserved : goal.loop-i-preserved
loop-i-preserved c =
    let ps : List PeeringInput = c.args.input.now.peerings in
    let f : ℕ × PeeringInput → List Med = λ q. meds_by (setup_of c.args.input.now) (q.0, peering_setup c.args.input.now q) in
    let same : c.deref-peering-items.result.now ≡ ps = c.deref-peering-items.ensures in
    let count : length c.deref-peering-items.result.now ≡ length ps = ap length same in
    let below : c.loop-i.i < length ps = omega (arith, c.loop-i-test.true, count) in
    let is : c.peering-item.result ≡ slice_index_or ps c.loop-i.i c.peering-item.result
    = c.peering-item.is ∙ ap (λ (xs : List PeeringInput). slice_index_or xs c.loop-i.i c.peering-item.result) same in
    adds_same _ _ _ _ (sym (flat_map_numbered f ps c.loop-i.i c.peering-item.result below is))
    (adds_both _ _ _ _ _ c.loop-i.invariant c.in_ok-note_peering.ensures)

pub returns : goal.returns
returns c =
    let ps : List PeeringInput = c.args.input.now.peerings in
    let f : ℕ × PeeringInput → List Med = λ q. meds_by (setup_of c.args.input.now) (q.0, peering_setup c.args.input.now q) in
    let count : length c.deref-peering-items.result.now ≡ length ps = ap length c.deref-peering-items.ensures in
    let past : length ps ≤ c.loop-i.i = omega (arith, c.loop-i-test.false, count) in
    adds_same _ _ _ _ (ap (λ (xs : List PeeringInput). flat_map f (enumerate_from 0 xs)) (take_all c.loop-i.i ps past)
    ∙ peerings_over c.args.input.now) c.loop-i.invariant
