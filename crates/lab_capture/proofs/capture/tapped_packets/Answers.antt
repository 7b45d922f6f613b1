use Rattle.std.proofs.Common.{◌≡◌, ◌<◌, [], length, get_or, ◌∙◌, refl, sym, subst}
use Rattle.std.proofs.lemmas.List.{get_or_default}
use Rattle.graft_model.specs.Setups.{IsSetup}
use Rattle.graft_laws.specs.Ranges.{IsInRange}
use Rattle.ring_net.specs.declared.entry.JournalEntry.{JournalEntry}
use Rattle.lab_setup.specs.Setups.{setup_of}
use Rattle.lab_capture.specs.Tapping.{AllShort, AreOfRun, IsTapped}
use Rattle.lab_capture.proofs.Runs.{all_tapped, none_stands, none_tapped, stands_next, tapped_next}
use Rattle.lab_capture.proofs.Times.{none_short, short_more}
use Rattle.lab_capture.proofs.capture.tapped_packets.Goals as goal

-- an entry of no event, which the code reads behind the last one
abbrev blank : JournalEntry
blank = record { clock = 0; actor = 0; kind = 0; a = 0; b = 0; c = 0 }

pub loop-index-init : goal.loop-index-init
loop-index-init c = record {
  setup = c.in_ok-auditor.ensures.setup;
  sound = c.in_ok-auditor.ensures.sound;
  stands = none_stands c.args.input.now c.in_ok-auditor.auditor c.in_ok-auditor.ensures.first;
  tapped = subst (AreOfRun c.args.input.now c.args.rounds.now []) (sym c.new-packets.ensures.items) (none_tapped c.args.input.now c.args.rounds.now);
  short = subst AllShort (sym c.new-packets.ensures.items) none_short;
}

pub loop-index-preserved : goal.loop-index-preserved
loop-index-preserved c =
    let input = c.args.input.now in
    let rounds = c.args.rounds.now in
    let places = c.args.places.now in
    let journal = c.args.journal.now in
    let accepted = c.requires.accepted in
    let sound : IsSetup (setup_of input) = c.accepted_is_a_setup.ensures accepted.bytes input accepted.is in
    let ranges : IsInRange (setup_of input) = c.accepted_is_in_range.ensures accepted.bytes input accepted.is in
    let i = c.loop-index.index in
    let old = c.loop-index.auditor in
    let new = c.tap.new.auditor in
    let below : i < length journal = c.loop-index-test.true in
    let entry : JournalEntry = get_or journal i blank in
    let is : entry ≡ get_or journal i entry = get_or_default journal i blank entry below in
    let tapped : IsTapped input entry old c.in_ok-packet.packet new = c.in_ok-packet.ensures.tapped in
    record {
      setup = tapped.takes.setup ∙ c.loop-index.invariant.setup;
      sound = tapped.takes.sound;
      stands = stands_next c.an_entry_is_of_one_event.ensures.one c.prefixes_are_spelled.ensures input sound ranges rounds journal i below entry is old new
          c.loop-index.invariant.setup c.loop-index.invariant.stands c.in_ok-packet.packet tapped;
      tapped = tapped_next c.an_entry_is_of_one_event.ensures.one c.prefixes_are_spelled.ensures input sound ranges rounds journal i below entry is old new
          c.loop-index.invariant.setup c.loop-index.invariant.stands c.in_ok-packet.packet tapped places c.requires.places c.requires.rounds
          c.loop-index.packets.items c.push_timed.new.packets.items _ _ c.loop-index.invariant.tapped refl refl c.in_ok-push_timed.ensures;
      short = subst AllShort (sym c.in_ok-push_timed.ensures)
          (short_more c.loop-index.packets.items _ _ c.in_ok-packet.packet c.loop-index.invariant.short c.in_ok-packet.ensures.short);
    }

pub returns-clause-tapped : goal.returns-clause-tapped
returns-clause-tapped c = all_tapped c.args.input.now c.args.rounds.now c.args.journal.now c.loop-index.index c.loop-index.packets.items
    c.loop-index-test.false c.loop-index.invariant.tapped
