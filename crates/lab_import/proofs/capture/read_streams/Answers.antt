use Rattle.std.proofs.Common.{◌≡◌, List, ℕ, ap, subst}
use Rattle.std.specs.Prelude.{Err}
use Rattle.pcap_form.specs.Blocks.{Captured}
use Rattle.pcap_form.specs.Captures.{IsCapture, IsFormFault}
use Rattle.captured_streams.specs.Readings.{IsHole, IsReading}
use Rattle.lab_import.specs.Captures.{IsFault}
use Rattle.lab_import.specs.declared.capture.CaptureFault.TheVariants.{Form, Missing}
use Rattle.lab_import.proofs.capture.read_streams.Goals as goal

pub returns-in-Err-Form-clause-fault : goal.returns-in-Err-Form-clause-fault
returns-in-Err-Form-clause-fault c = λ fault e.
    let place = c.in-Err-Form.place in
    let same : Form place ≡ fault = cc (e) in
    subst (IsFault c.args.home c.args.file) same
    (subst (λ (file : List ℕ). IsFormFault file place) c.deref.ensures (c.in-Err-Form.ensures.fault place (ap Err c.in-Err-Form.field-0-is)))

pub returns-in-Ok-captured_streams-clause-streams : goal.returns-in-Ok-captured_streams-clause-streams
returns-in-Ok-captured_streams-clause-streams c = record {
  packets = c.in-Ok.packets;
  captured = subst (λ (file : List ℕ). IsCapture file c.in-Ok.packets) c.deref.ensures c.in-Ok.ensures.capture;
  reading = subst (λ (ps : List Captured). IsReading c.args.home ps c.in-Ok-captured_streams.streams) c.deref-2.ensures
      c.in-Ok-captured_streams.ensures.reading;
}

pub returns-in-Err-Hole-clause-fault : goal.returns-in-Err-Hole-clause-fault
returns-in-Err-Hole-clause-fault c = λ fault e.
    let hole = c.in-Err-Hole.hole in
    let same : Missing hole ≡ fault = cc (e) in
    let packets = c.in-Ok.packets in
    let is : IsHole c.args.home packets hole
    = subst (λ (ps : List Captured). IsHole c.args.home ps hole) c.deref-2.ensures (c.in-Err-Hole.ensures.hole hole (ap Err c.in-Err-Hole.field-0-is)) in
    subst (IsFault c.args.home c.args.file) same
    (packets, subst (λ (file : List ℕ). IsCapture file packets) c.deref.ensures c.in-Ok.ensures.capture, is)
