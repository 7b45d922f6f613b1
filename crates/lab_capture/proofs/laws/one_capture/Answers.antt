use Rattle.lab_capture.proofs.Times.{one_order}
use Rattle.std.proofs.Common.{sym, ap, ◌∙◌, List}
use Rattle.std.specs.Prelude.{map}
use Rattle.pcap_form.specs.Written.{written}
use Rattle.lab_capture.specs.Captures.{captured, timed}
use Rattle.lab_capture.specs.declared.timed.Timed.{Timed}
use Rattle.lab_capture.proofs.laws.one_capture.Goals as goal

pub returns : goal.returns
returns c = λ rounds taps one other a b. a.written
    ∙ (ap (λ (packets : List Timed). written (map captured packets)) (one_order (timed rounds taps) a.packets b.packets a.by_round b.by_round) ∙ sym b.written)
