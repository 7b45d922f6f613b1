use Rattle.std.proofs.Common.{List, ℕ, ap, ◌∙◌, option_copied, string_bytes}
use Rattle.std.specs.Prelude.{slice_get}
use Rattle.std.proofs.lemmas.Result.{on_ok_weaker}
use Rattle.lab_report.specs.Report.{peering_name}
use Rattle.show_view.specs.Waiting.{stream_words}
use Rattle.show_view.proofs.Pieces.{worded}
use Rattle.show_view.proofs.Waited.{stream_so}
use Rattle.show_view.proofs.waiting.push_stream_of.Goals as goal

pub returns : goal.returns
returns c =
    let lab = c.args.lab.now in
    let input = lab.input in
    let n = c.args.peering.0 in
    let there = option_copied c.peering_at-there.result in
    let view = option_copied c.session_at-view.result in
    let far = option_copied c.far_at-far.result in
    on_ok_weaker c.push_stream.result
    (worded (string_bytes c.args.text.now) (ap (λ (name : List ℕ). stream_words input name there view far) c.peering_name-name.ensures
    ∙ stream_so input (peering_name input n) there (slice_get input.peerings n) view (slice_get lab.sessions n) far (slice_get lab.far n)
    (c.peering_at-there.ensures ∙ ap (slice_get input.peerings) c.from-index.ensures)
    (c.session_at-view.ensures ∙ ap (slice_get lab.sessions) c.from-index.ensures)
    (c.far_at-far.ensures ∙ ap (slice_get lab.far) c.from-index.ensures))) (c.push_stream.ensures input)
