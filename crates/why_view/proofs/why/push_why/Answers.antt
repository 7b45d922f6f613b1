use Rattle.std.proofs.Common.{string_bytes, ◌∙◌}
use Rattle.why_view.proofs.AllLines.{why_are}
use Rattle.why_view.proofs.why.push_why.Goals as goal

pub returns : goal.returns
returns c =
    why_are c.args.lab.now c.args.prefix (c.args.number.0, c.args.router.now) c.as_slice-networks.result.now c.as_slice-held.result.now
    c.as_slice-beside.result.now c.in_ok-candidates.candidates c.as_slice.result.now
    (string_bytes c.args.text.now) (string_bytes c.push_candidates.new.text) (string_bytes c.push_all_excluded.new.text)
    c.as_slice-networks.ensures (c.as_slice-held.ensures ∙ c.in_ok-sessions.ensures) (c.as_slice-beside.ensures ∙ c.in_ok-routers.ensures)
    c.in_ok-candidates.ensures c.as_slice.ensures c.in_ok-push_candidates.ensures c.in_ok-push_all_excluded.ensures
