use Rattle.std.proofs.Common.{◌++◌, Some, sym, ap, ◌∙◌, option_copied, string_bytes}
use Rattle.std.proofs.lemmas.Result.{on_ok_weaker}
use Rattle.show_view.proofs.Waited.{stream_so, ways_so}
use Rattle.show_view.proofs.waiting.push_stream.Goals as goal

pub returns : goal.returns
returns c = λ input.
    let found = c.in-Some-Some-Some in
    let name = c.args.name.now in
    on_ok_weaker c.push_ways.result
    (λ put. put ∙ ap (λ words. string_bytes c.args.text.now ++ words)
    (ways_so input name found.peering.now found.view.now found.far.now c.is_unread-home.result c.in_ok-remote.remote c.is_unread-home.ensures
    (c.in_ok-remote.ensures input)
    ∙ stream_so input name (Some found.peering.now) (option_copied c.args.peering) (Some found.view.now) (option_copied c.args.view)
    (Some found.far.now) (option_copied c.args.far) (sym (ap option_copied found.is-0)) (sym (ap option_copied found.is-1))
    (sym (ap option_copied found.is-2)))) c.push_ways.ensures
