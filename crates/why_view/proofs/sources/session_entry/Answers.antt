use Rattle.std.proofs.Common.{ap, ◌∙◌}
use Rattle.std.specs.Prelude.{Option, option_map, unwrap_or}
use Rattle.bgp_types.specs.declared.message.OpenMsg as open_type
use Rattle.why_view.proofs.GivenParts.{session_is}
use Rattle.why_view.proofs.sources.session_entry.Goals as goal

pub returns : goal.returns
returns c = λ input.
    let opened = c.in_ok-opened.ensures input in
    session_is input c.args.router.now c.args.prefix c.args.number c.args.peering.now c.args.story.now.lines
    c.identifier_in-identifier.result c.in_ok-import.import c.in_ok-heard.heard
    (c.identifier_in-identifier.ensures ∙ ap (λ (o : Option open_type.OpenMsg). unwrap_or (option_map (λ (m : open_type.OpenMsg). m.identifier) o) 0) opened)
    c.in_ok-import.ensures (c.in_ok-heard.ensures input opened)
