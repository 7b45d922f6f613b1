use Rattle.std.proofs.Common.{ℕ, sym, ap, ◌∙◌, option_copied, string_bytes}
use Rattle.std.specs.Prelude.{Option, option_map, slice_get}
use Rattle.std.proofs.lemmas.Result.{on_ok_weaker}
use Rattle.lab_tables.specs.declared.input.RouterInput.{RouterInput}
use Rattle.why_view.specs.Stories.{story_peering}
use Rattle.show_view.specs.Show.{table_lines}
use Rattle.show_view.proofs.Pieces.{worded}
use Rattle.show_view.proofs.Shown.{held_by, held_nowhere}
use Rattle.show_view.proofs.show.push_tables.Goals as goal

pub returns-in_default : goal.returns-in_default
returns-in_default c =
    on_ok_weaker c.push_tables_alone.result
    (worded (string_bytes c.args.text.now) (ap (λ (holder : Option (ℕ × RouterInput)). table_lines c.args.lab.now holder (c.args.number.0, c.args.peering.now)
    (story_peering c.args.lab.now.input c.args.peering.now) c.args.story.now.lines)
    (held_nowhere c.args.lab.now.input c.args.place c.in_default.ensures)))
    (c.push_tables_alone.ensures c.args.lab.now c.args.number.0 c.requires)

pub returns-in-Some-router_at : goal.returns-in-Some-router_at
returns-in-Some-router_at c =
    let number = c.in-Some.holder.0 in
    let there = c.router_at.ensures ∙ ap (slice_get c.args.lab.now.input.routers) c.from.ensures in
    on_ok_weaker c.push_tables_at.result
    (worded (string_bytes c.args.text.now) (ap (λ (holder : Option (ℕ × RouterInput)). table_lines c.args.lab.now holder (c.args.number.0, c.args.peering.now)
    (story_peering c.args.lab.now.input c.args.peering.now) c.args.story.now.lines)
    (ap (λ (router : Option RouterInput). option_map (λ r. (number, r)) router) (sym (ap option_copied c.in-Some-router_at.is))
    ∙ held_by c.args.lab.now.input c.args.place number (option_copied c.router_at.result) c.in-Some.ensures there)))
    c.push_tables_at.ensures

pub returns-in-None : goal.returns-in-None
returns-in-None c =
    let number = c.in-Some.holder.0 in
    let there = c.router_at.ensures ∙ ap (slice_get c.args.lab.now.input.routers) c.from.ensures in
    on_ok_weaker c.push_tables_alone-in-None.result
    (worded (string_bytes c.args.text.now) (ap (λ (holder : Option (ℕ × RouterInput)). table_lines c.args.lab.now holder (c.args.number.0, c.args.peering.now)
    (story_peering c.args.lab.now.input c.args.peering.now) c.args.story.now.lines)
    (ap (λ (router : Option RouterInput). option_map (λ r. (number, r)) router) (sym (ap option_copied c.in-None.is))
    ∙ held_by c.args.lab.now.input c.args.place number (option_copied c.router_at.result) c.in-Some.ensures there)))
    (c.push_tables_alone-in-None.ensures c.args.lab.now c.args.number.0 c.requires)
