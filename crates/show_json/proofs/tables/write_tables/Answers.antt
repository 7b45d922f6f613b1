use Rattle.std.proofs.Common.{ℕ, ap, sym, ◌∙◌}
use Rattle.std.specs.Prelude.{Option, option_copied, option_map, slice_get}
use Rattle.std.proofs.lemmas.Result.{on_ok_weaker}
use Rattle.serde_json.specs.Data.{Data}
use Rattle.lab_tables.specs.declared.input.RouterInput.{RouterInput}
use Rattle.report_json.specs.Tokens.{with_value}
use Rattle.why_view.specs.Stories.{story_peering}
use Rattle.show_view.proofs.Shown.{held_by, held_nowhere}
use Rattle.show_json.specs.Show.{tables_json}
use Rattle.show_json.proofs.tables.write_tables.Goals as goal

pub returns-in_default : goal.returns-in_default
returns-in_default c =
    let form : Option (ℕ × RouterInput) → Data = λ holder. tables_json c.args.lab.now holder (c.args.number.0, c.args.peering.now)
    (story_peering c.args.lab.now.input c.args.peering.now) c.args.story.now.lines in
    on_ok_weaker c.write_alone.result
    (λ w. w ∙ ap (λ holder. with_value (form holder) c.args.out.now) (held_nowhere c.args.lab.now.input c.args.place c.in_default.ensures))
    (c.write_alone.ensures c.args.lab.now c.args.number.0 c.requires)

pub returns-in-Some-router_at : goal.returns-in-Some-router_at
returns-in-Some-router_at c =
    let number = c.in-Some.holder.0 in
    let there = c.router_at.ensures ∙ ap (slice_get c.args.lab.now.input.routers) c.from.ensures in
    let form : Option (ℕ × RouterInput) → Data = λ holder. tables_json c.args.lab.now holder (c.args.number.0, c.args.peering.now)
    (story_peering c.args.lab.now.input c.args.peering.now) c.args.story.now.lines in
    on_ok_weaker c.write_held.result
    (λ w. w ∙ ap (λ holder. with_value (form holder) c.args.out.now)
    (ap (λ (router : Option RouterInput). option_map (λ r. (number, r)) router) (sym (ap option_copied c.in-Some-router_at.is))
    ∙ held_by c.args.lab.now.input c.args.place number (option_copied c.router_at.result) c.in-Some.ensures there)) c.write_held.ensures

pub returns-in-None : goal.returns-in-None
returns-in-None c =
    let number = c.in-Some.holder.0 in
    let there = c.router_at.ensures ∙ ap (slice_get c.args.lab.now.input.routers) c.from.ensures in
    let form : Option (ℕ × RouterInput) → Data = λ holder. tables_json c.args.lab.now holder (c.args.number.0, c.args.peering.now)
    (story_peering c.args.lab.now.input c.args.peering.now) c.args.story.now.lines in
    on_ok_weaker c.write_alone-in-None.result
    (λ w. w ∙ ap (λ holder. with_value (form holder) c.args.out.now)
    (ap (λ (router : Option RouterInput). option_map (λ r. (number, r)) router) (sym (ap option_copied c.in-None.is))
    ∙ held_by c.args.lab.now.input c.args.place number (option_copied c.router_at.result) c.in-Some.ensures there))
    (c.write_alone-in-None.ensures c.args.lab.now c.args.number.0 c.requires)
