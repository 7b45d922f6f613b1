use Rattle.std.proofs.Common.{[], ◌∷◌, ◌++◌, map, ap, ◌∙◌}
use Rattle.std.specs.Prelude.{codes}
use Rattle.std.proofs.lemmas.Result.{on_ok_weaker}
use Rattle.serde_json.specs.Data.{Data}
use Rattle.serde_json.specs.View.{view}
use Rattle.view_json.specs.Events.{event_json}
use Rattle.view_json.proofs.events.push_stray.Goals as goal

pub returns : goal.returns
returns c = on_ok_weaker c.push_event.result
    (λ put. put ∙ ap (λ (about : Data). map view c.args.list.now.items ++ event_json c.args.round c.args.name.now (codes "stray") about ∷ [])
    c.in_ok-about.ensures) c.push_event.ensures
