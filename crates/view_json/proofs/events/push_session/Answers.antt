use Rattle.std.proofs.Common.{◌++◌, map, sym, ap, ◌∙◌, append-nil}
use Rattle.std.specs.Prelude.{Option}
use Rattle.serde_json.specs.View.{view}
use Rattle.timeline_view.specs.declared.outline.Head.{Head}
use Rattle.view_json.specs.Events.{messages_at}
use Rattle.view_json.proofs.events.push_session.Goals as goal

-- nothing is added where there is no event of this number
pub returns-in-None : goal.returns-in-None
returns-in-None c =
    sym (append-nil (map view c.args.list.now.items))
    ∙ ap (λ (head : Option Head). map view c.args.list.now.items
    ++ messages_at c.args.round c.args.holder.now c.args.remote.now c.args.session.now.story.lines c.args.outline.now.expected head) c.in-None.ensures
