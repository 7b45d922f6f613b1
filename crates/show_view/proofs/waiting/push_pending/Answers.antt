use Rattle.std.proofs.Common.{List, ℕ, ◌++◌, sym, ap, string_bytes}
use Rattle.std.specs.Prelude.{codes}
use Rattle.lab_report.specs.Report.{router_name}
use Rattle.show_view.specs.Waiting.{actor_words, pending_words}
use Rattle.show_view.proofs.Pieces.{behind, worded}
use Rattle.show_view.proofs.waiting.push_pending.Goals as goal

pub returns-in_ok-push_actor-in-Channel-2 : goal.returns-in_ok-push_actor-in-Channel-2
returns-in_ok-push_actor-in-Channel-2 c =
    let text = string_bytes c.args.text.now in
    let from : List ℕ = actor_words c.args.lab.now.input c.in-Channel.from in
    let to : List ℕ = actor_words c.args.lab.now.input c.in-Channel.to in
    worded text (ap (pending_words c.args.lab.now) (sym c.in-Channel.is))
    (behind text (codes "an item from " ++ from ++ codes " to ") to
    (behind text (codes "an item from " ++ from) (codes " to ")
    (behind text (codes "an item from ") from c.in_ok-push_str-in-Channel.ensures.bytes c.in_ok-push_actor-in-Channel.ensures)
    c.in_ok-push_str-in-Channel-2.ensures.bytes) c.in_ok-push_actor-in-Channel-2.ensures)

pub returns-in_ok-push_str-in-Bag-2 : goal.returns-in_ok-push_str-in-Bag-2
returns-in_ok-push_str-in-Bag-2 c =
    let text = string_bytes c.args.text.now in
    worded text (ap (pending_words c.args.lab.now) (sym c.in-Bag.is))
    (worded text (ap (λ (name : List ℕ). codes "a segment on the link of " ++ name) c.peering_name.ensures)
    (behind text (codes "a segment on the link of ") c.peering_name.result.now c.in_ok-push_str-in-Bag.ensures.bytes
    c.in_ok-push_str-in-Bag-2.ensures.bytes))

pub returns-in_ok-push_str-in-DueIn-4 : goal.returns-in_ok-push_str-in-DueIn-4
returns-in_ok-push_str-in-DueIn-4 c =
    let text = string_bytes c.args.text.now in
    let from : List ℕ = c.router_name-in-DueIn.result.now in
    let to : List ℕ = c.router_name-in-DueIn-2.result.now in
    let named : List ℕ = router_name c.args.lab.now.input c.in-DueIn.from.0 in
    worded text (ap (pending_words c.args.lab.now) (sym c.in-DueIn.is))
    (worded text (ap (λ (name : List ℕ). codes "a route that " ++ named ++ codes " is to tell " ++ name) c.router_name-in-DueIn-2.ensures)
    (worded text (ap (λ (name : List ℕ). codes "a route that " ++ name ++ codes " is to tell " ++ to) c.router_name-in-DueIn.ensures)
    (behind text (codes "a route that " ++ from ++ codes " is to tell ") to
    (behind text (codes "a route that " ++ from) (codes " is to tell ")
    (behind text (codes "a route that ") from c.in_ok-push_str-in-DueIn.ensures.bytes c.in_ok-push_str-in-DueIn-2.ensures.bytes)
    c.in_ok-push_str-in-DueIn-3.ensures.bytes) c.in_ok-push_str-in-DueIn-4.ensures.bytes)))

pub returns-in_ok-push_str-in-DueOut-2 : goal.returns-in_ok-push_str-in-DueOut-2
returns-in_ok-push_str-in-DueOut-2 c =
    let text = string_bytes c.args.text.now in
    worded text (ap (pending_words c.args.lab.now) (sym c.in-DueOut.is))
    (worded text (ap (λ (name : List ℕ). codes "an UPDATE to " ++ name) c.peering_name-in-DueOut.ensures)
    (behind text (codes "an UPDATE to ") c.peering_name-in-DueOut.result.now c.in_ok-push_str-in-DueOut.ensures.bytes
    c.in_ok-push_str-in-DueOut-2.ensures.bytes))
