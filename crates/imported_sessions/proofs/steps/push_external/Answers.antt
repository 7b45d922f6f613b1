use Rattle.std.proofs.Common.{◌≡◌, ◌≤◌, ℕ, List, Option, length, map, true, false, sym, ap, ◌∙◌, subst, rules}
use Rattle.std.specs.Prelude.{IfSome, option_to_list}
use Rattle.std.proofs.lemmas.Result.{on_ok_weaker}
use Rattle.imported_sessions.specs.declared.imported.Said.{Said}
use Rattle.imported_sessions.specs.Heard.{said_by}
use Rattle.imported_sessions.specs.Packed.{AreMoreStepsOf}
use Rattle.imported_sessions.proofs.Packing.{none_more, one_kept, one_left}
use Rattle.imported_sessions.proofs.steps.push_external.Goals as goal

pub returns-in_default : goal.returns-in_default
returns-in_default c =
    let peer = c.args.peer in
    none_more c.args.opened.now c.args.home_as (map (said_by peer) (option_to_list c.args.message)) c.args.steps.now.items
    (ap (λ (m : Option (List ℕ)). map (said_by peer) (option_to_list m)) c.in_default.is)

pub returns-then-not-is_external : goal.returns-then-not-is_external
returns-then-not-is_external c =
    let peer = c.args.peer in
    let steps = c.args.steps.now.items in
    let message : Said = record { peer = peer; octets = c.in-Some.octets } in
    let outside : c.is_external.result ≡ false = search rules in
    subst (λ (m : Option (List ℕ)). AreMoreStepsOf c.args.opened.now c.args.home_as (map (said_by peer) (option_to_list m)) steps steps) (sym c.in-Some.is)
    (one_left c.args.opened.now c.args.home_as message steps (sym c.is_external.ensures ∙ outside))

pub returns : goal.returns
returns c =
    let peer = c.args.peer in
    let old = c.args.steps.now.items in
    let new = c.push_message.new.steps.items in
    let message : Said = record { peer = peer; octets = c.in-Some.octets } in
    let inside : c.is_external.result ≡ true = search rules in
    let short = subst (λ (m : Option (List ℕ)). IfSome m (λ octets. length octets ≤ 4096)) c.in-Some.is c.requires in
    on_ok_weaker c.push_message.result
    (λ pushed. subst (λ (m : Option (List ℕ)). AreMoreStepsOf c.args.opened.now c.args.home_as (map (said_by peer) (option_to_list m)) old new)
    (sym c.in-Some.is) (one_kept c.args.opened.now c.args.home_as message old new (sym c.is_external.ensures ∙ inside) short pushed))
    c.push_message.ensures
