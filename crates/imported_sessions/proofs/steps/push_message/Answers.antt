use Rattle.std.proofs.Common.{◌≡◌, ◌-◌, ◌∷◌, [], ◌++◌, true, false, sym, ap, ◌∙◌, subst, rules, arith}
use Rattle.std.proofs.lemmas.Result.{on_ok_weaker}
use Rattle.imported_sessions.specs.Packed.{has_room}
use Rattle.imported_sessions.specs.Steps.{ArePacked}
use Rattle.imported_sessions.proofs.Packing.{begins_step, joined_last, last_of}
use Rattle.imported_sessions.proofs.steps.push_message.Goals as goal

pub returns-then-not-has_room : goal.returns-then-not-has_room
returns-then-not-has_room c = λ all packed short.
    let steps = c.args.steps.now.items in
    let message = c.args.message in
    let told : has_room (last_of steps) message ≡ c.has_room.result =
    sym (c.has_room.ensures ∙ ap (λ xs. has_room (last_of xs) message) c.deref.ensures.value) in
    let full : c.has_room.result ≡ false = search rules in
    subst (ArePacked (all ++ message ∷ [])) (sym c.in_ok-push.ensures.items) (begins_step all steps packed message (told ∙ full) short)

pub returns : goal.returns
returns c = on_ok_weaker c.extend.result
    (λ joined all packed short.
    let steps = c.args.steps.now.items in
    let message = c.args.message in
    let told : has_room (last_of steps) message ≡ c.has_room.result =
    sym (c.has_room.ensures ∙ ap (λ xs. has_room (last_of xs) message) c.deref.ensures.value) in
    let room : c.has_room.result ≡ true = search rules in
    joined_last steps message (told ∙ room) (c.len-last.result - 1) (omega (arith, c.args.steps.now.ok.0)) c.index_mut.result.now c.index_mut.ensures.value
    c.extend.new.self (joined ∙ ap (λ xs. c.index_mut.result.now.octets ++ xs) c.deref-2.ensures) all packed)
    c.extend.ensures.ok
