use Rattle.std.proofs.Common.{◌≡◌, ◌+◌, ◌++◌, ◌∷◌, [], List, map, sym, ap, ◌∙◌, arith}
use Rattle.std.specs.List.{range_with_len}
use Rattle.std.proofs.lemmas.List.FromFn.{map-range_with_len_more}
use Rattle.imported_sessions.specs.declared.heard.Session.{Session}
use Rattle.imported_sessions.specs.declared.heard.Stage.TheVariants.{Nothing}
use Rattle.imported_sessions.specs.Heard.{session_at}
use Rattle.imported_sessions.proofs.Hearing.{none_read}
use Rattle.imported_sessions.proofs.heard.none_heard.Goals as goal

pub loop-peer-preserved : goal.loop-peer-preserved
loop-peer-preserved c =
    let k = c.loop-peer.peer in
    let index : 0 + k ≡ k = omega arith in
    let new : Session = record {
      peer = k;
      opening = record { stage = Nothing; octets = c.new.result };
      rest = c.new-in-loop-peer.result;
      home = c.new-in-loop-peer-2.result;
    } in
    let none = none_read k c.new.result c.new-in-loop-peer.result c.new-in-loop-peer-2.result c.new.ensures c.new-in-loop-peer.ensures
    c.new-in-loop-peer-2.ensures in
    c.in_ok-push.ensures.items ∙ ap (λ (sessions : List Session). sessions ++ new ∷ []) c.loop-peer.invariant
    ∙ ap (λ session. map (session_at []) (range_with_len 0 k) ++ session ∷ []) none
    ∙ sym (map-range_with_len_more (session_at []) 0 k k index)
