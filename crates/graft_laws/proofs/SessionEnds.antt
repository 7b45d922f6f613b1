-- What happens to a session leaves its endpoint linked with the remote's.
use Rattle.std.proofs.Common.{◌≡◌, ℕ, ◌+◌, ◌≤◌, ◌^◌, List, ◌∷◌, ◌++◌, length, refl, sym, ap, subst, arith}
use Rattle.bgp_types.specs.declared.message.Message.TheVariants.{UpdateMsg}
use Rattle.bgp_types.specs.declared.message.Update.{Update}
use Rattle.bgp_types.specs.Spelling.{spell}
use Rattle.bgp_story.specs.declared.line.Line.TheVariants.{Got, Tick}
use Rattle.bgp_story.specs.Legal.{is_wide}
use Rattle.tcp_seq.specs.Endpoint.{Endpoint, received_bytes}
use Rattle.tcp_seq.specs.Connection.{AreLinked, StaysLinked}
use Rattle.tcp_seq.proofs.Flows.{sends_linked, reads_linked}
use Rattle.session_value.specs.Cases.{GetsFrame, PutsUpdate, PassesRound, put_by, sending, having_read}
use Rattle.session_value.specs.Sessions.{SessionValue, peering_of}
use Rattle.session_value.specs.Ties.{IsTied}
use Rattle.session_value.proofs.Ends.{read_within}
use Rattle.session_value.proofs.Rooms.{got_has_room, passed_has_room, most_any}

stays_then : (x y z other : Endpoint) → StaysLinked x y other → StaysLinked y z other → StaysLinked x z other
stays_then x y z other a b = record { linked = b.linked; still = λ segment is. b.still segment (a.still segment is) }

end_is : (x z other : Endpoint) (s : SessionValue) → s.end ≡ z → StaysLinked x z other → StaysLinked x s.end other
end_is x z other s is stays = subst (λ (e : Endpoint). StaysLinked x e other) (sym is) stays

sends : (x other : Endpoint) (bytes : List ℕ) → AreLinked x other → length x.stream + length bytes ≤ 2 ^ 20 → StaysLinked x (sending bytes x) other
sends x other bytes linked fits = sends_linked x (sending bytes x) other bytes linked (record { fits = fits; sent = refl })

pub puts_stays : (before after : SessionValue) (update : Update) (other : Endpoint) → AreLinked before.end other → PutsUpdate before update after
    → StaysLinked before.end after.end other
puts_stays before after update other linked g =
    let octets : List ℕ = spell (UpdateMsg update) (is_wide (peering_of before.config) before.story) in
    end_is before.end (sending octets before.end) other after (ap (λ (s : SessionValue). s.end) g.effect)
    (sends before.end other octets linked (omega (arith, g.room)))

pub passes_stays : (before after : SessionValue) (round : ℕ) (other : Endpoint) → AreLinked before.end other → PassesRound before round after
    → StaysLinked before.end after.end other
passes_stays before after round other linked g =
    let octets : List ℕ = put_by before (before.story ++ Tick round ∷ g.answer) g.answer in
    end_is before.end (sending octets before.end) other after (ap (λ (s : SessionValue). s.end) g.effect)
    (sends before.end other octets linked (omega (arith, passed_has_room before round g.answer g.next g.up g.room g.reply, most_any g.next)))

pub gets_stays : (before after : SessionValue) (bytes : List ℕ) (other : Endpoint) → IsTied before → AreLinked before.end other
    → GetsFrame before bytes after → StaysLinked before.end after.end other
gets_stays before after bytes other tied linked g =
    let octets : List ℕ = put_by before (before.story ++ Got bytes ∷ g.answer) g.answer in
    let mid : Endpoint = having_read (length bytes) before.end in
    let reads : StaysLinked before.end mid other = reads_linked before.end mid other (length bytes) linked
    (record { there = read_within before.end.read (received_bytes before.end) bytes g.rest tied.read g.front; read = refl }) in
    end_is before.end (sending octets mid) other after (ap (λ (s : SessionValue). s.end) g.effect)
    (stays_then before.end mid (sending octets mid) other reads
    (sends mid other octets reads.linked (omega (arith, got_has_room before bytes g.answer g.next tied g.unclosed g.reply, most_any g.next))))
