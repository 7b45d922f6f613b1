-- Worlds to which wrong rules would lead are none of the claimed ones.
use Rattle.std.proofs.Common.{◌≡◌, ℕ, ◌+◌, Bool, true, false, List, [], ◌∷◌, ◌++◌, length, is_some, refl, sym, ap, ◌∙◌, lit<, arith, length-append}
use Rattle.std.specs.FinMap as map
use Rattle.bgp_types.specs.Spelling.{spell}
use Rattle.bgp_story.specs.Readings.{put_bytes}
use Rattle.bgp_story.specs.WorkedSessions.{ten, sent_lines}
use Rattle.route_policy.specs.Telling.{tell_in}
use Rattle.tcp_seq.specs.Endpoint.{received_bytes}
use Rattle.session_value.specs.Sessions.{SessionValue, peering_of}
use Rattle.graft_model.specs.Claims.{Transparent, Solves}
use Rattle.graft_model.specs.SmallWorlds.{config}
use Rattle.graft_worked.specs.Base.{base}
use Rattle.graft_worked.specs.First.{session_first}
use Rattle.graft_worked.specs.Graft.{route, over_router, a_after, b_put, remote_end}
use Rattle.graft_worked.specs.Wrong.{with_session_kept, with_session_begun_again, with_telling_on_its_way}
use Rattle.graft_worked.proofs.Tens.{got_it}
use Rattle.graft_worked.proofs.GraftEnds.{remote_received}

pub kept_twice : Transparent base with_session_kept 0 → ⊥
kept_twice t = let two : ◌≡◌ {A = ℕ} 2 1 = ap (λ (sessions : List SessionValue). length sessions) t.one in cc

open_alone : length (put_bytes (peering_of config) (sent_lines 0)) ≡ 29
unfolding spell
open_alone = refl

pub only_one : (s t : SessionValue) → ◌≡◌ {A = List SessionValue} (s ∷ []) (t ∷ []) → s ≡ t
only_one s t e = cc

-- the remote received 48 bytes, and this session has put 29
pub begun_again : Transparent base with_session_begun_again 0 → ⊥
begun_again t =
    let puts : put_bytes (peering_of config) (sent_lines 0) ≡ received_bytes remote_end ++ t.received.rest =
    ap (λ (s : SessionValue). put_bytes (peering_of s.config) s.story) (only_one session_first t.session t.one) ∙ t.received.is in
    let received : length (received_bytes remote_end) ≡ 48 = ap length remote_received in
    let all : 29 ≡ length (received_bytes remote_end ++ t.received.rest) = sym open_alone ∙ ap length puts in
    let both : length (received_bytes remote_end ++ t.received.rest) ≡ length (received_bytes remote_end) + length t.received.rest =
    length-append (received_bytes remote_end) t.received.rest in
    absurd (omega (arith, received, all, both))

pub told_later : Solves base with_telling_on_its_way → ⊥
told_later s =
    let told : map.get (b_put.tellings 0) ten ≡ tell_in (map.get a_after.best ten) = s.tellings 0 1 ten (lit< tt) (lit< tt) (λ e. cc) in
    let apart : ◌≡◌ {A = Bool} true false = ap is_some (sym (got_it route) ∙ (told ∙ ap tell_in (got_it (over_router 1)))) in cc
