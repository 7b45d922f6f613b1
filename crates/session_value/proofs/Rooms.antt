-- How long the messages are that a session puts of itself, and that they have room.
use Rattle.std.proofs.Common.{◌≡◌, ℕ, ◌+◌, ◌≤◌, List, [], ◌∷◌, ◌++◌, length, Bool, true, false, Some, Result, Ok, Err, refl, sym, ap, ◌∙◌, subst, arith}
use Rattle.std.specs.Prelude.{◌≢◌}
use Rattle.std.specs.List.{flat_map}
use Rattle.std.proofs.lemmas.List.{append-nil}
use Rattle.bgp_types.specs.declared.fault.Expected.{Expected}
use Rattle.bgp_types.specs.declared.message.Message.{Message}
use Rattle.bgp_types.specs.declared.message.Message.TheVariants.{OpenMsg, UpdateMsg, NoticeMsg, KeepaliveMsg}
use Rattle.bgp_types.specs.declared.message.Notice.{Notice}
use Rattle.bgp_types.specs.declared.message.OpenMsg as open_type
use Rattle.bgp_types.specs.declared.message.SessionState.{SessionState}
use Rattle.bgp_types.specs.declared.message.SessionState.TheVariants.{OpenSent, OpenConfirm, Established, Closed}
use Rattle.bgp_types.specs.Faults.{fault_in}
use Rattle.bgp_types.specs.FirstFault.{first_fault, message_of}
use Rattle.bgp_types.specs.Spelling.{spell, spell_open}
use Rattle.bgp_types.proofs.Lengths.{framed_size}
use Rattle.bgp_types.proofs.NoticeLaws.{fault_writable}
use Rattle.bgp_story.specs.declared.line.Line.{Line}
use Rattle.bgp_story.specs.declared.line.Line.TheVariants.{Put, Got, Tick}
use Rattle.bgp_story.specs.Legal.{expected_next, hold_expired, is_up, is_wide, reply_to, reply_at, silence}
use Rattle.bgp_story.specs.Opens.{IsHomeOpen, home_open}
use Rattle.bgp_story.specs.Readings.{put_bytes, put_in}
use Rattle.bgp_story.proofs.HeaderKinds.{read_of}
use Rattle.bgp_story.proofs.Ranges.{peering_of as its_peering}
use Rattle.session_value.specs.Cases.{put_by}
use Rattle.session_value.specs.Sessions.{SessionValue, peering_of, state, hold_time}
use Rattle.session_value.specs.Ties.{IsTied, most_put}
use Rattle.session_value.proofs.Replies.{only_open, up_open}
use Rattle.session_value.proofs.Openings.{only_opened}
use Rattle.session_value.proofs.Rounds.{Answers, ends, says_keepalive, stays, answers_are}

-- ---- lengths

pub keepalive_size : (wide : Bool) → length (spell KeepaliveMsg wide) ≡ 19
unfolding spell
keepalive_size wide = refl

pub expired_size : (wide : Bool) → length (spell (NoticeMsg hold_expired) wide) ≡ 21
unfolding spell
expired_size wide = refl

spell_open_size : (home_as hold identifier : ℕ) (offered unicast : Bool) → length (spell_open (home_open home_as hold identifier offered unicast)) ≤ 26
spell_open_size home_as hold identifier true true = let n : length (spell_open (home_open home_as hold identifier true true)) ≡ 26 = refl in omega arith
spell_open_size home_as hold identifier true false = let n : length (spell_open (home_open home_as hold identifier true false)) ≡ 18 = refl in omega arith
spell_open_size home_as hold identifier false true = let n : length (spell_open (home_open home_as hold identifier false true)) ≡ 18 = refl in omega arith
spell_open_size home_as hold identifier false false = let n : length (spell_open (home_open home_as hold identifier false false)) ≡ 10 = refl in omega arith

pub open_size : (first : open_type.OpenMsg) (wide : Bool) → IsHomeOpen first → length (spell (OpenMsg first) wide) ≤ 45
unfolding spell
open_size first wide is =
    let size : length (spell_open first) ≤ 26 = subst (λ (o : open_type.OpenMsg). length (spell_open o) ≤ 26)
    (sym is.is) (spell_open_size is.home_as first.hold first.identifier is.offered is.unicast) in
    let all = framed_size 1 (spell_open first) in
    omega arith

pub fault_size : (bytes : List ℕ) (expected : Expected) (notice : Notice) (wide : Bool) → first_fault bytes expected ≡ Some notice
    → length (spell (NoticeMsg notice) wide) ≤ 4096
fault_size bytes expected notice wide e = (fault_writable bytes expected notice wide e).size

-- ---- room

pub most_unclosed : (state : SessionState) → state ≢ Closed → most_put state ≡ 1044480
most_unclosed OpenSent o = refl
most_unclosed OpenConfirm o = refl
most_unclosed Established o = refl
most_unclosed Closed o = absurd (o refl)

pub most_any : (state : SessionState) → most_put state ≤ 1048576
most_any OpenSent = omega arith
most_any OpenConfirm = omega arith
most_any Established = omega arith
most_any Closed = omega arith

-- the octets of one message that is put
put_one : (wide : Bool) (m : Message) → length (flat_map (put_in wide) (Put m ∷ [])) ≡ length (spell m wide)
put_one wide m = ap (λ (xs : List ℕ). length xs) (append-nil (spell m wide))

-- of a session in OpenSent the stream is its OPEN
opened_short : (session : SessionValue) → IsTied session → state session ≡ OpenSent → length session.end.stream ≤ 45
opened_short session tied s =
    let p = peering_of session.config in
    let lines : session.story ≡ Put (OpenMsg p.first) ∷ [] = only_opened p session.story (state session) tied.allowed s in
    let put : length session.end.stream ≡ length (put_bytes p (Put (OpenMsg p.first) ∷ [])) =
    ap (λ (xs : List ℕ). length xs) (tied.put ∙ ap (put_bytes p) lines) in
    let one = put_one false (OpenMsg p.first) in
    let size = open_size p.first false (its_peering p session.story (state session) tied.allowed).home in
    omega (arith, put, one, size)

got_room : (stream : ℕ) (wide : Bool) (e : Expected) (bytes : List ℕ) (m : Result Message Notice) → message_of e bytes ≡ m
    → stream ≤ 1044480 → (e.state ≡ OpenSent → stream ≤ 45) → stream + length (flat_map (put_in wide) (reply_to m).0) ≤ most_put (reply_to m).1
got_room stream wide e bytes (Ok (OpenMsg o)) g fits opening =
    let s = opening (only_open e.state (read_of e bytes (OpenMsg o) g).in_state) in
    let one = put_one wide KeepaliveMsg in
    let size = keepalive_size wide in
    omega (arith, s, one, size)
got_room stream wide e bytes (Ok (UpdateMsg u)) g fits opening = omega (arith, fits)
got_room stream wide e bytes (Ok (NoticeMsg n)) g fits opening = omega (arith, fits)
got_room stream wide e bytes (Ok KeepaliveMsg) g fits opening = omega (arith, fits)
got_room stream wide e bytes (Err n) g fits opening =
    let one = put_one wide (NoticeMsg n) in
    let size = fault_size bytes e n wide (ap fault_in g) in
    omega (arith, fits, one, size)

pub got_has_room : (session : SessionValue) (bytes : List ℕ) (answer : List Line) (next : SessionState)
    → IsTied session → state session ≢ Closed
    → reply_to (message_of (expected_next (peering_of session.config) session.story (state session)) bytes) ≡ (answer, next)
    → length session.end.stream + length (put_by session (session.story ++ Got bytes ∷ answer) answer) ≤ most_put next
got_has_room session bytes answer next tied o r =
    let p = peering_of session.config in
    let e : Expected = expected_next p session.story (state session) in
    let wide : Bool = is_wide p (session.story ++ Got bytes ∷ answer) in
    subst (λ (x : List Line × SessionState). length session.end.stream + length (flat_map (put_in wide) x.0) ≤ most_put x.1) r
    (got_room (length session.end.stream) wide e bytes (message_of e bytes) refl
    (omega (arith, tied.room, most_unclosed (state session) o)) (opened_short session tied))

round_room : (stream : ℕ) (wide : Bool) (state next : SessionState) (answer : List Line) → Answers state answer next → is_up state ≡ true → stream ≤ 1044461
    → stream + length (flat_map (put_in wide) answer) ≤ most_put next
round_room stream wide state _ _ ends up fits =
    let one = put_one wide (NoticeMsg hold_expired) in
    let size = expired_size wide in
    omega (arith, fits, one, size)
round_room stream wide state _ _ says_keepalive up fits =
    let one = put_one wide KeepaliveMsg in
    let size = keepalive_size wide in
    omega (arith, fits, one, size, most_unclosed state (up_open state up))
round_room stream wide state _ _ stays up fits = omega (arith, fits, most_unclosed state (up_open state up))

pub passed_has_room : (session : SessionValue) (round : ℕ) (answer : List Line) (next : SessionState)
    → is_up (state session) ≡ true → length session.end.stream ≤ 1044461
    → reply_at (hold_time session) (silence session.story + 1) round (state session) ≡ (answer, next)
    → length session.end.stream + length (put_by session (session.story ++ Tick round ∷ answer) answer) ≤ most_put next
passed_has_room session round answer next up fits r =
    round_room (length session.end.stream) (is_wide (peering_of session.config) (session.story ++ Tick round ∷ answer)) (state session) next answer
    (answers_are (hold_time session) (silence session.story + 1) round (state session) answer next r) up fits
