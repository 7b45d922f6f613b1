-- The story of a capsule in octets.
use Rattle.std.proofs.Common.{◌≡◌, ℕ, ◌+◌, Bool, List, [], ◌∷◌, ◌++◌, Result, Ok, Err, refl, sym, ap, ◌∙◌, subst, arith}
use Rattle.std.specs.Prelude.{◌≢◌, All, map}
use Rattle.std.specs.List.{AllByRecursion, flat_map}
use Rattle.std.proofs.lemmas.List.Elements.{All-from_recursion}
use Rattle.bgp_types.specs.declared.fault.Expected.{Expected}
use Rattle.bgp_types.specs.declared.message.Message.{Message}
use Rattle.bgp_types.specs.declared.message.Message.TheVariants.{OpenMsg, UpdateMsg, NoticeMsg, KeepaliveMsg}
use Rattle.bgp_types.specs.declared.message.Notice.{Notice}
use Rattle.bgp_types.specs.declared.message.SessionState.{SessionState}
use Rattle.bgp_types.specs.declared.message.SessionState.TheVariants.{OpenSent, OpenConfirm, Established, Closed}
use Rattle.bgp_types.specs.Faults.{fault_in}
use Rattle.bgp_types.specs.FirstFault.{message_of}
use Rattle.bgp_types.specs.Writable.{IsWritable}
use Rattle.bgp_types.proofs.NoticeLaws.{fault_writable}
use Rattle.bgp_story.specs.declared.line.Line.{Line}
use Rattle.bgp_story.specs.declared.line.Line.TheVariants.{Put, Got, Tick}
use Rattle.bgp_story.specs.Legal.{Peering, Allowed, opened, got, updated, passed, IsPeering}
use Rattle.bgp_story.specs.Legal.{both_offer, expected_next, hold, hold_expired, is_wide, reply_to, silence}
use Rattle.bgp_story.specs.Readings.{got_in, put_in, got_bytes, put_bytes}
use Rattle.bgp_story.proofs.Grows.{open_stays}
use Rattle.bgp_story.proofs.Ranges.{peering_of as its_peering}
use Rattle.bgp_story.proofs.Splits.{all_append}
use Rattle.session_value.specs.declared.config.SessionConfig.{SessionConfig}
use Rattle.session_value.specs.Sessions.{SessionValue, peering_of, state}
use Rattle.session_value.specs.Ties.{IsTied}
use Rattle.session_value.proofs.Openings.{only_opened}
use Rattle.session_value.proofs.Replies.{up_open}
use Rattle.session_value.proofs.Rooms.{keepalive_size, expired_size}
use Rattle.session_value.proofs.Rounds.{Answers, ends, says_keepalive, stays, answers_are}
use Rattle.bgp_session.proofs.Begun.{first_short, first_writable}
use Rattle.capsule_parts.specs.Parts.{part_line, part_lines}
use Rattle.capsule_parts.specs.Sound.{PutsWritable, put_in_part, got_in_part, put_octets, got_octets}

-- ---- the octets each way are those of the story

put_said : (wide : Bool) (line : Line) → put_in_part (part_line wide line) ≡ put_in wide line
put_said wide (Put m) = refl
put_said wide (Got bytes) = refl
put_said wide (Tick round) = refl

got_said : (wide : Bool) (line : Line) → got_in_part (part_line wide line) ≡ got_in line
got_said wide (Put m) = refl
got_said wide (Got bytes) = refl
got_said wide (Tick round) = refl

puts_said : (wide : Bool) (story : List Line) → put_octets (map (part_line wide) story) ≡ flat_map (put_in wide) story
puts_said wide [] = refl
puts_said wide (line ∷ story) =
    ap (λ (xs : List ℕ). xs ++ put_octets (map (part_line wide) story)) (put_said wide line)
    ∙ ap (λ (xs : List ℕ). put_in wide line ++ xs) (puts_said wide story)

gots_said : (wide : Bool) (story : List Line) → got_octets (map (part_line wide) story) ≡ got_bytes story
gots_said wide [] = refl
gots_said wide (line ∷ story) =
    ap (λ (xs : List ℕ). xs ++ got_octets (map (part_line wide) story)) (got_said wide line)
    ∙ ap (λ (xs : List ℕ). got_in line ++ xs) (gots_said wide story)

pub put_octets_are : (p : Peering) (story : List Line) → put_octets (part_lines p story) ≡ put_bytes p story
put_octets_are p story = puts_said (is_wide p story) story

pub got_octets_are : (p : Peering) (story : List Line) → got_octets (part_lines p story) ≡ got_bytes story
got_octets_are p story = gots_said (is_wide p story) story

-- ---- what a session puts can be written

abbrev AllWritable : Bool → List Line → Type 0
AllWritable wide = AllByRecursion (PutsWritable wide)

keepalive_any : (wide : Bool) → IsWritable KeepaliveMsg wide
keepalive_any wide = record { body = tt; size = let n = keepalive_size wide in omega (arith, n) }

expired_any : (wide : Bool) → IsWritable (NoticeMsg hold_expired) wide
expired_any wide = record { body = tt; size = let n = expired_size wide in omega (arith, n) }

reply_any : (e : Expected) (bytes : List ℕ) (r : Result Message Notice) (wide : Bool) → message_of e bytes ≡ r → AllWritable wide (reply_to r).0
reply_any e bytes (Ok (OpenMsg _)) wide g = (keepalive_any wide, tt)
reply_any e bytes (Ok (UpdateMsg _)) wide g = tt
reply_any e bytes (Ok (NoticeMsg _)) wide g = tt
reply_any e bytes (Ok KeepaliveMsg) wide g = tt
reply_any e bytes (Err n) wide g = (fault_writable bytes e n wide (ap fault_in g), tt)

round_any : (state : SessionState) (answer : List Line) (next : SessionState) (wide : Bool) → Answers state answer next → AllWritable wide answer
round_any state _ _ wide ends = (expired_any wide, tt)
round_any state _ _ wide says_keepalive = (keepalive_any wide, tt)
round_any state _ _ wide stays = tt

module _ (config : SessionConfig) (valid : IsPeering (peering_of config)) where
  abbrev p : Peering
  p = peering_of config

  open_any : (wide : Bool) → IsWritable (OpenMsg p.first) wide
  open_any wide = record { body = (first_writable config valid).body; size = let short = first_short config wide valid in omega (arith, short) }

  -- in the width that the story has with more lines
  wider : (lines more : List Line) (state : SessionState) → Allowed p lines state → state ≢ Closed → AllWritable (is_wide p lines) lines
      → AllWritable (is_wide p (lines ++ more)) lines
  wider lines more OpenSent l o a =
      subst (AllWritable (is_wide p (lines ++ more))) (sym (only_opened p lines OpenSent l refl)) (open_any (is_wide p (lines ++ more)), tt)
  wider lines more OpenConfirm l o a =
      subst (λ (w : Bool). AllWritable w lines) (sym (ap (both_offer p.first) (open_stays p lines more OpenConfirm l refl))) a
  wider lines more Established l o a =
      subst (λ (w : Bool). AllWritable w lines) (sym (ap (both_offer p.first) (open_stays p lines more Established l refl))) a
  wider lines more Closed l o a = absurd (o refl)

  all_writable : (lines : List Line) (state : SessionState) → Allowed p lines state → AllWritable (is_wide p lines) lines
  all_writable _ _ (opened lines h e) = rw e (open_any (is_wide p (Put (OpenMsg p.first) ∷ [])), tt)
  all_writable _ _ (got before state bytes answer next lines l o w r e) =
      let wide : Bool = is_wide p (before ++ Got bytes ∷ answer) in
      let first : AllWritable wide before = wider before (Got bytes ∷ answer) state l o (all_writable before state l) in
      let last : AllWritable wide answer = subst (λ (x : List Line × SessionState). AllWritable wide x.0) r
      (reply_any (expected_next p before state) bytes (message_of (expected_next p before state) bytes) wide refl) in
      rw e (all_append (PutsWritable wide) before (Got bytes ∷ answer) first (tt, last))
  all_writable _ _ (updated before u lines l w c e) =
      let wide : Bool = is_wide p (before ++ Put (UpdateMsg u) ∷ []) in
      let same : wide ≡ is_wide p before = ap (both_offer p.first) (open_stays p before (Put (UpdateMsg u) ∷ []) Established l refl) in
      let first : AllWritable wide before = wider before (Put (UpdateMsg u) ∷ []) Established l (λ x. cc) (all_writable before Established l) in
      rw e (all_append (PutsWritable wide) before (Put (UpdateMsg u) ∷ []) first
      (subst (λ (x : Bool). IsWritable (UpdateMsg u) x) (sym same) w.writable, tt))
  all_writable _ _ (passed before state round answer next lines l up h a r e) =
      let wide : Bool = is_wide p (before ++ Tick round ∷ answer) in
      let first : AllWritable wide before = wider before (Tick round ∷ answer) state l (up_open state up) (all_writable before state l) in
      let last : AllWritable wide answer = round_any state answer next wide
      (answers_are (hold p before) (silence before + 1) round state answer next r) in
      rw e (all_append (PutsWritable wide) before (Tick round ∷ answer) first (tt, last))

  pub writable : (lines : List Line) (state : SessionState) → Allowed p lines state → All (PutsWritable (is_wide p lines)) lines
  writable lines state l = All-from_recursion (PutsWritable (is_wide p lines)) lines (all_writable lines state l)

-- so can the story of a session
pub story_writable : (session : SessionValue) → IsTied session → All (PutsWritable (is_wide (peering_of session.config) session.story)) session.story
story_writable session tied =
    writable session.config (its_peering (peering_of session.config) session.story (state session) tied.allowed) session.story (state session) tied.allowed

pub shown_writable : (session : SessionValue) (wide : Bool) (lines : List Line) → IsTied session → wide ≡ is_wide (peering_of session.config) session.story
    → lines ≡ session.story → All (PutsWritable wide) lines
shown_writable session wide lines tied wides are =
    subst (λ (w : Bool). All (PutsWritable w) lines) (sym wides)
    (subst (All (PutsWritable (is_wide (peering_of session.config) session.story))) (sym are) (story_writable session tied))
