-- A session tells its story again, a line after another.
use Rattle.std.proofs.Common.{◌≡◌, ◌≢◌, ℕ, ◌+◌, ◌<◌, ◌≤◌, Bool, true, false, List, [], ◌∷◌, ◌++◌, length, drop, Option, Some, None}
use Rattle.std.proofs.Common.{refl, sym, ap, ◌∙◌, subst, append-nil, append_assoc, length-append, arith, inl, inr}
use Rattle.std.specs.Prelude.{All, map, IfOk, IsTrue, OnOk, Result, Ok, Err, is_some, slice_index_or, ◌⊎◌}
use Rattle.std.specs.List.{AllByRecursion, flat_map}
use Rattle.std.proofs.lemmas.List.{drop-drop}
use Rattle.std.proofs.lemmas.Grind.{flat_map-append}
use Rattle.std.proofs.Math.Seq.{drop-append_seam}
use Rattle.graft_edge.specs.declared.memory.NoMemory.{NoMemory}
use Rattle.bgp_types.specs.declared.message.Message.{Message}
use Rattle.bgp_types.specs.declared.message.Message.TheVariants.{OpenMsg, UpdateMsg, NoticeMsg, KeepaliveMsg}
use Rattle.bgp_types.specs.declared.message.SessionState.{SessionState}
use Rattle.bgp_types.specs.declared.message.SessionState.TheVariants.{OpenSent, OpenConfirm, Established, Closed}
use Rattle.bgp_types.specs.declared.message.Update.{Update}
use Rattle.bgp_types.specs.FirstFault.{message_of}
use Rattle.bgp_types.specs.Header.{kind_in}
use Rattle.bgp_types.specs.Spelling.{kind_of, spell}
use Rattle.tcp_seq.specs.Endpoint.{received_bytes}
use Rattle.bgp_story.specs.declared.line.Line.{Line}
use Rattle.bgp_story.specs.declared.line.Line.TheVariants.{Put, Got, Tick}
use Rattle.bgp_story.specs.Legal.{Peering, Allowed, opened, got, updated, passed, IsEarlier, IsGot, IsOneWay}
use Rattle.bgp_story.specs.Legal.{both_offer, expected_next, hold, is_up, is_wide, reply_at, reply_to, silence}
use Rattle.bgp_story.specs.Readings.{Routes, ChangesTold, IsLegal, got_bytes, put_bytes, put_in, told, unless_closed}
use Rattle.bgp_story.specs.States.{state_of}
use Rattle.bgp_story.proofs.Grows.{got_grows, open_stays, put_grows}
use Rattle.bgp_story.proofs.Shapes.{IsAnswer, all_weaken, allowed_of, got_answers, passed_answers}
use Rattle.bgp_story.proofs.StoryLaws.{state_is}
use Rattle.story_readings.proofs.Fronts.{Cuts, same, first_ends, second_ends, cuts_of}
use Rattle.session_value.specs.declared.config.SessionConfig.{SessionConfig}
use Rattle.session_value.specs.Cases.{Changes, GetsFrame, PutsUpdate, put_by, sending}
use Rattle.session_value.specs.Fronts.{BeginsNothing}
use Rattle.session_value.specs.Sessions.{SessionValue, peering_of, state, unread}
use Rattle.session_value.specs.Ties.{IsOfStory, most_put}
use Rattle.session_value.proofs.GotTies.{gets_of_story}
use Rattle.session_value.proofs.PutTies.{puts_of_story}
use Rattle.bgp_session.specs.Running.{RunningSession}
use Rattle.bgp_session.specs.declared.answers.ReadStep.{ReadStep}
use Rattle.bgp_session.specs.Steps.{PassesAgain, PassesIfItMay, ReadsFrameIfAny}
use Rattle.bgp_session.proofs.Again.{again_of_story}
use Rattle.capsule_bytes.specs.declared.parts.PartLine.{PartLine}
use Rattle.capsule_bytes.specs.declared.parts.PartLine.TheVariants as parts
use Rattle.capsule_parts.specs.Parts.{part_line}
use Rattle.capsule_parts.specs.Offered.{SpellPut}
use Rattle.capsule_parts.proofs.Items.{item_left}
use Rattle.capsule_parts.specs.Retold.{GoesOn, ends, gets, puts, passes, HasBegun, IsOwn, IsStoryOf, IsToldSoFar, PutsOwn, StaysTold}

-- ---- a legal story goes on from its OPEN

record FromFirst (p : Peering) (lines more : List Line) : Type 0 where
  rest : List Line
  is : lines ≡ Put (OpenMsg p.first) ∷ rest
  goes : GoesOn p (Put (OpenMsg p.first) ∷ []) (rest ++ more)

abbrev first_line : Peering → List Line
first_line p = Put (OpenMsg p.first) ∷ []

from_block : (p : Peering) (before block lines more : List Line) → lines ≡ before ++ block → FromFirst p before (block ++ more) → FromFirst p lines more
from_block p before block lines more e b = record {
  rest = b.rest ++ block;
  is = e ∙ ap (λ (xs : List Line). xs ++ block) b.is;
  goes = subst (GoesOn p (first_line p)) (sym (append_assoc b.rest block more)) b.goes;
}

from_first : (p : Peering) (lines : List Line) (s : SessionState) → IsLegal p lines s → (more : List Line) → GoesOn p lines more → FromFirst p lines more
from_first p _ _ (opened lines h e) more g = record { rest = []; is = e; goes = subst (λ (xs : List Line). GoesOn p xs more) e g }
from_first p _ _ (got before s bytes answer next lines l o w r e) more g =
    let at : s ≡ state_of before = sym (state_is p before s (allowed_of p before s l)) in
    from_block p before (Got bytes ∷ answer) lines more e (from_first p before s l (Got bytes ∷ (answer ++ more))
    (gets before bytes answer next more (Got bytes ∷ (answer ++ more)) (subst (λ (x : SessionState). x ≢ Closed) at o) w
    (subst (λ (x : SessionState). reply_to (message_of (expected_next p before x) bytes) ≡ (answer, next)) at r)
    (subst (λ (xs : List Line). GoesOn p xs more) e g) refl))
from_first p _ _ (updated before u lines l w c e) more g =
    from_block p before (Put (UpdateMsg u) ∷ []) lines more e (from_first p before Established l (Put (UpdateMsg u) ∷ more)
    (puts before u more (Put (UpdateMsg u) ∷ more) (state_is p before Established (allowed_of p before Established l)) w c
    (subst (λ (xs : List Line). GoesOn p xs more) e g) refl))
from_first p _ _ (passed before s round answer next lines l up h a r e) more g =
    let at : s ≡ state_of before = sym (state_is p before s (allowed_of p before s l)) in
    from_block p before (Tick round ∷ answer) lines more e (from_first p before s l (Tick round ∷ (answer ++ more))
    (passes before round answer next more (Tick round ∷ (answer ++ more)) (subst (λ (x : SessionState). is_up x ≡ true) at up) h a
    (subst (λ (x : SessionState). reply_at (hold p before) (silence before + 1) round x ≡ (answer, next)) at r)
    (subst (λ (xs : List Line). GoesOn p xs more) e g) refl))

-- ---- answers

answer_own : (line : Line) → IsAnswer line → PutsOwn line
answer_own (Put (OpenMsg _)) a = absurd a
answer_own (Put (UpdateMsg _)) a = a
answer_own (Put (NoticeMsg _)) a = tt
answer_own (Put KeepaliveMsg) a = tt
answer_own (Got _) a = a
answer_own (Tick _) a = a

own_gets : (own : List Line) → AllByRecursion PutsOwn own → got_bytes own ≡ []
own_gets [] a = refl
own_gets (Put m ∷ own) a = own_gets own a.1
own_gets (Got _ ∷ own) a = absurd a.0
own_gets (Tick _ ∷ own) a = absurd a.0

gets_after : (own more : List Line) → AllByRecursion PutsOwn own → got_bytes (own ++ more) ≡ got_bytes more
gets_after own more a = got_grows own more ∙ ap (λ (xs : List ℕ). xs ++ got_bytes more) (own_gets own a)

-- ---- the type of a message stands in its octets

pub kind_spelled : (m : Message) (wide : Bool) → kind_in (spell m wide) ≡ kind_of m
unfolding spell
kind_spelled m wide = refl

own_kind : (m : Message) (wide : Bool) → IsOwn m → kind_in (spell m wide) ≢ 2
own_kind (OpenMsg o) wide own e = let k = kind_spelled (OpenMsg o) wide in omega (arith, k, e)
own_kind (UpdateMsg u) wide own e = absurd own
own_kind (NoticeMsg n) wide own e = let k = kind_spelled (NoticeMsg n) wide in omega (arith, k, e)
own_kind KeepaliveMsg wide own e = let k = kind_spelled KeepaliveMsg wide in omega (arith, k, e)

-- ---- the next line that isn't the session's own

record GotNext (p : Peering) (wide : Bool) (before : List Line) (rest : List PartLine) (bytes : List ℕ) (come : List Line) : Type 0 where
  answer : List Line
  next : SessionState
  more : List Line
  unclosed : state_of before ≢ Closed
  whole : IsGot bytes
  reply : reply_to (message_of (expected_next p before (state_of before)) bytes) ≡ (answer, next)
  goes : GoesOn p (before ++ Got bytes ∷ answer) more
  come_is : come ≡ Got bytes ∷ (answer ++ more)
  rest_is : rest ≡ map (part_line wide) (answer ++ more)

record PutNext (p : Peering) (wide : Bool) (before : List Line) (rest : List PartLine) (octets : List ℕ) (come : List Line) : Type 0 where
  update : Update
  more : List Line
  established : state_of before ≡ Established
  way : IsOneWay update (is_wide p before)
  changes : ChangesTold before update
  goes : GoesOn p (before ++ Put (UpdateMsg update) ∷ []) more
  come_is : come ≡ Put (UpdateMsg update) ∷ more
  octets_are : octets ≡ spell (UpdateMsg update) wide
  rest_is : rest ≡ map (part_line wide) more

record TickNext (p : Peering) (wide : Bool) (before : List Line) (rest : List PartLine) (round : ℕ) (come : List Line) : Type 0 where
  answer : List Line
  next : SessionState
  more : List Line
  up : is_up (state_of before) ≡ true
  runs : 0 < hold p before
  later : All (IsEarlier round) before
  reply : reply_at (hold p before) (silence before + 1) round (state_of before) ≡ (answer, next)
  goes : GoesOn p (before ++ Tick round ∷ answer) more
  come_is : come ≡ Tick round ∷ (answer ++ more)
  rest_is : rest ≡ map (part_line wide) (answer ++ more)

abbrev octets_of : Bool → List Line → List PartLine
octets_of wide lines = map (part_line wide) lines

got_goes : (p : Peering) (wide : Bool) (rest : List PartLine) (octets : List ℕ) (before come : List Line) → GoesOn p before come
    → parts.Got octets ∷ rest ≡ map (part_line wide) come → GotNext p wide before rest octets come
got_goes p wide rest octets _ _ (ends before) e = absurd cc
got_goes p wide rest octets _ _ (gets before bytes answer next more lines o w r g f) e =
    let said : parts.Got octets ∷ rest ≡ parts.Got bytes ∷ octets_of wide (answer ++ more) = e ∙ ap (octets_of wide) f in
    let same : bytes ≡ octets = cc in
    let left : rest ≡ octets_of wide (answer ++ more) = cc in
    subst (λ (xs : List ℕ). GotNext p wide before rest xs lines) same (record {
      answer = answer;
      next = next;
      more = more;
      unclosed = o;
      whole = w;
      reply = r;
      goes = g;
      come_is = f;
      rest_is = left;
    })
got_goes p wide rest octets _ _ (puts before u more lines s w c g f) e =
    let said : parts.Got octets ∷ rest ≡ parts.Put (spell (UpdateMsg u) wide) ∷ octets_of wide more = e ∙ ap (octets_of wide) f in absurd cc
got_goes p wide rest octets _ _ (passes before round answer next more lines up h a r g f) e =
    let said : parts.Got octets ∷ rest ≡ parts.Tick round ∷ octets_of wide (answer ++ more) = e ∙ ap (octets_of wide) f in absurd cc

put_goes : (p : Peering) (wide : Bool) (rest : List PartLine) (octets : List ℕ) (before come : List Line) → GoesOn p before come
    → parts.Put octets ∷ rest ≡ map (part_line wide) come → PutNext p wide before rest octets come
put_goes p wide rest octets _ _ (ends before) e = absurd cc
put_goes p wide rest octets _ _ (gets before bytes answer next more lines o w r g f) e =
    let said : parts.Put octets ∷ rest ≡ parts.Got bytes ∷ octets_of wide (answer ++ more) = e ∙ ap (octets_of wide) f in absurd cc
put_goes p wide rest octets _ _ (puts before u more lines s w c g f) e =
    let said : parts.Put octets ∷ rest ≡ parts.Put (spell (UpdateMsg u) wide) ∷ octets_of wide more = e ∙ ap (octets_of wide) f in
    let left : rest ≡ octets_of wide more = cc in
    let octets_are : octets ≡ spell (UpdateMsg u) wide = cc in
    record { update = u; more = more; established = s; way = w; changes = c; goes = g; come_is = f; octets_are = octets_are; rest_is = left }
put_goes p wide rest octets _ _ (passes before round answer next more lines up h a r g f) e =
    let said : parts.Put octets ∷ rest ≡ parts.Tick round ∷ octets_of wide (answer ++ more) = e ∙ ap (octets_of wide) f in absurd cc

tick_goes : (p : Peering) (wide : Bool) (rest : List PartLine) (round : ℕ) (before come : List Line) → GoesOn p before come
    → parts.Tick round ∷ rest ≡ map (part_line wide) come → TickNext p wide before rest round come
tick_goes p wide rest round _ _ (ends before) e = absurd cc
tick_goes p wide rest round _ _ (gets before bytes answer next more lines o w r g f) e =
    let said : parts.Tick round ∷ rest ≡ parts.Got bytes ∷ octets_of wide (answer ++ more) = e ∙ ap (octets_of wide) f in absurd cc
tick_goes p wide rest round _ _ (puts before u more lines s w c g f) e =
    let said : parts.Tick round ∷ rest ≡ parts.Put (spell (UpdateMsg u) wide) ∷ octets_of wide more = e ∙ ap (octets_of wide) f in absurd cc
tick_goes p wide rest round _ _ (passes before n answer next more lines up h a r g f) e =
    let said : parts.Tick round ∷ rest ≡ parts.Tick n ∷ octets_of wide (answer ++ more) = e ∙ ap (octets_of wide) f in
    let same : n ≡ round = cc in
    let left : rest ≡ octets_of wide (answer ++ more) = cc in
    subst (λ (m : ℕ). TickNext p wide before rest m lines) same (record {
      answer = answer;
      next = next;
      more = more;
      up = up;
      runs = h;
      later = a;
      reply = r;
      goes = g;
      come_is = f;
      rest_is = left;
    })

-- ---- a line at a time

least_put : (s : SessionState) → 1044480 ≤ most_put s
least_put OpenSent = omega arith
least_put OpenConfirm = omega arith
least_put Established = omega arith
least_put Closed = omega arith

one_front : (f g x y : List ℕ) → IsGot f → IsGot g → f ++ x ≡ g ++ y → f ≡ g
one_front f g x y h k e = by_cut (cuts_of (f ∷ []) (g ∷ []) x y (h, tt) (k, tt)
    (ap (λ (zs : List ℕ). zs ++ x) (append-nil f) ∙ e ∙ ap (λ (zs : List ℕ). zs ++ y) (sym (append-nil g)))) where
      by_cut : Cuts (f ∷ []) (g ∷ []) x y → f ≡ g
      by_cut (same d) = cc
      by_cut (first_ends h' more d w z) = absurd cc
      by_cut (second_ends h' more d w z) = absurd cc

module _ (story : List Line) (rest : List PartLine) (session : SessionValue) where
  abbrev p : Peering
  p = peering_of session.config

  abbrev wide : Bool
  wide = is_wide p story

  -- ---- what is got

  got_next : (octets : List ℕ) (t : IsToldSoFar story (parts.Got octets ∷ rest) session) → GotNext p wide session.story rest octets t.come
  got_next octets t = by_own t.own t.octets_are t.each_own where
    by_own : (own : List Line) → parts.Got octets ∷ rest ≡ map (part_line wide) (own ++ t.come) → AllByRecursion PutsOwn own
        → GotNext p wide session.story rest octets t.come
    by_own [] e a = got_goes p wide rest octets session.story t.come t.goes e
    by_own (Put m ∷ own) e a = absurd cc
    by_own (Got _ ∷ own) e a = absurd a.0
    by_own (Tick _ ∷ own) e a = absurd a.0

  module _ (octets : List ℕ) (t : IsToldSoFar story (parts.Got octets ∷ rest) session) where
    abbrev n : GotNext p wide session.story rest octets t.come
    n = got_next octets t

    n_own : AllByRecursion PutsOwn n.answer
    n_own = all_weaken IsAnswer PutsOwn answer_own n.answer
        (got_answers p session.story (state_of session.story) octets n.answer n.next n.reply)

    unread_front : unread session ≡ octets ++ (got_bytes n.more ++ t.held)
    unread_front =
        t.unread_is
        ∙ ap (λ (xs : List Line). got_bytes xs ++ t.held) n.come_is
        ∙ append_assoc octets (got_bytes (n.answer ++ n.more)) t.held
        ∙ ap (λ (xs : List ℕ). octets ++ (xs ++ t.held)) (gets_after n.answer n.more n_own)

    got_after : (after : SessionValue) → GetsFrame session octets after → IsToldSoFar story rest after
    got_after after g =
        let same : g.answer ≡ n.answer = ap (λ (x : List Line × SessionState). x.0) (sym g.reply ∙ n.reply) in
        subst (IsToldSoFar story rest) (sym g.effect) (record {
          of_story = subst IsOfStory g.effect (gets_of_story session after octets g t.of_story);
          own = g.answer;
          come = n.more;
          story_is = t.story_is ∙ ap (λ (xs : List Line). session.story ++ xs) n.come_is
              ∙ ap (λ (xs : List Line). session.story ++ Got octets ∷ (xs ++ n.more)) (sym same)
              ∙ sym (append_assoc session.story (Got octets ∷ g.answer) n.more);
          goes = subst (λ (xs : List Line). GoesOn p (session.story ++ Got octets ∷ xs) n.more) (sym same) n.goes;
          octets_are = n.rest_is ∙ ap (λ (xs : List Line). map (part_line wide) (xs ++ n.more)) (sym same);
          each_own = subst (AllByRecursion PutsOwn) (sym same) n_own;
          held = t.held;
          unread_is = sym (drop-drop (length octets) session.end.read (received_bytes session.end))
              ∙ ap (drop (length octets)) unread_front ∙ drop-append_seam octets (got_bytes n.more ++ t.held);
          room = t.room;
        })

    got_same : (bytes : List ℕ) (after : SessionValue) → GetsFrame session bytes after → IsToldSoFar story rest after
    got_same bytes after g =
        got_after after (subst (λ (xs : List ℕ). GetsFrame session xs after)
        (one_front bytes octets g.rest (got_bytes n.more ++ t.held) g.got n.whole (sym g.front ∙ unread_front)) g)

  -- ---- rounds

  tick_next : (round : ℕ) (t : IsToldSoFar story (parts.Tick round ∷ rest) session) → TickNext p wide session.story rest round t.come
  tick_next round t = by_own t.own t.octets_are t.each_own where
    by_own : (own : List Line) → parts.Tick round ∷ rest ≡ map (part_line wide) (own ++ t.come) → AllByRecursion PutsOwn own
        → TickNext p wide session.story rest round t.come
    by_own [] e a = tick_goes p wide rest round session.story t.come t.goes e
    by_own (Put m ∷ own) e a = absurd cc
    by_own (Got _ ∷ own) e a = absurd a.0
    by_own (Tick _ ∷ own) e a = absurd a.0

  -- what the session has put and puts now has room
  puts_room : (line : Line) (answer more : List Line) → IsOfStory session → story ≡ session.story ++ line ∷ (answer ++ more)
      → is_up (state_of session.story) ≡ true → length (put_bytes p story) ≤ 1044480
      → length session.end.stream + length (flat_map (put_in (is_wide p session.story)) (line ∷ answer)) ≤ 1044480
  puts_room line answer more is_told is up room =
      let l : Allowed p session.story (state_of session.story) = is_told.tied.allowed in
      let same : is_wide p (session.story ++ line ∷ (answer ++ more)) ≡ is_wide p session.story =
      ap (both_offer p.first) (open_stays p session.story (line ∷ (answer ++ more)) (state_of session.story) l up) in
      let put : put_bytes p story ≡ put_bytes p session.story ++ flat_map (put_in (is_wide p session.story)) (line ∷ (answer ++ more)) =
      ap (put_bytes p) is ∙ put_grows p session.story (line ∷ (answer ++ more)) (state_of session.story) l
      ∙ ap (λ (w : Bool). put_bytes p session.story ++ flat_map (put_in w) (line ∷ (answer ++ more))) same in
      let cut : flat_map (put_in (is_wide p session.story)) (line ∷ (answer ++ more))
      ≡ flat_map (put_in (is_wide p session.story)) (line ∷ answer) ++ flat_map (put_in (is_wide p session.story)) more =
      flat_map-append (put_in (is_wide p session.story)) (line ∷ answer) more in
      let stream = ap (λ (xs : List ℕ). length xs) is_told.tied.put in
      let all = ap (λ (xs : List ℕ). length xs) put in
      let both = length-append (put_bytes p session.story) (flat_map (put_in (is_wide p session.story)) (line ∷ (answer ++ more))) in
      let pieces = ap (λ (xs : List ℕ). length xs) cut in
      let sum = length-append (flat_map (put_in (is_wide p session.story)) (line ∷ answer)) (flat_map (put_in (is_wide p session.story)) more) in
      omega (arith, room, stream, all, both, pieces, sum)

  module _ (round : ℕ) (t : IsToldSoFar story (parts.Tick round ∷ rest) session) where
    abbrev m : TickNext p wide session.story rest round t.come
    m = tick_next round t

    m_own : AllByRecursion PutsOwn m.answer
    m_own = all_weaken IsAnswer PutsOwn answer_own m.answer
        (passed_answers (hold p session.story) (silence session.story + 1) round (state_of session.story) m.answer m.next m.reply)

    m_story : story ≡ session.story ++ Tick round ∷ (m.answer ++ m.more)
    m_story = t.story_is ∙ ap (λ (xs : List Line). session.story ++ xs) m.come_is

    abbrev passed_to : SessionValue
    passed_to = record session {
      story = session.story ++ Tick round ∷ m.answer;
      adj_rib_in = unless_closed m.next session.adj_rib_in;
      adj_rib_out = unless_closed m.next session.adj_rib_out;
      end = sending (put_by session (session.story ++ Tick round ∷ m.answer) m.answer) session.end;
    }

    may_pass : PassesAgain session round passed_to
    may_pass = record {
      up = m.up;
      runs = m.runs;
      later = m.later;
      answer = m.answer;
      next = m.next;
      reply = m.reply;
      fits =
          let fits = puts_room (Tick round) m.answer m.more t.of_story m_story m.up t.room in
          let same = ap (λ (w : Bool). length (flat_map (put_in w) m.answer))
          (ap (both_offer p.first) (open_stays p session.story (Tick round ∷ m.answer) (state_of session.story) t.of_story.tied.allowed m.up)) in
          let most = least_put m.next in
          omega (arith, fits, same, most);
      effect = refl;
    }

    tick_after : (after : SessionValue) → PassesAgain session round after → IsToldSoFar story rest after
    tick_after after g =
        let same : g.answer ≡ m.answer = ap (λ (x : List Line × SessionState). x.0) (sym g.reply ∙ m.reply) in
        subst (IsToldSoFar story rest) (sym g.effect) (record {
          of_story = subst IsOfStory g.effect (again_of_story session after round g t.of_story);
          own = g.answer;
          come = m.more;
          story_is = m_story
              ∙ ap (λ (xs : List Line). session.story ++ Tick round ∷ (xs ++ m.more)) (sym same)
              ∙ sym (append_assoc session.story (Tick round ∷ g.answer) m.more);
          goes = subst (λ (xs : List Line). GoesOn p (session.story ++ Tick round ∷ xs) m.more) (sym same) m.goes;
          octets_are = m.rest_is ∙ ap (λ (xs : List Line). map (part_line wide) (xs ++ m.more)) (sym same);
          each_own = subst (AllByRecursion PutsOwn) (sym same) m_own;
          held = t.held;
          unread_is = t.unread_is ∙ ap (λ (xs : List Line). got_bytes xs ++ t.held) m.come_is
              ∙ ap (λ (xs : List ℕ). xs ++ t.held) (gets_after m.answer m.more m_own);
          room = t.room;
        })

  -- ---- what is put

  module _ (octets : List ℕ) (t : IsToldSoFar story (parts.Put octets ∷ rest) session) where
    -- the session's own message has been told already
    own_after : kind_in octets ≢ 2 → IsToldSoFar story rest session
    own_after not = by_own t.own t.octets_are t.each_own where
      by_own : (own : List Line) → parts.Put octets ∷ rest ≡ map (part_line wide) (own ++ t.come) → AllByRecursion PutsOwn own → IsToldSoFar story rest session
      by_own [] e a =
          let k : PutNext p wide session.story rest octets t.come = put_goes p wide rest octets session.story t.come t.goes e in
          absurd (not (ap kind_in k.octets_are ∙ kind_spelled (UpdateMsg k.update) wide))
      by_own (Put x ∷ own) e a =
          let left : rest ≡ map (part_line wide) (own ++ t.come) = cc in
          record {
            of_story = t.of_story;
            own = own;
            come = t.come;
            story_is = t.story_is;
            goes = t.goes;
            octets_are = left;
            each_own = a.1;
            held = t.held;
            unread_is = t.unread_is;
            room = t.room;
          }
      by_own (Got _ ∷ own) e a = absurd a.0
      by_own (Tick _ ∷ own) e a = absurd a.0

    put_next : kind_in octets ≡ 2 → PutNext p wide session.story rest octets t.come
    put_next kind = by_own t.own t.octets_are t.each_own where
      by_own : (own : List Line) → parts.Put octets ∷ rest ≡ map (part_line wide) (own ++ t.come) → AllByRecursion PutsOwn own
          → PutNext p wide session.story rest octets t.come
      by_own [] e a = put_goes p wide rest octets session.story t.come t.goes e
      by_own (Put x ∷ own) e a =
          let said : octets ≡ spell x wide = cc in absurd (own_kind x wide a.0 (sym (ap kind_in said) ∙ kind))
      by_own (Got _ ∷ own) e a = absurd a.0
      by_own (Tick _ ∷ own) e a = absurd a.0

    module _ (k : PutNext p wide session.story rest octets t.come) where
      k_story : story ≡ session.story ++ Put (UpdateMsg k.update) ∷ ([] ++ k.more)
      k_story = t.story_is ∙ ap (λ (xs : List Line). session.story ++ xs) k.come_is

      k_up : is_up (state_of session.story) ≡ true
      k_up = ap is_up k.established

      k_wide : wide ≡ is_wide p session.story
      k_wide = ap (is_wide p) k_story
          ∙ ap (both_offer p.first) (open_stays p session.story (Put (UpdateMsg k.update) ∷ k.more) (state_of session.story) t.of_story.tied.allowed k_up)

      spells : SpellPut session octets k.update
      spells = record {
        may = record {
          established = k.established;
          one_way = k.way;
          changes = subst (λ (r : Routes). Changes r k.update) (sym t.of_story.adj_rib_out) k.changes;
        };
        octets_are = k.octets_are ∙ ap (spell (UpdateMsg k.update)) k_wide;
        room =
            let fits = puts_room (Put (UpdateMsg k.update)) [] k.more t.of_story k_story k_up t.room in
            let one = ap (λ (xs : List ℕ). length xs) (append-nil (spell (UpdateMsg k.update) (is_wide p session.story))) in
            omega (arith, fits, one);
      }

      put_after : (after : SessionValue) → PutsUpdate session k.update after → IsToldSoFar story rest after
      put_after after g = subst (IsToldSoFar story rest) (sym g.effect) (record {
        of_story = subst IsOfStory g.effect (puts_of_story session after k.update g t.of_story);
        own = [];
        come = k.more;
        story_is = k_story ∙ sym (append_assoc session.story (Put (UpdateMsg k.update) ∷ []) k.more);
        goes = k.goes;
        octets_are = k.rest_is;
        each_own = tt;
        held = t.held;
        unread_is = t.unread_is ∙ ap (λ (xs : List Line). got_bytes xs ++ t.held) k.come_is;
        room = t.room;
      })

-- ---- by what a call answers

pub read_stays : (step : Option ReadStep) (old new : RunningSession) → ReadsFrameIfAny step old new → StaysTold old.session new.session
read_stays None old new f = record {
  config = ap (λ (r : RunningSession). r.session.config) f.1;
  of_story = λ is. subst (λ (r : RunningSession). IsOfStory r.session) (sym f.1) is;
}
read_stays (Some step) old new f = record {
  config = ap (λ (x : SessionValue). x.config) f.gets.effect;
  of_story = gets_of_story old.session new.session f.bytes f.gets;
}

pub read_told : (step : Option ReadStep) (old new : RunningSession) (octets : List ℕ) (story : List Line) (rest : List PartLine) → ReadsFrameIfAny step old new
    → IsToldSoFar story (parts.Got octets ∷ rest) old.session → IsTrue (is_some step) × IsToldSoFar story rest new.session
read_told None old new octets story rest f t = by_cause f.0 where
  by_cause : (state old.session ≡ Closed) ⊎ BeginsNothing (unread old.session) → IsTrue false × IsToldSoFar story rest new.session
  by_cause (inl closed) = absurd ((got_next story rest old.session octets t).unclosed closed)
  by_cause (inr nothing) =
      absurd (nothing octets (got_bytes (got_next story rest old.session octets t).more ++ t.held) (unread_front story rest old.session octets t)
      (got_next story rest old.session octets t).whole)
read_told (Some step) old new octets story rest f t = (refl, got_same story rest old.session octets t f.bytes new.session f.gets)

pub pass_stays : (passed : Bool) (old : RunningSession) (round : ℕ) (new : RunningSession) → PassesIfItMay passed old round new
    → StaysTold old.session new.session
pass_stays true old round new f = record {
  config = ap (λ (x : SessionValue). x.config) f.0.effect;
  of_story = again_of_story old.session new.session round f.0;
}
pass_stays false old round new f = record {
  config = ap (λ (r : RunningSession). r.session.config) f.0;
  of_story = λ is. subst (λ (r : RunningSession). IsOfStory r.session) (sym f.0) is;
}

pub pass_stays_if : (r : Result Bool NoMemory) (old : RunningSession) (round : ℕ) (new : RunningSession)
    → IfOk r (λ passed. PassesIfItMay passed old round new) → OnOk r (StaysTold old.session new.session)
pass_stays_if (Ok t) old round new f = pass_stays t old round new f
pass_stays_if (Err error) old round new f = tt

pub pass_told : (passed : Bool) (old : RunningSession) (round : ℕ) (new : RunningSession) (story : List Line) (rest : List PartLine)
    → PassesIfItMay passed old round new → IsToldSoFar story (parts.Tick round ∷ rest) old.session → IsTrue passed × IsToldSoFar story rest new.session
pass_told true old round new story rest f t = (refl, tick_after story rest old.session round t new.session f.0)
pass_told false old round new story rest f t =
    absurd (f.1 (passed_to story rest old.session round t) (may_pass story rest old.session round t))

-- an UPDATE is put, and any other message was put already
pub update_spells : (session : SessionValue) (octets : List ℕ) (story : List Line) (rest : List PartLine) → kind_in octets ≡ 2
    → (t : IsToldSoFar story (parts.Put octets ∷ rest) session)
    → (update : Update) × SpellPut session octets update × ((after : SessionValue) → PutsUpdate session update after → IsToldSoFar story rest after)
update_spells session octets story rest kind t =
    let k = put_next story rest session octets t kind in (k.update, spells story rest session octets t k, put_after story rest session octets t k)

pub own_told : (session : SessionValue) (octets : List ℕ) (story : List Line) (rest : List PartLine) → kind_in octets ≢ 2
    → IsToldSoFar story (parts.Put octets ∷ rest) session → IsToldSoFar story rest session
own_told session octets story rest other t = own_after story rest session octets t other

pub stays_same : (session : SessionValue) → StaysTold session session
stays_same session = record { config = refl; of_story = λ is. is }

pub stays_more : (a b c : SessionValue) → StaysTold a b → StaysTold b c → StaysTold a c
stays_more a b c f g = record { config = g.config ∙ f.config; of_story = λ is. g.of_story (f.of_story is) }

-- what is kept of the lines so far
abbrev pub IsTellingOf : List PartLine → SessionValue → ℕ → SessionValue → Type 0
IsTellingOf octets first i session = StaysTold first session × ((told : List Line) → IsToldSoFar told octets first → IsToldSoFar told (drop i octets) session)

module _ (octets : List PartLine) (first before : SessionValue) (i : ℕ) (line : PartLine) (below : i < length octets)
    (is : line ≡ slice_index_or octets i line) (so : IsTellingOf octets first i before) where
  pub telling_next : (told : List Line) → IsToldSoFar told octets first → IsToldSoFar told (line ∷ drop (i + 1) octets) before
  telling_next told t = subst (λ (xs : List PartLine). IsToldSoFar told xs before) (item_left octets i line below is) (so.1 told t)

  pub telling_more : (after : SessionValue) → StaysTold before after
      → ((told : List Line) (rest : List PartLine) → IsToldSoFar told (line ∷ rest) before → IsToldSoFar told rest after)
      → IsTellingOf octets first (i + 1) after
  telling_more after stays tells = (stays_more first before after so.0 stays, λ told t. tells told (drop (i + 1) octets) (telling_next told t))

-- ---- the whole story

-- a session that has only begun has the whole story before it
pub begins_told : (config : SessionConfig) (received : List ℕ) (octets : List PartLine) (story : List Line) (session : SessionValue)
    → HasBegun config received session → IsStoryOf (peering_of config) received octets story → IsToldSoFar story octets session
begins_told config received octets story session b is =
    let c : Peering = peering_of config in
    let f : FromFirst c story [] = from_first c story is.state is.legal [] (ends story) in
    let p_is : c ≡ peering_of session.config = ap peering_of (sym b.config_is) in
    let whole : story ≡ session.story ++ f.rest = f.is ∙ ap (λ (xs : List Line). xs ++ f.rest) (sym b.story_is) in
    record {
      of_story = b.of_story;
      own = first_line c;
      come = f.rest;
      story_is = whole;
      goes = subst (λ (x : Peering). GoesOn x session.story f.rest) p_is
          (subst (λ (xs : List Line). GoesOn c xs f.rest) (sym b.story_is) (subst (GoesOn c (first_line c)) (append-nil f.rest) f.goes));
      octets_are = is.spelled
          ∙ ap (λ (xs : List Line). map (part_line (is_wide c story)) xs) f.is
          ∙ ap (λ (x : Peering). map (part_line (is_wide x story)) (first_line c ++ f.rest)) p_is;
      each_own = (tt, tt);
      held = is.held;
      unread_is = b.unread_is ∙ is.received_is ∙ ap (λ (xs : List Line). got_bytes xs ++ is.held) f.is;
      room = subst (λ (x : Peering). length (put_bytes x story) ≤ 1044480) p_is is.room;
    }

none_left : (own come : List Line) (wide : Bool) → ◌≡◌ {A = List PartLine} [] (map (part_line wide) (own ++ come)) → come ≡ []
none_left [] [] wide e = refl
none_left [] (x ∷ come) wide e = absurd cc
none_left (x ∷ own) come wide e = absurd cc

-- and in the end it has told it
pub ends_told : (story : List Line) (session : SessionValue) → IsToldSoFar story [] session → session.story ≡ story
ends_told story session t =
    sym (t.story_is ∙ ap (λ (xs : List Line). session.story ++ xs) (none_left t.own t.come (is_wide (peering_of session.config) story) t.octets_are)
    ∙ append-nil session.story)
