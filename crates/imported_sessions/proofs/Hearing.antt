-- Sessions that take what segments bring.
use Rattle.std.proofs.Common.{◌≡◌, ℕ, suc, ◌-◌, ◌+◌, ◌≤◌, ◌<◌, max, List, [], ◌∷◌, ◌++◌, length, map, take, drop, get_or, set, cond, eqb, ltb}
use Rattle.std.proofs.Common.{Bool, true, false}
use Rattle.std.proofs.Common.{Option, Some, None, refl, sym, ap, ◌∙◌, subst, arith}
use Rattle.std.specs.Prelude.{◌&&◌, filter, IfSome}
use Rattle.std.specs.List.{flat_map, range_with_len}
use Rattle.std.proofs.lemmas.Bool.{cond-false, cond-true, and_from, and_left, and_right, ne_eqb, le-ltb, lt-ltb, eq-eqb}
use Rattle.std.proofs.lemmas.List.{append-nil, map-append, drop_all, take_more, length_push}
use Rattle.std.proofs.lemmas.List.Concat.{flat_map-append}
use Rattle.std.proofs.lemmas.List.Elements.{filter-append}
use Rattle.std.proofs.lemmas.List.FromFn.{length-map-range_with_len}
use Rattle.std.proofs.lemmas.Option.{slice_get_read}
use Rattle.tcp_seq.specs.declared.segment.Way.{Way}
use Rattle.tcp_seq.specs.declared.segment.Way.TheVariants.{Home, Remote}
use Rattle.bgp_types.specs.Header.{frame_at}
use Rattle.bgp_types.specs.Many.{many}
use Rattle.bgp_types.proofs.FrameLaws.{frame_shortens}
use Rattle.bgp_types.proofs.ManyLaws.{after, after_more, after_stop, many_none}
use Rattle.captured_streams.specs.declared.streams.Flow.{Flow}
use Rattle.imported_sessions.specs.declared.imported.Said.{Said}
use Rattle.imported_sessions.specs.declared.heard.Session.{Session}
use Rattle.imported_sessions.specs.declared.opened.Opened.{Opened}
use Rattle.imported_sessions.specs.Packed.{AreMoreStepsOf}
use Rattle.imported_sessions.specs.declared.heard.Stage.TheVariants.{Nothing}
use Rattle.imported_sessions.specs.Messages.{stream, octets_of, goes, opening, opening_len, ended_at, ended_by, unfinished}
use Rattle.imported_sessions.specs.Heard.{opening_of, stage_of, session_of, session_at, said_between, said_by, said_in, told_by}
use Rattle.imported_sessions.proofs.Feeding.{fed}
use Rattle.imported_sessions.proofs.Fronts.{no_front, take_both}
use Rattle.imported_sessions.proofs.Behind.{Takes, one_more_behind}
use Rattle.imported_sessions.proofs.Ranges.{one_number_more, at, one_set, none_set}

-- ---- octets of a remote

-- A session that takes octets of its remote, behind others that it took before: all are its messages so far. Those that are behind the opening and
-- weren't whole before are said.
pub record IsTaking (peer : ℕ) (stream home octets : List ℕ) (session : Session) (said : List Said) : Type 0 where
  pub all : List (List ℕ)
  pub so_far : after all (many frame_at session.rest) ≡ many frame_at (stream ++ octets)
  pub is : session ≡ record { peer = peer; opening = opening_of all; rest = session.rest; home = take 4096 home }
  pub within : length (many frame_at stream).0 ≤ length all
  pub said_is : said ≡ map (said_by peer) (drop (max (opening_len all) (length (many frame_at stream).0)) all)

module _ (peer : ℕ) (stream home octets : List ℕ) where
  pub begins : (old session : Session) → old ≡ session_of peer stream home → session ≡ record old { rest = old.rest ++ octets }
      → IsTaking peer stream home octets session []
  unfolding session_of
  begins old session e is =
      let all = (many frame_at stream).0 in
      let rest : session.rest ≡ (many frame_at stream).1 ++ octets = ap (λ (s : Session). s.rest) is ∙ ap (λ (s : Session). s.rest ++ octets) e in
      let none : drop (max (opening_len all) (length all)) all ≡ [] = drop_all (max (opening_len all) (length all)) all (omega arith) in
      record {
        all = all;
        so_far = ap (λ (bytes : List ℕ). after all (many frame_at bytes)) rest ∙ sym (fed stream octets);
        is = is ∙ ap (λ (s : Session). record s { rest = s.rest ++ octets }) e
            ∙ ap (λ (bytes : List ℕ). record { peer = peer; opening = opening_of all; rest = bytes; home = take 4096 home }) (sym rest);
        within = omega arith;
        said_is = sym (ap (map (said_by peer)) none);
      }

  pub takes : (session new : Session) (said : List Said) (message rest : List ℕ) (more : List (List ℕ))
      (t : IsTaking peer stream home octets session said) → frame_at session.rest ≡ Some (message, rest)
      → Takes t.all message new.opening more → new ≡ record session { opening = new.opening; rest = rest }
      → IsTaking peer stream home octets new (said ++ map (said_by peer) more)
  takes session new said message rest more t front opening is =
      let all = t.all in
      let n = length (many frame_at stream).0 in
      let old = drop (max (opening_len all) n) all in
      let rest_is : new.rest ≡ rest = ap (λ (s : Session). s.rest) is in
      record {
        all = all ++ message ∷ [];
        so_far = ap (λ (bytes : List ℕ). after (all ++ message ∷ []) (many frame_at bytes)) rest_is
            ∙ after_more frame_at frame_shortens all session.rest (message, rest) (many frame_at (stream ++ octets)) front t.so_far;
        is = is ∙ ap (λ (s : Session). record s { opening = new.opening; rest = rest }) t.is
            ∙ ap (λ o. record { peer = peer; opening = o; rest = rest; home = take 4096 home }) opening.0
            ∙ ap (λ (bytes : List ℕ). record { peer = peer; opening = opening_of (all ++ message ∷ []); rest = bytes; home = take 4096 home }) (sym rest_is);
        within = let w = t.within in let l = length_push all message in omega arith;
        said_is = ap (λ (xs : List Said). xs ++ map (said_by peer) more) t.said_is
            ∙ sym (map-append (said_by peer) old more)
            ∙ ap (λ (xs : List (List ℕ)). map (said_by peer) (old ++ xs)) opening.1
            ∙ ap (map (said_by peer)) (sym (one_more_behind all message n t.within));
      }

  pub ends : (session : Session) (said : List Said) → IsTaking peer stream home octets session said → frame_at session.rest ≡ None
      → (session ≡ session_of peer (stream ++ octets) home) × (said ≡ said_between peer stream (stream ++ octets))
  unfolding session_of said_between
  ends session said t none =
      let total : many frame_at (stream ++ octets) ≡ (t.all, session.rest) =
      after_stop frame_at t.all session.rest (many frame_at (stream ++ octets)) none t.so_far in (
        t.is ∙ ap (λ (m : List (List ℕ) × List ℕ). record { peer = peer; opening = opening_of m.0; rest = m.1; home = take 4096 home }) (sym total),
        t.said_is
            ∙ ap (λ (m : List (List ℕ) × List ℕ). map (said_by peer) (drop (max (opening_len m.0) (length (many frame_at stream).0)) m.0)) (sym total),
      )

-- a session that takes octets, and the steps of what it says with them
pub record IsTelling (opened : List Opened) (home_as peer : ℕ) (stream home octets : List ℕ) (old : List Said) (session : Session) (steps : List Said)
    : Type 0 where
  pub said : List Said
  pub taking : IsTaking peer stream home octets session said
  pub more : AreMoreStepsOf opened home_as said old steps

pub short_if_some : (after : Option (List ℕ)) (message : List ℕ) → IfSome after (λ octets. octets ≡ message) → length message ≤ 4096
    → IfSome after (λ octets. length octets ≤ 4096)
short_if_some None message same short = tt
short_if_some (Some octets) message same short = subst (λ (xs : List ℕ). length xs ≤ 4096) (sym same) short

-- ---- a flow

module _ (before : List Flow) (flow : Flow) where
  pub stream_more : (way : Way) (k : ℕ) → stream way k (before ++ flow ∷ []) ≡ stream way k before ++ octets_of way k flow
  stream_more way k =
      flat_map-append (octets_of way k) before (flow ∷ []) ∙ ap (λ (xs : List ℕ). stream way k before ++ xs) (append-nil (octets_of way k flow))

  pub silent : (way : Way) (k : ℕ) → (goes way flow.way && eqb flow.peer k) ≡ false → stream way k (before ++ flow ∷ []) ≡ stream way k before
  silent way k e =
      stream_more way k ∙ ap (λ (xs : List ℕ). stream way k before ++ xs) (cond-false (goes way flow.way && eqb flow.peer k) flow.octets [] e)
      ∙ append-nil (stream way k before)

  pub heard : (way : Way) → goes way flow.way ≡ true → stream way flow.peer (before ++ flow ∷ []) ≡ stream way flow.peer before ++ flow.octets
  heard way e =
      stream_more way flow.peer
      ∙ ap (λ (xs : List ℕ). stream way flow.peer before ++ xs)
      (cond-true (goes way flow.way && eqb flow.peer flow.peer) flow.octets []
      (and_from (goes way flow.way) (eqb flow.peer flow.peer) e (eq-eqb flow.peer flow.peer refl)))

  pub unheard : (way : Way) (k : ℕ) → goes way flow.way ≡ false → stream way k (before ++ flow ∷ []) ≡ stream way k before
  unheard way k e = silent way k (and_left (goes way flow.way) (eqb flow.peer k) e)

  pub stays : (k : ℕ) → (flow.peer ≡ k → ⊥) → session_at before k ≡ session_at (before ++ flow ∷ []) k
  stays k ne =
      let none : (way : Way) → stream way k before ≡ stream way k (before ++ flow ∷ []) =
      λ way. sym (silent way k (and_right (goes way flow.way) (eqb flow.peer k) (ne_eqb flow.peer k ne))) in
      ap (λ (xs : List ℕ). session_of k xs (stream Remote k before)) (none Home) ∙ ap (session_of k (stream Home k (before ++ flow ∷ []))) (none Remote)

  pub nothing_said : (peer : ℕ) (octets : List ℕ) → said_between peer octets octets ≡ []
  unfolding said_between
  nothing_said peer octets =
      let all = (many frame_at octets).0 in
      ap (map (said_by peer)) (drop_all (max (opening_len all) (length all)) all (omega arith))

-- ---- a flow that the sessions take

module _ (before : List Flow) (flow : Flow) (count : ℕ) (old : List Session) (is : old ≡ map (session_at before) (range_with_len 0 count)) where
  abbrev next : ℕ → Session
  next = session_at (before ++ flow ∷ [])

  old_len : length old ≡ count
  old_len = ap length is ∙ length-map-range_with_len (session_at before) 0 count

  -- the flow of an unknown session
  pub unknown : length old ≤ flow.peer → (old ≡ map next (range_with_len 0 count)) × (said_in count before flow ≡ [])
  unknown past = (
    none_set (session_at before) next count old is (λ k low. stays before flow k (λ e. omega (arith, past, old_len, low, e))),
    cond-false (ltb flow.peer count) (said_between flow.peer (stream Home flow.peer before) (stream Home flow.peer (before ++ flow ∷ []))) []
        (le-ltb flow.peer count (omega (arith, past, old_len))),
  )

  module _ (low : flow.peer < length old) where
    below : flow.peer < count
    below = omega (arith, low, old_len)

    module _ (session : Session) (e : session ≡ get_or old flow.peer session) where
      at_peer : session ≡ session_at before flow.peer
      at_peer = e ∙ at (session_at before) (session_at before) count old is flow.peer session below

      number : session.peer ≡ flow.peer
      unfolding session_of
      number = ap (λ (s : Session). s.peer) at_peer

      said_known : said_in count before flow ≡ said_between flow.peer (stream Home flow.peer before) (stream Home flow.peer (before ++ flow ∷ []))
      said_known =
          cond-true (ltb flow.peer count) (said_between flow.peer (stream Home flow.peer before) (stream Home flow.peer (before ++ flow ∷ []))) []
          (lt-ltb flow.peer count below)

      all_next : (new : Session) → new ≡ next flow.peer → set old flow.peer new ≡ map next (range_with_len 0 count)
      all_next new taken = ap (set old flow.peer) taken ∙ one_set (session_at before) next count old is flow.peer below (λ k ne. stays before flow k ne)

      -- what the session does with octets of its remote
      pub takes_home : flow.way ≡ Home → (new : Session) (octets : List ℕ) (IsSaid : List Said → Type 0) → octets ≡ flow.octets
          → ((stream home : List ℕ) → session ≡ session_of session.peer stream home
          → (new ≡ session_of session.peer (stream ++ octets) home) × IsSaid (said_between session.peer stream (stream ++ octets)))
          → (set old flow.peer new ≡ map next (range_with_len 0 count)) × IsSaid (said_in count before flow)
      takes_home way new octets IsSaid same taken =
          let told = stream Home flow.peer before in
          let home = stream Remote flow.peer before in
          let by_number : session_of flow.peer told home ≡ session_of session.peer told home =
          ap (λ (k : ℕ). session_of k told home) (sym number) in
          let t = taken told home (at_peer ∙ by_number) in
          let more : told ++ octets ≡ stream Home flow.peer (before ++ flow ∷ []) =
          ap (λ (xs : List ℕ). told ++ xs) same ∙ sym (heard before flow Home (ap (goes Home) way)) in
          let quiet : home ≡ stream Remote flow.peer (before ++ flow ∷ []) = sym (unheard before flow Remote flow.peer (ap (goes Remote) way)) in (
            all_next new (t.0 ∙ ap (λ (k : ℕ). session_of k (told ++ octets) home) number ∙ ap (λ (xs : List ℕ). session_of flow.peer xs home) more
                ∙ ap (session_of flow.peer (stream Home flow.peer (before ++ flow ∷ []))) quiet),
            subst IsSaid (ap (λ (k : ℕ). said_between k told (told ++ octets)) number ∙ ap (said_between flow.peer told) more ∙ sym said_known) t.1,
          )

      -- what it does with octets of the home side
      pub takes_remote : flow.way ≡ Remote → (octets home : List ℕ) → octets ≡ flow.octets
          → home ≡ session.home ++ take (4096 - length session.home) octets
          → (set old flow.peer (record session { home = home }) ≡ map next (range_with_len 0 count)) × (said_in count before flow ≡ [])
      unfolding session_of
      takes_remote way octets home same taken =
          let told = stream Home flow.peer before in
          let old_home = stream Remote flow.peer before in
          let quiet : told ≡ stream Home flow.peer (before ++ flow ∷ []) = sym (unheard before flow Home flow.peer (ap (goes Home) way)) in
          let more : old_home ++ flow.octets ≡ stream Remote flow.peer (before ++ flow ∷ []) = sym (heard before flow Remote (ap (goes Remote) way)) in
          let was : session.home ≡ take 4096 old_home = ap (λ (s : Session). s.home) at_peer in
          let is_home : home ≡ take 4096 (stream Remote flow.peer (before ++ flow ∷ [])) =
          taken ∙ ap (λ (xs : List ℕ). xs ++ take (4096 - length xs) octets) was
          ∙ ap (λ (xs : List ℕ). take 4096 old_home ++ take (4096 - length (take 4096 old_home)) xs) same
          ∙ take_both 4096 old_home flow.octets ∙ ap (take 4096) more in
          let m = many frame_at told in
          let nothing : said_between flow.peer told (stream Home flow.peer (before ++ flow ∷ [])) ≡ [] =
          ap (said_between flow.peer told) (sym quiet) ∙ nothing_said before flow flow.peer told in (
            all_next (record session { home = home }) (ap (λ (s : Session). record s { home = home }) at_peer
                ∙ ap (λ (xs : List ℕ). record { peer = flow.peer; opening = opening_of m.0; rest = m.1; home = xs }) is_home
                ∙ ap (λ (xs : List ℕ). session_of flow.peer xs (stream Remote flow.peer (before ++ flow ∷ []))) quiet),
            said_known ∙ nothing,
          )

-- what is behind the last message of a session
pub rest_at : (flows : List Flow) (count : ℕ) (sessions : List Session) → sessions ≡ map (session_at flows) (range_with_len 0 count) → (k : ℕ)
    (session : Session) → k < length sessions → (get_or sessions k session).rest ≡ unfinished k flows
unfolding session_of
rest_at flows count sessions is k session low =
    let below : k < count = omega (arith, low, ap length is, length-map-range_with_len (session_at flows) 0 count) in
    ap (λ (s : Session). s.rest) (at (session_at flows) (session_at flows) count sessions is k session below)

-- ---- a flow more

same_peers : (peer : ℕ) (keeps : ℕ → Bool) (messages : List (List ℕ))
    → filter (λ said. keeps said.peer) (map (said_by peer) messages) ≡ cond (keeps peer) (map (said_by peer) messages) []
same_peers peer keeps messages = by_test (keeps peer) refl messages where
  by_test : (t : Bool) → keeps peer ≡ t → (ms : List (List ℕ))
      → filter (λ said. keeps said.peer) (map (said_by peer) ms) ≡ cond t (map (said_by peer) ms) []
  by_test true e [] = refl
  by_test true e (m ∷ ms) =
      let rest = filter (λ said. keeps said.peer) (map (said_by peer) ms) in
      cond-true (keeps peer) (said_by peer m ∷ rest) rest e
      ∙ ap (λ (xs : List Said). said_by peer m ∷ xs) (by_test true e ms)
  by_test false e [] = refl
  by_test false e (m ∷ ms) =
      let rest = filter (λ said. keeps said.peer) (map (said_by peer) ms) in
      cond-false (keeps peer) (said_by peer m ∷ rest) rest e
      ∙ by_test false e ms

module _ (flows : List Flow) (i : ℕ) (flow : Flow) (low : i < length flows) (at : flow ≡ get_or flows i flow) where
  pub flows_more : take (i + 1) flows ≡ take i flows ++ flow ∷ []
  flows_more = take_more flows i flow low ∙ ap (λ (f : Flow). take i flows ++ f ∷ []) (sym at)

  ended_here : ended_at flows i ≡ said_between flow.peer (stream Home flow.peer (take i flows)) (stream Home flow.peer (take i flows ++ flow ∷ []))
  unfolding said_between
  ended_here =
      let next : take (suc i) flows ≡ take i flows ++ flow ∷ [] = (let one : suc i ≡ i + 1 = omega arith in ap (λ n. take n flows) one) ∙ flows_more in
      ap (ended_by flows i) (slice_get_read flows (length flows) i flow refl low at)
      ∙ ap (λ (fs : List Flow). map (said_by flow.peer)
      (drop (max (opening_len (many frame_at (stream Home flow.peer fs)).0) (length (many frame_at (stream Home flow.peer (take i flows))).0))
      (many frame_at (stream Home flow.peer fs)).0)) next

  pub told_more : (count : ℕ) → told_by count flows (i + 1) ≡ told_by count flows i ++ said_in count (take i flows) flow
  unfolding said_between
  told_more count =
      let known : Said → Bool = λ said. ltb said.peer count in
      let sofar = flat_map (ended_at flows) (range_with_len 0 i) in
      let all = (many frame_at (stream Home flow.peer (take i flows ++ flow ∷ []))).0 in
      let before = (many frame_at (stream Home flow.peer (take i flows))).0 in
      ap (filter known) (one_number_more (ended_at flows) i ∙ ap (λ (xs : List Said). sofar ++ xs) ended_here)
      ∙ filter-append known sofar (map (said_by flow.peer) (drop (max (opening_len all) (length before)) all))
      ∙ ap (λ (xs : List Said). filter known sofar ++ xs)
      (same_peers flow.peer (λ k. ltb k count) (drop (max (opening_len all) (length before)) all))

-- ---- nothing heard

-- a session of which nothing is read
pub none_read : (peer : ℕ) (octets rest home : List ℕ) → octets ≡ [] → rest ≡ [] → home ≡ []
    → record { peer = peer; opening = record { stage = Nothing; octets = octets }; rest = rest; home = home } ≡ session_at [] peer
unfolding session_of opening_of
none_read peer octets rest home no_octets no_rest no_home =
    ap (λ (xs : List ℕ). record { peer = peer; opening = record { stage = Nothing; octets = xs }; rest = rest; home = home }) no_octets
    ∙ ap (λ (xs : List ℕ). record { peer = peer; opening = record { stage = Nothing; octets = [] }; rest = xs; home = home }) no_rest
    ∙ ap (λ (xs : List ℕ). record { peer = peer; opening = record { stage = Nothing; octets = [] }; rest = []; home = xs }) no_home
    ∙ ap (λ (m : List (List ℕ) × List ℕ). record { peer = peer; opening = record { stage = stage_of m.0; octets = opening m.0 }; rest = m.1; home = [] })
    (sym (many_none frame_at [] no_front))
