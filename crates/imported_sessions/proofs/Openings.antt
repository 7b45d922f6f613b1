-- Sessions whose remotes begin with sound OPENs.
use Rattle.std.proofs.Common.{◌≡◌, ℕ, zero, suc, ◌+◌, ◌<◌, ◌≤◌, Bool, true, false, not, eqb, ltb, List, [], ◌∷◌, ◌++◌, length, map, take, drop}
use Rattle.std.proofs.Common.{get_or, cond, is_some}
use Rattle.std.proofs.Common.{Option, Some, None, IsSome, refl, sym, ap, ◌∙◌, subst, inl, inr, arith}
use Rattle.std.specs.Prelude.{◌&&◌, ◌||◌, slice_get, IfOk, Result, Ok, Err}
use Rattle.std.specs.BTreeSet.{BTreeSet, contains}
use Rattle.std.specs.List.{filter_map, cons_option, list_any, range_with_len}
use Rattle.std.specs.Ordering.{nat_cmp}
use Rattle.std.specs.Option.{option_map_or}
use Rattle.std.specs.Result.{result_ok}
use Rattle.std.proofs.lemmas.Bool.{and_left, lt-ltb, le-ltb, cases_lt}
use Rattle.std.proofs.lemmas.List.{append-nil, drop_more, take-append-drop, take_more}
use Rattle.std.proofs.lemmas.List.Elements.{filter_map-append}
use Rattle.std.proofs.lemmas.Option.{none-some, slice_get_within}
use Rattle.bgp_types.specs.declared.fault.Expected.{Expected}
use Rattle.bgp_types.specs.declared.message.Message.{Message}
use Rattle.bgp_types.specs.declared.message.Message.TheVariants as messages
use Rattle.bgp_types.specs.declared.message.Notice.{Notice}
use Rattle.bgp_types.specs.declared.message.OpenMsg.{OpenMsg}
use Rattle.bgp_types.specs.declared.message.SessionState.TheVariants.{OpenSent}
use Rattle.bgp_types.specs.Faults.{fault_in}
use Rattle.bgp_types.specs.FirstFault.{body_of, is_in_state, message_of, open_message, state_fault, with_header}
use Rattle.bgp_types.specs.Header.{frame_at, kind_in}
use Rattle.bgp_types.specs.OpenBody.{open_of}
use Rattle.bgp_wire.proofs.FrameLaws.{sound_is}
use Rattle.graft_edge.specs.declared.memory.NoMemory.{NoMemory}
use Rattle.tcp_seq.specs.declared.segment.Way.TheVariants.{Home, Remote}
use Rattle.captured_streams.specs.declared.streams.Streams.{Streams}
use Rattle.imported_sessions.specs.declared.heard.Session.{Session}
use Rattle.imported_sessions.specs.declared.opened.Opened.{Opened}
use Rattle.imported_sessions.specs.Heard.{opening_of, session_at, session_of}
use Rattle.imported_sessions.specs.Messages.{stream, messages as messages_of, opening}
use Rattle.imported_sessions.specs.Opened.{AreAllOpened, AreOpened, IsOpened, is_external_in, open_told}
use Rattle.imported_sessions.specs.Opens.{any_as, as_of, first_home, first_open, has_as, home_open, home_opens, is_external, IsHomeAs, remote_open}
use Rattle.imported_sessions.specs.Opens.{remote_opens}
use Rattle.imported_sessions.proofs.Fronts.{first_octets_read, opening_reads}
use Rattle.imported_sessions.proofs.Packing.{in_more}
use Rattle.imported_sessions.proofs.Ranges.{next_is}

-- ---- one session

-- what a session is that took all flows
pub record HasHeard (s : Streams) (k : ℕ) (session : Session) : Type 0 where
  pub number : session.peer ≡ k
  pub opening_is : session.opening.octets ≡ opening (messages_of k s.flows)
  pub remote : first_open session.opening.octets ≡ remote_open s k
  pub home : first_open session.home ≡ home_open s k

pub has_heard : (s : Streams) (k : ℕ) (session : Session) → session ≡ session_at s.flows k → HasHeard s k session
unfolding session_of opening_of
has_heard s k session is =
    let octets = ap (λ (x : Session). x.opening.octets) is in
    record {
      number = ap (λ (x : Session). x.peer) is;
      opening_is = octets;
      remote = ap first_open octets ∙ opening_reads (stream Home k s.flows);
      home = ap (λ (x : Session). first_open x.home) is ∙ first_octets_read (stream Remote k s.flows);
    }

pub opened_here : (s : Streams) (k : ℕ) (session : Session) (opened : Opened) → HasHeard s k session → opened.peer ≡ session.peer
    → Some opened.remote ≡ first_open session.opening.octets → opened.remote_as ≡ as_of opened.remote → opened.home ≡ first_open session.home
    → opened.opening ≡ session.opening.octets → IsOpened s k opened
opened_here s k session opened h peer remote as_is home opening = record {
  number = peer ∙ h.number;
  begins = sym (remote ∙ h.remote);
  as_is = as_is;
  home_is = home ∙ h.home;
  opening_is = opening ∙ h.opening_is;
}

pub opened_more : (s : Streams) (opened : List Opened) (one : Opened) → AreOpened s opened → IsOpened s (length opened) one → AreOpened s (opened ++ one ∷ [])
opened_more s opened one all last k session at = elim (in_more opened one k session at) [
  | inl w ↦ all k session w.1
  | inr w ↦ subst (IsOpened s k) w.1 (subst (λ n. IsOpened s n one) (sym w.0) last)
]

-- ---- the OPENs of all

pub not_past : {X : Type 0} (xs : List X) (k : ℕ) → k < length xs → slice_get xs k ≡ None → ⊥
not_past [] k low e = omega (arith, low)
not_past (x ∷ xs) zero low e = none-some x (sym e)
not_past (x ∷ xs) (suc k) low e = not_past xs k (omega (arith, low)) e

module _ {A B : Type 0} where
  all_found : (f : ℕ → Option B) (h : A → B) (a : ℕ) (xs : List A) → ((k : ℕ) (x : A) → slice_get xs k ≡ Some x → f (a + k) ≡ Some (h x))
      → filter_map f (range_with_len a (length xs)) ≡ map h xs
  all_found f h a [] each = refl
  all_found f h a (x ∷ xs) each =
      let here : a + 0 ≡ a = omega arith in
      ap (λ o. cons_option o (filter_map f (range_with_len (a + 1) (length xs)))) (ap f (sym here) ∙ each 0 x refl)
      ∙ ap (λ ys. h x ∷ ys) (all_found f h (a + 1) xs (λ k y at. let next : a + 1 + k ≡ a + suc k = omega arith in ap f next ∙ each (suc k) y at))

  some_found : (f : ℕ → Option B) (h : A → Option B) (a : ℕ) (xs : List A) → ((k : ℕ) (x : A) → slice_get xs k ≡ Some x → f (a + k) ≡ h x)
      → filter_map f (range_with_len a (length xs)) ≡ filter_map h xs
  some_found f h a [] each = refl
  some_found f h a (x ∷ xs) each =
      let here : a + 0 ≡ a = omega arith in
      ap (λ o. cons_option o (filter_map f (range_with_len (a + 1) (length xs)))) (ap f (sym here) ∙ each 0 x refl)
      ∙ ap (cons_option (h x)) (some_found f h (a + 1) xs (λ k y at. let next : a + 1 + k ≡ a + suc k = omega arith in ap f next ∙ each (suc k) y at))

module _ (s : Streams) (opened : List Opened) (all : AreAllOpened s opened) where
  from_zero : (k : ℕ) → 0 + k ≡ k
  from_zero k = omega arith

  pub remotes_are : remote_opens s ≡ map (λ session. session.remote) opened
  remotes_are =
      ap (λ n. filter_map (remote_open s) (range_with_len 0 n)) (sym all.count)
      ∙ all_found (remote_open s) (λ session. session.remote) 0 opened (λ k session at. ap (remote_open s) (from_zero k) ∙ (all.each k session at).begins)

  pub homes_are : home_opens s ≡ filter_map (λ session. session.home) opened
  homes_are =
      ap (λ n. filter_map (home_open s) (range_with_len 0 n)) (sym all.count)
      ∙ some_found (home_open s) (λ session. session.home) 0 opened
      (λ k session at. ap (home_open s) (from_zero k) ∙ sym (all.each k session at).home_is)

  module _ (home_as k : ℕ) where
    told : Option OpenMsg → Bool
    told remote = option_map_or (λ o. not (has_as home_as o)) remote false

    external_at : (o : Option Opened) → slice_get opened k ≡ o
        → option_map_or (λ session. not (eqb session.remote_as home_as)) o false ≡ (ltb k (length s.peers) && told (remote_open s k))
    unfolding told
    external_at None e =
        let past : length s.peers ≤ k = elim (cases_lt k (length opened)) [
          | inl low ↦ absurd (not_past opened k low e)
          | inr high ↦ omega (arith, high, all.count)
        ] in
        sym (and_left (ltb k (length s.peers)) (told (remote_open s k)) (le-ltb k (length s.peers) past))
    external_at (Some session) e =
        let i = all.each k session e in
        let below : k < length s.peers = omega (arith, slice_get_within opened k session e, all.count) in
        sym (ap (λ (b : Bool). b && told (remote_open s k)) (lt-ltb k (length s.peers) below)
        ∙ ap told i.begins ∙ ap (λ (a : ℕ). not (eqb a home_as)) (sym i.as_is))

    pub external_is : is_external_in opened home_as k ≡ is_external s home_as k
    unfolding told
    external_is = external_at (slice_get opened k) refl

-- each session that is there begins with an OPEN
pub each_opens : (s : Streams) (opened : List Opened) → AreOpened s opened → (k : ℕ) → k < length opened → IsSome (remote_open s k)
each_opens s opened all k low = by_session (slice_get opened k) refl where
  by_session : (o : Option Opened) → slice_get opened k ≡ o → IsSome (remote_open s k)
  by_session None e = absurd (not_past opened k low e)
  by_session (Some session) e = ap is_some (all k session e).begins

-- ---- the AS of the home side

module _ {A B : Type 0} (h : A → Option B) (xs : List A) (i : ℕ) (x : A) (low : i < length xs) (at : x ≡ get_or xs i x)
    (none : filter_map h (take i xs) ≡ []) where
  pub first_found : (y : B) → h x ≡ Some y → Some y ≡ slice_get (filter_map h xs) 0
  first_found y some = sym (
      ap (λ (ys : List A). slice_get (filter_map h ys) 0) (sym (take-append-drop i xs))
      ∙ ap (λ (ys : List B). slice_get ys 0) (filter_map-append h (take i xs) (drop i xs) ∙ ap (λ (ys : List B). ys ++ filter_map h (drop i xs)) none)
      ∙ ap (λ (ys : List A). slice_get (filter_map h ys) 0) (drop_more xs i x low)
      ∙ ap (λ (y : A). slice_get (cons_option (h y) (filter_map h (drop (i + 1) xs))) 0) (sym at)
      ∙ ap (λ o. slice_get (cons_option o (filter_map h (drop (i + 1) xs))) 0) some)

  pub none_found : h x ≡ None → filter_map h (take (i + 1) xs) ≡ []
  none_found is =
      ap (filter_map h) (take_more xs i x low) ∙ filter_map-append h (take i xs) (get_or xs i x ∷ [])
      ∙ ap (λ (y : A). filter_map h (take i xs) ++ cons_option (h y) []) (sym at) ∙ ap (λ o. filter_map h (take i xs) ++ cons_option o []) is
      ∙ append-nil (filter_map h (take i xs)) ∙ none

any_as_is : (a : ℕ) (opened : List Opened)
    → ((k : ℕ) (session : Opened) → slice_get opened k ≡ Some session → session.remote_as ≡ as_of session.remote)
    → list_any (λ session. eqb session.remote_as a) opened ≡ list_any (has_as a) (map (λ session. session.remote) opened)
any_as_is a [] each = refl
any_as_is a (session ∷ opened) each =
    ap (λ (n : ℕ). eqb n a || list_any (λ session. eqb session.remote_as a) opened) (each 0 session refl)
    ∙ ap (λ (t : Bool). has_as a session.remote || t) (any_as_is a opened (λ k other at. each (suc k) other at))

-- the least AS that no remote has is that of a home side whose OPENs weren't captured
pub home_free : (opened : List Opened) (r : Result ℕ NoMemory) (ases : BTreeSet ℕ) → IfOk r (λ a. 64512 ≤ a) → IfOk r (λ a. contains nat_cmp ases a ≡ false)
    → IfOk r (λ a. (b : ℕ) → 64512 ≤ b → b < a → contains nat_cmp ases b ≡ true)
    → ((a : ℕ) → contains nat_cmp ases a ≡ list_any (λ session. eqb session.remote_as a) opened)
    → ((s : Streams) → AreAllOpened s opened → None ≡ first_home s)
    → IfOk r (λ a. (s : Streams) → AreAllOpened s opened → IsHomeAs (remote_opens s) (first_home s) a)
home_free opened (Err e) ases from free least are none = tt
home_free opened (Ok a) ases from free least are none = λ s all.
    let has : (b : ℕ) → contains nat_cmp ases b ≡ list_any (has_as b) (remote_opens s) =
    λ b. are b ∙ any_as_is b opened (λ k session at. (all.each k session at).as_is) ∙ ap (list_any (has_as b)) (sym (remotes_are s opened all)) in
    subst (λ (o : Option OpenMsg). IsHomeAs (remote_opens s) o a) (none s all)
    (record { from = from; free = sym (has a) ∙ free; least = λ b low high. sym (has b) ∙ least b low high })

-- ---- reading an OPEN

open_frame : (frame : List ℕ) → frame_at frame ≡ Some (frame, []) → kind_in frame ≡ 1
    → message_of (any_as (drop 19 frame)) frame ≡ open_message (open_of (any_as (drop 19 frame)) (drop 19 frame))
unfolding message_of body_of
open_frame frame whole kind =
    let body = drop 19 frame in
    let expected = any_as body in
    ap (λ fault. with_header fault expected frame) (sound_is frame whole).header
    ∙ ap (λ (k : ℕ). cond (is_in_state OpenSent k) (body_of expected k body) (Err state_fault)) kind

-- what an OPEN that was read gives
module _ (frame : List ℕ) (whole : frame_at frame ≡ Some (frame, [])) (kind : kind_in frame ≡ 1) where
  abbrev read : Result OpenMsg Notice
  read = open_of (any_as (drop 19 frame)) (drop 19 frame)

  pub open_reads : (expected : Expected) → expected ≡ any_as (drop 19 frame) → (m : Message) → message_of expected frame ≡ Ok m → open_told m ≡ result_ok read
  open_reads expected is m e =
      by_result read (sym (open_frame frame whole kind) ∙ ap (λ (x : Expected). message_of x frame) (sym is) ∙ e)
    where
      same : (x y : Message) → ◌≡◌ {A = Result Message Notice} (Ok x) (Ok y) → x ≡ y
      same x y e = cc

      by_result : (r : Result OpenMsg Notice) → open_message r ≡ Ok m → open_told m ≡ result_ok r
      by_result (Ok o) e = ap open_told (sym (same (messages.OpenMsg o) m e))
      by_result (Err n) e = absurd cc

  pub open_faulty : (expected : Expected) → expected ≡ any_as (drop 19 frame) → (n : Notice) → fault_in (message_of expected frame) ≡ Some n
      → None ≡ result_ok read
  open_faulty expected is n e =
      by_result read (ap fault_in (sym (open_frame frame whole kind) ∙ ap (λ (x : Expected). message_of x frame) (sym is)) ∙ e)
    where
      by_result : (r : Result OpenMsg Notice) → fault_in (open_message r) ≡ Some n → None ≡ result_ok r
      by_result (Ok o) e = absurd cc
      by_result (Err m) e = refl

-- ---- the next session

pub next_heard : (s : Streams) (sessions before rest : List Session) (session : Session)
    → sessions ≡ map (session_at s.flows) (range_with_len 0 (length s.peers)) → before ++ session ∷ rest ≡ sessions
    → (length before < length s.peers) × HasHeard s (length before) session
next_heard s sessions before rest session is parts =
    let next = next_is (session_at s.flows) (length s.peers) sessions before rest session is parts in
    (next.0, has_heard s (length before) session next.1)
