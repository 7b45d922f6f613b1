-- What a message that is read tells of the header.
use Rattle.std.proofs.Common.{◌≡◌, ℕ, ◌≤◌, List, [], length, drop, Bool, true, false, cond, eqb, leb, Option}
use Rattle.std.proofs.Common.{Some, None, Result, Ok, Err, refl, sym, ap, ◌∙◌, inl, inr, arith}
use Rattle.std.specs.Prelude.{◌&&◌, is_none}
use Rattle.std.proofs.lemmas.Bool.{eqb-true}
use Rattle.std.proofs.lemmas.Bool.Decides.{nat_tests}
use Rattle.bgp_types.specs.declared.fault.Expected.{Expected}
use Rattle.bgp_types.specs.declared.fault.HeaderFault.{HeaderFault}
use Rattle.bgp_types.specs.declared.message.Message.{Message}
use Rattle.bgp_types.specs.declared.message.Message.TheVariants as messages
use Rattle.bgp_types.specs.declared.message.Notice.{Notice}
use Rattle.bgp_types.specs.declared.message.OpenMsg.{OpenMsg}
use Rattle.bgp_types.specs.declared.message.SessionState.{SessionState}
use Rattle.bgp_types.specs.declared.message.SessionState.TheVariants.{OpenSent, OpenConfirm, Established, Closed}
use Rattle.bgp_types.specs.declared.message.Update.{Update}
use Rattle.bgp_types.specs.FirstFault.{is_in_state, open_message, update_message, notice_of, body_of, state_fault, with_header, message_of}
use Rattle.bgp_types.specs.Header.{header_fault, kind_in}
use Rattle.bgp_types.specs.OpenBody.{open_of}
use Rattle.bgp_types.specs.Spelling.{kind_of}
use Rattle.bgp_types.specs.UpdateBody.{update_of}
use Rattle.bgp_types.proofs.FrameLaws.{frame_is}
use Rattle.bgp_story.specs.Legal.{IsGot}
use Rattle.bgp_story.specs.States.{is_type}

open_kind : (r : Result OpenMsg Notice) (m : Message) → open_message r ≡ Ok m → kind_of m ≡ 1
open_kind (Err n) m e = absurd cc
open_kind (Ok o) m e = let h : m ≡ messages.OpenMsg o = cc in ap kind_of h

update_kind : (r : Result Update Notice) (m : Message) → update_message r ≡ Ok m → kind_of m ≡ 2
update_kind (Err n) m e = absurd cc
update_kind (Ok u) m e = let h : m ≡ messages.UpdateMsg u = cc in ap kind_of h

either : (t u : Bool) → cond t true u ≡ true → t ≡ false → u ≡ false → ⊥
either true u e f g = cc
either false u e f g = cc

-- of the types that a state takes only a KEEPALIVE is left
last_kind : (state : SessionState) (kind : ℕ) → is_in_state state kind ≡ true → eqb kind 1 ≡ false → eqb kind 2 ≡ false → eqb kind 3 ≡ false → kind ≡ 4
last_kind OpenSent kind s a b c = absurd (either (eqb kind 1) (eqb kind 3) s a c)
last_kind OpenConfirm kind s a b c = by_test (eqb kind 4) refl s where
  by_test : (t : Bool) → eqb kind 4 ≡ t → cond t true (eqb kind 3) ≡ true → kind ≡ 4
  by_test true f g = eqb-true _ _ f
  by_test false f g = absurd cc
last_kind Established kind s a b c = by_test (eqb kind 4) refl s where
  by_test : (t : Bool) → eqb kind 4 ≡ t → cond t true (cond (eqb kind 2) true (eqb kind 3)) ≡ true → kind ≡ 4
  by_test true f g = eqb-true _ _ f
  by_test false f g = absurd (either (eqb kind 2) (eqb kind 3) g b c)
last_kind Closed kind s a b c = absurd cc

body_kind : (e : Expected) (kind : ℕ) (body : List ℕ) (m : Message) → is_in_state e.state kind ≡ true → body_of e kind body ≡ Ok m → kind ≡ kind_of m
unfolding body_of
body_kind e kind body m s g = tests (eqb kind 1) (eqb kind 2) (eqb kind 3) refl refl refl g where
  tests : (t u v : Bool) → eqb kind 1 ≡ t → eqb kind 2 ≡ u → eqb kind 3 ≡ v
      → cond t (open_message (open_of e body))
      (cond u (update_message (update_of e.wide body)) (cond v (Ok (messages.NoticeMsg (notice_of body))) (Ok messages.KeepaliveMsg))) ≡ Ok m
      → kind ≡ kind_of m
  tests true u v a b c h = eqb-true _ _ a ∙ sym (open_kind (open_of e body) m h)
  tests false true v a b c h = eqb-true _ _ b ∙ sym (update_kind (update_of e.wide body) m h)
  tests false false true a b c h = let i : messages.NoticeMsg (notice_of body) ≡ m = cc in eqb-true _ _ c ∙ ap kind_of i
  tests false false false a b c h = let i : messages.KeepaliveMsg ≡ m = cc in last_kind e.state kind s a b c ∙ ap kind_of i

-- a frame that reads as a message has a sound header of its type, which the state takes
pub record IsRead (e : Expected) (bytes : List ℕ) (m : Message) : Type 0 where
  pub sound : header_fault bytes ≡ None
  pub kind : kind_in bytes ≡ kind_of m
  pub in_state : is_in_state e.state (kind_of m) ≡ true

pub read_of : (e : Expected) (bytes : List ℕ) (m : Message) → message_of e bytes ≡ Ok m → IsRead e bytes m
unfolding message_of
read_of e bytes m g = by_header (header_fault bytes) refl g where
  by_state : (t : Bool) → header_fault bytes ≡ None → is_in_state e.state (kind_in bytes) ≡ t
      → cond t (body_of e (kind_in bytes) (drop 19 bytes)) (Err state_fault) ≡ Ok m → IsRead e bytes m
  by_state true h s f =
      let k : kind_in bytes ≡ kind_of m = body_kind e (kind_in bytes) (drop 19 bytes) m s f in
      record { sound = h; kind = k; in_state = ap (is_in_state e.state) (sym k) ∙ s }
  by_state false h s f = absurd cc

  by_header : (o : Option HeaderFault) → header_fault bytes ≡ o → with_header o e bytes ≡ Ok m → IsRead e bytes m
  by_header (Some fault) h f = absurd cc
  by_header None h f = by_state (is_in_state e.state (kind_in bytes)) h refl f

-- ---- types by the header

pub got_long : (bytes : List ℕ) → IsGot bytes → leb 19 (length bytes) ≡ true
got_long bytes (inl e) = let f = frame_is bytes (bytes, []) e in let le : 19 ≤ length bytes = f.0 in grind (arith, nat_tests)
got_long bytes (inr h) = let le : length bytes ≡ 19 = h.0 in grind (arith, nat_tests)

pub type_is : (kind n : ℕ) (bytes : List ℕ) → IsGot bytes → header_fault bytes ≡ None → kind_in bytes ≡ n → is_type kind bytes ≡ eqb n kind
type_is kind n bytes w h k = ap (λ (t : Bool). t && (is_none (header_fault bytes) && eqb (kind_in bytes) kind)) (got_long bytes w)
    ∙ (ap (λ (o : Option HeaderFault). is_none o && eqb (kind_in bytes) kind) h ∙ ap (λ (x : ℕ). eqb x kind) k)

pub read_type : (kind : ℕ) (e : Expected) (bytes : List ℕ) (m : Message) → IsGot bytes → IsRead e bytes m → is_type kind bytes ≡ eqb (kind_of m) kind
read_type kind e bytes m w r = type_is kind (kind_of m) bytes w r.sound r.kind

all_take_notice : (state : SessionState) → is_in_state state 3 ≡ true
all_take_notice OpenSent = refl
all_take_notice OpenConfirm = refl
all_take_notice Established = refl
all_take_notice Closed = refl

notice_read : (e : Expected) (bytes : List ℕ) → header_fault bytes ≡ None → kind_in bytes ≡ 3
    → message_of e bytes ≡ Ok (messages.NoticeMsg (notice_of (drop 19 bytes)))
unfolding message_of body_of
notice_read e bytes h k =
    ap (λ (o : Option HeaderFault). with_header o e bytes) h
    ∙ (ap (λ (x : ℕ). cond (is_in_state e.state x) (body_of e x (drop 19 bytes)) (Err state_fault)) k
    ∙ ap (λ (t : Bool). cond t (body_of e 3 (drop 19 bytes)) (Err state_fault)) (all_take_notice e.state))

-- a NOTIFICATION with a sound header has no fault
pub notice_sound : (e : Expected) (bytes : List ℕ) (n : Notice) → message_of e bytes ≡ Err n → is_type 3 bytes ≡ false
notice_sound e bytes n g = by_parts (leb 19 (length bytes)) (header_fault bytes) (eqb (kind_in bytes) 3) refl refl where
  by_parts : (t : Bool) (o : Option HeaderFault) (u : Bool) → header_fault bytes ≡ o → eqb (kind_in bytes) 3 ≡ u → (t && (is_none o && u)) ≡ false
  by_parts false o u h k = refl
  by_parts true (Some fault) u h k = refl
  by_parts true None false h k = refl
  by_parts true None true h k = let f = notice_read e bytes h (eqb-true _ _ k) in absurd cc
