-- A whole frame reads as a message exactly where it has no fault.
use Rattle.std.proofs.Common.{◌≡◌, ℕ, zero, suc, ◌+◌, ◌-◌, ◌≤◌, List, [], ◌∷◌, ◌++◌, length, take, drop, Bool, true}
use Rattle.std.proofs.Common.{false, cond, eqb, ltb, leb, Option, Some, None, Result, Ok, Err, refl, sym, ap, ◌∙◌}
use Rattle.std.proofs.Common.{arith, length-append, length-drop, length-take-le, subst, drop-cons}
use Rattle.std.specs.Prelude.{◌||◌, ◌&&◌, replicate}
use Rattle.std.specs.List.{list_all}
use Rattle.std.specs.Int.{w16, to_be_bytes}
use Rattle.std.proofs.lemmas.Bool.{eqb-true, le-ltb, ltb-false}
use Rattle.std.proofs.lemmas.Bool.Decides.{nat_tests}
use Rattle.std.proofs.lemmas.List.{take-append-drop, drop-drop, append-nil}
use Rattle.bgp_types.specs.declared.fault.Expected.{Expected}
use Rattle.bgp_types.specs.declared.fault.HeaderFault.{HeaderFault}
use Rattle.bgp_types.specs.declared.fault.HeaderFault.TheVariants.{NotSynchronized, BadLength, BadType}
use Rattle.bgp_types.specs.declared.message.Message.{Message}
use Rattle.bgp_types.specs.declared.message.Message.TheVariants as messages
use Rattle.bgp_types.specs.declared.message.Notice.{Notice}
use Rattle.bgp_types.specs.declared.message.OpenMsg.{OpenMsg}
use Rattle.bgp_types.specs.declared.message.Update.{Update}
use Rattle.bgp_types.specs.Expect.{is_from, IsExpected}
use Rattle.bgp_types.specs.FirstFault.{is_in_state, open_message, update_message, notice_of, body_of, state_fault, with_header, message_of}
use Rattle.bgp_types.specs.Header.{has_room, fault_of_kind, len_in, kind_in, header_fault, frame_at}
use Rattle.bgp_types.specs.OctetLists.{AreOctets}
use Rattle.bgp_types.specs.OpenBody.{open_of}
use Rattle.bgp_types.specs.Reads.{Reads, ReadsBody, ReadsOpen, ReadsUpdate}
use Rattle.bgp_types.specs.Spelling.{kind_of, marker, length_prefixed, framed}
use Rattle.bgp_types.specs.UpdateBody.{update_of}
use Rattle.bgp_types.proofs.AttrLaws.{AreOctets-drop, AreOctets-take, wide16}
use Rattle.bgp_types.proofs.FrameLaws.{frame_is, frame_of}
use Rattle.bgp_types.proofs.Lengths.{framed_size}
use Rattle.bgp_types.proofs.OpenLaws.{open_read, open_are}
use Rattle.bgp_types.proofs.UpdateLaws.{update_read, update_are}

at_least : (a b : ℕ) → a ≤ b → leb a b ≡ true
at_least a b le = grind (arith, nat_tests)

-- ---- headers

all_ff : (n : ℕ) (bytes : List ℕ) → n ≤ length bytes → list_all (λ b. eqb b 255) (take n bytes) ≡ true → take n bytes ≡ replicate n 255
all_ff zero bytes le e = refl
all_ff (suc n) [] le e = absurd (omega arith)
all_ff (suc n) (b ∷ bytes) le e = by_test (eqb b 255) refl (all_ff n bytes (omega arith)) e where
  by_test : (t : Bool) → eqb b 255 ≡ t → (list_all (λ b. eqb b 255) (take n bytes) ≡ true → take n bytes ≡ replicate n 255)
      → (t && list_all (λ b. eqb b 255) (take n bytes)) ≡ true → b ∷ take n bytes ≡ 255 ∷ replicate n 255
  by_test true f ih g = ap (λ (x : ℕ). x ∷ take n bytes) (eqb-true _ _ f) ∙ ap (λ (ys : List ℕ). 255 ∷ ys) (ih g)
  by_test false f ih g = absurd cc

-- a sound header has a marker and a length and a type that have room
record IsSound (bytes : List ℕ) : Type 0 where
  marked : list_all (λ b. eqb b 255) (take 16 bytes) ≡ true
  kind : fault_of_kind (kind_in bytes) (len_in bytes) ≡ None

sound_is : (bytes : List ℕ) → header_fault bytes ≡ None → IsSound bytes
unfolding header_fault
sound_is bytes e = by_test (list_all (λ b. eqb b 255) (take 16 bytes)) refl e where
  by_test : (t : Bool) → list_all (λ b. eqb b 255) (take 16 bytes) ≡ t
      → cond t (fault_of_kind (kind_in bytes) (len_in bytes)) (Some NotSynchronized) ≡ None → IsSound bytes
  by_test true f g = record { marked = f; kind = g }
  by_test false f g = absurd cc

-- what a type and a length without fault are
pub record HasRoom (kind len : ℕ) : Type 0 where
  pub low : 19 ≤ len
  pub high : len ≤ 4096
  pub some : 1 ≤ kind
  pub known : kind ≤ 4
  pub room : has_room kind len ≡ true

pub room_is : (kind len : ℕ) → fault_of_kind kind len ≡ None → HasRoom kind len
room_is kind len e = by_test (ltb len 19) (ltb 4096 len) (eqb kind 0) (ltb 4 kind) (has_room kind len) refl refl refl refl refl e where
  by_test : (t u v w x : Bool) → ltb len 19 ≡ t → ltb 4096 len ≡ u → eqb kind 0 ≡ v → ltb 4 kind ≡ w → has_room kind len ≡ x
      → cond (t || u) (Some (BadLength len)) (cond (v || w) (Some (BadType kind)) (cond x None (Some (BadLength len)))) ≡ None → HasRoom kind len
  by_test true u v w x a b c d f e = absurd cc
  by_test false true v w x a b c d f e = absurd cc
  by_test false false true w x a b c d f e = absurd cc
  by_test false false false true x a b c d f e = absurd cc
  by_test false false false false false a b c d f e = absurd cc
  by_test false false false false true a b c d f e =
      record { low = ltb-false _ _ a; high = ltb-false _ _ b; some = grind (arith, nat_tests); known = ltb-false _ _ d; room = f }

-- a whole frame is a frame of its type
pub record IsWhole (frame : List ℕ) : Type 0 where
  pub sound : header_fault frame ≡ None
  pub octets : frame ≡ framed (kind_in frame) (drop 19 frame)
  pub size : length frame ≤ 4096
  pub room : HasRoom (kind_in frame) (19 + length (drop 19 frame))

whole_is : (frame : List ℕ) → AreOctets frame → frame_at frame ≡ Some (frame, []) → IsWhole frame
whole_is frame b e =
    let f = frame_is frame (frame, []) e in
    let s = sound_is frame f.1 in
    let r = room_is (kind_in frame) (len_in frame) s.kind in
    let le : 19 ≤ length frame = f.0 in
    let n : ℕ = len_in frame in
    let rest : drop n frame ≡ [] = ap (λ (y : List ℕ × List ℕ). y.1) f.3 in
    let none : length frame - n ≡ 0 = sym (length-drop n frame) ∙ ap length rest in
    let room = f.2 in
    let len : n ≡ length frame = omega arith in
    let body : 19 + length (drop 19 frame) ≡ n = omega (arith, length-drop 19 frame) in
    let front : take 16 frame ≡ marker = all_ff 16 frame (omega arith) s.marked in
    let two : length (take 2 (drop 16 frame)) ≡ 2 = length-take-le 2 (drop 16 frame) (rw (length-drop 16 frame) (omega arith)) in
    let told : to_be_bytes w16 (19 + length (drop 19 frame)) ≡ take 2 (drop 16 frame) =
    ap (to_be_bytes w16) body ∙ wide16.back (take 2 (drop 16 frame)) two (AreOctets-take 2 (drop 16 frame) (AreOctets-drop 16 frame b)) in
    let last : drop 2 (drop 16 frame) ≡ kind_in frame ∷ drop 19 frame = drop-drop 2 16 frame ∙ drop-cons frame 18 0 (omega arith) in
    record {
      sound = f.1;
      octets = joined frame (take 16 frame) (take 2 (drop 16 frame)) (kind_in frame ∷ drop 19 frame)
          (sym (take-append-drop 16 frame) ∙ ap (λ (y : List ℕ). take 16 frame ++ y)
          (sym (take-append-drop 2 (drop 16 frame)) ∙ ap (λ (y : List ℕ). take 2 (drop 16 frame) ++ y) last)) front (sym told);
      size = let high = r.high in omega arith;
      room = rw body r;
    }
  where
    joined : (frame xs ys zs : List ℕ) → frame ≡ xs ++ (ys ++ zs) → xs ≡ marker → ys ≡ to_be_bytes w16 (19 + length (drop 19 frame))
        → frame ≡ marker ++ (to_be_bytes w16 (19 + length (drop 19 frame)) ++ zs)
    joined frame xs ys zs e f g = e ∙ (ap (λ (y : List ℕ). y ++ (ys ++ zs)) f ∙ ap (λ (y : List ℕ). marker ++ (y ++ zs)) g)

-- ---- bodies

-- the body of a type, and what it reads as
record IsBody (expected : Expected) (kind : ℕ) (body : List ℕ) (m : Message) : Type 0 where
  kind_is : kind ≡ kind_of m
  says : ReadsBody body m expected.wide
  from : is_from expected m ≡ true

same_message : (x y : Message) → (let r : Result Message Notice = Ok x in r) ≡ Ok y → x ≡ y
same_message x y e = cc

open_body : (expected : Expected) (kind : ℕ) (body : List ℕ) (m : Message) → kind ≡ 1 → AreOctets body → 10 ≤ length body
    → open_message (open_of expected body) ≡ Ok m → IsBody expected kind body m
open_body expected kind body m k b le e = by_answer (open_of expected body) refl e where
  by_answer : (r : Result OpenMsg Notice) → open_of expected body ≡ r → open_message r ≡ Ok m → IsBody expected kind body m
  by_answer (Err n) f g = absurd cc
  by_answer (Ok o) f g =
      let read = open_read expected body o b le f in
      let here : IsBody expected kind body (messages.OpenMsg o) = record { kind_is = k; says = read.0; from = read.1 } in
      subst (λ (x : Message). IsBody expected kind body x) (same_message _ m g) here

update_body : (expected : Expected) (kind : ℕ) (body : List ℕ) (m : Message) → kind ≡ 2 → AreOctets body
    → update_message (update_of expected.wide body) ≡ Ok m → IsBody expected kind body m
update_body expected kind body m k b e = by_answer (update_of expected.wide body) refl e where
  by_answer : (r : Result Update Notice) → update_of expected.wide body ≡ r → update_message r ≡ Ok m → IsBody expected kind body m
  by_answer (Err n) f g = absurd cc
  by_answer (Ok u) f g =
      let here : IsBody expected kind body (messages.UpdateMsg u) = record { kind_is = k; says = update_read expected.wide body u b f; from = refl } in
      subst (λ (x : Message). IsBody expected kind body x) (same_message _ m g) here

notice_body : (expected : Expected) (kind : ℕ) (body : List ℕ) (m : Message) → kind ≡ 3 → 2 ≤ length body
    → (let r : Result Message Notice = Ok (messages.NoticeMsg (notice_of body)) in r) ≡ Ok m → IsBody expected kind body m
notice_body expected kind [] m k le e = absurd (omega arith)
notice_body expected kind (a ∷ []) m k le e = absurd (omega arith)
notice_body expected kind (a ∷ b ∷ body) m k le e =
    let here : IsBody expected kind (a ∷ b ∷ body) (messages.NoticeMsg (notice_of (a ∷ b ∷ body))) = record { kind_is = k; says = refl; from = refl } in
    subst (λ (x : Message). IsBody expected kind (a ∷ b ∷ body) x) (same_message _ m e) here

keepalive_body : (expected : Expected) (kind : ℕ) (body : List ℕ) (m : Message) → kind ≡ 4 → length body ≡ 0
    → (let r : Result Message Notice = Ok messages.KeepaliveMsg in r) ≡ Ok m → IsBody expected kind body m
keepalive_body expected kind (b ∷ body) m k len e = absurd (omega arith)
keepalive_body expected kind [] m k len e =
    let here : IsBody expected kind [] messages.KeepaliveMsg = record { kind_is = k; says = refl; from = refl } in
    subst (λ (x : Message). IsBody expected kind [] x) (same_message _ m e) here

room_for : (kind len : ℕ) → HasRoom kind len → (kind ≡ 1 → 29 ≤ len) × (kind ≡ 3 → 21 ≤ len) × (kind ≡ 4 → len ≡ 19)
room_for kind len r = (for1 kind len r.room, for3 kind len r.room, for4 kind len r.room) where
  for1 : (kind len : ℕ) → has_room kind len ≡ true → kind ≡ 1 → 29 ≤ len
  for1 kind len e k = let f : has_room 1 len ≡ true = subst (λ (n : ℕ). has_room n len ≡ true) k e in grind (arith, nat_tests)

  for3 : (kind len : ℕ) → has_room kind len ≡ true → kind ≡ 3 → 21 ≤ len
  for3 kind len e k = let f : has_room 3 len ≡ true = subst (λ (n : ℕ). has_room n len ≡ true) k e in grind (arith, nat_tests)

  for4 : (kind len : ℕ) → has_room kind len ≡ true → kind ≡ 4 → len ≡ 19
  for4 kind len e k = let f : has_room 4 len ≡ true = subst (λ (n : ℕ). has_room n len ≡ true) k e in grind (arith, nat_tests)

body_read : (expected : Expected) (kind : ℕ) (body : List ℕ) (m : Message) → AreOctets body → HasRoom kind (19 + length body)
    → body_of expected kind body ≡ Ok m → IsBody expected kind body m
unfolding body_of
body_read expected kind body m b room e = by_test (eqb kind 1) refl (eqb kind 2) refl (eqb kind 3) refl e where
  by_test : (t : Bool) → eqb kind 1 ≡ t → (u : Bool) → eqb kind 2 ≡ u → (v : Bool) → eqb kind 3 ≡ v
      → cond t (open_message (open_of expected body))
      (cond u (update_message (update_of expected.wide body)) (cond v (Ok (messages.NoticeMsg (notice_of body))) (Ok messages.KeepaliveMsg))) ≡ Ok m
      → IsBody expected kind body m
  by_test true f u g v h e =
      let k = eqb-true _ _ f in let le = (room_for kind (19 + length body) room).0 k in open_body expected kind body m k b (omega arith) e
  by_test false f true g v h e = update_body expected kind body m (eqb-true _ _ g) b e
  by_test false f false g true h e =
      let k = eqb-true _ _ h in let le = (room_for kind (19 + length body) room).1 k in notice_body expected kind body m k (omega arith) e
  by_test false f false g false h e =
      let low = room.some in
      let high = room.known in
      let k : kind ≡ 4 = grind (arith, nat_tests) in
      let len = (room_for kind (19 + length body) room).2 k in
      keepalive_body expected kind body m k (omega arith) e

-- ---- messages

header_passed : (o : Option HeaderFault) (expected : Expected) (frame : List ℕ) (m : Message) → o ≡ None → with_header o expected frame ≡ Ok m
    → (is_in_state expected.state (kind_in frame) ≡ true) × (body_of expected (kind_in frame) (drop 19 frame) ≡ Ok m)
header_passed (Some fault) expected frame m f e = absurd cc
header_passed None expected frame m f e = by_test (is_in_state expected.state (kind_in frame)) refl e where
  by_test : (t : Bool) → is_in_state expected.state (kind_in frame) ≡ t
      → cond t (body_of expected (kind_in frame) (drop 19 frame)) (Err state_fault) ≡ Ok m
      → (is_in_state expected.state (kind_in frame) ≡ true) × (body_of expected (kind_in frame) (drop 19 frame) ≡ Ok m)
  by_test true g e = (g, e)
  by_test false g e = absurd cc

pub message_read : (expected : Expected) (frame : List ℕ) (m : Message) → AreOctets frame → frame_at frame ≡ Some (frame, [])
    → message_of expected frame ≡ Ok m → Reads frame m expected.wide × IsExpected expected m
unfolding message_of
message_read expected frame m b whole e =
    let w = whole_is frame b whole in
    let h = header_passed (header_fault frame) expected frame m w.sound e in
    let body = body_read expected (kind_in frame) (drop 19 frame) m (AreOctets-drop 19 frame b) w.room h.1 in (
      record { body = drop 19 frame; octets = w.octets ∙ ap (λ (k : ℕ). framed k (drop 19 frame)) body.kind_is; size = w.size; says = body.says },
      record { state = ap (is_in_state expected.state) (sym body.kind_is) ∙ h.0; from = body.from },
    )

-- ---- what is spelled is read

len_again : (kind : ℕ) (body : List ℕ) → 19 + length body ≤ 4096 → len_in (framed kind body) ≡ 19 + length body
len_again kind body le = wide16.again (19 + length body) (omega arith)

no_fault : (kind len : ℕ) → 19 ≤ len → len ≤ 4096 → 1 ≤ kind → kind ≤ 4 → has_room kind len ≡ true → fault_of_kind kind len ≡ None
no_fault kind len low high some known room =
    let short : ltb len 19 ≡ false = le-ltb _ _ low in
    let long : ltb 4096 len ≡ false = le-ltb _ _ high in
    let zero_kind : eqb kind 0 ≡ false = grind (arith, nat_tests) in
    let high_kind : ltb 4 kind ≡ false = le-ltb _ _ known in
    rw (short, long, zero_kind, high_kind, room) refl

-- the header of a frame that is put together
header_again : (kind : ℕ) (body : List ℕ) → 19 + length body ≤ 4096 → 1 ≤ kind → kind ≤ 4 → has_room kind (19 + length body) ≡ true
    → header_fault (framed kind body) ≡ None
unfolding header_fault
header_again kind body size some known room =
    ap (fault_of_kind kind) (len_again kind body size) ∙ no_fault kind (19 + length body) (omega arith) size some known room

-- a body has the octets that its type asks for
record HasBody (expected : Expected) (m : Message) (body : List ℕ) : Type 0 where
  some : 1 ≤ kind_of m
  known : kind_of m ≤ 4
  room : has_room (kind_of m) (19 + length body) ≡ true
  read : body_of expected (kind_of m) body ≡ Ok m

open_length : (expected : Expected) (body : List ℕ) (o : OpenMsg) → ReadsOpen body o → 10 ≤ length body
open_length expected body o r = rw r.octets (omega arith)

update_length : (wide : Bool) (body : List ℕ) (u : Update) → ReadsUpdate wide body u → 4 ≤ length body
update_length wide body u r =
    let first = length-append (to_be_bytes w16 (length r.withdrawn)) r.withdrawn in
    let all = length-append (length_prefixed r.withdrawn) (length_prefixed r.attrs ++ r.nlri) in
    let second = length-append (length_prefixed r.attrs) r.nlri in
    let third = length-append (to_be_bytes w16 (length r.attrs)) r.attrs in
    let total = ap length r.fields in
    omega arith

has_body : (expected : Expected) (m : Message) (body : List ℕ) → ReadsBody body m expected.wide → is_from expected m ≡ true → HasBody expected m body
unfolding body_of
has_body expected (messages.OpenMsg o) body r from = let le = open_length expected body o r in record {
  some = omega arith;
  known = omega arith;
  room = at_least 29 (19 + length body) (omega arith);
  read = ap open_message (open_are expected body o r from);
}
has_body expected (messages.UpdateMsg u) body r from = let le = update_length expected.wide body u r in record {
  some = omega arith;
  known = omega arith;
  room = at_least 23 (19 + length body) (omega arith);
  read = ap update_message (update_are expected.wide body u r);
}
has_body expected (messages.NoticeMsg n) body r from = record {
  some = omega arith;
  known = omega arith;
  room = at_least 21 (19 + length body) (rw r (omega arith));
  read = ap (λ (y : List ℕ). (let x : Result Message Notice = Ok (messages.NoticeMsg (notice_of y)) in x)) r;
}
has_body expected messages.KeepaliveMsg body r from =
    record { some = omega arith; known = omega arith; room = ap (λ (y : List ℕ). has_room 4 (19 + length y)) r; read = refl }

pub message_are : (expected : Expected) (frame : List ℕ) (m : Message) → Reads frame m expected.wide → IsExpected expected m → message_of expected frame ≡ Ok m
unfolding message_of
message_are expected frame m r is =
    let h = has_body expected m r.body r.says is.from in
    let size : 19 + length r.body ≤ 4096 = let total = r.size in let len = ap length r.octets in omega (arith, framed_size (kind_of m) r.body) in
    let sound = header_again (kind_of m) r.body size h.some h.known h.room in
    ap (λ (y : List ℕ). with_header (header_fault y) expected y) r.octets
    ∙ (ap (λ (o : Option HeaderFault). with_header o expected (framed (kind_of m) r.body)) sound
    ∙ (ap (λ (t : Bool). cond t (body_of expected (kind_of m) r.body) (Err state_fault)) is.state ∙ h.read))

-- what reads as a message is a whole frame with a sound header
pub whole_frame : (expected : Expected) (frame : List ℕ) (m : Message) → Reads frame m expected.wide → IsExpected expected m → frame_at frame ≡ Some (frame, [])
whole_frame expected frame m r is =
    let h = has_body expected m r.body r.says is.from in
    let total : length frame ≡ 19 + length r.body = ap length r.octets ∙ framed_size (kind_of m) r.body in
    let size : 19 + length r.body ≤ 4096 = let most = r.size in omega arith in
    let sound : header_fault frame ≡ None = ap header_fault r.octets ∙ header_again (kind_of m) r.body size h.some h.known h.room in
    let len : len_in frame ≡ length frame = ap (λ (y : List ℕ). len_in y) r.octets ∙ (len_again (kind_of m) r.body size ∙ sym total) in
    ap frame_at (sym (append-nil frame)) ∙ frame_of frame (omega arith) sound len []
