-- When two tables, two sets, two endpoints or two sessions are the same.
use Rattle.std.proofs.Common.{◌≡◌, ℕ, ◌+◌, ◌≤◌, Bool, true, false, List, [], ◌∷◌, ◌++◌, length, Option, Some, None, refl, sym, ap, ◌∙◌, subst, inl, inr, arith}
use Rattle.std.specs.Prelude.{◌⊎◌, take, is_some, IsSome, max}
use Rattle.std.proofs.Math.Seq.{take-append_seam}
use Rattle.std.specs.FinMap as map
use Rattle.bgp_types.specs.declared.message.SessionState.{SessionState}
use Rattle.bgp_types.specs.declared.message.SessionState.TheVariants.{OpenSent, OpenConfirm, Established, Closed}
use Rattle.bgp_types.specs.Header.{frame_at, header_fault}
use Rattle.bgp_types.specs.declared.fault.HeaderFault.{HeaderFault}
use Rattle.bgp_types.specs.Prefixes.{PrefixValue}
use Rattle.bgp_types.specs.Tables.{prefix_cmp}
use Rattle.bgp_types.proofs.TableLaws.{prefix_total, exact_prefixes}
use Rattle.bgp_types.proofs.FrameLaws.{front_frame, frame_is, header_same}
use Rattle.bgp_story.specs.declared.line.Line.{Line}
use Rattle.bgp_story.specs.declared.line.Line.TheVariants.{Got, Tick}
use Rattle.bgp_story.specs.Legal.{IsGot, expected_next}
use Rattle.bgp_story.specs.Readings.{apply_if, unless_closed, update_in}
use Rattle.bgp_types.specs.FirstFault.{message_of}
use Rattle.tcp_seq.specs.Endpoint.{Endpoint, PlacedSegment, EmitsSlice, EmitsEmpty, slice_at}
use Rattle.session_value.specs.Sessions.{SessionValue, peering_of, state}
use Rattle.session_value.specs.Cases.{GetsFrame, PassesRound, put_by, having_read, sending}
use Rattle.session_value.specs.Sets.{BestRoutes, Prefixes, has, Marks}
use Rattle.graft_model.specs.Slices.{EmitsAt}
use Rattle.graft_model.specs.Parts.{Errand, Live, RouterPart}
use Rattle.graft_model.specs.RouterRows.{IsLive, DueThen}

-- ---- tables and sets

pub same_table : {A : Type 0} (m n : map.FinMap prefix_cmp A) → ((x : PrefixValue) → map.get m x ≡ map.get n x) → m ≡ n
same_table m n is = map.same_map prefix_total exact_prefixes m n is

both_there : (a b : Option (Unit {0})) → is_some a ≡ is_some b → a ≡ b
both_there None None e = refl
both_there None (Some b) e = absurd cc
both_there (Some a) None e = absurd cc
both_there (Some a) (Some b) e = refl

pub same_set : (m n : Prefixes) → ((x : PrefixValue) → has m x ≡ has n x) → m ≡ n
same_set m n is = same_table m n (λ x. both_there (map.get m x) (map.get n x) (is x))

marked_alike : {A : Type 0} (before after other : Prefixes) (old new : map.FinMap prefix_cmp A) (x : PrefixValue) (s t : Bool)
    → Marks before old new after → Marks before old new other → has after x ≡ s → has other x ≡ t → s ≡ t
marked_alike before after other old new x true true m n a o = refl
marked_alike before after other old new x false false m n a o = refl
marked_alike before after other old new x true false m n a o =
    elim (m.marked x a) [ inl was ↦ let e = (n.others x o).0 in absurd cc | inr differs ↦ absurd (differs ((n.others x o).1)) ]
marked_alike before after other old new x false true m n a o =
    elim (n.marked x o) [ inl was ↦ let e = (m.others x a).0 in absurd cc | inr differs ↦ absurd (differs ((m.others x a).1)) ]

pub same_marks : {A : Type 0} (before after other : Prefixes) (old new : map.FinMap prefix_cmp A) → Marks before old new after
    → Marks before old new other → after ≡ other
same_marks before after other old new m n = same_set after other (λ x. marked_alike before after other old new x (has after x) (has other x) m n refl refl)

-- ---- offsets

pub same_session : (s t : SessionValue) (o u : Option Errand) → Live s o ≡ Live t u → s ≡ t
same_session s t o u e = cc

pub same_order : (s t : SessionValue) (o u : Option Errand) → Live s o ≡ Live t u → o ≡ u
same_order s t o u e = cc

pub live_here : (part : RouterPart) (p : ℕ) (s t : SessionValue) (o u : Option Errand) → IsLive part p s o → IsLive part p t u → Live s o ≡ Live t u
live_here part p s t o u a b = sym a.is ∙ b.is

-- ---- what is emitted

slice_is : (from len : ℕ) (e : Endpoint) (g : PlacedSegment) → g.offset ≡ from → length g.bytes ≡ len → g ≡ slice_at e g.offset (length g.bytes)
    → g ≡ slice_at e from len
slice_is from len e g offset size slice = slice ∙ (ap (λ (n : ℕ). slice_at e n (length g.bytes)) offset ∙ ap (λ (n : ℕ). slice_at e from n) size)

rise_is : (from len : ℕ) (e a : Endpoint) (g : PlacedSegment) → g.offset ≡ from → length g.bytes ≡ len → EmitsSlice e g a
    → a ≡ record e { emitted = max e.emitted (from + len) }
rise_is from len e a g offset size emits = emits.rises
    ∙ (ap (λ (n : ℕ). let x : Endpoint = record e { emitted = max e.emitted (n + length g.bytes) } in x) offset
    ∙ ap (λ (n : ℕ). let x : Endpoint = record e { emitted = max e.emitted (from + n) } in x) size)

none_in : (e : Endpoint) (g : PlacedSegment) → g ≡ slice_at e e.emitted 0 → length g.bytes ≡ 0
none_in e g is = ap (λ (x : PlacedSegment). length x.bytes) is

pub same_segment : (from len : ℕ) (e a b : Endpoint) (g h : PlacedSegment) → EmitsAt from len e g a → EmitsAt from len e h b → g ≡ h
same_segment from len e a b g h one other = by_cases one.emits other.emits where
  by_cases : EmitsSlice e g a ⊎ EmitsEmpty e g a → EmitsSlice e h b ⊎ EmitsEmpty e h b → g ≡ h
  by_cases (inl x) (inl y) = slice_is from len e g one.offset one.size x.slice ∙ sym (slice_is from len e h other.offset other.size y.slice)
  by_cases (inl x) (inr y) = let n = none_in e h y.empty in let s = x.some in let k = one.size in let l = other.size in absurd (omega arith)
  by_cases (inr x) (inl y) = let n = none_in e g x.empty in let s = y.some in let k = one.size in let l = other.size in absurd (omega arith)
  by_cases (inr x) (inr y) = x.empty ∙ sym y.empty

pub same_end : (from len : ℕ) (e a b : Endpoint) (g h : PlacedSegment) → EmitsAt from len e g a → EmitsAt from len e h b → a ≡ b
same_end from len e a b g h one other = by_cases one.emits other.emits where
  by_cases : EmitsSlice e g a ⊎ EmitsEmpty e g a → EmitsSlice e h b ⊎ EmitsEmpty e h b → a ≡ b
  by_cases (inl x) (inl y) = rise_is from len e a g one.offset one.size x ∙ sym (rise_is from len e b h other.offset other.size y)
  by_cases (inl x) (inr y) = let n = none_in e h y.empty in let s = x.some in let k = one.size in let l = other.size in absurd (omega arith)
  by_cases (inr x) (inl y) = let n = none_in e g x.empty in let s = y.some in let k = one.size in let l = other.size in absurd (omega arith)
  by_cases (inr x) (inr y) = x.given ∙ sym y.given

-- ---- what is got, and rounds

pub same_front : {A : Type 0} (a b r s : List A) → length a ≡ length b → a ++ r ≡ b ++ s → a ≡ b
same_front a b r s n e = sym (take-append_seam a r) ∙ (ap (take (length a)) e ∙ (ap (λ (k : ℕ). take k (b ++ s)) n ∙ take-append_seam b s))

no_fault : (o : Option HeaderFault) → o ≡ None → IsSome o → ⊥
no_fault None e there = absurd cc
no_fault (Some fault) e there = absurd cc

frame_or_fault : (a b r s : List ℕ) → frame_at a ≡ Some (a, []) → length b ≡ 19 → IsSome (header_fault b) → a ++ r ≡ b ++ s → ⊥
frame_or_fault a b r s frame size fault e =
    let h = frame_is a (a, []) frame in
    let long : 19 ≤ length b = omega arith in
    no_fault (header_fault b) (sym (header_same b s long) ∙ (ap header_fault (sym e) ∙ (header_same a r h.0 ∙ h.1))) fault

abbrev first_in : List ℕ → Option (List ℕ × List ℕ) → List ℕ
first_in other None = other
first_in other (Some x) = x.0

same_pair : (a b r s : List ℕ) → ◌≡◌ {A = Option (List ℕ × List ℕ)} (Some (a, r)) (Some (b, s)) → a ≡ b
same_pair a b r s e = ap (first_in a) e

pub same_got : (a b r s : List ℕ) → IsGot a → IsGot b → a ++ r ≡ b ++ s → a ≡ b
same_got a b r s (inl f) (inl g) e = same_pair a b r s (sym ((front_frame a (a, []) f).1 r) ∙ (ap frame_at e ∙ (front_frame b (b, []) g).1 s))
same_got a b r s (inl f) (inr g) e = absurd (frame_or_fault a b r s f g.0 g.1 e)
same_got a b r s (inr f) (inl g) e = absurd (frame_or_fault b a s r g f.0 f.1 (sym e))
same_got a b r s (inr f) (inr g) e = same_front a b r s (f.0 ∙ sym g.0) e

-- two answers with their states
same_answer : {A B : Type 0} (x : A × B) (a b : A) (s t : B) → x ≡ (a, s) → x ≡ (b, t) → ◌≡◌ {A = A × B} (a, s) (b, t)
same_answer x a b s t e f = sym e ∙ f

-- the session after an answer to what was got, and to a round
abbrev got_with : SessionValue → List ℕ → List Line × SessionState → SessionValue
got_with s bytes x = record s {
  story = s.story ++ Got bytes ∷ x.0;
  adj_rib_in = unless_closed x.1 (apply_if s.adj_rib_in (update_in (message_of (expected_next (peering_of s.config) s.story (state s)) bytes)));
  adj_rib_out = unless_closed x.1 s.adj_rib_out;
  end = sending (put_by s (s.story ++ Got bytes ∷ x.0) x.0) (having_read (length bytes) s.end);
}

abbrev round_with : SessionValue → ℕ → List Line × SessionState → SessionValue
round_with s round x = record s {
  story = s.story ++ Tick round ∷ x.0;
  adj_rib_in = unless_closed x.1 s.adj_rib_in;
  adj_rib_out = unless_closed x.1 s.adj_rib_out;
  end = sending (put_by s (s.story ++ Tick round ∷ x.0) x.0) s.end;
}

gets_same : (s a b : SessionValue) (bytes : List ℕ) → GetsFrame s bytes a → GetsFrame s bytes b → a ≡ b
gets_same s a b bytes g h = let e = same_answer _ g.answer h.answer g.next h.next g.reply h.reply in g.effect ∙ (ap (got_with s bytes) e ∙ sym h.effect)

pub same_next : (s a b : SessionValue) (x y : List ℕ) → GetsFrame s x a → GetsFrame s y b → a ≡ b
same_next s a b x y g h = gets_same s a b x g (subst (λ (z : List ℕ). GetsFrame s z b) (sym (same_got x y g.rest h.rest g.got h.got (sym g.front ∙ h.front))) h)

pub same_round : (s a b : SessionValue) (round : ℕ) → PassesRound s round a → PassesRound s round b → a ≡ b
same_round s a b round g h = let e = same_answer _ g.answer h.answer g.next h.next g.reply h.reply in g.effect ∙ (ap (round_with s round) e ∙ sym h.effect)

-- what is due then
emptied : (a b : Prefixes) → ((x : PrefixValue) → has a x ≡ false) → ((x : PrefixValue) → has b x ≡ false) → a ≡ b
emptied a b f g = same_set a b (λ x. f x ∙ sym (g x))

pub same_due : (from to : SessionState) (best : BestRoutes) (before a b : Prefixes) → DueThen from to best before a → DueThen from to best before b → a ≡ b
same_due OpenSent OpenSent best before a b f g = f ∙ sym g
same_due OpenSent OpenConfirm best before a b f g = f ∙ sym g
same_due OpenSent Established best before a b f g = f ∙ sym g
same_due OpenSent Closed best before a b f g = emptied a b f g
same_due OpenConfirm OpenSent best before a b f g = f ∙ sym g
same_due OpenConfirm OpenConfirm best before a b f g = f ∙ sym g
same_due OpenConfirm Established best before a b f g = same_set a b (λ x. f x ∙ sym (g x))
same_due OpenConfirm Closed best before a b f g = emptied a b f g
same_due Established OpenSent best before a b f g = f ∙ sym g
same_due Established OpenConfirm best before a b f g = f ∙ sym g
same_due Established Established best before a b f g = f ∙ sym g
same_due Established Closed best before a b f g = emptied a b f g
same_due Closed OpenSent best before a b f g = f ∙ sym g
same_due Closed OpenConfirm best before a b f g = f ∙ sym g
same_due Closed Established best before a b f g = f ∙ sym g
same_due Closed Closed best before a b f g = emptied a b f g
