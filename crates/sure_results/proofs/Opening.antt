-- What a session makes of more bytes: the messages that were there are read first, and an established session stays so, or ends.
use Rattle.std.proofs.Common.{◌≡◌, ℕ, zero, suc, ◌<◌, ◌≤◌, Bool, true, false, cond, leb, List, [], ◌∷◌, ◌++◌, length, take, drop, Option, Some, None, refl}
use Rattle.std.proofs.Common.{sym, ap, ◌∙◌, subst, arith, append_assoc, append-nil, ◌⊎◌, inl, inr}
use Rattle.std.specs.Prelude.{◌&&◌, is_some, fold}
use Rattle.std.proofs.lemmas.Bool.Decides.{nat_tests}
use Rattle.std.proofs.lemmas.List.{take-append-drop, length-take-le}
use Rattle.std.proofs.lemmas.List.Sums.{fold-append}
use Rattle.bgp_types.specs.declared.message.SessionState.{SessionState}
use Rattle.bgp_types.specs.declared.message.SessionState.TheVariants.{OpenSent, OpenConfirm, Established, Closed}
use Rattle.bgp_types.specs.FirstFault.{message_of}
use Rattle.bgp_types.specs.Header.{frame_at, header_fault}
use Rattle.bgp_types.proofs.FrameLaws.{IsFrame, front_frame, header_same, frame_shortens}
use Rattle.bgp_types.proofs.ManyLaws.{many_some}
use Rattle.bgp_story.specs.Legal.{reply_to}
use Rattle.session_value.proofs.Replies.{confirmed_from}
use Rattle.graft_model.specs.Setups.{PeeringSetup}
use Rattle.even_inputs.specs.Readings.{Reading, nothing_read, expected_by, with_message, unless_ended, read_next, faulty_front, fronts_in, reading_of}
use Rattle.even_inputs.proofs.Fronts.{at_end, faulty_in_front}
use Rattle.even_inputs.proofs.Lists.{both}
use Rattle.even_inputs.proofs.AllRead.{stays_ended}

-- ---- fronts

-- the messages in bytes are the first of those in these and further bytes
pub record FrontsGrow (xs ys : List ℕ) : Type 0 where
  pub more : List (List ℕ)
  pub is : fronts_in (xs ++ ys) ≡ fronts_in xs ++ more

one_front : (frame rest : List ℕ) → IsFrame frame → fronts_in (frame ++ rest) ≡ frame ∷ fronts_in rest
one_front frame rest is = ap (λ (x : List (List ℕ) × List ℕ). x.0 ++ faulty_front x.1)
    (many_some frame_at frame_shortens (frame ++ rest) (frame, rest) (is rest))

-- where no message is at the front, a faulty header there stays the only one
stops : (xs ys : List ℕ) → fronts_in xs ≡ faulty_front xs → FrontsGrow xs ys
stops xs ys only = by_test (leb 19 (length xs) && is_some (header_fault xs)) refl where
  by_test : (b : Bool) → (leb 19 (length xs) && is_some (header_fault xs)) ≡ b → FrontsGrow xs ys
  by_test false e = record {
    more = fronts_in (xs ++ ys);
    is = ap (λ (fs : List (List ℕ)). fs ++ fronts_in (xs ++ ys)) (sym (only ∙ ap (λ (b : Bool). cond b (take 19 xs ∷ []) []) e));
  }
  by_test true e =
      let parts = both (leb 19 (length xs)) (is_some (header_fault xs)) e in
      let long : 19 ≤ length xs = grind (arith, nat_tests, parts.0) in
      let size : length (take 19 xs) ≡ 19 = length-take-le 19 xs long in
      let same : header_fault (take 19 xs) ≡ header_fault xs =
      sym (header_same (take 19 xs) (drop 19 xs) (omega (arith, size))) ∙ ap header_fault (take-append-drop 19 xs) in
      let split : xs ++ ys ≡ take 19 xs ++ (drop 19 xs ++ ys) =
      ap (λ (zs : List ℕ). zs ++ ys) (sym (take-append-drop 19 xs)) ∙ append_assoc (take 19 xs) (drop 19 xs) ys in
      record {
        more = [];
        is = ap fronts_in split ∙ faulty_in_front (take 19 xs) (drop 19 xs ++ ys) (size, ap is_some same ∙ parts.1)
            ∙ sym (append-nil (fronts_in xs) ∙ only ∙ ap (λ (b : Bool). cond b (take 19 xs ∷ []) []) e);
      }

fronts_within : (n : ℕ) (xs ys : List ℕ) → length xs < n → FrontsGrow xs ys
fronts_within zero xs ys l = absurd (omega (arith, l))
fronts_within (suc n) xs ys l = by_frame (frame_at xs) refl (λ zs m. fronts_within n zs ys m) where
  by_frame : (o : Option (List ℕ × List ℕ)) → frame_at xs ≡ o → ((zs : List ℕ) → length zs < n → FrontsGrow zs ys) → FrontsGrow xs ys
  by_frame None e rest = stops xs ys (at_end xs e)
  by_frame (Some x) e rest =
      let front = front_frame xs x e in
      let shorter = frame_shortens.shorter xs x e in
      let later : FrontsGrow x.1 ys = rest x.1 (omega (arith, shorter, l)) in
      record {
        more = later.more;
        is = ap (λ (zs : List ℕ). fronts_in (zs ++ ys)) front.0
            ∙ ap fronts_in (append_assoc x.0 x.1 ys)
            ∙ one_front x.0 (x.1 ++ ys) front.1
            ∙ ap (λ (fs : List (List ℕ)). x.0 ∷ fs) later.is
            ∙ ap (λ (fs : List (List ℕ)). fs ++ later.more) (sym (ap fronts_in front.0 ∙ one_front x.0 x.1 front.1));
      }

pub fronts_grow : (xs ys : List ℕ) → FrontsGrow xs ys
fronts_grow xs ys = fronts_within (suc (length xs)) xs ys (omega arith)

-- ---- readings

-- established, or at its end
abbrev pub UpOrEnded : SessionState → Type 0
UpOrEnded state = (state ≡ Established) ⊎ (state ≡ Closed)

module _ (peering : PeeringSetup) where
  next_up : (r : Reading) (bytes : List ℕ) → r.state ≡ Established → UpOrEnded (read_next peering r bytes).state
  next_up r bytes up =
      subst (λ (s : SessionState). UpOrEnded s)
      (sym (ap (λ (s : SessionState). (unless_ended s r (with_message r (message_of (expected_by peering r) bytes))).state) up))
      (by_state (reply_to (message_of (expected_by peering r) bytes)).1 refl)
    where
      by_state : (s : SessionState) → (reply_to (message_of (expected_by peering r) bytes)).1 ≡ s
          → UpOrEnded (reply_to (message_of (expected_by peering r) bytes)).1
      by_state Established e = inl e
      by_state Closed e = inr e
      by_state OpenSent e =
          let first : r.state ≡ OpenSent = confirmed_from (expected_by peering r) bytes _ _ refl
          (λ f. (let g : OpenSent ≡ Established = sym e ∙ f in absurd cc)) (λ f. (let g : OpenSent ≡ Closed = sym e ∙ f in absurd cc)) in
          let not : Established ≡ OpenSent = sym up ∙ first in absurd cc
      by_state OpenConfirm e =
          let first : r.state ≡ OpenSent = confirmed_from (expected_by peering r) bytes _ _ refl
          (λ f. (let g : OpenConfirm ≡ Established = sym e ∙ f in absurd cc)) (λ f. (let g : OpenConfirm ≡ Closed = sym e ∙ f in absurd cc)) in
          let not : Established ≡ OpenSent = sym up ∙ first in absurd cc

  all_up : (fs : List (List ℕ)) (r : Reading) → UpOrEnded r.state → UpOrEnded (fold (read_next peering) r fs).state
  all_up [] r is = is
  all_up (f ∷ fs) r (inl up) = all_up fs (read_next peering r f) (next_up r f up)
  all_up (f ∷ fs) r (inr closed) = inr (ap (λ (x : Reading). x.state) (stays_ended peering (f ∷ fs) r closed) ∙ closed)

  -- a session that is established by the first bytes is so by all, or it has ended
  pub still_up : (xs ys : List ℕ) → (reading_of peering xs).state ≡ Established → UpOrEnded (reading_of peering (xs ++ ys)).state
  still_up xs ys up =
      let g : FrontsGrow xs ys = fronts_grow xs ys in
      subst (λ (r : Reading). UpOrEnded r.state)
      (sym (ap (fold (read_next peering) nothing_read) g.is ∙ fold-append (read_next peering) nothing_read (fronts_in xs) g.more))
      (all_up g.more (reading_of peering xs) (inl up))
