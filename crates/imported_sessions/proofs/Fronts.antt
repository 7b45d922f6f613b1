-- The OPEN at the front of octets.
use Rattle.std.proofs.Common.{◌≡◌, ℕ, zero, suc, ◌-◌, List, [], ◌∷◌, ◌++◌, length, take, drop, cond, Bool, true, false}
use Rattle.std.proofs.Common.{Option, Some, None, refl, sym, ap, ◌∙◌, append_assoc, arith}
use Rattle.std.specs.List.{flat_map}
use Rattle.std.proofs.lemmas.List.{take_all, take-append-drop}
use Rattle.bgp_types.specs.Header.{frame_at}
use Rattle.bgp_types.specs.Many.{many}
use Rattle.bgp_types.proofs.FrameLaws.{IsFrame, front_frame, frame_shortens}
use Rattle.bgp_types.proofs.ManyLaws.{many_none, many_some}
use Rattle.imported_sessions.specs.Messages.{opening}
use Rattle.imported_sessions.specs.Opens.{first_open, open_in}
use Rattle.imported_sessions.proofs.Behind.{joins}
use Rattle.imported_sessions.proofs.Feeding.{sized}

-- ---- octets up to a length

-- the first octets of two lists, and those of the second one for which there is room behind the first one
pub take_both : (n : ℕ) (xs ys : List ℕ) → take n xs ++ take (n - length (take n xs)) ys ≡ take n (xs ++ ys)
take_both zero xs ys = let none : 0 - 0 ≡ 0 = omega arith in ap (λ n. take n ys) none
take_both (suc n) [] ys = let all : suc n - 0 ≡ suc n = omega arith in ap (λ n. take n ys) all
take_both (suc n) (x ∷ xs) ys =
    let one : suc n - suc (length (take n xs)) ≡ n - length (take n xs) = omega arith in
    ap (λ (zs : List ℕ). x ∷ zs) (ap (λ k. take n xs ++ take k ys) one ∙ take_both n xs ys)

-- ---- the front

-- a message at the front stands there whatever follows
front_stays : (bytes more : List ℕ) (x : List ℕ × List ℕ) → frame_at bytes ≡ Some x → frame_at (bytes ++ more) ≡ Some (x.0, x.1 ++ more)
front_stays bytes more x e =
    let f = front_frame bytes x e in
    ap (λ (y : List ℕ). frame_at (y ++ more)) f.0 ∙ ap frame_at (append_assoc x.0 x.1 more) ∙ f.1 (x.1 ++ more)

pub no_front : frame_at [] ≡ None
unfolding frame_at
no_front = refl

-- an opening begins with the first message
opening_front : (message : List ℕ) → IsFrame message → (rest : List (List ℕ)) (x : List ℕ)
    → open_in (frame_at (opening (message ∷ rest))) ≡ open_in (Some (message, x))
opening_front message frame [] x = ap open_in (frame [])
opening_front message frame (b ∷ rest) x = by_test (joins message b) where
  by_test : (t : Bool) → open_in (frame_at (flat_map (λ (m : List ℕ). m) (take (cond t 2 1) (message ∷ b ∷ rest)))) ≡ open_in (Some (message, x))
  by_test true = ap open_in (frame (b ++ []))
  by_test false = ap open_in (frame [])

-- the opening of a remote has its OPEN
pub opening_reads : (bytes : List ℕ) → first_open (opening (many frame_at bytes).0) ≡ first_open bytes
opening_reads bytes = by_front (frame_at bytes) refl where
  by_front : (front : Option (List ℕ × List ℕ)) → frame_at bytes ≡ front → open_in (frame_at (opening (many frame_at bytes).0)) ≡ open_in (frame_at bytes)
  by_front None e =
      ap (λ (m : List (List ℕ) × List ℕ). open_in (frame_at (opening m.0))) (many_none frame_at bytes e)
      ∙ ap open_in (no_front ∙ sym e)
  by_front (Some x) e =
      ap (λ (m : List (List ℕ) × List ℕ). open_in (frame_at (opening m.0))) (many_some frame_at frame_shortens bytes x e)
      ∙ opening_front x.0 (front_frame bytes x e).1 (many frame_at x.1).0 x.1 ∙ ap open_in (sym e)

-- so have the first 4,096 octets
pub first_octets_read : (bytes : List ℕ) → first_open (take 4096 bytes) ≡ first_open bytes
first_octets_read bytes = by_front (frame_at bytes) refl where
  none_before : (front : Option (List ℕ × List ℕ)) → frame_at (take 4096 bytes) ≡ front → frame_at bytes ≡ None → front ≡ None
  none_before None f e = refl
  none_before (Some y) f e =
      let some = front_stays (take 4096 bytes) (drop 4096 bytes) y f in
      let whole = ap frame_at (take-append-drop 4096 bytes) in
      absurd cc

  by_front : (front : Option (List ℕ × List ℕ)) → frame_at bytes ≡ front → open_in (frame_at (take 4096 bytes)) ≡ open_in (frame_at bytes)
  by_front None e = ap open_in (none_before (frame_at (take 4096 bytes)) refl e ∙ sym e)
  by_front (Some x) e =
      let f = front_frame bytes x e in
      let all : take 4096 x.0 ≡ x.0 = take_all 4096 x.0 (sized x.0 f.1).short in
      let more = take (4096 - length x.0) x.1 in
      let parts : take 4096 bytes ≡ x.0 ++ more =
      ap (take 4096) f.0 ∙ sym (take_both 4096 x.0 x.1) ∙ ap (λ (xs : List ℕ). xs ++ take (4096 - length xs) x.1) all in
      ap open_in (ap frame_at parts ∙ f.1 more) ∙ ap open_in (sym e)
