-- The steps so far, and one step more.
use Rattle.std.proofs.Common.{◌≡◌, ℕ, ◌+◌, ◌<◌, ◌≤◌, Bool, true, false, cond, min, List, [], ◌∷◌, ◌++◌, length, take, get_or, Some}
use Rattle.std.proofs.Common.{refl, sym, ap, ◌∙◌, subst, inl, inr, arith}
use Rattle.std.specs.Prelude.{◌&&◌, ◌==◌, nat_le, nat_lt, unwrap_or}
use Rattle.std.specs.List.{flat_map, slice_get}
use Rattle.std.specs.BTreeMap.{BTreeMap, get, is_at, Updates}
use Rattle.std.specs.Ordering.{nat_cmp, is_eq}
use Rattle.std.specs.Cmp.{Equal-is}
use Rattle.std.proofs.lemmas.Bool.{and_parts, cases_eq, cases_lt, cond-true, cond-false, eq-eqb, false≢true, ne_eqb}
use Rattle.std.proofs.lemmas.Bool.Decides.{leb_tells}
use Rattle.std.proofs.lemmas.Grind.{flat_map-append}
use Rattle.std.proofs.lemmas.List.{append-nil, flat_map_more, length-append, take_more}
use Rattle.std.proofs.lemmas.Map.Lookups.{exact_unsigned}
use Rattle.std.proofs.lemmas.Option.{get_or_from_slice_get, slice_get-get_or, slice_get_within}
use Rattle.imported_sessions.specs.Imports.{octets_by}
use Rattle.imported_sessions.specs.declared.imported.Said.{Said}
use Rattle.imported_sessions.specs.declared.imported.ImportedPeering.{ImportedPeering}
use Rattle.imported_sessions.specs.declared.imported.Imported.{Imported}
use Rattle.lab_import.specs.Texts.{head_text, step_text, steps_text, tail_text}
use Rattle.lab_import.specs.Limits.{fits_step, length_with, opening_at, place_of}

-- an element that was read at its index
pub item_at : {X : Type 0} (xs ys : List X) (i : ℕ) (x : X) → ys ≡ xs → i < length ys → x ≡ get_or ys i x → slice_get xs i ≡ Some x
item_at xs ys i x same below is =
    subst (λ zs. slice_get zs i ≡ Some x) same (slice_get-get_or ys i x below ∙ ap (λ y. Some y) (sym is))

taken : {X : Type 0} (xs : List X) (i : ℕ) (x : X) → slice_get xs i ≡ Some x → take (i + 1) xs ≡ take i xs ++ x ∷ []
taken xs i x at = take_more xs i x (slice_get_within xs i x at) ∙ ap (λ y. take i xs ++ y ∷ []) (get_or_from_slice_get xs i x x at)

-- A sum that was cut off far above a limit is within the limit where the whole sum is.
pub capped : (a limit most b : ℕ) → limit < most → b ≡ min a most → nat_le b limit ≡ nat_le a limit
capped a limit most b above is = elim (leb_tells a limit) [
  | inl here ↦ elim (leb_tells b limit) [ inl there ↦ there.0 ∙ sym here.0 | inr past ↦ absurd (omega (arith, here.1, past.1, is, above)) ]
  | inr far ↦ elim (leb_tells b limit) [ inl there ↦ absurd (omega (arith, far.1, there.1, is, above)) | inr past ↦ past.0 ∙ sym far.0 ]
]

-- how many octets each remote has said with its opening and the first n steps, where it has said some in them
abbrev pub Counts : Imported → (n : ℕ) → BTreeMap ℕ ℕ → Type 0
Counts i n said = (q : ℕ) → unwrap_or (get nat_cmp said q) (length (opening_at i.peerings q))
    ≡ length (opening_at i.peerings q) + length (flat_map (octets_by q) (take n i.steps))

apart : (a q : ℕ) → (a ≡ q → ⊥) → is_at (nat_cmp a) q ≡ false
apart a q ne = elim (is_eq (nat_cmp a q)) as (λ (b : Bool). is_eq (nat_cmp a q) ≡ b → b ≡ false) [
  | true ↦ λ e. absurd (ne (exact_unsigned a q ((Equal-is (nat_cmp a q)).0 e)))
  | false ↦ λ e. refl
] refl

module _ (i : Imported) (n : ℕ) (step : Said) (at : slice_get i.steps n ≡ Some step) where
  module _ (old one two : List ℕ) (so_far : one ≡ old ++ steps_text (take n i.steps)) (more : two ≡ one ++ step_text step) where
    pub text_more : two ≡ old ++ steps_text (take (n + 1) i.steps)
    text_more =
        more ∙ ap (λ t. t ++ step_text step) so_far ∙ flat_map_more step_text old (take n i.steps) step
        ∙ ap (λ steps. old ++ steps_text steps) (sym (taken i.steps n step at))

    pub len_more : old ≡ head_text i → length two ≡ length (head_text i) + length (steps_text (take (n + 1) i.steps))
    len_more head =
        ap length text_more ∙ length-append old (steps_text (take (n + 1) i.steps))
        ∙ ap (λ (t : List ℕ). length t + length (steps_text (take (n + 1) i.steps))) head

  -- the place of the step, where the peerings are read as ps
  pub place_here : (said : BTreeMap ℕ ℕ) (ps : List ImportedPeering) (place : ℕ) → Counts i n said → ps ≡ i.peerings
      → place ≡ unwrap_or (get nat_cmp said step.peer) (length (opening_at ps step.peer)) → place ≡ place_of i n step
  place_here said ps place counts same is =
      is ∙ ap (λ qs. unwrap_or (get nat_cmp said step.peer) (length (opening_at qs step.peer))) same ∙ counts step.peer

  said_more : (q : ℕ) → length (flat_map (octets_by q) (take (n + 1) i.steps))
      ≡ length (flat_map (octets_by q) (take n i.steps)) + length (octets_by q step)
  said_more q =
      ap (λ steps. length (flat_map (octets_by q) steps)) (taken i.steps n step at)
      ∙ ap length (flat_map-append (octets_by q) (take n i.steps) (step ∷ []))
      ∙ length-append (flat_map (octets_by q) (take n i.steps)) (octets_by q step ++ [])
      ∙ ap (λ t. length (flat_map (octets_by q) (take n i.steps)) + length t) (append-nil (octets_by q step))

  module _ (said said' : BTreeMap ℕ ℕ) (counts : Counts i n said) (end : ℕ) (end_is : end ≡ place_of i n step + length step.octets)
      (updates : Updates nat_cmp said said' step.peer (Some end)) where
    of_it : unwrap_or (get nat_cmp said' step.peer) (length (opening_at i.peerings step.peer))
        ≡ length (opening_at i.peerings step.peer) + length (flat_map (octets_by step.peer) (take (n + 1) i.steps))
    of_it =
        let says : octets_by step.peer step ≡ step.octets = cond-true (step.peer == step.peer) step.octets [] (eq-eqb step.peer step.peer refl) in
        let more = said_more step.peer in
        let many : length (octets_by step.peer step) ≡ length step.octets = ap length says in
        let now : unwrap_or (get nat_cmp said' step.peer) (length (opening_at i.peerings step.peer)) ≡ end
        = ap (λ o. unwrap_or o (length (opening_at i.peerings step.peer))) updates.1 in
        now ∙ omega (arith, end_is, more, many)

    of_other : (q : ℕ) → (step.peer ≡ q → ⊥) → unwrap_or (get nat_cmp said' q) (length (opening_at i.peerings q))
        ≡ length (opening_at i.peerings q) + length (flat_map (octets_by q) (take (n + 1) i.steps))
    of_other q ne =
        let silent : octets_by q step ≡ [] = cond-false (step.peer == q) step.octets [] (ne_eqb step.peer q ne) in
        let more = said_more q in
        let none : length (octets_by q step) ≡ 0 = ap length silent in
        let now : unwrap_or (get nat_cmp said' q) (length (opening_at i.peerings q)) ≡ unwrap_or (get nat_cmp said q) (length (opening_at i.peerings q))
        = ap (λ o. unwrap_or o (length (opening_at i.peerings q))) (updates.2 q (apart step.peer q ne)) in
        now ∙ counts q ∙ omega (arith, more, none)

    pub counts_more : Counts i (n + 1) said'
    counts_more q = elim (cases_eq step.peer q) [
      | inl e ↦ subst (λ p. unwrap_or (get nat_cmp said' p) (length (opening_at i.peerings p))
          ≡ length (opening_at i.peerings p) + length (flat_map (octets_by p) (take (n + 1) i.steps))) e of_it
      | inr ne ↦ of_other q ne
    ]

  pub fits_more : ((m : ℕ) (other : Said) → m < n → slice_get i.steps m ≡ Some other → fits_step i m other ≡ true) → fits_step i n step ≡ true
      → (m : ℕ) (other : Said) → m < n + 1 → slice_get i.steps m ≡ Some other → fits_step i m other ≡ true
  fits_more first here m other below there = elim (cases_lt m n) [
    | inl low ↦ first m other low there
    | inr high ↦
        let same : n ≡ m = omega (arith, high, below) in
        let is : step ≡ other = cc (at, ap (slice_get i.steps) same, there) in
        subst (λ (k : ℕ). fits_step i k other ≡ true) same (subst (λ (o : Said). fits_step i n o ≡ true) is here)
  ]

  -- the test of a step, with sums that are cut off at 2^64
  pub fits_is : (place octets end len tail total : ℕ) → place ≡ place_of i n step → octets ≡ length step.octets
      → end ≡ min (place + octets) 18446744073709551615 → len ≡ length (head_text i) + length (steps_text (take (n + 1) i.steps))
      → tail ≡ length (tail_text i) → total ≡ min (len + tail) 18446744073709551615
      → (nat_lt n 4095 && nat_le end 1048576 && nat_le total 4194304) ≡ fits_step i n step
  fits_is place octets end len tail total place_is octets_are end_is len_is tail_is total_is =
      let last : nat_le end 1048576 ≡ nat_le (place_of i n step + length step.octets) 1048576 =
      capped (place_of i n step + length step.octets) 1048576 18446744073709551615 end (omega arith) (omega (arith, end_is, place_is, octets_are)) in
      let long : nat_le total 4194304 ≡ nat_le (length_with i (n + 1)) 4194304 =
      capped (length_with i (n + 1)) 4194304 18446744073709551615 total (omega arith) (omega (arith, total_is, len_is, tail_is)) in
      ap (λ b. nat_lt n 4095 && b && nat_le total 4194304) last
      ∙ ap (λ b. nat_lt n 4095 && nat_le (place_of i n step + length step.octets) 1048576 && b) long

  -- A step that has room ends at no number that is cut off.
  pub exact : (place octets end : ℕ) → place ≡ place_of i n step → octets ≡ length step.octets → end ≡ min (place + octets) 18446744073709551615
      → fits_step i n step ≡ true → end ≡ place_of i n step + length step.octets
  exact place octets end place_is octets_are end_is fits =
      let last = place_of i n step + length step.octets in
      let parts = and_parts (nat_lt n 4095 && nat_le last 1048576) (nat_le (length_with i (n + 1)) 4194304) fits in
      let within = (and_parts (nat_lt n 4095) (nat_le last 1048576) parts.0).1 in
      let small : place_of i n step + length step.octets ≤ 1048576 = elim (leb_tells last 1048576) [
        | inl here ↦ here.1
        | inr past ↦ absurd (false≢true (sym past.0 ∙ within))
      ] in
      omega (arith, end_is, place_is, octets_are, small)
