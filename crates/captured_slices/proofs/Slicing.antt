-- What a slice of a stream brings to it.
use Rattle.std.proofs.Common.{◌≡◌, ℕ, suc, ◌+◌, ◌-◌, ◌^◌, ◌<◌, ◌≤◌, ◌⊎◌, inl, inr, ltb, Bool, false, List, [], ◌∷◌, ◌++◌, length, take, drop}
use Rattle.std.proofs.Common.{Option, Some, None, get_or, refl, sym, ap, ◌∙◌, subst, arith}
use Rattle.std.specs.Prelude.{◌&&◌, ◌==◌, not, nat_lt, if◌then◌else◌}
use Rattle.std.specs.List.{slice_get}
use Rattle.std.specs.Option.{option_or}
use Rattle.std.proofs.Math.Seq.{take-add}
use Rattle.std.proofs.lemmas.Bool.{cases_lt, lt-ltb, le-ltb}
use Rattle.std.proofs.lemmas.Bool.Decides.{nat_tests}
use Rattle.std.proofs.lemmas.Option.{none-some, slice_get-get_or, slice_get_within}
use Rattle.tcp_seq.specs.Numbers.{plus, offset_from, number}
use Rattle.tcp_seq.specs.Endpoint.{byte_from}
use Rattle.tcp_seq.proofs.ByteFrom.{byte_below, byte_there, byte_within}
use Rattle.tcp_seq.proofs.Lookups.{get-drop, get-take}
use Rattle.tcp_reasm.specs.Reassembly.{byte_ahead, brought}
use Rattle.tcp_end.proofs.Offsets.{ahead_offset, brought_offset}
use Rattle.tcp_packets.specs.Reading.{Segment}
use Rattle.captured_streams.specs.Flows.{is_beyond, Brings}
use Rattle.captured_slices.specs.Slices.{IsSliceAt}
use Rattle.captured_slices.proofs.Types.{Stream}

-- ---- lists and options

or_some : (a b : Option ℕ) (x : ℕ) → option_or a b ≡ Some x → (a ≡ Some x) ⊎ ((a ≡ None) × (b ≡ Some x))
or_some None b x e = inr (refl, e)
or_some (Some y) b x e = inl e

has_or : (a b : Option ℕ) (x : ℕ) → b ≡ Some x → (y : ℕ) × (option_or a b ≡ Some y)
has_or None b x e = (x, e)
has_or (Some y) b x e = (y, refl)

-- the first elements of a list, by their places
first_ones : (xs ys : List ℕ) → ((k x : ℕ) → slice_get xs k ≡ Some x → slice_get ys k ≡ Some x) → xs ≡ take (length xs) ys
first_ones [] ys same = refl
first_ones (x ∷ xs) [] same = absurd (none-some x (same 0 x refl))
first_ones (x ∷ xs) (y ∷ ys) same =
    let head : y ≡ x = cc (same 0 x refl) in
    ap (λ (z : ℕ). z ∷ xs) (sym head) ∙ ap (λ (zs : List ℕ). y ∷ zs) (first_ones xs ys (λ k z at. same (suc k) z at))

-- ---- a stream

-- It has given the first octets of what is said, and those ahead are the ones that are said there; none is beyond this length.
pub record IsOfStream (first : ℕ) (said : List ℕ) (reach : ℕ) (stream : Stream) : Type 0 where
  pub given : stream.given ≤ reach
  pub next : stream.rest.next ≡ number first stream.given
  pub ahead : (j octet : ℕ) → byte_ahead stream.rest j ≡ Some octet → (stream.given + j < reach) × (slice_get said (stream.given + j) ≡ Some octet)

-- It has the octet at this place of what is said.
abbrev pub Has : Stream → ℕ → Type 0
Has stream place = (place < stream.given) ⊎ ((j : ℕ) × (octet : ℕ) × (place ≡ stream.given + j) × (byte_ahead stream.rest j ≡ Some octet))

-- ---- what a segment brings

within_window : (len ahead : ℕ) → (not (len == 0) && ltb ahead (2 ^ 31) && ltb 16384 (ahead + len)) ≡ false → 0 < len → ahead < 2 ^ 31 → ahead + len ≤ 16384
within_window len ahead test some near = grind (arith, nat_tests)

module _ (first : ℕ) (said : List ℕ) (reach : ℕ) (said_fits : length said ≤ 2 ^ 20) (reach_fits : reach ≤ length said) (before : Stream) (s : Segment)
    (offset : ℕ) (of : IsOfStream first said reach before) (slice : IsSliceAt first said offset s) (reaches : offset + length s.octets ≤ reach) where
  brought_is : (j : ℕ) → brought before.rest.next s.first s.octets j
      ≡ (if nat_lt j 16384 then byte_from offset s.octets (before.given + j) else None)
  brought_is j =
      ap (λ (n : ℕ). brought n s.first s.octets j) of.next ∙ ap (λ (n : ℕ). brought (number first before.given) n s.octets j) slice.number_is
      ∙ brought_offset first before.given offset s.octets j (omega (arith, of.given, said_fits, reach_fits))
      (omega (arith, slice.within, said_fits)) (omega (arith, slice.short))

  octet_is : (i octet : ℕ) → slice_get s.octets i ≡ Some octet → slice_get said (offset + i) ≡ Some octet
  octet_is i octet at =
      let below = slice_get_within s.octets i octet at in
      sym (get-drop offset said i (offset + i) refl) ∙ sym (get-take (length s.octets) (drop offset said) i below)
      ∙ ap (λ (xs : List ℕ). slice_get xs i) (sym slice.octets_are) ∙ at

  from_segment : (place octet : ℕ) → byte_from offset s.octets place ≡ Some octet → (place < reach) × (slice_get said place ≡ Some octet)
  from_segment place octet is = elim (cases_lt place offset) [
    | inl below ↦ absurd (none-some octet (sym (byte_below offset s.octets place below) ∙ is))
    | inr from ↦
        let at : slice_get s.octets (place - offset) ≡ Some octet = sym (byte_there offset s.octets place from) ∙ is in
        let here : offset + (place - offset) ≡ place = omega (arith, from) in (
          omega (arith, slice_get_within s.octets (place - offset) octet at, reaches, from),
          ap (slice_get said) (sym here) ∙ octet_is (place - offset) octet at,
        )
  ]

  brought_from : (j octet : ℕ) → brought before.rest.next s.first s.octets j ≡ Some octet
      → (before.given + j < reach) × (slice_get said (before.given + j) ≡ Some octet)
  brought_from j octet is = elim (cases_lt j 16384) [
    | inl near ↦ from_segment (before.given + j) octet
        (sym (ap (λ (b : Bool). if b then byte_from offset s.octets (before.given + j) else None) (lt-ltb j 16384 near)) ∙ sym (brought_is j) ∙ is)
    | inr far ↦ absurd (none-some octet
        (sym (ap (λ (b : Bool). if b then byte_from offset s.octets (before.given + j) else None) (le-ltb j 16384 far)) ∙ sym (brought_is j) ∙ is))
  ]

  -- the segment isn't beyond the window, and so none of its octets is
  in_window : is_beyond before s ≡ false → (j : ℕ) → offset ≤ before.given + j → before.given + j < offset + length s.octets → j < 16384
  in_window near j from below = elim (cases_lt offset before.given) [
    | inl behind ↦ omega (arith, slice.short, behind, below)
    | inr ahead ↦
        let far : offset_from s.first before.rest.next ≡ offset - before.given =
        ap (λ (n : ℕ). offset_from n before.rest.next) slice.number_is ∙ ap (offset_from (number first offset)) of.next
        ∙ ahead_offset first before.given offset ahead (omega (arith, slice.within, said_fits)) in
        let fits = within_window (length s.octets) (offset_from s.first before.rest.next) near (omega (arith, from, below))
        (omega (arith, far, slice.within, said_fits)) in
        omega (arith, fits, far, ahead, from, below)
  ]

  brought_there : is_beyond before s ≡ false → (j : ℕ) → offset ≤ before.given + j → before.given + j < offset + length s.octets
      → (octet : ℕ) × (brought before.rest.next s.first s.octets j ≡ Some octet)
  brought_there near j from below = (
    get_or s.octets (before.given + j - offset) 0,
    brought_is j
        ∙ ap (λ (b : Bool). if b then byte_from offset s.octets (before.given + j) else None) (lt-ltb j 16384 (in_window near j from below))
        ∙ byte_within offset s.octets (before.given + j) from below,
  )

  -- ---- the stream behind it

  module _ (octets : List ℕ) (after : Stream) (brings : Brings before s octets after) where
    between_from : (j octet : ℕ) → byte_ahead brings.between j ≡ Some octet
        → (before.given + j < reach) × (slice_get said (before.given + j) ≡ Some octet)
    between_from j octet is = elim (or_some (byte_ahead before.rest j) (brought before.rest.next s.first s.octets j) octet
        (sym (brings.puts.ahead j) ∙ is)) [
          | inl old ↦ of.ahead j octet old
          | inr new ↦ brought_from j octet new.1
        ]

    given_at : (k octet : ℕ) → slice_get octets k ≡ Some octet → byte_ahead brings.between k ≡ Some octet
    given_at k octet at =
        let same : octets ≡ brings.takes.given = brings.takes.appended in
        brings.takes.each k (slice_get_within octets k octet at) ∙ ap (λ (xs : List ℕ). slice_get xs k) (sym same) ∙ at

    -- the octets that it gives are those that are said behind the ones given before
    pub said_next : octets ≡ take (length octets) (drop before.given said)
    said_next = first_ones octets (drop before.given said) (λ k octet at.
        get-drop before.given said k (before.given + k) refl ∙ (between_from k octet (given_at k octet at)).1)

    given_within : after.given ≤ reach
    given_within = elim (cases_lt 0 (length octets)) [
      | inl some ↦
          let last = length octets - 1 in
          let at : slice_get octets last ≡ Some (get_or octets last 0) = slice_get-get_or octets last 0 (omega (arith, some)) in
          omega (arith, (between_from last (get_or octets last 0) (given_at last (get_or octets last 0) at)).0, brings.given, some)
      | inr none ↦ omega (arith, brings.given, of.given, none)
    ]

    pub of_stream_still : IsOfStream first said reach after
    of_stream_still = record {
      given = given_within;
      next = brings.takes.next ∙ ap (λ (n : ℕ). plus n (length octets)) (brings.puts.next ∙ of.next)
          ∙ (let e : plus (number first before.given) (length octets) ≡ number first (before.given + length octets) = omega arith in e)
          ∙ ap (number first) (sym brings.given);
      ahead = λ j octet is.
          let h = between_from (length octets + j) octet (sym (brings.takes.ahead j) ∙ is) in
          let same : before.given + (length octets + j) ≡ after.given + j = omega (arith, brings.given) in
          (omega (arith, h.0, brings.given), ap (slice_get said) (sym same) ∙ h.1);
    }

    pub taken_more : take before.given said ++ octets ≡ take after.given said
    taken_more =
        ap (λ (xs : List ℕ). take before.given said ++ xs) said_next ∙ sym (take-add before.given (length octets) said)
        ∙ ap (λ (n : ℕ). take n said) (sym brings.given)

    -- what stands ahead with the segment is given, or stands ahead behind it
    still_there : (j octet : ℕ) → byte_ahead brings.between j ≡ Some octet → Has after (before.given + j)
    still_there j octet is = elim (cases_lt j (length octets)) [
      | inl low ↦ inl (omega (arith, brings.given, low))
      | inr high ↦
          let same : length octets + (j - length octets) ≡ j = omega (arith, high) in
          inr (
            j - length octets,
            octet,
            omega (arith, brings.given, high),
            brings.takes.ahead (j - length octets) ∙ ap (byte_ahead brings.between) same ∙ is,
          )
    ]

    pub has_still : (place : ℕ) → Has before place → Has after place
    has_still place (inl low) = inl (omega (arith, brings.given, low))
    has_still place (inr (j, octet, is, there)) =
        subst (Has after) (sym is) (still_there j octet
        (brings.puts.ahead j ∙ ap (λ (o : Option ℕ). option_or o (brought before.rest.next s.first s.octets j)) there))

    ahead_between : is_beyond before s ≡ false → (j : ℕ) → offset ≤ before.given + j → before.given + j < offset + length s.octets
        → (octet : ℕ) × (byte_ahead brings.between j ≡ Some octet)
    ahead_between near j from below =
        let b = brought_there near j from below in
        let there = has_or (byte_ahead before.rest j) (brought before.rest.next s.first s.octets j) b.0 b.1 in
        (there.0, brings.puts.ahead j ∙ there.1)

    pub has_brought : is_beyond before s ≡ false → (place : ℕ) → offset ≤ place → place < offset + length s.octets → Has after place
    has_brought near place from below = elim (cases_lt place before.given) [
      | inl low ↦ inl (omega (arith, brings.given, low))
      | inr high ↦
          let j = place - before.given in
          let is : before.given + j ≡ place = omega (arith, high) in
          let there = ahead_between near j (omega (arith, is, from)) (omega (arith, is, below)) in
          subst (Has after) is (still_there j there.0 there.1)
    ]
