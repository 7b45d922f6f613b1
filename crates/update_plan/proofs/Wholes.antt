-- One batch for each value that is told, as one prefix after the other, in rising order, joins its batch or begins one.
use Rattle.std.proofs.Common.{◌≡◌, ◌≢◌, ◌<◌, suc, false, List, [], ◌∷◌, ◌++◌, length, Option, refl, sym, ap, ◌∙◌, subst, inl, inr, arith}
use Rattle.std.specs.Prelude.{All, AllPairs, Contains}
use Rattle.std.proofs.lemmas.List.Elements.{All-nil, All-cons, All-head, All-tail, All-weaker}
use Rattle.std.proofs.lemmas.List.Kept.{AllPairs-cons}
use Rattle.bgp_types.specs.declared.attrs.Attrs.{Attrs}
use Rattle.bgp_types.specs.Prefixes.{PrefixValue}
use Rattle.session_value.specs.Sets.{Lists}
use Rattle.update_plan.specs.declared.batch.Batch.{Batch}
use Rattle.update_plan.specs.Gathering.{AddsToBatches, NoneTells, with_prefix}
use Rattle.update_plan.specs.Plans.{AreWholeBatches}
use Rattle.update_plan.proofs.Plans.{Above, Begun, Kind, Plus, alike_then, alone, push_some, same_or_apart}

pub lists_of_same : (P Q : Kind) → ((x : PrefixValue) → P x → Q x) → ((x : PrefixValue) → Q x → P x) → (xs : List PrefixValue) → Lists P xs → Lists Q xs
lists_of_same P Q to from xs l = record { rising = l.rising; each = All-weaker P Q to xs l.each; all = λ x q. l.all x (from x q) }

module _ (to_tell : PrefixValue → Option Attrs) where
  -- a batch has all of a kind that are to be told its value
  pub record IsWhole (Is : Kind) (b : Batch) : Type 0 where
    pub alike : Lists (λ x. Is x × (to_tell x ≡ b.attrs)) b.prefixes
    pub some : b.prefixes ≢ []

  abbrev Other : Kind → Batch → PrefixValue → Type 0
  Other Is b x = Is x × (to_tell x ≢ b.attrs)

  -- each batch is whole, and those behind it are of what is to be told another value
  abbrev pub Whole : Kind → List Batch → Type 0
  Whole Is [] = (x : PrefixValue) → Is x → ⊥
  Whole Is (b ∷ bs) = IsWhole Is b × Whole (Other Is b) bs

  pub whole_of_same : (Is Js : Kind) → ((x : PrefixValue) → Is x → Js x) → ((x : PrefixValue) → Js x → Is x) → (bs : List Batch) → Whole Is bs → Whole Js bs
  whole_of_same Is Js to from [] none = λ x j. none x (from x j)
  whole_of_same Is Js to from (b ∷ bs) whole = (
    record {
      alike = lists_of_same (λ x. Is x × (to_tell x ≡ b.attrs)) (λ x. Js x × (to_tell x ≡ b.attrs))
          (λ x h. (to x h.0, h.1)) (λ x h. (from x h.0, h.1)) b.prefixes whole.0.alike;
      some = whole.0.some;
    },
    whole_of_same (Other Is b) (Other Js b) (λ x h. (to x h.0, h.1)) (λ x h. (from x h.0, h.1)) bs whole.1,
  )

  -- a batch tells it of something
  record Told (Is : Kind) (v : Option Attrs) : Type 0 where
    pub prefix : PrefixValue
    pub is : Is prefix
    pub told : to_tell prefix ≡ v

  first_told : (Is : Kind) (v : Option Attrs) (xs : List PrefixValue) → xs ≢ [] → All (λ x. Is x × (to_tell x ≡ v)) xs → Told Is v
  first_told Is v [] some each = absurd (some refl)
  first_told Is v (x ∷ xs) some each =
      let h = All-head (λ y. Is y × (to_tell y ≡ v)) x xs each in record { prefix = x; is = h.0; told = h.1 }

  tells_some : (Is : Kind) (before after : List Batch) (b : Batch) → Whole Is (before ++ b ∷ after) → Told Is b.attrs
  tells_some Is [] after b whole = first_told Is b.attrs b.prefixes whole.0.some whole.0.alike.each
  tells_some Is (c ∷ before) after b whole =
      let t = tells_some (Other Is c) before after b whole.1 in record { prefix = t.prefix; is = t.is.0; told = t.told }

  -- ---- one prefix more, above all others

  module _ (p : PrefixValue) where
    -- a batch that tells something else
    whole_other : (Is : Kind) (c : Batch) → to_tell p ≢ c.attrs → IsWhole Is c → IsWhole (Plus Is p) c
    whole_other Is c other whole = record {
      alike = lists_of_same (λ x. Is x × (to_tell x ≡ c.attrs)) (λ x. Plus Is p x × (to_tell x ≡ c.attrs)) (λ x h. (inl h.0, h.1))
          (λ x h. elim h.0 [ inl is ↦ (is, h.1) | inr e ↦ absurd (other (ap to_tell (sym e) ∙ h.1)) ]) c.prefixes whole.alike;
      some = whole.some;
    }

    plus_other : (Is : Kind) (c : Batch) (bs : List Batch) → to_tell p ≢ c.attrs → Whole (Plus (Other Is c) p) bs → Whole (Other (Plus Is p) c) bs
    plus_other Is c bs other whole = whole_of_same (Plus (Other Is c) p) (Other (Plus Is p) c)
        (λ x h. elim h [ inl o ↦ (inl o.0, o.1) | inr e ↦ (inr e, λ same. other (ap to_tell (sym e) ∙ same)) ])
        (λ x o. elim o.0 [ inl is ↦ inl (is, o.1) | inr e ↦ inr e ]) bs whole

    joins : (before : List Batch) (Is : Kind) → Above Is p → (b : Batch) (after : List Batch) → b.attrs ≡ to_tell p
        → Whole Is (before ++ b ∷ after) → Whole (Plus Is p) (before ++ with_prefix b p ∷ after)
    joins [] Is above b after told whole = (
      record { alike = alike_then to_tell false p Is above b.attrs b.prefixes (sym told) whole.0.alike; some = push_some to_tell false p b.prefixes },
      whole_of_same (Other Is b) (Other (Plus Is p) (with_prefix b p)) (λ x o. (inl o.0, o.1))
          (λ x o. elim o.0 [ inl is ↦ (is, o.1) | inr e ↦ absurd (o.1 (ap to_tell e ∙ sym told)) ]) after whole.1,
    )
    joins (c ∷ before) Is above b after told whole =
        let some = tells_some (Other Is c) before after b whole.1 in
        let other : to_tell p ≢ c.attrs = λ same. some.is.1 (some.told ∙ (told ∙ same)) in (
          whole_other Is c other whole.0,
          plus_other Is c (before ++ with_prefix b p ∷ after) other (joins before (Other Is c) (λ x o. above x o.0) b after told whole.1),
        )

    begins : (bs : List Batch) (Is : Kind) → NoneTells (to_tell p) bs → Whole Is bs → Whole (Plus Is p) (bs ++ Begun to_tell false p ∷ [])
    begins [] Is none whole = (
      record { alike = alone to_tell false p Is whole; some = push_some to_tell false p [] },
      λ x o. elim o.0 [ inl is ↦ whole x is | inr e ↦ o.1 (ap to_tell e) ],
    )
    begins (c ∷ bs) Is none whole =
        let other : to_tell p ≢ c.attrs = λ same. All-head (λ d. d.attrs ≢ to_tell p) c bs none (sym same) in (
          whole_other Is c other whole.0,
          plus_other Is c (bs ++ Begun to_tell false p ∷ []) other
              (begins bs (Other Is c) (All-tail (λ d. d.attrs ≢ to_tell p) c bs none) whole.1),
        )

    pub whole_adds : (Is : Kind) (old new : List Batch) → Above Is p → AddsToBatches (to_tell p) p old new → Whole Is old → Whole (Plus Is p) new
    whole_adds Is old new above (inl join) whole = subst (Whole (Plus Is p)) (sym join.effect)
        (joins join.before Is above join.batch join.after join.there.told (subst (Whole Is) join.there.is whole))
    whole_adds Is old new above (inr begin) whole = subst (Whole (Plus Is p)) (sym begin.effect) (begins old Is begin.none whole)

  -- ---- what they are at the end

  abbrev Each : Kind → Batch → Type 0
  Each Is b = Lists (λ x. Is x × (to_tell x ≡ b.attrs)) b.prefixes × (b.prefixes ≢ [])

  -- those that tell another value than one
  apart : (Is : Kind) (b c : Batch) → Each (Other Is b) c → b.attrs ≢ c.attrs
  apart Is b c each same =
      let t = first_told (Other Is b) c.attrs c.prefixes each.1 each.0.each in t.is.1 (t.told ∙ sym same)

  each_of : (Is : Kind) (b c : Batch) → Each (Other Is b) c → Each Is c
  each_of Is b c each = (
    lists_of_same (λ x. Other Is b x × (to_tell x ≡ c.attrs)) (λ x. Is x × (to_tell x ≡ c.attrs)) (λ x h. (h.0.0, h.1))
        (λ x h. ((h.0, λ same. apart Is b c each (sym same ∙ h.1)), h.1)) c.prefixes each.0,
    each.1,
  )

  all_each : (Is : Kind) (bs : List Batch) → Whole Is bs → All (Each Is) bs
  all_each Is [] whole = All-nil (Each Is)
  all_each Is (b ∷ bs) whole = All-cons (Each Is) b bs (whole.0.alike, whole.0.some)
      (All-weaker (Each (Other Is b)) (Each Is) (each_of Is b) bs (all_each (Other Is b) bs whole.1))

  all_told : (Is : Kind) (bs : List Batch) → Whole Is bs → (x : PrefixValue) → Is x → (b : Batch) × Contains bs b × (b.attrs ≡ to_tell x)
  all_told Is [] whole x is = absurd (whole x is)
  all_told Is (b ∷ bs) whole x is = elim (same_or_apart (to_tell x) b.attrs) [
    | inl same ↦ (b, (0, omega arith, refl), sym same)
    | inr other ↦ let r = all_told (Other Is b) bs whole.1 x (is, other) in
        let within : r.1.0 < length bs = r.1.1 in
        (r.0, (suc r.1.0, omega (arith, within), r.1.2), r.2)
  ]

  all_once : (Is : Kind) (bs : List Batch) → Whole Is bs → AllPairs (λ one other. one.attrs ≢ other.attrs) bs
  all_once Is [] whole = λ i j d below within. absurd (omega (arith, within))
  all_once Is (b ∷ bs) whole = AllPairs-cons (λ one other. one.attrs ≢ other.attrs) b bs
      (All-weaker (Each (Other Is b)) (λ c. b.attrs ≢ c.attrs) (apart Is b) bs (all_each (Other Is b) bs whole.1)) (all_once (Other Is b) bs whole.1)

  pub are_whole : (Is : Kind) (bs : List Batch) → Whole Is bs → AreWholeBatches Is to_tell bs
  are_whole Is bs whole = record { each = all_each Is bs whole; all = all_told Is bs whole; once = all_once Is bs whole }
