-- The last UPDATE that tells something, in a list that changes at one index.
use Rattle.std.proofs.Common.{◌≡◌, ◌≢◌, ℕ, List, [], ◌∷◌, ◌++◌, length, get_or, Option, refl, sym, ap, ◌∙◌, subst, arith}
use Rattle.std.specs.Prelude.{slice_set}
use Rattle.std.proofs.lemmas.List.{get_or_at, set_at}
use Rattle.std.proofs.lemmas.List.Elements.{All-nil, All-cons, All-head, All-tail, All-append}
use Rattle.bgp_types.specs.declared.attrs.Attrs.{Attrs}
use Rattle.bgp_types.specs.Prefixes.{PrefixValue}
use Rattle.update_plan.specs.declared.batch.Batch.{Batch}
use Rattle.update_plan.specs.Gathering.{NoneTells, LastThatTells, with_prefix}

abbrev Apart : Option Attrs → Batch → Type 0
Apart attrs batch = batch.attrs ≢ attrs

-- those before and behind one
pub none_before : (attrs : Option Attrs) (before after : List Batch) (batch : Batch) → NoneTells attrs (before ++ batch ∷ after) → NoneTells attrs before
none_before attrs [] after batch none = All-nil (Apart attrs)
none_before attrs (x ∷ xs) after batch none = All-cons (Apart attrs) x xs (All-head (Apart attrs) x (xs ++ batch ∷ after) none)
    (none_before attrs xs after batch (All-tail (Apart attrs) x (xs ++ batch ∷ after) none))

pub none_behind : (attrs : Option Attrs) (before after : List Batch) (batch : Batch) → NoneTells attrs (before ++ batch ∷ after)
    → NoneTells attrs (batch ∷ after)
none_behind attrs [] after batch none = none
none_behind attrs (x ∷ xs) after batch none = none_behind attrs xs after batch (All-tail (Apart attrs) x (xs ++ batch ∷ after) none)

pub none_there : (attrs : Option Attrs) (before after : List Batch) (batch : Batch) → NoneTells attrs (before ++ batch ∷ after) → batch.attrs ≡ attrs → ⊥
none_there attrs before after batch none told = All-head (Apart attrs) batch after (none_behind attrs before after batch none) told

-- another in the place of one
pub none_replaced : (attrs : Option Attrs) (before after : List Batch) (batch other : Batch) → other.attrs ≢ attrs
    → NoneTells attrs (before ++ batch ∷ after) → NoneTells attrs (before ++ other ∷ after)
none_replaced attrs before after batch other apart none =
    All-append (Apart attrs) before (other ∷ after) (none_before attrs before after batch none)
    (All-cons (Apart attrs) other after apart (All-tail (Apart attrs) batch after (none_behind attrs before after batch none)))

-- there is one last
pub one_last : (attrs : Option Attrs) (before before' after after' : List Batch) (batch batch' : Batch) → before ++ batch ∷ after ≡ before' ++ batch' ∷ after'
    → batch.attrs ≡ attrs → NoneTells attrs after → batch'.attrs ≡ attrs → NoneTells attrs after' → batch ≡ batch'
one_last attrs [] [] after after' batch batch' e told none told' none' = cc
one_last attrs [] (y ∷ ys) after after' batch batch' e told none told' none' =
    let tail : after ≡ ys ++ batch' ∷ after' = cc in
    absurd (none_there attrs ys after' batch' (subst (NoneTells attrs) tail none) told')
one_last attrs (x ∷ xs) [] after after' batch batch' e told none told' none' =
    let tail : after' ≡ xs ++ batch ∷ after = cc in
    absurd (none_there attrs xs after batch (subst (NoneTells attrs) tail none') told)
one_last attrs (x ∷ xs) (y ∷ ys) after after' batch batch' e told none told' none' =
    let tail : xs ++ batch ∷ after ≡ ys ++ batch' ∷ after' = cc in one_last attrs xs ys after after' batch batch' tail told none told' none'

-- the index of one, where another changed
pub record StillLast (attrs : Option Attrs) (batches before : List Batch) (batch : Batch) : Type 0 where
  pub front : List Batch
  pub after : List Batch
  pub there : LastThatTells attrs batches front batch after
  pub number : length front ≡ length before

still_further : (attrs : Option Attrs) (x y : Batch) (batches before : List Batch) (batch : Batch) → StillLast attrs batches before batch
    → StillLast attrs (x ∷ batches) (y ∷ before) batch
still_further attrs x y batches before batch s = record {
  front = x ∷ s.front;
  after = s.after;
  there = record { is = ap (λ (l : List Batch). x ∷ l) s.there.is; told = s.there.told; last = s.there.last };
  number = omega (arith, s.number);
}

pub still_last : (attrs : Option Attrs) (xs ys after after' : List Batch) (old new batch : Batch) → old.attrs ≢ attrs → new.attrs ≢ attrs
    → xs ++ old ∷ after ≡ ys ++ batch ∷ after' → batch.attrs ≡ attrs → NoneTells attrs after'
    → StillLast attrs (xs ++ new ∷ after) ys batch
still_last attrs [] [] after after' old new batch apart apart' e told none =
    let same : old ≡ batch = cc in absurd (apart (ap (λ (b : Batch). b.attrs) same ∙ told))
still_last attrs [] (y ∷ ys) after after' old new batch apart apart' e told none =
    let tail : after ≡ ys ++ batch ∷ after' = cc in
    record { front = new ∷ ys; after = after'; there = record { is = ap (λ (l : List Batch). new ∷ l) tail; told = told; last = none }; number = refl }
still_last attrs (x ∷ xs) [] after after' old new batch apart apart' e told none =
    let head : x ≡ batch = cc in
    let tail : xs ++ old ∷ after ≡ after' = cc in
    record {
      front = [];
      after = xs ++ new ∷ after;
      there = record {
        is = ap (λ (b : Batch). b ∷ (xs ++ new ∷ after)) head;
        told = told;
        last = none_replaced attrs xs after old new apart' (subst (NoneTells attrs) (sym tail) none);
      };
      number = refl;
    }
still_last attrs (x ∷ xs) (y ∷ ys) after after' old new batch apart apart' e told none =
    let tail : xs ++ old ∷ after ≡ ys ++ batch ∷ after' = cc in
    still_further attrs x y (xs ++ new ∷ after) ys batch (still_last attrs xs ys after after' old new batch apart apart' tail told none)

-- one more prefix in the batch at an index
pub joined : (items before after : List Batch) (batch lent : Batch) (n : ℕ) (prefixes : List PrefixValue) (prefix : PrefixValue)
    → items ≡ before ++ batch ∷ after → length before ≡ n → lent ≡ get_or items n lent
    → prefixes ≡ lent.prefixes ++ prefix ∷ []
    → slice_set items n (record { attrs = lent.attrs; prefixes = prefixes }) ≡ before ++ with_prefix batch prefix ∷ after
joined items before after batch lent n prefixes prefix is at lends pushed =
    let same : lent ≡ batch = lends ∙ (ap (λ (l : List Batch). get_or l n lent) is ∙ get_or_at before batch after lent n at) in
    let value : record { attrs = lent.attrs; prefixes = prefixes } ≡ with_prefix batch prefix =
    ap (λ (l : List PrefixValue). record { attrs = lent.attrs; prefixes = l }) pushed ∙ ap (λ (b : Batch). with_prefix b prefix) same in
    ap (λ (l : List Batch). slice_set l n (record { attrs = lent.attrs; prefixes = prefixes })) is
    ∙ (ap (slice_set (before ++ batch ∷ after) n) value ∙ set_at before batch after (with_prefix batch prefix) n at)
