-- The prefixes of UPDATEs are prefixes, as one more is added.
use Rattle.std.proofs.Common.{List, [], ◌∷◌, ◌++◌, Option, Bool, sym, subst, inl, inr}
use Rattle.std.specs.Prelude.{Result, Ok, Err, OnOk}
use Rattle.std.specs.List.{All}
use Rattle.std.proofs.lemmas.List.Elements.{All-nil, All-cons, All-head, All-tail, All-append, All-push}
use Rattle.bgp_types.specs.declared.attrs.Attrs.{Attrs}
use Rattle.bgp_types.specs.Prefixes.{PrefixValue, IsPrefix}
use Rattle.update_plan.specs.declared.batch.Batch.{Batch}
use Rattle.update_plan.specs.Gathering.{AddsToUpdates, AreSound, with_prefix}

abbrev Sound : Batch → Type 0
Sound batch = All IsPrefix batch.prefixes

front : (xs ys : List Batch) → AreSound (xs ++ ys) → AreSound xs
front [] ys h = All-nil Sound
front (x ∷ xs) ys h = All-cons Sound x xs (All-head Sound x (xs ++ ys) h) (front xs ys (All-tail Sound x (xs ++ ys) h))

back : (xs ys : List Batch) → AreSound (xs ++ ys) → AreSound ys
back [] ys h = h
back (x ∷ xs) ys h = back xs ys (All-tail Sound x (xs ++ ys) h)

pub sound_adds : (wide : Bool) (attrs : Option Attrs) (prefix : PrefixValue) (old new : List Batch) → IsPrefix prefix
    → AddsToUpdates wide attrs prefix old new → AreSound old → AreSound new
sound_adds wide attrs prefix old new is (inl j) sound =
    let all : AreSound (j.before ++ j.batch ∷ j.after) = subst AreSound j.there.is sound in
    let rest = back j.before (j.batch ∷ j.after) all in
    subst AreSound (sym j.effect)
    (All-append Sound j.before (with_prefix j.batch prefix ∷ j.after) (front j.before (j.batch ∷ j.after) all)
    (All-cons Sound (with_prefix j.batch prefix) j.after
    (All-push IsPrefix j.batch.prefixes prefix (All-head Sound j.batch j.after rest) is) (All-tail Sound j.batch j.after rest)))
sound_adds wide attrs prefix old new is (inr b) sound =
    subst AreSound (sym b.effect)
    (All-push Sound old (record { attrs = attrs; prefixes = prefix ∷ [] }) sound (All-cons IsPrefix prefix [] is (All-nil IsPrefix)))

pub sound_ok : {A E : Type 0} (r : Result A E) (wide : Bool) (attrs : Option Attrs) (prefix : PrefixValue) (old new : List Batch) → IsPrefix prefix
    → OnOk r (AddsToUpdates wide attrs prefix old new) → OnOk r (AreSound old → AreSound new)
sound_ok (Ok a) wide attrs prefix old new is adds = sound_adds wide attrs prefix old new is adds
sound_ok (Err e) wide attrs prefix old new is adds = tt
