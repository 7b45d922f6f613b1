-- Routes that are noted one after another.
use Rattle.std.proofs.Common.{◌≡◌, ℕ, ◌+◌, ◌<◌, ◌≤◌, List, [], ◌∷◌, ◌++◌, Option, Result, Ok, Err, length}
use Rattle.std.proofs.Common.{take, sym, ap, ◌∙◌, subst, append_assoc, append-nil, slice_index_or}
use Rattle.std.specs.Prelude.{OnOk}
use Rattle.std.specs.List.{cons_option, filter_map, flat_map}
use Rattle.std.proofs.lemmas.List.{take_more, take_all}
use Rattle.std.proofs.lemmas.List.Concat.{flat_map-append}
use Rattle.std.proofs.lemmas.List.Elements.{filter_map-append}
use Rattle.even_inputs.specs.Evenness.{Med}
use Rattle.lab_answers.specs.declared.meds.Meds.{Meds}
use Rattle.lab_answers.specs.Noted.{KeepsFirstMeds, NotesMeds}

-- nothing is noted
pub adds_none : (kept : Meds) → NotesMeds [] kept kept
adds_none kept before is = subst (λ (l : List Med). KeepsFirstMeds l kept) (sym (append-nil before)) is

-- these, and then those
pub adds_both : (first second : List Med) (old middle new : Meds) → NotesMeds first old middle → NotesMeds second middle new
    → NotesMeds (first ++ second) old new
adds_both first second old middle new one two before is =
    subst (λ (l : List Med). KeepsFirstMeds l new) (append_assoc before first second) (two (before ++ first) (one before is))

pub adds_same : (meds others : List Med) (old new : Meds) → meds ≡ others → NotesMeds meds old new → NotesMeds others old new
adds_same meds others old new e adds = subst (λ (l : List Med). NotesMeds l old new) e adds

-- ---- in loops

-- one element more
pub one_more : {X : Type 0} (xs : List X) (i : ℕ) (x : X) → i < length xs → x ≡ slice_index_or xs i x → take (i + 1) xs ≡ take i xs ++ x ∷ []
one_more xs i x below is = take_more xs i x below ∙ ap (λ y. take i xs ++ y ∷ []) (sym is)

pub flat_step : {X : Type 0} (f : X → List Med) (xs : List X) (i : ℕ) (x : X) (old middle new : Meds) → i < length xs → x ≡ slice_index_or xs i x
    → NotesMeds (flat_map f (take i xs)) old middle → NotesMeds (f x) middle new → NotesMeds (flat_map f (take (i + 1) xs)) old new
flat_step f xs i x old middle new below is before this =
    adds_same (flat_map f (take i xs) ++ f x) (flat_map f (take (i + 1) xs)) old new
    (sym (ap (flat_map f) (one_more xs i x below is) ∙ flat_map-append f (take i xs) (x ∷ [])
    ∙ ap (λ (l : List Med). flat_map f (take i xs) ++ l) (append-nil (f x))))
    (adds_both (flat_map f (take i xs)) (f x) old middle new before this)

pub filter_step : {X : Type 0} (f : X → Option Med) (xs : List X) (i : ℕ) (x : X) (old middle new : Meds) → i < length xs → x ≡ slice_index_or xs i x
    → NotesMeds (filter_map f (take i xs)) old middle → NotesMeds (cons_option (f x) []) middle new → NotesMeds (filter_map f (take (i + 1) xs)) old new
filter_step f xs i x old middle new below is before this =
    adds_same (filter_map f (take i xs) ++ cons_option (f x) []) (filter_map f (take (i + 1) xs)) old new
    (sym (ap (filter_map f) (one_more xs i x below is) ∙ filter_map-append f (take i xs) (x ∷ [])))
    (adds_both (filter_map f (take i xs)) (cons_option (f x) []) old middle new before this)

-- at the end of a loop
pub flat_all : {X : Type 0} (f : X → List Med) (xs : List X) (i : ℕ) (old new : Meds) → length xs ≤ i → NotesMeds (flat_map f (take i xs)) old new
    → NotesMeds (flat_map f xs) old new
flat_all f xs i old new past adds = subst (λ (l : List _). NotesMeds (flat_map f l) old new) (take_all i xs past) adds

pub filter_all : {X : Type 0} (f : X → Option Med) (xs : List X) (i : ℕ) (old new : Meds) → length xs ≤ i
    → NotesMeds (filter_map f (take i xs)) old new → NotesMeds (filter_map f xs) old new
filter_all f xs i old new past adds = subst (λ (l : List _). NotesMeds (filter_map f l) old new) (take_all i xs past) adds

-- ---- in answers

pub on_ok_same : {A E : Type 0} (r : Result A E) (meds others : List Med) (old new : Meds) → meds ≡ others → OnOk r (NotesMeds meds old new)
    → OnOk r (NotesMeds others old new)
on_ok_same (Ok a) meds others old new e adds = adds_same meds others old new e adds
on_ok_same (Err a) meds others old new e adds = adds
