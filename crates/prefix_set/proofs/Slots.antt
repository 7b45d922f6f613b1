-- What slots in rising order keep, and which of their prefixes comes first.
use Rattle.std.proofs.Common.{◌≡◌, ℕ, zero, suc, ◌+◌, ◌-◌, ◌<◌, ◌≤◌, Bool, true, false, List, [], ◌∷◌, ◌++◌, length}
use Rattle.std.proofs.Common.{get_or, set, take, drop, slice_get, Option, Some, None, refl, sym, ap, ◌∙◌, subst, arith}
use Rattle.std.proofs.Common.{add-one, map as list_map, length-set, length-append, length-drop}
use Rattle.std.specs.Prelude.{T, if◌then◌else◌}
use Rattle.std.specs.declared.cmp.Ordering.{Ordering}
use Rattle.std.specs.declared.cmp.Ordering.TheVariants.{Less, Equal, Greater}
use Rattle.std.specs.Ordering.{eq_by_cmp, is_lt, ordering_reverse}
use Rattle.std.specs.List.{AllByRecursion, filter}
use Rattle.std.specs.FinMap as map
use Rattle.std.specs.FinMap.Entries.{by_order}
use Rattle.std.proofs.lemmas.List.{append-nil, take_all, take-set-le, take-append-le}
use Rattle.bgp_types.specs.Prefixes.{PrefixValue}
use Rattle.bgp_types.specs.Tables.{prefix_cmp, first_above}
use Rattle.bgp_types.proofs.TableLaws.{prefix_total, exact_prefixes, find_above, rise_put, put_right, put_left}
use Rattle.prefix_table.specs.Indices.{AllBelow, AllAbove, IsIndexOfPrefix}
use Rattle.prefix_table.proofs.Indices.{put_at}
use Rattle.prefix_trie.proofs.Nodes.{less_from_test}
use Rattle.prefix_set.specs.Slots.{PrefixSet, Slot, with_slot, is_held, united, AreSlots, those_in, first_due_slot, lesser_of}
use Rattle.prefix_set.proofs.Sets.{behind}

abbrev pub AllOut : List Slot → Type 0
AllOut slots = AllByRecursion (λ slot. slot.1 ≡ false) slots

-- ---- what is out

-- what a slice has that goes to the end
rest_of : (slots : List Slot) (start : ℕ) → take (length slots - start) (drop start slots) ≡ drop start slots
rest_of slots start = take_all (length slots - start) (drop start slots) (omega (arith, length-drop start slots))

-- with nothing in any slot, the set is what is beside them
pub united_out : (slots : List Slot) (start : ℕ) (beside : PrefixSet) → length slots ≤ start → AllOut (take start slots) → united slots beside ≡ beside
united_out [] start beside all out = refl
united_out (slot ∷ slots) zero beside all out = absurd (omega arith)
united_out (slot ∷ slots) (suc start) beside all out = ap (λ (b : Bool). with_slot (slot.0, b) (united slots beside)) out.0
    ∙ united_out slots start beside (omega arith) out.1

first_after : (slots : List Slot) (start : ℕ) → AllOut (take start slots) → first_due_slot (drop start slots) ≡ first_due_slot slots
first_after slots zero out = refl
first_after [] (suc start) out = refl
first_after (slot ∷ slots) (suc start) out = first_after slots start out.1 ∙ ap (λ (b : Bool). if b then Some slot.0 else first_due_slot slots) (sym out.0)

those_after : (slots : List Slot) (start : ℕ) → AllOut (take start slots) → those_in (drop start slots) ≡ those_in slots
those_after slots zero out = refl
those_after [] (suc start) out = refl
those_after (slot ∷ slots) (suc start) out = those_after slots start out.1
    ∙ ap (λ (b : Bool). list_map (λ slot. slot.0) (if b then slot ∷ filter (λ slot. slot.1) slots else filter (λ slot. slot.1) slots)) (sym out.0)

-- the slice of the slots after the first that are out has what all have
pub first_past : (slots : List Slot) (start : ℕ) → AllOut (take start slots)
    → first_due_slot (take (length slots - start) (drop start slots)) ≡ first_due_slot slots
first_past slots start out = ap first_due_slot (rest_of slots start) ∙ first_after slots start out

pub those_past : (slots : List Slot) (start : ℕ) → AllOut (take start slots) → those_in (take (length slots - start) (drop start slots)) ≡ those_in slots
those_past slots start out = ap those_in (rest_of slots start) ∙ those_after slots start out

out_more : (slots : List Slot) (at : ℕ) (d : Slot) → at < length slots → AllOut (take at slots) → (get_or slots at d).1 ≡ false → AllOut (take (suc at) slots)
out_more [] at d h out more = tt
out_more (slot ∷ slots) zero d h out more = (more, tt)
out_more (slot ∷ slots) (suc at) d h out more = (out.0, out_more slots at d (omega arith) out.1 more)

out_set : (slots : List Slot) (start at : ℕ) (p : PrefixValue) → AllOut (take start slots) → AllOut (take start (set slots at (p, false)))
out_set slots zero at p out = tt
out_set [] (suc start) at p out = tt
out_set (slot ∷ slots) (suc start) zero p out = (refl, out.1)
out_set (slot ∷ slots) (suc start) (suc at) p out = (out.0, out_set slots start at p out.1)

-- ---- what slots keep

-- one more of the first slots is out
pub passed_more : (slots : List Slot) (at : ℕ) (d : Slot) → AreSlots slots at → at < length slots → (get_or slots at d).1 ≡ false → AreSlots slots (at + 1)
passed_more slots at d are h more = record {
  rise = are.rise;
  within = omega (arith, h);
  out = subst (λ (n : ℕ). AllOut (take n slots)) (sym (add-one at)) (out_more slots at d h are.out more);
}

pub put_end : (slots : List Slot) (p : PrefixValue) (b : Bool) → AllBelow p slots → map.put prefix_cmp p b slots ≡ slots ++ (p, b) ∷ []
put_end slots p b below = ap (map.put prefix_cmp p b) (sym (append-nil slots)) ∙ put_right prefix_cmp p b slots [] below

-- a slot more at the end
pub slots_push : (slots : List Slot) (start : ℕ) (p : PrefixValue) → AreSlots slots start → AllBelow p slots → AreSlots (slots ++ (p, true) ∷ []) start
slots_push slots start p are below = record {
  rise = subst (λ (es : List Slot). T (map.is_sorted prefix_cmp es)) (put_end slots p true below) (rise_put slots are.rise p true);
  within = omega (arith, are.within, length-append slots ((p, true) ∷ []));
  out = subst (λ (es : List Slot). AllOut es) (sym (take-append-le start slots ((p, true) ∷ []) are.within)) are.out;
}

-- what was out comes in again
pub slots_in : (slots : List Slot) (start at : ℕ) (p : PrefixValue) → AreSlots slots start → IsIndexOfPrefix slots p at → start ≤ at
    → AreSlots (set slots at (p, true)) start
slots_in slots start at p are index h = record {
  rise = subst (λ (es : List Slot). T (map.is_sorted prefix_cmp es)) (put_at slots p at index (p, true) true) (rise_put slots are.rise p true);
  within = omega (arith, are.within, length-set slots at (p, true));
  out = subst (λ (es : List Slot). AllOut es) (sym (take-set-le start slots at (p, true) h)) are.out;
}

-- what was in goes out
pub slots_out : (slots : List Slot) (start at : ℕ) (p : PrefixValue) → AreSlots slots start → IsIndexOfPrefix slots p at
    → AreSlots (set slots at (p, false)) start
slots_out slots start at p are index = record {
  rise = subst (λ (es : List Slot). T (map.is_sorted prefix_cmp es)) (put_at slots p at index (p, false) false) (rise_put slots are.rise p false);
  within = omega (arith, are.within, length-set slots at (p, false));
  out = out_set slots start at p are.out;
}

-- ---- before the first that may be in

above_all : (p q : PrefixValue) (slots : List Slot) → AllAbove q slots → prefix_cmp p q ≡ Less → AllAbove p slots
above_all p q [] above less = tt
above_all p q (slot ∷ slots) above less = (prefix_total.trans p q slot.0 less above.0, above_all p q slots above.1 less)

held_neither : (b x : Bool) (o : Option Bool) → x ≡ false → is_held o ≡ false → is_held (if b then Some x else o) ≡ false
held_neither true x o first rest = first
held_neither false x o first rest = rest

-- where nothing is in any slot, nothing is held
pub none_held : (slots : List Slot) (start : ℕ) (p : PrefixValue) → AllOut (take start slots) → length slots ≤ start
    → is_held (map.find prefix_cmp p slots) ≡ false
none_held [] start p out all = refl
none_held (slot ∷ slots) zero p out all = absurd (omega arith)
none_held (slot ∷ slots) (suc start) p out all =
    held_neither (eq_by_cmp prefix_cmp p slot.0) slot.1 (map.find prefix_cmp p slots) out.0 (none_held slots start p out.1 (omega arith))

-- what is less than the prefix of a slot before which nothing is in isn't in
pub early_absent : (slots : List Slot) (start : ℕ) (d : Slot) (p : PrefixValue) → T (map.is_sorted prefix_cmp slots) → AllOut (take start slots)
    → start < length slots → prefix_cmp p (get_or slots start d).0 ≡ Less → is_held (map.find prefix_cmp p slots) ≡ false
early_absent [] start d p rise out h less = absurd (omega arith)
early_absent (slot ∷ slots) zero d p rise out h less =
    ap is_held (find_above prefix_cmp p (slot ∷ slots) (less, above_all p slot.0 slots (behind slot slots rise).above less))
early_absent (slot ∷ slots) (suc start) d p rise out h less =
    held_neither (eq_by_cmp prefix_cmp p slot.0) slot.1 (map.find prefix_cmp p slots) out.0
    (early_absent slots start d p (behind slot slots rise).rise out.1 (omega arith) less)

-- ---- past all slots

-- what is greater than the last is greater than each
pub above_last : (slots : List Slot) (n : ℕ) (last : Slot) (p : PrefixValue) → T (map.is_sorted prefix_cmp slots) → suc n ≡ length slots
    → Some last ≡ slice_get slots n → is_lt (prefix_cmp last.0 p) ≡ true → AllBelow p slots
above_last [] n last p rise len is less = tt
above_last (slot ∷ []) zero last p rise len is less =
    let same : slot ≡ last = cc in
    (prefix_total.antisymm p slot.0 ∙ ap ordering_reverse (ap (λ (e : Slot). prefix_cmp e.0 p) same ∙ less_from_test _ less), tt)
above_last (slot ∷ []) (suc n) last p rise len is less = absurd (omega arith)
above_last (slot ∷ next ∷ slots) zero last p rise len is less = absurd (omega arith)
above_last (slot ∷ next ∷ slots) (suc n) last p rise len is less =
    let parts = behind slot (next ∷ slots) rise in
    let rest = above_last (next ∷ slots) n last p parts.rise (omega arith) is less in
    let below : prefix_cmp next.0 p ≡ Less = prefix_total.antisymm next.0 p ∙ ap ordering_reverse rest.0 in
    (prefix_total.antisymm p slot.0 ∙ ap ordering_reverse (prefix_total.trans slot.0 next.0 p parts.above.0 below), rest)

-- ---- the first prefix

first_put : (p : PrefixValue) (es : List (PrefixValue × Unit {0}))
    → first_above None (list_map (λ e. e.0) (map.put prefix_cmp p tt es)) ≡ lesser_of (Some p) (first_above None (list_map (λ e. e.0) es))
first_put p [] = refl
first_put p (e ∷ es) =
    elim (prefix_cmp p e.0) as (λ o. prefix_cmp p e.0 ≡ o → first_above None (list_map (λ e. e.0)
    (by_order o ((p, tt) ∷ e ∷ es) ((e.0, tt) ∷ es) (e ∷ map.put prefix_cmp p tt es))) ≡ (if is_lt (ordering_reverse o) then Some e.0 else Some p)) [
      | Less ↦ λ is. refl
      | Equal ↦ λ is. ap Some (sym (exact_prefixes p e.0 is))
      | Greater ↦ λ is. refl
    ] refl
    ∙ ap (λ (o : Ordering). if is_lt o then Some e.0 else Some p) (sym (prefix_total.antisymm e.0 p))

abbrev Above : PrefixValue → Option PrefixValue → Type 0
Above p None = Unit {0}
Above p (Some q) = prefix_cmp p q ≡ Less

above_first : (p : PrefixValue) (slots : List Slot) → AllAbove p slots → Above p (first_due_slot slots)
above_first p [] above = tt
above_first p ((q, true) ∷ slots) above = above.0
above_first p ((q, false) ∷ slots) above = above_first p slots above.1

-- p is not replaced by what is above it
stays : (p q : PrefixValue) → prefix_cmp p q ≡ Less → lesser_of (Some p) (Some q) ≡ Some p
stays p q less = ap (λ (o : Ordering). if is_lt o then Some q else Some p) (prefix_total.antisymm q p ∙ ap ordering_reverse less)

lesser_still : (p : PrefixValue) (one other : Option PrefixValue) → Above p one → lesser_of (Some p) (lesser_of one other) ≡ lesser_of (Some p) other
lesser_still p None other above = refl
lesser_still p (Some q) None above = stays p q above
lesser_still p (Some q) (Some r) above =
    elim (prefix_cmp r q) as (λ o. prefix_cmp r q ≡ o → lesser_of (Some p) (if is_lt o then Some r else Some q) ≡ lesser_of (Some p) (Some r)) [
      | Less ↦ λ is. refl
      | Equal ↦ λ is. ap (λ (x : PrefixValue). lesser_of (Some p) (Some x)) (sym (exact_prefixes r q is))
      | Greater ↦ λ is. stays p q above ∙ sym (stays p r (prefix_total.trans p q r above (prefix_total.antisymm q r ∙ ap ordering_reverse is)))
    ] refl

pub first_united : (slots : List Slot) → T (map.is_sorted prefix_cmp slots) → (beside : PrefixSet)
    → first_above None (map.keys (united slots beside)) ≡ lesser_of (first_due_slot slots) (first_above None (map.keys beside))
first_united [] rise beside = refl
first_united ((p, true) ∷ slots) rise beside =
    let parts = behind (p, true) slots rise in
    ap (λ (es : List (PrefixValue × Unit {0})). first_above None (list_map (λ e. e.0) es)) (map.entries-insert prefix_total (united slots beside) p tt)
    ∙ (first_put p (map.entries (united slots beside))
    ∙ (ap (lesser_of (Some p)) (first_united slots parts.rise beside)
    ∙ lesser_still p (first_due_slot slots) (first_above None (map.keys beside)) (above_first p slots parts.above)))
first_united ((p, false) ∷ slots) rise beside = first_united slots (behind (p, false) slots rise).rise beside

-- ---- the prefixes, with nothing beside the slots

abbrev unit_entries : List PrefixValue → List (PrefixValue × Unit {0})
unit_entries ps = list_map (λ p. (p, tt)) ps

above_listed : (p : PrefixValue) (slots : List Slot) → AllAbove p slots → AllAbove p (unit_entries (those_in slots))
above_listed p [] above = tt
above_listed p ((q, true) ∷ slots) above = (above.0, above_listed p slots above.1)
above_listed p ((q, false) ∷ slots) above = above_listed p slots above.1

entries_united : (slots : List Slot) → T (map.is_sorted prefix_cmp slots) → map.entries (united slots (map.from_sorted [])) ≡ unit_entries (those_in slots)
entries_united [] rise = map.entries-from_sorted prefix_cmp [] tt
entries_united ((p, true) ∷ slots) rise =
    let parts = behind (p, true) slots rise in
    map.entries-insert prefix_total (united slots (map.from_sorted [])) p tt
    ∙ (ap (map.put prefix_cmp p tt) (entries_united slots parts.rise)
    ∙ put_left prefix_cmp p tt [] (unit_entries (those_in slots)) (above_listed p slots parts.above))
entries_united ((p, false) ∷ slots) rise = entries_united slots (behind (p, false) slots rise).rise

unit_keys : (ps : List PrefixValue) → list_map (λ e. e.0) (unit_entries ps) ≡ ps
unit_keys [] = refl
unit_keys (p ∷ ps) = ap (λ (qs : List PrefixValue). p ∷ qs) (unit_keys ps)

pub keys_united : (slots : List Slot) → T (map.is_sorted prefix_cmp slots) → (beside : PrefixSet) → map.len beside ≡ 0
    → map.keys (united slots beside) ≡ those_in slots
keys_united slots rise beside none =
    ap (λ (set : PrefixSet). map.keys (united slots set)) (map.empty_of_len beside none
    ∙ sym (map.empty_of_len (map.from_sorted {R = prefix_cmp} []) (map.len-entries _ ∙ ap length (map.entries-from_sorted prefix_cmp [] tt))))
    ∙ (ap (list_map (λ e. e.0)) (entries_united slots rise)
    ∙ unit_keys (those_in slots))

pub lesser_none : (o : Option PrefixValue) → lesser_of o None ≡ o
lesser_none None = refl
lesser_none (Some p) = refl
