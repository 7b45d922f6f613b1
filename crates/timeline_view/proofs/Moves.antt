-- The next graft between two routers is found among the moves alone.
use Rattle.std.proofs.Common.{ℕ, ◌≡◌, ◌==◌, ◌||◌, inl, inr, Bool, true, false, cond, List, [], ◌∷◌, map, length, filter, count_by, get_or}
use Rattle.std.proofs.Common.{refl, sym, ap, ◌∙◌}
use Rattle.std.proofs.lemmas.Bool.{true≢false, eqb-true, ne_eqb, and_parts, or_cases, cases_Bool}
use Rattle.std.proofs.lemmas.List.Sums.{length-filter}
use Rattle.std.specs.List.{flat_map, enumerate_from}
use Rattle.ring_net.specs.declared.entry.JournalEntry.{JournalEntry}
use Rattle.graft_steps.specs.declared.log.GraftEntry.{GraftEntry}
use Rattle.lab_report.specs.declared.lab.Lab.{Lab}
use Rattle.timeline_view.specs.declared.event.Event.{Event}
use Rattle.timeline_view.specs.declared.event.Event.TheVariants.{Land, TurnBack, Return, Clear}
use Rattle.timeline_view.specs.Events.{taken_event}
use Rattle.timeline_view.specs.Numbers.{leaves, grafts_left, arrives, next_to_arrive, turned_back_at, grafts_turned_back, returns, next_to_return}
use Rattle.timeline_view.specs.Numbers.{confirms, grafts_confirmed, clears, next_to_clear}
use Rattle.timeline_view.specs.Walks.{is_move_kind, is_move}

-- ---- a test that only moves pass

module _ {X : Type 0} (p q : X → Bool) (within : (x : X) → p x ≡ true → q x ≡ true) where
  -- what doesn't pass the second test doesn't pass the first
  neither : (x : X) → q x ≡ false → p x ≡ false
  neither x failed = elim (cases_Bool (p x)) [ inl passes ↦ absurd (true≢false (sym (within x passes) ∙ failed)) | inr none ↦ none ]

  filter_within : (xs : List X) → filter p (filter q xs) ≡ filter p xs
  filter_within [] = refl
  filter_within (x ∷ xs) = by_test (q x) refl (filter_within xs) where
    stays : (t : Bool) → filter p (filter q xs) ≡ filter p xs
        → cond t (x ∷ filter p (filter q xs)) (filter p (filter q xs)) ≡ cond t (x ∷ filter p xs) (filter p xs)
    stays true rest = ap (λ (l : List X). x ∷ l) rest
    stays false rest = rest

    by_test : (c : Bool) → q x ≡ c → filter p (filter q xs) ≡ filter p xs
        → filter p (cond c (x ∷ filter q xs) (filter q xs)) ≡ cond (p x) (x ∷ filter p xs) (filter p xs)
    by_test true passed rest = stays (p x) rest
    by_test false failed rest = rest ∙ ap (λ (t : Bool). cond t (x ∷ filter p xs) (filter p xs)) (sym (neither x failed))

  count_within : (xs : List X) → count_by p (filter q xs) ≡ count_by p xs
  count_within xs = sym (length-filter p (filter q xs)) ∙ ap (λ (l : List X). length l) (filter_within xs) ∙ length-filter p xs

-- ---- moves

of_kind : (e : JournalEntry) (kind : ℕ) → is_move_kind kind ≡ true → (e.kind == kind) ≡ true → is_move e ≡ true
of_kind e kind is same = ap is_move_kind (eqb-true e.kind kind same) ∙ is

module _ (log : List GraftEntry) (source target : ℕ) where
  leaves_moves : (e : JournalEntry) → leaves log source target e ≡ true → is_move e ≡ true
  leaves_moves e h = of_kind e 12 refl (and_parts (e.kind == 12) _ h).0

  arrives_moves : (e : JournalEntry) → arrives source target e ≡ true → is_move e ≡ true
  arrives_moves e h = elim (or_cases (e.kind == 13) (e.kind == 14) (and_parts ((e.kind == 13) || (e.kind == 14)) _ h).0) [
    | inl land ↦ of_kind e 13 refl land
    | inr turn ↦ of_kind e 14 refl turn
  ]

  returns_moves : (e : JournalEntry) → returns source target e ≡ true → is_move e ≡ true
  returns_moves e h = of_kind e 15 refl (and_parts (e.kind == 15) _ h).0

  confirms_moves : (e : JournalEntry) → confirms log source target e ≡ true → is_move e ≡ true
  confirms_moves e h = of_kind e 33 refl (and_parts (e.kind == 33) _ h).0

  clears_moves : (e : JournalEntry) → clears source target e ≡ true → is_move e ≡ true
  clears_moves e h = of_kind e 16 refl (and_parts (e.kind == 16) _ h).0

  module _ (es : List JournalEntry) where
    same_left : grafts_left log source target (filter is_move es) ≡ grafts_left log source target es
    same_left = ap (map (λ (e : JournalEntry). e.a)) (filter_within (leaves log source target) is_move leaves_moves es)

    same_arrival : next_to_arrive log source target (filter is_move es) ≡ next_to_arrive log source target es
    same_arrival =
        ap (λ l. get_or l (count_by (arrives source target) (filter is_move es)) 0) same_left
        ∙ ap (λ n. get_or (grafts_left log source target es) n 0) (count_within (arrives source target) is_move arrives_moves es)

    same_turned_back : grafts_turned_back log source target (filter is_move es) ≡ grafts_turned_back log source target es
    same_turned_back =
        ap (λ l. flat_map (turned_back_at l) (enumerate_from 0 (filter (arrives source target) (filter is_move es)))) same_left
        ∙ ap (λ (l : List JournalEntry). flat_map (turned_back_at (grafts_left log source target es)) (enumerate_from 0 l))
        (filter_within (arrives source target) is_move arrives_moves es)

    same_return : next_to_return log source target (filter is_move es) ≡ next_to_return log source target es
    same_return =
        ap (λ l. get_or l (count_by (returns source target) (filter is_move es)) 0) same_turned_back
        ∙ ap (λ n. get_or (grafts_turned_back log source target es) n 0) (count_within (returns source target) is_move returns_moves es)

    same_confirmed : grafts_confirmed log source target (filter is_move es) ≡ grafts_confirmed log source target es
    same_confirmed = ap (map (λ (e : JournalEntry). e.a)) (filter_within (confirms log source target) is_move confirms_moves es)

    same_clear : next_to_clear log source target (filter is_move es) ≡ next_to_clear log source target es
    same_clear =
        ap (λ l. get_or l (count_by (clears source target) (filter is_move es)) 0) same_confirmed
        ∙ ap (λ n. get_or (grafts_confirmed log source target es) n 0) (count_within (clears source target) is_move clears_moves es)

-- ---- events

-- what the event tells of, by the next graft of each kind
abbrev chosen : (kind arrived returned cleared : ℕ) → Event
chosen kind arrived returned cleared =
    cond (kind == 13) (Land arrived) (cond (kind == 14) (TurnBack arrived) (cond (kind == 15) (Return returned) (Clear cleared)))

module _ (lab : Lab) (es : List JournalEntry) (e : JournalEntry) (log : List GraftEntry) (here : ℕ) (is_log : log ≡ lab.log) (is_here : here ≡ e.actor) where
  of_kinds : (kind : ℕ) → e.kind ≡ kind
      → chosen kind (next_to_arrive log e.a here es) (next_to_return log here e.a es) (next_to_clear log here e.a es) ≡ taken_event lab es e
  of_kinds kind is =
      ap (λ (l : List GraftEntry). chosen kind (next_to_arrive l e.a here es) (next_to_return l here e.a es) (next_to_clear l here e.a es)) is_log
      ∙ ap (λ h. chosen kind (next_to_arrive lab.log e.a h es) (next_to_return lab.log h e.a es) (next_to_clear lab.log h e.a es)) is_here
      ∙ ap (λ k. chosen k (next_to_arrive lab.log e.a e.actor es) (next_to_return lab.log e.actor e.a es) (next_to_clear lab.log e.actor e.a es)) (sym is)

  pub lands : (graft : ℕ) → e.kind ≡ 13 → graft ≡ next_to_arrive log e.a here es → Land graft ≡ taken_event lab es e
  lands graft kind is = ap (λ n. Land n) is ∙ of_kinds 13 kind

  pub turns_back : (graft : ℕ) → e.kind ≡ 14 → graft ≡ next_to_arrive log e.a here es → TurnBack graft ≡ taken_event lab es e
  turns_back graft kind is = ap (λ n. TurnBack n) is ∙ of_kinds 14 kind

  pub goes_back : (graft : ℕ) → e.kind ≡ 15 → graft ≡ next_to_return log here e.a es → Return graft ≡ taken_event lab es e
  goes_back graft kind is = ap (λ n. Return n) is ∙ of_kinds 15 kind

  pub clears_else : (graft : ℕ) → (e.kind ≡ 13 → ⊥) → (e.kind ≡ 14 → ⊥) → (e.kind ≡ 15 → ⊥) → graft ≡ next_to_clear log here e.a es
      → Clear graft ≡ taken_event lab es e
  clears_else graft land turn back is =
      let arrived = next_to_arrive log e.a here es in
      let returned = next_to_return log here e.a es in
      let cleared = next_to_clear log here e.a es in
      ap (λ n. Clear n) is
      ∙ ap (λ (b : Bool). cond b (Return returned) (Clear cleared)) (sym (ne_eqb e.kind 15 back))
      ∙ ap (λ (b : Bool). cond b (TurnBack arrived) (cond (e.kind == 15) (Return returned) (Clear cleared))) (sym (ne_eqb e.kind 14 turn))
      ∙ ap (λ (b : Bool). cond b (Land arrived) (cond (e.kind == 14) (TurnBack arrived) (cond (e.kind == 15) (Return returned) (Clear cleared))))
      (sym (ne_eqb e.kind 13 land))
      ∙ of_kinds e.kind refl

pub same_taken : (lab : Lab) (es : List JournalEntry) (e : JournalEntry) → taken_event lab (filter is_move es) e ≡ taken_event lab es e
same_taken lab es e =
    ap (λ n. chosen e.kind n (next_to_return lab.log e.actor e.a (filter is_move es)) (next_to_clear lab.log e.actor e.a (filter is_move es)))
    (same_arrival lab.log e.a e.actor es)
    ∙ ap (λ n. chosen e.kind (next_to_arrive lab.log e.a e.actor es) n (next_to_clear lab.log e.actor e.a (filter is_move es)))
    (same_return lab.log e.actor e.a es)
    ∙ ap (chosen e.kind (next_to_arrive lab.log e.a e.actor es) (next_to_return lab.log e.actor e.a es)) (same_clear lab.log e.actor e.a es)
