-- A router gives at most one answer on a session in its work of a round.
use Rattle.std.proofs.Common.{◌≡◌, ◌≢◌, ◌<◌, ◌≤◌, ◌+◌, ◌==◌, ℕ, zero, suc, Bool, true, false, cond, List, [], ◌∷◌}
use Rattle.std.proofs.Common.{Option, refl, sym, ap, ◌∙◌, subst, inl, inr, ◌⊎◌, lit<, lit≤, arith}
use Rattle.std.specs.Prelude.{map}
use Rattle.std.proofs.lemmas.Bool.Decides.{eqb_tells}
use Rattle.std.proofs.lemmas.List.Sums.{sum_by-cons}
use Rattle.ring_net.specs.Deeds.{Climbs}
use Rattle.tcp_seq.specs.Endpoint.{Endpoint, PlacedSegment}
use Rattle.session_value.specs.Sessions.{SessionValue}
use Rattle.graft_model.specs.Points.{at}
use Rattle.graft_model.specs.Setups.{Setup}
use Rattle.graft_model.specs.Slices.{EmitsAt}
use Rattle.graft_model.specs.Parts.{Live, Errand, RouterPart}
use Rattle.graft_model.specs.RouterRows.{RouterTaken, RouterSent, IsLive, Emits}
use Rattle.graft_model.specs.declared.event.RouterEvent.{RouterEvent}
use Rattle.graft_model.specs.declared.event.RouterEvent.TheVariants.{Put, Emit, Arrive, Stray, Got, Decide, Tell, Hear, Admit, Refuse, Freeze, Leave}
use Rattle.graft_model.specs.declared.event.RouterEvent.TheVariants.{Land, TurnBack, Return, Clear, Ask, Answer, Collect, Confirm, Tick}
use Rattle.graft_model.specs.Steps.{router_row}
use Rattle.router_core.specs.Rounds as rounds
use Rattle.router_core.specs.Rounds.{RouterGoes}
use Rattle.router_core.specs.Turned.{stage_of, is_answer_on, answers_on}
use Rattle.rounds_worked.proofs.Marks.{less}
use Rattle.rounds_worked.proofs.Fars.{true_or_false}
use Rattle.rounds_worked.proofs.Never.{same_live}

-- ---- kinds of events

-- an event answers on the peering, or it emits otherwise, or it is of an earlier stage
abbrev Kind : ℕ → RouterEvent → Type 0
Kind p x = ((from : ℕ) × (x ≡ Emit p from zero))
    ⊎ (((q : ℕ) × (from : ℕ) × (len : ℕ) × (x ≡ Emit q from len) × (is_answer_on p x ≡ false)) ⊎ ((stage_of x < 7) × (is_answer_on p x ≡ false)))

empty_kind : (p q from : ℕ) → ((q == p) ≡ true) × (q ≡ p) ⊎ (((q == p) ≡ false) × (q ≢ p)) → Kind p (Emit q from zero)
empty_kind p q from (inl same) = inl (from, ap (λ r. Emit r from zero) same.1)
empty_kind p q from (inr other) = inr (inl (q, from, zero, refl, other.0))

kind_of : (p : ℕ) (x : RouterEvent) → Kind p x
kind_of p (Emit q from zero) = empty_kind p q from (eqb_tells q p)
kind_of p (Emit q from (suc n)) = inr (inl (q, from, suc n, refl, refl))
kind_of p (Put q n) = inr (inr (lit< tt, refl))
kind_of p (Arrive q) = inr (inr (lit< tt, refl))
kind_of p (Stray q) = inr (inr (lit< tt, refl))
kind_of p (Got q) = inr (inr (lit< tt, refl))
kind_of p (Decide prefix) = inr (inr (lit< tt, refl))
kind_of p (Tell q prefix) = inr (inr (lit< tt, refl))
kind_of p (Hear q) = inr (inr (lit< tt, refl))
kind_of p (Admit k) = inr (inr (lit< tt, refl))
kind_of p (Refuse k) = inr (inr (lit< tt, refl))
kind_of p (Freeze k) = inr (inr (lit< tt, refl))
kind_of p (Leave k) = inr (inr (lit< tt, refl))
kind_of p (Land q) = inr (inr (lit< tt, refl))
kind_of p (TurnBack q) = inr (inr (lit< tt, refl))
kind_of p (Return q) = inr (inr (lit< tt, refl))
kind_of p (Clear q) = inr (inr (lit< tt, refl))
kind_of p (Ask k q) = inr (inr (lit< tt, refl))
kind_of p (Answer q) = inr (inr (lit< tt, refl))
kind_of p (Collect q) = inr (inr (lit< tt, refl))
kind_of p (Confirm k) = inr (inr (lit< tt, refl))
kind_of p (Tick q round) = inr (inr (lit< tt, refl))

-- ---- what is owed

-- no answer is owed on the peering
abbrev OwesNone : ℕ → RouterPart → Type 0
OwesNone p part = (s : SessionValue) (o : Option Errand) → IsLive part p s o → s.end.owed ≡ false

-- a segment without bytes gives the answer, and one with bytes leaves it as it is
owed_behind : (from len : ℕ) (e after : Endpoint) (segment : PlacedSegment) → EmitsAt from len e segment after → (len ≡ 0) ⊎ (e.owed ≡ false)
    → after.owed ≡ false
owed_behind from len e after segment emits (inl none) = elim emits.emits [
  | inl slice ↦ let size = emits.size in let some = slice.some in absurd (omega (arith, none, size, some))
  | inr empty ↦ ap (λ (x : Endpoint). x.owed) empty.given
]
owed_behind from len e after segment emits (inr unowed) = elim emits.emits [
  | inl slice ↦ ap (λ (x : Endpoint). x.owed) slice.rises ∙ unowed
  | inr empty ↦ ap (λ (x : Endpoint). x.owed) empty.given
]

owed_of : {len p : ℕ} {part : RouterPart} {s : SessionValue} {o : Option Errand} → (len ≡ 0) ⊎ OwesNone p part → IsLive part p s o → (len ≡ 0)
    ⊎ (s.end.owed ≡ false)
owed_of (inl none) live = inl none
owed_of {s = s} {o = o} (inr unowed) live = inr (unowed s o live)

-- so it is behind an event that answers, or where none was owed before
none_behind : (p q from len : ℕ) (before after : RouterPart) (taken : Option RouterTaken) (sent : List RouterSent) → Emits q from len before taken sent after
    → (q ≡ p → (len ≡ 0) ⊎ OwesNone p before) → (q ≢ p → OwesNone p before) → OwesNone p after
none_behind p q from len before after taken sent row here elsewhere s o live =
    let place : at before.places q (Live (record row.session { end = row.end }) row.errand) p ≡ Live s o = sym
    (ap (λ (part : RouterPart). part.places p) row.effect) ∙ live.is in
    elim (eqb_tells p q) [
      | inl same ↦
          let session = same_live (record row.session { end = row.end }) s row.errand o
          (sym (ap (λ t. cond t (Live (record row.session { end = row.end }) row.errand) (before.places p)) same.0) ∙ place) in
          subst (λ (x : SessionValue). x.end.owed ≡ false) session (owed_behind from len row.session.end row.end row.segment row.emits
          (owed_of (here (sym same.1)) (subst (λ r. IsLive before r row.session row.errand) (sym same.1) row.live)))
      | inr other ↦ elsewhere (λ e. other.1 (sym e)) s o (record {
        is = sym
            (ap (λ t. cond t (Live (record row.session { end = row.end }) row.errand) (before.places p)) other.0) ∙ place;
      })
    ]

-- ---- one at most

no_answer : (p : ℕ) (x : RouterEvent) (xs : List RouterEvent) → is_answer_on p x ≡ false → answers_on p (x ∷ xs) ≡ answers_on p xs
no_answer p x xs none =
    let all : answers_on p (x ∷ xs) ≡ 0 + answers_on p xs = sum_by-cons (λ y. cond (is_answer_on p y) 1 0) x xs ∙ ap (λ t. cond t 1 0 + answers_on p xs) none
    in omega (arith, all)

one_or_none : (t : Bool) → cond t 1 0 ≤ 1
one_or_none true = lit≤ tt
one_or_none false = lit≤ tt

first_only : (p : ℕ) (x : RouterEvent) (xs : List RouterEvent) → answers_on p xs ≡ 0 → answers_on p (x ∷ xs) ≤ 1
first_only p x xs none =
    let all = sum_by-cons (λ y. cond (is_answer_on p y) 1 0) x xs in let one = one_or_none (is_answer_on p x) in omega (arith, all, one, none)

no_more : (setup : Setup) (r p : ℕ) (start end : RouterPart) (events : List RouterEvent) (parts : List RouterPart)
    → RouterGoes setup r (rounds.IsNewWork setup r) start events parts end
    → Climbs 7 (map stage_of events) → OwesNone p start → answers_on p events ≡ 0
no_more setup r p start end [] parts g order none = refl
no_more setup r p start end (x ∷ xs) [] g order none = absurd g
no_more setup r p start end (x ∷ xs) (next ∷ parts) g order none = elim (kind_of p x) [
  | inl answer ↦
      let owed = subst (rounds.IsNewWork setup r start) answer.1 g.3 in
      absurd (true_or_false (sym owed.kind ∙ none owed.session owed.errand owed.live))
  | inr (inl emits) ↦
      let row = subst (λ y. router_row setup r y start g.0 g.1 next) emits.3 g.2 in
      no_answer p x xs emits.4 ∙ no_more setup r p next end xs parts g.4 (subst (λ y. Climbs (stage_of y) (map stage_of xs)) emits.3 order.1)
      (none_behind p emits.0 emits.1 emits.2 start next g.0 g.1 row (λ e. inr none) (λ e. none))
  | inr (inr early) ↦ absurd (less (stage_of x) 7 early.0 order.0)
]

at_most_one : (setup : Setup) (r p low : ℕ) (start end : RouterPart) (events : List RouterEvent) (parts : List RouterPart)
    → RouterGoes setup r (rounds.IsNewWork setup r) start events parts end
    → Climbs low (map stage_of events) → answers_on p events ≤ 1
at_most_one setup r p low start end [] parts g order = lit≤ tt
at_most_one setup r p low start end (x ∷ xs) [] g order = absurd g
at_most_one setup r p low start end (x ∷ xs) (next ∷ parts) g order = elim (kind_of p x) [
  | inl answer ↦
      let row = subst (λ y. router_row setup r y start g.0 g.1 next) answer.1 g.2 in
      let others = no_more setup r p next end xs parts g.4 (subst (λ y. Climbs (stage_of y) (map stage_of xs)) answer.1 order.1)
      (none_behind p p answer.0 0 start next g.0 g.1 row (λ e. inl refl) (λ e. absurd (e refl))) in
      first_only p x xs others
  | inr (inl emits) ↦ subst (λ n. n ≤ 1) (sym (no_answer p x xs emits.4)) (at_most_one setup r p (stage_of x) next end xs parts g.4 order.1)
  | inr (inr early) ↦ subst (λ n. n ≤ 1) (sym (no_answer p x xs early.1)) (at_most_one setup r p (stage_of x) next end xs parts g.4 order.1)
]

pub router_answers_once : (setup : Setup) (r p : ℕ) (start end : RouterPart) (work : List RouterEvent) (parts : List RouterPart)
    → RouterGoes setup r (rounds.IsNewWork setup r) start work parts end
    → Climbs 1 (map stage_of work) → answers_on p work ≤ 1
router_answers_once setup r p start end work parts g order = at_most_one setup r p 1 start end work parts g order
