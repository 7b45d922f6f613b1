-- What events are on one peering, and the stages of events.
use Rattle.std.proofs.Common.{◌≡◌, ◌≢◌, ℕ, zero, suc, ◌+◌, ◌<◌, ◌≤◌, List, [], ◌∷◌, ◌++◌, map, Bool, false, refl, sym, ap, ◌∙◌, append_assoc, arith}
use Rattle.std.specs.Prelude.{if◌then◌else◌, count_by}
use Rattle.std.proofs.lemmas.List.{append-nil}
use Rattle.std.proofs.lemmas.List.Sums.{sum_by-cons, sum_by-append}
use Rattle.std.proofs.lemmas.Bool.{eq-eqb, ne_eqb}
use Rattle.ring_net.specs.Deeds.{Climbs}
use Rattle.ring_net.proofs.Replays.{all-append}
use Rattle.graft_model.specs.declared.event.RouterEvent.{RouterEvent}
use Rattle.graft_model.specs.declared.event.RouterEvent.TheVariants.{Emit, Tick}
use Rattle.router_core.specs.Turned.{AreAt, stage_of, rounds_on, round_on, is_emit_on, is_answer_on, emits_on, answers_on}
use Rattle.router_core.specs.Visits.{OnPeering, events_on, none_on}

-- ---- events after events

pub rounds_on-append : (p : ℕ) (es fs : List RouterEvent) → rounds_on p (es ++ fs) ≡ rounds_on p es ++ rounds_on p fs
rounds_on-append p [] fs = refl
rounds_on-append p (e ∷ es) fs =
    ap (λ (xs : List ℕ). round_on p e ++ xs) (rounds_on-append p es fs) ∙ sym (append_assoc (round_on p e) (rounds_on p es) (rounds_on p fs))

pub emits_on-cons : (p : ℕ) (e : RouterEvent) (es : List RouterEvent) → emits_on p (e ∷ es) ≡ (if is_emit_on p e then 1 else 0) + emits_on p es
emits_on-cons p e es = sum_by-cons (λ (x : RouterEvent). if is_emit_on p x then 1 else 0) e es

pub emits_on-append : (p : ℕ) (es fs : List RouterEvent) → emits_on p (es ++ fs) ≡ emits_on p es + emits_on p fs
emits_on-append p es fs = sum_by-append (λ (x : RouterEvent). if is_emit_on p x then 1 else 0) es fs

pub answers_on-append : (p : ℕ) (es fs : List RouterEvent) → answers_on p (es ++ fs) ≡ answers_on p es + answers_on p fs
answers_on-append p es fs = sum_by-append (λ (x : RouterEvent). if is_answer_on p x then 1 else 0) es fs

abbrev pub on_then : OnPeering → OnPeering → OnPeering
on_then x y = record { rounds = x.rounds ++ y.rounds; emits = x.emits + y.emits; answers = x.answers + y.answers }

pub events_on-append : (p : ℕ) (es fs : List RouterEvent) → events_on p (es ++ fs) ≡ on_then (events_on p es) (events_on p fs)
events_on-append p es fs = λ i. record { rounds = rounds_on-append p es fs i; emits = emits_on-append p es fs i; answers = answers_on-append p es fs i }

-- where there are none before, or none behind
pub none_then : (x : OnPeering) → on_then none_on x ≡ x
none_then x =
    let emits : 0 + x.emits ≡ x.emits = omega arith in
    let answers : 0 + x.answers ≡ x.answers = omega arith in
    λ i. record { rounds = x.rounds; emits = emits i; answers = answers i }

pub then_none : (x : OnPeering) → on_then x none_on ≡ x
then_none x =
    let emits : x.emits + 0 ≡ x.emits = omega arith in
    let answers : x.answers + 0 ≡ x.answers = omega arith in
    λ i. record { rounds = append-nil x.rounds i; emits = emits i; answers = answers i }

-- ---- one segment

pub emit_here : (p from len : ℕ) → emits_on p (Emit p from len ∷ []) ≡ 1
emit_here p from len = ap (λ (b : Bool). let n : ℕ = 0 + (if b then 1 else 0) in n) (eq-eqb p p refl)

pub answer_here : (p from : ℕ) → answers_on p (Emit p from zero ∷ []) ≡ 1
answer_here p from = ap (λ (b : Bool). let n : ℕ = 0 + (if b then 1 else 0) in n) (eq-eqb p p refl)

pub no_answer : (p q from len : ℕ) → 0 < len → answers_on p (Emit q from len ∷ []) ≡ 0
no_answer p q from zero some = absurd (omega (arith, some))
no_answer p q from (suc n) some = refl

pub emit_elsewhere : (p q from len : ℕ) → p ≢ q → events_on p (Emit q from len ∷ []) ≡ none_on
emit_elsewhere p q from zero not =
    ap (λ (b : Bool). let x : OnPeering = record { rounds = []; emits = 0 + (if b then 1 else 0); answers = 0 + (if b then 1 else 0) } in x)
    (ne_eqb q p (λ e. not (sym e)))
emit_elsewhere p q from (suc n) not =
    ap (λ (b : Bool). let x : OnPeering = record { rounds = []; emits = 0 + (if b then 1 else 0); answers = 0 } in x) (ne_eqb q p (λ e. not (sym e)))

-- ---- events of one stage

pub at-append : (n : ℕ) (es fs : List RouterEvent) → AreAt n es → AreAt n fs → AreAt n (es ++ fs)
at-append n es fs = all-append (λ (e : RouterEvent). stage_of e ≡ n) es fs

no_round : (n p : ℕ) (e : RouterEvent) → n ≢ 1 → stage_of e ≡ n → round_on p e ≡ []
no_round n p (Tick q round) not is = absurd (not (sym is))
no_round n p _ not is = refl

pub rounds_none : (n p : ℕ) (es : List RouterEvent) → n ≢ 1 → AreAt n es → rounds_on p es ≡ []
rounds_none n p [] not at = refl
rounds_none n p (e ∷ es) not at = ap (λ (xs : List ℕ). xs ++ rounds_on p es) (no_round n p e not at.0) ∙ rounds_none n p es not at.1

count_none : (test : RouterEvent → Bool) (n : ℕ) → ((e : RouterEvent) → stage_of e ≡ n → test e ≡ false)
    → (es : List RouterEvent) → AreAt n es → count_by test es ≡ 0
count_none test n fails [] at = refl
count_none test n fails (e ∷ es) at =
    let first : (if test e then 1 else 0) ≡ 0 = ap (λ (b : Bool). let m : ℕ = if b then 1 else 0 in m) (fails e at.0) in
    let rest : count_by test es ≡ 0 = count_none test n fails es at.1 in
    sum_by-cons (λ (x : RouterEvent). if test x then 1 else 0) e es ∙ omega (arith, first, rest)

no_emit : (n p : ℕ) (e : RouterEvent) → n ≢ 7 → stage_of e ≡ n → is_emit_on p e ≡ false
no_emit n p (Emit q from len) not is = absurd (not (sym is))
no_emit n p _ not is = refl

no_answer_apart : (n p : ℕ) (e : RouterEvent) → n ≢ 7 → stage_of e ≡ n → is_answer_on p e ≡ false
no_answer_apart n p (Emit q from len) not is = absurd (not (sym is))
no_answer_apart n p _ not is = refl

pub emits_none : (n p : ℕ) (es : List RouterEvent) → n ≢ 7 → AreAt n es → emits_on p es ≡ 0
emits_none n p es not = count_none (is_emit_on p) n (λ e is. no_emit n p e not is) es

pub answers_none : (n p : ℕ) (es : List RouterEvent) → n ≢ 7 → AreAt n es → answers_on p es ≡ 0
answers_none n p es not = count_none (is_answer_on p) n (λ e is. no_answer_apart n p e not is) es

-- before what there are no rounds, or no answers
pub rounds_behind : (n p : ℕ) (es fs : List RouterEvent) → n ≢ 1 → AreAt n es → rounds_on p (es ++ fs) ≡ rounds_on p fs
rounds_behind n p es fs not at = rounds_on-append p es fs ∙ ap (λ (xs : List ℕ). xs ++ rounds_on p fs) (rounds_none n p es not at)

pub answers_behind : (n p : ℕ) (es fs : List RouterEvent) → n ≢ 7 → AreAt n es → answers_on p (es ++ fs) ≡ answers_on p fs
answers_behind n p es fs not at = answers_on-append p es fs ∙ (let none : answers_on p es ≡ 0 = answers_none n p es not at in omega (arith, none))

-- ---- stages one after another

climbs_from : (low n : ℕ) (xs : List ℕ) → low ≤ n → Climbs n xs → Climbs low xs
climbs_from low n [] below climbs = tt
climbs_from low n (x ∷ xs) below climbs = (omega (arith, below, climbs.0), climbs.1)

pub climbs_at : (low n : ℕ) (es fs : List RouterEvent) → low ≤ n → AreAt n es → Climbs n (map stage_of fs) → Climbs low (map stage_of (es ++ fs))
climbs_at low n [] fs below at rest = climbs_from low n (map stage_of fs) below rest
climbs_at low n (e ∷ es) fs below at rest = (omega (arith, below, at.0), climbs_at (stage_of e) n es fs (omega (arith, at.0)) at.1 rest)
