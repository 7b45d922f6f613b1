-- The rounds of a run are one run.
use Rattle.std.proofs.Common.{◌≡◌, ◌<◌, ◌+◌, ◌∙◌, ℕ, zero, suc, List, [], ◌∷◌, ◌++◌, length, refl, ap, subst, arith}
use Rattle.std.specs.Prelude.{Some, slice_get}
use Rattle.std.specs.List.{flat_map, range_with_len}
use Rattle.std.proofs.Math.Path.{subst⁻¹}
use Rattle.std.proofs.lemmas.List.{append-nil}
use Rattle.std.proofs.lemmas.List.Concat.{flat_map-append}
use Rattle.ring_net.specs.declared.entry.JournalEntry.{JournalEntry}
use Rattle.link_bag.specs.declared.plan.Fault.{Fault}
use Rattle.graft_model.specs.First.{first_world}
use Rattle.graft_model.specs.Setups.{Setup}
use Rattle.graft_model.specs.Parts.{World}
use Rattle.graft_model.specs.Steps.{Event, Run}
use Rattle.graft_laws.proofs.Runs.{run_more, with_events}
use Rattle.real_rounds.specs.Whole.{RealRounds, round_by_round}

-- a run behind a run
pub run_join : (setup : Setup) (w m v : World) (first second : List Event) → Run setup w first m → Run setup m second v → Run setup w (first ++ second) v
run_join setup w m v first second x y = with_events setup (λ (es : List Event) (u : World). Run setup w es u) w
    (λ done event before after run step same. run_more setup done event w before after run step) first second m v x y x

-- ---- one round more

range_more : (a n k : ℕ) → a + n ≡ k → range_with_len a (suc n) ≡ range_with_len a n ++ k ∷ []
range_more a zero k e = ap (λ (j : ℕ). j ∷ []) (omega (arith, e))
range_more a (suc n) k e = ap (λ (js : List ℕ). a ∷ js) (range_more (a + 1) n k (omega (arith, e)))

pub one_round_more : (events : ℕ → List Event) (n : ℕ) → round_by_round events (n + 1) ≡ round_by_round events n ++ events n
one_round_more events n = ap (λ (k : ℕ). round_by_round events k) (let e : n + 1 ≡ suc n = omega arith in e)
    ∙ ap (λ (js : List ℕ). flat_map events js) (range_more 0 n n (omega arith))
    ∙ flat_map-append events (range_with_len 0 n) (n ∷ []) ∙ ap (λ (es : List Event). round_by_round events n ++ es) (append-nil (events n))

-- ---- all rounds

get_in : {A : Type 0} (xs : List A) (k : ℕ) → k < length xs → (x : A) × (slice_get xs k ≡ Some x)
get_in [] k l = absurd (omega arith)
get_in (x ∷ xs) zero l = (x, refl)
get_in (x ∷ xs) (suc k) l = get_in xs k (omega (arith, l))

-- the rounds up to a mark are a run from the first world to the one at that mark
pub rounds_run : (setup : Setup) (faults : List Fault) (journal : List JournalEntry)
    (marks : List (List ℕ)) (real : RealRounds setup faults journal marks) (n : ℕ)
    → n < length marks
    → Run setup (first_world setup) (round_by_round real.events n) (real.world n)
rounds_run setup faults journal marks real zero n_in = let mark = get_in marks 0 n_in in real.begins mark.0 mark.1
rounds_run setup faults journal marks real (suc n) n_in =
    let next_is : n + 1 ≡ suc n = omega arith in
    let mark = get_in marks n (omega (arith, n_in)) in
    let next = get_in marks (n + 1) (omega (arith, n_in)) in
    let before = rounds_run setup faults journal marks real n (omega (arith, n_in)) in
    subst (λ (k : ℕ). Run setup (first_world setup) (round_by_round real.events k) (real.world k)) next_is
    (subst⁻¹ (λ (es : List Event). Run setup (first_world setup) es (real.world (n + 1))) (one_round_more real.events n)
    (run_join setup (first_world setup) (real.world n) (real.world (n + 1)) (round_by_round real.events n)
    (real.events n) before (real.goes n mark.0 next.0 mark.1 next.1).run))
