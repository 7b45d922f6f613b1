-- Clocks and stamps of a run with one event more.
use Rattle.std.proofs.Common.{◌≡◌, ◌+◌, ◌||◌, ℕ, max, Bool, true, false, if◌then◌else◌, List, [], ◌∷◌, ◌++◌, map, filter, replicate, ap, ◌∙◌, arith}
use Rattle.std.proofs.lemmas.Grind.{flat_map-append}
use Rattle.std.proofs.lemmas.List.{append-nil, map-append}
use Rattle.std.proofs.lemmas.List.Sums.{sum_by-append, sum_by-cons}
use Rattle.std.proofs.lemmas.List.Elements.{filter-append}
use Rattle.graft_actors.specs.Actors.{ActorName, same_name}
use Rattle.run_clocks.specs.Clocks.{ClockedEvent, clock_behind, greatest, number_taken, stamps_sent}
use Rattle.clocked_audits.proofs.Greatest.{greatest_more}

module _ (earlier : List ClockedEvent) (e : ClockedEvent) where
  pub sent_more : (x y : ActorName)
      → stamps_sent x y (earlier ++ e ∷ []) ≡ stamps_sent x y earlier ++ (if same_name x e.maker then replicate (e.sent y) e.clock else [])
  sent_more x y =
      let sent = λ (f : ClockedEvent). if same_name x f.maker then replicate (f.sent y) f.clock else [] in
      flat_map-append sent earlier (e ∷ []) ∙ ap (λ (stamps : List ℕ). stamps_sent x y earlier ++ stamps) (append-nil (sent e))

  pub taken_more : (x y : ActorName) → number_taken x y (earlier ++ e ∷ []) ≡ number_taken x y earlier + (if same_name y e.maker then e.took x else 0)
  taken_more x y =
      let takes = λ (f : ClockedEvent). if same_name y f.maker then f.took x else 0 in
      let one : number_taken x y (e ∷ []) ≡ takes e = sum_by-cons takes e [] ∙ omega arith in
      sum_by-append takes earlier (e ∷ []) ∙ ap (λ (n : ℕ). number_taken x y earlier + n) one

  pub all_more : greatest (map (λ (f : ClockedEvent). f.clock) (earlier ++ e ∷ [])) ≡ max (greatest (map (λ (f : ClockedEvent). f.clock) earlier)) e.clock
  all_more = ap greatest (map-append (λ (f : ClockedEvent). f.clock) earlier (e ∷ [])) ∙ greatest_more (map (λ (f : ClockedEvent). f.clock) earlier) e.clock

  pub behind_more : (x : ActorName)
      → clock_behind x (earlier ++ e ∷ []) ≡ (if same_name x e.maker || e.begins then max (clock_behind x earlier) e.clock else clock_behind x earlier)
  behind_more x =
      let own = λ (f : ClockedEvent). same_name x f.maker || f.begins in
      let clocks = map (λ (f : ClockedEvent). f.clock) in
      ap (λ (es : List ClockedEvent). greatest (clocks es)) (filter-append own earlier (e ∷ []))
      ∙ ap greatest (map-append (λ (f : ClockedEvent). f.clock) (filter own earlier) (filter own (e ∷ [])))
      ∙ by_test (same_name x e.maker || e.begins)
    where
      own_clocks : List ℕ
      own_clocks = map (λ (f : ClockedEvent). f.clock) (filter (λ (f : ClockedEvent). same_name x f.maker || f.begins) earlier)

      by_test : (t : Bool) → greatest (own_clocks ++ map (λ (f : ClockedEvent). f.clock) (if t then e ∷ [] else []))
          ≡ (if t then max (greatest own_clocks) e.clock else greatest own_clocks)
      by_test true = greatest_more own_clocks e.clock
      by_test false = ap greatest (append-nil own_clocks)
