-- Moves are bounded.
use Rattle.std.proofs.Common.{◌≡◌, ◌+◌, ◌≤◌, ◌<◌, ℕ, List, [], length, Some, refl, sym, subst, arith}
use Rattle.std.specs.Prelude.{◌≢◌, slice_get, slice_index_or}
use Rattle.std.specs.List.{Contains}
use Rattle.std.proofs.lemmas.Option.{slice_get-get_or}
use Rattle.link_bag.specs.declared.plan.Fault.{Fault}
use Rattle.ring_net.specs.declared.entry.JournalEntry.{JournalEntry}
use Rattle.graft_model.specs.Setups.{Setup, IsSetup, routers_in, peerings_in}
use Rattle.graft_model.specs.Parts.{World}
use Rattle.graft_model.specs.Steps.{ByRouter}
use Rattle.graft_model.specs.declared.event.RouterEvent.TheVariants.{Freeze}
use Rattle.graft_laws.specs.Owned.{mesh_items_on}
use Rattle.graft_laws.specs.Keeps.{Reached}
use Rattle.world_runs.specs.Marks.{IsWorldAtMark}
use Rattle.real_rounds.specs.Entries.{between}
use Rattle.real_rounds.specs.Whole.{RoundGoes, Drains, RealRounds}
use Rattle.bounded_moves.specs.Moves.{SendsAtMost, HearsAtMost, HasArrived}
use Rattle.bounded_moves.proofs.Ranks.{IsOn}
use Rattle.bounded_moves.proofs.Freezes.{HasLeft, left_by}
use Rattle.bounded_moves.proofs.Queues.{two_rounds}
use Rattle.bounded_moves.proofs.Over.{has_arrived, has_returned, is_over}

module _ (setup : Setup) (faults : List Fault) (journal : List JournalEntry) (marks : List (List ℕ)) (sound : IsSetup setup)
    (real : RealRounds setup faults journal marks) where
  abbrev mark : ℕ → List ℕ
  mark n = slice_index_or marks n []

  is_mark : (n : ℕ) → n < length marks → slice_get marks n ≡ Some (mark n)
  is_mark n l = slice_get-get_or marks n [] l

  reached : (n : ℕ) → n < length marks → Reached setup (real.world n)
  reached n l = let at : IsWorldAtMark setup journal (mark n) (real.world n) = real.worlds n (mark n) (is_mark n l) in
      record { events = at.events; run = at.run }

  goes : (m n : ℕ) → n ≡ m + 1 → n < length marks → RoundGoes setup (real.world m) (between journal (mark m) (mark n)) (real.events m) (real.world n)
  goes m n e l = subst (λ (x : ℕ). RoundGoes setup (real.world m) (between journal (mark m) (mark x)) (real.events m) (real.world x)) (sym e)
      (real.goes m (mark m) (mark (m + 1)) (is_mark m (omega (arith, e, l))) (is_mark (m + 1) (omega (arith, e, l))))

  drains : (m n o : ℕ) → n ≡ m + 1 → o ≡ m + 2 → o < length marks
      → Drains setup (real.world m) (between journal (mark m) (mark n)) (between journal (mark n) (mark o))
  drains m n o e f l = real.drains m (mark m) (mark n) (mark o) (is_mark m (omega (arith, f, l)))
      (subst (λ (x : ℕ). slice_get marks x ≡ Some (mark n)) e (is_mark n (omega (arith, e, f, l))))
      (subst (λ (x : ℕ). slice_get marks x ≡ Some (mark o)) f (is_mark o l))

  -- two rounds from a mark on, by which the graft goes further
  further : (k p q t least more a b m n o : ℕ) → n ≡ m + 1 → o ≡ m + 2 → o < length marks
      → ((w : World) → Reached setup w → IsOn setup k p q t least w → mesh_items_on p (w.mesh a b) ≡ [] → IsOn setup k p q t more w)
      → p < peerings_in setup → a ≢ b → a < routers_in setup → b < routers_in setup → length ((real.world m).mesh a b) ≤ 256
      → IsOn setup k p q t least (real.world m) → IsOn setup k p q t more (real.world o)
  further k p q t least more a b m n o e f l emptied below apart from to few on =
      two_rounds setup sound k p q t least more a b below apart from to emptied (real.events m) (real.events n) (between journal (mark m) (mark n))
      (between journal (mark n) (mark o))
      (real.world m) (real.world n) (real.world o) (reached m (omega (arith, f, l))) (goes m n e (omega (arith, e, f, l)))
      (goes n o (omega (arith, e, f)) l) (drains m n o e f l) few on

  -- the frozen session has left at the end of the round
  leaves : (t r k : ℕ) → t + 1 < length marks → Contains (real.events t) (ByRouter r (Freeze k)) → HasLeft setup r k 3 (real.world (t + 1))
  leaves t r k l freezes =
      left_by setup sound r k (real.events t) (real.world t) (real.world (t + 1)) freezes (reached t (omega (arith, l))) (goes t (t + 1) refl l).run
      (λ known. ((real.each t (mark t) (mark (t + 1)) (is_mark t (omega (arith, l))) (is_mark (t + 1) l)).routers r known).real.rested.quiet)

  pub moves_bounded : (t r k : ℕ) → t + 5 < length marks → Contains (real.events t) (ByRouter r (Freeze k)) → SendsAtMost 256 (real.world (t + 1)) r
      → HearsAtMost 256 (real.world (t + 3)) r
      → HasArrived k (real.world (t + 5))
  moves_bounded t r k l freezes sends hears =
      let x : HasLeft setup r k 3 (real.world (t + 1)) = leaves t r k (omega (arith, l)) freezes in
      let p : ℕ = x.peering in
      let target : ℕ = x.target in
      let arrived : IsOn setup k p r target 4 (real.world (t + 3)) = further k p r target 3 4 r target (t + 1) (t + 2) (t + 3) (omega arith) (omega arith)
      (omega (arith, l))
      (λ w reached on none. has_arrived setup sound k p r target w on none) x.below (λ e. x.apart (sym e)) x.source_known x.target_known
      (sends target) x.on in
      let returned : IsOn setup k p r target 5 (real.world (t + 5)) = further k p r target 4 5 target r (t + 3) (t + 4) (t + 5) (omega arith)
      (omega arith) l
      (λ w reached on none. has_returned setup sound k p r target w on none) x.below x.apart x.target_known x.source_known (hears target) arrived in
      is_over setup sound k p r target (real.world (t + 5)) (reached (t + 5) l) returned
