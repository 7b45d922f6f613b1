use Rattle.std.proofs.Common.{◌≡◌, ◌≢◌, ◌∙◌, ℕ, List, [], ◌∷◌, ◌++◌, length, get_or, take, Option, Some, ap, sym, subst, arith}
use Rattle.std.proofs.Math.Seq.{take-length}
use Rattle.std.proofs.lemmas.List.{take_more}
use Rattle.ring_net.specs.Shown.{view}
use Rattle.graft_steps.specs.declared.rest.Pending.{Pending}
use Rattle.graft_steps.specs.declared.rest.Pending.TheVariants.{Channel}
use Rattle.settled_check.specs.Firsts.{IsFirstOf, IsEither}
use Rattle.world_nodes.specs.Looks.{IsSentOnOne}
use Rattle.world_nodes.proofs.Firsts.{empty_by_length, first_of_none, first_of_more, first_of_same, first_sent}
use Rattle.world_nodes.proofs.looks.on_its_way.Goals.{then-in_flight-gt0, else-in_flight-gt0}
use Rattle.world_nodes.proofs.looks.on_its_way.Goals as goal

pub loop-from-init : goal.loop-from-init
loop-from-init c =
    let channel = (view c.args.net.now).channel in
    first_of_none (λ (e : ℕ × ℕ) x. (x ≡ Channel e.0 e.1) × (channel e.0 e.1 ≢ []))

pub loop-from-preserved : goal.loop-from-preserved
loop-from-preserved c =
    let channel = (view c.args.net.now).channel in
    let edges = c.args.edges.now in
    let i = c.loop-from.from-index in
    let edge = get_or edges i (0, 0) in
    let on_edge = λ (e : ℕ × ℕ) (x : Pending). (x ≡ Channel e.0 e.1) × (channel e.0 e.1 ≢ []) in
    let count : c.in_flight.result ≡ length (channel edge.0 edge.1) = c.in_flight.ensures
    ∙ ap (λ a. length (channel a c.from-in-loop-from.result)) c.from.ensures ∙ ap (λ b. length (channel edge.0 b)) c.from-in-loop-from.ensures in
    subst (λ (es : List (ℕ × ℕ)). IsFirstOf (IsSentOnOne channel es) c.if-in_flight-gt0.first)
    (sym (take_more edges i (0, 0) c.loop-from-test.true)) (elim c.if-in_flight-gt0.branch [
      | then-in_flight-gt0 w ↦
          first_of_more on_edge (take i edges) edge c.loop-from.first (Some (Channel edge.0 edge.1)) c.if-in_flight-gt0.first c.loop-from.invariant
          (first_sent channel edge.0 edge.1 (λ none. absurd (omega (arith, w.if-in_flight-gt0.true, count, ap length none))))
          (subst (λ (first : Option Pending). IsFirstOf (IsEither c.loop-from.first (Some (Channel edge.0 edge.1))) first)
          (sym w.first-is) w.first_pending-first.ensures)
      | else-in_flight-gt0 w ↦ subst (λ (first : Option Pending). IsFirstOf (IsSentOnOne channel (take i edges ++ edge ∷ [])) first) (sym w.first-is)
          (first_of_same on_edge (take i edges) edge c.loop-from.first c.loop-from.invariant
          (λ x is. is.1 (empty_by_length (channel edge.0 edge.1) (omega (arith, w.if-in_flight-gt0.false, count)))))
    ])

pub returns : goal.returns
returns c =
    let channel = (view c.args.net.now).channel in
    let edges = c.args.edges.now in
    let all : c.loop-from.from-index ≡ length edges = omega arith in
    subst (λ (es : List (ℕ × ℕ)). IsFirstOf (IsSentOnOne channel es) c.loop-from.first) (ap (λ n. take n edges) all ∙ take-length edges) c.loop-from.invariant
