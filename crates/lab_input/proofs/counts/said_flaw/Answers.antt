use Rattle.std.proofs.Common.{◌≡◌, ◌∙◌, ◌<◌, ℕ, List, length, sym, ap, arith}
use Rattle.std.specs.Prelude.{slice_index_or, codes}
use Rattle.lab_keys.specs.Kinds.{each_from}
use Rattle.lab_tables.specs.declared.input.Step.{Step}
use Rattle.lab_tables.specs.declared.input.PeeringInput.{PeeringInput}
use Rattle.lab_input.specs.Counts.{over_limit, most_said, said_flaw, AreSaid}
use Rattle.lab_input.proofs.Afters.{from_goes_on, from_stops}
use Rattle.lab_input.proofs.counts.said_flaw.Goals as goal

flaw_is : (steps : List Step) (peerings : List PeeringInput) (said : List ℕ) → AreSaid steps peerings said
    → (i : ℕ) (p : PeeringInput) (most : ℕ) → i < length peerings → p ≡ slice_index_or peerings i p → most ≡ most_said p
    → over_limit (codes "said") most (slice_index_or said i 0) ≡ said_flaw steps i p
flaw_is steps peerings said are i p most within is limit =
    ap (λ m. over_limit (codes "said") m (slice_index_or said i 0)) limit ∙ ap (over_limit (codes "said") (most_said p)) (are.1 i p within is)

pub returns-in-Some : goal.returns-in-Some
returns-in-Some c = λ steps are.
    let peerings = c.args.peerings.now in
    let i = c.loop-i.i in
    let p = c.index-peerings-i.result in
    let within : i < length peerings = omega arith in
    from_stops (said_flaw steps) peerings i p within c.index-peerings-i.is c.in-Some.bad (each_from (said_flaw steps) 0 peerings) (c.loop-i.invariant steps are)
    (sym c.in-Some.is ∙ c.in_ok-found.ensures
    ∙ flaw_is steps peerings c.args.said.now are i p c.most_said.result within c.index-peerings-i.is c.most_said.ensures)

pub loop-i-preserved : goal.loop-i-preserved
loop-i-preserved c = λ steps are.
    let peerings = c.args.peerings.now in
    let i = c.loop-i.i in
    let p = c.index-peerings-i.result in
    let within : i < length peerings = omega arith in
    from_goes_on (said_flaw steps) peerings i p within c.index-peerings-i.is (each_from (said_flaw steps) 0 peerings) (c.loop-i.invariant steps are)
    (sym c.in-None.is ∙ c.in_ok-found.ensures
    ∙ flaw_is steps peerings c.args.said.now are i p c.most_said.result within c.index-peerings-i.is c.most_said.ensures)
