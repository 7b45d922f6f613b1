use Rattle.std.proofs.Common.{◌≡◌, List, map}
use Rattle.bgp_types.specs.Prefixes.{PrefixValue}
use Rattle.bgp_types.specs.declared.rank.From.{From}
use Rattle.lab_report.proofs.traces.forward_table.Given as goal

-- the entries so far are those of the routes so far
abbrev pub invariant-loop-best : goal.invariant-loop-best
invariant-loop-best l =
    let here : List (PrefixValue × From) = map (λ e. (e.prefix, e.from)) l.entries in
    let there : List (PrefixValue × From) = map (λ b. (b.prefix, b.from)) (map (λ x. x.now) l.yielded) in
    here ≡ there
