use Rattle.std.proofs.Common.{◌∙◌, ap, List, arith}
use Rattle.bgp_types.specs.declared.rank.From.{From}
use Rattle.prefix_trie.specs.Table.{TableValue}
use Rattle.forward_walk.specs.Tables.{ForwardMap, forward_map_of, tables_in}
use Rattle.forward_walk.proofs.Visits.{sets_out, ends_again, ends_without, ends_own, ends_out, goes_on}
use Rattle.forward_walk.proofs.forwarder.Forwarder.walk.Goals as goal

pub loop-met-init : goal.loop-met-init
loop-met-init c = sets_out c.args.self.now c.args.address c.args.from

pub returns-then-met-index : goal.returns-then-met-index
returns-then-met-index c =
    let a = ends_again c.args.self.now c.args.address c.args.from c.loop-met.met c.loop-met.at
    c.loop-met.invariant c.index_of-index.result c.index_of-index.ensures.is c.if-met-index.true in
    record { ends = a.ends; only = a.only }

pub returns-in_default : goal.returns-in_default
returns-in_default c =
    let same = ap (λ (tries : List (TableValue From)). forward_map_of (tables_in tries) c.loop-met.at) c.deref.ensures
    ∙ ap (λ (tables : List ForwardMap). forward_map_of tables c.loop-met.at) c.self.view_is in
    let a = ends_without c.args.self.now c.args.address c.args.from c.loop-met.met c.loop-met.at c.loop-met.invariant c.index_of-index.result
    c.index_of-index.ensures.is c.if-met-index.false (forward_map_of (tables_in c.deref.result.now) c.loop-met.at) same c.in_default.ensures in
    record { ends = a.ends; only = a.only }

pub returns-in-Own : goal.returns-in-Own
returns-in-Own c =
    let same = ap (λ (tries : List (TableValue From)). forward_map_of (tables_in tries) c.loop-met.at) c.deref.ensures
    ∙ ap (λ (tables : List ForwardMap). forward_map_of tables c.loop-met.at) c.self.view_is in
    let a = ends_own c.args.self.now c.args.address c.args.from c.loop-met.met c.loop-met.at c.loop-met.invariant c.index_of-index.result
    c.index_of-index.ensures.is c.if-met-index.false (forward_map_of (tables_in c.deref.result.now) c.loop-met.at) same
    c.in-Some.entry.prefix c.in-Some.entry.from c.in-Some.ensures c.in-Own.is in
    record { ends = a.ends; only = a.only }

pub returns-in-Peering : goal.returns-in-Peering
returns-in-Peering c =
    let same = ap (λ (tries : List (TableValue From)). forward_map_of (tables_in tries) c.loop-met.at) c.deref.ensures
    ∙ ap (λ (tables : List ForwardMap). forward_map_of tables c.loop-met.at) c.self.view_is in
    let a = ends_out c.args.self.now c.args.address c.args.from c.loop-met.met c.loop-met.at c.loop-met.invariant c.index_of-index.result
    c.index_of-index.ensures.is c.if-met-index.false (forward_map_of (tables_in c.deref.result.now) c.loop-met.at) same
    c.in-Some.entry.prefix c.in-Some.entry.from c.in-Some.ensures c.in-Peering.peering c.in-Peering.is in
    record { ends = a.ends; only = a.only }

pub loop-met-preserved : goal.loop-met-preserved
loop-met-preserved c =
    let same = ap (λ (tries : List (TableValue From)). forward_map_of (tables_in tries) c.loop-met.at) c.deref.ensures
    ∙ ap (λ (tables : List ForwardMap). forward_map_of tables c.loop-met.at) c.self.view_is in
    goes_on c.args.self.now c.args.address c.args.from c.loop-met.met c.loop-met.at c.loop-met.invariant c.index_of-index.result
    c.index_of-index.ensures.is c.if-met-index.false (forward_map_of (tables_in c.deref.result.now) c.loop-met.at) same
    c.in-Some.entry.prefix c.in-Some.entry.from c.in-Some.ensures
    (omega (arith, c.index_of-index.ensures.is, c.index_of-index.ensures.fits)) c.in-Router.next c.in-Router.is
