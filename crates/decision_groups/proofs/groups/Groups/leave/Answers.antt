use Rattle.std.proofs.Common.{◌≡◌, ◌==◌, cond, [], refl, sym, ap, ◌∙◌, subst, arith}
use Rattle.std.specs.Ordering.{nat_cmp}
use Rattle.decision_groups.specs.Order.{without_source}
use Rattle.decision_groups.specs.Groups.{AreNumbered, group_at, members_of, some_members}
use Rattle.decision_groups.proofs.Indices.{index-within}
use Rattle.decision_groups.proofs.Numbered.{changed_numbers, gone_numbers, group-stays, group-gone, group-none}
use Rattle.decision_groups.proofs.groups.Groups.leave.Goals as goal

-- ---- where the neighbour AS has no group

pub returns-in_default : goal.returns-in_default
returns-in_default c n =
    let es = c.self.inside.entries.items in
    let gap = rw c.deref.ensures.value at c.in_default.ensures.absent in
    ap (λ gs. group_at gs n) (sym c.self.view_is)
    ∙ (group-none es c.args.neighbour c.in_default.field-0 gap n (λ ms. without_source ms c.args.from) refl
    ∙ ap (λ gs. cond (n == c.args.neighbour) (some_members (without_source (members_of gs n) c.args.from)) (group_at gs n)) c.self.view_is)

-- ---- where it has one

pub index_mut-requires : goal.index_mut-requires
index_mut-requires c =
    let entries = c.self.inside.entries in
    let here = rw c.deref.ensures.value at c.in-Ok.ensures.found in
    omega (arith, entries.ok.0, index-within nat_cmp c.args.neighbour entries.items c.in-Ok.at here)

pub remove-requires-then-is_empty : goal.remove-requires-then-is_empty
remove-requires-then-is_empty c =
    let entries = c.self.inside.entries in
    let here = rw c.deref.ensures.value at c.in-Ok.ensures.found in
    omega (arith, entries.ok.0, index-within nat_cmp c.args.neighbour entries.items c.in-Ok.at here)

pub invariant_of-self : goal.invariant_of-self
invariant_of-self c =
    let es = c.self.inside.entries.items in
    let here = rw c.deref.ensures.value at c.in-Ok.ensures.found in
    subst AreNumbered (sym c.remove-then-is_empty.ensures.items)
    (gone_numbers es c.args.neighbour c.in-Ok.at c.index_mut.result.now c.index_mut.ensures.value here c.self.invariant c.remove.new.self)

pub returns-then-is_empty : goal.returns-then-is_empty
returns-then-is_empty c n =
    let es = c.self.inside.entries.items in
    let here = rw c.deref.ensures.value at c.in-Ok.ensures.found in
    ap (λ gs. group_at gs n) c.remove-then-is_empty.ensures.items
    ∙ (group-gone es c.args.neighbour c.in-Ok.at c.index_mut.result.now c.index_mut.ensures.value here c.self.invariant n
    (λ ms. without_source ms c.args.from) c.remove.new.self c.remove.ensures (c.is_empty.ensures.0 c.if-is_empty.true)
    ∙ ap (λ gs. cond (n == c.args.neighbour) (some_members (without_source (members_of gs n) c.args.from)) (group_at gs n)) c.self.view_is)

pub invariant_of-self-else-is_empty : goal.invariant_of-self-else-is_empty
invariant_of-self-else-is_empty c =
    let es = c.self.inside.entries.items in
    let here = rw c.deref.ensures.value at c.in-Ok.ensures.found in
    changed_numbers es c.args.neighbour c.in-Ok.at c.index_mut.result.now c.index_mut.ensures.value here c.self.invariant c.remove.new.self

pub returns-else-is_empty : goal.returns-else-is_empty
returns-else-is_empty c n =
    let es = c.self.inside.entries.items in
    let here = rw c.deref.ensures.value at c.in-Ok.ensures.found in
    let some : c.remove.new.self ≡ [] → ⊥ = λ none. let yes = c.is_empty.ensures.1 none in let no = c.if-is_empty.false in cc in
    group-stays es c.args.neighbour c.in-Ok.at c.index_mut.result.now c.index_mut.ensures.value here n
    (λ ms. without_source ms c.args.from) c.remove.new.self c.remove.ensures some
    ∙ ap (λ gs. cond (n == c.args.neighbour) (some_members (without_source (members_of gs n) c.args.from)) (group_at gs n)) c.self.view_is
