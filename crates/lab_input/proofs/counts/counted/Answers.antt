use Rattle.std.proofs.Common.{◌≡◌, ◌∙◌, ℕ, ◌+◌, List, [], length, sym, ap, subst}
use Rattle.std.specs.Prelude.{Option, None, codes, sum_by}
use Rattle.std.specs.List.{flat_map}
use Rattle.std.specs.Option.{option_or}
use Rattle.bgp_types.specs.Prefixes.{PrefixValue, once_after}
use Rattle.lab_keys.specs.Kinds.{each_from}
use Rattle.lab_input.specs.declared.bad.BadInput.{BadInput}
use Rattle.lab_input.specs.Counts.{over_limit, step_grafts, settles_of, added_settle, prefixes_named, room_flaw, said_flaw, AreSaid, IsTally}
use Rattle.lab_input.proofs.Firsts.{first_of_parts}
use Rattle.lab_input.proofs.counts.counted.Goals as goal

abbrev whole_of : (grafts settles : ℕ) → List PrefixValue → Option BadInput
whole_of grafts settles prefixes =
    option_or (over_limit (codes "grafts") 256 grafts) (option_or (over_limit (codes "settles") 64 settles)
    (option_or (over_limit (codes "prefixes") 4096 (length (once_after [] prefixes))) None))

pub returns : goal.returns
returns c =
    let input = c.args.input.now in
    let peerings = input.peerings in
    let steps = input.steps in
    let tally = c.in_ok-tally.tally in
    let networks = flat_map (λ r. r.networks) input.routers in
    let of_steps : IsTally c.in_ok-networks.networks c.deref-2.result.now steps tally =
    subst (λ ts. IsTally c.in_ok-networks.networks c.deref-2.result.now ts tally) c.deref-3.ensures c.in_ok-tally.ensures in
    let of_peerings : IsTally c.in_ok-networks.networks peerings steps tally =
    subst (λ ps. IsTally c.in_ok-networks.networks ps steps tally) c.deref-2.ensures of_steps in
    let are : IsTally networks peerings steps tally =
    subst (λ ns. IsTally ns peerings steps tally) (c.in_ok-networks.ensures ∙ ap (flat_map (λ r. r.networks)) c.deref.ensures) of_peerings in
    let grafts = sum_by (step_grafts (length peerings)) steps in
    let settles = sum_by settles_of steps + added_settle steps in
    let whole : c.in_ok-whole.whole ≡ whole_of grafts settles (prefixes_named input) =
    c.in_ok-whole.ensures ∙ ap (λ ts. whole_of tally.grafts (tally.settles + added_settle ts) tally.prefixes) c.deref-4.ensures
    ∙ ap (λ n. whole_of n (tally.settles + added_settle steps) tally.prefixes) are.grafts
    ∙ ap (λ n. whole_of grafts (n + added_settle steps) tally.prefixes) are.settles ∙ ap (whole_of grafts settles) are.prefixes in
    let room = each_from (room_flaw peerings) 0 input.routers in
    let is_room : c.in_ok-room.room ≡ room =
    c.in_ok-room.ensures ∙ ap (λ ps. each_from (room_flaw ps) 0 c.deref-6.result.now) c.deref-5.ensures
    ∙ ap (each_from (room_flaw peerings) 0) c.deref-6.ensures in
    let said = each_from (said_flaw steps) 0 peerings in
    let counts : AreSaid steps c.deref-7.result.now c.deref-8.result.now =
    subst (λ ps. AreSaid steps ps c.deref-8.result.now) (sym c.deref-7.ensures)
    (subst (λ ns. AreSaid steps peerings ns) (sym c.deref-8.ensures.value) are.said) in
    let is_said : c.in_ok-said.said ≡ said = c.in_ok-said.ensures steps counts ∙ ap (each_from (said_flaw steps) 0) c.deref-7.ensures in
    c.first-3.ensures ∙ ap (option_or c.in_ok-whole.whole) (c.first-2.ensures ∙ ap (option_or c.in_ok-room.room) c.first.ensures)
    ∙ ap (λ o. option_or o (option_or c.in_ok-room.room (option_or c.in_ok-said.said None))) whole
    ∙ ap (λ o. option_or (whole_of grafts settles (prefixes_named input)) (option_or o (option_or c.in_ok-said.said None))) is_room
    ∙ ap (λ o. option_or (whole_of grafts settles (prefixes_named input)) (option_or room (option_or o None))) is_said
    ∙ first_of_parts (over_limit (codes "grafts") 256 grafts) (over_limit (codes "settles") 64 settles)
    (over_limit (codes "prefixes") 4096 (length (once_after [] (prefixes_named input)))) (option_or room (option_or said None))
