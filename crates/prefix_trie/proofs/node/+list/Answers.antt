use Rattle.std.proofs.Common.{rules, ◌≡◌, ◌<◌, List, [], ◌∷◌, ◌++◌, append_assoc, append-nil, map, Bool, true}
use Rattle.std.proofs.Common.{false, Option, Some, None, is_some, refl, sym, ap, ◌∙◌, arith}
use Rattle.std.specs.Option.{option_copied}
use Rattle.std.proofs.lemmas.List.{map-append}
use Rattle.bgp_types.specs.Prefixes.{PrefixValue}
use Rattle.prefix_trie.specs.Nodes.{own}
use Rattle.prefix_trie.specs.Arena.{value_at, entries_at, IsTrieAt}
use Rattle.prefix_trie.proofs.Levels.{left, none_at, one_less, zero_less}
use Rattle.prefix_trie.proofs.Indices.{at_index}
use Rattle.prefix_trie.proofs.node.+list.Goals.{then-has_value+in_ok-push, else-has_value}
use Rattle.prefix_trie.proofs.node.+list.Goals as goal

pub list-requires : goal.list-requires
list-requires g t c =
    let f = at_index c.args.nodes.now c.args.values.now c.args.index c.in-Some.node.now (sym c.node_at.ensures ∙ ap option_copied c.in-Some.is) c.requires in
    let trie : IsTrieAt c.args.nodes.now c.in-Some.node.now.zero = f.at.zero_below in
    let falls = zero_less c.args.nodes.now c.args.index c.in-Some.node.now (sym c.node_at.ensures ∙ ap option_copied c.in-Some.is) c.requires in
    let less : left c.args.nodes.now c.in-Some.node.now.zero < t = omega (arith, falls, c.decreases) in
    search rules

pub list-requires-in-Some : goal.list-requires-in-Some
list-requires-in-Some g t c =
    let f = at_index c.args.nodes.now c.args.values.now c.args.index c.in-Some.node.now (sym c.node_at.ensures ∙ ap option_copied c.in-Some.is) c.requires in
    let trie : IsTrieAt c.args.nodes.now c.in-Some.node.now.one = f.at.one_below in
    let falls = one_less c.args.nodes.now c.args.index c.in-Some.node.now (sym c.node_at.ensures ∙ ap option_copied c.in-Some.is) c.requires in
    let less : left c.args.nodes.now c.in-Some.node.now.one < t = omega (arith, falls, c.decreases) in
    search rules

pub returns-in_default : goal.returns-in_default
returns-in_default g t c = sym (ap (λ (es : List (PrefixValue × g.row.V.Denot)). c.args.prefixes.now ++ map (λ e. e.0) es)
    (none_at c.args.nodes.now c.args.values.now c.args.index (sym c.node_at.ensures ∙ ap option_copied c.in_default.is)) ∙ append-nil c.args.prefixes.now)

abbrev first_of : {V : Type 0} → PrefixValue × V → PrefixValue
first_of e = e.0

own_some : {V : Type 0} (p : PrefixValue) (o : Option V) → is_some o ≡ true → map first_of (own p o) ≡ p ∷ []
own_some p None is = absurd (let e : ◌≡◌ {A = Bool} false true = is in cc)
own_some p (Some v) is = refl

own_none : {V : Type 0} (p : PrefixValue) (o : Option V) → is_some o ≡ false → map first_of (own p o) ≡ []
own_none p None is = refl
own_none p (Some v) is = absurd (let e : ◌≡◌ {A = Bool} true false = is in cc)

three : {V : Type 0} (done : List PrefixValue) (a b c : List (PrefixValue × V))
    → ((done ++ map first_of a) ++ map first_of b) ++ map first_of c ≡ done ++ map first_of (a ++ (b ++ c))
three done a b c =
    append_assoc (done ++ map first_of a) (map first_of b) (map first_of c)
    ∙ (append_assoc done (map first_of a) (map first_of b ++ map first_of c)
    ∙ ap (λ (xs : List PrefixValue). done ++ xs)
    (ap (λ (xs : List PrefixValue). map first_of a ++ xs) (sym (map-append first_of b c)) ∙ sym (map-append first_of a (b ++ c))))

pub returns-in_ok-list-2 : goal.returns-in_ok-list-2
returns-in_ok-list-2 g t c =
    let n = c.in-Some.node.now in
    let es = entries_at c.args.nodes.now c.args.values.now in
    let v = value_at c.args.values.now c.args.index in
    let f = at_index c.args.nodes.now c.args.values.now c.args.index n (sym c.node_at.ensures ∙ ap option_copied c.in-Some.is) c.requires in
    let here : c.if-has_value.prefixes ≡ c.args.prefixes.now ++ map first_of (own n.prefix v) = elim c.if-has_value.branch [
      | then-has_value+in_ok-push w ↦ w.prefixes-is
          ∙ (w.in_ok-push.ensures.ok
          ∙ ap (λ (xs : List PrefixValue). c.args.prefixes.now ++ xs) (sym (own_some n.prefix v (sym c.has_value.ensures ∙ w.if-has_value.true))))
      | else-has_value w ↦ w.prefixes-is
          ∙ (sym (append-nil c.args.prefixes.now)
          ∙ ap (λ (xs : List PrefixValue). c.args.prefixes.now ++ xs) (sym (own_none n.prefix v (sym c.has_value.ensures ∙ w.if-has_value.false))))
    ] in
    c.in_ok-list-2.ensures
    ∙ (ap (λ (xs : List PrefixValue). xs ++ map first_of (es n.one))
    (c.in_ok-list.ensures ∙ ap (λ (xs : List PrefixValue). xs ++ map first_of (es n.zero)) here)
    ∙ (three c.args.prefixes.now (own n.prefix v) (es n.zero) (es n.one)
    ∙ ap (λ (xs : List (PrefixValue × g.row.V.Denot)). c.args.prefixes.now ++ map first_of xs) (sym f.is)))
