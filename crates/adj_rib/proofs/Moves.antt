-- What an UPDATE does, a prefix after another.
use Rattle.std.proofs.Common.{◌≡◌, ◌≢◌, Bool, true, false, cond, ◌||◌, List, [], ◌∷◌, ◌++◌, Option, Some, None, refl, sym, ap, ◌∙◌, subst}
use Rattle.std.specs.Prelude.{fold, is_some, All}
use Rattle.std.specs.FinMap as map
use Rattle.std.specs.List.{list_any}
use Rattle.std.specs.List.Sorted.{IsStrictlySortedBy}
use Rattle.std.proofs.lemmas.Bool.{false≢true}
use Rattle.std.proofs.lemmas.List.Folds.{list_any-append}
use Rattle.std.proofs.lemmas.List.Elements.{All-nil, All-cons}
use Rattle.bgp_types.specs.declared.attrs.Attrs.{Attrs}
use Rattle.bgp_types.specs.declared.message.Update.{Update}
use Rattle.bgp_types.specs.Prefixes.{PrefixValue, same_prefix}
use Rattle.bgp_types.specs.Tables.{prefix_cmp}
use Rattle.bgp_types.proofs.OnceLaws.{same_itself, is_same}
use Rattle.bgp_types.proofs.TableLaws.{prefix_total, exact_prefixes}
use Rattle.bgp_story.specs.Readings.{Routes, announce, apply}
use Rattle.adj_rib.specs.Changes.{Changed, RoutesMoved, given_by_update, withdraw_unless}
use Rattle.adj_rib.proofs.Indices.{one_test}

get_insert : (r : Routes) (p : PrefixValue) (a : Attrs) (q : PrefixValue) → map.get (map.insert r p a) q ≡ cond (same_prefix q p) (Some a) (map.get r q)
get_insert r p a q = map.get-insert prefix_total r p a q ∙ ap (λ (b : Bool). cond b (Some a) (map.get r q)) (one_test q p)

get_remove : (r : Routes) (p : PrefixValue) (q : PrefixValue) → map.get (map.remove r p) q ≡ cond (same_prefix q p) None (map.get r q)
get_remove r p q = map.get-remove prefix_total r p q ∙ ap (λ (b : Bool). cond b None (map.get r q)) (one_test q p)

-- ---- the list of what changed

neither : (a b : Bool) → (a || b) ≡ false → (a ≡ false) × (b ≡ false)
neither true b e = absurd (false≢true (sym e))
neither false b e = (refl, e)

nothing_more : (b : Bool) → (b || false) ≡ b
nothing_more true = refl
nothing_more false = refl

-- nothing has changed at the start
pub starts : (to : PrefixValue → Option Attrs) (before : Routes) → RoutesMoved to before before []
starts to before = record { moved = λ p e. absurd (false≢true e); others = λ p e. refl }

module _ (to : PrefixValue → Option Attrs) (before r s : Routes) (prefixes : List PrefixValue) (m : RoutesMoved to before r prefixes) where
  pub stays : ((q : PrefixValue) → map.get s q ≡ map.get r q) → RoutesMoved to before s prefixes
  stays same = record {
    moved = λ q e. (same q ∙ (m.moved q e).0, λ f. (m.moved q e).1 (sym (same q) ∙ f));
    others = λ q e. same q ∙ m.others q e;
  }

  module _ (p : PrefixValue) (set : (q : PrefixValue) → map.get s q ≡ cond (same_prefix q p) (to p) (map.get r q)) where
    set_here : map.get s p ≡ to p
    set_here = set p ∙ ap (λ (b : Bool). cond b (to p) (map.get r p)) (same_itself p)

    set_others : (q : PrefixValue) → same_prefix q p ≡ false → map.get s q ≡ map.get r q
    set_others q e = set q ∙ ap (λ (b : Bool). cond b (to p) (map.get r q)) e

    -- a prefix that is given what it has
    pub kept : map.get r p ≡ to p → RoutesMoved to before s prefixes
    kept has = stays (λ q. elim (same_prefix q p) as (λ b. same_prefix q p ≡ b → map.get s q ≡ map.get r q) [
      | true ↦ λ e. subst (λ (x : PrefixValue). map.get s x ≡ map.get r x) (sym (is_same q p e)) (set_here ∙ sym has)
      | false ↦ λ e. set_others q e
    ] refl)

    -- a prefix that is given something else than it has
    module _ (had : map.get r p ≢ to p) where
      unlisted : list_any (same_prefix p) prefixes ≡ false
      unlisted = elim (list_any (same_prefix p) prefixes) as (λ b. list_any (same_prefix p) prefixes ≡ b → list_any (same_prefix p) prefixes ≡ false) [
        | true ↦ λ e. absurd (had (m.moved p e).0)
        | false ↦ λ e. e
      ] refl

      changed_here : (map.get s p ≡ to p) × (map.get s p ≢ map.get before p)
      changed_here = (set_here, λ e. had (m.others p unlisted ∙ (sym e ∙ set_here)))

      changed_there : (q : PrefixValue) → (list_any (same_prefix q) prefixes || (same_prefix q p || false)) ≡ true
          → (map.get s q ≡ to q) × (map.get s q ≢ map.get before q)
      changed_there q = elim (same_prefix q p) as (λ b. same_prefix q p ≡ b
          → (list_any (same_prefix q) prefixes || (b || false)) ≡ true → (map.get s q ≡ to q) × (map.get s q ≢ map.get before q)) [
            | true ↦ λ e l. subst (λ (x : PrefixValue). (map.get s x ≡ to x) × (map.get s x ≢ map.get before x)) (sym (is_same q p e)) changed_here
            | false ↦ λ e l. let was = m.moved q (sym (nothing_more (list_any (same_prefix q) prefixes)) ∙ l) in
                (set_others q e ∙ was.0, λ f. was.1 (sym (set_others q e) ∙ f))
          ] refl

      pub moves : RoutesMoved to before s (prefixes ++ p ∷ [])
      moves = record {
        moved = λ q e. changed_there q (sym (list_any-append (same_prefix q) prefixes (p ∷ [])) ∙ e);
        others = λ q e.
            let h = neither (list_any (same_prefix q) prefixes) (list_any (same_prefix q) (p ∷ []))
            (sym (list_any-append (same_prefix q) prefixes (p ∷ [])) ∙ e) in
            set_others q (neither (same_prefix q p) false h.1).0 ∙ m.others q h.0;
      }

absent : {A : Type 0} (o : Option A) → is_some o ≡ false → o ≡ None
absent None e = refl
absent (Some x) e = absurd (false≢true (sym e))

module _ (to : PrefixValue → Option Attrs) (before r s : Routes) (prefixes : List PrefixValue) (m : RoutesMoved to before r prefixes) (p : PrefixValue) where
  module _ (is : s ≡ map.remove r p) (gone : is_some (to p) ≡ false) where
    removed : (q : PrefixValue) → map.get s q ≡ cond (same_prefix q p) (to p) (map.get r q)
    removed q = ap (λ (x : Routes). map.get x q) is
        ∙ (get_remove r p q ∙ ap (λ (o : Option Attrs). cond (same_prefix q p) o (map.get r q)) (sym (absent (to p) gone)))

    pub withdrawn : is_some (map.get r p) ≡ true → RoutesMoved to before s (prefixes ++ p ∷ [])
    withdrawn there = moves to before r s prefixes m p removed (λ e. false≢true (sym gone ∙ (ap is_some (sym e) ∙ there)))

    pub not_there : is_some (map.get r p) ≡ false → RoutesMoved to before s prefixes
    not_there none = kept to before r s prefixes m p removed (absent (map.get r p) none ∙ sym (absent (to p) gone))

  module _ (a : Attrs) (is : s ≡ map.insert r p a) (gives : to p ≡ Some a) where
    inserted : (q : PrefixValue) → map.get s q ≡ cond (same_prefix q p) (to p) (map.get r q)
    inserted q = ap (λ (x : Routes). map.get x q) is ∙ (get_insert r p a q ∙ ap (λ (o : Option Attrs). cond (same_prefix q p) o (map.get r q)) (sym gives))

    pub announced : map.get r p ≢ Some a → RoutesMoved to before s (prefixes ++ p ∷ [])
    announced other = moves to before r s prefixes m p inserted (λ e. other (e ∙ gives))

    pub had_it : map.get r p ≡ Some a → RoutesMoved to before s prefixes
    had_it same = kept to before r s prefixes m p inserted (same ∙ sym gives)

-- ---- an UPDATE as a whole

none_of : (p : PrefixValue) (ps : List PrefixValue) (q : PrefixValue) → list_any (same_prefix p) ps ≡ false → list_any (same_prefix q) ps ≡ true
    → same_prefix p q ≡ false
none_of p ps q out in' = elim (same_prefix p q) as (λ b. same_prefix p q ≡ b → same_prefix p q ≡ false) [
  | true ↦ λ e. absurd (false≢true (sym out ∙ (ap (λ (x : PrefixValue). list_any (same_prefix x) ps) (is_same p q e) ∙ in')))
  | false ↦ λ e. e
] refl

-- withdrawals that leave what is announced leave a prefix that isn't as all withdrawals do
module _ (announced : List PrefixValue) (p : PrefixValue) (out : list_any (same_prefix p) announced ≡ false) where
  one_withdrawn : (r s : Routes) (q : PrefixValue) → map.get r p ≡ map.get s p → map.get (withdraw_unless announced r q) p ≡ map.get (map.remove s q) p
  one_withdrawn r s q e = elim (list_any (same_prefix q) announced)
      as (λ b. list_any (same_prefix q) announced ≡ b → map.get (cond b r (map.remove r q)) p ≡ map.get (map.remove s q) p) [
        | true ↦ λ f. e ∙ sym (get_remove s q p ∙ ap (λ (b : Bool). cond b None (map.get s p)) (none_of p announced q out f))
        | false ↦ λ f. get_remove r q p ∙ (ap (cond (same_prefix p q) None) e ∙ sym (get_remove s q p))
      ] refl

  all_withdrawn : (ps : List PrefixValue) (r s : Routes) → map.get r p ≡ map.get s p
      → map.get (fold (withdraw_unless announced) r ps) p ≡ map.get (fold map.remove s ps) p
  all_withdrawn [] r s e = e
  all_withdrawn (q ∷ ps) r s e = all_withdrawn ps (withdraw_unless announced r q) (map.remove s q) (one_withdrawn r s q e)

either : (t u : Bool) (new old : Option Attrs) → cond u new (cond t new old) ≡ cond (t || u) new old
either true true new old = refl
either true false new old = refl
either false u new old = refl

some_announced : (a : Attrs) (ps : List PrefixValue) (r : Routes) (p : PrefixValue)
    → map.get (fold (announce (Some a)) r ps) p ≡ cond (list_any (same_prefix p) ps) (Some a) (map.get r p)
some_announced a [] r p = refl
some_announced a (q ∷ ps) r p =
    some_announced a ps (map.insert r q a) p
    ∙ (ap (λ (o : Option Attrs). cond (list_any (same_prefix p) ps) (Some a) o) (get_insert r q a p)
    ∙ either (same_prefix p q) (list_any (same_prefix p) ps) (Some a) (map.get r p))

-- nothing is announced without attributes
none_announced : (r : Routes) (ps : List PrefixValue) → fold (announce None) r ps ≡ r
none_announced r [] = refl
none_announced r (p ∷ ps) = none_announced r ps

none_given : (b : Bool) (attrs : Option Attrs) → attrs ≡ None → is_some (cond b attrs None) ≡ false
none_given true attrs e = ap is_some e
none_given false attrs e = refl

-- tables that are alike but for what is announced are alike once it is
alike : (attrs : Option Attrs) (nlri : List PrefixValue) (r s : Routes) (p : PrefixValue)
    → (is_some (cond (list_any (same_prefix p) nlri) attrs None) ≡ false → map.get r p ≡ map.get s p)
    → map.get (fold (announce attrs) r nlri) p ≡ map.get (fold (announce attrs) s nlri) p
alike None nlri r s p same = ap (λ (x : Routes). map.get x p) (none_announced r nlri)
    ∙ (same (none_given (list_any (same_prefix p) nlri) None refl) ∙ ap (λ (x : Routes). map.get x p) (sym (none_announced s nlri)))
alike (Some a) nlri r s p same =
    some_announced a nlri r p
    ∙ (elim (list_any (same_prefix p) nlri)
    as (λ b. (is_some (cond b (Some a) None) ≡ false → map.get r p ≡ map.get s p) → cond b (Some a) (map.get r p) ≡ cond b (Some a) (map.get s p)) [
      | true ↦ λ h. refl
      | false ↦ λ h. h refl
    ] same
    ∙ sym (some_announced a nlri s p))

-- withdrawals that leave what is announced, and then announcements
applied : (old : Routes) (u : Update) (announced : List PrefixValue)
    → ((p : PrefixValue) → list_any (same_prefix p) announced ≡ is_some (given_by_update u p))
    → fold (announce u.attrs) (fold (withdraw_unless announced) old u.withdrawn) u.nlri ≡ apply old u
applied old u announced among = map.same_map prefix_total exact_prefixes _ _
    (λ p. alike u.attrs u.nlri _ _ p (λ none. all_withdrawn announced p (among p ∙ none) u.withdrawn old old refl))

-- withdrawals that leave what is announced leave the announcements to be made, and so do none
pub all_but_announced : (old middle : Routes) (u : Update) (announced : List PrefixValue)
    → ((p : PrefixValue) → list_any (same_prefix p) announced ≡ is_some (given_by_update u p))
    → middle ≡ fold (withdraw_unless announced) old u.withdrawn
    → fold (announce u.attrs) middle u.nlri ≡ apply old u
all_but_announced old middle u announced among m = ap (λ (r : Routes). fold (announce u.attrs) r u.nlri) m ∙ applied old u announced among

pub none_withdrawn : (old : Routes) (u : Update) → u.withdrawn ≡ [] → fold (announce u.attrs) old u.nlri ≡ apply old u
none_withdrawn old u none = ap (λ (ps : List PrefixValue). fold (announce u.attrs) (fold map.remove old ps) u.nlri) (sym none)

module _ (old middle : Routes) (u : Update) (left : fold (announce u.attrs) middle u.nlri ≡ apply old u) where
  then_announced : (attrs : Option Attrs) → u.attrs ≡ attrs → fold (announce attrs) middle u.nlri ≡ apply old u
  then_announced attrs is = ap (λ (o : Option Attrs). fold (announce o) middle u.nlri) (sym is) ∙ left

  pub applied_some : (a : Attrs) → u.attrs ≡ Some a → (end : Routes) → end ≡ fold (announce (Some a)) middle u.nlri → end ≡ apply old u
  applied_some a is end e = e ∙ then_announced (Some a) is

  pub applied_none : u.attrs ≡ None → middle ≡ apply old u
  applied_none is = sym (none_announced middle u.nlri) ∙ then_announced None is

-- what is announced is given the attributes
pub given_announced : (u : Update) (a : Attrs) → u.attrs ≡ Some a → (p : PrefixValue) → list_any (same_prefix p) u.nlri ≡ true → given_by_update u p ≡ Some a
given_announced u a is p among = ap (λ (b : Bool). cond b u.attrs None) among ∙ is

-- ---- the list in order

or_true : (a b : Bool) → b ≡ true → (a || b) ≡ true
or_true true b e = refl
or_true false b e = e

all_of : (P : PrefixValue → Type 0) (ps : List PrefixValue) → ((p : PrefixValue) → list_any (same_prefix p) ps ≡ true → P p) → All P ps
all_of P [] h = All-nil P
all_of P (p ∷ ps) h = All-cons P p ps (h p (ap (λ (b : Bool). b || list_any (same_prefix p) ps) (same_itself p)))
    (all_of P ps (λ q e. h q (or_true (same_prefix q p) (list_any (same_prefix q) ps) e)))

pub listed : (to : PrefixValue → Option Attrs) (before now : Routes) (changed prefixes : List PrefixValue) → RoutesMoved to before now changed
    → IsStrictlySortedBy prefix_cmp prefixes
    → ((p : PrefixValue) → list_any (same_prefix p) prefixes ≡ list_any (same_prefix p) changed) → Changed before now prefixes
listed to before now changed prefixes m rising same = record {
  rising = rising;
  changed = all_of (λ p. map.get now p ≢ map.get before p) prefixes (λ p e. (m.moved p (sym (same p) ∙ e)).1);
  others = λ p e. m.others p (sym (same p) ∙ e);
}
