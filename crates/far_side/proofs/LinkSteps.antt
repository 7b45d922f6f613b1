-- A link that gains or loses a segment.
use Rattle.std.proofs.Common.{◌≡◌, ℕ, zero, suc, ◌+◌, ◌<◌, List, [], ◌∷◌, ◌++◌, length, take, drop, map, Option, Some, sym, ap, subst, ◌∙◌, arith, add-one}
use Rattle.std.specs.Prelude.{slice_get, All, option_map}
use Rattle.std.specs.List.{remove, AllByRecursion}
use Rattle.std.proofs.lemmas.List.{map-append, take-map, drop-map}
use Rattle.std.proofs.lemmas.List.Elements.{All-from_recursion, recursion_from_All}
use Rattle.std.proofs.lemmas.Option.{slice_get-map}
use Rattle.tcp_seq.specs.Endpoint.{IsInStreams}
use Rattle.tcp_seq.specs.Placed.{placed}
use Rattle.tcp_seq.specs.declared.segment.Segment.{Segment}
use Rattle.graft_model.specs.FarRows.{without}
use Rattle.far_side.specs.Links.{LinkValue, IsOn}
use Rattle.far_side.specs.LinkInner.{link_of, LinkInvariant}
use Rattle.far_side.specs.declared.link.InLink.{InLink}
use Rattle.far_side.specs.declared.link.Link.TheInside.{Inside}

-- a list without the member at an index
pub removed_is : {A : Type 0} (xs : List A) (index : ℕ) → remove xs index ≡ without index xs
removed_is xs index = ap (λ (n : ℕ). take index xs ++ drop n xs) (sym (add-one index))

pub map-removed : {A B : Type 0} (f : A → B) (xs : List A) (index : ℕ) → map f (remove xs index) ≡ without index (map f xs)
map-removed f xs index = ap (map f) (removed_is xs index) ∙ map-append f (take index xs) (drop (index + 1) xs)
    ∙ ap (λ ys. ys ++ map f (drop (index + 1) xs)) (sym (take-map f index xs)) ∙ ap (λ ys. take index (map f xs) ++ ys) (sym (drop-map f (index + 1) xs))

all_removed : (P : Segment → Type 0) (index : ℕ) (xs : List Segment) → AllByRecursion P xs → AllByRecursion P (take index xs ++ drop (suc index) xs)
all_removed P zero [] h = h
all_removed P zero (x ∷ xs) h = h.1
all_removed P (suc index) [] h = h
all_removed P (suc index) (x ∷ xs) h = (h.0, all_removed P index xs h.1)

all_at : (P : Segment → Type 0) (index : ℕ) (xs : List Segment) (x : Segment) → slice_get xs index ≡ Some x → AllByRecursion P xs → P x
all_at P zero [] x is h = absurd (let e : ⊥ = cc in e)
all_at P zero (z ∷ zs) x is h = let e : z ≡ x = cc in subst P e h.0
all_at P (suc index) [] x is h = absurd (let e : ⊥ = cc in e)
all_at P (suc index) (z ∷ zs) x is h = all_at P index zs x is h.1

-- the segment at an index is one of the link
pub on_at : (l : Inside) (index : ℕ) (g : Segment) → LinkInvariant l → slice_get l.bag index ≡ Some g → IsOn (link_of l) g
on_at l index g keeps is = all_at (IsOn (link_of l)) index l.bag g is (recursion_from_All (IsOn (link_of l)) l.bag keeps.own)

-- its offsets are those that the link is seen with
pub seen_at : (l : Inside) (index : ℕ) (g : Segment) → slice_get l.bag index ≡ Some g
    → slice_get (link_of l).segments index ≡ Some (placed (link_of l).seq_first (link_of l).ack_first g)
seen_at l index g is = slice_get-map (placed l.seq_first.0 l.ack_first.0) l.bag index
    ∙ ap (λ (o : Option Segment). option_map (placed l.seq_first.0 l.ack_first.0) o) is

-- the other segments stay ones of the link
pub own_others : (l : Inside) (index : ℕ) → LinkInvariant l → All (IsOn (link_of l)) (remove l.bag index)
own_others l index keeps = All-from_recursion (IsOn (link_of l)) (remove l.bag index)
    (all_removed (IsOn (link_of l)) index l.bag (recursion_from_All (IsOn (link_of l)) l.bag keeps.own))

-- a segment more
put_seen : (l : Inside) (bag : List Segment) (plans : List InLink) (number : ℕ) (g : Segment) (x : InLink) → bag ≡ l.bag ++ g ∷ []
    → plans ≡ l.plans.items ++ x ∷ [] → number ≡ l.put + 1
    → let v : LinkValue = record (link_of l) { segments = map (placed l.seq_first.0 l.ack_first.0) bag; plans = plans; put = number } in
    v ≡ record (link_of l) {
      segments = (link_of l).segments ++ placed l.seq_first.0 l.ack_first.0 g ∷ [];
      plans = (link_of l).plans ++ x ∷ [];
      put = (link_of l).put + 1;
    }
put_seen l bag plans number g x is more next = λ i. record {
  way = l.way;
  peering = l.peering.0;
  seq_first = l.seq_first.0;
  ack_first = l.ack_first.0;
  segments = (ap (map (placed l.seq_first.0 l.ack_first.0)) is ∙ map-append (placed l.seq_first.0 l.ack_first.0) l.bag (g ∷ [])) i;
  plans = more i;
  put = next i;
}

-- the link as it is seen after one was put
pub put_then : (l : Inside) (v : LinkValue) (bag : List Segment) (plans : List InLink) (number : ℕ) (g : Segment) (x y : InLink) → link_of l ≡ v
    → bag ≡ l.bag ++ g ∷ [] → plans ≡ l.plans.items ++ x ∷ [] → number ≡ l.put + 1 → x ≡ y
    → let w : LinkValue = record (link_of l) { segments = map (placed l.seq_first.0 l.ack_first.0) bag; plans = plans; put = number } in
    w ≡ record v { segments = v.segments ++ placed v.seq_first v.ack_first g ∷ []; plans = v.plans ++ y ∷ []; put = v.put + 1 }
put_then l v bag plans number g x y seen is more next same =
    subst
    (λ (u : LinkValue). let w : LinkValue = record (link_of l) { segments = map (placed l.seq_first.0 l.ack_first.0) bag; plans = plans; put = number } in
    w ≡ record u { segments = u.segments ++ placed u.seq_first u.ack_first g ∷ []; plans = u.plans ++ y ∷ []; put = u.put + 1 }) seen
    (put_seen l bag plans number g y is (more ∙ ap (λ (z : InLink). l.plans.items ++ z ∷ []) same) next)

-- the link as it is seen without the segment at an index
pub removed_then : (l : Inside) (v : LinkValue) (bag : List Segment) (plans : List InLink) (index : ℕ) → link_of l ≡ v → bag ≡ remove l.bag index
    → plans ≡ remove l.plans.items index
    → let w : LinkValue = record (link_of l) { segments = map (placed l.seq_first.0 l.ack_first.0) bag; plans = plans } in
    w ≡ record v { segments = without index v.segments; plans = without index v.plans }
removed_then l v bag plans index seen is less =
    subst (λ (u : LinkValue). let w : LinkValue = record (link_of l) { segments = map (placed l.seq_first.0 l.ack_first.0) bag; plans = plans } in
    w ≡ record u { segments = without index u.segments; plans = without index u.plans }) seen
    (λ i. record {
      way = l.way;
      peering = l.peering.0;
      seq_first = l.seq_first.0;
      ack_first = l.ack_first.0;
      segments = (ap (map (placed l.seq_first.0 l.ack_first.0)) is ∙ map-removed (placed l.seq_first.0 l.ack_first.0) l.bag index) i;
      plans = (less ∙ removed_is l.plans.items index) i;
      put = l.put;
    })

length_removed : {A : Type 0} (xs : List A) (index : ℕ) → index < length xs → length (remove xs index) + 1 ≡ length xs
length_removed [] index below = absurd (omega (arith, below))
length_removed (x ∷ xs) zero below = let e : length xs + 1 ≡ suc (length xs) = add-one (length xs) in e
length_removed (x ∷ xs) (suc index) below =
    let h : length (remove xs index) + 1 ≡ length xs = length_removed xs index (omega (arith, below)) in omega (arith, h)

-- what its fields keep
pub keeps_removed : (l l' : Inside) (index : ℕ) → LinkInvariant l → index < length l.bag → l'.bag ≡ remove l.bag index
    → l'.plans.items ≡ remove l.plans.items index → l'.way ≡ l.way → l'.peering ≡ l.peering → l'.seq_first ≡ l.seq_first → l'.ack_first ≡ l.ack_first
    → LinkInvariant l'
keeps_removed l l' index keeps below bag plans way peering first other = record {
  own = subst (λ (gs : List Segment). All (IsOn (link_of l')) gs) (sym bag) (All-from_recursion (IsOn (link_of l')) (remove l.bag index)
      (all_same (remove l.bag index) (recursion_from_All (IsOn (link_of l)) (remove l.bag index) (own_others l index keeps))));
  planned = ap length plans
      ∙ (let e : length (remove l.plans.items index) ≡ length (remove l.bag index) =
      omega (arith, length_removed l.plans.items index (omega (arith, keeps.planned, below)), length_removed l.bag index below, keeps.planned) in e)
      ∙ sym (ap length bag);
  few = omega (arith, ap length bag, length_removed l.bag index below, keeps.few);
}
  where
    same_on : (g : Segment) → IsOn (link_of l) g → IsOn (link_of l') g
    same_on g on = record {
      way = on.way ∙ sym way;
      peering = on.peering ∙ sym (ap (λ p. p.0) peering);
      in_streams = subst (λ (n : ℕ). IsInStreams (placed n l'.ack_first.0 g)) (sym (ap (λ s. s.0) first))
          (subst (λ (n : ℕ). IsInStreams (placed l.seq_first.0 n g)) (sym (ap (λ s. s.0) other)) on.in_streams);
      short = on.short;
    }

    all_same : (gs : List Segment) → AllByRecursion (IsOn (link_of l)) gs → AllByRecursion (IsOn (link_of l')) gs
    all_same [] h = tt
    all_same (g ∷ gs) h = (same_on g h.0, all_same gs h.1)
