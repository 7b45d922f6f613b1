-- A stage goes from place to place.
use Rattle.std.proofs.Common.{◌≡◌, ◌≢◌, ℕ, zero, suc, ◌+◌, ◌<◌, ◌≤◌, List, [], ◌∷◌, ◌++◌, length, Bool}
use Rattle.std.proofs.Common.{inl, inr, refl, sym, ap, subst, ◌∙◌, arith, set, None, Option}
use Rattle.std.specs.Prelude.{nat_lt, if◌then◌else◌}
use Rattle.std.proofs.lemmas.List.{get_or-set_same, get_or-set_other}
use Rattle.std.proofs.lemmas.Bool.{cases_lt, lt-ltb, le-ltb}
use Rattle.ring_net.specs.declared.post.Post.{Post}
use Rattle.graft_steps.specs.declared.item.Item.{Item}
use Rattle.bgp_session.specs.Running.{RunningSession}
use Rattle.graft_model.specs.Points.{at}
use Rattle.graft_actors.specs.Emissions.{Tally}
use Rattle.router_tables.proofs.Points.{one_or_other, at_here, at_else}
use Rattle.router_core.specs.Parts.{RouterInvariant}
use Rattle.router_core.specs.Places.{place_of, place_at}
use Rattle.router_core.specs.Rounds.{DidAsRouter}
use Rattle.router_core.specs.Turned.{AreAt}
use Rattle.router_core.specs.Visits.{OnPeering, events_on, none_on, Stage, Visits, Visited}
use Rattle.router_core.specs.declared.fields.Fields.{Fields}
use Rattle.router_core.specs.declared.place.Place.{Place}
use Rattle.router_core.proofs.Dids.{did_same, did_then}
use Rattle.router_core.proofs.RoundLists.{at-append, events_on-append, none_then, on_then, then_none}

-- ---- counts

abbrev counted_by : (stage : Stage) → List (Option Place) → (ℕ → Tally) → ℕ → ℕ → Tally
counted_by stage places t n p = if nat_lt p n then stage.count (place_at places p) (t p) else t p

counted_below : (stage : Stage) (places : List (Option Place)) (t : ℕ → Tally) (n p : ℕ) → p < n
    → counted_by stage places t n p ≡ stage.count (place_at places p) (t p)
counted_below stage places t n p below = ap (λ (b : Bool). let x : Tally = if b then stage.count (place_at places p) (t p) else t p in x) (lt-ltb p n below)

counted_from : (stage : Stage) (places : List (Option Place)) (t : ℕ → Tally) (n p : ℕ) → n ≤ p → counted_by stage places t n p ≡ t p
counted_from stage places t n p from = ap (λ (b : Bool). let x : Tally = if b then stage.count (place_at places p) (t p) else t p in x) (le-ltb p n from)

-- ---- visits

module _ (stage : Stage) (a b c : Fields) (p q r : Post (Item RunningSession)) (n : ℕ) (before : Visited stage n a p b q) (now : Visits stage n b q c r) where
  -- the place had not had its turn
  fresh : place_at b.places.places n ≡ place_at a.places.places n
  fresh = (before.left n (omega arith)).0

  counted_then : (t : ℕ → Tally) (k : ℕ)
      → at (counted_by stage a.places.places t n) n (stage.count (place_at b.places.places n) (counted_by stage a.places.places t n n)) k
      ≡ counted_by stage a.places.places t (n + 1) k
  counted_then t k = elim (one_or_other n k) [
    | inl e ↦
        at_here (counted_by stage a.places.places t n) n (stage.count (place_at b.places.places n) (counted_by stage a.places.places t n n)) k e
        ∙ ap (λ (x : Option Place). stage.count x (counted_by stage a.places.places t n n)) fresh
        ∙ ap (λ (x : Tally). stage.count (place_at a.places.places n) x) (counted_from stage a.places.places t n n (omega arith))
        ∙ sym (counted_below stage a.places.places t (n + 1) n (omega arith))
        ∙ ap (counted_by stage a.places.places t (n + 1)) (sym e)
    | inr not ↦
        at_else (counted_by stage a.places.places t n) n (stage.count (place_at b.places.places n) (counted_by stage a.places.places t n n)) k not
        ∙ elim (cases_lt k n) [
          | inl below ↦ counted_below stage a.places.places t n k below ∙ sym (counted_below stage a.places.places t (n + 1) k (omega (arith, below)))
          | inr from ↦ counted_from stage a.places.places t n k from ∙ sym (counted_from stage a.places.places t (n + 1) k (above k from not))
        ]
  ]
    where
      above : (k : ℕ) → n ≤ k → k ≢ n → n + 1 ≤ k
      above k from not = elim (cases_lt n k) [ inl below ↦ omega (arith, below) | inr to ↦ absurd (not (omega (arith, from, to))) ]

  done_then : (k : ℕ) → k < n + 1 → stage.Goes (events_on k (before.events ++ now.events)) (place_at a.places.places k) (place_at c.places.places k)
  done_then k below = elim (one_or_other n k) [
    | inl e ↦
        subst (λ (m : ℕ). stage.Goes (events_on m (before.events ++ now.events)) (place_at a.places.places m) (place_at c.places.places m)) (sym e)
        (subst (λ (on : OnPeering). stage.Goes on (place_at a.places.places n) (place_at c.places.places n))
        (sym (events_on-append n before.events now.events
        ∙ ap (λ (on : OnPeering). on_then on (events_on n now.events)) (before.left n (omega arith)).1 ∙ none_then (events_on n now.events)))
        (subst (λ (x : Option Place). stage.Goes (events_on n now.events) x (place_at c.places.places n)) fresh now.goes))
    | inr not ↦
        subst (λ (on : OnPeering). stage.Goes on (place_at a.places.places k) (place_at c.places.places k))
        (sym (events_on-append k before.events now.events
        ∙ ap (on_then (events_on k before.events)) (now.others k not).1 ∙ then_none (events_on k before.events)))
        (subst (λ (x : Option Place). stage.Goes (events_on k before.events) (place_at a.places.places k) x)
        (sym (now.others k not).0) (before.done k (lower k below not)))
  ]
    where
      lower : (k : ℕ) → k < n + 1 → k ≢ n → k < n
      lower k below not = elim (cases_lt k n) [ inl under ↦ under | inr from ↦ absurd (not (omega (arith, from, below))) ]

  left_then : (k : ℕ) → n + 1 ≤ k → (place_at c.places.places k ≡ place_at a.places.places k) × (events_on k (before.events ++ now.events) ≡ none_on)
  left_then k from =
      let not : k ≢ n = λ e. let x : ⊥ = omega (arith, from, e) in x in (
        (now.others k not).0 ∙ (before.left k (omega (arith, from))).0,
        events_on-append k before.events now.events
            ∙ ap (λ (on : OnPeering). on_then on (events_on k now.events)) (before.left k (omega (arith, from))).1
            ∙ none_then (events_on k now.events) ∙ (now.others k not).1,
      )

  pub visited_next : Visited stage (n + 1) a p c r
  visited_next = record {
    events = before.events ++ now.events;
    did = λ t. did_then a b c p q r t (counted_by stage a.places.places t n)
        (counted_by stage a.places.places t (n + 1)) before.events now.events (before.did t)
        (subst (λ (u : ℕ → Tally). DidAsRouter b q (counted_by stage a.places.places t n) now.events c r u)
        (λ i k. counted_then t k i) (now.did (counted_by stage a.places.places t n)));
    at = at-append stage.number before.events now.events before.at now.at;
    done = done_then;
    left = left_then;
    same = stage.kept.twice a b c before.same now.same;
    keeps = now.keeps;
  }

pub visited_first : (stage : Stage) (f : Fields) (p : Post (Item RunningSession)) → RouterInvariant f → Visited stage zero f p f p
visited_first stage f p keeps = record {
  events = [];
  did = λ t. subst (λ (u : ℕ → Tally). DidAsRouter f p t [] f p u) (λ i k. sym (counted_from stage f.places.places t 0 k (omega arith)) i)
      (did_same f f p t (record { setup = refl; number = refl }) refl);
  at = tt;
  done = λ k below. absurd (omega (arith, below));
  left = λ k from. (refl, refl);
  same = stage.kept.first f;
  keeps = keeps;
}

-- ---- places

pub place_at_end : (xs : List (Option Place)) (p : ℕ) → length xs ≤ p → place_at xs p ≡ None
place_at_end [] p from = refl
place_at_end (x ∷ xs) zero from = absurd (omega (arith, from))
place_at_end (x ∷ xs) (suc p) from = place_at_end xs p (omega (arith, from))

-- the places with another one at a number
module _ (xs : List (Option Place)) (p : ℕ) (x : Option Place) (there : p < length xs) where
  pub set_here : place_at (set xs p x) p ≡ x
  set_here = get_or-set_same xs p x None there

  pub set_other : (q : ℕ) → q ≢ p → place_at (set xs p x) q ≡ place_at xs q
  set_other q not = get_or-set_other xs p q x None not

  pub set_at : (q : ℕ) → place_of (place_at (set xs p x) q) ≡ at (λ k. place_of (place_at xs k)) p (place_of x) q
  set_at q = elim (one_or_other p q) [
    | inl e ↦ ap (λ (k : ℕ). place_of (place_at (set xs p x) k)) e ∙ ap place_of set_here ∙ sym (at_here (λ k. place_of (place_at xs k)) p (place_of x) q e)
    | inr not ↦ ap place_of (set_other q not) ∙ sym (at_else (λ k. place_of (place_at xs k)) p (place_of x) q not)
  ]

-- ---- twice at one place, and all places

module _ (x y z : Stage) (a b c : Fields) (p q r : Post (Item RunningSession)) (n : ℕ) (before : Visits x n a p b q) (now : Visits y n b q c r) where
  counted_twice : ((k : OnPeering) (u v : Option Place) (t : Tally) → x.Goes k u v → y.count v (x.count u t) ≡ z.count u t) → (t : ℕ → Tally) (k : ℕ)
      → at (at t n (x.count (place_at a.places.places n) (t n))) n (y.count (place_at b.places.places n)
      (at t n (x.count (place_at a.places.places n) (t n)) n)) k ≡ at t n (z.count (place_at a.places.places n) (t n)) k
  counted_twice counts t k =
      let first : Tally = x.count (place_at a.places.places n) (t n) in
      elim (one_or_other n k) [
        | inl e ↦
            at_here (at t n first) n (y.count (place_at b.places.places n) (at t n first n)) k e
            ∙ ap (y.count (place_at b.places.places n)) (at_here t n first n refl)
            ∙ counts (events_on n before.events) (place_at a.places.places n) (place_at b.places.places n) (t n) before.goes
            ∙ sym (at_here t n (z.count (place_at a.places.places n) (t n)) k e)
        | inr not ↦
            at_else (at t n first) n (y.count (place_at b.places.places n) (at t n first n)) k not ∙ at_else t n first k not
            ∙ sym (at_else t n (z.count (place_at a.places.places n) (t n)) k not)
      ]

  pub visits_then : x.number ≡ z.number → y.number ≡ z.number
      → ((k l : OnPeering) (u v w : Option Place) → x.Goes k u v → y.Goes l v w → z.Goes (on_then k l) u w)
      → ((k : OnPeering) (u v : Option Place) (t : Tally) → x.Goes k u v → y.count v (x.count u t) ≡ z.count u t) → z.kept.Same a c → Visits z n a p c r
  visits_then first second goes counts same = record {
    events = before.events ++ now.events;
    did = λ t. subst (λ (u : ℕ → Tally). DidAsRouter a p t (before.events ++ now.events) c r u) (λ i k. counted_twice counts t k i)
        (did_then a b c p q r t (at t n (x.count (place_at a.places.places n) (t n))) (at (at t n (x.count (place_at a.places.places n) (t n))) n
        (y.count (place_at b.places.places n) (at t n (x.count (place_at a.places.places n) (t n)) n)))
        before.events now.events (before.did t) (now.did (at t n (x.count (place_at a.places.places n) (t n)))));
    at = at-append z.number before.events now.events (subst (λ (m : ℕ). AreAt m before.events) first before.at)
        (subst (λ (m : ℕ). AreAt m now.events) second now.at);
    goes = subst (λ (k : OnPeering). z.Goes k (place_at a.places.places n) (place_at c.places.places n)) (sym (events_on-append n before.events now.events))
        (goes (events_on n before.events) (events_on n now.events) (place_at a.places.places n)
        (place_at b.places.places n) (place_at c.places.places n) before.goes now.goes);
    others = λ k not. (
      (now.others k not).0 ∙ (before.others k not).0,
      events_on-append k before.events now.events ∙ ap (λ (on : OnPeering). on_then on (events_on k now.events)) (before.others k not).1
          ∙ none_then (events_on k now.events) ∙ (now.others k not).1,
    );
    same = same;
    keeps = now.keeps;
  }

pub visits_as : (x z : Stage) (a b : Fields) (p q : Post (Item RunningSession)) (n : ℕ) (v : Visits x n a p b q) → x.number ≡ z.number
    → ((k : OnPeering) → x.Goes k (place_at a.places.places n) (place_at b.places.places n)
    → z.Goes k (place_at a.places.places n) (place_at b.places.places n))
    → ((t : Tally) → x.count (place_at a.places.places n) t ≡ z.count (place_at a.places.places n) t) → z.kept.Same a b → Visits z n a p b q
visits_as x z a b p q n v number goes counts same = record {
  events = v.events;
  did = λ t. subst (λ (c : Tally). DidAsRouter a p t v.events b q (at t n c)) (counts (t n)) (v.did t);
  at = subst (λ (m : ℕ). AreAt m v.events) number v.at;
  goes = goes (events_on n v.events) v.goes;
  others = v.others;
  same = same;
  keeps = v.keeps;
}

-- all places had their turn
module _ (stage : Stage) (f g : Fields) (p q : Post (Item RunningSession)) (v : Visited stage (length f.places.places) f p g q) where
  -- behind the last place there is none
  vacant_from : (k : ℕ) → length f.places.places ≤ k → place_at f.places.places k ≡ None
  vacant_from k from = place_at_end f.places.places k from

  pub all_places : (Goes : Option Place → Option Place → Type 0) → ((on : OnPeering) (x y : Option Place) → stage.Goes on x y → Goes x y)
      → Goes None None → (k : ℕ) → Goes (place_at f.places.places k) (place_at g.places.places k)
  all_places Goes by_stage vacant k = elim (cases_lt k (length f.places.places)) [
    | inl below ↦ by_stage (events_on k v.events) (place_at f.places.places k) (place_at g.places.places k) (v.done k below)
    | inr from ↦ subst (Goes (place_at f.places.places k)) (sym (v.left k from).0) (subst (λ (x : Option Place). Goes x x) (sym (vacant_from k from)) vacant)
  ]

  -- how many events of one kind there are on each peering
  pub all_counts : (number : OnPeering → ℕ) (many : Option Place → ℕ)
      → ((on : OnPeering) (x y : Option Place) → stage.Goes on x y → number on ≡ many x) → number none_on ≡ many None → (k : ℕ)
      → number (events_on k v.events) ≡ many (place_at f.places.places k)
  all_counts number many by_stage vacant k = elim (cases_lt k (length f.places.places)) [
    | inl below ↦ by_stage (events_on k v.events) (place_at f.places.places k) (place_at g.places.places k) (v.done k below)
    | inr from ↦ ap number (v.left k from).1 ∙ vacant ∙ ap many (sym (vacant_from k from))
  ]

  pub all_did : (total : (ℕ → Tally) → ℕ → Tally) → ((t : ℕ → Tally) (k : ℕ) → stage.count (place_at f.places.places k) (t k) ≡ total t k)
      → ((t : Tally) → stage.count None t ≡ t) → (t : ℕ → Tally) → DidAsRouter f p t v.events g q (total t)
  all_did total is none t = subst (λ (u : ℕ → Tally). DidAsRouter f p t v.events g q u) (λ i k. pointwise k i) (v.did t)
    where
      pointwise : (k : ℕ) → (if nat_lt k (length f.places.places) then stage.count (place_at f.places.places k) (t k) else t k) ≡ total t k
      pointwise k = elim (cases_lt k (length f.places.places)) [
        | inl below ↦ ap (λ (b : Bool). let x : Tally = if b then stage.count (place_at f.places.places k) (t k) else t k in x)
            (lt-ltb k (length f.places.places) below) ∙ is t k
        | inr from ↦
            ap (λ (b : Bool). let x : Tally = if b then stage.count (place_at f.places.places k) (t k) else t k in x) (le-ltb k (length f.places.places) from)
            ∙ sym (none (t k)) ∙ ap (λ (x : Option Place). stage.count x (t k)) (sym (vacant_from k from)) ∙ is t k
      ]
