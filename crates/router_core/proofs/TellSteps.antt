-- Routers are told, one prefix after another.
use Rattle.std.proofs.Common.{◌≡◌, ◌≢◌, ℕ, zero, ◌+◌, ◌<◌, ◌≤◌, [], ◌∷◌, ◌++◌, length, Option}
use Rattle.std.proofs.Common.{true, false, inl, inr, refl, sym, ap, subst, ◌∙◌, arith}
use Rattle.std.specs.FinMap as map
use Rattle.bgp_types.specs.Prefixes.{PrefixValue}
use Rattle.bgp_types.specs.declared.attrs.Route.{Route}
use Rattle.route_policy.specs.Telling.{tell_in}
use Rattle.ring_net.specs.declared.post.Post.{Post}
use Rattle.graft_steps.specs.declared.item.Item.{Item}
use Rattle.graft_steps.specs.declared.item.Item.TheVariants as items
use Rattle.bgp_session.specs.Running.{RunningSession}
use Rattle.session_value.specs.Sets.{Prefixes, has}
use Rattle.rib_stages.specs.Values.{table_at}
use Rattle.rib_stages.proofs.Drops.{fewer_left}
use Rattle.graft_model.specs.Points.{at}
use Rattle.graft_model.specs.Parts.{RouterPart, Told}
use Rattle.graft_model.specs.RouterRows.{MeshTo}
use Rattle.graft_model.specs.Setups.{routers_in}
use Rattle.graft_model.specs.declared.event.RouterEvent.TheVariants.{Tell}
use Rattle.graft_actors.specs.Actors.{Router, MeshItem}
use Rattle.std.proofs.lemmas.Bool.{cases_lt}
use Rattle.router_tables.proofs.Points.{one_or_other, at_here, at_else}
use Rattle.router_core.specs.Rounds.{WritesEvent}
use Rattle.router_core.specs.Parts.{router_part, RouterInvariant}
use Rattle.router_core.specs.Stages.{TellsAll}
use Rattle.router_core.specs.Tellings.{TellsOne, TellsSome, TellsRouter, TellsFirst}
use Rattle.router_core.specs.declared.fields.Fields.{Fields}
use Rattle.router_core.proofs.Dids.{Sends, did_same, did_then, did_sent}
use Rattle.router_core.proofs.RoundLists.{at-append}
use Rattle.router_core.proofs.Standing.{keeps_due_in}
use Rattle.router_tables.proofs.DueSteps.{none_in, table_at_end}

-- nothing is dirty
not_dirty : (dirty : Prefixes) (x : PrefixValue) → dirty ≡ map.empty → has dirty x ≡ false
not_dirty dirty x none = ap (λ (d : Prefixes). has d x) none ∙ none_in x

module _ (f g : Fields) (p q : Post (Item RunningSession)) (to : ℕ) (prefix : PrefixValue) (route : Option Route)
    (keeps : RouterInvariant f) (clean : f.rib.dirty ≡ map.empty) (there : to < length f.due_in)
    (due : has (table_at f.due_in to) prefix ≡ true) (is : route ≡ tell_in (map.get f.rib.best prefix))
    (same : g ≡ record f { due_in = g.due_in }) (sizes : length g.due_in ≡ length f.due_in)
    (drops : table_at g.due_in ≡ at (table_at f.due_in) to (map.remove (table_at f.due_in to) prefix))
    (wrote : WritesEvent p (Tell to prefix) ((to, items.Told prefix route) ∷ []) q) where
  sends_told : Sends f to (items.Told prefix route) (MeshTo to (Told prefix (tell_in (map.get f.rib.best prefix))))
  sends_told = record {
    name = Router to;
    known = omega (arith, there, keeps.due_in);
    number = refl;
    thing = ap (λ (r : Option Route). (Router to, MeshItem (Told prefix r))) (sym is);
    may = tt;
  }

  pub tells_one : TellsOne to prefix f p g q
  tells_one = record {
    did = λ t. did_sent f g p q t (Tell to prefix) to (items.Told prefix route) (MeshTo to (Told prefix (tell_in (map.get f.rib.best prefix))))
        (record { setup = ap (λ (h : Fields). h.known.setup) same; number = ap (λ (h : Fields). h.number) same }) wrote sends_told
        (record {
          due = due;
          clean = not_dirty f.rib.dirty prefix clean;
          takes = refl;
          sends = refl;
          effect = ap router_part same ∙ ap (λ (d : ℕ → Prefixes). let x : RouterPart = record (router_part f) { due_in = d } in x) drops;
        }) tt;
    due = drops;
    same = same;
    keeps = keeps_due_in f g keeps same sizes;
  }

-- ---- one router

pub some_first : (q : ℕ) (f : Fields) (p : Post (Item RunningSession)) → RouterInvariant f → TellsSome q f p f p
some_first q f p keeps = record {
  events = [];
  did = λ t. did_same f f p t (record { setup = refl; number = refl }) refl;
  at = tt;
  others = λ k not. refl;
  same = refl;
  keeps = keeps;
}

-- there are as many sets, and nothing is to be decided still
pub same_due_in : (q : ℕ) (f g : Fields) (p r : Post (Item RunningSession)) → RouterInvariant f → TellsSome q f p g r → q < length f.due_in
    → q < length g.due_in
same_due_in q f g p r keeps some there = omega (arith, there, keeps.due_in, some.keeps.due_in, ap (λ (h : Fields). routers_in h.known.setup) some.same)

pub still_clean : (q : ℕ) (f g : Fields) (p r : Post (Item RunningSession)) → TellsSome q f p g r → f.rib.dirty ≡ map.empty → g.rib.dirty ≡ map.empty
still_clean q f g p r some clean = ap (λ (h : Fields). h.rib.dirty) some.same ∙ clean

module _ (q : ℕ) (f g h : Fields) (p r s : Post (Item RunningSession)) (prefix : PrefixValue)
    (before : TellsSome q f p g r) (one : TellsOne q prefix g r h s) where
  pub some_next : TellsSome q f p h s
  some_next = record {
    events = before.events ++ Tell q prefix ∷ [];
    did = λ t. did_then f g h p r s t t t before.events (Tell q prefix ∷ []) (before.did t) (one.did t);
    at = at-append 4 before.events (Tell q prefix ∷ []) before.at (refl, tt);
    others = λ k not. ap (λ (d : ℕ → Prefixes). d k) one.due ∙ at_else (table_at g.due_in) q (map.remove (table_at g.due_in q) prefix) k not
        ∙ before.others k not;
    same = one.same ∙ ap (λ (x : Fields). let y : Fields = record x { due_in = h.due_in } in y) before.same;
    keeps = one.keeps;
  }

  -- one prefix less is due
  pub fewer_due : has (table_at g.due_in q) prefix ≡ true → map.len (table_at h.due_in q) < map.len (table_at g.due_in q)
  fewer_due has = subst (λ (d : Prefixes). map.len d < map.len (table_at g.due_in q)) (sym (ap (λ (d : ℕ → Prefixes). d q) one.due
      ∙ at_here (table_at g.due_in) q (map.remove (table_at g.due_in q) prefix) q refl)) (fewer_left (table_at g.due_in q) prefix has)

-- ---- one router after another

pub told_first : (f : Fields) (p : Post (Item RunningSession)) → RouterInvariant f → TellsFirst zero f p f p
told_first f p keeps = record {
  events = [];
  did = λ t. did_same f f p t (record { setup = refl; number = refl }) refl;
  at = tt;
  told = λ q below. absurd (omega (arith, below));
  same = refl;
  keeps = keeps;
}

pub told_next : (n : ℕ) (f g h : Fields) (p r s : Post (Item RunningSession)) → TellsFirst n f p g r → TellsRouter n g r h s → TellsFirst (n + 1) f p h s
told_next n f g h p r s before one = record {
  events = before.events ++ one.told.events;
  did = λ t. did_then f g h p r s t t t before.events one.told.events (before.did t) (one.told.did t);
  at = at-append 4 before.events one.told.events before.at one.told.at;
  told = λ q below. elim (one_or_other n q) [
    | inl e ↦ subst (λ (k : ℕ). table_at h.due_in k ≡ map.empty) (sym e) one.none
    | inr not ↦ one.told.others q not ∙ before.told q (lower q below not)
  ];
  same = one.told.same ∙ ap (λ (x : Fields). let y : Fields = record x { due_in = h.due_in } in y) before.same;
  keeps = one.told.keeps;
}
  where
    lower : (q : ℕ) → q < n + 1 → q ≢ n → q < n
    lower q below not = elim (cases_lt q n) [ inl under ↦ under | inr from ↦ absurd (not (omega (arith, from, below))) ]

pub told_all : (n : ℕ) (f g : Fields) (p r : Post (Item RunningSession)) → TellsFirst n f p g r → length g.due_in ≤ n → TellsAll f p g r
told_all n f g p r told last = record {
  events = told.events;
  did = told.did;
  at = told.at;
  told = λ q. elim (cases_lt q n) [ inl below ↦ told.told q below | inr from ↦ table_at_end g.due_in q (omega (arith, from, last)) ];
  same = told.same;
  keeps = told.keeps;
}
