-- A prefix is decided.
use Rattle.std.proofs.Common.{◌≡◌, ℕ, zero, suc, ◌==◌, ◌&&◌, ◌<◌, ◌≤◌, Bool, true, false, not, List, [], ◌∷◌, length, Option, None}
use Rattle.std.proofs.Common.{refl, sym, ap, ◌∙◌, subst, inl, inr, arith}
use Rattle.std.specs.Prelude.{slice_index_or}
use Rattle.std.specs.FinMap as map
use Rattle.std.proofs.lemmas.Bool.{le-ltb, lt-ltb}
use Rattle.bgp_types.specs.Prefixes.{PrefixValue}
use Rattle.loc_rib.specs.Values.{DifferIf, with_best}
use Rattle.rib_stages.specs.Choosing.{NoneBehind, rib_choice}
use Rattle.rib_stages.specs.Values.{RibStore, rib_of, table_at}
use Rattle.route_policy.specs.declared.best.Best.{Best}
use Rattle.session_value.specs.Sets.{Prefixes, has}
use Rattle.graft_model.specs.Decisions.{chosen}
use Rattle.graft_model.specs.Parts.{Place, RouterPart}
use Rattle.graft_model.specs.Sets.{Adds}
use Rattle.graft_model.specs.Setups.{peerings_in, routers_in}
use Rattle.graft_model.specs.TableRows.{Decides, DueEverywhere, only_prefix}
use Rattle.graft_model.specs.declared.event.RouterEvent.TheVariants.{Decide}
use Rattle.router_tables.specs.Dues.{AddsBelow}
use Rattle.router_tables.proofs.AddSteps.{adds_all}
use Rattle.router_tables.proofs.Choices.{chosen_here}
use Rattle.audit_ruling.specs.declared.ruling.Ruling.TheVariants.{Refused, Silent}
use Rattle.audit_tables.specs.Decides.{AreUp, DecidesTables}
use Rattle.audit_tables.specs.Dues.{is_other, is_up_in}
use Rattle.audit_tables.specs.Parts.{TablesInvariant, part_with}
use Rattle.audit_tables.specs.declared.tables.Tables.{Tables}
use Rattle.audit_tables.proofs.Keeping.{forgotten_decides, keeps_pending, keeps_then, refused}

-- behind the last there is none
none_up : (up : List Bool) (p : ℕ) → length up ≤ p → slice_index_or up p false ≡ false
none_up [] p past = refl
none_up (b ∷ up) zero past = absurd (omega (arith, past))
none_up (b ∷ up) (suc p) past = none_up up p (omega (arith, past))

-- another router, by its number
pub other_is : (routers own q : ℕ) (b : Bool) → q < routers → b ≡ not (q == own) → b ≡ is_other routers own q
other_is routers own q b below is = is ∙ ap (λ (c : Bool). c && not (q == own)) (sym (lt-ltb q routers below))

module _ (t : Tables) (k : TablesInvariant t) (places : ℕ → Place) (prefix : PrefixValue) where
  -- the router's choice is the laboratory's
  chosen_is : rib_choice (rib_of t.rib) prefix ≡ chosen t.known.setup t.number.0 (part_with places t) prefix
  chosen_is = chosen_here t.known.setup t.number.0 t.rib (part_with places t) prefix k.rib k.few_peerings k.few_routers (k.none_behind prefix) refl refl

  pub decide_clean : has t.rib.dirty prefix ≡ false → DecidesTables (Decide prefix) places t Refused t
  decide_clean clean = refused t t places k (Decide prefix) refl
      (λ gave after row. let e : false ≡ true = sym clean ∙ row.dirty in let b : ⊥ = cc in b)

  module _ (dirty : has t.rib.dirty prefix ≡ true) (rib : RibStore)
      (is : rib ≡ record t.rib { best = with_best t.rib.best prefix (rib_choice (rib_of t.rib) prefix); dirty = map.remove t.rib.dirty prefix }) where
    module _ (due_in due_out : List Prefixes) where
      -- the part with a best route
      abbrev part_by : Option Best → RouterPart
      part_by best = record (part_with places t) {
        best = with_best t.rib.best prefix best;
        dirty = map.remove t.rib.dirty prefix;
        due_in = table_at due_in;
        due_out = table_at due_out;
      }

      abbrev part_then : RouterPart
      part_then = part_by (chosen t.known.setup t.number.0 (part_with places t) prefix)

      abbrev after : Tables
      after = record t { rib = rib; due_in = due_in; due_out = due_out }

      part_is : part_with places after ≡ part_then
      part_is = ap (λ (x : RibStore). part_with places (record t { rib = x; due_in = due_in; due_out = due_out })) is ∙ ap part_by chosen_is

      decided : length due_in ≡ length t.due_in → length due_out ≡ length t.due_out
          → Decides t.known.setup t.number.0 prefix (part_with places t) None [] part_then → DecidesTables (Decide prefix) places t Silent after
      decided sizes_in sizes_out row = record {
        rules = record {
          gave = [];
          row = subst (Decides t.known.setup t.number.0 prefix (part_with places t) None []) (sym part_is) row;
          is_sent = refl;
          there = tt;
          fit = tt;
        };
        keeps = keeps_then t after k refl (record {
          due_in = sizes_in;
          due_out = sizes_out;
          pending = refl;
          config = ap (λ (x : RibStore). x.config) is;
          behind = λ x. subst (λ (r : RibStore). NoneBehind (peerings_in t.known.setup) (routers_in t.known.setup) (rib_of r) x) (sym is)
              (record { entries = (k.none_behind x).entries; tellings = (k.none_behind x).tellings });
        });
      }

      -- another route is best
      pub decide_other : (up : List Bool) → DifferIf (rib_choice (rib_of t.rib) prefix) (map.get t.rib.best prefix) true
          → AddsBelow (length t.due_in) (is_other (length t.due_in) t.number.0) prefix t.due_in due_in
          → AddsBelow (length t.due_out) (is_up_in up) prefix t.due_out due_out
          → length up ≡ length t.due_out → AreUp up places → DecidesTables (Decide prefix) places t Silent after
      decide_other up apart into out all are = decided into.size out.size
          (record { alone = (refl, refl); dirty = dirty; due = inr (λ e. apart (chosen_is ∙ e), everywhere); effect = refl })
        where
          everywhere : DueEverywhere t.known.setup t.number.0 prefix (part_with places t) part_then
          everywhere = record {
            routers = λ q. subst (λ (n : ℕ). Adds (table_at t.due_in q) (only_prefix prefix (is_other n t.number.0 q)) (table_at due_in q)) k.due_in
                (adds_all (is_other (length t.due_in) t.number.0) prefix t.due_in due_in into
                (λ j from. ap (λ (b : Bool). b && not (j == t.number.0)) (le-ltb j (length t.due_in) from)) q);
            peerings = λ p. subst (λ (b : Bool). Adds (table_at t.due_out p) (only_prefix prefix b) (table_at due_out p)) (are.each p)
                (adds_all (is_up_in up) prefix t.due_out due_out out (λ j from. none_up up j (omega (arith, from, all))) p);
          }

    -- the best route stays
    pub decide_same : DifferIf (rib_choice (rib_of t.rib) prefix) (map.get t.rib.best prefix) false
        → DecidesTables (Decide prefix) places t Silent (record t { rib = rib })
    decide_same stays = decided t.due_in t.due_out refl refl
        (record { alone = (refl, refl); dirty = dirty; due = inl (sym chosen_is ∙ stays, refl, refl); effect = refl })

-- ---- once nothing is known of what is to be told

module _ (t f : Tables) (k : TablesInvariant t) (forgot : f ≡ record t { pending = f.pending }) (count : length f.pending.items ≡ length t.pending.items)
    (places : ℕ → Place) (prefix : PrefixValue) (dirty : has t.rib.dirty prefix ≡ true) (rib : RibStore)
    (is : rib ≡ record f.rib { best = with_best f.rib.best prefix (rib_choice (rib_of f.rib) prefix); dirty = map.remove f.rib.dirty prefix })
    (changed : Bool) (differs : DifferIf (rib_choice (rib_of f.rib) prefix) (map.get f.rib.best prefix) changed) where
  sound : TablesInvariant f
  sound = (keeps_pending t f forgot count k).sound

  still_dirty : has f.rib.dirty prefix ≡ true
  still_dirty = ap (λ (x : Tables). has x.rib.dirty prefix) forgot ∙ dirty

  differs_as : (b : Bool) → changed ≡ b → DifferIf (rib_choice (rib_of f.rib) prefix) (map.get f.rib.best prefix) b
  differs_as b e = subst (DifferIf (rib_choice (rib_of f.rib) prefix) (map.get f.rib.best prefix)) e differs

  pub forgotten_same : changed ≡ false → DecidesTables (Decide prefix) places t Silent (record f { rib = rib })
  forgotten_same stays = forgotten_decides t f forgot (Decide prefix) places Silent (record f { rib = rib })
      (decide_same f sound places prefix still_dirty rib is (differs_as false stays))

  pub forgotten_other : changed ≡ true → (up : List Bool) (due_in due_out : List Prefixes)
      → AddsBelow (length f.due_in) (is_other (length f.due_in) f.number.0) prefix f.due_in due_in
      → AddsBelow (length f.due_out) (is_up_in up) prefix f.due_out due_out → length up ≡ length f.due_out → AreUp up places
      → DecidesTables (Decide prefix) places t Silent (record f { rib = rib; due_in = due_in; due_out = due_out })
  forgotten_other becomes up due_in due_out into out all are = forgotten_decides t f forgot (Decide prefix) places Silent
      (record f { rib = rib; due_in = due_in; due_out = due_out })
      (decide_other f sound places prefix still_dirty rib is due_in due_out up (differs_as true becomes) into out all are)
