-- What was told on a live established session is what is to be told, but for what is due.
use Rattle.std.proofs.Common.{◌≡◌, ◌≢◌, ◌==◌, ℕ, zero, suc, Bool, true, false, List, [], ◌∷◌, ◌++◌, Option}
use Rattle.std.proofs.Common.{Some, None, refl, sym, ap, ◌∙◌, subst, arith, ◌⊎◌, inl, inr}
use Rattle.std.specs.Prelude.{◌||◌, ◌&&◌, ◌↔◌, not, is_some, Contains, IsTrue, if◌then◌else◌}
use Rattle.std.specs.List.{AllByRecursion, list_any}
use Rattle.std.specs.FinMap as map
use Rattle.std.proofs.lemmas.Bool.{cases_eq}
use Rattle.std.proofs.lemmas.List.Elements.{recursion_from_All}
use Rattle.bgp_types.specs.declared.attrs.Attrs.{Attrs}
use Rattle.bgp_types.specs.declared.message.SessionState.{SessionState}
use Rattle.bgp_types.specs.declared.message.SessionState.TheVariants.{OpenSent, OpenConfirm, Established, Closed}
use Rattle.bgp_types.specs.Prefixes.{PrefixValue, same_prefix}
use Rattle.bgp_types.specs.Tables.{prefix_cmp}
use Rattle.bgp_types.proofs.Equality.{attrs_equal}
use Rattle.bgp_types.proofs.OnceLaws.{is_same, same_itself}
use Rattle.bgp_story.specs.Legal.{expected_next}
use Rattle.bgp_story.specs.Readings.{Routes, IsLegal, told, apply, unless_closed}
use Rattle.bgp_story.proofs.Updates.{PutUpdate, told_announced, told_withdrawn, told_others}
use Rattle.session_value.specs.declared.config.SessionConfig.{SessionConfig}
use Rattle.session_value.specs.Cases.{GetsFrame, PassesRound, Changes}
use Rattle.session_value.specs.Sessions.{SessionValue, peering_of, state}
use Rattle.session_value.specs.Sets.{BestRoutes, Prefixes, has}
use Rattle.session_value.specs.Ties.{IsOfStory}
use Rattle.session_value.proofs.Gets as gets
use Rattle.session_value.proofs.Replies.{established_from}
use Rattle.session_value.proofs.Rounds as rounds
use Rattle.session_value.proofs.Updates as updates
use Rattle.graft_model.specs.Decisions.{chosen, to_tell, out_side}
use Rattle.graft_model.specs.First.{first_router, place_in}
use Rattle.graft_model.specs.GraftRows.{DueAgain}
use Rattle.graft_model.specs.Parts.{Errand, Place, Vacant, Live, RouterPart}
use Rattle.graft_model.specs.RouterRows.{RouterTaken, RouterSent, DueThen, Follows, PutsNothing, PutsSome, update_for}
use Rattle.graft_model.specs.Setups.{Setup, PeeringSetup}
use Rattle.graft_model.specs.declared.event.RouterEvent.{RouterEvent}
use Rattle.graft_model.proofs.Footprints.{Holds, OnePeering, ByFrame, ByRound, PeeringChange, Keeping, PuttingNothing, PuttingSome, Following}
use Rattle.graft_model.proofs.Footprints.{Emptying, Reviving, Deciding, Telling, Hearing, Staying, Changing, Footprint, footprint}
use Rattle.graft_model.specs.Steps.{router_row}
use Rattle.graft_model.specs.TableRows.{Decides, DueEverywhere, holds_established, is_established}
use Rattle.graft_laws.specs.Tables.{Answered}
use Rattle.graft_laws.proofs.Decided.{best_stays}
use Rattle.graft_laws.proofs.Lists.{all_front}
use Rattle.graft_laws.proofs.PrefixTables.{none_of, none_there}
use Rattle.graft_laws.proofs.ToldNone.{told_none}

-- ---- lists of prefixes

-- a prefix that is among others is in the list, and has what all of them have
among_step : (P : PrefixValue → Type 0) (y : PrefixValue) (ys : List PrefixValue) (x : PrefixValue) (t : Bool) → same_prefix x y ≡ t
    → (t || list_any (same_prefix x) ys) ≡ true → P y
    → (list_any (same_prefix x) ys ≡ true → Contains ys x × P x) → Contains (y ∷ ys) x × P x
among_step P y ys x true f g here later = let is : x ≡ y = is_same x y f in ((zero, omega arith, sym is), subst P (sym is) here)
among_step P y ys x false f g here later = let rest = later g in ((suc rest.0.0, omega (arith, rest.0.1), rest.0.2), rest.1)

among : (P : PrefixValue → Type 0) (xs : List PrefixValue) (x : PrefixValue) → list_any (same_prefix x) xs ≡ true → AllByRecursion P xs → Contains xs x × P x
among P [] x e all = absurd cc
among P (y ∷ ys) x e all = among_step P y ys x (same_prefix x y) refl e all.0 (λ g. among P ys x g all.1)

or_true : (t u : Bool) → u ≡ true → (t || u) ≡ true
or_true true u e = refl
or_true false u e = e

in_any : (xs : List PrefixValue) (x : PrefixValue) → Contains xs x → list_any (same_prefix x) xs ≡ true
in_any [] x (k, below, e) = absurd (omega (arith, below))
in_any (y ∷ ys) x (zero, below, e) = ap (λ (t : Bool). t || list_any (same_prefix x) ys) (ap (same_prefix x) e ∙ same_itself x)
in_any (y ∷ ys) x (suc k, below, e) = or_true (same_prefix x y) (list_any (same_prefix x) ys) (in_any ys x (k, omega (arith, below), e))

-- ---- values

stable : (t : Bool) (P : Type 0) → IsTrue t ↔ P → ((P → ⊥) → ⊥) → P
stable true P both nn = both.0 refl
stable false P both nn = absurd (nn (λ p. let f : false ≡ true = both.1 p in cc))

-- what isn't another one is the same
not_other : (a b : Option Attrs) → ((a ≢ b) → ⊥) → a ≡ b
not_other None None nn = refl
not_other None (Some b) nn = absurd (nn (λ e. cc))
not_other (Some a) None nn = absurd (nn (λ e. cc))
not_other (Some a) (Some b) nn =
    ap (λ (x : Attrs). Some x) (stable _ (a ≡ b) (attrs_equal a b) (λ other. nn (λ e. other (Rattle.std.proofs.lemmas.Option.same_Some a b e))))

-- ---- what is due as a session changes by itself

due_cases : (a b : SessionState) (best : BestRoutes) (old new : Prefixes) → DueThen a b best old new → b ≡ Established → a ≢ OpenSent → a ≢ Closed
    → ((a ≡ OpenConfirm) × ((x : PrefixValue) → has new x ≡ is_some (map.get best x))) ⊎ ((a ≡ Established) × (new ≡ old))
due_cases OpenSent b best old new due up o c = absurd (o refl)
due_cases Closed b best old new due up o c = absurd (c refl)
due_cases OpenConfirm Established best old new due up o c = inl (refl, due)
due_cases Established Established best old new due up o c = inr (refl, due)
due_cases _ _ best old new due up o c = absurd cc

-- ---- the rows

same_session : (s t : SessionValue) (o u : Option Errand) → Live s o ≡ Live t u → s ≡ t
same_session s t o u e = cc

-- what is to be told on a session of this configuration, by the best routes
abbrev tells_of : Setup → ℕ → BestRoutes → SessionConfig → PrefixValue → Option Attrs
tells_of setup r best config x = Rattle.route_policy.specs.Telling.tell_out setup.home_as (out_side setup r config) x (map.get best x)

module _ (setup : Setup) (r : ℕ) (before after : RouterPart) (d : Answered setup r before) where
  -- what was told on this session there, of these best routes
  abbrev Told : SessionValue → Prefixes → Type 0
  Told session due = state session ≡ Established → (x : PrefixValue) → has due x ≡ false
      → map.get session.adj_rib_out x ≡ tells_of setup r before.best session.config x

  -- one place changes
  at_place : (p : ℕ) → OnePeering p before after → ((s : SessionValue) (o : Option Errand) → after.places p ≡ Live s o → Told s (after.due_out p))
      → Answered setup r after
  at_place p one own = record { adj_rib_out = λ n s o live up x clean. by_number n s o live up x clean (cases_eq n p) } where
    now : (s : SessionValue) (x : PrefixValue) → tells_of setup r before.best s.config x ≡ to_tell setup r after s x
    now s x = ap (λ (b : BestRoutes). tells_of setup r b s.config x) (sym one.best)

    by_number : (n : ℕ) (s : SessionValue) (o : Option Errand) → after.places n ≡ Live s o → state s ≡ Established → (x : PrefixValue)
        → has (after.due_out n) x ≡ false → (n ≡ p) ⊎ (n ≢ p) → map.get s.adj_rib_out x ≡ to_tell setup r after s x
    by_number n s o live up x clean (inl is) =
        own s o (ap after.places (sym is) ∙ live) up x (ap (λ (m : ℕ). has (after.due_out m) x) (sym is) ∙ clean) ∙ now s x
    by_number n s o live up x clean (inr other) =
        d.adj_rib_out n s o (sym (one.places n other) ∙ live) up x (ap (λ (xs : Prefixes). has xs x) (sym (one.due_out n other)) ∙ clean) ∙ now s x

  -- nothing of it changes
  unchanged : after.places ≡ before.places → after.due_out ≡ before.due_out → after.best ≡ before.best → Answered setup r after
  unchanged places due best = record {
    adj_rib_out = λ n s o live up x clean.
        d.adj_rib_out n s o (ap (λ (f : ℕ → Place). f n) (sym places) ∙ live) up x (ap (λ (f : ℕ → Prefixes). has (f n) x) (sym due) ∙ clean)
        ∙ ap (λ (b : BestRoutes). tells_of setup r b s.config x) (sym best);
  }

  -- this session is live there now
  live_becomes : (p : ℕ) (next : SessionValue) (errand : Option Errand) → OnePeering p before after → after.places p ≡ Live next errand
      → Told next (after.due_out p) → Answered setup r after
  live_becomes p next errand one now own =
      at_place p one (λ s o live. subst (λ (z : SessionValue). Told z (after.due_out p)) (same_session next s errand o (sym now ∙ live)) own)

  -- the same session as before, with another errand or end
  same_told : (p : ℕ) (s next : SessionValue) (o : Option Errand) → before.places p ≡ Live s o → next.adj_rib_out ≡ s.adj_rib_out → next.config ≡ s.config
      → (state next ≡ Established → state s ≡ Established) → (due : Prefixes) → due ≡ before.due_out p → Told next due
  same_told p s next o live told_is config up due is established x clean =
      ap (λ (t : Routes). map.get t x) told_is ∙ d.adj_rib_out p s o live (up established) x (ap (λ (xs : Prefixes). has xs x) (sym is) ∙ clean)
      ∙ ap (λ (c : SessionConfig). tells_of setup r before.best c x) (sym config)

  -- told again: what isn't due was not told, and isn't best
  due_again : (s : SessionValue) (due : Prefixes) → DueAgain before s due → Told s due
  due_again s due again up x clean =
      let both = none_of (is_some (map.get s.adj_rib_out x)) (is_some (map.get before.best x)) (sym (again.members x) ∙ clean) in
      none_there (map.get s.adj_rib_out x) both.0
      ∙ sym (ap (λ (b : Option _). Rattle.route_policy.specs.Telling.tell_out setup.home_as (out_side setup r s.config) x b)
      (none_there (map.get before.best x) both.1))

  -- a session changes by itself
  follows : (p : ℕ) (s next : SessionValue) (o : Option Errand) → OnePeering p before after → after.places p ≡ Live next o
      → Follows setup r p before s next o after → before.places p ≡ Live s o → IsOfStory s → state s ≢ Closed
      → (state next ≡ Established → state s ≢ OpenSent)
      → (state next ≡ Established → next.adj_rib_out ≡ s.adj_rib_out) → next.config ≡ s.config → Answered setup r after
  follows p s next o one now row live story open_yet sent told_is config =
      live_becomes p next o one now
      (λ up x clean. by_due up x clean (due_cases (state s) (state next) before.best (before.due_out p) (after.due_out p) row.due up (sent up) open_yet))
    where
      by_due : state next ≡ Established → (x : PrefixValue) → has (after.due_out p) x ≡ false
          → ((state s ≡ OpenConfirm) × ((y : PrefixValue) → has (after.due_out p) y ≡ is_some (map.get before.best y)))
          ⊎ ((state s ≡ Established) × (after.due_out p ≡ before.due_out p))
          → map.get next.adj_rib_out x ≡ tells_of setup r before.best next.config x
      by_due up x clean (inl first) =
          let untold : s.adj_rib_out ≡ map.empty = told_none s story (λ e. let f : OpenConfirm ≡ Established = sym first.0 ∙ e in cc) in
          ap (λ (t : Routes). map.get t x) (told_is up ∙ untold) ∙ map.get-empty prefix_cmp x
          ∙ sym (ap (λ (b : Option _). Rattle.route_policy.specs.Telling.tell_out setup.home_as (out_side setup r next.config) x b)
          (none_there (map.get before.best x) (sym (first.1 x) ∙ clean)))
      by_due up x clean (inr later) = same_told p s next o live (told_is up) config (λ e. later.0) (after.due_out p) later.1 up x clean

  gets_row : (p : ℕ) (s next : SessionValue) (o : Option Errand) (bytes : List ℕ) → OnePeering p before after → after.places p ≡ Live next o
      → before.places p ≡ Live s o → IsOfStory s → GetsFrame s bytes next → Follows setup r p before s next o after → Answered setup r after
  gets_row p s next o bytes one now live story g row =
      let after_is : state next ≡ g.next =
      ap state g.effect ∙ gets.state_next (peering_of s.config) s.story bytes g.answer g.next g.unclosed g.got g.reply story.tied.allowed in
      follows p s next o one now row live story g.unclosed
      (λ up. established_from (expected_next (peering_of s.config) s.story (state s)) bytes g.answer
      (g.reply ∙ ap (λ (n : SessionState). (g.answer, n)) (sym after_is ∙ up)))
      (λ up. ap (λ (v : SessionValue). v.adj_rib_out) g.effect ∙ ap (λ (n : SessionState). unless_closed n s.adj_rib_out) (sym after_is ∙ up))
      (ap (λ (v : SessionValue). v.config) g.effect)

  ticks_row : (p : ℕ) (s next : SessionValue) (o : Option Errand) (round : ℕ) → OnePeering p before after → after.places p ≡ Live next o
      → before.places p ≡ Live s o → IsOfStory s → PassesRound s round next → Follows setup r p before s next o after → Answered setup r after
  ticks_row p s next o round one now live story g row =
      let after_is : state next ≡ g.next =
      ap state g.effect ∙ rounds.state_next (peering_of s.config) s.story round g.answer g.next g.up g.runs g.later g.reply story.tied.allowed in
      follows p s next o one now row live story (Rattle.session_value.proofs.Replies.up_open (state s) g.up)
      (λ up. λ e. (let f : Rattle.bgp_story.specs.Legal.is_up OpenSent ≡ true = ap Rattle.bgp_story.specs.Legal.is_up (sym e) ∙ g.up in cc))
      (λ up. ap (λ (v : SessionValue). v.adj_rib_out) g.effect ∙ ap (λ (n : SessionState). unless_closed n s.adj_rib_out) (sym after_is ∙ up))
      (ap (λ (v : SessionValue). v.config) g.effect)

  -- what is due was told as it is to be
  nothing_row : (p : ℕ) (taken : Option RouterTaken) (sent : List RouterSent) → OnePeering p before after
      → PutsNothing setup r p before taken sent after → Answered setup r after
  nothing_row p taken sent one row =
      at_place p one
      (λ s o live. let was : before.places p ≡ Live s o = sym (ap (λ (u : RouterPart). u.places p) row.effect) ∙ live in
      subst (λ (z : SessionValue). Told z (after.due_out p)) (same_session row.session s row.errand o (sym row.live.is ∙ was))
      (λ up x clean. by_due up x (has (before.due_out p) x) (has before.dirty x) refl refl (sym (row.due.members x) ∙ clean)))
    where
      by_due : state row.session ≡ Established → (x : PrefixValue) (t u : Bool) → has (before.due_out p) x ≡ t → has before.dirty x ≡ u
          → (has (before.due_out p) x && not (not (has before.dirty x))) ≡ false
          → map.get row.session.adj_rib_out x ≡ tells_of setup r before.best row.session.config x
      by_due up x false u e f g = d.adj_rib_out p row.session row.errand row.live.is up x e
      by_due up x true false e f g =
          not_other (map.get row.session.adj_rib_out x) (to_tell setup r before row.session x) (λ differs. row.nothing x ((e, f), differs))
      by_due up x true true e f g =
          let h : (has (before.due_out p) x && not (not (has before.dirty x))) ≡ true =
          ap (λ (t : Bool). t && not (not (has before.dirty x))) e ∙ ap (λ (t : Bool). not (not t)) f in
          let k : true ≡ false = sym h ∙ g in absurd cc

  -- some prefixes are put in an UPDATE
  some_row : (p n : ℕ) (taken : Option RouterTaken) (sent : List RouterSent) (row : PutsSome setup r p n before taken sent after)
      → OnePeering p before after → after.places p ≡ Live row.next row.errand → IsOfStory row.session → Answered setup r after
  some_row p n taken sent row one now story =
      live_becomes p row.next row.errand one now
      (λ up x clean. config_is x (by_among x (list_any (same_prefix x) row.prefixes) refl (sym (row.due.members x) ∙ clean)))
    where
      s : SessionValue
      s = row.session

      u : Rattle.bgp_types.specs.declared.message.Update.Update
      u = update_for row.attrs row.prefixes

      lines : List Rattle.bgp_story.specs.declared.line.Line.Line
      lines = s.story

      put : PutUpdate (peering_of s.config) s.story u
      put = record {
        legal = subst (λ (z : SessionState). IsLegal (peering_of s.config) s.story z) row.puts.established story.legal;
        way = row.puts.one_way;
        changes = subst (λ (z : Routes). Changes z u) story.adj_rib_out row.puts.changes;
      }

      now_told : (x : PrefixValue)
          → map.get row.next.adj_rib_out x ≡ map.get (told (s.story ++ updates.more (peering_of s.config) s.story u row.puts.established)) x
      now_told x =
          ap (λ (v : SessionValue). map.get v.adj_rib_out x) row.puts.effect ∙ ap (λ (z : Routes). map.get (apply z u) x) story.adj_rib_out
          ∙ sym (ap (λ (z : Routes). map.get z x) (updates.told_then (peering_of s.config) s.story u row.puts.established row.puts.one_way story.tied.allowed))

      config_is : (x : PrefixValue) → map.get row.next.adj_rib_out x ≡ tells_of setup r before.best s.config x
          → map.get row.next.adj_rib_out x ≡ tells_of setup r before.best row.next.config x
      config_is x e = e ∙ ap (λ (c : SessionConfig). tells_of setup r before.best c x) (sym (ap (λ (v : SessionValue). v.config) row.puts.effect))

      each : AllByRecursion (λ x. to_tell setup r before s x ≡ row.attrs) row.prefixes
      each = Rattle.graft_laws.proofs.Lists.all_map (λ x. Rattle.graft_model.specs.RouterRows.IsToTell setup r before p s x
          × (to_tell setup r before s x ≡ row.attrs)) (λ x. to_tell setup r before s x ≡ row.attrs) row.prefixes (λ x both. both.1)
          (all_front (λ x. Rattle.graft_model.specs.RouterRows.IsToTell setup r before p s x × (to_tell setup r before s x ≡ row.attrs)) row.prefixes row.later
          (recursion_from_All (λ x. Rattle.graft_model.specs.RouterRows.IsToTell setup r before p s x × (to_tell setup r before s x ≡ row.attrs))
          (row.prefixes ++ row.later) row.alike.each))

      told_of : (attrs : Option Attrs) (x : PrefixValue) → row.attrs ≡ attrs → Contains row.prefixes x
          → map.get (told (s.story ++ updates.more (peering_of s.config) s.story u row.puts.established)) x ≡ attrs
      told_of None x e here =
          told_withdrawn (peering_of s.config) s.story u x put (subst (λ (a : Option Attrs). Contains (update_for a row.prefixes).withdrawn x) (sym e) here)
      told_of (Some a) x e here =
          told_announced (peering_of s.config) s.story u x put (subst (λ (b : Option Attrs). Contains (update_for b row.prefixes).nlri x) (sym e) here)
          ∙ ap (λ (b : Option Attrs). (update_for b row.prefixes).attrs) e

      in_update : (attrs : Option Attrs) (x : PrefixValue)
          → Contains ((update_for attrs row.prefixes).withdrawn ++ (update_for attrs row.prefixes).nlri) x → Contains row.prefixes x
      in_update None x here = subst (λ (xs : List PrefixValue). Contains xs x) (Rattle.std.proofs.lemmas.List.append-nil row.prefixes) here
      in_update (Some a) x here = here

      by_among : (x : PrefixValue) (t : Bool) → list_any (same_prefix x) row.prefixes ≡ t
          → (has (before.due_out p) x && not (list_any (same_prefix x) row.prefixes)) ≡ false
          → map.get row.next.adj_rib_out x ≡ tells_of setup r before.best s.config x
      by_among x true e clean =
          let here = among (λ y. to_tell setup r before s y ≡ row.attrs) row.prefixes x e each in
          now_told x ∙ told_of row.attrs x refl here.0 ∙ sym here.1
      by_among x false e clean =
          now_told x
          ∙ told_others (peering_of s.config) s.story u x put
          (λ there. let f : true ≡ false = sym (in_any row.prefixes x (in_update row.attrs x there)) ∙ e in cc)
          ∙ ap (λ (z : Routes). map.get z x) (sym story.adj_rib_out)
          ∙ d.adj_rib_out p s row.errand row.live.is row.puts.established x
          (not_due (has (before.due_out p) x) (ap (λ (t : Bool). has (before.due_out p) x && not t) (sym e) ∙ clean))
        where
          not_due : (t : Bool) → (t && true) ≡ false → t ≡ false
          not_due true f = f
          not_due false f = refl

  -- a prefix is decided
  decide_row : (prefix : PrefixValue) (taken : Option RouterTaken) (sent : List RouterSent) → Decides setup r prefix before taken sent after
      → Answered setup r after
  decide_row prefix taken sent row = record {
    adj_rib_out = λ n s o live up x clean. by_due n s o (sym (ap (λ (v : RouterPart). v.places n) row.effect) ∙ live) up x clean row.due;
  } where
    now : (s : SessionValue) (x : PrefixValue) → (same_prefix prefix x ≡ false) ⊎ (chosen setup r before prefix ≡ map.get before.best prefix)
        → tells_of setup r before.best s.config x ≡ to_tell setup r after s x
    now s x which = ap (λ (b : Option _). Rattle.route_policy.specs.Telling.tell_out setup.home_as (out_side setup r s.config) x b)
        (sym (best_stays setup r prefix before after taken sent row x which))

    by_due : (n : ℕ) (s : SessionValue) (o : Option Errand) → before.places n ≡ Live s o → state s ≡ Established → (x : PrefixValue)
        → has (after.due_out n) x ≡ false
        → ((chosen setup r before prefix ≡ map.get before.best prefix) × (after.due_in ≡ before.due_in) × (after.due_out ≡ before.due_out))
        ⊎ ((chosen setup r before prefix ≢ map.get before.best prefix) × DueEverywhere setup r prefix before after)
        → map.get s.adj_rib_out x ≡ to_tell setup r after s x
    by_due n s o live up x clean (inl stays) = d.adj_rib_out n s o live up x (ap (λ (f : ℕ → Prefixes). has (f n) x) (sym stays.2) ∙ clean)
        ∙ now s x (inr stays.0)
    by_due n s o live up x clean (inr due) =
        let held : holds_established (before.places n) ≡ true = ap holds_established live ∙ ap is_established up in
        let member : has (after.due_out n) x ≡ (has (before.due_out n) x || (same_prefix prefix x && true)) =
        (due.1.peerings n).members x ∙ ap (λ (t : Bool). has (before.due_out n) x || (same_prefix prefix x && t)) held in
        let both = none_of (has (before.due_out n) x) (same_prefix prefix x && true) (sym member ∙ clean) in
        d.adj_rib_out n s o live up x both.0 ∙ now s x (inl (not_it (same_prefix prefix x) both.1))
      where
        not_it : (t : Bool) → (t && true) ≡ false → t ≡ false
        not_it true e = e
        not_it false e = refl

  pub answered_row : (event : RouterEvent) (taken : Option RouterTaken) (sent : List RouterSent)
      → ((p : ℕ) (s : SessionValue) (o : Option Errand) → before.places p ≡ Live s o → IsOfStory s)
      → router_row setup r event before taken sent after → Answered setup r after
  answered_row event taken sent story row = by_print (footprint setup r before after taken sent event row) where
    by_change : (p : ℕ) → OnePeering p before after → PeeringChange setup r p before taken sent after → Answered setup r after
    by_change p one (Keeping session errand end live holds entries due) =
        at_place p one (λ s o now. subst (λ (z : SessionValue). Told z (after.due_out p))
        (sym (subst (λ (place : Place). Holds place (record session { end = end })) now holds))
        (same_told p session (record session { end = end }) errand live refl refl (λ e. e) (after.due_out p) due))
    by_change p one (PuttingNothing row) = nothing_row p taken sent one row
    by_change p one (PuttingSome n row now) = some_row p n taken sent row one now (story p row.session row.errand row.live.is)
    by_change p one (Following s next o live now (ByFrame bytes gets) row) = gets_row p s next o bytes one now live (story p s o live) gets row
    by_change p one (Following s next o live now (ByRound round passes) row) = ticks_row p s next o round one now live (story p s o live) passes row
    by_change p one (Emptying none entries due) = at_place p one (λ s o live. absurd (none s (subst (λ (place : Place). Holds place s) (sym live) refl)))
    by_change p one (Reviving q item session errand takes carries now entries due) =
        live_becomes p session errand one now (due_again session (after.due_out p) due)

    by_print : Footprint setup r event before taken sent after → Answered setup r after
    by_print (Deciding prefix row) = decide_row prefix taken sent row
    by_print (Telling q prefix row) = unchanged (ap (λ (u : RouterPart). u.places) row.effect)
        (ap (λ (u : RouterPart). u.due_out) row.effect) (ap (λ (u : RouterPart). u.best) row.effect)
    by_print (Hearing q row) = unchanged (ap (λ (u : RouterPart). u.places) row.effect)
        (ap (λ (u : RouterPart). u.due_out) row.effect) (ap (λ (u : RouterPart). u.best) row.effect)
    by_print (Staying silent is) = subst (Answered setup r) (sym is) d
    by_print (Changing p silent one change) = by_change p one change

-- ---- the first world

first_sent : (r : ℕ) (o : Option PeeringSetup) (s : SessionValue) (errand : Option Errand) → place_in r o ≡ Live s errand → state s ≡ OpenSent
first_sent r None s errand e = absurd cc
first_sent r (Some peering) s errand e = by_test (peering.start == r) e where
  by_test : (t : Bool) → (if t then Live (Rattle.session_value.specs.Sessions.begun peering.config) None else Vacant) ≡ Live s errand → state s ≡ OpenSent
  by_test true e = ap state (sym (same_session (Rattle.session_value.specs.Sessions.begun peering.config) s None errand e))
  by_test false e = absurd cc

pub first_answered : (setup : Setup) (r : ℕ) → Answered setup r (first_router setup r)
first_answered setup r = record { adj_rib_out = λ p s o live up x clean. let f : OpenSent ≡ Established = sym (first_sent r _ s o live) ∙ up in absurd cc }
