-- A round passes on a session, and a router follows it.
use Rattle.std.proofs.Common.{◌≡◌, ◌≢◌, ℕ, ◌+◌, List, [], ◌∷◌, ◌++◌, Option, None}
use Rattle.std.proofs.Common.{is_some, Bool, true, false, ◌⊎◌, inl, inr, refl, sym, ap, subst, ◌∙◌}
use Rattle.std.specs.Prelude.{fold}
use Rattle.std.specs.FinMap as map
use Rattle.std.specs.List.{list_any}
use Rattle.std.proofs.lemmas.List.Sums.{fold-append}
use Rattle.bgp_types.specs.Prefixes.{PrefixValue, same_prefix}
use Rattle.bgp_types.specs.declared.message.Message.TheVariants.{KeepaliveMsg}
use Rattle.bgp_types.specs.declared.message.SessionState.{SessionState}
use Rattle.bgp_types.specs.declared.message.SessionState.TheVariants.{OpenSent, OpenConfirm, Established, Closed}
use Rattle.bgp_story.specs.declared.line.Line.{Line}
use Rattle.bgp_story.specs.declared.line.Line.TheVariants.{Put, Tick}
use Rattle.bgp_story.specs.Legal.{is_up, silence}
use Rattle.bgp_story.specs.Readings.{Routes, unless_closed}
use Rattle.bgp_story.specs.States.{after, with_keepalive_put}
use Rattle.session_value.specs.Cases.{PassesRound}
use Rattle.session_value.specs.Sessions.{SessionValue, hold_time, state, unread}
use Rattle.session_value.specs.Sets.{BestRoutes, Entries, Prefixes, has}
use Rattle.session_value.proofs.Replies.{up_open, while_unclosed}
use Rattle.session_value.proofs.Rounds.{Answers, ends, says_keepalive, stays, answers_are}
use Rattle.bgp_session.specs.Steps.{TellsRound}
use Rattle.bgp_session.specs.declared.answers.TickStep.{TickStep}
use Rattle.bgp_session.specs.declared.answers.TickStep.TheVariants.{Plain, Beat, Expired}
use Rattle.graft_model.specs.RouterRows.{DueThen}
use Rattle.update_plan.proofs.Keys.{keys_any}
use Rattle.router_tables.specs.Reads.{DueBy, followed, prefixes_in}
use Rattle.router_tables.proofs.DueSteps.{none_in}
use Rattle.router_tables.proofs.EnterSteps.{no_value}
use Rattle.router_tables.proofs.ReadSteps.{closed_due, nothing_has}

same_tail : (xs : List Line) (x : Line) (ys zs : List Line) → xs ++ x ∷ ys ≡ xs ++ x ∷ zs → ys ≡ zs
same_tail [] x ys zs e = let f : ys ≡ zs = cc in f
same_tail (y ∷ xs) x ys zs e = same_tail xs x ys zs (let f : xs ++ x ∷ ys ≡ xs ++ x ∷ zs = cc in f)

plain_stays : (st : SessionState) (answer : List Line) (next : SessionState) → Answers st answer next → answer ≡ [] → next ≡ st
plain_stays st _ _ ends e = absurd (let x : ⊥ = cc in x)
plain_stays st _ _ says_keepalive e = refl
plain_stays st _ _ stays e = refl

beat_stays : (st : SessionState) (answer : List Line) (next : SessionState) → Answers st answer next → answer ≡ Put KeepaliveMsg ∷ [] → next ≡ st
beat_stays st _ _ ends e = absurd (let x : ⊥ = cc in x)
beat_stays st _ _ says_keepalive e = refl
beat_stays st _ _ stays e = refl

same_due : (st : SessionState) (best : BestRoutes) (due : Prefixes) → is_up st ≡ true → DueThen st st best due due
same_due OpenSent best due up = refl
same_due OpenConfirm best due up = refl
same_due Established best due up = refl
same_due Closed best due up = absurd (let x : ⊥ = cc in x)

-- a KEEPALIVE that is put while a session is up leaves its state
keeps_up : (st : SessionState) → is_up st ≡ true → with_keepalive_put st ≡ st
keeps_up OpenSent up = absurd (let x : ⊥ = cc in x)
keeps_up OpenConfirm up = refl
keeps_up Established up = refl
keeps_up Closed up = absurd (let x : ⊥ = cc in x)

round_ends : (st : SessionState) (round : ℕ) (answer : List Line) (next : SessionState) → is_up st ≡ true → Answers st answer next
    → fold after st (Tick round ∷ answer) ≡ next
round_ends st round _ _ up ends = refl
round_ends st round _ _ up says_keepalive = keeps_up st up
round_ends st round _ _ up stays = refl

module _ (s u : SessionValue) (round : ℕ) (passes : PassesRound s round u) where
  answers : Answers (state s) passes.answer passes.next
  answers = answers_are (hold_time s) (silence s.story + 1) round (state s) passes.answer passes.next passes.reply

  next_is : state u ≡ passes.next
  next_is = ap state passes.effect
      ∙ (fold-append after OpenSent s.story (Tick round ∷ passes.answer) ∙ round_ends (state s) round passes.answer passes.next passes.up answers)

  -- the state where the session goes on
  plain_state : TellsRound Plain s round u → state u ≡ state s
  plain_state tells = next_is
      ∙ plain_stays (state s) passes.answer passes.next answers
      (same_tail s.story (Tick round) passes.answer [] (sym (ap (λ (v : SessionValue). v.story) passes.effect) ∙ tells))

  beat_state : TellsRound Beat s round u → state u ≡ state s
  beat_state tells = next_is
      ∙ beat_stays (state s) passes.answer passes.next answers
      (same_tail s.story (Tick round) passes.answer (Put KeepaliveMsg ∷ []) (sym (ap (λ (v : SessionValue). v.story) passes.effect) ∙ tells))

  heard_stays : state u ≡ state s → u.adj_rib_in ≡ s.adj_rib_in
  heard_stays same = ap (λ (v : SessionValue). v.adj_rib_in) passes.effect
      ∙ while_unclosed passes.next s.adj_rib_in (λ e. up_open (state s) passes.up (sym same ∙ next_is ∙ e))

  heard_none : state u ≡ Closed → (x : PrefixValue) → map.get u.adj_rib_in x ≡ None
  heard_none closed x = ap (λ (t : Routes). map.get t x)
      (ap (λ (v : SessionValue). v.adj_rib_in) passes.effect ∙ ap (λ (st : SessionState). unless_closed st s.adj_rib_in) (sym next_is ∙ closed))
      ∙ map.get-empty _ x

  pub unread_same : unread u ≡ unread s
  unread_same = ap unread passes.effect

  -- ---- how the router follows it

  stays_heard : (entry : PrefixValue → Option _) (before after : Entries) → state u ≡ state s
      → ((x : PrefixValue) → map.get after x ≡ map.get before x) → (x : PrefixValue)
      → ((map.get u.adj_rib_in x ≡ map.get s.adj_rib_in x) × (map.get after x ≡ map.get before x))
      ⊎ ((map.get u.adj_rib_in x ≢ map.get s.adj_rib_in x) × (map.get after x ≡ entry x))
  stays_heard entry before after same others x = inl (ap (λ (t : Routes). map.get t x) (heard_stays same), others x)

  pub follows_round : (entry : PrefixValue → Option _) (before after : Entries) (st : TickStep) → TellsRound st s round u
      → ((x : PrefixValue) → list_any (same_prefix x) (prefixes_in (followed st)) ≡ true → map.get after x ≡ entry x)
      → ((x : PrefixValue) → list_any (same_prefix x) (prefixes_in (followed st)) ≡ false → map.get after x ≡ map.get before x) → (x : PrefixValue)
      → ((map.get u.adj_rib_in x ≡ map.get s.adj_rib_in x) × (map.get after x ≡ map.get before x))
      ⊎ ((map.get u.adj_rib_in x ≢ map.get s.adj_rib_in x) × (map.get after x ≡ entry x))
  follows_round entry before after Plain tells each others x = stays_heard entry before after (plain_state tells) (λ y. others y refl) x
  follows_round entry before after Beat tells each others x = stays_heard entry before after (beat_state tells) (λ y. others y refl) x
  follows_round entry before after (Expired ps) tells each others x = by_test (list_any (same_prefix x) ps) refl where
    had : list_any (same_prefix x) ps ≡ is_some (map.get s.adj_rib_in x)
    had = ap (λ (ks : List PrefixValue). list_any (same_prefix x) ks) tells.1 ∙ keys_any s.adj_rib_in x

    by_test : (b : Bool) → list_any (same_prefix x) ps ≡ b
        → ((map.get u.adj_rib_in x ≡ map.get s.adj_rib_in x) × (map.get after x ≡ map.get before x))
        ⊎ ((map.get u.adj_rib_in x ≢ map.get s.adj_rib_in x) × (map.get after x ≡ entry x))
    by_test true e = inr ((λ same. nothing_has (sym (ap is_some (sym same ∙ heard_none tells.0 x)) ∙ (sym had ∙ e))), each x e)
    by_test false e = inl (heard_none tells.0 x ∙ sym (no_value (map.get s.adj_rib_in x) (sym had ∙ e)), others x e)

  stays_due : (best : BestRoutes) (before after : Prefixes) → state u ≡ state s → after ≡ before → DueThen (state s) (state u) best before after
  stays_due best before after same due = subst (λ (y : SessionState). DueThen (state s) y best before after) (sym same)
      (subst (λ (d : Prefixes). DueThen (state s) (state s) best before d) (sym due) (same_due (state s) best before passes.up))

  pub due_round : (best : BestRoutes) (before after : Prefixes) (st : TickStep) → TellsRound st s round u → DueBy (followed st) best before after
      → DueThen (state s) (state u) best before after
  due_round best before after Plain tells due = stays_due best before after (plain_state tells) due
  due_round best before after Beat tells due = stays_due best before after (beat_state tells) due
  due_round best before after (Expired ps) tells due =
      subst (λ (y : SessionState). DueThen (state s) y best before after) (sym tells.0)
      (closed_due best before after (state s) (λ x. ap (λ (d : Prefixes). has d x) due ∙ none_in x))

  pub up_round : (best : BestRoutes) (before after : Prefixes) (st : TickStep) → TellsRound st s round u → DueBy (followed st) best before after
      → ((x : PrefixValue) → has before x ≡ true → state s ≡ Established) → (x : PrefixValue) → has after x ≡ true → state u ≡ Established
  up_round best before after Plain tells due up x h = plain_state tells ∙ up x (sym (ap (λ (d : Prefixes). has d x) due) ∙ h)
  up_round best before after Beat tells due up x h = beat_state tells ∙ up x (sym (ap (λ (d : Prefixes). has d x) due) ∙ h)
  up_round best before after (Expired ps) tells due up x h = absurd (nothing_has (sym (none_in x) ∙ sym (ap (λ (d : Prefixes). has d x) due) ∙ h))
