-- A session reads a message: what it heard, and how a router follows that.
use Rattle.std.proofs.Common.{◌≡◌, ◌≢◌, ℕ, ◌+◌, ◌-◌, ◌<◌, ◌≤◌, List, length, Bool, true, false, Option, None, is_some}
use Rattle.std.proofs.Common.{Result, Ok, Err, refl, sym, ap, subst, ◌∙◌, arith, inl, inr, ◌⊎◌}
use Rattle.std.specs.FinMap as map
use Rattle.std.specs.List.{list_any}
use Rattle.std.proofs.lemmas.Bool.Decides.{nat_tests}
use Rattle.std.proofs.lemmas.List.{length-drop, length-append}
use Rattle.std.proofs.lemmas.List.Elements.{All-contains}
use Rattle.std.proofs.lemmas.Map.Views.{Contains-from_any}
use Rattle.bgp_types.specs.Prefixes.{PrefixValue, same_prefix}
use Rattle.bgp_types.specs.Tables.{prefix_cmp}
use Rattle.bgp_types.specs.declared.message.Message.{Message}
use Rattle.bgp_types.specs.declared.message.Message.TheVariants.{OpenMsg, UpdateMsg, NoticeMsg, KeepaliveMsg}
use Rattle.bgp_types.specs.declared.message.Notice.{Notice}
use Rattle.bgp_types.specs.declared.message.SessionState.{SessionState}
use Rattle.bgp_types.specs.declared.message.SessionState.TheVariants as states
use Rattle.bgp_types.specs.declared.message.Update.{Update}
use Rattle.bgp_types.specs.FirstFault.{is_in_state, message_of}
use Rattle.bgp_types.proofs.OnceLaws.{is_same}
use Rattle.bgp_story.specs.Legal.{expected_next}
use Rattle.bgp_story.specs.Readings.{Routes, apply_if, unless_closed, update_in}
use Rattle.bgp_story.proofs.HeaderKinds.{read_of, got_long}
use Rattle.bgp_story.proofs.StoryLaws.{state_got}
use Rattle.route_policy.specs.declared.entry.Entry.{Entry}
use Rattle.session_value.specs.Cases.{GetsFrame}
use Rattle.session_value.specs.Sessions.{SessionValue, peering_of, state, unread}
use Rattle.session_value.specs.Sets.{BestRoutes, Entries, Prefixes, has}
use Rattle.session_value.proofs.Replies.{while_unclosed}
use Rattle.tcp_seq.specs.Endpoint.{received_bytes}
use Rattle.graft_model.specs.RouterRows.{DueThen}
use Rattle.bgp_session.specs.Steps.{TellsRead}
use Rattle.bgp_session.specs.declared.answers.ReadStep.{ReadStep}
use Rattle.bgp_session.specs.declared.answers.ReadStep.TheVariants as steps
use Rattle.update_plan.proofs.Keys.{keys_any}
use Rattle.router_tables.proofs.DueSteps.{none_in}
use Rattle.router_tables.specs.Reads.{DueBy, prefixes_in}
use Rattle.router_tables.proofs.EnterSteps.{no_value}

-- ---- small facts

sent_up : states.OpenSent ≡ states.Established → ⊥
sent_up e = cc

confirm_up : states.OpenConfirm ≡ states.Established → ⊥
confirm_up e = cc

confirm_closed : states.OpenConfirm ≡ states.Closed → ⊥
confirm_closed e = cc

up_closed : states.Established ≡ states.Closed → ⊥
up_closed e = cc

pub nothing_has : false ≡ true → ⊥
nothing_has e = cc

none_some : {A : Type 0} (o : Option A) → o ≡ None → is_some o ≡ true → ⊥
none_some o e f = let x : false ≡ true = sym (ap (λ p. is_some p) e) ∙ f in nothing_has x

pub closed_due : (best : BestRoutes) (before after : Prefixes) (st : SessionState) → ((x : PrefixValue) → has after x ≡ false)
    → DueThen st states.Closed best before after
closed_due best before after states.OpenSent none = none
closed_due best before after states.OpenConfirm none = none
closed_due best before after states.Established none = none
closed_due best before after states.Closed none = none

-- ---- what was heard

only_update : (st : SessionState) → is_in_state st 2 ≡ true → st ≡ states.Established
only_update states.OpenSent e = absurd cc
only_update states.OpenConfirm e = absurd cc
only_update states.Established e = refl
only_update states.Closed e = absurd cc

module _ (s u : SessionValue) (bytes : List ℕ) (gets : GetsFrame s bytes u) where
  next_is : state u ≡ gets.next
  next_is = ap state gets.effect ∙ state_got (peering_of s.config) s.story bytes gets.answer gets.next gets.got gets.reply

  heard_is : u.adj_rib_in ≡ unless_closed gets.next
      (apply_if s.adj_rib_in (update_in (message_of (expected_next (peering_of s.config) s.story (state s)) bytes)))
  heard_is = ap (λ (v : SessionValue). v.adj_rib_in) gets.effect

  -- an UPDATE is taken in Established alone
  updates_none : state s ≢ states.Established → update_in (message_of (expected_next (peering_of s.config) s.story (state s)) bytes) ≡ None
  updates_none not = by_message (message_of (expected_next (peering_of s.config) s.story (state s)) bytes) refl where
    by_message : (m : Result Message Notice) → message_of (expected_next (peering_of s.config) s.story (state s)) bytes ≡ m → update_in m ≡ None
    by_message (Ok (OpenMsg o)) e = refl
    by_message (Ok (UpdateMsg o)) e =
        absurd (not (only_update (state s) (read_of (expected_next (peering_of s.config) s.story (state s)) bytes (UpdateMsg o) e).in_state))
    by_message (Ok (NoticeMsg n)) e = refl
    by_message (Ok KeepaliveMsg) e = refl
    by_message (Err n) e = refl

  pub heard_stays : state s ≢ states.Established → state u ≢ states.Closed → u.adj_rib_in ≡ s.adj_rib_in
  heard_stays not unclosed =
      heard_is ∙ ap (λ (o : Option Update). unless_closed gets.next (apply_if s.adj_rib_in o)) (updates_none not)
      ∙ while_unclosed gets.next s.adj_rib_in (λ e. unclosed (next_is ∙ e))

  pub heard_none : state u ≡ states.Closed → (x : PrefixValue) → map.get u.adj_rib_in x ≡ None
  heard_none closed x =
      ap (λ (t : Routes). map.get t x) (heard_is ∙ ap (λ (st : SessionState). unless_closed st
      (apply_if s.adj_rib_in (update_in (message_of (expected_next (peering_of s.config) s.story (state s)) bytes)))) (sym next_is ∙ closed))
      ∙ map.get-empty prefix_cmp x

  -- less is left to read
  pub less_unread : length (unread u) < length (unread s)
  less_unread =
      let whole : length (unread s) ≡ length bytes + length gets.rest = ap (λ (xs : List ℕ). length xs) gets.front ∙ length-append bytes gets.rest in
      let test = got_long bytes gets.got in
      let long : 19 ≤ length bytes = grind (arith, nat_tests) in
      let now : length (unread u) ≡ length (received_bytes s.end) - (s.end.read + length bytes) =
      ap (λ (v : SessionValue). length (unread v)) gets.effect ∙ length-drop (s.end.read + length bytes) (received_bytes s.end) in
      let was : length (unread s) ≡ length (received_bytes s.end) - s.end.read = length-drop s.end.read (received_bytes s.end) in
      omega (arith, whole, long, now, was)

  -- ---- how the router follows it

  -- where another route is heard than before, the entry is the new one
  pub follows_heard : (entry : PrefixValue → Option Entry) (before after : Entries) (st : ReadStep) → TellsRead st s u
      → ((x : PrefixValue) → list_any (same_prefix x) (prefixes_in st) ≡ true → map.get after x ≡ entry x)
      → ((x : PrefixValue) → list_any (same_prefix x) (prefixes_in st) ≡ false → map.get after x ≡ map.get before x) → (x : PrefixValue)
      → ((map.get u.adj_rib_in x ≡ map.get s.adj_rib_in x) × (map.get after x ≡ map.get before x))
      ⊎ ((map.get u.adj_rib_in x ≢ map.get s.adj_rib_in x) × (map.get after x ≡ entry x))
  follows_heard entry before after steps.Opened tells each others x =
      inl (ap (λ (t : Routes). map.get t x) (heard_stays (λ is. sent_up (sym tells.0 ∙ is)) (λ is. confirm_closed (sym tells.1 ∙ is))), others x refl)
  follows_heard entry before after steps.Established tells each others x =
      inl (ap (λ (t : Routes). map.get t x) (heard_stays (λ is. confirm_up (sym tells.0 ∙ is)) (λ is. up_closed (sym tells.1 ∙ is))), others x refl)
  follows_heard entry before after (steps.Changed ps) tells each others x = by_test (list_any (same_prefix x) ps) refl where
    by_test : (b : Bool) → list_any (same_prefix x) ps ≡ b
        → ((map.get u.adj_rib_in x ≡ map.get s.adj_rib_in x) × (map.get after x ≡ map.get before x))
        ⊎ ((map.get u.adj_rib_in x ≢ map.get s.adj_rib_in x) × (map.get after x ≡ entry x))
    by_test true e = inr (All-contains (λ p. map.get u.adj_rib_in p ≢ map.get s.adj_rib_in p) ps x tells.2.changed (Contains-from_any is_same x ps e), each x e)
    by_test false e = inl (tells.2.others x e, others x e)
  follows_heard entry before after (steps.Closed ps) tells each others x = by_test (list_any (same_prefix x) ps) refl where
    had : list_any (same_prefix x) ps ≡ is_some (map.get s.adj_rib_in x)
    had = ap (λ (ks : List PrefixValue). list_any (same_prefix x) ks) tells.1 ∙ keys_any s.adj_rib_in x

    by_test : (b : Bool) → list_any (same_prefix x) ps ≡ b
        → ((map.get u.adj_rib_in x ≡ map.get s.adj_rib_in x) × (map.get after x ≡ map.get before x))
        ⊎ ((map.get u.adj_rib_in x ≢ map.get s.adj_rib_in x) × (map.get after x ≡ entry x))
    by_test true e = inr ((λ same. none_some (map.get s.adj_rib_in x) (sym same ∙ heard_none tells.0 x) (sym had ∙ e)), each x e)
    by_test false e = inl (heard_none tells.0 x ∙ sym (no_value (map.get s.adj_rib_in x) (sym had ∙ e)), others x e)

  -- what is due then
  pub due_then : (best : BestRoutes) (before after : Prefixes) (st : ReadStep) → TellsRead st s u → DueBy st best before after
      → DueThen (state s) (state u) best before after
  due_then best before after steps.Opened tells due =
      subst (λ (x : SessionState). DueThen x (state u) best before after) (sym tells.0)
      (subst (λ (y : SessionState). DueThen states.OpenSent y best before after) (sym tells.1) due)
  due_then best before after steps.Established tells due =
      subst (λ (x : SessionState). DueThen x (state u) best before after) (sym tells.0)
      (subst (λ (y : SessionState). DueThen states.OpenConfirm y best before after) (sym tells.1) due.members)
  due_then best before after (steps.Changed ps) tells due =
      subst (λ (x : SessionState). DueThen x (state u) best before after) (sym tells.0)
      (subst (λ (y : SessionState). DueThen states.Established y best before after) (sym tells.1) due)
  due_then best before after (steps.Closed ps) tells due =
      subst (λ (y : SessionState). DueThen (state s) y best before after) (sym tells.0)
      (closed_due best before after (state s) (λ x. ap (λ (p : Prefixes). has p x) due ∙ none_in x))

  pub due_up : (best : BestRoutes) (before after : Prefixes) (st : ReadStep) → TellsRead st s u → DueBy st best before after
      → ((x : PrefixValue) → has before x ≡ true → state s ≡ states.Established) → (x : PrefixValue) → has after x ≡ true → state u ≡ states.Established
  due_up best before after steps.Opened tells due up x h = absurd (sent_up (sym tells.0 ∙ up x (sym (ap (λ (p : Prefixes). has p x) due) ∙ h)))
  due_up best before after steps.Established tells due up x h = tells.1
  due_up best before after (steps.Changed ps) tells due up x h = tells.1
  due_up best before after (steps.Closed ps) tells due up x h = absurd (nothing_has (sym (none_in x) ∙ sym (ap (λ (p : Prefixes). has p x) due) ∙ h))
