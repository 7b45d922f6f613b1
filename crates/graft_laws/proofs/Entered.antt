-- Each router has of a peering the entries that it is to have.
use Rattle.std.proofs.Common.{◌≡◌, ◌≢◌, ◌==◌, ℕ, true, false, List, [], ◌∷◌, ◌++◌, Option, Some, refl, sym, ap, ◌∙◌, subst, arith, ◌⊎◌, inl, inr}
use Rattle.std.specs.Prelude.{option_map}
use Rattle.std.proofs.lemmas.Bool.{cases_eq}
use Rattle.std.proofs.lemmas.Bool.Decides.{nat_tests}
use Rattle.std.specs.FinMap as map
use Rattle.bgp_types.specs.declared.attrs.Attrs.{Attrs}
use Rattle.bgp_types.specs.declared.message.Message.{Message}
use Rattle.bgp_types.specs.declared.message.Update.{Update}
use Rattle.bgp_types.specs.declared.message.OpenMsg as open_type
use Rattle.bgp_types.specs.Prefixes.{PrefixValue}
use Rattle.bgp_types.specs.Tables.{prefix_cmp}
use Rattle.bgp_story.specs.declared.line.Line.{Line}
use Rattle.bgp_story.specs.declared.line.Line.TheVariants.{Put, Got, Tick}
use Rattle.bgp_story.specs.Legal.{Peering, got_open, is_up}
use Rattle.session_value.specs.declared.config.SessionConfig.{SessionConfig}
use Rattle.bgp_types.specs.declared.message.SessionState.TheVariants.{Closed}
use Rattle.session_value.specs.Cases.{GetsFrame, PassesRound, PutsUpdate}
use Rattle.session_value.specs.Sessions.{SessionValue, peering_of, begun, state}
use Rattle.session_value.specs.Ties.{IsOfStory}
use Rattle.route_policy.specs.Candidates.{imported}
use Rattle.graft_model.specs.Decisions.{entry_of, remote_identifier, session_route}
use Rattle.graft_model.specs.Parts.{Errand, Live, Entries, World}
use Rattle.graft_model.specs.RouterRows.{BringsIn, FollowsHeard}
use Rattle.graft_model.specs.Setups.{Setup, config_of, start_of}
use Rattle.graft_model.specs.First.{first_world}
use Rattle.graft_laws.specs.Life.{Acts, Begins, Change, Rests, Lands, Clears, Puts, Emits, Arrives, Gets, Ticks}
use Rattle.graft_laws.specs.Life.{Strays, IsToSay, FarActs, SameEntries, EntersHeard, GraftMove, Grafts}
use Rattle.graft_laws.specs.Phases.{Halted, Moving, Returning, Cleared, Phase, Idle, Busy, place_by, InBounds}
use Rattle.graft_laws.specs.Tables.{has_entries, is_late, Entered}
use Rattle.graft_laws.proofs.HeardNone.{GoesOn, entry_stays, part_brings}

-- ---- what a session brings in

-- The OPEN that was got stays as something is put.
open_stays : (p : Peering) (lines : List Line) (m : Message) → got_open p (lines ++ Put m ∷ []) ≡ got_open p lines
open_stays p [] m = refl
open_stays p (Put _ ∷ lines) m = open_stays p lines m
open_stays p (Tick _ ∷ lines) m = open_stays p lines m
open_stays p (Got _ ∷ lines) m = refl

-- two sessions that bring in the same
record BringSame (s t : SessionValue) : Type 0 where
  config : t.config ≡ s.config
  adj_rib_in : t.adj_rib_in ≡ s.adj_rib_in
  got : got_open (peering_of t.config) t.story ≡ got_open (peering_of s.config) s.story

same_entry : (setup : Setup) (r : ℕ) (s t : SessionValue) (x : PrefixValue) → BringSame s t → entry_of setup r t x ≡ entry_of setup r s x
same_entry setup r s t x same =
    ap (λ (c : SessionConfig). part_brings setup r c (got_open (peering_of t.config) t.story) (map.get t.adj_rib_in x) x) same.config
    ∙ ap (λ (o : Option open_type.OpenMsg). part_brings setup r s.config o (map.get t.adj_rib_in x) x) same.got
    ∙ ap (λ (h : map.FinMap prefix_cmp Attrs). part_brings setup r s.config (got_open (peering_of s.config) s.story) (map.get h x) x) same.adj_rib_in

puts_same : (s t : SessionValue) (u : Update) → PutsUpdate s u t → BringSame s t
puts_same s t u puts = record {
  config = ap (λ (v : SessionValue). v.config) puts.effect;
  adj_rib_in = ap (λ (v : SessionValue). v.adj_rib_in) puts.effect;
  got = ap (λ (v : SessionValue). got_open (peering_of v.config) v.story) puts.effect ∙ open_stays (peering_of s.config) s.story _;
}

-- ---- where a session is live

live_has : (phase : Phase) (s : SessionValue) (o : Option Errand) (r : ℕ) → place_by phase s r ≡ Live s o
    → (has_entries phase r ≡ true) × ((n : ℕ) → n ≢ r → has_entries phase n ≡ false)
live_has (Busy q k t Halted) s o r e = absurd (grind (arith, nat_tests))
live_has (Busy q k t Moving) s o r e = absurd (grind (arith, nat_tests))
live_has (Busy q k t (Returning refusal)) s o r e = absurd (grind (arith, nat_tests))
live_has _ s o r e = (grind (arith, nat_tests), λ n other. grind (arith, nat_tests))

-- ---- sessions that change by themselves

gets_on : (s next : SessionValue) (bytes : List ℕ) → GetsFrame s bytes next → GoesOn s next
gets_on s next bytes gets = record {
  config = ap (λ (v : SessionValue). v.config) gets.effect;
  more = Got bytes ∷ gets.answer;
  story = ap (λ (v : SessionValue). v.story) gets.effect;
}

round_on : (s next : SessionValue) (round : ℕ) → PassesRound s round next → GoesOn s next
round_on s next round passes = record {
  config = ap (λ (v : SessionValue). v.config) passes.effect;
  more = Tick round ∷ passes.answer;
  story = ap (λ (v : SessionValue). v.story) passes.effect;
}

up_unclosed : (s : SessionValue) → is_up (state s) ≡ true → state s ≢ Closed
up_unclosed s up closed = let u : is_up Closed ≡ true = ap is_up (sym closed) ∙ up in cc

-- ---- changes

-- who has entries, and whose are late, changes only as a session lands or its shadow ends
same_holder : {setup : Setup} {w : World} {phase next : Phase} {s : SessionValue} → GraftMove setup w phase s next → (r : ℕ)
    → has_entries next r ≡ has_entries phase r
same_holder Begins r = refl
same_holder _ r = refl

same_late : {setup : Setup} {w : World} {phase next : Phase} {s : SessionValue} → GraftMove setup w phase s next → (r : ℕ) → is_late next r ≡ false
    → is_late phase r ≡ false
same_late Begins r early = early
same_late _ r early = early

module _ (setup : Setup) (w v : World) (p : ℕ) where
  entries_in : World → ℕ → Entries
  entries_in u r = (u.router r).entries p

  -- the entries and the session stay, and the phase changes nothing for them
  stays : (phase next : Phase) (s t : SessionValue) → ((r : ℕ) → has_entries next r ≡ has_entries phase r)
      → ((r : ℕ) → is_late next r ≡ false → is_late phase r ≡ false)
      → BringSame s t → SameEntries p w v → Entered setup w p phase s → Entered setup v p next t
  stays phase next s t has late same entries is = record {
    here = λ r there x. ap (λ (es : Entries). map.get es x) (entries.same r) ∙ is.here r (sym (has r) ∙ there) x ∙ sym (same_entry setup r s t x same);
    elsewhere = λ r none early. entries.same r ∙ is.elsewhere r (sym (has r) ∙ none) (late r early);
  }

  rests : (phase : Phase) (s : SessionValue) → SameEntries p w v → Entered setup w p phase s → Entered setup v p phase s
  rests phase s entries is = stays phase phase s s (λ r. refl) (λ r e. e) (record { config = refl; adj_rib_in = refl; got = refl }) entries is

  -- a live session changes by itself
  follows : (phase : Phase) (s next : SessionValue) (o : Option Errand) (r : ℕ) → place_by phase s r ≡ Live s o → IsOfStory s → state s ≢ Closed
      → GoesOn s next → EntersHeard setup p r s next w v
      → Entered setup w p phase s → Entered setup v p phase next
  follows phase s next o r live story unclosed on enters is =
      let l = live_has phase s o r live in
      record {
        here = λ n there. by_number n there (cases_eq n r);
        elsewhere = λ n none early. enters.others n (λ e. let t : has_entries phase n ≡ true = ap (has_entries phase) e ∙ l.0 in
            let f : true ≡ false = sym t ∙ none in absurd cc) ∙ is.elsewhere n none early;
      }
    where
      by_prefix : (x : PrefixValue) → FollowsHeard setup r s next ((w.router r).entries p) ((v.router r).entries p) x
          → map.get ((v.router r).entries p) x ≡ entry_of setup r next x
      by_prefix x (inl same) = same.1 ∙ is.here r (live_has phase s o r live).0 x ∙ sym (entry_stays setup r s next x story unclosed on same.0)
      by_prefix x (inr other) = other.1

      by_number : (n : ℕ) → has_entries phase n ≡ true → (n ≡ r) ⊎ (n ≢ r) → BringsIn setup n next ((v.router n).entries p)
      by_number n there (inl e) = subst (λ (m : ℕ). BringsIn setup m next ((v.router m).entries p)) (sym e) (λ x. by_prefix x (enters.here x))
      by_number n there (inr other) = let f : true ≡ false = sym there ∙ (live_has phase s o r live).1 n other in absurd cc

  changes : (phase next : Phase) (s t : SessionValue) → InBounds setup phase → IsOfStory s → Change setup w v p phase s next t
      → Entered setup w p phase s → Entered setup v p next t
  changes phase _ s _ bounds story (Rests line entries) is = rests phase s entries is
  changes phase next s _ bounds story (Grafts move line entries) is =
      stays phase next s s (same_holder move) (same_late move) (record { config = refl; adj_rib_in = refl; got = refl }) entries is
  changes _ _ s _ bounds story (Lands {q = q} {k = k} {t = t} admitted line enters) is = record {
    here = λ r there x. let e : r ≡ t = grind (arith, nat_tests) in
        subst (λ (m : ℕ). map.get ((v.router m).entries p) x ≡ entry_of setup m s x) (sym e) (enters.here x);
    elsewhere = λ r none early.
        let other : r ≢ t = grind (arith, nat_tests) in
        let old : (r == q) ≡ false = early in
        enters.others r other ∙ is.elsewhere r old refl;
  }
  changes _ _ s _ bounds story (Clears {q = q} {k = k} {t = t} line drops) is = record {
    here = λ r there x.
        let e : r ≡ t = grind (arith, nat_tests) in
        let other : r ≢ q = λ f. bounds.2 (sym e ∙ f) in
        ap (λ (es : Entries). map.get es x) (drops.others r other) ∙ is.here r there x;
    elsewhere = λ r none early. by_number r none (cases_eq r q);
  }
    where
      by_number : (r : ℕ) → has_entries (Busy q k t Cleared) r ≡ false → (r ≡ q) ⊎ (r ≢ q) → (v.router r).entries p ≡ map.empty
      by_number r none (inl e) = ap (λ (m : ℕ). (v.router m).entries p) e ∙ drops.here
      by_number r none (inr other) = drops.others r other ∙ is.elsewhere r none (let f : (r == q) ≡ false = grind (arith, nat_tests) in f)
  changes phase _ s next bounds story (Acts r errand live (Puts update puts told line entries)) is =
      stays phase phase s next (λ n. refl) (λ n e. e) (puts_same s next update puts) entries is
  changes phase _ s _ bounds story (Acts r errand live (Emits from len segment end emits line entries)) is =
      stays phase phase s (record s { end = end }) (λ n. refl) (λ n e. e) (record { config = refl; adj_rib_in = refl; got = refl }) entries is
  changes phase _ s _ bounds story (Acts r errand live (Arrives segment end arrives line entries)) is =
      stays phase phase s (record s { end = end }) (λ n. refl) (λ n e. e) (record { config = refl; adj_rib_in = refl; got = refl }) entries is
  changes phase _ s next bounds story (Acts r errand live (Gets bytes gets line enters)) is =
      follows phase s next errand r live story gets.unclosed (gets_on s next bytes gets) enters is
  changes phase _ s next bounds story (Acts r errand live (Ticks round passes line enters)) is =
      follows phase s next errand r live story (up_unclosed s passes.up) (round_on s next round passes) enters is
  changes phase _ s _ bounds story (Strays r segment line entries) is = rests phase s entries is
  changes phase _ s _ bounds story (IsToSay step line entries) is = rests phase s entries is
  changes phase _ s _ bounds story (FarActs event taken sent part row moved entries) is = rests phase s entries is

-- a session that has just begun brings nothing in
nothing_yet : (setup : Setup) (r : ℕ) (config : SessionConfig) → BringsIn setup r (begun config) map.empty
nothing_yet setup r config x =
    map.get-empty prefix_cmp x
    ∙ sym (ap (λ o. option_map
    (λ route. record { route = route; identifier = remote_identifier (begun config); address = config.remote_address })
    (imported setup.home_as x (session_route setup r (begun config) x) o)) (map.get-empty prefix_cmp x))

pub first_entered : (setup : Setup) (p : ℕ) (config : SessionConfig) → config_of setup p ≡ Some config
    → Entered setup (first_world setup) p (Idle (start_of setup p)) (begun config)
first_entered setup p config is = record { here = λ r there. nothing_yet setup r config; elsewhere = λ r none early. refl }

pub entered_then : (setup : Setup) (before after : World) (p : ℕ) (phase next : Phase) (s t : SessionValue) → InBounds setup phase → IsOfStory s
    → Change setup before after p phase s next t
    → Entered setup before p phase s → Entered setup after p next t
entered_then setup before after p phase next s t bounds story change is = changes setup before after p phase next s t bounds story change is
