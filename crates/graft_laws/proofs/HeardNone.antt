-- Nothing is heard on a session before the remote's OPEN, and what a session brings in stays where it hears the same.
use Rattle.std.proofs.Common.{◌≡◌, ℕ, List, [], ◌∷◌, ◌++◌, Option, None, Result, Ok, Err, true, refl, sym, ap, ◌∙◌}
use Rattle.std.specs.Prelude.{◌≢◌, option_map, unwrap_or, ◌+◌, ◌==◌, ◌%◌, ◌/◌}
use Rattle.std.specs.FinMap as map
use Rattle.bgp_types.specs.declared.attrs.Attrs.{Attrs}
use Rattle.bgp_types.specs.declared.message.Message.{Message}
use Rattle.bgp_types.specs.declared.message.Message.TheVariants.{OpenMsg, UpdateMsg, NoticeMsg, KeepaliveMsg}
use Rattle.bgp_types.specs.declared.message.Notice.{Notice}
use Rattle.bgp_types.specs.declared.message.OpenMsg as open_type
use Rattle.bgp_types.specs.declared.message.SessionState.{SessionState}
use Rattle.bgp_types.specs.declared.message.SessionState.TheVariants.{OpenSent, OpenConfirm, Established, Closed}
use Rattle.bgp_types.specs.Prefixes.{PrefixValue}
use Rattle.bgp_types.specs.Tables.{prefix_cmp}
use Rattle.bgp_story.specs.declared.line.Line.{Line}
use Rattle.bgp_story.specs.declared.line.Line.TheVariants.{Put}
use Rattle.bgp_story.specs.Legal.{Peering, Allowed, opened, got, updated, passed, got_open, hold, is_up, reply_to, silence}
use Rattle.bgp_story.specs.Readings.{heard}
use Rattle.bgp_story.proofs.Grows.{open_stays}
use Rattle.session_value.specs.declared.config.SessionConfig.{SessionConfig}
use Rattle.session_value.specs.Sessions.{SessionValue, peering_of, state}
use Rattle.session_value.specs.Ties.{IsOfStory}
use Rattle.route_policy.specs.Candidates.{imported}
use Rattle.graft_model.specs.Decisions.{entry_of}
use Rattle.graft_model.specs.Parts.{Entry}
use Rattle.graft_model.specs.Setups.{Setup, rules_for}
use Rattle.graft_laws.proofs.ToldNone.{Rounds, round_is}

-- ---- before the OPEN

never_open : (r : Result Message Notice) (answer : List Line) (next : SessionState) → reply_to r ≡ (answer, next) → next ≢ OpenSent
never_open (Ok (OpenMsg o)) answer next f e = let g : OpenConfirm ≡ OpenSent = ap (λ (x : List Line × SessionState). x.1) f ∙ e in cc
never_open (Ok (UpdateMsg u)) answer next f e = let g : Established ≡ OpenSent = ap (λ (x : List Line × SessionState). x.1) f ∙ e in cc
never_open (Ok KeepaliveMsg) answer next f e = let g : Established ≡ OpenSent = ap (λ (x : List Line × SessionState). x.1) f ∙ e in cc
never_open (Ok (NoticeMsg n)) answer next f e = let g : Closed ≡ OpenSent = ap (λ (x : List Line × SessionState). x.1) f ∙ e in cc
never_open (Err n) answer next f e = let g : Closed ≡ OpenSent = ap (λ (x : List Line × SessionState). x.1) f ∙ e in cc

-- In OpenSent the story has the OPEN alone.
open_alone : (p : Peering) (lines : List Line) (now : SessionState) → Allowed p lines now → now ≡ OpenSent → lines ≡ Put (OpenMsg p.first) ∷ []
open_alone p _ _ (opened lines h e) s = e
open_alone p _ _ (got before now bytes answer next lines l unclosed w r e) s = absurd (never_open _ answer next r s)
open_alone p _ _ (updated before u lines l w c e) s = absurd cc
open_alone p _ _ (passed before now round answer next lines l up_now h a r e) s =
    let is : Rounds now next answer = round_is (silence before + 1 == hold p before)
    (round % (hold p before / 3) == 0) now next answer r (λ (c : next ≡ Closed). (let g : OpenSent ≡ Closed = sym s ∙ c in cc)) in
    let u : is_up OpenSent ≡ true = ap is_up (sym s ∙ is.same) ∙ up_now in
    absurd cc

heard_none : (s : SessionValue) → IsOfStory s → state s ≡ OpenSent → s.adj_rib_in ≡ map.empty
heard_none s is e = is.adj_rib_in ∙ ap (heard (peering_of s.config)) (open_alone (peering_of s.config) s.story (state s) is.tied.allowed e)

-- ---- what a session brings in

-- what a session brings in for a prefix, by the parts of the session
abbrev pub part_brings : Setup → ℕ → SessionConfig → Option open_type.OpenMsg → Option Attrs → PrefixValue → Option Entry
part_brings setup r config theirs hears x =
    let identifier : ℕ = unwrap_or (option_map (λ (o : open_type.OpenMsg). o.identifier) theirs) 0 in
    option_map
    (λ route. record { route = route; identifier = identifier; address = config.remote_address })
    (imported setup.home_as x (record {
      peering = config.peering;
      remote_as = config.remote_as;
      identifier = identifier;
      address = config.remote_address;
      import_rules = rules_for setup r config.import;
      heard = hears;
    }) hears)

brings_none : (setup : Setup) (r : ℕ) (s : SessionValue) (x : PrefixValue) → map.get s.adj_rib_in x ≡ None → entry_of setup r s x ≡ None
brings_none setup r s x e = ap (λ (h : Option Attrs). part_brings setup r s.config (got_open (peering_of s.config) s.story) h x) e

-- a session that goes on hears the same of a prefix
pub record GoesOn (s next : SessionValue) : Type 0 where
  pub config : next.config ≡ s.config
  pub more : List Line
  pub story : next.story ≡ s.story ++ more

open_same : (s next : SessionValue) → IsOfStory s → GoesOn s next → is_up (state s) ≡ true
    → got_open (peering_of next.config) next.story ≡ got_open (peering_of s.config) s.story
open_same s next is on up =
    ap (λ (c : SessionConfig). got_open (peering_of c) next.story) on.config
    ∙ ap (got_open (peering_of s.config)) on.story
    ∙ open_stays (peering_of s.config) s.story on.more (state s) is.tied.allowed up

brings_same : (setup : Setup) (r : ℕ) (s next : SessionValue) (x : PrefixValue) → GoesOn s next
    → got_open (peering_of next.config) next.story ≡ got_open (peering_of s.config) s.story
    → map.get next.adj_rib_in x ≡ map.get s.adj_rib_in x → entry_of setup r next x ≡ entry_of setup r s x
brings_same setup r s next x on opening same =
    ap (λ (c : SessionConfig). part_brings setup r c (got_open (peering_of next.config) next.story) (map.get next.adj_rib_in x) x) on.config
    ∙ ap (λ (o : Option open_type.OpenMsg). part_brings setup r s.config o (map.get next.adj_rib_in x) x) opening
    ∙ ap (λ (h : Option Attrs). part_brings setup r s.config (got_open (peering_of s.config) s.story) h x) same

pub entry_stays : (setup : Setup) (r : ℕ) (s next : SessionValue) (x : PrefixValue) → IsOfStory s → state s ≢ Closed → GoesOn s next
    → map.get next.adj_rib_in x ≡ map.get s.adj_rib_in x
    → entry_of setup r next x ≡ entry_of setup r s x
entry_stays setup r s next x is unclosed on same = by_state (state s) refl where
  by_state : (now : SessionState) → state s ≡ now → entry_of setup r next x ≡ entry_of setup r s x
  by_state OpenSent e =
      let none : map.get s.adj_rib_in x ≡ None = ap (λ (h : map.FinMap prefix_cmp Attrs). map.get h x) (heard_none s is e) ∙ map.get-empty prefix_cmp x in
      brings_none setup r next x (same ∙ none) ∙ sym (brings_none setup r s x none)
  by_state OpenConfirm e = brings_same setup r s next x on (open_same s next is on (ap is_up e)) same
  by_state Established e = brings_same setup r s next x on (open_same s next is on (ap is_up e)) same
  by_state Closed e = absurd (unclosed e)
