-- What a session hears are routes to prefixes.
use Rattle.std.proofs.Common.{◌≡◌, ℕ, Bool, true, List, ◌++◌, Option, Some, None, Result, Ok, Err, refl, sym, subst, inl, inr}
use Rattle.std.specs.Prelude.{fold, option_map, is_some}
use Rattle.std.specs.FinMap as map
use Rattle.std.specs.List.{AllByRecursion}
use Rattle.bgp_types.specs.declared.attrs.Attrs.{Attrs}
use Rattle.bgp_types.specs.declared.fault.Expected.{Expected}
use Rattle.bgp_types.specs.declared.message.Message.{Message}
use Rattle.bgp_types.specs.declared.message.Message.TheVariants.{OpenMsg, UpdateMsg, NoticeMsg, KeepaliveMsg}
use Rattle.bgp_types.specs.declared.message.Notice.{Notice}
use Rattle.bgp_types.specs.declared.message.Update.{Update}
use Rattle.bgp_types.specs.FirstFault.{message_of}
use Rattle.bgp_types.specs.OctetLists.{AreOctets}
use Rattle.bgp_types.specs.Prefixes.{PrefixValue, IsPrefix}
use Rattle.bgp_types.specs.Reads.{Reads, ReadsUpdate}
use Rattle.bgp_types.specs.Spelling.{length_prefixed, framed, kind_of}
use Rattle.bgp_types.proofs.AttrLaws.{AreOctets-drop}
use Rattle.bgp_types.proofs.MessageLaws.{message_read}
use Rattle.bgp_wire.proofs.OctetLaws.{AreOctets-front, AreOctets-back}
use Rattle.bgp_wire.proofs.OnceLaws.{read_is}
use Rattle.bgp_story.specs.Legal.{IsGot, expected_next}
use Rattle.bgp_story.specs.Readings.{Routes, apply_if, update_in}
use Rattle.bgp_story.proofs.HeaderKinds.{read_of}
use Rattle.route_policy.specs.Candidates.{imported}
use Rattle.session_value.specs.Cases.{GetsFrame, PassesRound}
use Rattle.session_value.specs.Sessions.{SessionValue, peering_of, state, unread}
use Rattle.graft_model.specs.Decisions.{entry_of, remote_identifier, session_route}
use Rattle.graft_model.specs.Parts.{Entry}
use Rattle.graft_model.specs.Setups.{Setup}
use Rattle.spelled_events.proofs.Tables.{HasPrefixes, removes_has, announces_has, unclosed_has}

abbrev pub HearsPrefixes : SessionValue → Type 0
HearsPrefixes s = HasPrefixes s.adj_rib_in

-- ---- messages

announced_in : (wide : Bool) (body : List ℕ) (u : Update) → AreOctets body → ReadsUpdate wide body u → AllByRecursion IsPrefix u.nlri
announced_in wide body u octets r =
    let rest : AreOctets (length_prefixed r.attrs ++ r.nlri) =
    AreOctets-back (length_prefixed r.withdrawn) (length_prefixed r.attrs ++ r.nlri) (subst AreOctets r.fields octets) in
    (read_is r.nlri u.nlri (AreOctets-back (length_prefixed r.attrs) r.nlri rest) r.reads_nlri).each

announced_by : (e : Expected) (bytes : List ℕ) (u : Update) → IsGot bytes → AreOctets bytes → message_of e bytes ≡ Ok (UpdateMsg u)
    → AllByRecursion IsPrefix u.nlri
announced_by e bytes u (inl whole) octets g =
    let r : Reads bytes (UpdateMsg u) e.wide = (message_read e bytes (UpdateMsg u) octets whole g).0 in
    announced_in e.wide r.body u (AreOctets-drop 19 (framed (kind_of (UpdateMsg u)) r.body) (subst AreOctets r.octets octets)) r.says
announced_by e bytes u (inr faulty) octets g = let sound = (read_of e bytes (UpdateMsg u) g).sound in absurd cc

applied : (e : Expected) (bytes : List ℕ) (routes : Routes) (m : Result Message Notice) → IsGot bytes → AreOctets bytes → message_of e bytes ≡ m
    → HasPrefixes routes → HasPrefixes (apply_if routes (update_in m))
applied e bytes routes (Ok (OpenMsg o)) got octets g all = all
applied e bytes routes (Ok (UpdateMsg u)) got octets g all =
    announces_has u.attrs u.nlri (fold map.remove routes u.withdrawn) (announced_by e bytes u got octets g) (removes_has u.withdrawn routes all)
applied e bytes routes (Ok (NoticeMsg n)) got octets g all = all
applied e bytes routes (Ok KeepaliveMsg) got octets g all = all
applied e bytes routes (Err n) got octets g all = all

-- ---- sessions

pub gets_prefixes : (s next : SessionValue) (bytes : List ℕ) → AreOctets (unread s) → GetsFrame s bytes next → HearsPrefixes s → HearsPrefixes next
gets_prefixes s next bytes octets g all =
    let e : Expected = expected_next (peering_of s.config) s.story (state s) in
    let own : AreOctets bytes = AreOctets-front bytes g.rest (subst AreOctets g.front octets) in
    subst HearsPrefixes (sym g.effect) (unclosed_has g.next (apply_if s.adj_rib_in (update_in (message_of e bytes)))
    (applied e bytes s.adj_rib_in (message_of e bytes) g.got own refl all))

pub passes_prefixes : (s next : SessionValue) (round : ℕ) → PassesRound s round next → HearsPrefixes s → HearsPrefixes next
passes_prefixes s next round g all = subst HearsPrefixes (sym g.effect) (unclosed_has g.next s.adj_rib_in all)

-- a session brings in routes to prefixes that it heard
pub brought : (setup : Setup) (r : ℕ) (s : SessionValue) (x : PrefixValue) → is_some (entry_of setup r s x) ≡ true → is_some (map.get s.adj_rib_in x) ≡ true
brought setup r s x there = by_heard (map.get s.adj_rib_in x) there where
  by_heard : (heard : Option Attrs)
      → is_some {T = Entry} (option_map (λ route. record { route = route; identifier = remote_identifier s; address = s.config.remote_address })
      (imported setup.home_as x (session_route setup r s x) heard)) ≡ true
      → is_some heard ≡ true
  by_heard None e = absurd cc
  by_heard (Some attrs) e = refl
