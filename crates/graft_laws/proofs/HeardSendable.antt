-- What is heard can be written.
use Rattle.std.proofs.Common.{◌≡◌, ℕ, ◌<◌, ◌^◌, Bool, List, ◌++◌, length, Option, Some, None, Result, Ok, Err, refl, sym, ap, subst, inl, inr}
use Rattle.std.specs.Prelude.{fold}
use Rattle.std.specs.Int.{w16, to_be_bytes}
use Rattle.std.specs.FinMap as map
use Rattle.std.proofs.lemmas.Option.{same_Some}
use Rattle.bgp_types.specs.declared.attrs.Attrs.{Attrs}
use Rattle.bgp_types.specs.declared.fault.Expected.{Expected}
use Rattle.bgp_types.specs.declared.message.Message.{Message}
use Rattle.bgp_types.specs.declared.message.Message.TheVariants.{OpenMsg, UpdateMsg, NoticeMsg, KeepaliveMsg}
use Rattle.bgp_types.specs.declared.message.Notice.{Notice}
use Rattle.bgp_types.specs.declared.message.Update.{Update}
use Rattle.bgp_types.specs.FirstFault.{message_of}
use Rattle.bgp_types.specs.OctetLists.{AreOctets}
use Rattle.bgp_types.specs.Prefixes.{PrefixValue}
use Rattle.bgp_types.specs.Reads.{Reads, ReadsUpdate}
use Rattle.bgp_types.specs.Spelling.{length_prefixed, framed, kind_of}
use Rattle.bgp_types.specs.Writable.{HasAttrsFor}
use Rattle.bgp_types.proofs.AttrLaws.{AreOctets-drop}
use Rattle.bgp_types.proofs.MessageLaws.{message_read}
use Rattle.bgp_wire.proofs.OctetLaws.{AreOctets-front, AreOctets-back}
use Rattle.bgp_wire.proofs.ReadAttrs.{read_good, attrs_for}
use Rattle.bgp_story.specs.Legal.{IsGot, expected_next}
use Rattle.bgp_story.specs.Readings.{Routes, apply_if, update_in}
use Rattle.bgp_story.proofs.HeaderKinds.{read_of}
use Rattle.session_value.specs.Cases.{GetsFrame, PassesRound}
use Rattle.session_value.specs.Sessions.{SessionValue, peering_of, state, unread}
use Rattle.graft_laws.proofs.AllRoutes.{AllRoutes, removes, announces, unclosed}
use Rattle.graft_laws.proofs.Sendable.{IsSendable, sendable_of}

abbrev pub AreSendable : Routes → Type 0
AreSendable routes = AllRoutes IsSendable routes

-- what a session heard can be written, and the AS of its remote has 32 bits
pub record IsFine (s : SessionValue) : Type 0 where
  pub adj_rib_in : AreSendable s.adj_rib_in
  pub remote_as : s.config.remote_as < 2 ^ 32

-- ---- messages

attrs_of : (wide : Bool) (body : List ℕ) (u : Update) → AreOctets body → ReadsUpdate wide body u → HasAttrsFor u.attrs u.nlri
attrs_of wide body u octets r =
    let all : AreOctets (length_prefixed r.withdrawn ++ (length_prefixed r.attrs ++ r.nlri)) = subst AreOctets r.fields octets in
    let rest : AreOctets (length_prefixed r.attrs ++ r.nlri) = AreOctets-back (length_prefixed r.withdrawn) (length_prefixed r.attrs ++ r.nlri) all in
    let attrs : AreOctets r.attrs = AreOctets-back (to_be_bytes w16 (length r.attrs)) r.attrs (AreOctets-front (length_prefixed r.attrs) r.nlri rest) in
    attrs_for r.found u.attrs u.nlri (read_good wide r.attrs r.found attrs r.reads_attrs) r.announced

attrs_can : (attrs : Option Attrs) (nlri : List PrefixValue) → HasAttrsFor attrs nlri → (a : Attrs) → attrs ≡ Some a → IsSendable a
attrs_can None nlri has a e = absurd cc
attrs_can (Some b) nlri has a e = subst IsSendable (same_Some b a e) (sendable_of b has.1)

update_can : (e : Expected) (bytes : List ℕ) (u : Update) → IsGot bytes → AreOctets bytes → message_of e bytes ≡ Ok (UpdateMsg u) → (a : Attrs)
    → u.attrs ≡ Some a → IsSendable a
update_can e bytes u (inl whole) octets g =
    let r : Reads bytes (UpdateMsg u) e.wide = (message_read e bytes (UpdateMsg u) octets whole g).0 in
    let body : AreOctets r.body = AreOctets-drop 19 (framed (kind_of (UpdateMsg u)) r.body) (subst AreOctets r.octets octets) in
    attrs_can u.attrs u.nlri (attrs_of e.wide r.body u body r.says)
update_can e bytes u (inr faulty) octets g = let sound = (read_of e bytes (UpdateMsg u) g).sound in absurd cc

applied : (e : Expected) (bytes : List ℕ) (routes : Routes) (m : Result Message Notice) → IsGot bytes → AreOctets bytes → message_of e bytes ≡ m
    → AreSendable routes → AreSendable (apply_if routes (update_in m))
applied e bytes routes (Ok (OpenMsg o)) got octets g all = all
applied e bytes routes (Ok (UpdateMsg u)) got octets g all = announces IsSendable u.attrs
    (update_can e bytes u got octets g) u.nlri (fold map.remove routes u.withdrawn) (removes IsSendable u.withdrawn routes all)
applied e bytes routes (Ok (NoticeMsg n)) got octets g all = all
applied e bytes routes (Ok KeepaliveMsg) got octets g all = all
applied e bytes routes (Err n) got octets g all = all

-- ---- sessions

pub gets_fine : (s next : SessionValue) (bytes : List ℕ) → AreOctets (unread s) → GetsFrame s bytes next → IsFine s → IsFine next
gets_fine s next bytes octets g fine =
    let e : Expected = expected_next (peering_of s.config) s.story (state s) in
    let own : AreOctets bytes = AreOctets-front bytes g.rest (subst AreOctets g.front octets) in
    record {
      adj_rib_in = subst AreSendable (sym (ap (λ (v : SessionValue). v.adj_rib_in) g.effect))
          (unclosed IsSendable g.next (apply_if s.adj_rib_in (update_in (message_of e bytes)))
          (applied e bytes s.adj_rib_in (message_of e bytes) g.got own refl fine.adj_rib_in));
      remote_as = subst (λ (v : SessionValue). v.config.remote_as < 2 ^ 32) (sym g.effect) fine.remote_as;
    }

pub passes_fine : (s next : SessionValue) (round : ℕ) → PassesRound s round next → IsFine s → IsFine next
passes_fine s next round g fine = record {
  adj_rib_in = subst AreSendable (sym (ap (λ (v : SessionValue). v.adj_rib_in) g.effect)) (unclosed IsSendable g.next s.adj_rib_in fine.adj_rib_in);
  remote_as = subst (λ (v : SessionValue). v.config.remote_as < 2 ^ 32) (sym g.effect) fine.remote_as;
}
