-- The worked stories are legal, computed.
use Rattle.std.proofs.Common.{◌≡◌, ◌≢◌, ℕ, ◌<◌, ◌^◌, List, [], ◌∷◌, ◌++◌, Bool, cond, Option, Some, None, true, false, refl, sym, ap, ◌∙◌, inl, inr, lit<, lit≤}
use Rattle.std.specs.Prelude.{All}
use Rattle.std.specs.List.{IsDistinct}
use Rattle.std.specs.Ordering.{eq_by_cmp}
use Rattle.std.specs.FinMap as map
use Rattle.std.proofs.lemmas.List.Elements.{All-from_recursion, All-cons, All-nil}
use Rattle.bgp_types.specs.declared.attrs.Attrs.{Attrs}
use Rattle.bgp_types.specs.declared.message.Message.TheVariants.{OpenMsg, NoticeMsg, KeepaliveMsg}
use Rattle.bgp_types.specs.declared.message.SessionState.{SessionState}
use Rattle.bgp_types.specs.declared.message.SessionState.TheVariants.{OpenSent, OpenConfirm, Established, Closed}
use Rattle.bgp_types.specs.declared.path.PathPart.TheVariants as parts
use Rattle.bgp_types.specs.Faults.{origin_in, path_in, next_hop_in, med_in, atomic_in, aggregator_in, other_in, own_fault, attrs_fault}
use Rattle.bgp_types.specs.FirstFault.{body_of, message_of}
use Rattle.bgp_types.specs.Found.{found_in, attrs_in}
use Rattle.bgp_types.specs.Header.{header_fault, frame_at}
use Rattle.bgp_types.specs.Many.{many, many_within}
use Rattle.bgp_types.specs.Merge.{merged_path}
use Rattle.bgp_types.specs.OpenBody.{cap_at, caps_of, params_of, open_of}
use Rattle.bgp_types.specs.PathOctets.{part_at, path_octets}
use Rattle.bgp_types.specs.Prefixes.{PrefixValue, IsPrefix, same_prefix, prefix_at, prefixes_of}
use Rattle.bgp_types.specs.Spelling.{spell, spell_attrs, attrs_written}
use Rattle.bgp_types.specs.Tables.{prefix_cmp}
use Rattle.bgp_types.specs.UpdateBody.{fields_of, all_known, update_of}
use Rattle.bgp_types.specs.Values.{is_short_hold}
use Rattle.bgp_types.specs.WireAttrs.{attr_at}
use Rattle.bgp_types.specs.Writable.{IsPart, IsOther, IsWritableAttrs, IsWritableUpdate}
use Rattle.bgp_types.proofs.TableLaws.{prefix_total}
use Rattle.bgp_story.specs.declared.line.Line.{Line}
use Rattle.bgp_story.specs.declared.line.Line.TheVariants.{Put, Got, Tick}
use Rattle.bgp_story.specs.Legal.{IsPeering, IsOneWay, opened, got, updated, passed, IsEarlier, hold_expired, hold, is_wide}
use Rattle.bgp_story.specs.Readings.{Routes, IsLegal, put_bytes, apply, told, heard}
use Rattle.bgp_story.specs.WorkedSessions.{worked_peering, open_bytes, keepalive_bytes, update_bytes, cease_bytes, sent_lines, confirmed_lines}
use Rattle.bgp_story.specs.WorkedSessions.{joined_lines, heard_lines, ten, attrs_over, announcement_over, withdrawal, told_lines, withdrawn_lines}
use Rattle.bgp_story.specs.WorkedSessions.{expired_lines, wide_home, wide_peering, wide_open_bytes, wide_lines, wide_put_bytes, heard_attrs}
use Rattle.bgp_story.specs.WorkedSessions.{beaten_lines, offering_peering, offering_lines, unicast_home, unicast_peering, unicast_lines}
use Rattle.bgp_story.specs.WorkedSessions.{unicast_put_bytes, both_home, both_peering, both_open_bytes, both_lines, both_put_bytes}
use Rattle.bgp_story.specs.States.{BeginsStory}
use Rattle.bgp_story.proofs.Shapes.{allowed_of}

not_sent : OpenSent ≢ Closed
not_sent = λ e. cc

not_confirmed : OpenConfirm ≢ Closed
not_confirmed = λ e. cc

not_established : Established ≢ Closed
not_established = λ e. cc

pub sent : (hold : ℕ) → IsPeering (worked_peering hold) → IsLegal (worked_peering hold) (sent_lines hold) OpenSent
sent hold is = opened _ is refl

pub confirmed : (hold : ℕ) → IsPeering (worked_peering hold) → IsLegal (worked_peering hold) (confirmed_lines hold) OpenConfirm
unfolding message_of header_fault frame_at body_of open_of many many_within cap_at caps_of params_of
confirmed hold is =
    got (sent_lines hold) OpenSent open_bytes (Put KeepaliveMsg ∷ []) OpenConfirm (confirmed_lines hold) (sent hold is) not_sent (inl refl) refl refl

pub ceased : (hold : ℕ) → IsPeering (worked_peering hold) → IsLegal (worked_peering hold) (sent_lines hold ++ Got cease_bytes ∷ []) Closed
unfolding message_of header_fault frame_at body_of
ceased hold is = got (sent_lines hold) OpenSent cease_bytes [] Closed (sent_lines hold ++ Got cease_bytes ∷ []) (sent hold is) not_sent (inl refl) refl refl

pub joined : (hold : ℕ) → IsPeering (worked_peering hold) → IsLegal (worked_peering hold) (joined_lines hold) Established
unfolding message_of header_fault frame_at body_of open_of many many_within cap_at caps_of params_of
joined hold is =
    got (confirmed_lines hold) OpenConfirm keepalive_bytes [] Established (joined_lines hold) (confirmed hold is) not_confirmed (inl refl) refl refl

pub heard_all : (hold : ℕ) → IsPeering (worked_peering hold) → IsLegal (worked_peering hold) (heard_lines hold) Established
unfolding message_of header_fault frame_at body_of open_of update_of fields_of prefixes_of prefix_at many many_within attrs_in attrs_fault own_fault
    origin_in path_in next_hop_in med_in atomic_in aggregator_in other_in found_in all_known part_at attr_at cap_at caps_of params_of merged_path
heard_all hold is = got (joined_lines hold) Established update_bytes [] Established (heard_lines hold) (joined hold is) not_established (inl refl) refl refl

-- what was heard
pub heard_routes : (hold : ℕ) → heard (worked_peering hold) (heard_lines hold) ≡ map.insert map.empty ten heard_attrs
unfolding message_of header_fault frame_at body_of open_of update_of fields_of prefixes_of prefix_at many many_within attrs_in attrs_fault own_fault
    origin_in path_in next_hop_in med_in atomic_in aggregator_in other_in found_in all_known part_at attr_at cap_at caps_of params_of merged_path
heard_routes hold = refl

-- ---- the peerings

pub peering_is : (hold : ℕ) → hold < 2 ^ 16 → is_short_hold hold ≡ false → IsPeering (worked_peering hold)
peering_is hold fits long = record {
  home = record {
    home_as = 65000;
    offered = false;
    unicast = false;
    is = refl;
    as_number = record { some = lit≤ tt; fits = lit< tt };
    hold_fits = fits;
    hold_time = long;
    host = refl;
  };
  remote_as = record { some = lit≤ tt; fits = lit< tt };
}

wide_is : IsPeering wide_peering
wide_is = record {
  home = record {
    home_as = 4200000000;
    offered = true;
    unicast = false;
    is = refl;
    as_number = record { some = lit≤ tt; fits = lit< tt };
    hold_fits = lit< tt;
    hold_time = refl;
    host = refl;
  };
  remote_as = record { some = lit≤ tt; fits = lit< tt };
}

-- ---- rounds

-- with hold time 90, a KEEPALIVE is put in round 30
pub beaten : IsLegal (worked_peering 90) beaten_lines OpenConfirm
unfolding message_of header_fault frame_at body_of open_of many many_within cap_at caps_of params_of
beaten = passed (confirmed_lines 90) OpenConfirm 30 (Put KeepaliveMsg ∷ []) OpenConfirm beaten_lines (confirmed 90 (peering_is 90 (lit< tt) refl))
    refl (lit< tt) (All-from_recursion (IsEarlier 30) (confirmed_lines 90) (tt, (tt, (tt, tt)))) refl refl

one_round : List Line
one_round = confirmed_lines 3 ++ Tick 1 ∷ Put KeepaliveMsg ∷ []

two_rounds : List Line
two_rounds = confirmed_lines 3 ++ Tick 1 ∷ Put KeepaliveMsg ∷ Tick 2 ∷ Put KeepaliveMsg ∷ []

first_round : IsLegal (worked_peering 3) one_round OpenConfirm
unfolding one_round message_of header_fault frame_at body_of open_of many many_within cap_at caps_of params_of
first_round = passed (confirmed_lines 3) OpenConfirm 1 (Put KeepaliveMsg ∷ []) OpenConfirm one_round
    (confirmed 3 (peering_is 3 (lit< tt) refl)) refl (lit< tt) (All-from_recursion (IsEarlier 1) (confirmed_lines 3) (tt, (tt, (tt, tt)))) refl refl

second_round : IsLegal (worked_peering 3) two_rounds OpenConfirm
unfolding one_round two_rounds message_of header_fault frame_at body_of open_of many many_within cap_at caps_of params_of
second_round = passed one_round OpenConfirm 2 (Put KeepaliveMsg ∷ []) OpenConfirm two_rounds first_round refl
    (lit< tt) (All-from_recursion (IsEarlier 2) one_round (tt, (tt, (tt, (lit< tt, (tt, tt)))))) refl refl

-- the hold time of 3 seconds is over in the third round
pub expired : IsLegal (worked_peering 3) expired_lines Closed
unfolding one_round two_rounds message_of header_fault frame_at body_of open_of many many_within cap_at caps_of params_of
expired = passed two_rounds OpenConfirm 3 (Put (NoticeMsg hold_expired) ∷ []) Closed expired_lines second_round refl
    (lit< tt) (All-from_recursion (IsEarlier 3) two_rounds (tt, (tt, (tt, (lit< tt, (tt, (lit< tt, (tt, tt)))))))) refl refl

-- ---- updates

one_as : (as_number : ℕ) → as_number < 2 ^ 32 → IsPart (parts.Sequence (as_number ∷ []))
one_as as_number fits = record { some = lit< tt; count = lit< tt; each = All-cons (λ n. n < 2 ^ 32) as_number [] fits (All-nil (λ n. n < 2 ^ 32)) }

ten_is : All IsPrefix (ten ∷ [])
ten_is = All-cons IsPrefix ten [] (record { len = lit≤ tt; address = lit< tt; clear = refl }) (All-nil IsPrefix)

ten_once : IsDistinct same_prefix (ten ∷ [])
unfolding IsDistinct
ten_once = (tt, tt)

attrs_are : (as_number : ℕ) → as_number < 2 ^ 32 → IsWritableAttrs (attrs_over (as_number ∷ []))
attrs_are as_number fits = record {
  path = All-cons IsPart (parts.Sequence (as_number ∷ [])) [] (one_as as_number fits) (All-nil IsPart);
  next_hop = refl;
  med = tt;
  aggregator = tt;
  unknown = All-nil IsOther;
  rising = tt;
}

announced_is : (as_number : ℕ) → as_number < 2 ^ 32 → IsWritableUpdate (announcement_over (as_number ∷ []))
announced_is as_number fits = record { withdrawn = All-nil IsPrefix; nlri = ten_is; once = ten_once; attrs = ((λ e. cc), attrs_are as_number fits) }

announcement_is : IsOneWay (announcement_over (65000 ∷ [])) false
unfolding spell spell_attrs attrs_written path_octets
announcement_is = record { writable = record { body = announced_is 65000 (lit< tt); size = lit≤ tt }; one_way = inr (refl, λ e. cc) }

wide_announcement_is : IsOneWay (announcement_over (4200000000 ∷ [])) true
unfolding spell spell_attrs attrs_written path_octets
wide_announcement_is = record { writable = record { body = announced_is 4200000000 (lit< tt); size = lit≤ tt }; one_way = inr (refl, λ e. cc) }

withdrawal_is : IsOneWay withdrawal false
unfolding spell
withdrawal_is = record {
  writable = record { body = record { withdrawn = ten_is; nlri = All-nil IsPrefix; once = ten_once; attrs = refl }; size = lit≤ tt };
  one_way = inl ((λ e. cc), refl);
}

-- an announcement changes an empty table, and a withdrawal changes a table that has the prefix
abbrev no_routes : Routes
no_routes = map.empty

abbrev one_route : Attrs → Routes
one_route a = map.insert map.empty ten a

is_told : (a : Attrs) → map.get (one_route a) ten ≡ Some a
is_told a = map.get-insert prefix_total no_routes ten a ten

is_new : (a : Attrs) → map.get (one_route a) ten ≡ map.get no_routes ten → ⊥
is_new a e = let apart : ◌≡◌ {A = Option Attrs} (Some a) None = sym (is_told a) ∙ (e ∙ map.get-empty prefix_cmp ten) in cc

is_gone : (a : Attrs) → map.get (map.remove (one_route a) ten) ten ≡ map.get (one_route a) ten → ⊥
is_gone a e = let apart : ◌≡◌ {A = Option Attrs} None (Some a) = sym (map.get-remove prefix_total (one_route a) ten ten) ∙ (e ∙ is_told a) in cc

pub told_all : (hold : ℕ) → IsPeering (worked_peering hold) → IsLegal (worked_peering hold) (told_lines hold) Established
unfolding message_of header_fault frame_at body_of open_of many many_within cap_at caps_of params_of
told_all hold is = updated (joined_lines hold) (announcement_over (65000 ∷ [])) (told_lines hold) (joined hold is) announcement_is
    (All-from_recursion (λ prefix. map.get (apply (told (joined_lines hold)) (announcement_over (65000 ∷ []))) prefix
    ≢ map.get (told (joined_lines hold)) prefix) (ten ∷ []) (is_new _, tt)) refl

pub withdrawn_all : (hold : ℕ) → IsPeering (worked_peering hold) → IsLegal (worked_peering hold) (withdrawn_lines hold) Established
unfolding message_of header_fault frame_at body_of open_of many many_within cap_at caps_of params_of
withdrawn_all hold is = updated (told_lines hold) withdrawal (withdrawn_lines hold) (told_all hold is) withdrawal_is
    (All-from_recursion (λ prefix. map.get (apply (told (told_lines hold)) withdrawal) prefix ≢ map.get (told (told_lines hold)) prefix)
    (ten ∷ []) (is_gone _, tt)) refl

-- ---- the wide session

wide_joined : IsLegal wide_peering (Put (OpenMsg wide_home) ∷ Got wide_open_bytes ∷ Put KeepaliveMsg ∷ Got keepalive_bytes ∷ []) Established
unfolding message_of header_fault frame_at body_of open_of many many_within cap_at caps_of params_of
wide_joined =
    got (Put (OpenMsg wide_home) ∷ Got wide_open_bytes ∷ Put KeepaliveMsg ∷ []) OpenConfirm keepalive_bytes [] Established _
    (got (Put (OpenMsg wide_home) ∷ []) OpenSent wide_open_bytes (Put KeepaliveMsg ∷ []) OpenConfirm _ (opened _ wide_is refl) not_sent (inl refl) refl refl)
    not_confirmed (inl refl) refl refl

pub wide_all : IsLegal wide_peering wide_lines Established
unfolding message_of header_fault frame_at body_of open_of many many_within cap_at caps_of params_of
wide_all = updated _ (announcement_over (4200000000 ∷ [])) wide_lines wide_joined wide_announcement_is
    (All-from_recursion (λ prefix. map.get (apply (told (Put (OpenMsg wide_home) ∷ Got wide_open_bytes ∷ Put KeepaliveMsg ∷ Got keepalive_bytes ∷ []))
    (announcement_over (4200000000 ∷ []))) prefix
    ≢ map.get (told (Put (OpenMsg wide_home) ∷ Got wide_open_bytes ∷ Put KeepaliveMsg ∷ Got keepalive_bytes ∷ [])) prefix) (ten ∷ []) (is_new _, tt)) refl

pub wide_puts : put_bytes wide_peering wide_lines ≡ wide_put_bytes
unfolding message_of header_fault frame_at body_of open_of many many_within cap_at caps_of params_of spell spell_attrs attrs_written path_octets
wide_puts = refl

-- ---- the capability of IPv4 unicast

unicast_is : IsPeering unicast_peering
unicast_is = record {
  home = record {
    home_as = 65000;
    offered = false;
    unicast = true;
    is = refl;
    as_number = record { some = lit≤ tt; fits = lit< tt };
    hold_fits = lit< tt;
    hold_time = refl;
    host = refl;
  };
  remote_as = record { some = lit≤ tt; fits = lit< tt };
}

both_is : IsPeering both_peering
both_is = record {
  home = record {
    home_as = 65000;
    offered = true;
    unicast = true;
    is = refl;
    as_number = record { some = lit≤ tt; fits = lit< tt };
    hold_fits = lit< tt;
    hold_time = refl;
    host = refl;
  };
  remote_as = record { some = lit≤ tt; fits = lit< tt };
}

unicast_joined : IsLegal unicast_peering (Put (OpenMsg unicast_home) ∷ Got open_bytes ∷ Put KeepaliveMsg ∷ Got keepalive_bytes ∷ []) Established
unfolding message_of header_fault frame_at body_of open_of many many_within cap_at caps_of params_of
unicast_joined =
    got (Put (OpenMsg unicast_home) ∷ Got open_bytes ∷ Put KeepaliveMsg ∷ []) OpenConfirm keepalive_bytes [] Established _
    (got (Put (OpenMsg unicast_home) ∷ []) OpenSent open_bytes (Put KeepaliveMsg ∷ []) OpenConfirm _ (opened _ unicast_is refl) not_sent (inl refl) refl refl)
    not_confirmed (inl refl) refl refl

pub unicast_all : IsLegal unicast_peering unicast_lines Established
unfolding message_of header_fault frame_at body_of open_of many many_within cap_at caps_of params_of
unicast_all = updated _ (announcement_over (65000 ∷ [])) unicast_lines unicast_joined announcement_is
    (All-from_recursion (λ prefix. map.get
    (apply (told (Put (OpenMsg unicast_home) ∷ Got open_bytes ∷ Put KeepaliveMsg ∷ Got keepalive_bytes ∷ [])) (announcement_over (65000 ∷ []))) prefix
    ≢ map.get (told (Put (OpenMsg unicast_home) ∷ Got open_bytes ∷ Put KeepaliveMsg ∷ Got keepalive_bytes ∷ [])) prefix) (ten ∷ []) (is_new _, tt)) refl

pub unicast_puts : put_bytes unicast_peering unicast_lines ≡ unicast_put_bytes
unfolding message_of header_fault frame_at body_of open_of many many_within cap_at caps_of params_of spell spell_attrs attrs_written path_octets
unicast_puts = refl

pub unicast_stays_narrow : is_wide unicast_peering unicast_lines ≡ false
unfolding message_of header_fault frame_at body_of open_of many many_within cap_at caps_of params_of
unicast_stays_narrow = refl

pub both_all : IsLegal both_peering both_lines OpenConfirm
unfolding message_of header_fault frame_at body_of open_of many many_within cap_at caps_of params_of
both_all = got (Put (OpenMsg both_home) ∷ []) OpenSent both_open_bytes
    (Put KeepaliveMsg ∷ []) OpenConfirm both_lines (opened _ both_is refl) not_sent (inl refl) refl refl

pub both_puts : put_bytes both_peering both_lines ≡ both_put_bytes
unfolding message_of header_fault frame_at body_of open_of many many_within cap_at caps_of params_of spell spell_attrs attrs_written path_octets
both_puts = refl

pub both_is_wide : is_wide both_peering both_lines ≡ true
unfolding message_of header_fault frame_at body_of open_of many many_within cap_at caps_of params_of
both_is_wide = refl

-- ---- what both OPENs say

pub lesser_hold : hold (worked_peering 240) (confirmed_lines 240) ≡ 180
unfolding message_of header_fault frame_at body_of open_of many many_within cap_at caps_of params_of
lesser_hold = refl

pub stays_narrow : is_wide offering_peering offering_lines ≡ false
unfolding message_of header_fault frame_at body_of open_of many many_within cap_at caps_of params_of
stays_narrow = refl

pub offered_in_vain : IsLegal offering_peering offering_lines OpenConfirm
unfolding message_of header_fault frame_at body_of open_of many many_within cap_at caps_of params_of
offered_in_vain = got (Put (OpenMsg wide_home) ∷ []) OpenSent open_bytes (Put KeepaliveMsg ∷ []) OpenConfirm offering_lines
    (opened _ (record { home = wide_is.home; remote_as = record { some = lit≤ tt; fits = lit< tt } }) refl) not_sent (inl refl) refl refl

-- ---- what was told

pub told_routes : told (told_lines 0) ≡ one_route (attrs_over (65000 ∷ []))
unfolding message_of header_fault frame_at body_of open_of many many_within cap_at caps_of params_of
told_routes = refl

withdrawn_routes : told (withdrawn_lines 0) ≡ map.remove (one_route (attrs_over (65000 ∷ []))) ten
unfolding message_of header_fault frame_at body_of open_of many many_within cap_at caps_of params_of
withdrawn_routes = refl

same_or_none : (t : Bool) (a b : Option Attrs) → b ≡ None → cond t None (cond t a b) ≡ None
same_or_none true a b e = refl
same_or_none false a b e = e

pub none_told : (prefix : PrefixValue) → map.get (told (withdrawn_lines 0)) prefix ≡ None
none_told prefix =
    ap (λ (r : Routes). map.get r prefix) withdrawn_routes
    ∙ (map.get-remove prefix_total (one_route (attrs_over (65000 ∷ []))) ten prefix
    ∙ (ap (λ (o : Option Attrs). cond (eq_by_cmp prefix_cmp prefix ten) None o) (map.get-insert prefix_total no_routes ten (attrs_over (65000 ∷ [])) prefix)
    ∙ same_or_none (eq_by_cmp prefix_cmp prefix ten) (Some (attrs_over (65000 ∷ []))) _ (map.get-empty prefix_cmp prefix)))

-- ---- each line may be added

begins : (hold : ℕ) (lines rest : List Line) (state : SessionState) → IsLegal (worked_peering hold) (lines ++ rest) state → BeginsStory 65001 lines
begins hold lines rest state l = record { peering = worked_peering hold; remote = refl; rest = rest; state = state; legal = allowed_of _ _ _ l }

pub may_get_open : (hold : ℕ) → IsPeering (worked_peering hold) → BeginsStory 65001 (sent_lines hold ++ Got open_bytes ∷ [])
may_get_open hold is = begins hold (sent_lines hold ++ Got open_bytes ∷ []) (Put KeepaliveMsg ∷ []) OpenConfirm (confirmed hold is)

pub may_confirm : (hold : ℕ) → IsPeering (worked_peering hold) → BeginsStory 65001 (confirmed_lines hold)
may_confirm hold is = begins hold (confirmed_lines hold) [] OpenConfirm (confirmed hold is)

pub may_join : (hold : ℕ) → IsPeering (worked_peering hold) → BeginsStory 65001 (joined_lines hold)
may_join hold is = begins hold (joined_lines hold) [] Established (joined hold is)

pub may_hear : (hold : ℕ) → IsPeering (worked_peering hold) → BeginsStory 65001 (heard_lines hold)
may_hear hold is = begins hold (heard_lines hold) [] Established (heard_all hold is)

pub may_tick : BeginsStory 65001 (confirmed_lines 90 ++ Tick 30 ∷ [])
may_tick = begins 90 (confirmed_lines 90 ++ Tick 30 ∷ []) (Put KeepaliveMsg ∷ []) OpenConfirm beaten

pub may_beat : BeginsStory 65001 (confirmed_lines 90 ++ Tick 30 ∷ Put KeepaliveMsg ∷ [])
may_beat = begins 90 beaten_lines [] OpenConfirm beaten
