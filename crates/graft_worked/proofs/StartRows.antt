-- The rows by which the worked session comes up and the remote's route gets to both routers, each computed.
use Rattle.std.proofs.Common.{◌≡◌, ℕ, ◌<◌, Bool, true, false, cond, List, [], ◌∷◌, ◌++◌, drop, length, Option}
use Rattle.std.proofs.Common.{Some, None, is_some, refl, sym, ap, ◌∙◌, inl, inr, lit<, lit≤, arith}
use Rattle.std.specs.Prelude.{option_map, slice_get}
use Rattle.std.specs.FinMap as map
use Rattle.std.specs.List.{enumerate_from}
use Rattle.std.specs.Ordering.{nat_cmp}
use Rattle.bgp_types.specs.declared.attrs.Attrs.{Attrs}
use Rattle.bgp_types.specs.declared.message.Message.TheVariants.{KeepaliveMsg}
use Rattle.bgp_types.specs.declared.message.SessionState.TheVariants.{OpenConfirm, Established}
use Rattle.bgp_types.specs.Faults.{origin_in, path_in, next_hop_in, med_in, atomic_in, aggregator_in, other_in, own_fault, attrs_fault}
use Rattle.bgp_types.specs.FirstFault.{body_of, message_of}
use Rattle.bgp_types.specs.Found.{found_in, attrs_in}
use Rattle.bgp_types.specs.Header.{header_fault, frame_at}
use Rattle.bgp_types.specs.Many.{many, many_within}
use Rattle.bgp_types.specs.Merge.{merged_path}
use Rattle.bgp_types.specs.OpenBody.{cap_at, caps_of, params_of, open_of}
use Rattle.bgp_types.specs.PathOctets.{part_at}
use Rattle.bgp_types.specs.Prefixes.{PrefixValue, prefix_at, prefixes_of}
use Rattle.bgp_types.specs.Spelling.{spell}
use Rattle.bgp_types.specs.UpdateBody.{fields_of, all_known, update_of}
use Rattle.bgp_types.specs.WireAttrs.{attr_at}
use Rattle.bgp_story.specs.declared.line.Line.TheVariants.{Put}
use Rattle.bgp_story.specs.WorkedSessions.{open_bytes, keepalive_bytes, update_bytes, heard_attrs}
use Rattle.route_policy.specs.Candidates.{imported}
use Rattle.tcp_seq.specs.Endpoint.{Bytes, bytes_in_order, run_from}
use Rattle.session_value.specs.Sessions.{SessionValue}
use Rattle.session_value.specs.Cases.{GetsFrame}
use Rattle.session_value.specs.Sets.{Marks}
use Rattle.graft_model.specs.Points.{at}
use Rattle.graft_model.specs.Setups.{Setup, SayStep, routers_in}
use Rattle.graft_model.specs.Parts.{Live, Vacant, Entry, RouterPart, Seg}
use Rattle.graft_model.specs.Decisions.{remote_identifier, session_route}
use Rattle.graft_model.specs.RouterRows.{OutwardTo, Emits, GetsNext, BringsIn, FollowsHeard}
use Rattle.graft_model.specs.FarRows.{OutwardIn, SayIn, Says, SendsSegment, TakesIn, Passes}
use Rattle.graft_model.specs.OperatorRows.{SayTo, OrdersSay}
use Rattle.graft_worked.specs.Base.{base}
use Rattle.graft_worked.specs.First.{far_first, operator_first}
use Rattle.graft_worked.specs.Graft.{put_all, said_all, from_zero, at_ten, entry, session, remote_end, operator_before, far_before}
use Rattle.graft_worked.specs.Start.{said_segment, put_segment, ack_segment, far_said, far_emitted, far_sent, far_taken, far_reached, far_answered}
use Rattle.graft_worked.specs.Start.{session_arrived, session_confirmed, session_joined, session_heard, session_emitted, a_with, a_got}
use Rattle.graft_worked.proofs.Points.{at-at, at-same}
use Rattle.graft_worked.proofs.Tens.{empty, got_none, got_ten, is_ten, some_at_ten, some_in_none, marks_new}

-- ---- bytes by their offsets

len_zero : {A : Type 0} (xs : List A) → length xs ≡ 0 → xs ≡ []
len_zero [] e = refl
len_zero (x ∷ xs) e = absurd (omega arith)

abbrev pub none_yet : Bytes
none_yet = map.empty

pub received_none : bytes_in_order none_yet ≡ []
received_none = ap (run_from 0) (len_zero (map.entries none_yet) (sym (map.len-entries none_yet) ∙ map.len-empty nat_cmp ℕ))

pub received_said : bytes_in_order (from_zero said_all) ≡ said_all
received_said = ap (run_from 0) (map.entries-from_sorted nat_cmp (enumerate_from 0 said_all) tt)

received_put : bytes_in_order (from_zero put_all) ≡ put_all
received_put = ap (run_from 0) (map.entries-from_sorted nat_cmp (enumerate_from 0 put_all) tt)

-- ---- the operator and the remote

pub orders_say : (setup : Setup) → slice_get setup.steps 0 ≡ Some (SayStep 0 update_bytes)
    → OrdersSay setup 0 0 operator_first None (SayTo 0 0 ∷ []) operator_before
orders_say setup says_first = record {
  alone = refl;
  group = refl;
  unissued = refl;
  peering = 0;
  bytes = update_bytes;
  is = says_first;
  earlier = λ m other lt. absurd (omega arith);
  takes = refl;
  sends = refl;
  effect = refl;
}

pub says : (setup : Setup) → slice_get setup.steps 0 ≡ Some (SayStep 0 update_bytes) → Says setup 0 0 far_first (Some (SayIn 0)) [] far_said
says setup says_first = record { bytes = update_bytes; is = says_first; takes = refl; sends = refl; room = lit≤ tt; effect = refl }

pub sends_all : SendsSegment 0 91 far_said None [] far_sent
sends_all = record {
  segment = said_segment;
  end = far_emitted.end;
  emits = record {
    offset = refl;
    size = refl;
    emits = inl (record {
      from = lit≤ tt;
      to = lit≤ tt;
      some = lit< tt;
      short = lit≤ tt;
      within = lit≤ tt;
      flight = lit≤ tt;
      slice = λ i. record said_segment { ack = sym (ap length received_none) i };
      rises = refl;
    });
  };
  takes = refl;
  sends = refl;
  effect = refl;
}

pub passes_all : (setup : Setup) → 0 < routers_in setup → Passes setup 0 false 0 far_sent None (record { router = 0; segment = said_segment } ∷ []) far_emitted
passes_all setup known = record { segment = said_segment; there = refl; known = known; takes = refl; sends = refl; effect = refl }

pub sends_ack : SendsSegment 91 0 far_reached None [] far_answered
sends_ack = record {
  segment = ack_segment;
  end = remote_end;
  emits = record {
    offset = refl;
    size = refl;
    emits = inr (record { empty = λ i. record ack_segment { ack = sym (ap length received_put) i }; given = refl });
  };
  takes = refl;
  sends = refl;
  effect = refl;
}

pub passes_ack : Passes base 0 false 0 far_answered None (record { router = 0; segment = ack_segment } ∷ []) far_before
passes_ack = record { segment = ack_segment; there = refl; known = lit< tt; takes = refl; sends = refl; effect = refl }

pub takes_put : TakesIn 0 far_emitted (Some (OutwardIn 0 (Seg put_segment))) [] far_taken
takes_put = record { segment = put_segment; takes = refl; sends = refl; effect = refl }

pub emits_all : Emits 0 0 48 (a_got session_heard) None (OutwardTo 0 (Seg put_segment) ∷ []) (a_got session_emitted)
emits_all = record {
  session = session_heard;
  errand = None;
  live = record { is = refl };
  segment = put_segment;
  end = session_emitted.end;
  emits = record {
    offset = refl;
    size = refl;
    emits = inl (record {
      from = lit≤ tt;
      to = lit≤ tt;
      some = lit< tt;
      short = lit≤ tt;
      within = lit≤ tt;
      flight = lit≤ tt;
      slice = λ i. record put_segment { ack = sym (ap length received_said) i };
      rises = refl;
    });
  };
  takes = refl;
  sends = refl;
  effect = λ i. record (a_got session_emitted) { places = sym (at-at (λ p. Vacant) 0 (Live session_heard None) (Live session_emitted None)) i };
}

-- ---- what is got

brought : PrefixValue → Option Attrs → Option Entry
brought x attrs = option_map (λ route. record { route = route; identifier = remote_identifier session; address = session.config.remote_address })
    (imported base.home_as x (session_route base 0 session x) attrs)

pub marks_none : Marks empty (empty {A = Entry}) (empty {A = Entry}) empty
marks_none = record { marked = λ x e. inl e; others = λ x e. (e, refl) }

abbrev a_arrived : RouterPart
a_arrived = a_with session_arrived

gets_open : GetsFrame session_arrived open_bytes session_confirmed
unfolding message_of header_fault frame_at body_of open_of many many_within cap_at caps_of params_of spell
gets_open = record {
  unclosed = λ e. cc;
  rest = keepalive_bytes ++ update_bytes;
  front = ap (drop 0) received_said;
  got = inl refl;
  answer = Put KeepaliveMsg ∷ [];
  next = OpenConfirm;
  reply = refl;
  effect = refl;
}

gets_keepalive : GetsFrame session_confirmed keepalive_bytes session_joined
unfolding message_of header_fault frame_at body_of open_of many many_within cap_at caps_of params_of spell
gets_keepalive = record {
  unclosed = λ e. cc;
  rest = update_bytes;
  front = ap (drop 29) received_said;
  got = inl refl;
  answer = [];
  next = Established;
  reply = refl;
  effect = refl;
}

gets_update : GetsFrame session_joined update_bytes session_heard
unfolding message_of header_fault frame_at body_of open_of update_of fields_of prefixes_of prefix_at many many_within attrs_in attrs_fault own_fault
    origin_in path_in next_hop_in med_in atomic_in aggregator_in other_in found_in all_known part_at attr_at cap_at caps_of params_of merged_path
gets_update = record {
  unclosed = λ e. cc;
  rest = [];
  front = ap (drop 48) received_said;
  got = inl refl;
  answer = [];
  next = Established;
  reply = refl;
  effect = refl;
}

moved : (before after : SessionValue) → at (at (λ p. Vacant) 0 (Live before None)) 0 (Live after None) ≡ at (λ p. Vacant) 0 (Live after None)
moved before after = at-at (λ p. Vacant) 0 (Live before None) (Live after None)

pub got_open_row : (setup : Setup) → GetsNext setup 0 0 a_arrived None [] (a_with session_confirmed)
unfolding header_fault
got_open_row setup = record {
  alone = (refl, refl);
  session = session_arrived;
  errand = None;
  live = record { is = refl };
  bytes = open_bytes;
  next = session_confirmed;
  gets = gets_open;
  follows = record {
    entries = λ x. inl (refl, refl);
    dirty = marks_none;
    due = refl;
    effect = λ i. record (a_with session_confirmed) {
      places = sym (moved session_arrived session_confirmed) i;
      entries = sym (at-same empty 0) i;
      due_out = sym (at-same empty 0) i;
    };
  };
}

pub got_keepalive_row : (setup : Setup) → GetsNext setup 0 0 (a_with session_confirmed) None [] (a_with session_joined)
unfolding header_fault
got_keepalive_row setup = record {
  alone = (refl, refl);
  session = session_confirmed;
  errand = None;
  live = record { is = refl };
  bytes = keepalive_bytes;
  next = session_joined;
  gets = gets_keepalive;
  follows = record {
    entries = λ x. inl (refl, refl);
    dirty = marks_none;
    due = λ x. some_in_none _ x ∙ sym (some_in_none _ x);
    effect = λ i. record (a_with session_joined) {
      places = sym (moved session_confirmed session_joined) i;
      entries = sym (at-same empty 0) i;
      due_out = sym (at-same empty 0) i;
    };
  };
}

map_cond : {A B : Type 0} (F : Option A → Option B) (t : Bool) (v : A) (w : B) → F (Some v) ≡ Some w → F None ≡ None
    → F (cond t (Some v) None) ≡ cond t (Some w) None
map_cond F true v w e n = e
map_cond F false v w e n = n

brings_ten : BringsIn base 0 session_heard (at_ten entry)
unfolding brought message_of header_fault frame_at body_of open_of many many_within cap_at caps_of params_of
brings_ten x = got_ten entry x ∙ sym (ap (brought x) (got_ten heard_attrs x) ∙ map_cond (brought x) (is_ten x) heard_attrs entry refl refl)

-- the remote's route is another than before for 10.0.0.0/8 alone
follows_ten : (x : PrefixValue) (t : Bool) → is_ten x ≡ t → FollowsHeard base 0 session_joined session_heard empty (at_ten entry) x
follows_ten x true e =
    inr ((λ s. let apart : ◌≡◌ {A = Bool} true false = sym (some_at_ten heard_attrs x ∙ e) ∙ (ap is_some s ∙ some_in_none _ x) in cc), brings_ten x)
follows_ten x false e = inl (unheard heard_attrs, unheard entry) where
  unheard : {A : Type 0} (v : A) → map.get (at_ten v) x ≡ map.get (empty {A = A}) x
  unheard v = got_ten v x ∙ (ap (λ t. cond t (Some v) None) e ∙ sym (got_none x))

pub got_update_row : GetsNext base 0 0 (a_with session_joined) None [] (a_got session_heard)
unfolding header_fault
got_update_row = record {
  alone = (refl, refl);
  session = session_joined;
  errand = None;
  live = record { is = refl };
  bytes = update_bytes;
  next = session_heard;
  gets = gets_update;
  follows = record {
    entries = λ x. follows_ten x (is_ten x) refl;
    dirty = marks_new entry;
    due = refl;
    effect = λ i. record (a_got session_heard) { places = sym (moved session_joined session_heard) i; due_out = sym (at-same empty 0) i };
  };
}
