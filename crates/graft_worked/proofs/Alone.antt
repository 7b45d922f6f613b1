-- The fields of a claim that are true where one is false.
use Rattle.std.proofs.Common.{None, subst, ◌≢◌, ◌≡◌, ℕ, List, [], ◌∷◌, ◌++◌, refl, sym, ap, ◌∙◌, lit<}
use Rattle.std.specs.FinMap as map
use Rattle.bgp_types.specs.FirstFault.{body_of, message_of}
use Rattle.bgp_types.specs.Header.{header_fault, frame_at}
use Rattle.bgp_types.specs.Many.{many, many_within}
use Rattle.bgp_types.specs.OpenBody.{cap_at, caps_of, params_of, open_of}
use Rattle.bgp_types.specs.PathOctets.{path_octets}
use Rattle.bgp_types.specs.Prefixes.{PrefixValue}
use Rattle.bgp_types.specs.Spelling.{spell, spell_attrs, attrs_written}
use Rattle.bgp_story.specs.Readings.{Routes, put_bytes, heard, told}
use Rattle.bgp_types.specs.declared.message.SessionState.TheVariants.{Established}
use Rattle.bgp_story.specs.declared.line.Line.TheVariants as line
use Rattle.bgp_story.specs.WorkedSessions.{sent_lines, heard_lines}
use Rattle.bgp_story.proofs.WorkedStories.{heard_routes}
use Rattle.session_value.specs.Sessions.{SessionValue, peering_of, state, while_established}
use Rattle.session_value.specs.Fronts.{AreFirst}
use Rattle.tcp_seq.specs.Endpoint.{received_bytes}
use Rattle.graft_model.specs.Claims.{GotAll, Transparent, Solves, SolvesOn, session_routes, router_routes}
use Rattle.decision_core.specs.Choice.{choice}
use Rattle.route_policy.specs.declared.best.Best as best_type
use Rattle.route_policy.specs.Candidates.{candidates}
use Rattle.route_policy.specs.Telling.{tell_in}
use Rattle.graft_model.specs.Setups.{identifier_of, cost_between, has_network}
use Rattle.graft_model.specs.Decisions.{to_tell}
use Rattle.graft_model.specs.SmallWorlds.{config}
use Rattle.graft_worked.specs.Base.{base}
use Rattle.graft_worked.specs.First.{home_open_bytes}
use Rattle.graft_worked.specs.Graft.{put_all, said_all, over_router, session, a_after, b_after, after_graft}
use Rattle.graft_model.specs.Parts.{Vacant, Live, FarPart, World}
use Rattle.graft_model.specs.OperatorRows.{placement}
use Rattle.graft_worked.proofs.Setup.{below_two, below_one}
use Rattle.graft_worked.specs.Alone.{AloneField, One, Linked, Tellings, TransparentBut, SolvesBut, Own, Legal}
use Rattle.graft_worked.specs.Alone.{Received, Got, AdjRibIn, AdjRibOut, Placed, Elsewhere, Best}
use Rattle.graft_worked.specs.Puts.{with_link_at_source}
use Rattle.graft_worked.specs.Wrong.{with_session_kept, with_telling_on_its_way}
use Rattle.graft_worked.specs.Weaker.{with_far, with_session, interrupted, with_empty_line, addressed, opened_twice, unhearing, telling}
use Rattle.graft_worked.specs.Weaker.{with_other_address, with_second_open, with_octet_received, with_update_unsaid, with_route_unheard}
use Rattle.graft_worked.specs.Weaker.{with_route_told, with_word_owed, with_keepalive_missing, with_keepalive_said, with_shadow_left, with_best_missing}
use Rattle.graft_worked.proofs.Tens.{empty, is_ten, got_none, got_ten}
use Rattle.graft_worked.proofs.GraftRows.{tells_none}
use Rattle.graft_worked.proofs.GraftEnds.{legal_after, all_received, received_after, got_all, remote_received, none_told, nothing_told, told_to_b, solves_after}

-- ---- transparent

puts_twice : put_bytes (peering_of config) (heard_lines 0 ++ sent_lines 0) ≡ put_all ++ home_open_bytes
unfolding message_of header_fault frame_at body_of open_of many many_within cap_at caps_of params_of spell spell_attrs attrs_written path_octets
puts_twice = refl

heard_as_before : heard (peering_of config) (heard_lines 0 ++ sent_lines 0) ≡ heard (peering_of config) (heard_lines 0)
unfolding message_of header_fault frame_at body_of open_of many many_within cap_at caps_of params_of
heard_as_before = refl

told_as_before : told (heard_lines 0 ++ sent_lines 0) ≡ map.empty
unfolding header_fault
told_as_before = refl

pub one_alone : TransparentBut One with_session_kept session
one_alone = record {
  one = λ other. absurd (other refl);
  own = λ other. refl;
  legal = λ other. legal_after;
  received = λ other. received_after;
  got = λ other. record { rest = []; is = refl };
  adj_rib_in = λ other. sym (heard_routes 0);
  adj_rib_out = λ other. sym none_told;
}

pub own_alone : TransparentBut Own with_other_address addressed
own_alone = record {
  one = λ other. refl;
  own = λ other. absurd (other refl);
  legal = λ other. legal_after;
  received = λ other. received_after;
  got = λ other. record { rest = []; is = refl };
  adj_rib_in = λ other. sym (heard_routes 0);
  adj_rib_out = λ other. sym none_told;
}

pub legal_alone : TransparentBut Legal with_second_open opened_twice
legal_alone = record {
  one = λ other. refl;
  own = λ other. refl;
  legal = λ other. absurd (other refl);
  received = λ other. record { rest = home_open_bytes; is = puts_twice ∙ ap (λ (bytes : List ℕ). bytes ++ home_open_bytes) (sym remote_received) };
  got = λ other. record { rest = []; is = refl };
  adj_rib_in = λ other. sym (heard_as_before ∙ heard_routes 0);
  adj_rib_out = λ other. sym told_as_before;
}

-- of the last world with another far side
far_transparent : (but : AloneField) (far : FarPart)
    → (but ≢ Received → AreFirst (received_bytes far.end) (put_bytes (peering_of config) (heard_lines 0))) → (but ≢ Got → AreFirst said_all far.end.stream)
    → TransparentBut but (with_far far) session
far_transparent but far received got = record {
  one = λ other. refl;
  own = λ other. refl;
  legal = λ other. legal_after;
  received = received;
  got = got;
  adj_rib_in = λ other. sym (heard_routes 0);
  adj_rib_out = λ other. sym none_told;
}

pub received_alone : TransparentBut Received with_octet_received session
received_alone = far_transparent Received (with_octet_received.far 0) (λ other. absurd (other refl)) (λ other. record { rest = []; is = refl })

pub got_alone : TransparentBut Got with_update_unsaid session
got_alone = far_transparent Got (with_update_unsaid.far 0) (λ other. received_after) (λ other. absurd (other refl))

-- of the last world with other tables of the session's
tables_transparent : (but : AloneField) (heard_in told_out : Routes)
    → (but ≢ AdjRibIn → heard_in ≡ heard (peering_of config) (heard_lines 0)) → (but ≢ AdjRibOut → told_out ≡ told (heard_lines 0))
    → TransparentBut but (with_session (record session { adj_rib_in = heard_in; adj_rib_out = told_out }))
    (record session { adj_rib_in = heard_in; adj_rib_out = told_out })
tables_transparent but heard_in told_out heard_is told_is = record {
  one = λ other. refl;
  own = λ other. refl;
  legal = λ other. legal_after;
  received = λ other. received_after;
  got = λ other. record { rest = []; is = refl };
  adj_rib_in = heard_is;
  adj_rib_out = told_is;
}

pub heard_alone : TransparentBut AdjRibIn with_route_unheard unhearing
heard_alone = tables_transparent AdjRibIn unhearing.adj_rib_in session.adj_rib_out (λ other. absurd (other refl)) (λ other. sym none_told)

pub told_alone : TransparentBut AdjRibOut with_route_told telling
told_alone = tables_transparent AdjRibOut session.adj_rib_in telling.adj_rib_out (λ other. sym (heard_routes 0)) (λ other. absurd (other refl))

pub transparent_of : (w : World) (s : SessionValue) → TransparentBut Best w s → Transparent base w 0
transparent_of w s b = record {
  session = s;
  one = b.one (λ e. cc);
  own = b.own (λ e. cc);
  legal = b.legal (λ e. cc);
  received = b.received (λ e. cc);
  got = b.got (λ e. cc);
  adj_rib_in = b.adj_rib_in (λ e. cc);
  adj_rib_out = b.adj_rib_out (λ e. cc);
}

pub of_transparent : (but : AloneField) (w : World) (t : Transparent base w 0) → TransparentBut but w t.session
of_transparent but w t = record {
  one = λ other. t.one;
  own = λ other. t.own;
  legal = λ other. t.legal;
  received = λ other. t.received;
  got = λ other. t.got;
  adj_rib_in = λ other. t.adj_rib_in;
  adj_rib_out = λ other. t.adj_rib_out;
}

-- ---- solved

-- router a tells nothing, with its route or without one
tells_alike : (prefix : PrefixValue) → tell_in (map.get a_after.best prefix) ≡ tell_in (map.get (empty {A = best_type.Best}) prefix)
tells_alike prefix = ap tell_in (got_ten (over_router 1) prefix) ∙ (sym (told_to_b (is_ten prefix)) ∙ sym (ap tell_in (got_none {A = best_type.Best} prefix)))

told_rightly : (prefix : PrefixValue) → map.get session.adj_rib_out prefix ≡ while_established (state session) (to_tell base 1 b_after session prefix)
told_rightly prefix = got_none prefix ∙ nothing_told prefix

best_still : (prefix : PrefixValue) → map.get b_after.best prefix
    ≡ choice (candidates 65000 prefix (has_network base 1 prefix) (session_routes base after_graft 1 prefix) (router_routes base with_best_missing 1 prefix))
best_still prefix = solves_after.best 1 prefix (lit< tt)
    ∙ (λ i. choice (candidates 65000 prefix (has_network base 1 prefix) (session_routes base after_graft 1 prefix)
    (record { router = record { 0 = 0 }; identifier = identifier_of base 0; cost = cost_between base 1 0; told = tells_alike prefix i } ∷ [])))

to_b_still : (prefix : PrefixValue) → map.get (b_after.tellings 0) prefix ≡ tell_in (map.get a_after.best prefix)
to_b_still prefix = solves_after.tellings 0 1 prefix (lit< tt) (lit< tt) (λ e. cc)

to_a_still : (prefix : PrefixValue) → map.get (a_after.tellings 1) prefix ≡ tell_in (map.get b_after.best prefix)
to_a_still prefix = solves_after.tellings 1 0 prefix (lit< tt) (lit< tt) (λ e. cc)

-- the fields that speak of routes
abbrev Routed : AloneField → World → Type 0
Routed but w =
    (but ≢ Best → (prefix : PrefixValue) → map.get (w.router 0).best prefix
    ≡ choice (candidates 65000 prefix (has_network base 0 prefix) (session_routes base w 0 prefix) (router_routes base w 0 prefix)))
    × (((prefix : PrefixValue) → map.get (w.router 1).best prefix
    ≡ choice (candidates 65000 prefix (has_network base 1 prefix) (session_routes base w 1 prefix) (router_routes base w 1 prefix)))
    × ((but ≢ Tellings → (prefix : PrefixValue) → map.get ((w.router 1).tellings 0) prefix ≡ tell_in (map.get (w.router 0).best prefix))
    × ((prefix : PrefixValue) → map.get ((w.router 0).tellings 1) prefix ≡ tell_in (map.get (w.router 1).best prefix))))

routed : (but : AloneField) → Routed but after_graft
routed but = (λ other prefix. solves_after.best 0 prefix (lit< tt), (λ prefix. solves_after.best 1 prefix (lit< tt), (λ other. to_b_still, to_a_still)))

-- of any world: what is said of its routes, and then each other field
solved_but : (but : AloneField) (w : World) (s : SessionValue) → placement base w.operator 0 ≡ 1 → Routed but w
    → (but ≢ Placed → (w.router 1).places 0 ≡ Live s None)
    → (but ≢ Linked → (w.far 0).pointer ≡ 1)
    → (but ≢ AdjRibOut → (prefix : PrefixValue) → map.get s.adj_rib_out prefix ≡ while_established (state s) (to_tell base 1 (w.router 1) s prefix))
    → (but ≢ Received → received_bytes (w.far 0).end ≡ put_bytes (peering_of s.config) s.story)
    → (but ≢ Got → GotAll s (w.far 0).end.stream)
    → (but ≢ Elsewhere → ((w.router 0).places 0 ≡ Vacant) × ((w.router 0).entries 0 ≡ map.empty))
    → SolvesBut but w s
solved_but but w s logged routes placed linked told received got elsewhere = record {
  best_at_a = routes.0;
  best_at_b = routes.1.0;
  told_to_b = routes.1.1.0;
  told_to_a = routes.1.1.1;
  logged = logged;
  placed = placed;
  linked = linked;
  adj_rib_out = told;
  received = received;
  got = got;
  elsewhere = elsewhere;
}

-- of the last world with another far side
far_solves : (but : AloneField) (far : FarPart) → (but ≢ Linked → far.pointer ≡ 1)
    → (but ≢ Received → received_bytes far.end ≡ put_bytes (peering_of config) (heard_lines 0)) → (but ≢ Got → GotAll session far.end.stream)
    → SolvesBut but (with_far far) session
far_solves but far linked received got = solved_but but (with_far far) session refl (routed but)
    (λ other. refl) linked (λ other. told_rightly) received got (λ other. (refl, refl))

pub linked_alone : SolvesBut Linked with_link_at_source session
linked_alone = far_solves Linked (with_link_at_source.far 0) (λ other. absurd (other refl)) (λ other. all_received) (λ other. got_all)

pub all_received_alone : SolvesBut Received with_keepalive_missing session
all_received_alone = far_solves Received (with_keepalive_missing.far 0) (λ other. refl) (λ other. absurd (other refl)) (λ other. got_all)

pub all_got_alone : SolvesBut Got with_keepalive_said session
all_got_alone = far_solves Got (with_keepalive_said.far 0) (λ other. refl) (λ other. all_received) (λ other. absurd (other refl))

pub all_said_alone : SolvesBut Got with_update_unsaid session
all_said_alone = far_solves Got (with_update_unsaid.far 0) (λ other. refl) (λ other. all_received) (λ other. absurd (other refl))

pub placed_alone : SolvesBut Placed with_word_owed session
placed_alone = solved_but Placed with_word_owed session refl (routed Placed)
    (λ other. absurd (other refl)) (λ other. refl) (λ other. told_rightly) (λ other. all_received) (λ other. got_all) (λ other. (refl, refl))

pub elsewhere_alone : SolvesBut Elsewhere with_shadow_left session
elsewhere_alone = solved_but Elsewhere with_shadow_left session refl (routed Elsewhere)
    (λ other. refl) (λ other. refl) (λ other. told_rightly) (λ other. all_received) (λ other. got_all) (λ other. absurd (other refl))

pub all_told_alone : SolvesBut AdjRibOut with_route_told telling
all_told_alone = solved_but AdjRibOut with_route_told telling refl (routed AdjRibOut)
    (λ other. refl) (λ other. refl) (λ other. absurd (other refl)) (λ other. all_received)
    (λ other. record { rest = got_all.rest; is = got_all.is; whole = got_all.whole; end = got_all.end }) (λ other. (refl, refl))

pub best_alone : SolvesBut Best with_best_missing session
best_alone = solved_but Best with_best_missing session refl
    (λ other. absurd (other refl), (best_still, (λ other prefix. to_b_still prefix ∙ tells_alike prefix, to_a_still)))
    (λ other. refl) (λ other. refl) (λ other. told_rightly) (λ other. all_received) (λ other. got_all) (λ other. (refl, refl))

pub tellings_alone : SolvesBut Tellings with_telling_on_its_way session
tellings_alone = solved_but Tellings with_telling_on_its_way session refl
    ((routed Tellings).0, ((routed Tellings).1.0, (λ other. absurd (other refl), to_a_still)))
    (λ other. refl) (λ other. refl) (λ other. told_rightly) (λ other. all_received) (λ other. got_all) (λ other. (refl, refl))

puts_interrupted : put_bytes (peering_of config) (heard_lines 0 ++ line.Got [] ∷ []) ≡ put_all
unfolding message_of header_fault frame_at body_of open_of many many_within cap_at caps_of params_of spell spell_attrs attrs_written path_octets
puts_interrupted = refl

still_up : state interrupted ≡ Established
unfolding header_fault
still_up = refl

told_interrupted : (prefix : PrefixValue) → map.get session.adj_rib_out prefix ≡ while_established (state interrupted) (to_tell base 1 b_after session prefix)
told_interrupted prefix = got_none prefix ∙ sym (ap (λ s. while_established s (to_tell base 1 b_after session prefix)) still_up ∙ tells_none prefix)

pub all_whole_alone : SolvesBut Got with_empty_line interrupted
all_whole_alone = solved_but Got with_empty_line interrupted refl (routed Got)
    (λ other. refl) (λ other. refl) (λ other. told_interrupted) (λ other. remote_received ∙ sym puts_interrupted)
    (λ other. absurd (other refl)) (λ other. (refl, refl))

solves_on : (w : World) (s : SessionValue) → SolvesBut Own w s → SolvesOn base w 0
solves_on w s b = record {
  session = s;
  placed = subst (λ r. (w.router r).places 0 ≡ Live s None) (sym b.logged) (b.placed (λ e. cc));
  linked = b.linked (λ e. cc) ∙ sym b.logged;
  adj_rib_out = λ prefix. subst (λ r. map.get s.adj_rib_out prefix ≡ while_established (state s) (to_tell base r (w.router r) s prefix))
      (sym b.logged) (b.adj_rib_out (λ e. cc) prefix);
  received = b.received (λ e. cc);
  got = b.got (λ e. cc);
  elsewhere = below_two (λ r. r ≢ placement base w.operator 0 → ((w.router r).places 0 ≡ Vacant) × ((w.router r).entries 0 ≡ map.empty))
      (λ other. b.elsewhere (λ e. cc)) (λ other. absurd (other (sym b.logged)));
}

pub solves_of : (w : World) (s : SessionValue) → SolvesBut Own w s → Solves base w
solves_of w s b = record {
  best = λ r prefix lt. below_two (λ r. map.get (w.router r).best prefix
      ≡ choice (candidates 65000 prefix (has_network base r prefix) (session_routes base w r prefix) (router_routes base w r prefix)))
      (b.best_at_a (λ e. cc) prefix) (b.best_at_b prefix) r lt;
  tellings = λ r q prefix lr lq. below_two (λ r. r ≢ q → map.get ((w.router q).tellings r) prefix ≡ tell_in (map.get (w.router r).best prefix))
      (below_two (λ q. 0 ≢ q → map.get ((w.router q).tellings 0) prefix ≡ tell_in (map.get (w.router 0).best prefix))
      (λ other. absurd (other refl)) (λ other. b.told_to_b (λ e. cc) prefix) q lq)
      (below_two (λ q. 1 ≢ q → map.get ((w.router q).tellings 1) prefix ≡ tell_in (map.get (w.router 1).best prefix))
      (λ other. b.told_to_a prefix) (λ other. absurd (other refl)) q lq)
      r lr;
  peerings = below_one (SolvesOn base w) (solves_on w s b);
}
