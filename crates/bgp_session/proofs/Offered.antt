-- An UPDATE that is put leaves a session that is tied.
use Rattle.std.proofs.Common.{◌≡◌, ℕ, ◌+◌, ◌-◌, ◌^◌, ◌≤◌, min, Bool, true, List, [], ◌∷◌, ◌++◌, length, refl, sym, ap, ◌∙◌, subst, append-nil, arith}
use Rattle.std.specs.Option.{option_map}
use Rattle.std.proofs.lemmas.List.Sums.{fold-append}
use Rattle.bgp_types.specs.declared.message.Message.TheVariants.{UpdateMsg}
use Rattle.bgp_types.specs.declared.message.SessionState.TheVariants.{Established}
use Rattle.bgp_types.specs.declared.message.Update.{Update}
use Rattle.bgp_types.specs.Spelling.{spell}
use Rattle.tcp_seq.specs.Endpoint.{Endpoint}
use Rattle.tcp_end.specs.State.{stream_length}
use Rattle.tcp_end.specs.Standing.{EndStands}
use Rattle.tcp_end.specs.Whole.{endpoint_of}
use Rattle.tcp_end.proofs.Steps.{stream_is}
use Rattle.bgp_story.specs.declared.line.Line.{Line}
use Rattle.bgp_story.specs.declared.line.Line.TheVariants.{Put}
use Rattle.bgp_story.specs.Legal.{Peering, Allowed, IsOneWay, count_round, is_up, is_wide, silence}
use Rattle.bgp_story.specs.Readings.{Routes, apply, put_bytes, got_bytes}
use Rattle.bgp_story.specs.States.{BeginsStory, state_of}
use Rattle.bgp_story.proofs.Grows.{hold_stays, open_stays}
use Rattle.session_value.specs.Cases.{Changes, PutsUpdate, sending}
use Rattle.session_value.specs.Sessions.{peering_of}
use Rattle.session_value.proofs.PutTies.{puts_tied}
use Rattle.session_value.proofs.Updates as lines_put
use Rattle.bgp_session.specs.declared.parts.Parts.{Parts}
use Rattle.bgp_session.specs.Inner.{SessionInvariant, opened_by, value_of}
use Rattle.bgp_session.specs.Steps.{offered_length}
use Rattle.bgp_session.proofs.Ends.{sent_stands, with_sent}
use Rattle.bgp_session.proofs.Numbers.{numbers_then}

-- the length of the stream
pub length_is : (parts : Parts) (update : Update) → SessionInvariant parts
    → stream_length parts.end + length (spell (UpdateMsg update) (is_wide (peering_of parts.config) parts.story.lines)) ≡ offered_length (value_of parts) update
length_is parts update keeps = omega (arith, stream_is parts.end (value_of parts).end keeps.stands)

-- the tables are no part of what is kept
pub keeps_heard : (parts : Parts) (adj_rib_in : Routes) → SessionInvariant parts → SessionInvariant (record parts { adj_rib_in = adj_rib_in })
keeps_heard parts adj_rib_in k = record {
  stands = k.stands;
  tied = record { allowed = k.tied.allowed; put = k.tied.put; room = k.tied.room; read = k.tied.read; got = k.tied.got };
  peering = k.peering;
  way = k.way;
  send_first = k.send_first;
  receive_first = k.receive_first;
  send_fits = k.send_fits;
  receive_fits = k.receive_fits;
  remote_as = k.remote_as;
  opened = k.opened;
  left = k.left;
  next_round = k.next_round;
}

-- the parts after an UPDATE was put
abbrev pub offered : Parts → Update → Routes → Parts
offered parts update adj_rib_out = record parts {
  story = record parts.story { lines = parts.story.lines ++ Put (UpdateMsg update) ∷ [] };
  adj_rib_out = adj_rib_out;
  end = with_sent parts.end (spell (UpdateMsg update) (is_wide (peering_of parts.config) parts.story.lines));
}

module _ (parts : Parts) (update : Update) (k : SessionInvariant parts) (established : state_of parts.story.lines ≡ Established)
    (one_way : IsOneWay update (is_wide (peering_of parts.config) parts.story.lines))
    (fits : offered_length (value_of parts) update ≤ 1044480) where
  abbrev p : Peering
  p = peering_of parts.config

  abbrev lines : List Line
  lines = parts.story.lines

  abbrev lines' : List Line
  lines' = lines ++ Put (UpdateMsg update) ∷ []

  abbrev octets : List ℕ
  octets = spell (UpdateMsg update) (is_wide p lines)

  abbrev allowed : Allowed p lines (state_of lines)
  allowed = k.tied.allowed

  put_is : put_bytes p lines' ≡ put_bytes p lines ++ octets
  put_is = lines_put.put_then p lines update established one_way allowed

  got_is : got_bytes lines' ≡ got_bytes lines
  got_is = lines_put.got_then p lines update established one_way allowed

  pub offered_begins : BeginsStory parts.story.remote_as lines'
  offered_begins = record {
    peering = p;
    remote = sym k.remote_as;
    rest = [];
    state = Established;
    legal = subst (λ (xs : List Line). Allowed p xs Established) (sym (append-nil lines'))
        (lines_put.legal_next p lines update established (λ _ _. Unit {0}) one_way tt allowed);
  }

  pub offered_room : stream_length parts.end + length octets ≤ 2 ^ 20
  offered_room = omega (arith, length_is parts update k, fits)

  sent : EndStands (with_sent parts.end octets) (endpoint_of (put_bytes p lines ++ octets) (got_bytes lines) (with_sent parts.end octets))
  sent = sent_stands parts.end (put_bytes p lines) (got_bytes lines) octets k.stands offered_room

  end_stands : EndStands (with_sent parts.end octets) (endpoint_of (put_bytes p lines') (got_bytes lines') (with_sent parts.end octets))
  end_stands = rw (put_is, got_is) sent

  end_is : endpoint_of (put_bytes p lines') (got_bytes lines') (with_sent parts.end octets) ≡ sending octets (value_of parts).end
  end_is =
      ap (λ (xs : List ℕ). endpoint_of xs (got_bytes lines') (with_sent parts.end octets)) put_is
      ∙ ap (λ (xs : List ℕ). endpoint_of (put_bytes p lines ++ octets) xs (with_sent parts.end octets)) got_is

  silent : silence lines' ≡ silence lines
  silent = fold-append count_round 0 lines (Put (UpdateMsg update) ∷ [])

  up : is_up (state_of lines) ≡ true
  up = ap is_up established

  module _ (adj_rib_out : Routes) (changes : Changes parts.adj_rib_out update) (tells : adj_rib_out ≡ apply parts.adj_rib_out update) where
    abbrev pub after : Parts
    after = offered parts update adj_rib_out

    pub puts : PutsUpdate (value_of parts) update (value_of after)
    puts = record {
      established = established;
      one_way = one_way;
      changes = changes;
      room = fits;
      effect =
          ap (λ (e : Endpoint). record (value_of parts) { story = lines'; adj_rib_out = adj_rib_out; end = e }) end_is
          ∙ ap (λ (x : Routes). record (value_of parts) { story = lines'; adj_rib_out = x; end = sending octets (value_of parts).end }) tells;
    }

    pub keeps : SessionInvariant after
    keeps = record {
      stands = end_stands;
      tied = puts_tied (value_of parts) (value_of after) update puts k.tied;
      peering = k.peering;
      way = k.way;
      send_first = k.send_first;
      receive_first = k.receive_first;
      send_fits = k.send_fits;
      receive_fits = k.receive_fits;
      remote_as = k.remote_as;
      opened = k.opened ∙ ap (option_map (opened_by p.first)) (sym (open_stays p lines (Put (UpdateMsg update) ∷ []) (state_of lines) allowed up));
      left = omega (arith, k.left, silent, hold_stays p lines (Put (UpdateMsg update) ∷ []) (state_of lines) allowed up);
      next_round = k.next_round ∙ sym (numbers_then lines (Put (UpdateMsg update)) [] (λ n. refl));
    }

-- ---- by what the calls answer

pub offered_fits : (parts : Parts) (update : Update) (stream len : ℕ) (wide : Bool) → SessionInvariant parts → stream ≡ stream_length parts.end
    → wide ≡ is_wide (peering_of parts.config) parts.story.lines
    → len ≡ min (length (spell (UpdateMsg update) wide)) (2 ^ 64 - 1) → stream + len ≤ 1044480 → offered_length (value_of parts) update ≤ 1044480
offered_fits parts update stream len wide k s w l fits =
    let same = ap (λ (b : Bool). length (spell (UpdateMsg update) b)) w in
    omega (arith, length_is parts update k, s, l, fits, same)

pub offers_to : (parts : Parts) (update : Update) (adj_rib_out : Routes) (octets : List ℕ) (then' : Parts) → SessionInvariant parts
    → state_of parts.story.lines ≡ Established → IsOneWay update (is_wide (peering_of parts.config) parts.story.lines) → Changes parts.adj_rib_out update
    → offered_length (value_of parts) update ≤ 1044480 → adj_rib_out ≡ apply parts.adj_rib_out update
    → octets ≡ spell (UpdateMsg update) (is_wide (peering_of parts.config) parts.story.lines)
    → then' ≡ record parts {
      story = record parts.story { lines = parts.story.lines ++ Put (UpdateMsg update) ∷ [] };
      adj_rib_out = adj_rib_out;
      end = with_sent parts.end octets;
    }
    → PutsUpdate (value_of parts) update (value_of then') × SessionInvariant then'
offers_to parts update adj_rib_out octets then' k established one_way changes fits tells written is =
    subst (λ (m : Parts). PutsUpdate (value_of parts) update (value_of m) × SessionInvariant m)
    (sym (is ∙ ap (λ (xs : List ℕ). let m : Parts = record parts {
      story = record parts.story { lines = parts.story.lines ++ Put (UpdateMsg update) ∷ [] };
      adj_rib_out = adj_rib_out;
      end = with_sent parts.end xs;
    } in m) written))
    (puts parts update k established one_way fits adj_rib_out changes tells, keeps parts update k established one_way fits adj_rib_out changes tells)
