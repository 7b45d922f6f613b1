-- A session that begins, emits or takes a segment is tied to its story.
use Rattle.std.proofs.Common.{◌≡◌, ℕ, ◌≤◌, List, [], ◌∷◌, ◌++◌, length, take, false, refl, sym, ap, ◌∙◌, arith, ◌⊎◌, inl, inr}
use Rattle.std.proofs.lemmas.List.{append-nil, length-take}
use Rattle.std.proofs.Math.Seq.{take-length}
use Rattle.bgp_types.specs.declared.message.Message.TheVariants.{OpenMsg}
use Rattle.bgp_types.specs.Spelling.{spell}
use Rattle.bgp_story.specs.declared.line.Line.{Line}
use Rattle.bgp_story.specs.declared.line.Line.TheVariants.{Put}
use Rattle.bgp_story.specs.Legal.{Legal, IsPeering}
use Rattle.bgp_story.specs.Readings.{put_bytes, got_bytes}
use Rattle.tcp_seq.specs.Endpoint.{Endpoint, PlacedSegment, received, received_bytes, EmitsSlice, EmitsEmpty, TakesSegment}
use Rattle.tcp_seq.proofs.Arriving.{received_stays}
use Rattle.session_value.specs.declared.config.SessionConfig.{SessionConfig}
use Rattle.session_value.specs.Fronts.{AreFirst}
use Rattle.session_value.specs.Sessions.{SessionValue, peering_of, state, unread, begun}
use Rattle.session_value.specs.Ties.{IsTied, IsOfStory}
use Rattle.session_value.proofs.Ends.{first_stay, front_length, front_rest}
use Rattle.session_value.proofs.Rooms.{open_size, most_any}

-- ---- the beginning

pub begun_is : (config : SessionConfig) → IsPeering (peering_of config) → IsOfStory (begun config)
begun_is config valid =
    let p = peering_of config in
    let lines : List Line = Put (OpenMsg p.first) ∷ [] in
    let size = open_size p.first false valid.home in
    let one : length (put_bytes p lines) ≡ length (spell (OpenMsg p.first) false) =
    ap (λ (xs : List ℕ). length xs) (append-nil (spell (OpenMsg p.first) false)) in
    record {
      tied = record { allowed = Legal.opened lines valid refl; put = refl; room = omega (arith, size, one); read = omega arith; got = refl };
      legal = Legal.opened lines valid refl;
      adj_rib_in = refl;
      adj_rib_out = refl;
    }

-- ---- an endpoint that sends and has read the same

module _ (session : SessionValue) (end : Endpoint)
    (stream : end.stream ≡ session.end.stream)
    (read : end.read ≡ session.end.read)
    (grows : received_bytes session.end ≡ take (received session.end) (received_bytes end)) where
  pub tied_with : IsTied session → IsTied (record session { end = end })
  tied_with tied =
      let more : received session.end ≤ received end =
      omega (arith, ap (λ (xs : List ℕ). length xs) grows, length-take (received session.end) (received_bytes end)) in
      record {
        allowed = tied.allowed;
        put = stream ∙ tied.put;
        room = omega (arith, tied.room, ap (λ (xs : List ℕ). length xs) stream);
        read = omega (arith, tied.read, read, more);
        got = ap (λ (n : ℕ). take n (received_bytes end)) read
            ∙ first_stay session.end.read (received_bytes session.end) (received_bytes end) tied.read grows ∙ tied.got;
      }

  pub of_story_with : IsOfStory session → IsOfStory (record session { end = end })
  of_story_with is = record { tied = tied_with is.tied; legal = is.legal; adj_rib_in = is.adj_rib_in; adj_rib_out = is.adj_rib_out }

all_received : (e : Endpoint) → received_bytes e ≡ take (received e) (received_bytes e)
all_received e = sym (take-length (received_bytes e))

-- an endpoint that sends and has read the same as before, and received at least as much
pub record SendsSame (before after : Endpoint) : Type 0 where
  pub stream : after.stream ≡ before.stream
  pub read : after.read ≡ before.read
  pub grows : received_bytes before ≡ take (received before) (received_bytes after)

pub emits_same : (before : Endpoint) (segment : PlacedSegment) (after : Endpoint) → EmitsSlice before segment after ⊎ EmitsEmpty before segment after
    → SendsSame before after
emits_same before segment after (inl slice) = record {
  stream = ap (λ (e : Endpoint). e.stream) slice.rises;
  read = ap (λ (e : Endpoint). e.read) slice.rises;
  grows = all_received before ∙ ap (λ (e : Endpoint). take (received before) (received_bytes e)) (sym slice.rises);
}
emits_same before segment after (inr empty) = record {
  stream = ap (λ (e : Endpoint). e.stream) empty.given;
  read = ap (λ (e : Endpoint). e.read) empty.given;
  grows = all_received before ∙ ap (λ (e : Endpoint). take (received before) (received_bytes e)) (sym empty.given);
}

pub takes_same : (before : Endpoint) (segment : PlacedSegment) (after : Endpoint) → TakesSegment before segment after → SendsSame before after
takes_same before segment after (inl drops) = record {
  stream = ap (λ (e : Endpoint). e.stream) drops.stays;
  read = ap (λ (e : Endpoint). e.read) drops.stays;
  grows = received_stays before after segment (inl drops);
}
takes_same before segment after (inr accepts) = record {
  stream = ap (λ (e : Endpoint). e.stream) accepts.changed;
  read = ap (λ (e : Endpoint). e.read) accepts.changed;
  grows = received_stays before after segment (inr accepts);
}

pub emits_tied : (session : SessionValue) (segment : PlacedSegment) (end : Endpoint) → IsTied session
    → EmitsSlice session.end segment end ⊎ EmitsEmpty session.end segment end → IsTied (record session { end = end })
emits_tied session segment end tied emits = let c = emits_same session.end segment end emits in tied_with session end c.stream c.read c.grows tied

pub takes_tied : (session : SessionValue) (segment : PlacedSegment) (end : Endpoint) → IsTied session → TakesSegment session.end segment end
    → IsTied (record session { end = end })
takes_tied session segment end tied takes = let c = takes_same session.end segment end takes in tied_with session end c.stream c.read c.grows tied

pub emits_of_story : (session : SessionValue) (segment : PlacedSegment) (end : Endpoint) → IsOfStory session
    → EmitsSlice session.end segment end ⊎ EmitsEmpty session.end segment end → IsOfStory (record session { end = end })
emits_of_story session segment end is emits = let c = emits_same session.end segment end emits in of_story_with session end c.stream c.read c.grows is

pub takes_of_story : (session : SessionValue) (segment : PlacedSegment) (end : Endpoint) → IsOfStory session → TakesSegment session.end segment end
    → IsOfStory (record session { end = end })
takes_of_story session segment end is takes = let c = takes_same session.end segment end takes in of_story_with session end c.stream c.read c.grows is

-- ---- what follows

pub received_is : (session : SessionValue) → IsTied session → received_bytes session.end ≡ got_bytes session.story ++ unread session
received_is session tied = front_rest session.end.read (received_bytes session.end) (got_bytes session.story) tied.got

pub got_is_first : (session : SessionValue) → IsTied session → AreFirst (got_bytes session.story) (received_bytes session.end)
got_is_first session tied = record { rest = unread session; is = received_is session tied }

pub read_is : (session : SessionValue) → IsTied session → session.end.read ≡ length (got_bytes session.story)
read_is session tied = front_length session.end.read (received_bytes session.end) (got_bytes session.story) tied.read tied.got

pub stream_fits : (session : SessionValue) → IsTied session → length session.end.stream ≤ 1048576
stream_fits session tied = omega (arith, tied.room, most_any (state session))
