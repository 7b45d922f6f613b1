-- An unbroken session makes its peering transparent.
use Rattle.std.proofs.Common.{◌≡◌, ℕ, List, [], ◌∷◌, ◌++◌, drop, sym, ap, ◌∙◌, append_assoc}
use Rattle.bgp_story.specs.Readings.{put_bytes, got_bytes}
use Rattle.tcp_seq.specs.Endpoint.{received, received_bytes}
use Rattle.session_value.specs.Fronts.{AreFirst}
use Rattle.session_value.specs.Sessions.{SessionValue, peering_of, unread}
use Rattle.session_value.proofs.Ends.{front_rest}
use Rattle.session_value.proofs.Ties.{received_is}
use Rattle.graft_model.specs.Claims.{sessions_of, Transparent}
use Rattle.graft_model.specs.Parts.{World}
use Rattle.graft_model.specs.Setups.{Setup}
use Rattle.graft_laws.specs.Phases.{Phase}
use Rattle.graft_laws.specs.Streams.{IsUnbroken}

-- what the remote received are the first bytes of what was put
remote_received : (setup : Setup) (w : World) (p : ℕ) (phase : Phase) (s : SessionValue) → IsUnbroken setup w p phase s
    → AreFirst (received_bytes (w.far p).end) (put_bytes (peering_of s.config) s.story)
remote_received setup w p phase s is = record {
  rest = drop (received (w.far p).end) s.end.stream;
  is = sym is.story.tied.put ∙ front_rest (received (w.far p).end) s.end.stream (received_bytes (w.far p).end) (sym is.streams.linked.there.bytes);
}

-- what was got are the first bytes that the remote said
remote_said : (setup : Setup) (w : World) (p : ℕ) (phase : Phase) (s : SessionValue) → IsUnbroken setup w p phase s
    → AreFirst (got_bytes s.story) (w.far p).end.stream
remote_said setup w p phase s is =
    let more : List ℕ = drop (received s.end) (w.far p).end.stream in
    record {
      rest = unread s ++ more;
      is = front_rest (received s.end) (w.far p).end.stream (received_bytes s.end) (sym is.streams.linked.back.bytes)
          ∙ ap (λ (xs : List ℕ). xs ++ more) (received_is s is.story.tied)
          ∙ append_assoc (got_bytes s.story) (unread s) more;
    }

pub transparent_is : (setup : Setup) (w : World) (p : ℕ) (phase : Phase) (s : SessionValue) → sessions_of setup w p ≡ s ∷ []
    → IsUnbroken setup w p phase s → Transparent setup w p
transparent_is setup w p phase s one is = record {
  session = s;
  one = one;
  own = is.own.config;
  legal = is.story.legal;
  received = remote_received setup w p phase s is;
  got = remote_said setup w p phase s is;
  adj_rib_in = is.story.adj_rib_in;
  adj_rib_out = is.story.adj_rib_out;
}
