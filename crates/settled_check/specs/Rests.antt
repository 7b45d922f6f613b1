-- The rest of an actor: each of its fields says what is left in the actor's part.
use Rattle.std.specs.Prelude.{ℕ, ◌≡◌, ◌+◌, ◌↔◌, length, true}
use Rattle.std.specs.Option.{option_map}
use Rattle.graft_steps.specs.declared.rest.RouterRest.{RouterRest}
use Rattle.graft_steps.specs.declared.rest.FarRest.{FarRest}
use Rattle.graft_steps.specs.declared.rest.OperatorRest.{OperatorRest}
use Rattle.graft_model.specs.Setups.{Setup}
use Rattle.graft_model.specs.Parts.{RouterPart, FarPart, OperatorPart}
use Rattle.settled_check.specs.Firsts.{IsLowestOf}
use Rattle.settled_check.specs.Left.{HasSome, HasStream, HoldsGraft, IsUnacked, HasUnissued, IsOpen}

-- of the router of this number
pub record IsRouterRest (r : ℕ) (part : RouterPart) (rest : RouterRest) : Type 0 where
  pub number : rest.number.0 ≡ r
  pub dirty : (rest.dirty ≡ true) ↔ HasSome part.dirty
  pub due_in : IsLowestOf (λ q. HasSome (part.due_in q)) (option_map (λ q. q.0) rest.due_in)
  pub due_out : IsLowestOf (λ p. HasSome (part.due_out p)) (option_map (λ p. p.0) rest.due_out)
  pub graft : IsLowestOf (HoldsGraft part) rest.graft
  pub stream : IsLowestOf (λ p. HasStream (part.places p)) (option_map (λ p. p.0) rest.stream)

-- of the far side of this peering
pub record IsFarRest (p : ℕ) (part : FarPart) (rest : FarRest) : Type 0 where
  pub peering : rest.peering.0 ≡ p
  pub bag : rest.bag ≡ length part.homeward + length part.remoteward
  pub unacked : (rest.unacked ≡ true) ↔ IsUnacked part.end

pub record IsOperatorRest (setup : Setup) (part : OperatorPart) (rest : OperatorRest) : Type 0 where
  pub unissued : (rest.unissued ≡ true) ↔ HasUnissued setup part
  pub graft : IsLowestOf (IsOpen setup part) rest.graft
