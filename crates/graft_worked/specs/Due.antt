-- Parts of routers in which a new best route is due where it shouldn't be.
use Rattle.std.specs.Prelude.{None}
use Rattle.std.specs.FinMap as map
use Rattle.graft_model.specs.Points.{at}
use Rattle.graft_model.specs.Parts.{Live, RouterPart}
use Rattle.graft_worked.specs.Places.{holding, two}
use Rattle.graft_worked.specs.First.{session_first}
use Rattle.graft_worked.specs.Graft.{ten_alone, a_cleared, a_decided, b_decided}

-- router b has decided, and the route is due to b itself too
abbrev pub b_due_to_itself : RouterPart
b_due_to_itself = record b_decided { due_in = two map.empty ten_alone ten_alone }

-- the route is due on a peering whose place is vacant, too
abbrev pub b_due_on_vacant : RouterPart
b_due_on_vacant = record b_decided { due_out = two map.empty ten_alone ten_alone }

-- router a holds a session that has put its OPEN, and is to decide; it has decided; and the route is due on that session too
abbrev pub a_opening : RouterPart
a_opening = holding a_cleared (Live session_first None)

abbrev pub a_opening_decided : RouterPart
a_opening_decided = holding a_decided (Live session_first None)

abbrev pub a_due_too_early : RouterPart
a_due_too_early = record a_opening_decided { due_out = at (λ p. map.empty) 0 ten_alone }
