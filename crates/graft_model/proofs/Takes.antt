-- What an event of a router takes, it may take.
use Rattle.std.proofs.Common.{◌≡◌, ℕ, List, Some, None, sym, subst}
use Rattle.std.proofs.lemmas.Option.{same_Some}
use Rattle.graft_model.specs.Setups.{Setup}
use Rattle.graft_model.specs.Parts.{RouterPart, Told}
use Rattle.graft_model.specs.RouterRows.{RouterTaken, MeshIn, RouterSent}
use Rattle.graft_model.specs.Steps.{RouterEvent, router_row}
use Rattle.graft_model.specs.Taking.{RouterMayTake}
use Rattle.graft_model.proofs.Footprints.{TakesNoTelling, Deciding, Telling, Hearing, Staying, Changing, Footprint, footprint}

may : (setup : Setup) (before : RouterPart) (item : RouterTaken) → TakesNoTelling setup before (Some item) → RouterMayTake setup before item
may setup before (MeshIn q (Told x route)) takes = absurd takes
may setup before _ takes = takes

pub router_takes : (setup : Setup) (r : ℕ) (event : RouterEvent) (before after : RouterPart) (item : RouterTaken) (sent : List RouterSent)
    → router_row setup r event before (Some item) sent after → RouterMayTake setup before item
router_takes setup r event before after item sent row = by_print (footprint setup r before after (Some item) sent event row) where
  none : Some item ≡ None → RouterMayTake setup before item
  none is = absurd cc

  by_print : Footprint setup r event before (Some item) sent after → RouterMayTake setup before item
  by_print (Deciding prefix row) = none row.alone.0
  by_print (Telling q prefix row) = none row.takes
  by_print (Hearing q row) = subst (RouterMayTake setup before) (sym (same_Some item _ row.takes)) tt
  by_print (Staying silent is) = may setup before item silent.takes
  by_print (Changing p silent one change) = may setup before item silent.takes
