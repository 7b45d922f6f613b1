use Rattle.std.proofs.Common.{◌≡◌, ◌≤◌, ℕ, List, [], ◌∷◌, Option, Some, sym, ap, ◌∙◌, subst}
use Rattle.std.specs.Prelude.{OnOk}
use Rattle.std.specs.FinMap as map
use Rattle.bgp_types.specs.declared.attrs.Attrs.{Attrs}
use Rattle.rib_stages.specs.Values.{rib_of}
use Rattle.route_policy.specs.Telling.{out_side_of_view}
use Rattle.update_plan.specs.Codes.{value_code}
use Rattle.update_plan.specs.Gathering.{AddsToUpdates}
use Rattle.update_plan.specs.Passing.{passed_on}
use Rattle.update_plan.specs.Plans.{octets}
use Rattle.update_plan.specs.ToTell.{rib_to_tell}
use Rattle.update_plan.proofs.Adding.{few_octets, among, is_counted, joins_ok, keeps_joins, begins_ok, keeps_begins}
use Rattle.update_plan.proofs.Fits.{fits_one}
use Rattle.update_plan.proofs.gather.Gathered.add_passing.Goals as goal

-- the numbers of the attributes as they pass on are those of what is to be told
code_is : (told : Option Attrs) (attrs : Attrs) (home_as given local_address : ℕ) (code : List ℕ) → given ≡ home_as
    → told ≡ Some (passed_on home_as local_address attrs) → code ≡ value_code (Some (passed_on given local_address attrs)) → code ≡ value_code told
code_is told attrs home_as given local_address code e f g = g ∙ (ap (λ n. value_code (Some (passed_on n local_address attrs))) e ∙ ap value_code (sym f))

pub room_for-requires-clause-counted : goal.room_for-requires-clause-counted
room_for-requires-clause-counted c = λ number at.
    let told = rib_to_tell (rib_of c.args.rib.now) (out_side_of_view c.args.view.now) c.args.prefix in
    let is = code_is told c.args.attrs.now c.args.rib.now.config.home_as c.home_as.result
    c.args.view.now.local_address c.in_ok-code.code c.home_as.ensures c.requires.passes c.in_ok-code.ensures in
    is_counted c.args.self.now told c.in_ok-code.code c.requires.keeps is number at

pub room_for-requires-clause-len : goal.room_for-requires-clause-len
room_for-requires-clause-len c = few_octets c.args.prefix c.prefix_len-len.result c.prefix_len-len.ensures.octets

pub join-requires-clause-counted : goal.join-requires-clause-counted
join-requires-clause-counted c =
    let told = rib_to_tell (rib_of c.args.rib.now) (out_side_of_view c.args.view.now) c.args.prefix in
    let is = code_is told c.args.attrs.now c.args.rib.now.config.home_as c.home_as.result
    c.args.view.now.local_address c.in_ok-code.code c.home_as.ensures c.requires.passes c.in_ok-code.ensures in
    is_counted c.args.self.now told c.in_ok-code.code c.requires.keeps is c.in-Some.number (c.room_for.ensures.some c.in-Some.number c.in-Some.is).0

pub join-requires-clause-number : goal.join-requires-clause-number
join-requires-clause-number c =
    let told = rib_to_tell (rib_of c.args.rib.now) (out_side_of_view c.args.view.now) c.args.prefix in
    let is = code_is told c.args.attrs.now c.args.rib.now.config.home_as c.home_as.result
    c.args.view.now.local_address c.in_ok-code.code c.home_as.ensures c.requires.passes c.in_ok-code.ensures in
    among c.args.self.now told c.in_ok-code.code c.requires.keeps is c.in-Some.number (c.room_for.ensures.some c.in-Some.number c.in-Some.is).0

pub returns-in-Some-clause-keeps : goal.returns-in-Some-clause-keeps
returns-in-Some-clause-keeps c =
    let told = rib_to_tell (rib_of c.args.rib.now) (out_side_of_view c.args.view.now) c.args.prefix in
    let is = code_is told c.args.attrs.now c.args.rib.now.config.home_as c.home_as.result
    c.args.view.now.local_address c.in_ok-code.code c.home_as.ensures c.requires.passes c.in_ok-code.ensures in
    let some = c.room_for.ensures.some c.in-Some.number c.in-Some.is in
    keeps_joins c.args.self.now told c.in_ok-code.code c.requires.keeps is c.join.new.self
    c.args.prefix c.prefix_len-len.result c.prefix_len-len.ensures.octets c.in-Some.number some.0
    c.join.result c.join.ensures.batches c.join.ensures.wide c.join.ensures.octets c.join.ensures.indices

pub returns-in-Some-clause-adds : goal.returns-in-Some-clause-adds
returns-in-Some-clause-adds c =
    let told = rib_to_tell (rib_of c.args.rib.now) (out_side_of_view c.args.view.now) c.args.prefix in
    let is = code_is told c.args.attrs.now c.args.rib.now.config.home_as c.home_as.result
    c.args.view.now.local_address c.in_ok-code.code c.home_as.ensures c.requires.passes c.in_ok-code.ensures in
    let some = c.room_for.ensures.some c.in-Some.number c.in-Some.is in
    joins_ok c.args.self.now told c.in_ok-code.code c.requires.keeps is c.join.new.self c.args.prefix
    c.prefix_len-len.result c.prefix_len-len.ensures.octets c.in-Some.number some.0
    c.join.result some.1 c.join.ensures.batches

pub begin-requires : goal.begin-requires
begin-requires c = subst (λ told. octets c.args.self.now.wide told (c.args.prefix ∷ []) ≤ 4096) (sym c.in_ok-told-in-None.ensures)
    (fits_one c.args.self.now.wide c.args.rib.now.config.home_as (out_side_of_view c.args.view.now) c.args.prefix (map.get c.args.rib.now.best c.args.prefix))

pub returns-in_ok-told-in-None-clause-keeps : goal.returns-in_ok-told-in-None-clause-keeps
returns-in_ok-told-in-None-clause-keeps c =
    let told = c.in_ok-told-in-None.told in
    let is = code_is told c.args.attrs.now c.args.rib.now.config.home_as c.home_as.result c.args.view.now.local_address
    c.in_ok-code.code c.home_as.ensures (c.in_ok-told-in-None.ensures ∙ c.requires.passes) c.in_ok-code.ensures in
    keeps_begins c.args.self.now told c.in_ok-code.code c.requires.keeps is c.begin.new.self
    c.args.prefix c.prefix_len-len.result c.prefix_len-len.ensures.octets
    (λ number at. c.room_for.ensures.none number c.in-None.is at) c.begin.result
    c.begin.ensures.batches c.begin.ensures.wide c.begin.ensures.octets c.begin.ensures.indices

pub returns-in_ok-told-in-None-clause-adds : goal.returns-in_ok-told-in-None-clause-adds
returns-in_ok-told-in-None-clause-adds c =
    let told = c.in_ok-told-in-None.told in
    let is = code_is told c.args.attrs.now c.args.rib.now.config.home_as c.home_as.result c.args.view.now.local_address
    c.in_ok-code.code c.home_as.ensures (c.in_ok-told-in-None.ensures ∙ c.requires.passes) c.in_ok-code.ensures in
    subst (λ t. OnOk c.begin.result (AddsToUpdates c.args.self.now.wide t c.args.prefix c.args.self.now.batches.items c.begin.new.self.batches.items))
    c.in_ok-told-in-None.ensures
    (begins_ok c.args.self.now told c.in_ok-code.code c.requires.keeps is c.begin.new.self c.args.prefix c.prefix_len-len.result c.prefix_len-len.ensures.octets
    (λ number at. c.room_for.ensures.none number c.in-None.is at) c.begin.result c.begin.ensures.batches)
