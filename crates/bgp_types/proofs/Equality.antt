-- Values of BGP are equal by `==` exactly where they are the same.
use Rattle.std.proofs.Common.{◌≡◌, [], ◌∷◌, Bool, true, false, Some, None, refl, ap, subst, arith, nat_eq}
use Rattle.std.specs.Prelude.{◌&&◌, ◌↔◌, IsTrue}
use Rattle.std.specs.Bool.{beq}
use Rattle.std.proofs.lemmas.Bool.{eqb-true}
use Rattle.std.specs.Option.{option_eq}
use Rattle.std.specs.Cmp.Lexicographic.{pointwise}
use Rattle.bgp_types.specs.declared.attrs.Attrs.{Attrs}
use Rattle.bgp_types.specs.declared.attrs.Origin.TheVariants.{Igp, Egp, Incomplete}
use Rattle.bgp_types.specs.declared.attrs.Route.{Route}
use Rattle.bgp_types.specs.declared.message.Message.{Message}
use Rattle.bgp_types.specs.declared.message.Message.TheVariants as messages
use Rattle.bgp_types.specs.declared.path.PathPart.TheVariants.{Set, Sequence}
use Rattle.bgp_types.specs.contracts.attrs.AggregatorPartialEq.TheImpl as aggregator_eq
use Rattle.bgp_types.specs.contracts.attrs.AttrsPartialEq.TheImpl as attrs_eq
use Rattle.bgp_types.specs.contracts.attrs.Origin as origin
use Rattle.bgp_types.specs.contracts.attrs.RawAttrPartialEq.TheImpl as raw_eq
use Rattle.bgp_types.specs.contracts.attrs.RoutePartialEq.TheImpl as route_eq
use Rattle.bgp_types.specs.contracts.message.CapPartialEq.TheImpl as cap_eq
use Rattle.bgp_types.specs.contracts.message.MessagePartialEq.TheImpl as message_eq
use Rattle.bgp_types.specs.contracts.message.NoticePartialEq.TheImpl as notice_eq
use Rattle.bgp_types.specs.contracts.message.OpenMsgPartialEq.TheImpl as open_eq
use Rattle.bgp_types.specs.contracts.message.UpdatePartialEq.TheImpl as update_eq
use Rattle.bgp_types.specs.contracts.path.PathPartPartialEq.TheImpl as part_eq
use Rattle.bgp_types.specs.contracts.prefix.PrefixPartialEq.TheImpl as prefix_eq
use Rattle.bgp_types.specs.contracts.attrs.AttrsEq.TheImpl.Laws as attrs_laws
use Rattle.bgp_types.specs.contracts.attrs.RouteEq.TheImpl.Laws as route_laws
use Rattle.bgp_types.specs.contracts.message.MessageEq.TheImpl.Laws as message_laws
use denote.Enum.Bare.{sameb}

-- what passes the test is the same
abbrev Tells : {A : Type 0} → (A → A → Bool) → Type 0
Tells {A} equal = (a b : A) → equal a b ≡ true → a ≡ b

both : (p q : Bool) → (p && q) ≡ true → (p ≡ true) × (q ≡ true)
both true q e = (refl, e)
both false q e = absurd cc

numbers : Tells nat_eq
numbers a b e = eqb-true a b e

booleans : Tells beq
booleans true true e = refl
booleans true false e = absurd cc
booleans false true e = absurd cc
booleans false false e = refl

lists : {A : Type 0} (equal : A → A → Bool) → Tells equal → Tells (pointwise equal)
lists equal tells [] [] e = refl
lists equal tells [] (y ∷ ys) e = absurd cc
lists equal tells (x ∷ xs) [] e = absurd cc
lists equal tells (x ∷ xs) (y ∷ ys) e =
    let h = both (equal x y) (pointwise equal xs ys) e in
    let head = tells x y h.0 in
    let tail = lists equal tells xs ys h.1 in
    cc

options : {A : Type 0} (equal : A → A → Bool) → Tells equal → Tells (option_eq equal)
options equal tells None None e = refl
options equal tells None (Some y) e = absurd cc
options equal tells (Some x) None e = absurd cc
options equal tells (Some x) (Some y) e = ap Some (tells x y e)

origins : Tells (sameb origin.the_type)
origins Igp Igp e = refl
origins Igp Egp e = absurd cc
origins Igp Incomplete e = absurd cc
origins Egp Igp e = absurd cc
origins Egp Egp e = refl
origins Egp Incomplete e = absurd cc
origins Incomplete Igp e = absurd cc
origins Incomplete Egp e = absurd cc
origins Incomplete Incomplete e = refl

parts : Tells part_eq.eq-value.it
parts (Set xs) (Set ys) e = ap Set (lists nat_eq numbers xs ys e)
parts (Sequence xs) (Sequence ys) e = ap Sequence (lists nat_eq numbers xs ys e)
parts (Set xs) (Sequence ys) e = absurd cc
parts (Sequence xs) (Set ys) e = absurd cc

prefixes : Tells prefix_eq.eq-value.it
prefixes a b e =
    let h0 = both (nat_eq a.address b.address) (nat_eq a.len b.len) e in
    let is_address = numbers a.address b.address h0.0 in
    let is_len = numbers a.len b.len h0.1 in
    grind arith

aggregators : Tells aggregator_eq.eq-value.it
aggregators a b e =
    let h0 = both (nat_eq a.as_number b.as_number) (nat_eq a.address b.address && (beq a.partial b.partial)) e in
    let is_as_number = numbers a.as_number b.as_number h0.0 in
    let h1 = both (nat_eq a.address b.address) (beq a.partial b.partial) h0.1 in
    let is_address = numbers a.address b.address h1.0 in
    let is_partial = booleans a.partial b.partial h1.1 in
    grind arith

raws : Tells raw_eq.eq-value.it
raws a b e =
    let h0 = both (nat_eq a.kind b.kind) (beq a.partial b.partial && (pointwise nat_eq a.bytes b.bytes)) e in
    let is_kind = numbers a.kind b.kind h0.0 in
    let h1 = both (beq a.partial b.partial) (pointwise nat_eq a.bytes b.bytes) h0.1 in
    let is_partial = booleans a.partial b.partial h1.0 in
    let is_bytes = lists nat_eq numbers a.bytes b.bytes h1.1 in
    grind arith

attrs_same : Tells attrs_eq.eq-value.it
attrs_same a b e =
    let h0 = both (sameb origin.the_type a.origin b.origin)
    (pointwise part_eq.eq-value.it a.path b.path && (nat_eq a.next_hop b.next_hop && (option_eq nat_eq a.med b.med && (beq a.atomic b.atomic
    && (option_eq aggregator_eq.eq-value.it a.aggregator b.aggregator && (pointwise raw_eq.eq-value.it a.unknown b.unknown)))))) e in
    let is_origin = origins a.origin b.origin h0.0 in
    let h1 = both (pointwise part_eq.eq-value.it a.path b.path) (nat_eq a.next_hop b.next_hop && (option_eq nat_eq a.med b.med && (beq a.atomic b.atomic
    && (option_eq aggregator_eq.eq-value.it a.aggregator b.aggregator && (pointwise raw_eq.eq-value.it a.unknown b.unknown))))) h0.1 in
    let is_path = lists part_eq.eq-value.it parts a.path b.path h1.0 in
    let h2 = both (nat_eq a.next_hop b.next_hop) (option_eq nat_eq a.med b.med && (beq a.atomic b.atomic
    && (option_eq aggregator_eq.eq-value.it a.aggregator b.aggregator && (pointwise raw_eq.eq-value.it a.unknown b.unknown)))) h1.1 in
    let is_next_hop = numbers a.next_hop b.next_hop h2.0 in
    let h3 = both (option_eq nat_eq a.med b.med)
    (beq a.atomic b.atomic && (option_eq aggregator_eq.eq-value.it a.aggregator b.aggregator && (pointwise raw_eq.eq-value.it a.unknown b.unknown))) h2.1 in
    let is_med = options nat_eq numbers a.med b.med h3.0 in
    let h4 = both (beq a.atomic b.atomic)
    (option_eq aggregator_eq.eq-value.it a.aggregator b.aggregator && (pointwise raw_eq.eq-value.it a.unknown b.unknown)) h3.1 in
    let is_atomic = booleans a.atomic b.atomic h4.0 in
    let h5 = both (option_eq aggregator_eq.eq-value.it a.aggregator b.aggregator) (pointwise raw_eq.eq-value.it a.unknown b.unknown) h4.1 in
    let is_aggregator = options aggregator_eq.eq-value.it aggregators a.aggregator b.aggregator h5.0 in
    let is_unknown = lists raw_eq.eq-value.it raws a.unknown b.unknown h5.1 in
    grind arith

route_same : Tells route_eq.eq-value.it
route_same a b e =
    let h0 = both (attrs_eq.eq-value.it a.attrs b.attrs) (nat_eq a.pref b.pref) e in
    let is_attrs = attrs_same a.attrs b.attrs h0.0 in
    let is_pref = numbers a.pref b.pref h0.1 in
    grind arith

caps : Tells cap_eq.eq-value.it
caps a b e =
    let h0 = both (nat_eq a.code b.code) (pointwise nat_eq a.bytes b.bytes) e in
    let is_code = numbers a.code b.code h0.0 in
    let is_bytes = lists nat_eq numbers a.bytes b.bytes h0.1 in
    grind arith

opens : Tells open_eq.eq-value.it
opens a b e =
    let h0 = both (nat_eq a.as_number b.as_number)
    (nat_eq a.hold b.hold && (nat_eq a.identifier b.identifier && (pointwise cap_eq.eq-value.it a.caps b.caps))) e in
    let is_as_number = numbers a.as_number b.as_number h0.0 in
    let h1 = both (nat_eq a.hold b.hold) (nat_eq a.identifier b.identifier && (pointwise cap_eq.eq-value.it a.caps b.caps)) h0.1 in
    let is_hold = numbers a.hold b.hold h1.0 in
    let h2 = both (nat_eq a.identifier b.identifier) (pointwise cap_eq.eq-value.it a.caps b.caps) h1.1 in
    let is_identifier = numbers a.identifier b.identifier h2.0 in
    let is_caps = lists cap_eq.eq-value.it caps a.caps b.caps h2.1 in
    grind arith

updates : Tells update_eq.eq-value.it
updates a b e =
    let h0 = both (pointwise prefix_eq.eq-value.it a.withdrawn b.withdrawn)
    (option_eq attrs_eq.eq-value.it a.attrs b.attrs && (pointwise prefix_eq.eq-value.it a.nlri b.nlri)) e in
    let is_withdrawn = lists prefix_eq.eq-value.it prefixes a.withdrawn b.withdrawn h0.0 in
    let h1 = both (option_eq attrs_eq.eq-value.it a.attrs b.attrs) (pointwise prefix_eq.eq-value.it a.nlri b.nlri) h0.1 in
    let is_attrs = options attrs_eq.eq-value.it attrs_same a.attrs b.attrs h1.0 in
    let is_nlri = lists prefix_eq.eq-value.it prefixes a.nlri b.nlri h1.1 in
    grind arith

notices : Tells notice_eq.eq-value.it
notices a b e =
    let h0 = both (nat_eq a.code b.code) (nat_eq a.subcode b.subcode && (pointwise nat_eq a.info b.info)) e in
    let is_code = numbers a.code b.code h0.0 in
    let h1 = both (nat_eq a.subcode b.subcode) (pointwise nat_eq a.info b.info) h0.1 in
    let is_subcode = numbers a.subcode b.subcode h1.0 in
    let is_info = lists nat_eq numbers a.info b.info h1.1 in
    grind arith

message_same : Tells message_eq.eq-value.it
message_same (messages.OpenMsg a) (messages.OpenMsg b) e = ap messages.OpenMsg (opens a b e)
message_same (messages.UpdateMsg a) (messages.UpdateMsg b) e = ap messages.UpdateMsg (updates a b e)
message_same (messages.NoticeMsg a) (messages.NoticeMsg b) e = ap messages.NoticeMsg (notices a b e)
message_same messages.KeepaliveMsg messages.KeepaliveMsg e = refl
message_same (messages.OpenMsg a) (messages.UpdateMsg b) e = absurd cc
message_same (messages.OpenMsg a) (messages.NoticeMsg b) e = absurd cc
message_same (messages.OpenMsg a) messages.KeepaliveMsg e = absurd cc
message_same (messages.UpdateMsg a) (messages.OpenMsg b) e = absurd cc
message_same (messages.UpdateMsg a) (messages.NoticeMsg b) e = absurd cc
message_same (messages.UpdateMsg a) messages.KeepaliveMsg e = absurd cc
message_same (messages.NoticeMsg a) (messages.OpenMsg b) e = absurd cc
message_same (messages.NoticeMsg a) (messages.UpdateMsg b) e = absurd cc
message_same (messages.NoticeMsg a) messages.KeepaliveMsg e = absurd cc
message_same messages.KeepaliveMsg (messages.OpenMsg b) e = absurd cc
message_same messages.KeepaliveMsg (messages.UpdateMsg b) e = absurd cc
message_same messages.KeepaliveMsg (messages.NoticeMsg b) e = absurd cc

-- ---- what `==` says

pub attrs_equal : (a b : Attrs) → IsTrue (attrs_eq.eq-value.it a b) ↔ (a ≡ b)
attrs_equal a b = (attrs_same a b, λ e. subst (λ (x : Attrs). attrs_eq.eq-value.it a x ≡ true) e (attrs_laws.laws-law.refl a))

pub route_equal : (a b : Route) → IsTrue (route_eq.eq-value.it a b) ↔ (a ≡ b)
route_equal a b = (route_same a b, λ e. subst (λ (x : Route). route_eq.eq-value.it a x ≡ true) e (route_laws.laws-law.refl a))

pub message_equal : (a b : Message) → IsTrue (message_eq.eq-value.it a b) ↔ (a ≡ b)
message_equal a b = (message_same a b, λ e. subst (λ (x : Message). message_eq.eq-value.it a x ≡ true) e (message_laws.laws-law.refl a))
