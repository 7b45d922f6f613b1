-- The fields of a capsule are a way through one tree.
use Rattle.std.proofs.Common.{◌≡◌, ℕ, zero, suc, ◌/◌, ◌%◌, ◌^◌, Bool, true, false, List, [], ◌∷◌, ◌++◌, length, take, refl, sym, subst, append_assoc}
use Rattle.std.proofs.Common.{inr}
use Rattle.std.specs.Prelude.{◌==◌, if◌then◌else◌, nat_lt, ◌&&◌, Option, None, Some}
use Rattle.std.specs.Int.{Width, byte_len, w8, w16, w32, to_be_bytes, from_be_bytes, is_in_range}
use Rattle.std.specs.Str.{bytes_eq}
use Rattle.std.specs.Bool.{Decides}
use Rattle.std.proofs.lemmas.List.{append-nil}
use Rattle.std.proofs.lemmas.Slice.Eq.{bytes_eq-Decides}
use Rattle.bgp_types.specs.Prefixes.{PrefixValue}
use Rattle.tcp_seq.specs.declared.segment.Way.TheVariants.{Remote}
use Rattle.tcp_seq.specs.declared.state.Piece.{Piece}
use Rattle.tcp_seq.specs.declared.state.EndState.{EndState}
use Rattle.graft_edge.specs.declared.ids.PeeringId.{PeeringId}
use Rattle.capsule_bytes.specs.declared.parts.CapsuleParts.{CapsuleParts}
use Rattle.capsule_bytes.specs.declared.parts.PartLine.{PartLine}
use Rattle.capsule_bytes.specs.declared.parts.PartLine.TheVariants.{Put, Got, Tick}
use Rattle.capsule_bytes.specs.declared.parts.PartChange.{PartChange}
use Rattle.capsule_bytes.specs.declared.parts.Side.{Side}
use Rattle.capsule_bytes.specs.declared.parts.Side.TheVariants.{Heard, Told}
use Rattle.capsule_bytes.specs.Fields.{Field, AreRight, number, any_number, flag, octets_where, text, members, counted}
use Rattle.capsule_bytes.specs.Capsules.{magic, offer, config_fields, is_name, name_fields, is_ahead_of, piece_fields, end_fields, line_fields}
use Rattle.capsule_bytes.specs.Capsules.{side_number, is_above, is_prefix, attrs_fields, change_fields, fields}
use Rattle.capsule_bytes.proofs.Numbers.{ReadsBack, back_8, back_16, back_32}
use Rattle.capsule_bytes.proofs.Checked.{fits_below}
use Rattle.capsule_bytes.proofs.Readings.{AreRight-append}
use Rattle.capsule_bytes.specs.Stops.{HasOtherMagic}
use Rattle.capsule_bytes.proofs.Trees.{Tree, End, Node, Walks, Walks-dead, verdict, WrongAt, verdict-wrong}

-- A form of fields, and how values of this form stand in a tree: whatever is behind them, the fields walk through to it.
abbrev Steps : {A R : Type 0} → ((A → Tree R) → Tree R) → (A → List Field) → Type 0
Steps {A} {R} tree form = (a : A) (behind : A → Tree R) (to : R) (fs : List Field) → (AreRight (form a) → Walks (behind a) to fs)
    → Walks (tree behind) to (form a ++ fs)

-- ---- numbers and texts

num : {R : Type 0} → Width → (ℕ → Bool) → (ℕ → Tree R) → Tree R
num w allowed behind = Node (byte_len w) (λ octets. allowed (from_be_bytes w octets)) (λ octets. behind (from_be_bytes w octets))

abbrev any : ℕ → Bool
any n = true

-- a number of a width, from which a value is known
walks_number : {R : Type 0} (w : Width) → ReadsBack w → ((n : ℕ) → length (to_be_bytes w n) ≡ byte_len w) → (allowed : ℕ → Bool) (n : ℕ)
    (behind : ℕ → Tree R) (to : R) (fs : List Field) → (AreRight (number w allowed n ∷ []) → Walks (behind n) to fs)
    → Walks (num w allowed behind) to (number w allowed n ∷ fs)
unfolding num
walks_number w back long allowed n behind to fs next =
    inr (long n, refl, λ right. subst (λ m. Walks (behind m) to fs) (sym (back n (fits_below n (256 ^ byte_len w) right.0))) (next (right, tt)))

walks_8 : {R : Type 0} (allowed : ℕ → Bool) (n : ℕ) (behind : ℕ → Tree R) (to : R) (fs : List Field)
    → (AreRight (number w8 allowed n ∷ []) → Walks (behind n) to fs) → Walks (num w8 allowed behind) to (number w8 allowed n ∷ fs)
walks_8 = walks_number w8 back_8 (λ n. refl)

walks_16 : {R : Type 0} (allowed : ℕ → Bool) (n : ℕ) (behind : ℕ → Tree R) (to : R) (fs : List Field)
    → (AreRight (number w16 allowed n ∷ []) → Walks (behind n) to fs) → Walks (num w16 allowed behind) to (number w16 allowed n ∷ fs)
walks_16 = walks_number w16 back_16 (λ n. refl)

walks_32 : {R : Type 0} (allowed : ℕ → Bool) (n : ℕ) (behind : ℕ → Tree R) (to : R) (fs : List Field)
    → (AreRight (number w32 allowed n ∷ []) → Walks (behind n) to fs) → Walks (num w32 allowed behind) to (number w32 allowed n ∷ fs)
walks_32 = walks_number w32 back_32 (λ n. refl)

octs : {R : Type 0} → ℕ → (List ℕ → Bool) → (List ℕ → Tree R) → Tree R
octs size allowed behind = Node size allowed behind

walks_octets : {R : Type 0} (allowed : List ℕ → Bool) (octets : List ℕ) (behind : List ℕ → Tree R) (to : R) (fs : List Field)
    → (AreRight (octets_where allowed octets ∷ []) → Walks (behind octets) to fs)
    → Walks (octs (length octets) allowed behind) to (octets_where allowed octets ∷ fs)
unfolding octs
walks_octets allowed octets behind to fs next = inr (refl, refl, λ right. next (right, tt))

text_32 : {R : Type 0} → (List ℕ → Tree R) → Tree R
text_32 behind = num w32 any (λ n. octs n (λ _. true) behind)

walks_text_32 : {R : Type 0} → Steps {R = R} text_32 (text w32)
unfolding text_32
walks_text_32 octets behind to fs next =
    walks_32 any (length octets) (λ n. octs n (λ _. true) behind) to (octets_where (λ _. true) octets ∷ fs)
    (λ size. walks_octets (λ _. true) octets behind to fs (λ it. next (size.0, it)))

text_16 : {R : Type 0} → (List ℕ → Tree R) → Tree R
text_16 behind = num w16 any (λ n. octs n (λ _. true) behind)

walks_text_16 : {R : Type 0} → Steps {R = R} text_16 (text w16)
unfolding text_16
walks_text_16 octets behind to fs next =
    walks_16 any (length octets) (λ n. octs n (λ _. true) behind) to (octets_where (λ _. true) octets ∷ fs)
    (λ size. walks_octets (λ _. true) octets behind to fs (λ it. next (size.0, it)))

flag_tree : {R : Type 0} → (Bool → Tree R) → Tree R
flag_tree behind = num w8 (is_in_range 0 1) (λ n. behind (n == 1))

walks_flag : {R : Type 0} → Steps {R = R} flag_tree (λ b. flag b ∷ [])
unfolding flag_tree
walks_flag true behind to fs next = walks_8 (is_in_range 0 1) 1 (λ n. behind (n == 1)) to fs next
walks_flag false behind to fs next = walks_8 (is_in_range 0 1) 0 (λ n. behind (n == 1)) to fs next

-- ---- lists

many : {A R : Type 0} → (Option A → (A → Tree R) → Tree R) → ℕ → Option A → (List A → Tree R) → Tree R
many one zero before behind = behind []
many one (suc n) before behind = one before (λ x. many one n (Some x) (λ xs. behind (x ∷ xs)))

walks_many : {A R : Type 0} (one : Option A → (A → Tree R) → Tree R) (form : Option A → A → List Field) → ((before : Option A) → Steps (one before)
    (form before))
    → (before : Option A) → (xs : List A) (behind : List A → Tree R) (to : R) (fs : List Field) → (AreRight (members form before xs) → Walks
    (behind xs) to fs)
    → Walks (many one (length xs) before behind) to (members form before xs ++ fs)
unfolding many
walks_many one form steps before [] behind to fs next = next tt
walks_many {A} {R} one form steps before (x ∷ xs) behind to fs next =
    subst (λ (gs : List Field). Walks (one before (λ y. many one (length xs) (Some y) (λ ys. behind (y ∷ ys)))) to gs)
    (sym (append_assoc (form before x) (members form (Some x) xs) fs))
    (steps before x (λ y. many one (length xs) (Some y) (λ ys. behind (y ∷ ys))) to (members form (Some x) xs ++ fs) (λ here.
    walks_many one form steps (Some x) xs (λ ys. behind (x ∷ ys)) to fs (λ there. next (AreRight-append (form before x) (members form
    (Some x) xs) here there))))

counted_tree : {A R : Type 0} → (Option A → (A → Tree R) → Tree R) → (List A → Tree R) → Tree R
counted_tree one behind = num w32 any (λ n. many one n None behind)

walks_counted : {A R : Type 0} (one : Option A → (A → Tree R) → Tree R) (form : Option A → A → List Field) → ((before : Option A) → Steps (one before)
    (form before))
    → Steps (counted_tree one) (counted form)
unfolding counted_tree
walks_counted one form steps xs behind to fs next =
    walks_32 any (length xs) (λ n. many one n None behind) to (members form None xs ++ fs)
    (λ count. walks_many one form steps None xs behind to fs (λ these. next (count.0, these)))

walks_counted_then : {A R : Type 0} (one : Option A → (A → Tree R) → Tree R) (form : Option A → A → List Field)
    → ((before : Option A) → Steps (one before) (form before)) → (xs : List A) (tail : List Field) (behind : List A → Tree R) (to : R) (fs : List Field)
    → (AreRight (counted form xs) → Walks (behind xs) to (tail ++ fs)) → Walks (counted_tree one behind) to ((counted form xs ++ tail) ++ fs)
walks_counted_then one form steps xs tail behind to fs next =
    subst (λ (gs : List Field). Walks (counted_tree one behind) to gs) (sym (append_assoc (counted form xs) tail fs))
    (walks_counted one form steps xs behind to (tail ++ fs) next)

walks_counted_last : {A R : Type 0} (one : Option A → (A → Tree R) → Tree R) (form : Option A → A → List Field)
    → ((before : Option A) → Steps (one before) (form before)) → (xs : List A) (behind : List A → Tree R) (to : R)
    → (AreRight (counted form xs) → Walks (behind xs) to []) → Walks (counted_tree one behind) to (counted form xs)
walks_counted_last one form steps xs behind to next =
    subst (λ (gs : List Field). Walks (counted_tree one behind) to gs) (append-nil (counted form xs))
    (walks_counted one form steps xs behind to [] next)

-- ---- the parts of a capsule

config_tree : {R : Type 0} → ((peering remote_as home_as identifier remote_address local_address hold : ℕ) (offered unicast : Bool) → Tree R) → Tree R
config_tree behind =
    num w8 any (λ p. num w32 any (λ r. num w32 any (λ h. num w32 any (λ i. num w32 any (λ ra. num w32 any (λ la. num w16 any (λ hold.
    num w8 (is_in_range 0 3) (λ o. behind p r h i ra la hold (o % 2 == 1) (o / 2 == 1)))))))))

walks_config : {R : Type 0} (p r h i ra la hold : ℕ) (offered unicast : Bool)
    (behind : (peering remote_as home_as identifier remote_address local_address hold : ℕ) (offered unicast : Bool) → Tree R) (to : R) (fs : List Field)
    → Walks (behind p r h i ra la hold offered unicast) to fs
    → Walks (config_tree behind) to (config_fields p r h i ra la hold offered unicast ++ fs)
unfolding config_tree
walks_config p r h i ra la hold offered unicast behind to fs next =
    walks_8 any p _ to _ (λ _. walks_32 any r _ to _ (λ _. walks_32 any h _ to _ (λ _. walks_32 any i _ to _ (λ _. walks_32 any ra _ to _ (λ _.
    walks_32 any la _ to _ (λ _. walks_16 any hold _ to _ (λ _.
    walks_8 (is_in_range 0 3) (offer offered unicast) (λ o. behind p r h i ra la hold (o % 2 == 1) (o / 2 == 1)) to fs (λ _. by offered unicast next))))))))
  where
    by : (a b : Bool) → Walks (behind p r h i ra la hold a b) to fs
        → Walks (behind p r h i ra la hold (offer a b % 2 == 1) (offer a b / 2 == 1)) to fs
    by true true w = w
    by true false w = w
    by false true w = w
    by false false w = w

name_behind : {R : Type 0} → (Option (List ℕ) → Tree R) → ℕ → Tree R
name_behind behind zero = behind None
name_behind behind (suc n) = octs (suc n) is_name (λ octets. behind (Some octets))

name_tree : {R : Type 0} → (Option (List ℕ) → Tree R) → Tree R
name_tree behind = num w8 (is_in_range 0 16) (name_behind behind)

walks_name : {R : Type 0} → Steps {R = R} name_tree name_fields
unfolding name_tree name_behind
walks_name None behind to fs next = walks_8 (is_in_range 0 16) 0 (name_behind behind) to fs next
walks_name (Some []) behind to fs next =
    walks_8 (is_in_range 0 16) 0 (name_behind behind) to (octets_where is_name [] ∷ fs)
    (λ size. Walks-dead (behind None) to (octets_where is_name []) fs (refl, refl))
walks_name (Some (x ∷ xs)) behind to fs next =
    walks_8 (is_in_range 0 16) (length (x ∷ xs)) (name_behind behind) to (octets_where is_name (x ∷ xs) ∷ fs)
    (λ size. walks_octets is_name (x ∷ xs) (λ octets. behind (Some octets)) to fs (λ it. next (size.0, it)))

piece_tree : {R : Type 0} → Option Piece → (Piece → Tree R) → Tree R
piece_tree before behind =
    num w32 (is_ahead_of before) (λ place. num w32 (nat_lt 0) (λ n. octs n (λ _. true) (λ octets. behind (record { offset = place; bytes = octets }))))

walks_piece : {R : Type 0} (before : Option Piece) → Steps {R = R} (piece_tree before) (piece_fields before)
unfolding piece_tree
walks_piece before piece behind to fs next =
    walks_32 (is_ahead_of before) piece.offset _ to _ (λ place. walks_32 (nat_lt 0) (length piece.bytes) _ to _ (λ size.
    walks_octets (λ _. true) piece.bytes (λ octets. behind (record { offset = piece.offset; bytes = octets })) to fs (λ it. next (place.0, (size.0, it)))))

end_tree : {R : Type 0} → PeeringId → (EndState → Tree R) → Tree R
end_tree peering behind =
    num w32 any (λ s. num w32 any (λ a. num w32 any (λ t. text_32 (λ waiting. num w32 any (λ r. num w32 any (λ taken. text_32 (λ ready.
    counted_tree piece_tree (λ ahead. num w32 any (λ turn. flag_tree (λ owed. behind (record {
      way = Remote;
      peering = peering;
      send_first = record { 0 = s };
      acked = a;
      sent = t;
      waiting = waiting;
      receive_first = record { 0 = r };
      taken = taken;
      ready = ready;
      ahead = ahead;
      acked_at_turn = turn;
      owed = owed;
    })))))))))))

-- the endpoint of this peering, on the way to the remote
abbrev pub end_at : PeeringId → EndState → EndState
end_at peering end = record end { way = Remote; peering = peering }

walks_end : {R : Type 0} (peering : PeeringId) (end : EndState) (behind : EndState → Tree R) (to : R) (fs : List Field)
    → Walks (behind (end_at peering end)) to fs → Walks (end_tree peering behind) to (end_fields end ++ fs)
unfolding end_tree
walks_end peering end behind to fs next =
    walks_32 any end.send_first.0 _ to _ (λ _. walks_32 any end.acked _ to _ (λ _. walks_32 any end.sent _ to _ (λ _.
    walks_text_32 end.waiting _ to _ (λ _. walks_32 any end.receive_first.0 _ to _ (λ _. walks_32 any end.taken _ to _ (λ _.
    walks_text_32 end.ready _ to _ (λ _.
    walks_counted_then piece_tree piece_fields walks_piece end.ahead (any_number w32 end.acked_at_turn ∷ flag end.owed ∷ []) _ to fs (λ _.
    walks_32 any end.acked_at_turn _ to _ (λ _. walks_flag end.owed _ to fs (λ _. next))))))))))

line_behind : {R : Type 0} → (PartLine → Tree R) → ℕ → Tree R
line_behind behind kind =
    if kind == 1 then text_16 (λ octets. behind (Put octets))
    else if kind == 2 then text_16 (λ octets. behind (Got octets))
    else num w32 any (λ round. behind (Tick round))

line_tree : {R : Type 0} → Option PartLine → (PartLine → Tree R) → Tree R
line_tree before behind = num w8 (is_in_range 1 3) (line_behind behind)

walks_line : {R : Type 0} (before : Option PartLine) → Steps {R = R} (line_tree before) (line_fields before)
unfolding line_tree line_behind
walks_line before (Put octets) behind to fs next =
    walks_8 (is_in_range 1 3) 1 (line_behind behind) to (text w16 octets ++ fs)
    (λ kind. walks_text_16 octets (λ o. behind (Put o)) to fs (λ it. next (kind.0, it)))
walks_line before (Got octets) behind to fs next =
    walks_8 (is_in_range 1 3) 2 (line_behind behind) to (text w16 octets ++ fs)
    (λ kind. walks_text_16 octets (λ o. behind (Got o)) to fs (λ it. next (kind.0, it)))
walks_line before (Tick round) behind to fs next =
    walks_8 (is_in_range 1 3) 3 (line_behind behind) to (any_number w32 round ∷ fs)
    (λ kind. walks_32 any round (λ n. behind (Tick n)) to fs (λ it. next (kind.0, it)))

attrs_behind : {R : Type 0} → (Option (List ℕ) → Tree R) → Bool → Tree R
attrs_behind behind true = text_16 (λ octets. behind (Some octets))
attrs_behind behind false = behind None

attrs_tree : {R : Type 0} → (Option (List ℕ) → Tree R) → Tree R
attrs_tree behind = flag_tree (attrs_behind behind)

walks_attrs : {R : Type 0} → Steps {R = R} attrs_tree attrs_fields
unfolding attrs_tree attrs_behind
walks_attrs None behind to fs next = walks_flag false (attrs_behind behind) to fs next
walks_attrs (Some octets) behind to fs next =
    walks_flag true (attrs_behind behind) to (text w16 octets ++ fs)
    (λ there. walks_text_16 octets (λ o. behind (Some o)) to fs (λ it. next (there.0, it)))

abbrev side_of : ℕ → Side
side_of n = if n == 1 then Told else Heard

side_tree : {R : Type 0} → (Side → Tree R) → Tree R
side_tree behind = num w8 (is_in_range 0 1) (λ n. behind (side_of n))

walks_side : {R : Type 0} → Steps {R = R} side_tree (λ side. number w8 (is_in_range 0 1) (side_number side) ∷ [])
unfolding side_tree
walks_side Heard behind to fs next = walks_8 (is_in_range 0 1) 0 (λ n. behind (side_of n)) to fs next
walks_side Told behind to fs next = walks_8 (is_in_range 0 1) 1 (λ n. behind (side_of n)) to fs next

abbrev closes : Option PartChange → Side → ℕ → ℕ → Bool
closes before side address len = let p : PrefixValue = record { address = address; len = len } in is_prefix p && is_above before side p

change_tree : {R : Type 0} → Option PartChange → (PartChange → Tree R) → Tree R
change_tree before behind =
    side_tree (λ side. num w32 any (λ address. num w8 (closes before side address) (λ len. attrs_tree (λ attrs.
    behind (record { side = side; prefix = record { address = address; len = len }; attrs = attrs })))))

walks_change : {R : Type 0} (before : Option PartChange) → Steps {R = R} (change_tree before) (change_fields before)
unfolding change_tree
walks_change before change behind to fs next =
    walks_side change.side _ to _ (λ side. walks_32 any change.prefix.address _ to _ (λ address.
    walks_8 (closes before change.side change.prefix.address) change.prefix.len _ to _ (λ len.
    walks_attrs change.attrs (λ attrs. behind (record { side = change.side; prefix = change.prefix; attrs = attrs })) to fs
    (λ it. next (side.0, (address.0, (len.0, it)))))))

-- ---- the whole

-- the parts whose endpoint is that of their peering, on the way to the remote
abbrev pub at_home : CapsuleParts → CapsuleParts
at_home p = record p { end = end_at p.peering p.end }

pub capsule_tree : Tree CapsuleParts
capsule_tree =
    octs 4 (λ octets. bytes_eq octets magic) (λ _. config_tree (λ p r h i ra la hold offered unicast. name_tree (λ import. name_tree (λ export.
    end_tree (record { 0 = p }) (λ end. text_32 (λ held. counted_tree line_tree (λ story. counted_tree change_tree (λ late. End (record {
      peering = record { 0 = p };
      remote_as = r;
      home_as = h;
      identifier = i;
      remote_address = ra;
      local_address = la;
      home_hold = hold;
      offered = offered;
      unicast = unicast;
      import = import;
      export = export;
      end = end;
      held = held;
      story = story;
      late = late;
    })))))))))

pub walks_capsule : (p : CapsuleParts) → Walks capsule_tree (at_home p) (fields p)
unfolding capsule_tree octs
walks_capsule p =
    inr (
      refl,
      refl,
      λ _. walks_config p.peering.0 p.remote_as p.home_as p.identifier p.remote_address p.local_address p.home_hold p.offered p.unicast
          _ (at_home p) _ (walks_name p.import _ _ _ (λ _. walks_name p.export _ _ _ (λ _. walks_end (record { 0 = p.peering.0 }) p.end _ _ _
          (walks_text_32 p.held _ _ _ (λ _. walks_counted line_tree line_fields walks_line p.story _ _ _ (λ _.
          walks_counted_last {R = CapsuleParts} change_tree change_fields walks_change p.late _ (at_home p) (λ _. refl))))))),
    )

when_not : {P : Type 0} (b : Bool) → Decides b P → ¬ P → b ≡ false
when_not true d isnt = absurd (isnt (d.0 refl))
when_not false d isnt = refl

pub other_magic : (bytes : List ℕ) → HasOtherMagic bytes → verdict capsule_tree bytes 0 ≡ WrongAt 0
unfolding capsule_tree octs
other_magic bytes h =
    verdict-wrong 4 (λ octets. bytes_eq octets magic) _ bytes 0 h.there (when_not (bytes_eq (take 4 bytes) magic) (bytes_eq-Decides
    (take 4 bytes) magic) h.other)
