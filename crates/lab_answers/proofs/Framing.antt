-- Messages one after another.
use Rattle.std.proofs.Common.{◌≡◌, Bool, true, false, List, ℕ, [], ◌++◌, Option, Some, None, Result, Ok}
use Rattle.std.proofs.Common.{Err, length, drop, take, sym, ap, ◌∙◌, subst, refl, append-nil}
use Rattle.std.specs.List.{cons_option, filter_map, flat_map}
use Rattle.std.proofs.lemmas.List.Concat.{flat_map-append}
use Rattle.bgp_types.specs.declared.fault.Expected.{Expected}
use Rattle.bgp_types.specs.declared.message.Message.{Message}
use Rattle.bgp_types.specs.declared.message.Notice.{Notice}
use Rattle.bgp_types.specs.declared.message.Update.{Update}
use Rattle.bgp_types.specs.Faults.{fault_in}
use Rattle.bgp_types.specs.Header.{frame_at, header_fault, len_in}
use Rattle.bgp_types.specs.declared.fault.HeaderFault.{HeaderFault}
use Rattle.attr_codec.specs.declared.fault.CodecFault.{CodecFault}
use Rattle.attr_codec.specs.declared.fault.CodecFault.TheVariants as stops
use Rattle.attr_codec.specs.Decoding.{Stops}
use Rattle.std.specs.Prelude.{is_some, nat_lt, ◌||◌, if◌then◌else◌}
use Rattle.bgp_types.specs.Many.{many}
use Rattle.bgp_types.proofs.FrameLaws.{frame_shortens}
use Rattle.bgp_types.proofs.ManyLaws.{many_none, many_some}
use Rattle.bgp_story.specs.Readings.{update_in}
use Rattle.even_inputs.specs.Announced.{announced_by}
use Rattle.even_inputs.specs.Evenness.{Med}
use Rattle.lab_answers.specs.declared.imports.Imports.{Imports}
use Rattle.lab_answers.specs.declared.meds.Meds.{Meds}
use Rattle.lab_answers.specs.Imports.{meds_of, meds_of_updates, update_in_frame}
use Rattle.lab_answers.specs.Noted.{NotesMeds}
use Rattle.lab_answers.proofs.Adding.{adds_none, adds_both, adds_same}

-- a message with a fault is no UPDATE
pub faulty_is_none : (n : Notice) (stop : CodecFault) (read : Result Message Notice) → stop ≡ stops.Wire n → Stops stop (fault_in read) → None ≡ update_in read
faulty_is_none n stop read is fault = by_read read (subst (λ (s : CodecFault). Stops s (fault_in read)) is fault) where
  by_read : (r : Result Message Notice) → fault_in r ≡ Some n → None ≡ update_in r
  by_read (Ok m) e = (let f : ◌≡◌ {A = Option Notice} None (Some n) = e in absurd cc)
  by_read (Err m) e = refl

-- no whole message begins with a faulty header
pub not_framed : (bytes : List ℕ) (fault : HeaderFault) → header_fault bytes ≡ Some fault → None ≡ frame_at bytes
unfolding frame_at
not_framed bytes fault e = sym (ap (λ (o : Option HeaderFault). if nat_lt (length bytes) 19 || is_some o then None
    else if nat_lt (length bytes) (len_in bytes) then None
    else Some (take (len_in bytes) bytes, drop (len_in bytes) bytes)) e
    ∙ ap (λ (b : Bool). if b then None
    else if nat_lt (length bytes) (len_in bytes) then None
    else Some (take (len_in bytes) bytes, drop (len_in bytes) bytes)) (or_true (nat_lt (length bytes) 19)))
  where
    or_true : (b : Bool) → (b || true) ≡ true
    or_true true = refl
    or_true false = refl

-- the routes of one UPDATE
pub one_update : (imports : Imports) (u : Update) → flat_map (meds_of imports) (announced_by u) ≡ meds_of_updates imports (cons_option (Some u) [])
one_update imports u = ap (flat_map (meds_of imports)) (sym (append-nil (announced_by u)))

module _ (imports : Imports) (expected : Expected) where
  abbrev pub noted_in : List ℕ → List Med
  noted_in bytes = meds_of_updates imports (filter_map (update_in_frame expected) (many frame_at bytes).0)

  cons_is : {A : Type 0} (o : Option A) (rest : List A) → cons_option o rest ≡ cons_option o [] ++ rest
  cons_is None rest = refl
  cons_is (Some x) rest = refl

  front_then : (frame rest : List ℕ) (bytes : List ℕ) → frame_at bytes ≡ Some (frame, rest)
      → meds_of_updates imports (cons_option (update_in_frame expected frame) []) ++ noted_in rest ≡ noted_in bytes
  front_then frame rest bytes e =
      let here : List Update = cons_option (update_in_frame expected frame) [] in
      let after : List Update = filter_map (update_in_frame expected) (many frame_at rest).0 in
      sym (ap (λ (x : List (List ℕ) × List ℕ). meds_of_updates imports (filter_map (update_in_frame expected) x.0))
      (many_some frame_at frame_shortens bytes (frame, rest) e)
      ∙ ap (meds_of_updates imports) (cons_is (update_in_frame expected frame) after)
      ∙ ap (flat_map (meds_of imports)) (flat_map-append announced_by here after)
      ∙ flat_map-append (meds_of imports) (flat_map announced_by here) (flat_map announced_by after))

  -- a frame is noted: with the bytes behind it, all are
  pub one_frame : (frame rest bytes said : List ℕ) (first old middle : Meds) → frame_at bytes ≡ Some (frame, rest)
      → ((new : Meds) → NotesMeds (noted_in bytes) old new → NotesMeds (noted_in said) first new)
      → NotesMeds (meds_of_updates imports (cons_option (update_in_frame expected frame) [])) old middle
      → (new : Meds) → NotesMeds (noted_in rest) middle new → NotesMeds (noted_in said) first new
  one_frame frame rest bytes said first old middle e before this new after =
      before new (adds_same (meds_of_updates imports (cons_option (update_in_frame expected frame) []) ++ noted_in rest)
      (noted_in bytes) old new (front_then frame rest bytes e)
      (adds_both (meds_of_updates imports (cons_option (update_in_frame expected frame) [])) (noted_in rest) old middle new this after))

  -- at the end no frame is left
  pub last_frame : (bytes said : List ℕ) (first old : Meds) → frame_at bytes ≡ None
      → ((new : Meds) → NotesMeds (noted_in bytes) old new → NotesMeds (noted_in said) first new) → NotesMeds (noted_in said) first old
  last_frame bytes said first old e before =
      before old (adds_same [] (noted_in bytes) old old
      (sym (ap (λ (x : List (List ℕ) × List ℕ). meds_of_updates imports (filter_map (update_in_frame expected) x.0)) (many_none frame_at bytes e)))
      (adds_none old))
