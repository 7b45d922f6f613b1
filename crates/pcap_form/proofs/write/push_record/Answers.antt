use Rattle.std.proofs.Common.{◌≡◌, ℕ, List, ◌++◌, length, ap, ◌∙◌, append_assoc}
use Rattle.std.specs.Int.{w32, to_le_bytes}
use Rattle.pcap_form.proofs.write.push_record.Goals as goal

-- two pieces that are added one after the other
two : (old x y mid new : List ℕ) → mid ≡ old ++ x → new ≡ mid ++ y → new ≡ old ++ (x ++ y)
two old x y mid new e f = f ∙ ap (λ (xs : List ℕ). xs ++ y) e ∙ append_assoc old x y

pub returns : goal.returns
returns c =
    let p = c.args.packet.now in
    let new = c.extend.new.self in
    let len = to_le_bytes w32 (length p.octets) in
    let fourth : new ≡ c.push_word-3.new.octets ++ (len ++ p.octets) =
    two c.push_word-3.new.octets len p.octets c.push_word-4.new.octets new (rw c.len-len.ensures at c.in_ok-push_word-4.ensures)
    (rw c.deref.ensures at c.in_ok-extend.ensures.ok) in
    let third : new ≡ c.push_word-2.new.octets ++ (len ++ (len ++ p.octets)) =
    two c.push_word-2.new.octets len (len ++ p.octets) c.push_word-3.new.octets new (rw c.len-len.ensures at c.in_ok-push_word-3.ensures) fourth in
    let second : new ≡ c.push_word.new.octets ++ (to_le_bytes w32 p.microseconds ++ (len ++ (len ++ p.octets))) =
    two c.push_word.new.octets (to_le_bytes w32 p.microseconds) (len ++ (len ++ p.octets)) c.push_word-2.new.octets new c.in_ok-push_word-2.ensures third in
    two c.args.octets.now (to_le_bytes w32 p.seconds) (to_le_bytes w32 p.microseconds ++ (len ++ (len ++ p.octets))) c.push_word.new.octets new
    c.in_ok-push_word.ensures second
