use Rattle.std.proofs.Common.{[], ◌∷◌, inr, refl, take}
use Rattle.pcap_form.specs.Numbers.{word_at, half_at, link_type}
use Rattle.pcap_form.specs.Worked.{worked_header, worked_record, worked_blocks}
use Rattle.pcap_form.proofs.laws.captures_worked_by_hand.Goals as goal

pub returns-clause-pcap : goal.returns-clause-pcap
unfolding word_at half_at link_type
returns-clause-pcap c = record {
  parts = worked_header ∷ worked_record ∷ [];
  some = λ e. absurd cc;
  are_parts = (record { right = refl; whole = refl }, (record { right = refl; whole = refl }, tt));
  file_is = refl;
  packets_are = refl;
}

pub returns-clause-pcapng : goal.returns-clause-pcapng
unfolding word_at half_at link_type
returns-clause-pcapng c = record {
  parts = worked_blocks;
  some = λ e. absurd cc;
  are_parts = (
    record { right = refl; whole = refl },
    (
      record { right = refl; whole = refl },
      (
        record { right = refl; whole = refl },
        (record { right = refl; whole = refl }, (record { right = refl; whole = refl }, (record { right = refl; whole = refl }, tt))),
      ),
    ),
  );
  file_is = refl;
  packets_are = refl;
}

pub returns-clause-fault : goal.returns-clause-fault
unfolding word_at half_at link_type
returns-clause-fault c = record {
  parts = worked_header ∷ [];
  left = take 17 worked_record;
  offset = 8;
  more = inr (λ e. absurd cc);
  are_parts = (record { right = refl; whole = refl }, tt);
  file_is = refl;
  wrong = refl;
  place_is = refl;
}
