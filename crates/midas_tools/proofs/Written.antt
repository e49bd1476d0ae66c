-- Events as their bytes have them: a run file of any events is one whose headers can describe it.
use Rattle.std.proofs.Common.{◌≡◌, ◌∙◌, ℕ, zero, suc, ◌<◌, ◌^◌, ◌/◌, List, [], ◌∷◌, ◌++◌, length, map, All, refl, ap, sym, arith, get_or}
use Rattle.std.specs.Int.{to_le_bytes, from_le_bytes, byte_at, bytes_low_first, w16, w32}
use Rattle.std.proofs.Math.Nat.{mod-lt}
use Rattle.std.proofs.lemmas.Nat.{le_bytes_2, le_bytes_4}
use Rattle.std.proofs.lemmas.List.Elements.{All-map}
use Rattle.daq_types.specs.declared.events.Event.{Event}
use Rattle.event.specs.Events.{header_bytes, encoding, all_encoded, begin_id, end_id}
use Rattle.event.specs.RunFile.{record_mask, begin_record, end_record, run_file, IsFileEvent, IsRunFile}
use Rattle.mid_format.specs.HasRead.{IsStorable}
use Rattle.mid_format.specs.ReadLaws.{IsWholeFile}

-- Numbers in two and in four bytes

abbrev in_two : ℕ → ℕ
in_two n = from_le_bytes w16 (to_le_bytes w16 n)

abbrev pub in_four : ℕ → ℕ
in_four n = from_le_bytes w32 (to_le_bytes w32 n)

byte_small : (i n : ℕ) → byte_at i n < 256
byte_small zero n = mod-lt n (omega arith)
byte_small (suc i) n = mod-lt (n / 256 ^ suc i) (omega arith)

bytes_small : (i k n j : ℕ) → get_or (bytes_low_first i k n) j 0 < 256
bytes_small i zero n zero = omega arith
bytes_small i zero n (suc j) = omega arith
bytes_small i (suc k) n zero = byte_small i n
bytes_small i (suc k) n (suc j) = bytes_small (suc i) k n j

two_small : (n : ℕ) → in_two n < 2 ^ 16
two_small n = omega (arith, byte_small 0 n, byte_small 1 n)

four_small : (n : ℕ) → in_four n < 2 ^ 32
four_small n = omega (arith, byte_small 0 n, byte_small 1 n, byte_small 2 n, byte_small 3 n)

two_same : (n : ℕ) → to_le_bytes w16 (in_two n) ≡ to_le_bytes w16 n
two_same n = le_bytes_2 (to_le_bytes w16 n) (in_two n) refl (bytes_small 0 2 n) refl

four_same : (n : ℕ) → to_le_bytes w32 (in_four n) ≡ to_le_bytes w32 n
four_same n = le_bytes_4 (to_le_bytes w32 n) (in_four n) refl (bytes_small 0 4 n) refl

-- Events

-- the event as it is read back of its bytes, where its id fits in two
abbrev pub as_written : Event → Event
as_written e = record { id = e.id; mask = in_two e.mask; serial = in_four e.serial; time = in_four e.time; body = e.body }

fields_same : {m m' s s' t t' : List ℕ} (i z : List ℕ) → m ≡ m' → s ≡ s' → t ≡ t' → i ++ (m ++ (s ++ (t ++ z))) ≡ i ++ (m' ++ (s' ++ (t' ++ z)))
fields_same i z p q r = cc

header_same : (id size m m' s s' t t' : ℕ) → to_le_bytes w16 m ≡ to_le_bytes w16 m' → to_le_bytes w32 s ≡ to_le_bytes w32 s' → to_le_bytes w32 t ≡ to_le_bytes w32 t'
    → header_bytes id m s t size ≡ header_bytes id m' s' t' size
unfolding header_bytes
header_same id size m m' s s' t t' p q r = fields_same (to_le_bytes w16 id) (to_le_bytes w32 size) p q r

bytes_same : (e : Event) → encoding (as_written e) ≡ encoding e
bytes_same e = ap (λ (h : List ℕ). h ++ e.body) (header_same e.id (length e.body) (in_two e.mask) e.mask (in_four e.serial) e.serial (in_four e.time) e.time (two_same e.mask) (four_same e.serial) (four_same e.time))

pub all_same : (es : List Event) → all_encoded (map as_written es) ≡ all_encoded es
all_same [] = refl
all_same (e ∷ es) = ap (λ (h : List ℕ). h ++ all_encoded (map as_written es)) (bytes_same e) ∙ ap (λ (h : List ℕ). encoding e ++ h) (all_same es)

-- Run files

begin_same : (run time : ℕ) (dump : List ℕ) → encoding (begin_record run (in_four time) dump) ≡ encoding (begin_record run time dump)
begin_same run time dump = ap (λ (h : List ℕ). h ++ dump) (header_same begin_id (length dump) record_mask record_mask run run (in_four time) time refl refl (four_same time))

end_same : (run time : ℕ) (dump : List ℕ) → encoding (end_record run (in_four time) dump) ≡ encoding (end_record run time dump)
end_same run time dump = ap (λ (h : List ℕ). h ++ dump) (header_same end_id (length dump) record_mask record_mask run run (in_four time) time refl refl (four_same time))

parts_same : {a a' b b' c c' : List ℕ} → a ≡ a' → b ≡ b' → c ≡ c' → (a ++ b) ++ c ≡ (a' ++ b') ++ c'
parts_same p q r = cc

file_same : (run time0 : ℕ) (dump0 : List ℕ) (events : List Event) (time1 : ℕ) (dump1 : List ℕ)
    → run_file run (in_four time0) dump0 (map as_written events) (in_four time1) dump1 ≡ run_file run time0 dump0 events time1 dump1
file_same run time0 dump0 events time1 dump1 = parts_same (begin_same run time0 dump0) (all_same events) (end_same run time1 dump1)

one_storable : (e : Event) → e.id < 2 ^ 16 → IsFileEvent e → IsStorable (as_written e)
one_storable e short fine = record {
  event_id = short;
  trigger_mask = two_small e.mask;
  serial_number = four_small e.serial;
  time_stamp = four_small e.time;
  data_size = omega (arith, fine.small);
}

pub written_whole : (bytes : List ℕ) (run time0 : ℕ) (dump0 : List ℕ) (events : List Event) (time1 : ℕ) (dump1 : List ℕ)
    → IsRunFile bytes run time0 dump0 events time1 dump1 → run < 2 ^ 32 → All (λ e. e.id < 2 ^ 16) events
    → IsWholeFile bytes run (in_four time0) dump0 (map as_written events) (in_four time1) dump1
written_whole bytes run time0 dump0 events time1 dump1 file small short = record {
  file = record {
    is_file = file.is_file ∙ sym (file_same run time0 dump0 events time1 dump1);
    begins_small = file.begins_small;
    ends_small = file.ends_small;
    fine = All-map IsFileEvent as_written events (λ k d inside. let f = file.fine k d inside in record { begins_none = f.begins_none; ends_none = f.ends_none; small = f.small });
    counted = file.counted;
  };
  begin_storable = record { event_id = omega arith; trigger_mask = omega arith; serial_number = small; time_stamp = four_small time0; data_size = omega (arith, file.begins_small) };
  end_storable = record { event_id = omega arith; trigger_mask = omega arith; serial_number = small; time_stamp = four_small time1; data_size = omega (arith, file.ends_small) };
  all_storable = All-map IsStorable as_written events (λ k d inside. one_storable (get_or events k d) (short k d inside) (file.fine k d inside));
}
