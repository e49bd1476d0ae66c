-- A record of a run's file as it is appended: its header, and then its data.
use Rattle.std.specs.Prelude.{◌≡◌, ℕ, length, List, [], ◌++◌, Result, Ok, Err, OnOk, OnErr}
use Rattle.std.proofs.Common.{sym, subst, ◌∙◌}
use Rattle.std.proofs.lemmas.List.{append-nil}
use Rattle.event.specs.Events.{encoding}
use Rattle.daq_io.specs.declared.folder.FileState.TheVariants.{Closed}
use Rattle.daq_io.specs.Seen.{Seen, Creates, Extends, ExtendsPart, Closes, close_state}
use Rattle.daq_io.proofs.SeenLaws.{Creates-Extends, Extends-trans}
use Rattle.event.specs.declared.head.Header.{Header}
use Rattle.event.specs.Headers.{event_of, header_encoding}
use Rattle.event.proofs.Headers.{encoding_parts}
use Rattle.sub_files.specs.RecordFiles.{ClosesPart}
use Rattle.sub_files.proofs.FileParts.{part_of_more, then_part, whole_closed, all_closed}

-- the header and the data are the record
pub record_whole : {T E : Type 0} {a b : Seen} {file : ℕ} (c : Seen) (h : Header) (body : List ℕ) (r : Result T E) → h.data_size ≡ length body → Extends a b file (header_encoding h) → OnOk r (Extends b c file body) → OnOk r (Extends a c file (encoding (event_of h body)))
record_whole {a = a} {file = file} c h body (Ok x) stated p q = subst (λ (bytes : List ℕ). Extends a c file bytes) (sym (encoding_parts h body stated)) (Extends-trans p q)
record_whole c h body (Err why) stated p q = tt

-- a part of the header is one of the record
pub header_cut : {a b : Seen} {file : ℕ} (h : Header) (body : List ℕ) → h.data_size ≡ length body → ExtendsPart a b file (header_encoding h) → ExtendsPart a b file (encoding (event_of h body))
header_cut {a} {b} {file} h body stated p = subst (λ (bytes : List ℕ). ExtendsPart a b file bytes) (sym (encoding_parts h body stated)) (part_of_more (header_encoding h) body p)

-- the header and a part of the data are one too
pub dump_cut : {T E : Type 0} {a b : Seen} {file : ℕ} (c : Seen) (h : Header) (body : List ℕ) (r : Result T E) → h.data_size ≡ length body → Extends a b file (header_encoding h) → OnErr r (ExtendsPart b c file body) → OnErr r (ExtendsPart a c file (encoding (event_of h body)))
dump_cut c h body (Ok x) stated p q = tt
dump_cut {a = a} {file = file} c h body (Err why) stated p q = subst (λ (bytes : List ℕ). ExtendsPart a c file bytes) (sym (encoding_parts h body stated)) (then_part (header_encoding h) body p q)

-- a file that was made and got its first bytes
pub made_with : {a b c : Seen} {name : List ℕ} {file : ℕ} (xs ys : List ℕ) → xs ≡ ys → Creates a b name file [] → Extends b c file xs → Creates a c name file (ys ++ [])
made_with {a} {b} {c} {name} {file} xs ys same p q = subst (λ (bytes : List ℕ). Creates a c name file bytes) (same ∙ sym (append-nil ys)) (Creates-Extends p q)

-- Closing behind the last bytes, whatever it answered.

pub closed_whole : {T E : Type 0} {a b c : Seen} {file : ℕ} (xs ys : List ℕ) (r : Result T E) → xs ≡ ys → Extends a b file xs → Closes b c file (close_state r) [] → OnOk r (Closes a c file Closed ys)
closed_whole {a = a} {c = c} {file = file} xs ys (Ok x) same p q = subst (λ (bytes : List ℕ). Closes a c file Closed bytes) same (whole_closed xs p q)
closed_whole xs ys (Err why) same p q = tt

pub closed_part : {T E : Type 0} {a b c : Seen} {file : ℕ} (xs ys : List ℕ) (r : Result T E) → xs ≡ ys → Extends a b file xs → Closes b c file (close_state r) [] → OnErr r (ClosesPart a c file ys)
closed_part xs ys (Ok x) same p q = tt
closed_part {a = a} {c = c} {file = file} xs ys (Err why) same p q = subst (λ (bytes : List ℕ). ClosesPart a c file bytes) same (all_closed xs (whole_closed xs p q))
