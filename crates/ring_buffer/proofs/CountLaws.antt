-- What a ring counts of its reads.
use Rattle.std.specs.Prelude.{◌≡◌, ℕ, ◌+◌, ◌*◌, ◌%◌, ◌^◌, ◌≤◌, List, [], ◌∷◌}
use Rattle.std.specs.List.{sum}
use Rattle.std.proofs.Common.{ap, sym, subst, ◌∙◌, arith}
use Rattle.std.proofs.lemmas.List.Sums.{sum_by-cons}
use Rattle.ring_buffer.specs.Rings.{CountedBytes, Rises, RisesAtMost, IsRead}
use Rattle.buffer_core.specs.declared.entry.BufferEntry.{BufferEntry}
use Rattle.buffer_core.specs.Window.{Window}
use Rattle.buffer_core.specs.Calls.{window_after}
use Rattle.ring_buffer.specs.CountedWindows.{CountedWindow}
use Rattle.ring_buffer.specs.Reads.{ReadsFronts}
use Rattle.ring_buffer.specs.LifeReads.{fronts_of_call, bodies_of_call, data_of_call, reads_of_call, bytes_of_call, reads_by_call, bytes_by_call, ReadsFew, AreReadsFew}

rises_on : (old now new by more : ℕ) → Rises old now by → Rises now new more → Rises old new (by + more)
rises_on old now new by more first then = omega (arith, first, then)

rises_as : (old new by by' : ℕ) → by ≡ by' → Rises old new by → Rises old new by'
rises_as old new by by' same rises = rises ∙ ap (λ (n : ℕ). (old + n) % 2 ^ 64) same

-- one read, by what it counts
pub read_once : (old new : CountedBytes) (bytes : ℕ) → new.bytes ≡ old.bytes → new.reads ≡ (old.reads + 1) % 2 ^ 64 → new.bytes_read ≡ (old.bytes_read + bytes) % 2 ^ 64 → IsRead old new 1 bytes
read_once old new bytes same reads much =
    record { same = same; often = omega (arith, reads); much = omega (arith, much) }

-- more reads
pub read_on : (old now new : CountedBytes) (reads more bytes most : ℕ) → IsRead old now reads bytes → IsRead now new more most → IsRead old new (reads + more) (bytes + most)
read_on old now new reads more bytes most first then =
    record {
      same = then.same ∙ first.same;
      often = rises_on old.reads now.reads new.reads reads more first.often then.often;
      much = rises_on old.bytes_read now.bytes_read new.bytes_read bytes most first.much then.much;
    }

pub one_more_read : (old now new : CountedBytes) (fronts fronts' : ℕ) → ReadsFronts old now fronts → IsRead now new 1 24 → fronts' ≡ fronts + 1 → ReadsFronts old new fronts'
one_more_read old now new fronts fronts' first then is =
    let both : IsRead old new (fronts + 1) (24 * fronts + 24) = read_on old now new fronts 1 (24 * fronts) 24 first then in
    record {
      same = both.same;
      often = rises_as old.reads new.reads (fronts + 1) fronts' (sym is) both.often;
      much = rises_as old.bytes_read new.bytes_read (24 * fronts + 24) (24 * fronts') (omega (arith, is)) both.much;
    }

-- the reads of a call are those of its ring
pub reads_few : (old new : CountedWindow) (before after : CountedBytes) (entry : BufferEntry) (fronts : ℕ) → IsRead before after (fronts + bodies_of_call entry) (24 * fronts + data_of_call old.window entry) → before.reads ≡ old.reads → before.bytes_read ≡ old.bytes_read
    → after.reads ≡ new.reads → after.bytes_read ≡ new.bytes_read → fronts ≤ fronts_of_call old.window entry → ReadsFew old new entry
reads_few old new before after entry fronts read from from_bytes to to_bytes few =
    record {
      fronts = fronts;
      few = few;
      often = sym (ap (λ (n : ℕ). n % 2 ^ 64) to) ∙ (read.often ∙ ap (λ (n : ℕ). (n + (fronts + bodies_of_call entry)) % 2 ^ 64) from);
      much = sym (ap (λ (n : ℕ). n % 2 ^ 64) to_bytes) ∙ (read.much ∙ ap (λ (n : ℕ). (n + (24 * fronts + data_of_call old.window entry)) % 2 ^ 64) from_bytes);
    }

-- nothing more is read
pub reads_no_more : (old now new : CountedWindow) (entry : BufferEntry) → ReadsFew old now entry → new.reads ≡ now.reads → new.bytes_read ≡ now.bytes_read → ReadsFew old new entry
reads_no_more old now new entry few reads bytes =
    record {
      fronts = few.fronts;
      few = few.few;
      often = ap (λ (n : ℕ). n % 2 ^ 64) reads ∙ few.often;
      much = ap (λ (n : ℕ). n % 2 ^ 64) bytes ∙ few.much;
    }

-- Many calls.

rises_more : (old now new by most more : ℕ) → Rises old now by → by ≤ most → RisesAtMost now new more → RisesAtMost old new (most + more)
rises_more old now new by most more first few then =
    record { by = by + then.by; few = omega (arith, few, then.few); rises = rises_on old now new by then.by first then.rises }

rises_none : (old new : ℕ) → new ≡ old → RisesAtMost old new 0
rises_none old new same = record { by = 0; few = omega arith; rises = omega (arith, same) }

-- the first of some numbers goes into their sum
rises_sum : (old new n : ℕ) (ns : List ℕ) → RisesAtMost old new (n + sum ns) → RisesAtMost old new (sum (n ∷ ns))
rises_sum old new n ns rises = subst (RisesAtMost old new) (sym (sum_by-cons (λ (k : ℕ). k) n ns)) rises

pub calls_read : (old new : CountedWindow) (es : List (ℕ × BufferEntry)) → AreReadsFew old new es → RisesAtMost old.reads new.reads (sum (reads_by_call old.window es))
calls_read old new [] same = rises_none old.reads new.reads (ap (λ (v : CountedWindow). v.reads) same)
calls_read old new (e ∷ es) c =
    let now : CountedWindow = c.0 in
    let few : ReadsFew old now e.1 = c.1 in
    let rest : RisesAtMost now.reads new.reads (sum (reads_by_call (window_after old.window e.1) es)) =
    subst (λ (w : Window). RisesAtMost now.reads new.reads (sum (reads_by_call w es))) c.2 (calls_read now new es c.3) in
    rises_sum old.reads new.reads (reads_of_call old.window e.1) (reads_by_call (window_after old.window e.1) es)
    (rises_more old.reads now.reads new.reads (few.fronts + bodies_of_call e.1) (reads_of_call old.window e.1) (sum (reads_by_call (window_after old.window e.1) es)) few.often (omega (arith, few.few)) rest)

pub calls_read_bytes : (old new : CountedWindow) (es : List (ℕ × BufferEntry)) → AreReadsFew old new es → RisesAtMost old.bytes_read new.bytes_read (sum (bytes_by_call old.window es))
calls_read_bytes old new [] same = rises_none old.bytes_read new.bytes_read (ap (λ (v : CountedWindow). v.bytes_read) same)
calls_read_bytes old new (e ∷ es) c =
    let now : CountedWindow = c.0 in
    let few : ReadsFew old now e.1 = c.1 in
    let rest : RisesAtMost now.bytes_read new.bytes_read (sum (bytes_by_call (window_after old.window e.1) es)) =
    subst (λ (w : Window). RisesAtMost now.bytes_read new.bytes_read (sum (bytes_by_call w es))) c.2 (calls_read_bytes now new es c.3) in
    rises_sum old.bytes_read new.bytes_read (bytes_of_call old.window e.1) (bytes_by_call (window_after old.window e.1) es)
    (rises_more old.bytes_read now.bytes_read new.bytes_read (24 * few.fronts + data_of_call old.window e.1) (bytes_of_call old.window e.1) (sum (bytes_by_call (window_after old.window e.1) es)) few.much (omega (arith, few.few)) rest)
