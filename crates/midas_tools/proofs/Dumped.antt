-- How what `dump` read, printed and closed makes its end.
use Rattle.std.proofs.Common.{◌≡◌, ◌≢◌, ◌∙◌, ℕ, ◌≤◌, List, [], ◌++◌, length, take, Option, Some, None, Bool, true, false, if◌then◌else◌, IfSome, inl, inr, refl, ap, sym, subst, arith, length-append, length-take}
use Rattle.std.specs.Prelude.{IsTrue}
use Rattle.std.proofs.lemmas.List.{append-nil, nil_from_length}
use Rattle.std.specs.Io.KnownBytes.{Appends, Consumes, Keeps}
use lib.Seq.{take-append_seam}
use Rattle.daq_io.specs.Counts.{RoseJustBy}
use Rattle.daq_io.proofs.Counts.{RoseJustBy-none}
use Rattle.daq_io.specs.FileLeft.{ReadsFirst, told_left}
use Rattle.daq_io.specs.Origins.{Origin}
use Rattle.daq_io.specs.Seen.{Seen, Stored}
use Rattle.mid_format.specs.HasRead.{FailsAfter}
use Rattle.mid_format.specs.declared.faults.MidFault.{MidFault}
use Rattle.mid_format.specs.declared.faults.MidFault.TheVariants.{ReadFault}
use Rattle.midas_tools.specs.Dumps.{DumpsTo, IsDump, IsPart, ListsRead, ListsWhole, PrintsDump, PrintsRead, PrintsSome, WritesOn, WritesRead, WritesSome, end_lines}
use Rattle.midas_tools.specs.Findings.{Finds, WritesAll, WritesPart, IsFileOpened, RefusesFile, Printed, SaysWhy, ClosesWell, ClosedAs}
use Rattle.midas_tools.specs.declared.opening.Refused.{Refused}
use Rattle.midas_tools.specs.declared.opening.Refused.TheVariants.{NameCompressed, NameMissing, OpenFailed}
use Rattle.midas_tools.specs.declared.ends.InputFault.TheVariants.{Mid, Compressed, Missing, ScriptTooLong, OtherRun}
use Rattle.midas_tools.specs.declared.ends.ToolEnd.{ToolEnd}
use Rattle.midas_tools.specs.declared.ends.ToolEnd.TheVariants.{Done, Input, FileFault, SinkFault, NoMemory}
use Rattle.midas_tools.proofs.Ending.{file_at, there}

no_part : (old new : Option (List ℕ)) → Keeps old new → Appends old new []
no_part None new k = tt
no_part (Some xs) None k = absurd k
no_part (Some xs) (Some ys) k = k ∙ sym (append-nil xs)

-- nothing lies whole in no bytes
nothing_whole : (bytes : List ℕ) → bytes ≡ [] → ListsWhole bytes []
nothing_whole bytes none = record {
  begin = None;
  last = None;
  rest = [];
  lists = record { front = []; bytes_are = none; events = []; is_done = (refl, refl); lines = []; lines_are = refl; text_is = refl };
  lacks = λ long. absurd (let l : 16 ≤ 0 = long in omega (arith, l));
}

-- all that lies whole in what was read
unread_whole : (bytes : List ℕ) (now told_old told_new : Option (List ℕ)) (d : PrintsRead (Some bytes) now told_old told_new)
    → ListsWhole (d.listing.read.done ++ (d.listing.read.unread d.failed).part) (d.text ++ end_lines d.progress.last)
unread_whole bytes now told_old told_new d =
    let u : FailsAfter (Some bytes) now d.listing.read.done d.progress.last = d.listing.read.unread d.failed in
    record {
      begin = d.progress.begin;
      last = d.progress.last;
      rest = u.part;
      lists = record {
        front = d.listing.read.done;
        bytes_are = refl;
        events = d.listing.events;
        is_done = d.listing.read.is_done;
        lines = d.listing.lines;
        lines_are = d.listing.lines_are;
        text_is = ap (λ (t : List ℕ). t ++ end_lines d.progress.last) d.listing.text_is;
      };
      lacks = u.lacks;
    }

-- what a source gave is as long as what the files counted, and stands in front
given_front : (bytes front left given : List ℕ) (told : Bool) → bytes ≡ front ++ left → Consumes (Some bytes) (if told then Some left else None) given → (length given ≡ length front) × (take (length given) bytes ≡ given)
given_front bytes front left given false is c = absurd c
given_front bytes front left given true is c = (
  omega (arith, ap (length {A = ℕ}) is, ap (length {A = ℕ}) c, length-append front left, length-append given left),
  ap (λ (l : List ℕ). take (length given) l) c ∙ take-append_seam given left,
)

-- what a source of told bytes gave
front_if : (bytes : List ℕ) (told : Bool) (now told_old told_new : Option (List ℕ)) → told ≡ true → (d : PrintsRead (if told then Some bytes else None) now told_old told_new)
    → (given : List ℕ) × Consumes (Some bytes) now given × ListsWhole given (d.text ++ end_lines d.progress.last)
front_if bytes true now told_old told_new e d =
    (d.listing.read.done ++ (d.listing.read.unread d.failed).part, (d.listing.read.unread d.failed).consumed, unread_whole bytes now told_old told_new d)
front_if bytes false now told_old told_new e d = let clash : false ≡ true = e in absurd cc

some_or : Origin → Option Origin → Origin
some_or a None = a
some_or a (Some b) = b

same_origin : (a b : Origin) → Some a ≡ Some b → a ≡ b
unfolding some_or
same_origin a b e = ap (some_or a) e

pub origin_of : (a b : Seen) (m n number : ℕ) → a ≡ b → m ≡ n → ◌≡◌ {A = Option Origin} (Some (record { files = a; bytes_read = m; number = number })) (Some (record { files = b; bytes_read = n; number = number }))
origin_of a b m n number p q = λ i. Some (record { files = p i; bytes_read = q i; number = number })

module _ (seen : Seen) (name : List ℕ) (read_old read_new : ℕ) (told_old told_new : Option (List ℕ)) where
  abbrev Writes : ToolEnd → Type 0
  Writes end = WritesOn seen name read_old read_new told_old told_new end

  pub dump_refused : (faults_old faults_new clashes_old clashes_new sink_old sink_new : ℕ) (refused : Refused) (result : ToolEnd) → RefusesFile seen name faults_old faults_new clashes_old clashes_new refused
      → SaysWhy refused told_old told_new sink_old sink_new result → read_new ≡ read_old → WritesOn seen name read_old read_new told_old told_new result
  dump_refused faults_old faults_new clashes_old clashes_new sink_old sink_new NameCompressed result r (inl whole) none =
      subst (λ (e : ToolEnd). Writes e) (sym whole.0) (record { text = _; finds = (r.0, refl); written = whole.1 })
  dump_refused faults_old faults_new clashes_old clashes_new sink_old sink_new NameCompressed result r (inr part) none =
      subst (λ (e : ToolEnd). Writes e) (sym part.0) (inl (record { found = Input Compressed; text = _; finds = (r.0, refl); written = part.1 }))
  dump_refused faults_old faults_new clashes_old clashes_new sink_old sink_new NameMissing result r (inl whole) none =
      subst (λ (e : ToolEnd). Writes e) (sym whole.0) (record { text = _; finds = (r.0, refl, r.1); written = whole.1 })
  dump_refused faults_old faults_new clashes_old clashes_new sink_old sink_new NameMissing result r (inr part) none =
      subst (λ (e : ToolEnd). Writes e) (sym part.0) (inl (record { found = Input Missing; text = _; finds = (r.0, refl, r.1); written = part.1 }))
  dump_refused faults_old faults_new clashes_old clashes_new sink_old sink_new OpenFailed result r s none =
      subst (λ (e : ToolEnd). Writes e) (sym s.0) (
        r.0,
        inl (record {
          text = [];
          lists = λ told.
              let found : (file : Stored) × (seen.at name ≡ Some file) = file_at (seen.at name) (r.2 told) in
              record {
                count = 0;
                counted = RoseJustBy-none read_old read_new none;
                there = record { file = found.0; at_is = found.1; fact = nothing_whole (take 0 found.0.bytes) (nil_from_length (take 0 found.0.bytes) (omega (arith, length-take 0 found.0.bytes))) };
              };
          written = no_part told_old told_new s.1;
        }),
      )

  module _ (opened : Seen) (number : ℕ) (o : IsFileOpened seen opened name number) where
    some_written : PrintsSome (told_left opened number) told_old told_new → WritesSome seen name told_old told_new
    some_written p = record {
      text = p.text;
      lists = λ told. there seen opened name number (λ bytes. IsPart bytes p.text) o p.part told;
      written = p.written;
    }

    -- what was read is so much of the file, and all that lies whole in it was written
    read_lists : (after : Seen) (d : PrintsRead (told_left opened number) (told_left after number) told_old told_new) → ReadsFirst opened after number read_old read_new → IsTrue seen.names
        → ListsRead seen name read_old read_new (d.text ++ end_lines d.progress.last)
    read_lists after d r told =
        let tells : opened.names ≡ true = o.opens.files.names ∙ told in
        let text : List ℕ = d.text ++ end_lines d.progress.last in
        let f = front_if (opened.left number) opened.names (told_left after number) told_old told_new tells d in
        let g = given_front (opened.left number) r.bytes (after.left number) f.0 after.names r.were_left f.1 in
        record {
          count = length f.0;
          counted = subst (λ (n : ℕ). RoseJustBy n read_old read_new) (sym g.0) r.counted;
          there = there seen opened name number (λ bytes. ListsWhole (take (length f.0) bytes) (d.text ++ end_lines d.progress.last)) o
              (subst (λ (t : Bool). IfSome (if t then Some (opened.left number) else None) (λ bytes. ListsWhole (take (length f.0) bytes) (d.text ++ end_lines d.progress.last))) (sym tells)
              (subst (λ (l : List ℕ). ListsWhole l (d.text ++ end_lines d.progress.last)) (sym g.1) f.2)) told;
        }

    read_written : (after : Seen) → PrintsRead (told_left opened number) (told_left after number) told_old told_new → (IsTrue opened.names → ReadsFirst opened after number read_old read_new)
        → WritesRead seen name read_old read_new told_old told_new
    read_written after d front = record { text = d.text ++ end_lines d.progress.last; lists = λ told. read_lists after d (front (o.opens.files.names ∙ told)) told; written = d.written }

    finds_of : (fault : Option MidFault) (text : List ℕ) → fault ≢ Some ReadFault → IfSome (told_left opened number) (λ bytes. IsDump bytes fault text) → (found : ToolEnd) × Finds IsDump seen name text found
    finds_of None text ne d = (Done, (o.plain, λ told. there seen opened name number (λ bytes. IsDump bytes None text) o d told))
    finds_of (Some f) text ne d = (Input (Mid f), (o.plain, (λ is_read. ne (ap Some is_read)), λ told. there seen opened name number (λ bytes. IsDump bytes (Some f) text) o d told))

    part_written : PrintsDump (told_left opened number) told_old told_new → WritesPart (Finds IsDump seen name) told_old told_new
    part_written p =
        let f : (found : ToolEnd) × Finds IsDump seen name p.text found = finds_of p.fault p.text p.sound p.dump in
        record { found = f.0; text = p.text; finds = f.1; written = p.written }

    closed_all : (files_old files_new : ℕ) (end result : ToolEnd) (text : List ℕ) → Finds IsDump seen name text end → Appends told_old told_new text → (WritesAll (Finds IsDump seen name) told_old told_new end → WritesOn seen name read_old read_new told_old told_new end)
        → ClosesWell files_old files_new end result → WritesOn seen name read_old read_new told_old told_new result
    closed_all files_old files_new end result text finds written all (inl well) = subst (λ (e : ToolEnd). Writes e) (sym well.0) (all (record { text = text; finds = finds; written = written }))
    closed_all files_old files_new end result text finds written all (inr failed) = subst (λ (e : ToolEnd). Writes e) (sym failed.0) (o.plain, inr (end, record { text = text; finds = finds; written = written }))

    dump_closed : (after : Seen) (files_old files_new : ℕ) (end result : ToolEnd) → DumpsTo (told_left opened number) (told_left after number) told_old told_new end → (IsTrue opened.names → ReadsFirst opened after number read_old read_new)
        → ClosedAs end files_old files_new result → WritesOn seen name read_old read_new told_old told_new result
    dump_closed after files_old files_new Done result d front c =
        closed_all files_old files_new Done result d.0 (o.plain, λ told. there seen opened name number (λ bytes. IsDump bytes None d.0) o d.1 told) d.2 (λ all. all) c
    dump_closed after files_old files_new (Input (Mid f)) result d front c =
        closed_all files_old files_new (Input (Mid f)) result d.0 (o.plain, d.1, λ told. there seen opened name number (λ bytes. IsDump bytes (Some f) d.0) o d.2 told) d.3 (λ all. all) c
    dump_closed after files_old files_new (Input Compressed) result d front c = absurd d
    dump_closed after files_old files_new (Input Missing) result d front c = absurd d
    dump_closed after files_old files_new (Input ScriptTooLong) result d front c = absurd d
    dump_closed after files_old files_new (Input (OtherRun file run)) result d front c = absurd d
    dump_closed after files_old files_new FileFault result d front c = subst (λ (e : ToolEnd). Writes e) (sym c.0) (o.plain, inl (read_written after d front))
    dump_closed after files_old files_new SinkFault result (inl d) front c = subst (λ (e : ToolEnd). Writes e) (sym c.0) (inr (o.plain, some_written d))
    dump_closed after files_old files_new SinkFault result (inr d) front c = subst (λ (e : ToolEnd). Writes e) (sym c.0) (inl (part_written d))
    dump_closed after files_old files_new NoMemory result d front c = absurd d

    -- the source that was read is the one that was opened
    pub dump_read : (after : Seen) (now_read : Origin) (files_old files_new : ℕ) (end result : ToolEnd) → Some now_read ≡ Some (record { files = opened; bytes_read = read_old; number = number })
        → DumpsTo (told_left opened number) (told_left after now_read.number) told_old told_new end → (IsTrue now_read.files.names → ReadsFirst now_read.files after now_read.number now_read.bytes_read read_new)
        → ClosedAs end files_old files_new result → WritesOn seen name read_old read_new told_old told_new result
    dump_read after now_read files_old files_new end result is d front c =
        let same : now_read ≡ record { files = opened; bytes_read = read_old; number = number } = same_origin now_read (record { files = opened; bytes_read = read_old; number = number }) is in
        dump_closed after files_old files_new end result (subst (λ (x : Origin). DumpsTo (told_left opened number) (told_left after x.number) told_old told_new end) same d)
        (subst (λ (x : Origin). IsTrue x.files.names → ReadsFirst x.files after x.number x.bytes_read read_new) same front) c

-- Where memory is wanting the file was not opened: a call that opened it, or was refused it, ends otherwise.

done_or_failed : (files_old files_new : ℕ) (end result : ToolEnd) → end ≢ NoMemory → ClosesWell files_old files_new end result → result ≢ NoMemory
done_or_failed files_old files_new end result ne (inl well) e = ne (sym well.0 ∙ e)
done_or_failed files_old files_new end result ne (inr failed) e = let clash : FileFault ≡ NoMemory = sym failed.0 ∙ e in absurd cc

pub closed_has_memory : (source now told_old told_new : Option (List ℕ)) (files_old files_new : ℕ) (end result : ToolEnd) → DumpsTo source now told_old told_new end → ClosedAs end files_old files_new result → result ≢ NoMemory
closed_has_memory source now told_old told_new files_old files_new Done result d c = done_or_failed files_old files_new Done result (λ e. absurd cc) c
closed_has_memory source now told_old told_new files_old files_new (Input fault) result d c = done_or_failed files_old files_new (Input fault) result (λ e. absurd cc) c
closed_has_memory source now told_old told_new files_old files_new FileFault result d c = λ e. let clash : FileFault ≡ NoMemory = sym c.0 ∙ e in absurd cc
closed_has_memory source now told_old told_new files_old files_new SinkFault result d c = λ e. let clash : SinkFault ≡ NoMemory = sym c.0 ∙ e in absurd cc
closed_has_memory source now told_old told_new files_old files_new NoMemory result d c = absurd d

printed_has_memory : (text : List ℕ) (told_old told_new : Option (List ℕ)) (sink_old sink_new : ℕ) (end result : ToolEnd) → end ≢ NoMemory → Printed text told_old told_new sink_old sink_new end result → result ≢ NoMemory
printed_has_memory text told_old told_new sink_old sink_new end result ne (inl whole) e = ne (sym whole.0 ∙ e)
printed_has_memory text told_old told_new sink_old sink_new end result ne (inr part) e = let clash : SinkFault ≡ NoMemory = sym part.0 ∙ e in absurd cc

pub refused_has_memory : (told_old told_new : Option (List ℕ)) (sink_old sink_new : ℕ) (refused : Refused) (result : ToolEnd) → SaysWhy refused told_old told_new sink_old sink_new result → result ≢ NoMemory
refused_has_memory told_old told_new sink_old sink_new NameCompressed result s = printed_has_memory _ told_old told_new sink_old sink_new (Input Compressed) result (λ e. absurd cc) s
refused_has_memory told_old told_new sink_old sink_new NameMissing result s = printed_has_memory _ told_old told_new sink_old sink_new (Input Missing) result (λ e. absurd cc) s
refused_has_memory told_old told_new sink_old sink_new OpenFailed result s = λ e. let clash : FileFault ≡ NoMemory = sym s.0 ∙ e in absurd cc
