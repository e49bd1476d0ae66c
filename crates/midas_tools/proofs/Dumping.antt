-- What `dump` has printed, step by step.
use Rattle.std.proofs.Common.{◌≡◌, ◌≢◌, ◌∙◌, ◌+◌, ℕ, List, [], ◌∷◌, ◌++◌, length, Option, Some, None, Result, Ok, Err, IfSome, IfOk, Bool, true, false, ◌⊎◌, inl, inr, refl, ap, sym, subst, arith, append_assoc}
use Rattle.std.specs.Prelude.{is_some, IsSome, IsNone, ◌↔◌}
use Rattle.std.proofs.lemmas.List.{append-nil}
use Rattle.std.proofs.lemmas.List.Elements.{All-nil}
use Rattle.std.specs.Io.KnownBytes.{Appends, Consumes, IsAtEnd, prepend_known}
use Rattle.std.proofs.KnownBytes.{prepend_known-nil}
use Rattle.daq_types.specs.declared.events.Event.{Event}
use Rattle.event.specs.Events.{encoding, all_encoded}
use Rattle.event.specs.RunFile.{begin_record, end_record, IsFileEvent}
use Rattle.daq_io.specs.Counts.{RoseBy}
use Rattle.daq_io.specs.Streams.{AppendsPart}
use Rattle.daq_io.specs.declared.faults.Failed.{Failed}
use Rattle.event.specs.Headers.{event_of, fields_of}
use Rattle.event.specs.declared.head.Header.{Header}
use Rattle.mid_format.specs.AtHand.{StandsWhole, event_at_front}
use Rattle.mid_format.specs.Faults.{OfBytes, OfSource}
use Rattle.mid_format.specs.HasRead.{IsStorable, IsBegunFile, IsFaultAt, IsReadSoFar, StandsBehind, HasRead, nothing_read}
use Rattle.mid_format.specs.Parts.{CountedBy, CountsReads}
use Rattle.mid_format.specs.Opened.{ReadsOn, events_after, CountsNext}
use Rattle.mid_format.proofs.ReadLaws.{has_read_none}
use Rattle.mid_format.specs.declared.faults.MidFault.{MidFault}
use Rattle.mid_format.specs.declared.faults.MidFault.TheVariants.{Truncated, NoBegin, NoEnd, AfterEnd, TooBig, ReadFault, BadRecord, TooLong}
use Rattle.mid_format.specs.declared.progress.Progress.{Progress}
use Rattle.midas_tools.specs.Areas.{AreEventLines, AreLinesOf, PassesLines}
use Rattle.midas_tools.proofs.AreasLaws.{AreLinesOf-more}
use Rattle.midas_tools.specs.Dumps.{DumpsTo, EndsAt, EndsText, HandEnds, IsDump, IsPart, Listing, Printing, PrintsRead, PrintsSome, PrintsUpTo, ReadCounts, begin_lines, end_lines, tool_end, ended_text, fault_lines, new_begin}
use Rattle.midas_tools.specs.Findings.{SinkByEnd}
use Rattle.midas_tools.specs.Printing.{PrintsSoFar, PassesText}
use Rattle.midas_tools.proofs.Printing.{PrintsSoFar-none, PrintsSoFar-more, PrintsSoFar-all, PrintsSoFar-fails, none_passes, text_passes, text_fails}
use Rattle.midas_tools.specs.Texts.{bad_line}
use Rattle.midas_tools.proofs.Summing.{some_of}
use Rattle.midas_tools.specs.declared.ends.InputFault.TheVariants.{Mid, Compressed, Missing, ScriptTooLong, OtherRun}
use Rattle.midas_tools.specs.declared.ends.ToolEnd.{ToolEnd}
use Rattle.midas_tools.specs.declared.ends.ToolEnd.TheVariants.{Done, Input, FileFault, SinkFault, NoMemory}

some_is_none : {A B : Type 0} (x : A) → Some x ≡ None → B
some_is_none x e = let clash : true ≡ false = ap is_some e in absurd cc

some_or : MidFault → Option MidFault → MidFault
some_or f None = f
some_or f (Some g) = g

same_fault : (f g : MidFault) → Some f ≡ Some g → f ≡ g
unfolding some_or
same_fault f g e = ap (some_or f) e

-- Parts of a file's text

without_end : (bytes done rest : List ℕ) (begin last : Option Header) (events : List Event) (lines : List ℕ) → bytes ≡ done ++ rest → IsReadSoFar done begin last events → AreLinesOf events lines
    → IsPart bytes (begin_lines begin ++ lines)
without_end bytes done rest None None events lines is d l = record {
  begin = None;
  last = None;
  rest = rest;
  lists = record { front = done; bytes_are = is; events = events; is_done = d; lines = lines; lines_are = l; text_is = sym (append-nil ([] ++ lines)) };
}
without_end bytes done rest None (Some end) events lines is d l = absurd d
without_end bytes done rest (Some begin) None events lines is d l = record {
  begin = Some begin;
  last = None;
  rest = rest;
  lists = record { front = done; bytes_are = is; events = events; is_done = d; lines = lines; lines_are = l; text_is = sym (append-nil (begin_lines (Some begin) ++ lines)) };
}
without_end bytes done rest (Some begin) (Some end) events lines is d l = record {
  begin = Some begin;
  last = None;
  rest = encoding (end_record begin.serial_number end.time_stamp d.dump1) ++ rest;
  lists = record {
    front = d.ended.front;
    bytes_are = is ∙ ap (λ (f : List ℕ). f ++ rest) d.ended.bytes_are ∙ append_assoc d.ended.front (encoding (end_record begin.serial_number end.time_stamp d.dump1)) rest;
    events = events;
    is_done = record { dump = d.dump0; header = d.header; begun = d.ended.begun };
    lines = lines;
    lines_are = l;
    text_is = sym (append-nil (begin_lines (Some begin) ++ lines));
  };
}

part_of : (bytes : List ℕ) (now : Option (List ℕ)) (p : Progress) (text : List ℕ) → Listing (Some bytes) now p text → IsPart bytes text
part_of bytes now p text l =
    subst (λ (t : List ℕ). IsPart bytes t) (sym l.text_is) (without_end bytes l.read.done l.read.begins.0 p.begin p.last l.events l.lines l.read.begins.1 l.read.is_done l.lines_are)

pub part_listed : (first now : Option (List ℕ)) (p : Progress) (text : List ℕ) → Listing first now p text → IfSome first (λ bytes. IsPart bytes text)
part_listed None now p text l = tt
part_listed (Some bytes) now p text l = part_of bytes now p text l

-- with the end record's line
with_end : (bytes : List ℕ) (now : Option (List ℕ)) (p : Progress) (text : List ℕ) → Listing (Some bytes) now p text → IsPart bytes (text ++ end_lines p.last)
with_end bytes now p text l = record {
  begin = p.begin;
  last = p.last;
  rest = l.read.begins.0;
  lists = record {
    front = l.read.done;
    bytes_are = l.read.begins.1;
    events = l.events;
    is_done = l.read.is_done;
    lines = l.lines;
    lines_are = l.lines_are;
    text_is = ap (λ (t : List ℕ). t ++ end_lines p.last) l.text_is;
  };
}

of_bytes_is : (f : MidFault) (fact : Type 0) → f ≢ ReadFault → OfBytes f fact → fact
of_bytes_is (Truncated at) fact ne p = p
of_bytes_is (NoBegin at) fact ne p = p
of_bytes_is (NoEnd at) fact ne p = p
of_bytes_is (AfterEnd at) fact ne p = p
of_bytes_is (TooBig at size) fact ne p = p
of_bytes_is ReadFault fact ne p = absurd (ne refl)
of_bytes_is (BadRecord at) fact ne p = p
of_bytes_is (TooLong at) fact ne p = p

at_end_of : (bytes done : List ℕ) (now : Option (List ℕ)) → Consumes (Some bytes) now done → IsAtEnd now → bytes ≡ done ++ []
at_end_of bytes done None c e = absurd c
at_end_of bytes done (Some left) c e = c ∙ ap (λ (l : List ℕ). done ++ l) e

-- the whole text of a good file, and of one with a fault
dump_good : (bytes : List ℕ) (now : Option (List ℕ)) (p : Progress) (text : List ℕ) (end : Header) → Listing (Some bytes) now p text → p.fault ≡ None → p.last ≡ Some end
    → IsDump bytes None (ended_text text p.last None)
dump_good bytes now p text end l sound last_is = record {
  begin = p.begin;
  last = p.last;
  rest = [];
  shown = text ++ end_lines p.last;
  lists = record {
    front = l.read.done;
    bytes_are = at_end_of bytes l.read.done now (l.read.consumed sound) (l.read.at_end sound end last_is);
    events = l.events;
    is_done = l.read.is_done;
    lines = l.lines;
    lines_are = l.lines_are;
    text_is = ap (λ (t : List ℕ). t ++ end_lines p.last) l.text_is;
  };
  counted = omega (arith, l.read.place, l.read.within);
  ends = subst (λ (o : Option Header). EndsAt None o p.begin (length l.read.done) []) (sym last_is) refl;
  text_is = refl;
}

dump_fault : (bytes : List ℕ) (now : Option (List ℕ)) (p : Progress) (text : List ℕ) (f : MidFault) → Listing (Some bytes) now p text → p.fault ≡ Some f → f ≢ ReadFault
    → IsDump bytes (Some f) (ended_text text p.last (Some f))
dump_fault bytes now p text f l is_fault ne =
    let here : StandsBehind 0 bytes l.read.done p.last p.begin f = of_bytes_is f (StandsBehind 0 bytes l.read.done p.last p.begin f) ne (l.read.here f is_fault) in
    record {
      begin = p.begin;
      last = p.last;
      rest = here.rest;
      shown = text ++ end_lines p.last;
      lists = record {
        front = l.read.done;
        bytes_are = here.text_is;
        events = l.events;
        is_done = l.read.is_done;
        lines = l.lines;
        lines_are = l.lines_are;
        text_is = ap (λ (t : List ℕ). t ++ end_lines p.last) l.text_is;
      };
      counted = omega (arith, l.read.place, l.read.within);
      ends = subst (λ (at : ℕ). IsFaultAt p.last p.begin at here.rest f) (let e : 0 + length l.read.done ≡ length l.read.done = omega arith in e) here.stands;
      text_is = refl;
    }

-- Nothing was printed.
nothing_part : (bytes : List ℕ) → IsPart bytes []
nothing_part bytes = record {
  begin = None;
  last = None;
  rest = bytes;
  lists = record { front = []; bytes_are = refl; events = []; is_done = (refl, refl); lines = []; lines_are = refl; text_is = refl };
}

pub nothing_listed : (bytes text : List ℕ) → text ≡ [] → IsPart bytes text
nothing_listed bytes text e = subst (λ (t : List ℕ). IsPart bytes t) (sym e) (nothing_part bytes)

-- Reading on

pub printing_none : (first told : Option (List ℕ)) (p : Progress) (page : List ℕ) → p ≡ nothing_read → page ≡ [] → Printing first first p told told page
printing_none first told p page e blank = record {
  text = [];
  listing = record {
    events = [];
    read = subst (λ (q : Progress). HasRead 0 first first q []) (sym e) (has_read_none 0 first (omega arith));
    lines = [];
    lines_are = refl;
    text_is = ap (λ (q : Progress). begin_lines q.begin ++ []) (sym e);
  };
  prints = subst (λ (q : List ℕ). PrintsSoFar told told q []) (sym blank) (PrintsSoFar-none told);
  sound = ap (λ (q : Progress). q.fault) e;
  going = ap (λ (q : Progress). q.last) e;
}

no_lines : (events : List Event) (lines : List ℕ) → events ≡ [] → AreLinesOf events lines → lines ≡ []
no_lines events lines e l = subst (λ (es : List Event). AreLinesOf es lines) e l

no_events : (done : List ℕ) (last : Option Header) (events : List Event) → IsReadSoFar done None last events → last ≡ None → events ≡ []
no_events done None events d e = d.1
no_events done (Some end) events d e = absurd d

-- the line of the begin record stands in front of the events' where it is new, and stood there where it is not
begun_text : (done : List ℕ) (before last : Option Header) (now : Option Header) (events : List Event) (lines : List ℕ) → IsReadSoFar done before last events → last ≡ None → AreLinesOf events lines → (IsSome before → now ≡ before)
    → (begin_lines before ++ lines) ++ new_begin (is_some before) now ≡ begin_lines now ++ lines
begun_text done None last now events lines d going l kept =
    let none : lines ≡ [] = no_lines events lines (no_events done last events d going) l in
    ap (λ (t : List ℕ). ([] ++ t) ++ begin_lines now) none ∙ sym (append-nil (begin_lines now)) ∙ ap (λ (t : List ℕ). begin_lines now ++ t) (sym none)
begun_text done (Some b) last now events lines d going l kept = append-nil (begin_lines (Some b) ++ lines) ∙ ap (λ (o : Option Header). begin_lines o ++ lines) (sym (kept refl))

-- One answer of the reader, with the line of the begin record.
pub record Stepped (first after : Option (List ℕ)) (new : Progress) (told_first told_now : Option (List ℕ)) (page : List ℕ) (given : Result (Option (Unit {0})) MidFault) (event : Event) : Type 0 where
  pub text : List ℕ
  pub events : List Event
  pub read : HasRead 0 first after new (events_after events given event)
  pub lines : List ℕ
  pub lines_are : AreLinesOf events lines
  pub text_is : text ≡ begin_lines new.begin ++ lines
  pub prints : PrintsSoFar told_first told_now page text

pub stepped : (first before after : Option (List ℕ)) (old new : Progress) (told_first told_now told_new : Option (List ℕ)) (page page1 : List ℕ) (begun : Bool) (given : Result (Option (Unit {0})) MidFault) (event : Event) (done : Unit {0})
    → Printing first before old told_first told_now page → ReadsOn before after old new given event → begun ≡ is_some old.begin → (IsSome old.begin → new.begin ≡ old.begin)
    → PassesText told_now told_new page page1 (new_begin begun new.begin) (Ok done) → Stepped first after new told_first told_new page1 given event
stepped first before after old new told_first told_now told_new page page1 begun given event done p reads is_begun kept passes = record {
  text = p.text ++ new_begin begun new.begin;
  events = p.listing.events;
  read = reads 0 first p.listing.events p.listing.read;
  lines = p.listing.lines;
  lines_are = p.listing.lines_are;
  text_is = ap (λ (t : List ℕ). t ++ new_begin begun new.begin) p.listing.text_is ∙ ap (λ (b : Bool). (begin_lines old.begin ++ p.listing.lines) ++ new_begin b new.begin) is_begun
      ∙ begun_text p.listing.read.done old.begin old.last new.begin p.listing.events p.listing.lines p.listing.read.is_done p.going p.listing.lines_are kept;
  prints = text_passes told_first told_now told_new page page1 p.text (new_begin begun new.begin) done p.prints passes;
}

-- a begin record stands in front of what was read
begin_first : (bytes done rest : List ℕ) (b : Header) (run time : ℕ) (dump : List ℕ) (events : List Event) → bytes ≡ done ++ rest → IsBegunFile done run time dump events
    → IsBegunFile (encoding (begin_record run time dump) ++ []) run time dump [] × (bytes ≡ (encoding (begin_record run time dump) ++ []) ++ (all_encoded events ++ rest))
begin_first bytes done rest b run time dump events is d = (
  record { bytes_are = refl; small = d.small; storable = d.storable; fine = All-nil IsFileEvent; all_storable = All-nil IsStorable },
  is ∙ ap (λ (t : List ℕ). t ++ rest) d.bytes_are ∙ append_assoc (encoding (begin_record run time dump)) (all_encoded events) rest
      ∙ ap (λ (t : List ℕ). t ++ (all_encoded events ++ rest)) (sym (append-nil (encoding (begin_record run time dump)))),
)

begin_part : (bytes done rest : List ℕ) (begin last : Option Header) (events : List Event) → bytes ≡ done ++ rest → IsReadSoFar done begin last events → IsPart bytes (begin_lines begin)
begin_part bytes done rest None last events is d = nothing_part bytes
begin_part bytes done rest (Some b) None events is d =
    let f = begin_first bytes done rest b b.serial_number b.time_stamp d.dump events is d.begun in
    record {
      begin = Some b;
      last = None;
      rest = all_encoded events ++ rest;
      lists = record {
        front = encoding (begin_record b.serial_number b.time_stamp d.dump) ++ [];
        bytes_are = f.1;
        events = [];
        is_done = record { dump = d.dump; header = d.header; begun = f.0 };
        lines = [];
        lines_are = refl;
        text_is = sym (append-nil (begin_lines (Some b) ++ []) ∙ append-nil (begin_lines (Some b)));
      };
    }
begin_part bytes done rest (Some b) (Some end) events is d =
    let tail : List ℕ = encoding (end_record b.serial_number end.time_stamp d.dump1) ++ rest in
    let f = begin_first bytes d.ended.front (encoding (end_record b.serial_number end.time_stamp d.dump1) ++ rest) b b.serial_number b.time_stamp d.dump0 events
    (is ∙ ap (λ (t : List ℕ). t ++ rest) d.ended.bytes_are ∙ append_assoc d.ended.front (encoding (end_record b.serial_number end.time_stamp d.dump1)) rest) d.ended.begun in
    record {
      begin = Some b;
      last = None;
      rest = all_encoded events ++ (encoding (end_record b.serial_number end.time_stamp d.dump1) ++ rest);
      lists = record {
        front = encoding (begin_record b.serial_number b.time_stamp d.dump0) ++ [];
        bytes_are = f.1;
        events = [];
        is_done = record { dump = d.dump0; header = d.header; begun = f.0 };
        lines = [];
        lines_are = refl;
        text_is = sym (append-nil (begin_lines (Some b) ++ []) ∙ append-nil (begin_lines (Some b)));
      };
    }

read_begin : (first now : Option (List ℕ)) (p : Progress) (events : List Event) → HasRead 0 first now p events → IfSome first (λ bytes. IsPart bytes (begin_lines p.begin))
read_begin None now p events h = tt
read_begin (Some bytes) now p events h = begin_part bytes h.done h.begins.0 p.begin p.last events h.begins.1 h.is_done

-- the text so far with the line of the begin record is whole lines: the record was read before, or it is the first line
with_begin : (first before after : Option (List ℕ)) (old new : Progress) (begun : Bool) (text : List ℕ) (b : Option Header) (events : List Event) → Listing first before old text → old.begin ≡ b → old.last ≡ None → begun ≡ is_some b
    → HasRead 0 first after new events → IfSome first (λ bytes. IsPart bytes (text ++ new_begin begun new.begin))
with_begin first before after old new begun text None events l fresh going is_begun h =
    let none : l.events ≡ [] = no_events l.read.done old.last l.events (subst (λ (o : Option Header). IsReadSoFar l.read.done o old.last l.events) fresh l.read.is_done) going in
    let empty : text ≡ [] = l.text_is ∙ ap (λ (o : Option Header). begin_lines o ++ l.lines) fresh ∙ no_lines l.events l.lines none l.lines_are in
    let same : text ++ new_begin begun new.begin ≡ begin_lines new.begin = ap (λ (t : List ℕ). t ++ new_begin begun new.begin) empty ∙ ap (λ (o : Bool). new_begin o new.begin) is_begun in
    subst (λ (t : List ℕ). IfSome first (λ bytes. IsPart bytes t)) (sym same) (read_begin first after new events h)
with_begin first before after old new begun text (Some b) events l is going is_begun h =
    let same : text ++ new_begin begun new.begin ≡ text = ap (λ (o : Bool). text ++ new_begin o new.begin) is_begun ∙ append-nil text in
    subst (λ (t : List ℕ). IfSome first (λ bytes. IsPart bytes t)) (sym same) (part_listed first before old text l)

-- the sink failed at the line of the begin record
pub begin_cut : (first before after : Option (List ℕ)) (old new : Progress) (told_first told_now told_new : Option (List ℕ)) (page page1 : List ℕ) (begun : Bool) (given : Result (Option (Unit {0})) MidFault) (event : Event) (failed : Failed)
    → Printing first before old told_first told_now page → ReadsOn before after old new given event → begun ≡ is_some old.begin → PassesText told_now told_new page page1 (new_begin begun new.begin) (Err failed) → PrintsSome first told_first told_new
begin_cut first before after old new told_first told_now told_new page page1 begun given event failed p reads is_begun passes = record {
  text = p.text ++ new_begin begun new.begin;
  part = with_begin first before after old new begun p.text old.begin (events_after p.listing.events given event) p.listing refl p.going is_begun (reads 0 first p.listing.events p.listing.read);
  written = text_fails told_first told_now told_new page page1 p.text (new_begin begun new.begin) failed p.prints passes;
}

pub up_to_end : (first after : Option (List ℕ)) (new : Progress) (told_first told_now : Option (List ℕ)) (page : List ℕ) (event : Event) → Stepped first after new told_first told_now page (Ok None) event → new.fault ≡ None
    → PrintsUpTo first after new told_first told_now page None
up_to_end first after new told_first told_now page event s sound = record {
  text = s.text;
  listing = record { events = s.events; read = s.read; lines = s.lines; lines_are = s.lines_are; text_is = s.text_is };
  prints = s.prints;
  fault_is = sound;
}

pub up_to_fault : (first after : Option (List ℕ)) (new : Progress) (told_first told_now : Option (List ℕ)) (page : List ℕ) (f : MidFault) (event : Event) → Stepped first after new told_first told_now page (Err f) event → new.fault ≡ Some f
    → PrintsUpTo first after new told_first told_now page (Some f)
up_to_fault first after new told_first told_now page f event s is_fault = record {
  text = s.text;
  listing = record { events = s.events; read = s.read; lines = s.lines; lines_are = s.lines_are; text_is = s.text_is };
  prints = s.prints;
  fault_is = is_fault;
}

more_listed : (first after : Option (List ℕ)) (new : Progress) (told_first told_now told_new : Option (List ℕ)) (page page1 : List ℕ) (one : Unit {0}) (event : Event) (r : Result (Unit {0}) Failed)
    (s : Stepped first after new told_first told_now page (Ok (Some one)) event) (a : PassesLines (AreEventLines event) told_now told_new page page1 r) → Listing first after new (s.text ++ a.lines)
more_listed first after new told_first told_now told_new page page1 one event r s a = record {
  events = s.events ++ event ∷ [];
  read = s.read;
  lines = s.lines ++ a.lines;
  lines_are = AreLinesOf-more s.events event s.lines a.lines s.lines_are a.are;
  text_is = ap (λ (t : List ℕ). t ++ a.lines) s.text_is ∙ append_assoc (begin_lines new.begin) s.lines a.lines;
}

pub one_more : (first after : Option (List ℕ)) (new : Progress) (told_first told_now told_new : Option (List ℕ)) (page page1 : List ℕ) (one done : Unit {0}) (event : Event)
    → Stepped first after new told_first told_now page (Ok (Some one)) event → PassesLines (AreEventLines event) told_now told_new page page1 (Ok done) → new.fault ≡ None → new.last ≡ None
    → Printing first after new told_first told_new page1
one_more first after new told_first told_now told_new page page1 one done event s a sound going = record {
  text = s.text ++ a.lines;
  listing = more_listed first after new told_first told_now told_new page page1 one event (Ok done) s a;
  prints = text_passes told_first told_now told_new page page1 s.text a.lines done s.prints a.passes;
  sound = sound;
  going = going;
}

pub one_cut : (first after : Option (List ℕ)) (new : Progress) (told_first told_now told_new : Option (List ℕ)) (page page1 : List ℕ) (one : Unit {0}) (failed : Failed) (event : Event)
    → Stepped first after new told_first told_now page (Ok (Some one)) event → PassesLines (AreEventLines event) told_now told_new page page1 (Err failed) → PrintsSome first told_first told_new
one_cut first after new told_first told_now told_new page page1 one failed event s a = record {
  text = s.text ++ a.lines;
  part = part_listed first after new (s.text ++ a.lines) (more_listed first after new told_first told_now told_new page page1 one event (Err failed) s a);
  written = text_fails told_first told_now told_new page page1 s.text a.lines failed s.prints a.passes;
}

-- The last lines

pub fault_line_is : (f : MidFault) → f ≢ ReadFault → fault_lines (Some f) ≡ bad_line (Mid f)
fault_line_is (Truncated at) ne = refl
fault_line_is (NoBegin at) ne = refl
fault_line_is (NoEnd at) ne = refl
fault_line_is (AfterEnd at) ne = refl
fault_line_is (TooBig at size) ne = refl
fault_line_is ReadFault ne = absurd (ne refl)
fault_line_is (BadRecord at) ne = refl
fault_line_is (TooLong at) ne = refl

read_or_not : (f : MidFault) → (f ≡ ReadFault) ⊎ (f ≢ ReadFault)
read_or_not (Truncated at) = inr (λ e. cc)
read_or_not (NoBegin at) = inr (λ e. cc)
read_or_not (NoEnd at) = inr (λ e. cc)
read_or_not (AfterEnd at) = inr (λ e. cc)
read_or_not (TooBig at size) = inr (λ e. cc)
read_or_not ReadFault = inl refl
read_or_not (BadRecord at) = inr (λ e. cc)
read_or_not (TooLong at) = inr (λ e. cc)

pub end_is : (f : MidFault) → f ≢ ReadFault → tool_end (Some f) ≡ Input (Mid f)
end_is (Truncated at) ne = refl
end_is (NoBegin at) ne = refl
end_is (NoEnd at) ne = refl
end_is (AfterEnd at) ne = refl
end_is (TooBig at size) ne = refl
end_is ReadFault ne = absurd (ne refl)
end_is (BadRecord at) ne = refl
end_is (TooLong at) ne = refl

pub end_calm : (fault : Option MidFault) (old new : ℕ) → new ≡ old → SinkByEnd (tool_end fault) old new
end_calm None old new same = same
end_calm (Some (Truncated at)) old new same = same
end_calm (Some (NoBegin at)) old new same = same
end_calm (Some (NoEnd at)) old new same = same
end_calm (Some (AfterEnd at)) old new same = same
end_calm (Some (TooBig at size)) old new same = same
end_calm (Some ReadFault) old new same = same
end_calm (Some (BadRecord at)) old new same = same
end_calm (Some (TooLong at)) old new same = same

-- What was printed in all

told_good : (first now : Option (List ℕ)) (p : Progress) (text : List ℕ) (end : Header) → Listing first now p text → p.fault ≡ None → p.last ≡ Some end → IfSome first (λ bytes. IsDump bytes None (ended_text text p.last None))
told_good None now p text end l sound last_is = tt
told_good (Some bytes) now p text end l sound last_is = dump_good bytes now p text end l sound last_is

told_fault : (first now : Option (List ℕ)) (p : Progress) (text : List ℕ) (f : MidFault) → Listing first now p text → p.fault ≡ Some f → f ≢ ReadFault → IfSome first (λ bytes. IsDump bytes (Some f) (ended_text text p.last (Some f)))
told_fault None now p text f l is_fault ne = tt
told_fault (Some bytes) now p text f l is_fault ne = dump_fault bytes now p text f l is_fault ne

told_part : (first now : Option (List ℕ)) (p : Progress) (text : List ℕ) → Listing first now p text → IfSome first (λ bytes. IsPart bytes (ended_text text p.last (Some ReadFault)))
told_part None now p text l = tt
told_part (Some bytes) now p text l = subst (λ (t : List ℕ). IsPart bytes t) (sym (append-nil (text ++ end_lines p.last))) (with_end bytes now p text l)

module _ (first now : Option (List ℕ)) (p : Progress) (told_first told_now told_new : Option (List ℕ)) (page : List ℕ) where
  -- what was written behind the text so far
  all_ended : (fault : Option MidFault) (u : PrintsUpTo first now p told_first told_now page fault) → Appends told_now told_new (ended_text page p.last fault) → Appends told_first told_new (ended_text u.text p.last fault)
  all_ended fault u w = PrintsSoFar-all told_first told_now told_new (ended_text page p.last fault) (ended_text u.text p.last fault)
      (PrintsSoFar-more told_first told_now (page ++ end_lines p.last) (u.text ++ end_lines p.last) (fault_lines fault) (PrintsSoFar-more told_first told_now page u.text (end_lines p.last) u.prints)) w

  part_ended : (fault : Option MidFault) (u : PrintsUpTo first now p told_first told_now page fault) → AppendsPart told_now told_new (ended_text page p.last fault) → AppendsPart told_first told_new (ended_text u.text p.last fault)
  part_ended fault u w = PrintsSoFar-fails told_first told_now told_new (ended_text page p.last fault) (ended_text u.text p.last fault)
      (PrintsSoFar-more told_first told_now (page ++ end_lines p.last) (u.text ++ end_lines p.last) (fault_lines fault) (PrintsSoFar-more told_first told_now page u.text (end_lines p.last) u.prints)) w

  pub dumps_good : (end : Header) (u : PrintsUpTo first now p told_first told_now page None) → p.last ≡ Some end → (result : ToolEnd) → EndsText None told_now told_new (ended_text page p.last None) result → DumpsTo first now told_first told_new result
  dumps_good end u last_is result (inl e) =
      subst (λ (r : ToolEnd). DumpsTo first now told_first told_new r) (sym e.0) (ended_text u.text p.last None, told_good first now p u.text end u.listing u.fault_is last_is, all_ended None u e.1)
  dumps_good end u last_is result (inr e) =
      subst (λ (r : ToolEnd). DumpsTo first now told_first told_new r) (sym e.0)
      (inr (record { text = ended_text u.text p.last None; fault = None; sound = λ clash. some_is_none ReadFault (sym clash); dump = told_good first now p u.text end u.listing u.fault_is last_is; written = part_ended None u e.1 }))

  pub dumps_unread : (u : PrintsUpTo first now p told_first told_now page (Some ReadFault)) (result : ToolEnd) → EndsText (Some ReadFault) told_now told_new (ended_text page p.last (Some ReadFault)) result → DumpsTo first now told_first told_new result
  dumps_unread u result (inl e) =
      subst (λ (r : ToolEnd). DumpsTo first now told_first told_new r) (sym e.0)
      (record { progress = p; text = u.text; listing = u.listing; failed = u.fault_is; written = subst (λ (t : List ℕ). Appends told_first told_new t) (append-nil (u.text ++ end_lines p.last)) (all_ended (Some ReadFault) u e.1) })
  dumps_unread u result (inr e) =
      subst (λ (r : ToolEnd). DumpsTo first now told_first told_new r) (sym e.0)
      (inl (record { text = ended_text u.text p.last (Some ReadFault); part = told_part first now p u.text u.listing; written = part_ended (Some ReadFault) u e.1 }))

  dumps_wrong : (f : MidFault) → f ≢ ReadFault → (u : PrintsUpTo first now p told_first told_now page (Some f)) (result : ToolEnd) → EndsText (Some f) told_now told_new (ended_text page p.last (Some f)) result → DumpsTo first now told_first told_new result
  dumps_wrong f ne u result (inl e) =
      subst (λ (r : ToolEnd). DumpsTo first now told_first told_new r) (sym (e.0 ∙ end_is f ne)) (ended_text u.text p.last (Some f), ne, told_fault first now p u.text f u.listing u.fault_is ne, all_ended (Some f) u e.1)
  dumps_wrong f ne u result (inr e) =
      subst (λ (r : ToolEnd). DumpsTo first now told_first told_new r) (sym e.0)
      (inr (record { text = ended_text u.text p.last (Some f); fault = Some f; sound = λ same. ne (same_fault f ReadFault same); dump = told_fault first now p u.text f u.listing u.fault_is ne; written = part_ended (Some f) u e.1 }))

  by_fault : (f : MidFault) → (f ≡ ReadFault) ⊎ (f ≢ ReadFault) → PrintsUpTo first now p told_first told_now page (Some f) → (result : ToolEnd) → EndsText (Some f) told_now told_new (ended_text page p.last (Some f)) result → DumpsTo first now told_first told_new result
  by_fault f (inr ne) u result e = dumps_wrong f ne u result e
  by_fault f (inl is_read) u result e =
      dumps_unread (subst (λ (g : MidFault). PrintsUpTo first now p told_first told_now page (Some g)) is_read u) result (subst (λ (g : MidFault). EndsText (Some g) told_now told_new (ended_text page p.last (Some g)) result) is_read e)

  pub dumps_fault : (f : MidFault) → PrintsUpTo first now p told_first told_now page (Some f) → (result : ToolEnd) → EndsText (Some f) told_now told_new (ended_text page p.last (Some f)) result → DumpsTo first now told_first told_new result
  dumps_fault f u result e = by_fault f (read_or_not f) u result e

-- The source's count of faults, and what lies at hand of it

none_of : (last : Option Header) → ¬ IsSome last → last ≡ None
none_of None h = refl
none_of (Some end) h = absurd (h refl)

end_counts : (f : MidFault) (old new : ℕ) → CountedBy f old new → ReadCounts (tool_end (Some f)) old new
end_counts (Truncated at) old new c = c
end_counts (NoBegin at) old new c = c
end_counts (NoEnd at) old new c = c
end_counts (AfterEnd at) old new c = c
end_counts (TooBig at size) old new c = c
end_counts ReadFault old new c = c
end_counts (BadRecord at) old new c = c
end_counts (TooLong at) old new c = c

-- at a fault it did not fall
fault_by_none : (f : MidFault) (old new : ℕ) → CountedBy f old new → RoseBy 0 old new
fault_by_none (Truncated at) old new c = omega (arith, c)
fault_by_none (NoBegin at) old new c = omega (arith, c)
fault_by_none (NoEnd at) old new c = omega (arith, c)
fault_by_none (AfterEnd at) old new c = omega (arith, c)
fault_by_none (TooBig at size) old new c = omega (arith, c)
fault_by_none ReadFault old new c = omega (arith, c)
fault_by_none (BadRecord at) old new c = omega (arith, c)
fault_by_none (TooLong at) old new c = omega (arith, c)

end_hand : (f : MidFault) (at_hand : List ℕ) → OfSource f (at_hand ≡ []) → HandEnds (tool_end (Some f)) at_hand
end_hand (Truncated at) at_hand h = tt
end_hand (NoBegin at) at_hand h = tt
end_hand (NoEnd at) at_hand h = tt
end_hand (AfterEnd at) at_hand h = tt
end_hand (TooBig at size) at_hand h = tt
end_hand ReadFault at_hand h = h
end_hand (BadRecord at) at_hand h = tt
end_hand (TooLong at) at_hand h = tt

module _ (now new : Option (List ℕ)) (text : List ℕ) (result : ToolEnd) where
  pub counts_good : (old new_count : ℕ) → EndsText None now new text result → new_count ≡ old → ReadCounts result old new_count
  counts_good old new_count (inl e) same = subst (λ (r : ToolEnd). ReadCounts r old new_count) (sym e.0) same
  counts_good old new_count (inr e) same = let none : RoseBy 0 old new_count = omega (arith, same) in subst (λ (r : ToolEnd). ReadCounts r old new_count) (sym e.0) none

  pub counts_fault : (f : MidFault) (old new_count : ℕ) → EndsText (Some f) now new text result → CountedBy f old new_count → ReadCounts result old new_count
  counts_fault f old new_count (inl e) c = subst (λ (r : ToolEnd). ReadCounts r old new_count) (sym e.0) (end_counts f old new_count c)
  counts_fault f old new_count (inr e) c = subst (λ (r : ToolEnd). ReadCounts r old new_count) (sym e.0) (fault_by_none f old new_count c)

  pub hand_good : (at_hand : List ℕ) → EndsText None now new text result → HandEnds result at_hand
  hand_good at_hand (inl e) = subst (λ (r : ToolEnd). HandEnds r at_hand) (sym e.0) tt
  hand_good at_hand (inr e) = subst (λ (r : ToolEnd). HandEnds r at_hand) (sym e.0) tt

  pub hand_fault : (f : MidFault) (at_hand : List ℕ) → EndsText (Some f) now new text result → OfSource f (at_hand ≡ []) → HandEnds result at_hand
  hand_fault f at_hand (inl e) h = subst (λ (r : ToolEnd). HandEnds r at_hand) (sym e.0) (end_hand f at_hand h)
  hand_fault f at_hand (inr e) h = subst (λ (r : ToolEnd). HandEnds r at_hand) (sym e.0) tt

-- a source without what lies at hand, where nothing does
no_hand : (left now : Option (List ℕ)) (at_hand : List ℕ) → at_hand ≡ [] → prepend_known at_hand left ≡ left
no_hand left now at_hand none = ap (λ (h : List ℕ). prepend_known h left) none ∙ prepend_known-nil left

pub dumps_source : (source left : Option (List ℕ)) (at_hand : List ℕ) (told_old told_new : Option (List ℕ)) (end : ToolEnd) → DumpsTo source (prepend_known at_hand left) told_old told_new end → HandEnds end at_hand → DumpsTo source left told_old told_new end
dumps_source source left at_hand told_old told_new Done d h = d
dumps_source source left at_hand told_old told_new (Input (Mid f)) d h = d
dumps_source source left at_hand told_old told_new (Input Compressed) d h = d
dumps_source source left at_hand told_old told_new (Input Missing) d h = d
dumps_source source left at_hand told_old told_new (Input ScriptTooLong) d h = d
dumps_source source left at_hand told_old told_new (Input (OtherRun file run)) d h = d
dumps_source source left at_hand told_old told_new FileFault d h = subst (λ (n : Option (List ℕ)). PrintsRead source n told_old told_new) (no_hand left left at_hand h) d
dumps_source source left at_hand told_old told_new SinkFault d h = d
dumps_source source left at_hand told_old told_new NoMemory d h = d

-- What the reader's answer says

pub counts_ok : (fault : Option MidFault) (old new : ℕ) (r : Result (Option (Unit {0})) MidFault) (x : Option (Unit {0})) → fault ≡ None → CountsNext fault old new r → r ≡ Ok x → new ≡ old
counts_ok fault old new r x none c is =
    let d : CountsNext None old new (Ok x) = subst (λ (o : Option MidFault). CountsNext o old new (Ok x)) none (subst (λ (q : Result (Option (Unit {0})) MidFault). CountsNext fault old new q) is c) in
    d.done

-- whatever the answer, the source's count did not fall
answer_by_none : (r : Result (Option (Unit {0})) MidFault) (old new : ℕ) → CountsReads old new r → RoseBy 0 old new
answer_by_none (Ok given) old new c = omega (arith, c.done)
answer_by_none (Err f) old new c = fault_by_none f old new c.fault

pub next_by_none : (fault : Option MidFault) (first old new : ℕ) (r : Result (Option (Unit {0})) MidFault) → CountsNext fault old new r → old ≡ first → RoseBy 0 first new
next_by_none None first old new r c same = subst (λ (n : ℕ). RoseBy 0 n new) same (answer_by_none r old new c)
next_by_none (Some f) first old new r c same = subst (λ (n : ℕ). RoseBy 0 n new) same (omega (arith, c))

pub not_ended : (r : Result (Option (Unit {0})) MidFault) (one : Unit {0}) (last : Option Header) → r ≡ Ok (Some one) → IfOk r (λ given. IsNone given ↔ IsSome last) → last ≡ None
not_ended r one last is e =
    let d : IsNone (Some one) ↔ IsSome last = subst (λ (q : Result (Option (Unit {0})) MidFault). IfOk q (λ given. IsNone given ↔ IsSome last)) is e in
    none_of last (λ h. let clash : true ≡ false = d.1 h in cc)

pub ended_at : (r : Result (Option (Unit {0})) MidFault) (last : Option Header) → r ≡ Ok None → IfOk r (λ given. IsNone given ↔ IsSome last) → (end : Header) × (last ≡ Some end)
ended_at r last is e =
    let d : IsNone {T = Unit {0}} None ↔ IsSome last = subst (λ (q : Result (Option (Unit {0})) MidFault). IfOk q (λ given. IsNone given ↔ IsSome last)) is e in
    some_of last (d.0 refl)

-- an event that stood whole at hand was read
pub stepped_on : (first before after : Option (List ℕ)) (old new : Progress) (told_first told_now : Option (List ℕ)) (page at_hand : List ℕ) (header : Header)
    → Printing first before old told_first told_now page → StandsWhole old at_hand header → ReadsOn before after old new (Ok (Some tt)) (event_at_front header at_hand) → new.begin ≡ old.begin
    → Stepped first after new told_first told_now page (Ok (Some tt)) (event_at_front header at_hand)
stepped_on first before after old new told_first told_now page at_hand header p whole reads begun =
    stepped first before after old new told_first told_now told_now page page true (Ok (Some tt)) (event_at_front header at_hand) tt p reads (sym (ap (is_some {T = Header}) whole.begun)) (λ h. begun) (none_passes told_now page [] refl)

-- an event with these parts
pub event_again : (header : Header) (body : List ℕ) (event : Event) → header ≡ fields_of event → body ≡ event.body → event_of header body ≡ event
event_again header body event is_header is_body = ap (λ (h : Header). event_of h body) is_header ∙ ap (λ (b : List ℕ). event_of (fields_of event) b) is_body
