-- What `dump` finds of its one file, as of a list of one: the ends that this leads to.
use Rattle.std.proofs.Common.{◌≡◌, ◌∙◌, ℕ, ◌+◌, ◌-◌, ◌^◌, ◌≤◌, List, [], ◌∷◌, ◌++◌, length, Option, Some, None, inl, inr, refl, ap, sym, subst, arith}
use Rattle.std.specs.Prelude.{IsTrue, false, unwrap_or}
use Rattle.std.proofs.lemmas.List.{append-nil}
use Rattle.std.proofs.lemmas.List.Elements.{All-nil, All-cons}
use Rattle.daq_types.specs.Names.{is_compressed}
use Rattle.daq_types.specs.declared.events.Event.{Event}
use Rattle.daq_io.specs.Seen.{Seen}
use Rattle.event.specs.Events.{encoding}
use Rattle.event.specs.RunFile.{end_record}
use Rattle.event.specs.declared.head.Header.{Header}
use Rattle.mid_format.specs.Faults.{fault_at, run_at}
use Rattle.mid_format.specs.HasRead.{IsEndedFile, IsReadSoFar, IsFaultAt, IsMidFault}
use Rattle.mid_format.specs.ReadLaws.{IsWholeFile}
use Rattle.mid_format.specs.declared.faults.MidFault.{MidFault}
use Rattle.mid_format.specs.declared.faults.MidFault.TheVariants.{Truncated, NoBegin, NoEnd, AfterEnd, TooBig, ReadFault, BadRecord, TooLong}
use Rattle.midas_tools.specs.Dumps.{EndsAt, IsDump, WritesOn}
use Rattle.midas_tools.specs.Findings.{CallCounts, ClashCounts, FilesByEnd, Finds, IsThere, SinkByEnd}
use Rattle.midas_tools.specs.Pieces.{HasOwnFault, IsPiece, in_file}
use Rattle.midas_tools.specs.Texts.{bad_line}
use Rattle.midas_tools.specs.Together.{AreSoundTogether, EndsBy, FindsWrong, HaveOneRun, IsWrong}
use Rattle.midas_tools.specs.declared.ends.InputFault.{InputFault}
use Rattle.midas_tools.specs.declared.ends.InputFault.TheVariants.{Mid, Compressed, Missing, ScriptTooLong, OtherRun}
use Rattle.midas_tools.specs.declared.ends.ToolEnd.{ToolEnd}
use Rattle.midas_tools.specs.declared.ends.ToolEnd.TheVariants.{Done, Input, FileFault, SinkFault, NoMemory}
use Rattle.midas_tools.proofs.Gathered.{no_run}
use Rattle.midas_tools.proofs.Told.{FoundAs, ends_by}

zero_place : (n : ℕ) → n ≡ 0 + n
zero_place n = omega arith

minus_zero : (n : ℕ) → n ≡ n - 0
minus_zero n = omega arith

-- in the first file a fault has its place from the first file on
no_move : (f : MidFault) → f ≡ in_file 0 f
no_move (Truncated at) = ap Truncated (minus_zero at)
no_move (NoBegin at) = ap NoBegin (minus_zero at)
no_move (NoEnd at) = ap NoEnd (minus_zero at)
no_move (AfterEnd at) = ap AfterEnd (minus_zero at)
no_move (TooBig at size) = ap (λ (n : ℕ). TooBig n size) (minus_zero at)
no_move ReadFault = refl
no_move (BadRecord at) = ap BadRecord (minus_zero at)
no_move (TooLong at) = ap TooLong (minus_zero at)

stands_fault : (bytes front rest : List ℕ) (last begin : Option Header) (events : List Event) (f : MidFault) → bytes ≡ front ++ rest → IsReadSoFar front begin last events → length front ≤ 2 ^ 62 → IsFaultAt last begin (length front) rest f → IsMidFault 0 bytes f
stands_fault bytes front rest None None events f is d counted s =
    inl (subst (λ (x : List ℕ). fault_at None 0 x ≡ Some f) (sym is) (subst (λ (x : List ℕ). fault_at None 0 (x ++ rest) ≡ Some f) (sym d.0) (subst (λ (x : List ℕ). fault_at None (length x) rest ≡ Some f) d.0 s)))
stands_fault bytes front rest None (Some b) events f is d counted s =
    inr (inl (record {
      front = front;
      rest = rest;
      text_is = is;
      run = b.serial_number;
      time = b.time_stamp;
      dump = d.dump;
      events = events;
      begun = d.begun;
      counted = omega (arith, counted);
      fault_is = subst (λ (at : ℕ). fault_at (Some b.serial_number) at rest ≡ Some f) (zero_place (length front)) s;
    }))
stands_fault bytes front rest (Some end) None events f is d counted s = absurd d
stands_fault bytes front rest (Some end) (Some b) events f is d counted s =
    inr (inr (record {
      front = front;
      rest = rest;
      text_is = is;
      run = b.serial_number;
      time0 = b.time_stamp;
      dump0 = d.dump0;
      events = events;
      time1 = end.time_stamp;
      dump1 = d.dump1;
      ended = d.ended;
      counted = omega (arith, counted);
      more = s.0;
      fault_is = s.1 ∙ ap AfterEnd (zero_place (length front));
    }))

dump_fault : (bytes : List ℕ) (f : MidFault) (text : List ℕ) → IsDump bytes (Some f) text → IsMidFault 0 bytes f
dump_fault bytes f text d = stands_fault bytes d.lists.front d.rest d.last d.begin d.lists.events f d.lists.bytes_are d.lists.is_done d.counted d.ends

-- A dump without a fault is that of a run file.

ended_whole : (bytes : List ℕ) (run time0 : ℕ) (dump0 : List ℕ) (events : List Event) (time1 : ℕ) (dump1 : List ℕ) → IsEndedFile bytes run time0 dump0 events time1 dump1 → length bytes ≤ 2 ^ 62
    → IsWholeFile bytes run time0 dump0 events time1 dump1
ended_whole bytes run time0 dump0 events time1 dump1 e counted = record {
  file = record {
    is_file = e.bytes_are ∙ ap (λ (front : List ℕ). front ++ encoding (end_record run time1 dump1)) e.begun.bytes_are;
    begins_small = e.begun.small;
    ends_small = e.small;
    fine = e.begun.fine;
    counted = counted;
  };
  begin_storable = e.begun.storable;
  end_storable = e.storable;
  all_storable = e.begun.all_storable;
}

record IsOneRun (bytes : List ℕ) : Type 0 where
  pub run : ℕ
  pub events : List Event
  pub piece : IsPiece run bytes events
  pub counted : length bytes ≤ 2 ^ 62

ends_whole : (front rest : List ℕ) (begin last : Option Header) (events : List Event) → IsReadSoFar front begin last events → length front ≤ 2 ^ 62 → EndsAt None last begin (length front) rest → IsOneRun (front ++ rest)
ends_whole front rest None None events d counted e = absurd e
ends_whole front rest (Some b) None events d counted e = absurd e
ends_whole front rest None (Some end) events d counted e = absurd d
ends_whole front rest (Some b) (Some end) events d counted e =
    let all : front ≡ front ++ rest = sym (append-nil front) ∙ ap (λ (r : List ℕ). front ++ r) (sym e) in
    subst IsOneRun all (record {
      run = b.serial_number;
      events = events;
      piece = record { time0 = b.time_stamp; dump0 = d.dump0; time1 = end.time_stamp; dump1 = d.dump1; whole = ended_whole front b.serial_number b.time_stamp d.dump0 events end.time_stamp d.dump1 d.ended counted };
      counted = counted;
    })

dump_whole : (bytes text : List ℕ) → IsDump bytes None text → IsOneRun bytes
dump_whole bytes text d = subst IsOneRun (sym d.lists.bytes_are) (ends_whole d.lists.front d.rest d.begin d.last d.lists.events d.lists.is_done d.counted d.ends)

-- What is found of the one file

module _ (seen : Seen) (name : List ℕ) where
  sound_one : (text : List ℕ) → IsTrue seen.names → is_compressed name ≡ false → IsThere seen name (λ bytes. IsDump bytes None text) → AreSoundTogether seen (name ∷ [])
  sound_one text tells plain there =
      let one : IsOneRun there.file.bytes = dump_whole there.file.bytes text there.fact in
      record {
        plain = All-cons (λ (n : List ℕ). is_compressed n ≡ false) name [] plain (All-nil (λ (n : List ℕ). is_compressed n ≡ false));
        tells = tells;
        holds = record {
          files = there.file.bytes ∷ [];
          have = (record { file = there.file; at_is = there.at_is; fact = refl }, tt);
          run = one.run;
          events = one.events;
          are = record { pieces = (one.events, [], one.piece, refl, sym (append-nil one.events)); counted = omega (arith, one.counted) };
        };
      }

  own_fault : (bytes : List ℕ) (f : MidFault) → IsMidFault 0 bytes f → HasOwnFault (unwrap_or (run_at 0 bytes) 0) 0 bytes f
  own_fault bytes f first = record { one_run = λ other is. sym (ap (λ (o : Option ℕ). unwrap_or o 0) is); placed = f; first = first; fault_is = no_move f }

  abbrev no_files : (run : ℕ) → HaveOneRun seen []
  no_files run = record { files = []; have = tt; run = run; events = []; are = record { pieces = refl; counted = omega arith } }

  wrong_alone : (text : List ℕ) (fault : InputFault) → Finds IsDump seen name text (Input fault) → IsWrong seen [] name fault
  wrong_alone text (Mid f) found = (
    found.0,
    found.1,
    λ tells.
        let there : IsThere seen name (λ bytes. IsDump bytes (Some f) text) = found.2 tells in
        record {
          holds = no_files (unwrap_or (run_at 0 there.file.bytes) 0);
          there = record { file = there.file; at_is = there.at_is; fact = own_fault there.file.bytes f (dump_fault there.file.bytes f text there.fact) };
        },
  )
  wrong_alone text Compressed found = (found.0, λ tells. no_run seen)
  wrong_alone text Missing found = (found.0, λ tells. (no_run seen, found.2 tells))
  wrong_alone text ScriptTooLong found = absurd found
  wrong_alone text (OtherRun file run) found = absurd found

  finds_alone : (text : List ℕ) (fault : InputFault) → Finds IsDump seen name text (Input fault) → FindsWrong seen (name ∷ []) fault (bad_line fault)
  finds_alone text fault found =
      record { before = []; name = name; behind = []; names_are = refl; plain = All-nil (λ (n : List ℕ). is_compressed n ≡ false); wrong = wrong_alone text fault found; text_is = refl }

  dump_found : (read_old read_new : ℕ) (told_old told_new : Option (List ℕ)) (end : ToolEnd) → WritesOn seen name read_old read_new told_old told_new end → FoundAs seen (name ∷ []) end
  dump_found read_old read_new told_old told_new Done w = λ tells. sound_one w.text tells w.finds.0 (w.finds.1 tells)
  dump_found read_old read_new told_old told_new (Input fault) w = (bad_line fault, finds_alone w.text fault w.finds)
  dump_found read_old read_new told_old told_new FileFault w = tt
  dump_found read_old read_new told_old told_new SinkFault w = tt
  dump_found read_old read_new told_old told_new NoMemory w = tt

pub dump_ends : (seen : Seen) (name : List ℕ) (told_old told_new : Option (List ℕ)) (counts : CallCounts) (end : ToolEnd) → WritesOn seen name counts.read_old counts.read_new told_old told_new end → SinkByEnd end counts.sink_old counts.sink_new
    → FilesByEnd end counts.files_old counts.files_new → ClashCounts end counts.clashes_old counts.clashes_new → EndsBy end seen (name ∷ []) counts
dump_ends seen name told_old told_new counts end w s f c = ends_by seen (name ∷ []) counts end (dump_found seen name counts.read_old counts.read_new told_old told_new end w) s f (λ one. c)
