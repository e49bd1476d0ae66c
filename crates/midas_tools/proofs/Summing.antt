-- What was read of a file behind others of its run: its events are taken behind theirs, and it is whole or wrong.
use Rattle.std.proofs.Common.{◌≡◌, ◌≢◌, ◌∙◌, ℕ, ◌+◌, ◌≤◌, ◌<◌, ◌^◌, List, [], ◌∷◌, ◌++◌, length, Option, Some, None, Ok, IfSome, refl, ap, sym, subst, arith, length-append, append_assoc}
use Rattle.std.specs.Prelude.{true, false, is_some, unwrap_or, IsSome, IsNone, ◌↔◌}
use Rattle.std.proofs.lemmas.List.{append-nil}
use Rattle.std.specs.Io.KnownBytes.{Consumes, IsAtEnd}
use Rattle.daq_types.specs.declared.events.Event.{Event}
use Rattle.event.specs.Events.{encoding, all_encoded}
use Rattle.event.proofs.Events.{length-encoding}
use Rattle.event.specs.declared.head.Header.{Header}
use Rattle.mid_format.specs.HasRead.{HasRead, IsReadSoFar, begins_at}
use Rattle.mid_format.specs.Opened.{run_number_of}
use Rattle.mid_format.specs.AtHand.{TakesNext, TakesSoFar}
use Rattle.mid_format.proofs.AtHand.{encoded_both}
use Rattle.mid_format.proofs.ReadLaws.{events_before, has_read_none, read_whole, read_fault, run_read, run_unread}
use Rattle.mid_format.specs.ReadLaws.{IsWholeFile, ReadsWhole}
use Rattle.mid_format.specs.declared.faults.MidFault.{MidFault}
use Rattle.mid_format.specs.declared.faults.MidFault.TheVariants.{Truncated, NoBegin, NoEnd, AfterEnd, TooBig, ReadFault, BadRecord, TooLong}
use Rattle.mid_format.specs.declared.progress.Progress.{Progress}
use Rattle.midas_tools.specs.Summaries.{SumsSome}
use Rattle.midas_tools.specs.Pieces.{IsPiece, in_file}
use Rattle.midas_tools.specs.Gathering.{EndsAtFault, IsOther, IsWrongBehind, ReadsPiece, TakesPiece, extent_behind}
use Rattle.midas_tools.specs.declared.extents.Extent.{Extent}
use Rattle.midas_tools.specs.declared.ends.InputFault.TheVariants.{Mid, Compressed, Missing, ScriptTooLong, OtherRun}
use Rattle.midas_tools.specs.declared.ends.ToolEnd.{ToolEnd}
use Rattle.midas_tools.specs.declared.ends.ToolEnd.TheVariants.{Done, Input, FileFault, SinkFault, NoMemory}

some_none : {A B : Type 0} (x : A) → None ≡ Some x → B
some_none x e = let t : false ≡ true = ap is_some e in absurd cc

pub some_of : (last : Option Header) → IsSome last → (end : Header) × (last ≡ Some end)
some_of None h = let e : false ≡ true = h in absurd cc
some_of (Some end) h = (end, refl)

header_or : Header → Option Header → Header
header_or d None = d
header_or d (Some h) = h

same_header : (a b : Header) → Some a ≡ Some b → a ≡ b
unfolding header_or
same_header a b e = ap (header_or a) e

-- There are not more events than bytes.
pub count_within : (events : List Event) → length events ≤ length (all_encoded events)
count_within [] = omega arith
count_within (e ∷ es) = omega (arith, count_within es, length-append (encoding e) (all_encoded es), length-encoding e)

-- Taking in events, behind those of other files

module _ (Before : List Event → Type 0) (before : List Event) where
  abbrev Behind : List Event → Type 0
  Behind events = Before (before ++ events)

  pub sums_none : (start : ℕ) (first : Option (List ℕ)) (p : Progress) → Before before → p ≡ begins_at start → start ≤ 2 ^ 62 → SumsSome (λ events. Before (before ++ events)) start first first p
  sums_none start first p taken e within = record {
    events = [];
    sums = subst Before (sym (append-nil before)) taken;
    read = subst (λ (q : Progress). HasRead start first first q []) (sym e) (has_read_none start first within);
    sound = ap (λ (q : Progress). q.fault) e;
  }

  -- what the next answer of a reader makes of it
  pub takes_so_far : (start : ℕ) (first now : Option (List ℕ)) (p : Progress) → length (all_encoded before) ≤ start → SumsSome (λ events. Before (before ++ events)) start first now p → TakesSoFar Before now p
  takes_so_far start first now p few s = record { start = start; first = first; before = before; few = few; events = s.events; read = s.read; taken = s.sums }

  module _ (start : ℕ) (first now after : Option (List ℕ)) (old new : Progress) (s : SumsSome (λ events. Before (before ++ events)) start first now old) (After : List Event → Type 0) where
    pub sums_more : (given : Option (Unit {0})) → is_some given ≡ true → TakesNext After start first after new before s.events (Ok given) → new.fault ≡ None → SumsSome (λ events. After (before ++ events)) start first after new
    sums_more None some t sound = let clash : false ≡ true = some in absurd cc
    sums_more (Some one) some t sound =
        record { events = s.events ++ t.event ∷ []; sums = subst After (append_assoc before s.events (t.event ∷ [])) t.taken; read = t.read; sound = sound }

-- A whole file

place_whole : (text done : List ℕ) (now : Option (List ℕ)) → Consumes (Some text) now done → IsAtEnd now → length text ≡ length done
place_whole text done None c e = absurd c
place_whole text done (Some left) c e = ap (length {A = ℕ}) (c ∙ ap (λ (l : List ℕ). done ++ l) e ∙ append-nil done)

begun_of : (done : List ℕ) (begin last : Option Header) (events : List Event) (end : Header) → IsReadSoFar done begin last events → last ≡ Some end → (b : Header) × (begin ≡ Some b)
begun_of done None None events end d is = some_none end is
begun_of done None (Some last) events end d is = absurd d
begun_of done (Some b) last events end d is = (b, refl)

whole_piece : (start : ℕ) (first now : Option (List ℕ)) (p : Progress) (events : List Event) (b end : Header) → HasRead start first now p events → p.fault ≡ None → p.last ≡ Some end → p.begin ≡ Some b
    → IfSome first (λ bytes. IsPiece b.serial_number bytes events × (p.at ≡ start + length bytes))
whole_piece start None now p events b end r sound last is = tt
whole_piece start (Some text) now p events b end r sound last is =
    let w : ReadsWhole text p end events = read_whole start text now p end events r sound last in
    let same : w.begin ≡ b = same_header w.begin b (sym w.begin_is ∙ is) in (
      record {
        time0 = w.begin.time_stamp;
        dump0 = w.dump0;
        time1 = end.time_stamp;
        dump1 = w.dump1;
        whole = subst (λ (n : ℕ). IsWholeFile text n w.begin.time_stamp w.dump0 events end.time_stamp w.dump1) (ap (λ (h : Header). h.serial_number) same) w.whole;
      },
      r.place ∙ ap (λ (n : ℕ). start + n) (sym (place_whole text r.done now (r.consumed sound) (r.at_end sound end last))),
    )

-- the run of a file is that of the files before it, where there are some
fits_run : (old : Option ℕ) (begin : Option Header) (b : Header) → IsOther old (run_number_of begin) None → begin ≡ Some b → IfSome old (λ other. b.serial_number ≡ other)
fits_run None begin b same is = tt
fits_run (Some run) begin b same is = same run b.serial_number refl (ap run_number_of is)

module _ (old : Extent) (first now : Option (List ℕ)) (p : Progress) (before events : List Event) where
  pub piece_done : (Taken : List Event → Type 0) (given : Option (Unit {0})) → is_some given ≡ false → TakesNext Taken old.bytes first now p before events (Ok given) → length (all_encoded before) ≤ old.bytes → p.fault ≡ None
      → (IsNone given ↔ IsSome p.last) → IsOther old.run (run_number_of p.begin) None → TakesPiece Taken before old (extent_behind old p) (IfSome first)
  piece_done Taken (Some one) none t few sound ends same = let clash : true ≡ false = none in absurd cc
  piece_done Taken None none t few sound ends same =
      let last = some_of p.last (ends.0 refl) in
      let begun = begun_of t.read.done p.begin p.last events last.0 t.read.is_done last.1 in
      record {
        events = events;
        taken = t.taken;
        few = omega (arith, encoded_both before events, few, events_before old.bytes first now p events t.read);
        within = t.read.within;
        files = refl;
        run = begun.0.serial_number;
        run_is = ap run_number_of begun.1;
        same = fits_run old.run p.begin begun.0 same begun.1;
        told = whole_piece old.bytes first now p events begun.0 last.0 t.read sound last.1 begun.1;
      }

-- what was found of the run of a file, by what its begin record has
pub other_by : (before found run found' : Option ℕ) → IsOther before run found → run ≡ found' → (told : Option ℕ) → found ≡ told → IsOther before found' told
other_by before found run found' is same told told_is = subst (λ (o : Option ℕ). IsOther before found' o) told_is (subst (λ (o : Option ℕ). IsOther before o found) same is)

-- A file that is wrong

pub in_file_sound : (before : ℕ) (f : MidFault) → f ≢ ReadFault → in_file before f ≢ ReadFault
in_file_sound before (Truncated at) ne = λ e. absurd cc
in_file_sound before (NoBegin at) ne = λ e. absurd cc
in_file_sound before (NoEnd at) ne = λ e. absurd cc
in_file_sound before (AfterEnd at) ne = λ e. absurd cc
in_file_sound before (TooBig at size) ne = λ e. absurd cc
in_file_sound before ReadFault ne = λ e. ne refl
in_file_sound before (BadRecord at) ne = λ e. absurd cc
in_file_sound before (TooLong at) ne = λ e. absurd cc

some_number : (a b : ℕ) → Some a ≡ Some b → a ≡ b
some_number a b e = ap (λ (o : Option ℕ). unwrap_or o a) e

fits_own : (old : Option ℕ) → IfSome old (λ other. unwrap_or old 0 ≡ other)
fits_own None = tt
fits_own (Some run) = refl

module _ (old : Extent) (now : Option (List ℕ)) (p : Progress) (events : List Event) (f : MidFault) (ne : f ≢ ReadFault) (is_fault : p.fault ≡ Some f) (same : IsOther old.run (run_number_of p.begin) None) where
  wrong_by : (text : List ℕ) (begin : Option Header) → p.begin ≡ begin → HasRead old.bytes (Some text) now p events → IsWrongBehind old text (Mid (in_file old.bytes f))
  wrong_by text None is r = (
    unwrap_or old.run 0,
    fits_own old.run,
    record {
      one_run = λ other e. some_none other (sym (run_unread old.bytes text now p events f r is is_fault ne) ∙ e);
      placed = f;
      first = read_fault old.bytes text now p f events r is_fault ne;
      fault_is = refl;
    },
  )
  wrong_by text (Some b) is r = (
    b.serial_number,
    fits_run old.run p.begin b same is,
    record {
      one_run = λ other e. some_number other b.serial_number (sym e ∙ run_read old.bytes text now p events b r is);
      placed = f;
      first = read_fault old.bytes text now p f events r is_fault ne;
      fault_is = refl;
    },
  )

  pub piece_wrong : (first : Option (List ℕ)) → HasRead old.bytes first now p events → IfSome first (λ bytes. IsWrongBehind old bytes (Mid (in_file old.bytes f)))
  piece_wrong None r = tt
  piece_wrong (Some text) r = wrong_by text p.begin refl r

found_header : (begin : Option Header) (other : ℕ) → run_number_of begin ≡ Some other → (h : Header) × (begin ≡ Some h) × (h.serial_number ≡ other)
found_header None other e = some_none other e
found_header (Some h) other e = (h, refl, some_number h.serial_number other e)

told_other : (old : Extent) (first now : Option (List ℕ)) (p : Progress) (events : List Event) (other : ℕ) → HasRead old.bytes first now p events → IsOther old.run (run_number_of p.begin) (Some other)
    → IfSome first (λ bytes. IsWrongBehind old bytes (OtherRun old.files other))
told_other old None now p events other r found = tt
told_other old (Some text) now p events other r found =
    let h = found_header p.begin other found.2 in (
      found.0,
      subst (λ (o : Option ℕ). IfSome o (λ other. found.0 ≡ other)) (sym found.1) refl,
      record { begun = run_read old.bytes text now p events h.0 r h.1 ∙ ap Some h.2; differs = found.3 },
    )

pub piece_other : (old : Extent) (first now : Option (List ℕ)) (p : Progress) (events : List Event) (other : ℕ) → (IsSome old.run → 0 < old.files) → HasRead old.bytes first now p events → IsOther old.run (run_number_of p.begin) (Some other)
    → (0 < old.files) × (old.files ≡ old.files) × IfSome first (λ bytes. IsWrongBehind old bytes (OtherRun old.files other))
piece_other old first now p events other met r found = (met (ap (is_some {T = ℕ}) found.1), refl, told_other old first now p events other r found)

-- a fault, by the end to which it leads
module _ (old : Extent) (first now : Option (List ℕ)) (p : Progress) (before events : List Event) (f : MidFault) (Taken : List Event → Type 0) (new : Extent) (met : IsSome old.run → 0 < old.files) (r : HasRead old.bytes first now p events) (is_fault : p.fault ≡ Some f) where
  pub fault_piece : (end : ToolEnd) → EndsAtFault old (run_number_of p.begin) f end → ReadsPiece Taken before old new (IfSome first) end
  fault_piece Done e = absurd e
  fault_piece (Input (Mid found)) e =
      subst (λ (g : MidFault). (g ≢ ReadFault) × IfSome first (λ bytes. IsWrongBehind old bytes (Mid g))) (sym e.2) (in_file_sound old.bytes f e.0, piece_wrong old now p events f e.0 is_fault e.1 first r)
  fault_piece (Input Compressed) e = absurd e
  fault_piece (Input Missing) e = absurd e
  fault_piece (Input ScriptTooLong) e = absurd e
  fault_piece (Input (OtherRun file other)) e =
      subst (λ (n : ℕ). (0 < old.files) × (n ≡ old.files) × IfSome first (λ bytes. IsWrongBehind old bytes (OtherRun n other))) (sym e.2) (piece_other old first now p events other met r e.1)
  fault_piece FileFault e = tt
  fault_piece SinkFault e = absurd e
  fault_piece NoMemory e = absurd e
