-- How what was read of a file, by its name, makes what was gathered of the files up to it.
use Rattle.std.proofs.Common.{◌≡◌, ◌≢◌, ◌∙◌, ℕ, zero, suc, ◌+◌, ◌<◌, List, [], ◌∷◌, ◌++◌, length, take, drop, get_or, Option, Some, IfSome, inl, inr, refl, ap, sym, subst, arith, length-append}
use Rattle.std.specs.Prelude.{true, false, is_some, IsTrue, IsSome, IsNone}
use Rattle.std.proofs.lemmas.List.{take_more}
use Rattle.std.proofs.lemmas.List.Elements.{All-append, All-nil, All-cons}
use Rattle.daq_types.specs.Names.{is_compressed}
use Rattle.daq_types.specs.declared.events.Event.{Event}
use Rattle.daq_io.specs.Counts.{Rose}
use Rattle.daq_io.specs.Seen.{KeepsFiles, Seen, Stored}
use Rattle.daq_io.specs.FileLeft.{told_left}
use Rattle.midas_tools.specs.Pieces.{IsPiece, IsPieceFault}
use Rattle.midas_tools.specs.Together.{ArePlain, HaveBytes, HoldsFault, HaveOneRun, IsWrong, OfFirst}
use Rattle.midas_tools.specs.Findings.{IsThere, IsFileOpened, RefusesFile, ClosesWell, ClosedAs, ClashCounts, FilesByEnd, SourceByEnd}
use Rattle.midas_tools.specs.Gathering.{AreGathered, EndsRefused, GathersAll, GathersTo, IsWrongBehind, LooksFor, OfName, ReadsName, ReadsPiece, TakesPiece, no_extent}
use Rattle.midas_tools.specs.declared.extents.Extent.{Extent}
use Rattle.midas_tools.specs.declared.opening.Refused.{Refused}
use Rattle.midas_tools.specs.declared.opening.Refused.TheVariants.{NameCompressed, NameMissing, OpenFailed}
use Rattle.midas_tools.specs.declared.ends.InputFault.{InputFault}
use Rattle.midas_tools.specs.declared.ends.InputFault.TheVariants.{Mid, Compressed, Missing, ScriptTooLong, OtherRun}
use Rattle.midas_tools.specs.declared.ends.ToolEnd.{ToolEnd}
use Rattle.midas_tools.specs.declared.ends.ToolEnd.TheVariants.{Done, Input, FileFault, SinkFault, NoMemory}
use Rattle.midas_tools.proofs.Ending.{there}
use Rattle.midas_tools.proofs.Pieces.{bytes_more, pieces_more, have_more, fits_pieces}

-- One file by its name

module _ (Taken : List Event → Type 0) (before : List Event) (old new : Extent) (seen : Seen) (name : List ℕ) where
  abbrev Reads : ToolEnd → Type 0
  Reads end = ReadsName Taken before old new seen name end

  module _ (opened : Seen) (number : ℕ) (o : IsFileOpened seen opened name number) where
    takes_there : TakesPiece Taken before old new (IfSome (told_left opened number)) → TakesPiece Taken before old new (OfName seen name)
    takes_there t = record {
      events = t.events;
      taken = t.taken;
      few = t.few;
      within = t.within;
      files = t.files;
      run = t.run;
      run_is = t.run_is;
      same = t.same;
      told = λ tells. there seen opened name number (λ bytes. IsPiece t.run bytes t.events × (new.bytes ≡ old.bytes + length bytes)) o t.told tells;
    }

    closed_name : (files_old files_new : ℕ) (end result : ToolEnd) → ReadsName Taken before old new seen name end → ClosesWell files_old files_new end result → ReadsName Taken before old new seen name result
    closed_name files_old files_new end result reads (inl well) = subst (λ (e : ToolEnd). Reads e) (sym well.0) reads
    closed_name files_old files_new end result reads (inr failed) = subst (λ (e : ToolEnd). Reads e) (sym failed.0) o.plain

    pub name_read : (files_old files_new : ℕ) (end result : ToolEnd) → ReadsPiece Taken before old new (IfSome (told_left opened number)) end → ClosedAs end files_old files_new result → ReadsName Taken before old new seen name result
    name_read files_old files_new Done result r c = closed_name files_old files_new Done result (o.plain, takes_there r) c
    name_read files_old files_new (Input (Mid f)) result r c =
        closed_name files_old files_new (Input (Mid f)) result (o.plain, r.0, λ tells. there seen opened name number (λ bytes. IsWrongBehind old bytes (Mid f)) o r.1 tells) c
    name_read files_old files_new (Input Compressed) result r c = absurd r
    name_read files_old files_new (Input Missing) result r c = absurd r
    name_read files_old files_new (Input ScriptTooLong) result r c = absurd r
    name_read files_old files_new (Input (OtherRun file run)) result r c =
        closed_name files_old files_new (Input (OtherRun file run)) result (o.plain, r.0, r.1, λ tells. there seen opened name number (λ bytes. IsWrongBehind old bytes (OtherRun file run)) o r.2 tells) c
    name_read files_old files_new FileFault result r c = subst (λ (e : ToolEnd). Reads e) (sym c.0) o.plain
    name_read files_old files_new SinkFault result r c = absurd r
    name_read files_old files_new NoMemory result r c = subst (λ (e : ToolEnd). Reads e) (sym c.0) (o.plain, o.opens.there)

  pub name_refused : (faults_old faults_new clashes_old clashes_new : ℕ) (refused : Refused) (end : ToolEnd) → RefusesFile seen name faults_old faults_new clashes_old clashes_new refused → EndsRefused refused end
      → ReadsName Taken before old new seen name end
  name_refused faults_old faults_new clashes_old clashes_new NameCompressed end r is = subst (λ (e : ToolEnd). Reads e) (sym is) r.0
  name_refused faults_old faults_new clashes_old clashes_new NameMissing end r is = subst (λ (e : ToolEnd). Reads e) (sym is) (r.0, r.1)
  name_refused faults_old faults_new clashes_old clashes_new OpenFailed end r is = subst (λ (e : ToolEnd). Reads e) (sym is) r.0

pub looked_refused : (seen : Seen) (name : List ℕ) (faults_old faults_new clashes_old clashes_new : ℕ) (refused : Refused) (end : ToolEnd) → RefusesFile seen name faults_old faults_new clashes_old clashes_new refused → EndsRefused refused end
    → LooksFor seen name end
looked_refused seen name faults_old faults_new clashes_old clashes_new NameCompressed end r is = subst (λ (e : ToolEnd). LooksFor seen name e) (sym is) r.0
looked_refused seen name faults_old faults_new clashes_old clashes_new NameMissing end r is = subst (λ (e : ToolEnd). LooksFor seen name e) (sym is) (r.0, r.1)
looked_refused seen name faults_old faults_new clashes_old clashes_new OpenFailed end r is = subst (λ (e : ToolEnd). LooksFor seen name e) (sym is) r.0

pub looked_opened : (seen opened : Seen) (name : List ℕ) (number : ℕ) (files_old files_new : ℕ) (result : ToolEnd) → IsFileOpened seen opened name number → ClosedAs NoMemory files_old files_new result → LooksFor seen name result
looked_opened seen opened name number files_old files_new result o c = subst (λ (e : ToolEnd). LooksFor seen name e) (sym c.0) (o.plain, o.opens.there)

-- The counts

pub refused_counts : (seen : Seen) (name : List ℕ) (faults_old faults_new clashes_old clashes_new : ℕ) (refused : Refused) (end : ToolEnd) → RefusesFile seen name faults_old faults_new clashes_old clashes_new refused → EndsRefused refused end
    → FilesByEnd end faults_old faults_new
refused_counts seen name faults_old faults_new clashes_old clashes_new NameCompressed end r is = subst (λ (e : ToolEnd). FilesByEnd e faults_old faults_new) (sym is) r.1
refused_counts seen name faults_old faults_new clashes_old clashes_new NameMissing end r is = subst (λ (e : ToolEnd). FilesByEnd e faults_old faults_new) (sym is) r.2
refused_counts seen name faults_old faults_new clashes_old clashes_new OpenFailed end r is = subst (λ (e : ToolEnd). FilesByEnd e faults_old faults_new) (sym is) r.1

pub refused_clash : (seen : Seen) (name : List ℕ) (faults_old faults_new clashes_old clashes_new : ℕ) (refused : Refused) (end : ToolEnd) → RefusesFile seen name faults_old faults_new clashes_old clashes_new refused → EndsRefused refused end
    → ClashCounts end clashes_old clashes_new
refused_clash seen name faults_old faults_new clashes_old clashes_new NameCompressed end r is = subst (λ (e : ToolEnd). ClashCounts e clashes_old clashes_new) (sym is) tt
refused_clash seen name faults_old faults_new clashes_old clashes_new NameMissing end r is = subst (λ (e : ToolEnd). ClashCounts e clashes_old clashes_new) (sym is) r.3
refused_clash seen name faults_old faults_new clashes_old clashes_new OpenFailed end r is = subst (λ (e : ToolEnd). ClashCounts e clashes_old clashes_new) (sym is) tt

module _ (first old new : ℕ) where
  closed_well : (end result : ToolEnd) → old ≡ first → (new ≡ first → FilesByEnd end first new) → ClosesWell old new end result → FilesByEnd result first new
  closed_well end result same counts (inl well) = subst (λ (e : ToolEnd). FilesByEnd e first new) (sym well.0) (counts (well.1 ∙ same))
  closed_well end result same counts (inr failed) = subst (λ (e : ToolEnd). FilesByEnd e first new) (sym failed.0) (subst (λ (n : ℕ). Rose n new) same failed.1)

  pub closed_counts : (end result : ToolEnd) → SourceByEnd end first old → ClosedAs end old new result → FilesByEnd result first new
  closed_counts Done result s c = closed_well Done result s (λ same. same) c
  closed_counts (Input fault) result s c = closed_well (Input fault) result s (λ same. same) c
  closed_counts FileFault result s c = subst (λ (e : ToolEnd). FilesByEnd e first new) (sym c.0) (omega (arith, s, c.1))
  closed_counts SinkFault result s c = subst (λ (e : ToolEnd). FilesByEnd e first new) (sym c.0) (omega (arith, s, c.1))
  closed_counts NoMemory result s c = subst (λ (e : ToolEnd). FilesByEnd e first new) (sym c.0) (omega (arith, s, c.1))

module _ (clashes_old clashes_new : ℕ) where
  abbrev Clash : ToolEnd → Type 0
  Clash end = ClashCounts end clashes_old clashes_new

  clash_well : (files_old files_new : ℕ) (end result : ToolEnd) → ClashCounts end clashes_old clashes_new → ClosesWell files_old files_new end result → ClashCounts result clashes_old clashes_new
  clash_well files_old files_new end result counts (inl well) = subst (λ (e : ToolEnd). Clash e) (sym well.0) counts
  clash_well files_old files_new end result counts (inr failed) = subst (λ (e : ToolEnd). Clash e) (sym failed.0) tt

  pub closed_clash : (Taken : List Event → Type 0) (before : List Event) (old new : Extent) (Told : (List ℕ → Type 0) → Type 0) (files_old files_new : ℕ) (end result : ToolEnd) → ReadsPiece Taken before old new Told end
      → ClosedAs end files_old files_new result → ClashCounts result clashes_old clashes_new
  closed_clash Taken before old new Told files_old files_new Done result r c = clash_well files_old files_new Done result tt c
  closed_clash Taken before old new Told files_old files_new (Input (Mid f)) result r c = clash_well files_old files_new (Input (Mid f)) result tt c
  closed_clash Taken before old new Told files_old files_new (Input Compressed) result r c = absurd r
  closed_clash Taken before old new Told files_old files_new (Input Missing) result r c = absurd r
  closed_clash Taken before old new Told files_old files_new (Input ScriptTooLong) result r c = absurd r
  closed_clash Taken before old new Told files_old files_new (Input (OtherRun file run)) result r c = clash_well files_old files_new (Input (OtherRun file run)) result tt c
  closed_clash Taken before old new Told files_old files_new FileFault result r c = subst (λ (e : ToolEnd). Clash e) (sym c.0) tt
  closed_clash Taken before old new Told files_old files_new SinkFault result r c = absurd r
  closed_clash Taken before old new Told files_old files_new NoMemory result r c = subst (λ (e : ToolEnd). Clash e) (sym c.0) tt

-- The files up to one

pub gathered_none : (Taken : List Event → Type 0) (seen : Seen) (extent : Extent) → Taken [] → extent ≡ no_extent → GathersAll Taken seen [] extent
gathered_none Taken seen extent taken is = subst (λ (e : Extent). GathersAll Taken seen [] e) (sym is) (record {
  plain = All-nil (λ (name : List ℕ). is_compressed name ≡ false);
  gathered = record { events = []; taken = taken; few = omega arith; within = omega arith; met = λ some. let clash : false ≡ true = some in absurd cc };
  count = refl;
  run = 0;
  run_is = λ some. absurd (let e : 0 < 0 = some in omega (arith, e));
  told = λ tells. record { files = []; have = tt; pieces = refl; size_is = refl };
})

one_fits : (old : Option ℕ) (run other : ℕ) → old ≡ Some run → IfSome old (λ n. other ≡ n) → run ≡ other
one_fits old run other is same = let s : other ≡ run = subst (λ (o : Option ℕ). IfSome o (λ n. other ≡ n)) is same in sym s

module _ (Old New : List Event → Type 0) (seen : Seen) (names : List (List ℕ)) (old new : Extent) (g : GathersAll Old seen names old) where
  pub gathered_more : (name : List ℕ) → ReadsName New g.gathered.events old new seen name Done → GathersAll New seen (names ++ name ∷ []) new
  gathered_more name r =
      let t : TakesPiece New g.gathered.events old new (OfName seen name) = r.1 in
      record {
        plain = All-append (λ (n : List ℕ). is_compressed n ≡ false) names (name ∷ []) g.plain (All-cons (λ (n : List ℕ). is_compressed n ≡ false) name [] r.0 (All-nil (λ (n : List ℕ). is_compressed n ≡ false)));
        gathered = record { events = g.gathered.events ++ t.events; taken = t.taken; few = t.few; within = t.within; met = λ some. omega (arith, t.files) };
        count = omega (arith, t.files, g.count, length-append names (name ∷ []));
        run = t.run;
        run_is = λ some. t.run_is;
        told = λ tells.
            let a : AreGathered seen names g.run g.gathered.events old.bytes = g.told tells in
            let th : IsThere seen name (λ bytes. IsPiece t.run bytes t.events × (new.bytes ≡ old.bytes + length bytes)) = t.told tells in
            record {
              files = a.files ++ th.file.bytes ∷ [];
              have = have_more seen names a.files name th.file.bytes a.have (record { file = th.file; at_is = th.at_is; fact = refl });
              pieces = pieces_more t.run a.files g.gathered.events th.file.bytes t.events
                  (fits_pieces seen names a.files g.gathered.events g.run t.run a.have (λ some. one_fits old.run g.run t.run (g.run_is some) t.same) a.pieces) th.fact.0;
              size_is = omega (arith, th.fact.1, a.size_is, bytes_more a.files th.file.bytes);
            };
      }

  abbrev holds_by : IsTrue seen.names → (run : ℕ) → IfSome old.run (λ other. run ≡ other) → HaveOneRun seen names
  holds_by tells run same =
      let a : AreGathered seen names g.run g.gathered.events old.bytes = g.told tells in
      record {
        files = a.files;
        have = a.have;
        run = run;
        events = g.gathered.events;
        are = record {
          pieces = fits_pieces seen names a.files g.gathered.events g.run run a.have (λ some. one_fits old.run g.run run (g.run_is some) same) a.pieces;
          counted = omega (arith, a.size_is, g.gathered.within);
        };
      }

  abbrev pub holds_run : IsTrue seen.names → HaveOneRun seen names
  holds_run tells =
      let a : AreGathered seen names g.run g.gathered.events old.bytes = g.told tells in
      record { files = a.files; have = a.have; run = g.run; events = g.gathered.events; are = record { pieces = a.pieces; counted = omega (arith, a.size_is, g.gathered.within) } }

  fault_by : (name : List ℕ) (fault : InputFault) → IsTrue seen.names → IsThere seen name (λ bytes. IsWrongBehind old bytes fault) → HoldsFault seen names name fault
  fault_by name fault tells found = record {
    holds = holds_by tells found.fact.0 found.fact.1;
    there = record {
      file = found.file;
      at_is = found.at_is;
      fact = subst (λ (n : ℕ). IsPieceFault found.fact.0 n found.file.bytes fault) (g.told tells).size_is found.fact.2;
    };
  }

  pub wrong_name : (name : List ℕ) (fault : InputFault) → ReadsName New g.gathered.events old new seen name (Input fault) → IsWrong seen names name fault
  wrong_name name (Mid f) r = (r.0, r.1, λ tells. fault_by name (Mid f) tells (r.2 tells))
  wrong_name name Compressed r = (r, holds_run)
  wrong_name name Missing r = (r.0, λ tells. (holds_run tells, r.1 tells))
  wrong_name name ScriptTooLong r = r
  wrong_name name (OtherRun file run) r = (r.0, subst (λ (n : ℕ). 0 < n) g.count r.1, r.2 ∙ g.count, λ tells. fault_by name (OtherRun file run) tells (r.3 tells))

-- the files as they were stand for the files that have not changed since
module _ (old new : Seen) (k : KeepsFiles old new) where
  tells_too : IsTrue old.names → IsTrue new.names
  tells_too tells = k.names ∙ tells

  there_too : (name : List ℕ) (Fact : List ℕ → Type 0) → IsThere new name Fact → IsThere old name Fact
  there_too name Fact t = record { file = t.file; at_is = sym (k.at name) ∙ t.at_is; fact = t.fact }

  module _ (Taken : List Event → Type 0) (before : List Event) (was now : Extent) (name : List ℕ) where
    takes_too : TakesPiece Taken before was now (OfName new name) → TakesPiece Taken before was now (OfName old name)
    takes_too t = record {
      events = t.events;
      taken = t.taken;
      few = t.few;
      within = t.within;
      files = t.files;
      run = t.run;
      run_is = t.run_is;
      same = t.same;
      told = λ tells. there_too name (λ bytes. IsPiece t.run bytes t.events × (now.bytes ≡ was.bytes + length bytes)) (t.told (tells_too tells));
    }

    pub reads_too : (end : ToolEnd) → ReadsName Taken before was now new name end → ReadsName Taken before was now old name end
    reads_too Done r = (r.0, takes_too r.1)
    reads_too (Input (Mid f)) r = (r.0, r.1, λ tells. there_too name (λ bytes. IsWrongBehind was bytes (Mid f)) (r.2 (tells_too tells)))
    reads_too (Input Compressed) r = r
    reads_too (Input Missing) r = (r.0, λ tells. subst (λ (o : Option Stored). IsNone o) (k.at name) (r.1 (tells_too tells)))
    reads_too (Input ScriptTooLong) r = r
    reads_too (Input (OtherRun file run)) r = (r.0, r.1, r.2, λ tells. there_too name (λ bytes. IsWrongBehind was bytes (OtherRun file run)) (r.3 (tells_too tells)))
    reads_too FileFault r = r
    reads_too SinkFault r = r
    reads_too NoMemory r = (r.0, λ tells. subst (λ (o : Option Stored). IsSome o) (k.at name) (r.1 (tells_too tells)))

pub clash_first : (first old new : ℕ) (end : ToolEnd) → old ≡ first → ClashCounts end old new → ClashCounts end first new
clash_first first old new end same counts = subst (λ (n : ℕ). ClashCounts end n new) same counts

-- Where the files stop

first_plain : (names : List (List ℕ)) (at : ℕ) → at < length names → ArePlain (take at names) → is_compressed (get_or names at []) ≡ false → OfFirst names (λ name. is_compressed name ≡ false)
first_plain [] at inside plain here = absurd (omega (arith, inside))
first_plain (name ∷ names) zero inside plain here = here
first_plain (name ∷ names) (suc at) inside plain here = plain 0 name (omega arith)

there_some : (seen : Seen) (name bytes : List ℕ) → IsThere seen name (λ found. found ≡ bytes) → IsSome (seen.at name)
there_some seen name bytes t = ap (is_some {T = Stored}) t.at_is

first_have : (seen : Seen) (name : List ℕ) (names files : List (List ℕ)) → HaveBytes seen (name ∷ names) files → IsSome (seen.at name)
first_have seen name names [] h = absurd h
first_have seen name names (bytes ∷ files) h = there_some seen name bytes h.0

first_there : (Taken : List Event → Type 0) (seen : Seen) (names : List (List ℕ)) (at : ℕ) (extent : Extent) → at < length names → GathersAll Taken seen (take at names) extent
    → is_compressed (get_or names at []) ≡ false → (IsTrue seen.names → IsSome (seen.at (get_or names at []))) → OfFirst names (λ name. (is_compressed name ≡ false) × (IsTrue seen.names → IsSome (seen.at name)))
first_there Taken seen [] at extent inside g plain some = absurd (omega (arith, inside))
first_there Taken seen (name ∷ names) zero extent inside g plain some = (plain, some)
first_there Taken seen (name ∷ names) (suc at) extent inside g plain some =
    (g.plain 0 name (omega arith), λ tells. first_have seen name (take at names) (g.told tells).files (g.told tells).have)

pub stops_at : (Old New : List Event → Type 0) (seen : Seen) (names : List (List ℕ)) (at : ℕ) (old new last : Extent) (end : ToolEnd) → at < length names → (g : GathersAll Old seen (take at names) old)
    → ReadsName New g.gathered.events old new seen (get_or names at []) end → end ≢ Done → GathersTo New seen names last at end
stops_at Old New seen names at old new last Done inside g r ne = absurd (ne refl)
stops_at Old New seen names at old new last (Input fault) inside g r ne =
    record { inside = inside; plain = g.plain; wrong = wrong_name Old New seen (take at names) old new g (get_or names at []) fault r }
stops_at Old New seen names at old new last FileFault inside g r ne = first_plain names at inside g.plain r
stops_at Old New seen names at old new last SinkFault inside g r ne = absurd r
stops_at Old New seen names at old new last NoMemory inside g r ne = first_there Old seen names at old inside g r.0 r.1

pub goes_on : (Old New : List Event → Type 0) (seen : Seen) (names : List (List ℕ)) (at : ℕ) (old new : Extent) (end : ToolEnd) → end ≡ Done → at < length names → (g : GathersAll Old seen (take at names) old)
    → ReadsName New g.gathered.events old new seen (get_or names at []) end → GathersAll New seen (take (at + 1) names) new
goes_on Old New seen names at old new end is inside g r =
    subst (λ (ns : List (List ℕ)). GathersAll New seen ns new) (sym (take_more names at [] inside))
    (gathered_more Old New seen (take at names) old new g (get_or names at []) (subst (λ (e : ToolEnd). ReadsName New g.gathered.events old new seen (get_or names at []) e) is r))

pub first_all : (Taken : List Event → Type 0) (seen : Seen) (names : List (List ℕ)) (extent : Extent) → 0 < length names → GathersAll Taken seen names extent
    → OfFirst names (λ name. (is_compressed name ≡ false) × (IsTrue seen.names → IsSome (seen.at name)))
first_all Taken seen [] extent some g = absurd (omega (arith, some))
first_all Taken seen (name ∷ names) extent some g = (g.plain 0 name (omega arith), λ tells. first_have seen name names (g.told tells).files (g.told tells).have)

pub no_run : (seen : Seen) → HaveOneRun seen []
no_run seen = record { files = []; have = tt; run = 0; events = []; are = record { pieces = refl; counted = omega arith } }

any_default : (names : List (List ℕ)) (at : ℕ) (d e : List ℕ) → at < length names → get_or names at d ≡ get_or names at e
any_default [] at d e inside = absurd (omega (arith, inside))
any_default (name ∷ names) zero d e inside = refl
any_default (name ∷ names) (suc at) d e inside = any_default names at d e (omega (arith, inside))

-- the name at a place, whatever stands for one where there is none
pub name_at : (names : List (List ℕ)) (at : ℕ) (name : List ℕ) → name ≡ get_or names at name → at < length names → name ≡ get_or names at []
name_at names at name is inside = is ∙ any_default names at name [] inside

-- names in front of one, it, and those behind it
pub split_at : (names : List (List ℕ)) (at : ℕ) → at < length names → names ≡ take at names ++ get_or names at [] ∷ drop (at + 1) names
split_at [] at inside = absurd (omega (arith, inside))
split_at (name ∷ names) zero inside = refl
split_at (name ∷ names) (suc at) inside =
    ap (λ (ns : List (List ℕ)). name ∷ ns) (split_at names at (omega (arith, inside)))
    ∙ ap (λ (n : ℕ). name ∷ (take at names ++ get_or names at [] ∷ drop n (name ∷ names))) {x = suc (at + 1)} {y = suc at + 1} (omega arith)
