-- Steps of one file in memory, as they are told.
use Rattle.std.proofs.Common.{◌≡◌, ◌≢◌, ℕ, ◌<◌, suc, zero, false, true, List, [], ◌∷◌, ◌++◌, length, Some, refl, sym, ◌∙◌, ap, subst, arith}
use Rattle.std.specs.Prelude.{IsTrue}
use Rattle.std.proofs.lemmas.List.{append-nil}
use Rattle.daq_io.specs.Seen.{Closes, ExtendsPart, FileDone, InUse, Same, Seen, is_state_closed, stored_as, stored_open, was_left}
use Rattle.daq_io.specs.Traces.{ChangesTrace, trace_at}
use Rattle.daq_io.specs.Uses.{ChangesUse, is_reading, is_writing, name_by, use_at}
use Rattle.daq_io.specs.declared.folder.FileState.{FileState}
use Rattle.daq_io.specs.declared.uses.Usage.{Usage}
use Rattle.daq_io.specs.declared.uses.Usage.TheVariants.{Free, Writing}
use Rattle.daq_io.proofs.SeenLaws.{KeepsFiles-Touches}
use Rattle.daq_mem.specs.MemSeen.{ChangesNothing, ChangesOnly, seen_of, stored_in}
use Rattle.daq_mem.specs.declared.readers.Reader.{Reader}
use Rattle.daq_mem.specs.declared.slots.Slot.{Slot}

-- a number that is in use for writing is one of those that there are
pub writing_inside : (uses : List Usage) (number : ℕ) → IsTrue (is_writing (use_at uses number)) → number < length uses
writing_inside [] zero h = let e : false ≡ true = h in cc
writing_inside [] (suc i) h = let e : false ≡ true = h in cc
writing_inside (usage ∷ uses) zero h = omega arith
writing_inside (usage ∷ uses) (suc i) h = omega (arith, writing_inside uses i h)

in_use_writing : (s : Seen) (n : ℕ) → IsTrue (s.writes n) → InUse s n
in_use_writing s n h = rw h refl

-- where nothing changed, none of the bytes was appended
pub none_appended : {a b : Seen} (number : ℕ) (bytes : List ℕ) → IsTrue (a.writes number) → Same a b → ExtendsPart a b number bytes
none_appended {a} {b} number bytes h same = record {
  count = 0;
  wrote = record {
    writes = h;
    touches = KeepsFiles-Touches (a.name_of number) same.files;
    others = λ other ne. same.numbers other;
    still = (same.numbers number).writes;
    reads = (same.numbers number).reads;
    named = (same.numbers number).name (in_use_writing a number h);
    left = (same.numbers number).left;
    done = same.files.done;
    holds = λ told so_far here. rw (append-nil so_far) (same.files.at (a.name_of number) ∙ here);
  };
  given = ([], append-nil (b.given number) ∙ ((same.numbers number).given h ∙ sym (append-nil (a.given number))));
}

-- slots in which no file is another tell the same
pub same_slots : (slots slots' : List Slot) (uses : List Usage) (readers : List Reader) (given : List (List ℕ)) (done : List FileDone) → ChangesNothing slots slots' → Same (seen_of slots uses readers given done) (seen_of slots' uses readers given done)
same_slots slots slots' uses readers given done kept = record {
  files = record { names = refl; at = kept.all; done = refl };
  numbers = λ number. record { writes = refl; reads = refl; name = λ used. refl; left = λ read. refl; given = λ written. refl };
}

-- a file that was written is left so, with all that was given
pub left_so : (slots slots' : List Slot) (uses uses' : List Usage) (readers : List Reader) (given given' : List (List ℕ)) (done done' : List FileDone) (number : ℕ) (name has : List ℕ) (state : FileState)
    → use_at uses number ≡ Writing name → ChangesUse uses uses' number Free → ChangesOnly slots slots' name
    → ((so_far : List ℕ) → stored_in slots name ≡ Some (stored_open so_far) → stored_in slots' name ≡ Some (stored_as state so_far)) → IsTrue (is_state_closed state)
    → has ≡ trace_at given number → ChangesTrace given given' number [] → done' ≡ done ++ was_left name (stored_as state has) ∷ []
    → Closes (seen_of slots uses readers given done) (seen_of slots' uses' readers given' done') number state []
left_so slots slots' uses uses' readers given given' done done' number name has state writing freed changed left closed has_is taken done_is =
    let is : name_by (use_at uses number) ≡ name = ap name_by writing in record {
      leaves = record {
        writes = ap is_writing writing;
        touches = record { names = refl; others = λ other ne. changed.others other (subst (λ (n : List ℕ). other ≢ n) is ne) };
        others = λ other ne. record {
          writes = ap is_writing (freed.others other ne);
          reads = ap is_reading (freed.others other ne);
          name = λ used. ap name_by (freed.others other ne);
          left = λ read. refl;
          given = λ written. taken.others other ne;
        };
        free = record { writes = ap is_writing freed.usage_is; reads = ap is_reading freed.usage_is };
        closed = closed;
        holds = λ told so_far here. subst (λ (n : List ℕ). stored_in slots' n ≡ Some (stored_as state (so_far ++ []))) (sym is)
            (rw (append-nil so_far) (left so_far (subst (λ (n : List ℕ). stored_in slots n ≡ Some (stored_open so_far)) is here)));
        has = has;
        part = ([], ap (λ (l : List ℕ). l ++ []) has_is);
        done = done_is ∙ ap (λ (n : List ℕ). done ++ was_left n (stored_as state has) ∷ []) (sym is);
      };
      whole = λ is_closed. has_is ∙ sym (append-nil (trace_at given number));
    }
