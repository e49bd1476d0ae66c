-- Calls that a command for dumps made, on the database and on its files, and where memory cut them short.
use Rattle.std.proofs.Common.{◌≡◌, ◌≢◌, ◌⊎◌, ℕ, zero, suc, ◌<◌, ◌≤◌, Bool, true, false, IsTrue, List, [], ◌∷◌, length, get_or, All, Option, Some, None, Result, Ok, Err, refl, ap, sym, subst, ◌∙◌, inl, inr, arith}
use Rattle.std.specs.Prelude.{IfOk, OnErr, IsSome}
use Rattle.std.proofs.lemmas.Bool.{false≢true}
use Rattle.std.proofs.lemmas.Result.{IfOk-weaker, on_err_weaker}
use Rattle.daq_types.specs.declared.memory.NoMemory.{NoMemory}
use Rattle.daq_types.specs.Names.{is_file_byte, IsFileName}
use Rattle.daq_io.specs.Seen.{Seen, Same, Stored}
use Rattle.daq_io.proofs.SeenLaws.{Same-refl}
use Rattle.odb_text.specs.declared.acts.Loaded.{Loaded}
use Rattle.odb_text.specs.declared.acts.LoadRefusal.{LoadRefusal}
use Rattle.odb_text.specs.declared.acts.LoadRefusal.TheVariants as load
use Rattle.odb_watch.specs.declared.entry.WatchEntry.{WatchEntry}
use Rattle.odb_watch.specs.declared.entry.WatchEntry.TheVariants as call
use Rattle.odb_watch.specs.DatabasePorts.{DatabaseAccess, AddsEntry}
use Rattle.odb_commands.specs.declared.dump_replies.FileReply.{FileReply}
use Rattle.odb_commands.specs.declared.dump_replies.FileReply.TheVariants as file
use Rattle.odb_commands.specs.declared.dump_replies.FileRead.{FileRead}
use Rattle.odb_commands.specs.declared.dump_replies.FileRead.TheVariants as was
use Rattle.odb_commands.specs.FileReplies.{FaultsOf, ClashesOf, NamesFault}
use Rattle.odb_commands.specs.WholeFiles.{ReadsFile, WritesFile, file_limit}
use Rattle.odb_commands.specs.declared.watch_replies.WatchCommandRefusal.TheVariants.{BadFileName, Missing, FileFault, TooLong}
use Rattle.odb_commands.specs.declared.watch_replies.WatchReply.TheVariants.{Refused}
use Rattle.odb_commands.specs.declared.watch_replies.WatchAnswer.{WatchAnswer}
use Rattle.odb_commands.specs.WatchAnswers.{refused_for, said_with, loaded_or, saved_or}
use Rattle.odb_commands.specs.WatchCalls.{OnFileName, IsLoadSettled, LoadsWhole, LoadsRead, LoadsFile, SavesFile, AnswersWatch, CutsWatch, EndsWatchCommand, FaultsIf, ClashesIf, NamesFaultIf, IsLoadable}
use Rattle.odb_commands.proofs.WatchMade.{Some_does, Some_cut, cut_at_first, ends_so}

-- A text is loaded.

not_for_memory : load.BadLine 0 ≢ load.NoMemory
not_for_memory e = cc

pub whole_loaded : (a b : DatabaseAccess) (text : List ℕ) (given got : Result Loaded LoadRefusal) (answer : WatchAnswer) → AddsEntry a b (call.Load text given) → got ≡ given → IsLoadSettled got → answer ≡ loaded_or got
    → AnswersWatch a b (LoadsWhole text) answer
whole_loaded a b text given got answer called same settled is = record {
  calls = call.Load text got ∷ [];
  made = (b, subst (λ (r : Result Loaded LoadRefusal). AddsEntry a b (call.Load text r)) (sym same) called, refl);
  does = (got, refl, settled, is);
}

pub whole_cut : (a b : DatabaseAccess) (text : List ℕ) (got : Result Loaded LoadRefusal) → AddsEntry a b (call.Load text got) → got ≡ Err load.NoMemory → CutsWatch a b (LoadsWhole text)
whole_cut a b text got called wanting =
    cut_at_first a b (LoadsWhole text) (call.Load text got) (call.Load text (Err (load.BadLine 0))) (loaded_or (Err (load.BadLine 0))) (Err (load.BadLine 0), refl, not_for_memory, refl)
    (ap (λ (r : Result Loaded LoadRefusal). call.Load text r) wanting) (λ same. cc) called

-- A file is read, and its text loaded.

pub loadable : (seen : Seen) (name : List ℕ) (read : FileRead) → ReadsFile seen name read → IsLoadable read
loadable seen name (was.Whole text) reads = reads.fits
loadable seen name was.Missing reads = tt
loadable seen name was.Fault reads = tt
loadable seen name was.TooLong reads = tt

pub file_loaded : (old new : Seen) (name : List ℕ) (read : FileRead) (result : Result WatchAnswer NoMemory) (a b : DatabaseAccess) → Same old new → ReadsFile old name read → EndsWatchCommand a b (LoadsRead read) result
    → EndsWatchCommand a b (LoadsFile old new name) result
file_loaded old new name read result a b same reads ends = ends_so a b (LoadsRead read) (LoadsFile old new name) result (λ calls answer does. (read, same, reads, does)) ends

-- what a file may be read as, whatever is told
some_read : (seen : Seen) (name : List ℕ) (tells : Bool) (at : Option Stored) → seen.names ≡ tells → seen.at name ≡ at → (read : FileRead) × ReadsFile seen name read × Some_does (LoadsRead read)
some_read seen name false at told is =
    (was.Missing, λ (h : IsTrue seen.names). (let wrong : false ≡ true = sym told ∙ h in absurd (cc)), ([], said_with file.Clash (Refused Missing), (refl, refl)))
some_read seen name true None told is = (was.Missing, λ h. is, ([], said_with file.Clash (Refused Missing), (refl, refl)))
some_read seen name true (Some found) told is =
    (was.Fault, λ h. subst (λ (o : Option Stored). IsSome o) (sym is) refl, ([], said_with file.Fault (Refused FileFault), (refl, refl)))

pub some_loads : (old new : Seen) (name : List ℕ) → Same old new → Some_does (LoadsFile old new name)
some_loads old new name same =
    let read : (read : FileRead) × ReadsFile old name read × Some_does (LoadsRead read) = some_read old name old.names (old.at name) refl refl in
    (read.2.0, read.2.1, (read.0, same, read.1, read.2.2))

-- Memory ended while a file was read, which is there: its text would have been loaded, or it is too long.

whole_begun : (text : List ℕ) → Some_cut (LoadsWhole text)
whole_begun text = ((call.Load text (Err (load.BadLine 0)) ∷ [], loaded_or (Err (load.BadLine 0)), (Err (load.BadLine 0), refl, not_for_memory, refl)), λ h. absurd (cc))

read_by_length : (seen : Seen) (name : List ℕ) (found : Stored) → seen.at name ≡ Some found → (file_limit < length found.bytes) ⊎ (length found.bytes ≤ file_limit) → (read : FileRead) × ReadsFile seen name read × Some_cut (LoadsRead read)
read_by_length seen name found is (inl long) = (was.TooLong, λ h. (found, is, long), (([], said_with file.TooLong (Refused TooLong), (refl, refl)), λ h. refl))
read_by_length seen name found is (inr fits) = (was.Whole found.bytes, record { there = λ h. (found, is, refl); fits = fits }, whole_begun found.bytes)

long_or_not : (n limit : ℕ) → (limit < n) ⊎ (n ≤ limit)
long_or_not zero limit = inr (omega arith)
long_or_not (suc n) zero = inl (omega arith)
long_or_not (suc n) (suc limit) = elim (long_or_not n limit) as (λ _. (suc limit < suc n) ⊎ (suc n ≤ suc limit)) [ inl h ↦ inl (omega (arith, h)) | inr h ↦ inr (omega (arith, h)) ]

read_begun : (seen : Seen) (name : List ℕ) (tells : Bool) (at : Option Stored) → seen.names ≡ tells → seen.at name ≡ at → (IsTrue seen.names → IsSome (seen.at name)) → (read : FileRead) × ReadsFile seen name read × Some_cut (LoadsRead read)
read_begun seen name false at told is there =
    (was.Whole [], record { there = λ (h : IsTrue seen.names). (let wrong : false ≡ true = sym told ∙ h in absurd (cc)); fits = omega arith }, whole_begun [])
read_begun seen name true None told is there = absurd (false≢true (subst (λ (o : Option Stored). IsSome o) is (there told)))
read_begun seen name true (Some found) told is there = read_by_length seen name found is (long_or_not (length found.bytes) file_limit)

pub cut_loads : (old new : Seen) (name : List ℕ) → Same old new → (IsTrue old.names → IsSome (old.at name)) → Some_cut (LoadsFile old new name)
cut_loads old new name same there =
    let read : (read : FileRead) × ReadsFile old name read × Some_cut (LoadsRead read) = read_begun old name old.names (old.at name) refl refl there in
    ((read.2.0.0, read.2.0.1, (read.0, same, read.1, read.2.0.2)), read.2.1)

-- The text of the database is saved to a file.

pub file_saved : (old new : Seen) (name : List ℕ) (a b : DatabaseAccess) (given : Result (List ℕ) NoMemory) (text slice : List ℕ) (bytes : ℕ) (came : FileReply) (answer : WatchAnswer) → AddsEntry a b (call.Save given) → given ≡ Ok text
    → slice ≡ text → WritesFile old new name slice came → bytes ≡ length slice → answer ≡ saved_or bytes came → AnswersWatch a b (SavesFile old new name) answer
file_saved old new name a b given text slice bytes came answer called is same writes size said = record {
  calls = call.Save (Ok text) ∷ [];
  made = (b, subst (λ (r : Result (List ℕ) NoMemory). AddsEntry a b (call.Save r)) is called, refl);
  does = (text, came, refl, subst (λ (t : List ℕ). WritesFile old new name t came) same writes, said ∙ ap (λ (n : ℕ). saved_or n came) (size ∙ ap (λ (t : List ℕ). length t) same));
}

some_written : (seen : Seen) (name : List ℕ) (tells : Bool) (at : Option Stored) → seen.names ≡ tells → seen.at name ≡ at → (came : FileReply) × WritesFile seen seen name [] came
some_written seen name false at told is =
    (file.Clash, (Same-refl seen, λ (h : IsTrue seen.names). (let wrong : false ≡ true = sym told ∙ h in absurd (cc))))
some_written seen name true None told is = (file.Fault, inl (Same-refl seen, λ h. is))
some_written seen name true (Some found) told is = (file.Clash, (Same-refl seen, λ h. subst (λ (o : Option Stored). IsSome o) (sym is) refl))

pub some_saves : (seen : Seen) (name : List ℕ) → Some_does (SavesFile seen seen name)
some_saves seen name =
    let some : (came : FileReply) × WritesFile seen seen name [] came = some_written seen name seen.names (seen.at name) refl refl in
    (call.Save (Ok []) ∷ [], saved_or 0 some.0, ([], some.0, refl, some.1, refl))

pub save_cut : (seen : Seen) (name : List ℕ) (a b : DatabaseAccess) (got : Result (List ℕ) NoMemory) (memory : NoMemory) → AddsEntry a b (call.Save got) → got ≡ Err memory → CutsWatch a b (SavesFile seen seen name)
save_cut seen name a b got memory called wanting =
    let some : (came : FileReply) × WritesFile seen seen name [] came = some_written seen name seen.names (seen.at name) refl refl in
    cut_at_first a b (SavesFile seen seen name) (call.Save got) (call.Save (Ok [])) (saved_or 0 some.0) ([], some.0, refl, some.1, refl)
    (ap (λ (r : Result (List ℕ) NoMemory). call.Save r) wanting) (λ same. cc) called

-- The name of a file is read.

pub on_name : (text name : List ℕ) (old new : Seen) (D : List ℕ → List WatchEntry → WatchAnswer → Type 0) (result : Result WatchAnswer NoMemory) (a b : DatabaseAccess) → IsFileName text → name ≡ text → EndsWatchCommand a b (D name) result
    → EndsWatchCommand a b (OnFileName text old new D) result
on_name text name old new D result a b good same ends =
    ends_so a b (D name) (OnFileName text old new D) result (λ calls answer does. inr (good, subst (λ (n : List ℕ). D n calls answer) same does)) ends

pub no_name : (text : List ℕ) (seen : Seen) (D : List ℕ → List WatchEntry → WatchAnswer → Type 0) (a : DatabaseAccess) (answer : WatchAnswer) → (IsFileName text → ⊥) → answer ≡ refused_for BadFileName
    → AnswersWatch a a (OnFileName text seen seen D) answer
no_name text seen D a answer bad is = record { calls = []; made = refl; does = inl (bad, refl, (refl, is)) }

pub named_as : (text name : List ℕ) (old new : Seen) (D : List ℕ → List WatchEntry → WatchAnswer → Type 0) (result : Result WatchAnswer NoMemory) (a b : DatabaseAccess) → text ≡ name → EndsWatchCommand a b (OnFileName text old new D) result
    → EndsWatchCommand a b (OnFileName name old new D) result
named_as text name old new D result a b same ends = subst (λ (n : List ℕ). EndsWatchCommand a b (OnFileName n old new D) result) same ends

-- A text is the name of a file or is not.

at_most_or_not : (m n : ℕ) → (m ≤ n) ⊎ (m ≤ n → ⊥)
at_most_or_not zero n = inl (omega arith)
at_most_or_not (suc m) zero = inr (λ h. omega (arith, h))
at_most_or_not (suc m) (suc n) = elim (at_most_or_not m n) as (λ _. (suc m ≤ suc n) ⊎ (suc m ≤ suc n → ⊥)) [ inl h ↦ inl (omega (arith, h)) | inr above ↦ inr (λ h. above (omega (arith, h))) ]

Are_file_bytes : List ℕ → Type 0
Are_file_bytes text = All (λ (b : ℕ). IsTrue (is_file_byte b)) text

bytes_more : (b : ℕ) (bs : List ℕ) → is_file_byte b ≡ true → Are_file_bytes bs → Are_file_bytes (b ∷ bs)
unfolding Are_file_bytes
bytes_more b bs here behind = λ k d within. at k d within
  where
    at : (k : ℕ) (d : ℕ) → k < length (b ∷ bs) → IsTrue (is_file_byte (get_or (b ∷ bs) k d))
    at zero d within = here
    at (suc k) d within = behind k d (omega (arith, within))

bytes_or_not : (text : List ℕ) → Are_file_bytes text ⊎ (Are_file_bytes text → ⊥)
unfolding Are_file_bytes
bytes_or_not [] = inl (λ k d within. absurd (omega (arith, within)))
bytes_or_not (b ∷ bs) = cases (is_file_byte b) refl (bytes_or_not bs)
  where
    cases : (t : Bool) → is_file_byte b ≡ t → Are_file_bytes bs ⊎ (Are_file_bytes bs → ⊥) → Are_file_bytes (b ∷ bs) ⊎ (Are_file_bytes (b ∷ bs) → ⊥)
    cases false is rest = inr (λ all. (let here : is_file_byte b ≡ true = all 0 0 (omega arith) in absurd (false≢true (sym is ∙ here))))
    cases true is (inl all) = inl (bytes_more b bs is all)
    cases true is (inr bad) = inr (λ all. bad (λ k d within. all (suc k) d (omega (arith, within))))

name_or_not : (text : List ℕ) → IsFileName text ⊎ (IsFileName text → ⊥)
unfolding Are_file_bytes
name_or_not text = cases (at_most_or_not 1 (length text)) (at_most_or_not (length text) 255) (bytes_or_not text)
  where
    cases : (1 ≤ length text) ⊎ (1 ≤ length text → ⊥) → (length text ≤ 255) ⊎ (length text ≤ 255 → ⊥) → Are_file_bytes text ⊎ (Are_file_bytes text → ⊥) → IsFileName text ⊎ (IsFileName text → ⊥)
    cases (inl some) (inl short) (inl bytes) = inl (record { some = some; short = short; bytes = bytes })
    cases (inl some) (inl short) (inr bad) = inr (λ name. bad name.bytes)
    cases (inl some) (inr bad) bytes = inr (λ name. bad name.short)
    cases (inr bad) short bytes = inr (λ name. bad name.some)

name_given : (text : List ℕ) (seen : Seen) (D : List ℕ → List WatchEntry → WatchAnswer → Type 0) → Some_does (D text) → IsFileName text ⊎ (IsFileName text → ⊥) → Some_does (OnFileName text seen seen D)
name_given text seen D some (inl good) = (some.0, some.1, inr (good, some.2))
name_given text seen D some (inr bad) = ([], refused_for BadFileName, inl (bad, refl, (refl, refl)))

pub some_name : (text : List ℕ) (seen : Seen) (D : List ℕ → List WatchEntry → WatchAnswer → Type 0) → Some_does (D text) → Some_does (OnFileName text seen seen D)
some_name text seen D some = name_given text seen D some (name_or_not text)

-- What the files count.

pub faults_if : (answer : Result WatchAnswer NoMemory) (came : FileReply) (old new : ℕ) → IfOk answer (λ (x : WatchAnswer). x.file ≡ Some came) → FaultsOf came old new → IfOk answer (λ (x : WatchAnswer). FaultsIf x.file old new)
faults_if answer came old new is counted =
    IfOk-weaker answer (λ (x : WatchAnswer). x.file ≡ Some came) (λ (x : WatchAnswer). FaultsIf x.file old new) (λ x e. subst (λ (f : Option FileReply). FaultsIf f old new) (sym e) counted) is

pub clashes_if : (answer : Result WatchAnswer NoMemory) (came : FileReply) (old new : ℕ) → IfOk answer (λ (x : WatchAnswer). x.file ≡ Some came) → ClashesOf came old new → IfOk answer (λ (x : WatchAnswer). ClashesIf x.file old new)
clashes_if answer came old new is counted =
    IfOk-weaker answer (λ (x : WatchAnswer). x.file ≡ Some came) (λ (x : WatchAnswer). ClashesIf x.file old new) (λ x e. subst (λ (f : Option FileReply). ClashesIf f old new) (sym e) counted) is

pub names_fault_if : (answer : Result WatchAnswer NoMemory) (came : FileReply) (name : List ℕ) (old new : Option (List ℕ)) → IfOk answer (λ (x : WatchAnswer). x.file ≡ Some came) → NamesFault came name old new
    → IfOk answer (λ (x : WatchAnswer). NamesFaultIf x.file name old new)
names_fault_if answer came name old new is named =
    IfOk-weaker answer (λ (x : WatchAnswer). x.file ≡ Some came) (λ (x : WatchAnswer). NamesFaultIf x.file name old new) (λ x e. subst (λ (f : Option FileReply). NamesFaultIf f name old new) (sym e) named) is

done_clashes_of : (came : FileReply) (old new : ℕ) → came ≡ file.Done → ClashesOf came old new → new ≡ old
done_clashes_of came old new is counted = let counted_done : ClashesOf file.Done old new = subst (λ (r : FileReply). ClashesOf r old new) is counted in counted_done

-- where memory was wanting behind the reading, the file was read whole
pub unclashed_if : {T E : Type 0} (result : Result T E) (came : FileReply) (old new : ℕ) → OnErr result (came ≡ file.Done) → ClashesOf came old new → OnErr result (new ≡ old)
unclashed_if result came old new is counted = on_err_weaker result (λ (e : came ≡ file.Done). done_clashes_of came old new e counted) is

-- and then no fault was counted either
pub faultless_if : {T E : Type 0} (result : Result T E) (came : FileReply) (old new : ℕ) → OnErr result (came ≡ file.Done) → FaultsOf came old new → OnErr result (new ≡ old)
faultless_if result came old new is counted =
    on_err_weaker result (λ (e : came ≡ file.Done). (let done : FaultsOf file.Done old new = subst (λ (r : FileReply). FaultsOf r old new) e counted in done)) is

pub nameless_if : {T E : Type 0} (result : Result T E) (came : FileReply) (name : List ℕ) (old new : Option (List ℕ)) → OnErr result (came ≡ file.Done) → NamesFault came name old new → OnErr result (new ≡ old)
nameless_if result came name old new is named =
    on_err_weaker result (λ (e : came ≡ file.Done). (let done : NamesFault file.Done name old new = subst (λ (r : FileReply). NamesFault r name old new) e named in done)) is
