-- What a command for watches or dumps tells by its answer.
use Rattle.std.proofs.Common.{◌≡◌, ◌≢◌, ℕ, ◌<◌, IsTrue, List, [], ◌∷◌, length, Option, Some, None, Result, Ok, Err, refl, ap, sym, subst, ◌∙◌, inl, inr}
use Rattle.std.specs.Prelude.{IsSome}
use Rattle.daq_types.specs.Names.{IsFileName}
use Rattle.daq_io.specs.Seen.{Seen, Stored, Same, Stores}
use Rattle.daq_io.proofs.SeenLaws.{Same-refl}
use Rattle.odb_value.specs.PathText.{path_reply}
use Rattle.odb_text.specs.declared.acts.Loaded.{Loaded}
use Rattle.odb_text.specs.declared.acts.LoadRefusal.{LoadRefusal}
use Rattle.odb_watch.specs.declared.entry.WatchEntry.{WatchEntry}
use Rattle.odb_watch.specs.declared.entry.WatchEntry.TheVariants as call
use Rattle.odb_script.specs.declared.commands.WatchCommand.{WatchCommand}
use Rattle.odb_script.specs.declared.commands.WatchCommand.TheVariants as command
use Rattle.odb_commands.specs.declared.dump_replies.FileReply.{FileReply}
use Rattle.odb_commands.specs.declared.dump_replies.FileReply.TheVariants as file
use Rattle.odb_commands.specs.declared.dump_replies.FileRead.{FileRead}
use Rattle.odb_commands.specs.declared.dump_replies.FileRead.TheVariants as was
use Rattle.odb_commands.specs.FileReplies.{reply_of}
use Rattle.odb_commands.specs.WholeFiles.{ReadsFile, WritesFile, file_limit}
use Rattle.odb_commands.specs.declared.watch_replies.WatchAnswer.{WatchAnswer}
use Rattle.odb_commands.specs.WatchAnswers.{loaded_or, saved_or}
use Rattle.odb_commands.specs.WatchCalls.{LoadsRead, LoadsFile, SavesFile}
use Rattle.odb_commands.specs.WatchPerforms.{PerformsWatch, LoadsTextOf}
use Rattle.odb_commands.proofs.WatchMade.{some_on_path, some_notes, some_unwatch}
use Rattle.odb_commands.proofs.DumpMade.{some_name, some_loads, some_saves}

-- Some calls and an answer do what a command asks for.

abbrev Answered : WatchCommand → Seen → Type 0
Answered c seen = (calls : List WatchEntry) × (answer : WatchAnswer) × PerformsWatch c seen seen calls answer

pub answered : (c : WatchCommand) (seen : Seen) → Answered c seen
answered (command.Load name) seen = some_name name seen (LoadsFile seen seen) (some_loads seen seen name (Same-refl seen))
answered (command.Save name) seen = some_name name seen (SavesFile seen seen) (some_saves seen name)
answered (command.Watch path) seen = let some = some_on_path (path_reply path) in (some.0, some.1, (refl, some.2))
answered (command.Notes w) seen = let some = some_notes w in (some.0, some.1, (refl, some.2))
answered (command.Unwatch w) seen = let some = some_unwatch w in (some.0, some.1, (refl, some.2))

-- What the answer tells of the calls on the files.

same_came : (answer : WatchAnswer) (a b : FileReply) → answer.file ≡ Some a → answer.file ≡ Some b → a ≡ b
same_came answer a b p q = let both : ◌≡◌ {A = Option FileReply} (Some a) (Some b) = sym p ∙ q in cc

never_none : (answer : WatchAnswer) (a : FileReply) → answer.file ≡ None → answer.file ≡ Some a → ⊥
never_none answer a p q = let both : ◌≡◌ {A = Option FileReply} None (Some a) = sym p ∙ q in cc

loaded_came : (got : Result Loaded LoadRefusal) → (loaded_or got).file ≡ Some file.Done
loaded_came (Ok loaded) = refl
loaded_came (Err why) = refl

loads_came : (read : FileRead) (calls : List WatchEntry) (answer : WatchAnswer) → LoadsRead read calls answer → answer.file ≡ Some (reply_of read)
loads_came (was.Whole text) calls answer loads = ap (λ (x : WatchAnswer). x.file) loads.3 ∙ loaded_came loads.0
loads_came was.Missing calls answer loads = ap (λ (x : WatchAnswer). x.file) loads.1
loads_came was.Fault calls answer loads = ap (λ (x : WatchAnswer). x.file) loads.1
loads_came was.TooLong calls answer loads = ap (λ (x : WatchAnswer). x.file) loads.1

saved_came : (bytes : ℕ) (came : FileReply) → (saved_or bytes came).file ≡ Some came
saved_came bytes file.Done = refl
saved_came bytes file.Clash = refl
saved_came bytes file.Fault = refl
saved_came bytes file.TooLong = refl

saves_came : (old new : Seen) (name : List ℕ) (calls : List WatchEntry) (answer : WatchAnswer) (saves : SavesFile old new name calls answer) → answer.file ≡ Some saves.1
saves_came old new name calls answer saves = ap (λ (x : WatchAnswer). x.file) saves.4 ∙ saved_came (length saves.0) saves.1

-- `load`.

done_read : (read : FileRead) (name : List ℕ) (old new : Seen) (calls : List WatchEntry) (answer : WatchAnswer) → Same old new → ReadsFile old name read → LoadsRead read calls answer → reply_of read ≡ file.Done → LoadsTextOf old new name calls
done_read (was.Whole text) name old new calls answer same reads loads is = record { text = text; has = reads; same = same; got = loads.0; one_call = loads.1 }
done_read was.Missing name old new calls answer same reads loads is = absurd (cc)
done_read was.Fault name old new calls answer same reads loads is = absurd (cc)
done_read was.TooLong name old new calls answer same reads loads is = absurd (cc)

pub load_done : (name : List ℕ) (old new : Seen) (calls : List WatchEntry) (answer : WatchAnswer) → PerformsWatch (command.Load name) old new calls answer → answer.file ≡ Some file.Done → LoadsTextOf old new name calls
load_done name old new calls answer (inl refused) is = absurd (never_none answer file.Done (ap (λ (x : WatchAnswer). x.file) refused.2.1) is)
load_done name old new calls answer (inr loads) is =
    let l : LoadsFile old new name calls answer = loads.1 in
    done_read l.0 name old new calls answer l.1 l.2 l.3 (same_came answer (reply_of l.0) file.Done (loads_came l.0 calls answer l.3) is)

uncalled_read : (read : FileRead) (calls : List WatchEntry) (answer : WatchAnswer) → LoadsRead read calls answer → answer.file ≢ Some file.Done → calls ≡ []
uncalled_read (was.Whole text) calls answer loads other = absurd (other (loads_came (was.Whole text) calls answer loads))
uncalled_read was.Missing calls answer loads other = loads.0
uncalled_read was.Fault calls answer loads other = loads.0
uncalled_read was.TooLong calls answer loads other = loads.0

pub load_uncalled : (name : List ℕ) (old new : Seen) (calls : List WatchEntry) (answer : WatchAnswer) → PerformsWatch (command.Load name) old new calls answer → answer.file ≢ Some file.Done → calls ≡ []
load_uncalled name old new calls answer (inl refused) other = refused.2.0
load_uncalled name old new calls answer (inr loads) other = let l : LoadsFile old new name calls answer = loads.1 in uncalled_read l.0 calls answer l.3 other

pub load_none : (name : List ℕ) (old new : Seen) (calls : List WatchEntry) (answer : WatchAnswer) → PerformsWatch (command.Load name) old new calls answer → answer.file ≡ None → IsFileName name → ⊥
load_none name old new calls answer (inl refused) is = refused.0
load_none name old new calls answer (inr loads) is = let l : LoadsFile old new name calls answer = loads.1 in λ good. never_none answer (reply_of l.0) is (loads_came l.0 calls answer l.3)

clash_read : (read : FileRead) (name : List ℕ) (old : Seen) → ReadsFile old name read → reply_of read ≡ file.Clash → IsTrue old.names → old.at name ≡ None
clash_read (was.Whole text) name old reads is = absurd (cc)
clash_read was.Missing name old reads is = reads
clash_read was.Fault name old reads is = absurd (cc)
clash_read was.TooLong name old reads is = absurd (cc)

pub load_clash : (name : List ℕ) (old new : Seen) (calls : List WatchEntry) (answer : WatchAnswer) → PerformsWatch (command.Load name) old new calls answer → answer.file ≡ Some file.Clash → IsTrue old.names → old.at name ≡ None
load_clash name old new calls answer (inl refused) is = absurd (never_none answer file.Clash (ap (λ (x : WatchAnswer). x.file) refused.2.1) is)
load_clash name old new calls answer (inr loads) is =
    let l : LoadsFile old new name calls answer = loads.1 in
    clash_read l.0 name old l.2 (same_came answer (reply_of l.0) file.Clash (loads_came l.0 calls answer l.3) is)

long_read : (read : FileRead) (name : List ℕ) (old : Seen) → ReadsFile old name read → reply_of read ≡ file.TooLong → IsTrue old.names → (stored : Stored) × (old.at name ≡ Some stored) × (file_limit < length stored.bytes)
long_read (was.Whole text) name old reads is = absurd (cc)
long_read was.Missing name old reads is = absurd (cc)
long_read was.Fault name old reads is = absurd (cc)
long_read was.TooLong name old reads is = reads

pub load_long : (name : List ℕ) (old new : Seen) (calls : List WatchEntry) (answer : WatchAnswer) → PerformsWatch (command.Load name) old new calls answer → answer.file ≡ Some file.TooLong → IsTrue old.names
    → (stored : Stored) × (old.at name ≡ Some stored) × (file_limit < length stored.bytes)
load_long name old new calls answer (inl refused) is = absurd (never_none answer file.TooLong (ap (λ (x : WatchAnswer). x.file) refused.2.1) is)
load_long name old new calls answer (inr loads) is =
    let l : LoadsFile old new name calls answer = loads.1 in
    long_read l.0 name old l.2 (same_came answer (reply_of l.0) file.TooLong (loads_came l.0 calls answer l.3) is)

-- `save`.

done_written : (came : FileReply) (old new : Seen) (name text : List ℕ) → WritesFile old new name text came → came ≡ file.Done → Stores old new name text
done_written came old new name text writes is = let done : WritesFile old new name text file.Done = subst (λ (r : FileReply). WritesFile old new name text r) is writes in done

pub save_done : (name : List ℕ) (old new : Seen) (calls : List WatchEntry) (answer : WatchAnswer) → PerformsWatch (command.Save name) old new calls answer → answer.file ≡ Some file.Done
    → (text : List ℕ) × (calls ≡ call.Save (Ok text) ∷ []) × Stores old new name text
save_done name old new calls answer (inl refused) is = absurd (never_none answer file.Done (ap (λ (x : WatchAnswer). x.file) refused.2.1) is)
save_done name old new calls answer (inr saves) is =
    let s : SavesFile old new name calls answer = saves.1 in
    (s.0, s.2, done_written s.1 old new name s.0 s.3 (same_came answer s.1 file.Done (saves_came old new name calls answer s) is))

clash_written : (came : FileReply) (old new : Seen) (name text : List ℕ) → WritesFile old new name text came → came ≡ file.Clash → Same old new × (IsTrue old.names → IsSome (old.at name))
clash_written came old new name text writes is = let clash : WritesFile old new name text file.Clash = subst (λ (r : FileReply). WritesFile old new name text r) is writes in clash

pub save_clash : (name : List ℕ) (old new : Seen) (calls : List WatchEntry) (answer : WatchAnswer) → PerformsWatch (command.Save name) old new calls answer → answer.file ≡ Some file.Clash → Same old new × (IsTrue old.names → IsSome (old.at name))
save_clash name old new calls answer (inl refused) is = absurd (never_none answer file.Clash (ap (λ (x : WatchAnswer). x.file) refused.2.1) is)
save_clash name old new calls answer (inr saves) is =
    let s : SavesFile old new name calls answer = saves.1 in
    clash_written s.1 old new name s.0 s.3 (same_came answer s.1 file.Clash (saves_came old new name calls answer s) is)

pub save_short : (name : List ℕ) (old new : Seen) (calls : List WatchEntry) (answer : WatchAnswer) → PerformsWatch (command.Save name) old new calls answer → answer.file ≢ Some file.TooLong
save_short name old new calls answer (inl refused) is = never_none answer file.TooLong (ap (λ (x : WatchAnswer). x.file) refused.2.1) is
save_short name old new calls answer (inr saves) is =
    let s : SavesFile old new name calls answer = saves.1 in
    let long : s.1 ≡ file.TooLong = same_came answer s.1 file.TooLong (saves_came old new name calls answer s) is in
    let never : WritesFile old new name s.0 file.TooLong = subst (λ (r : FileReply). WritesFile old new name s.0 r) long s.3 in never
