-- A line is a command exactly where its words are those of the command.
use Rattle.std.specs.Prelude.{◌≡◌, ◌↔◌, ◌≤◌, ℕ, nat_eq, false, List, [], ◌∷◌, ◌++◌, length, Option, Some, None, option_map, Ok, Err, unwrap_or, codes, refl}
use Rattle.std.proofs.Common.{ap, sym, ◌∙◌, subst, append_assoc, le-ltb, inl, inr}
use Rattle.std.specs.List.{starts_with}
use Rattle.std.proofs.lemmas.List.{append-nil}
use Rattle.daq_types.specs.declared.runs.Kind.{Kind}
use Rattle.daq_types.specs.declared.types.Tid.{Tid}
use Rattle.odb_script.specs.LineWords.{LineWords, word, ended, faulty, line_words}
use Rattle.daq_text.specs.Numbers.{whole_number}
use Rattle.odb_script.specs.Numbers.{most_number, most_small}
use Rattle.odb_script.specs.TypeNames.{is_text, type_named, kind_named}
use Rattle.odb_script.specs.declared.commands.Command.{Command}
use Rattle.odb_script.specs.declared.commands.Command.TheVariants.{Nothing, Exit, Declare, Run, Database}
use Rattle.odb_script.specs.declared.commands.Declaration.TheVariants.{Buffer, Equip, Channel, Analyzer}
use Rattle.odb_script.specs.declared.commands.RunCommand.TheVariants.{Events, Start, Stop, Pause, Resume}
use Rattle.odb_script.specs.declared.commands.DatabaseCommand.TheVariants.{Rows, Watches}
use Rattle.odb_script.specs.declared.commands.RowCommand.TheVariants.{Create, CreateDir, Link, Set, Get, List as Ls, Remove}
use Rattle.odb_script.specs.declared.commands.WatchCommand.TheVariants.{Load, Save, Watch, Notes, Unwatch}
use Rattle.odb_script.specs.Forms.{Read, ◌>>=◌, next_text, words_behind, line_end, next_number, next_kind, number_at_end, on_rows, on_watches, only, with_text, with_number, buffer_form, equip_end, equip_form, channel_end, channel_form, analyzer_end, analyzer_form, value_form, create_form, link_form, set_end, set_form, get_form, watching_form, key_form, declaring_form, named_form, words_form, command_of}
use Rattle.odb_script.specs.Spelled.{texts_of, Spells, Spelled}
use Rattle.odb_script.proofs.TableLaws.{number_cases, type_cases, kind_cases, text_cases, no_directory_type}

-- From the words to the command.

-- Words are read behind texts: if that gives a command, they have no more than the rest of its texts.
abbrev Reads : List (List ℕ) → LineWords → Read Command → Type 0
Reads front ws (Ok command) = (texts : List (List ℕ)) × (texts_of ws ≡ Some texts) × Spells (front ++ texts) command
Reads front ws (Err refusal) = Unit {0}

-- the first word is one of the texts in front
step : (front : List (List ℕ)) (at : ℕ) (text : List ℕ) (ws : LineWords) (read : Read Command) → Reads (front ++ text ∷ []) ws read → Reads front (word at text ws) read
step front at text ws (Err refusal) h = tt
step front at text ws (Ok command) h =
    (text ∷ h.0, ap (option_map (λ texts. text ∷ texts)) h.1, subst (λ texts. Spells texts command) (append_assoc front (text ∷ []) h.0) h.2)

ends : (front : List (List ℕ)) (command : Command) (ws : LineWords) → Spells front command → Reads front ws (only command ws)
ends front command (word at text ws) h = tt
ends front command (ended at) h = ([], refl, subst (λ texts. Spells texts command) (sym (append-nil front)) h)
ends front command (faulty at) h = tt

text_ends : (front : List (List ℕ)) (make : List ℕ → Command) → ((text : List ℕ) → Spells (front ++ text ∷ []) (make text)) → (ws : LineWords) → Reads front ws (with_text make ws)
text_ends front make h (word at text (word next other ws)) = tt
text_ends front make h (word at text (ended next)) = (text ∷ [], refl, h text)
text_ends front make h (word at text (faulty next)) = tt
text_ends front make h (ended at) = tt
text_ends front make h (faulty at) = tt

number_ends : (front : List (List ℕ)) (make : ℕ → Command) → ((text : List ℕ) (n : ℕ) → whole_number most_number text ≡ Some n → Spells (front ++ text ∷ []) (make n))
    → (ws : LineWords) → Reads front ws (with_number make ws)
number_ends front make h (word at text (word next other ws)) = number_cases most_number text (λ e. rw e tt) (λ n e. rw e tt)
number_ends front make h (word at text (ended next)) = number_cases most_number text (λ e. rw e tt) (λ n e. rw e (text ∷ [], refl, h text n e))
number_ends front make h (word at text (faulty next)) = number_cases most_number text (λ e. rw e tt) (λ n e. rw e tt)
number_ends front make h (ended at) = tt
number_ends front make h (faulty at) = tt

text_goes_on : (front : List (List ℕ)) (go_on : List ℕ → LineWords → Read Command) → ((text : List ℕ) (ws : LineWords) → Reads (front ++ text ∷ []) ws (go_on text ws))
    → (ws : LineWords) → Reads front ws (next_text ws >>= (λ text. go_on text (words_behind ws)))
text_goes_on front go_on h (word at text ws) = step front at text ws (go_on text ws) (h text ws)
text_goes_on front go_on h (ended at) = tt
text_goes_on front go_on h (faulty at) = tt

number_goes_on : (front : List (List ℕ)) (most : ℕ) (go_on : ℕ → LineWords → Read Command)
    → ((text : List ℕ) (n : ℕ) → whole_number most text ≡ Some n → (ws : LineWords) → Reads (front ++ text ∷ []) ws (go_on n ws))
    → (ws : LineWords) → Reads front ws (next_number most ws >>= (λ n. go_on n (words_behind ws)))
number_goes_on front most go_on h (word at text ws) = number_cases most text (λ e. rw e tt) (λ n e. rw e (step front at text ws (go_on n ws) (h text n e ws)))
number_goes_on front most go_on h (ended at) = tt
number_goes_on front most go_on h (faulty at) = tt

-- a number is given
given : (front : List (List ℕ)) (make : Option ℕ → Command) (n : ℕ) (ws : LineWords) → Spells front (make (Some n))
    → Reads front ws ((line_end ws >>= (λ end. Ok (Some n))) >>= (λ found. Ok (make found)))
given front make n (word at text ws) h = tt
given front make n (ended at) h = ([], refl, subst (λ texts. Spells texts (make (Some n))) (sym (append-nil front)) h)
given front make n (faulty at) h = tt

maybe_number_ends : (front : List (List ℕ)) (make : Option ℕ → Command) → Spells front (make None)
    → ((text : List ℕ) (n : ℕ) → whole_number most_number text ≡ Some n → Spells (front ++ text ∷ []) (make (Some n)))
    → (ws : LineWords) → Reads front ws (number_at_end ws >>= (λ n. Ok (make n)))
maybe_number_ends front make none some (word at text ws) = number_cases most_number text
    (λ e. rw e tt)
    (λ n e. rw e (step front at text ws ((line_end ws >>= (λ end. Ok (Some n))) >>= (λ found. Ok (make found))) (given (front ++ text ∷ []) make n ws (some text n e))))
maybe_number_ends front make none some (ended at) = ([], refl, subst (λ texts. Spells texts (make None)) (sym (append-nil front)) none)
maybe_number_ends front make none some (faulty at) = tt

text_number_ends : (front : List (List ℕ)) (make : List ℕ → Option ℕ → Command) → ((text : List ℕ) → Spells (front ++ text ∷ []) (make text None))
    → ((text number : List ℕ) (n : ℕ) → whole_number most_number number ≡ Some n → Spells ((front ++ text ∷ []) ++ number ∷ []) (make text (Some n)))
    → (ws : LineWords) → Reads front ws (next_text ws >>= (λ text. number_at_end (words_behind ws) >>= (λ n. Ok (make text n))))
text_number_ends front make none some ws =
    text_goes_on front (λ text behind. number_at_end behind >>= (λ n. Ok (make text n))) (λ text. maybe_number_ends (front ++ text ∷ []) (make text) (none text) (some text)) ws

buffer : (ws : LineWords) → Reads (codes "buffer" ∷ []) ws (buffer_form ws)
buffer ws =
    text_goes_on (codes "buffer" ∷ []) (λ name. with_number (λ size. Declare (Buffer name size)))
    (λ name. number_ends (codes "buffer" ∷ name ∷ []) (λ size. Declare (Buffer name size)) (λ text n number. (text, refl, number))) ws

equip : (ws : LineWords) → Reads (codes "equip" ∷ []) ws (equip_form ws)
equip ws =
    text_goes_on (codes "equip" ∷ [])
    (λ name behind. next_number most_number behind >>= (λ id. next_number most_small (words_behind behind) >>= (λ mask. equip_end name id mask (words_behind (words_behind behind)))))
    (λ name. number_goes_on (codes "equip" ∷ name ∷ []) most_number
    (λ id behind. next_number most_small behind >>= (λ mask. equip_end name id mask (words_behind behind)))
    (λ i id is_id. number_goes_on (codes "equip" ∷ name ∷ i ∷ []) most_small (equip_end name id)
    (λ m mask is_mask. text_number_ends (codes "equip" ∷ name ∷ i ∷ m ∷ []) (λ into limit. Declare (Equip name id mask into (unwrap_or limit most_number)))
    (λ into. (i, m, is_id, is_mask, inl (refl, refl)))
    (λ into number n is_number. (i, m, is_id, is_mask, inr (number, refl, is_number))))))
    ws

channel : (ws : LineWords) → Reads (codes "channel" ∷ []) ws (channel_form ws)
channel ws =
    number_goes_on (codes "channel" ∷ []) most_number
    (λ number behind. next_text behind >>= (λ pattern. next_text (words_behind behind) >>= (λ into. channel_end number pattern into (words_behind (words_behind behind)))))
    (λ t number is_number. text_goes_on (codes "channel" ∷ t ∷ [])
    (λ pattern behind. next_text behind >>= (λ into. channel_end number pattern into (words_behind behind)))
    (λ pattern. text_goes_on (codes "channel" ∷ t ∷ pattern ∷ []) (channel_end number pattern)
    (λ into. number_goes_on (codes "channel" ∷ t ∷ pattern ∷ into ∷ []) most_small
    (λ id behind. next_number most_small behind >>= (λ mask. number_at_end (words_behind behind) >>= (λ limit. Ok (Declare (Channel number pattern into id mask (unwrap_or limit 0))))))
    (λ i id is_id. number_goes_on (codes "channel" ∷ t ∷ pattern ∷ into ∷ i ∷ []) most_small
    (λ mask behind. number_at_end behind >>= (λ limit. Ok (Declare (Channel number pattern into id mask (unwrap_or limit 0)))))
    (λ m mask is_mask. maybe_number_ends (codes "channel" ∷ t ∷ pattern ∷ into ∷ i ∷ m ∷ []) (λ limit. Declare (Channel number pattern into id mask (unwrap_or limit 0)))
    (t, i, m, is_number, is_id, is_mask, inl (refl, refl))
    (λ text n is_limit. (t, i, m, is_number, is_id, is_mask, inr (text, refl, is_limit))))))))
    ws

kind_ends : (front : List (List ℕ)) (make : Kind → Command) → ((text : List ℕ) (k : Kind) → kind_named text ≡ Some k → Spells (front ++ text ∷ []) (make k))
    → (ws : LineWords) → Reads front ws (next_kind ws >>= (λ kind. only (make kind) (words_behind ws)))
kind_ends front make h (word at text ws) = kind_cases text
    (λ e. rw e tt)
    (λ k e. rw e (step front at text ws (only (make k) ws) (ends (front ++ text ∷ []) (make k) ws (h text k e))))
kind_ends front make h (ended at) = tt
kind_ends front make h (faulty at) = tt

analyzer : (ws : LineWords) → Reads (codes "analyzer" ∷ []) ws (analyzer_form ws)
analyzer ws =
    text_goes_on (codes "analyzer" ∷ [])
    (λ name behind. next_text behind >>= (λ into. analyzer_end name into (words_behind behind)))
    (λ name. text_goes_on (codes "analyzer" ∷ name ∷ []) (analyzer_end name)
    (λ into. number_goes_on (codes "analyzer" ∷ name ∷ into ∷ []) most_small
    (λ id behind. next_number most_small behind >>= (λ mask. next_kind (words_behind behind) >>= (λ kind. only (Declare (Analyzer name into id mask kind)) (words_behind (words_behind behind)))))
    (λ i id is_id. number_goes_on (codes "analyzer" ∷ name ∷ into ∷ i ∷ []) most_small
    (λ mask behind. next_kind behind >>= (λ kind. only (Declare (Analyzer name into id mask kind)) (words_behind behind)))
    (λ m mask is_mask. kind_ends (codes "analyzer" ∷ name ∷ into ∷ i ∷ m ∷ []) (λ kind. Declare (Analyzer name into id mask kind))
    (λ k kind is_kind. (i, m, k, refl, is_id, is_mask, is_kind))))))
    ws

create : (ws : LineWords) → Reads (codes "create" ∷ []) ws (create_form ws)
create (word at kind ws) = text_cases kind (codes "DIR")
    (λ same. subst (λ text. Reads (codes "create" ∷ []) (word at text ws) (create_form (word at text ws))) same
    (step (codes "create" ∷ []) at (codes "DIR") ws (with_text (λ path. on_rows (CreateDir path)) ws)
    (text_ends (codes "create" ∷ codes "DIR" ∷ []) (λ path. on_rows (CreateDir path)) (λ path. refl) ws)))
    (λ other. type_cases kind
    (λ e. rw (other, e) tt)
    (λ t e. rw (other, e) (step (codes "create" ∷ []) at kind ws (value_form at (Some t) ws)
    (text_number_ends (codes "create" ∷ kind ∷ []) (λ path len. on_rows (Create t path (unwrap_or len 1)))
    (λ path. (kind, e, inl (refl, refl)))
    (λ path text n number. (kind, e, inr (text, refl, number)))
    ws))))
create (ended at) = tt
create (faulty at) = tt

link : (ws : LineWords) → Reads (codes "link" ∷ []) ws (link_form ws)
link ws =
    text_goes_on (codes "link" ∷ []) (λ path. with_text (λ target. on_rows (Link path target)))
    (λ path. text_ends (codes "link" ∷ path ∷ []) (λ target. on_rows (Link path target)) (λ target. refl)) ws

set_without_index : (path first : List ℕ) (ws : LineWords) → Reads (codes "set" ∷ path ∷ first ∷ []) ws (set_end path first None ws)
set_without_index path first (word at value ws) = tt
set_without_index path first (ended at) = ([], refl, inl (refl, refl))
set_without_index path first (faulty at) = tt

set_with_index : (path first : List ℕ) (n : ℕ) → whole_number most_number first ≡ Some n → (ws : LineWords) → Reads (codes "set" ∷ path ∷ first ∷ []) ws (set_end path first (Some n) ws)
set_with_index path first n number (word at value ws) =
    step (codes "set" ∷ path ∷ first ∷ []) at value ws (only (on_rows (Set path n value)) ws)
    (ends (codes "set" ∷ path ∷ first ∷ value ∷ []) (on_rows (Set path n value)) ws (inr (first, refl, number)))
set_with_index path first n number (ended at) = ([], refl, inl (refl, refl))
set_with_index path first n number (faulty at) = tt

set_value : (path first : List ℕ) (ws : LineWords) → Reads (codes "set" ∷ path ∷ first ∷ []) ws (set_end path first (whole_number most_number first) ws)
set_value path first ws = number_cases most_number first (λ e. rw e (set_without_index path first ws)) (λ n e. rw e (set_with_index path first n e ws))

set : (ws : LineWords) → Reads (codes "set" ∷ []) ws (set_form ws)
set (word at path (word next first ws)) =
    step (codes "set" ∷ []) at path (word next first ws) (set_end path first (whole_number most_number first) ws)
    (step (codes "set" ∷ path ∷ []) next first ws (set_end path first (whole_number most_number first) ws) (set_value path first ws))
set (word at path (ended next)) = tt
set (word at path (faulty next)) = tt
set (ended at) = tt
set (faulty at) = tt

get : (ws : LineWords) → Reads (codes "get" ∷ []) ws (get_form ws)
get ws = text_number_ends (codes "get" ∷ []) (λ path index. on_rows (Get path index)) (λ path. refl) (λ path text n number. (text, refl, number)) ws

-- the forms that begin with a name
abbrev Named : ℕ → LineWords → List ℕ → Type 0
Named at ws name = Reads [] (word at name ws) (named_form at name ws)

-- a form behind its name
form : (at : ℕ) (name : List ℕ) (ws : LineWords) (read : Read Command) → Reads (name ∷ []) ws read → Reads [] (word at name ws) read
form at name ws read h = step [] at name ws read h

named : (at : ℕ) (name : List ℕ) (ws : LineWords) → Named at ws name
unfolding named_form declaring_form key_form watching_form
named at name ws =
    text_cases name (codes "events") (λ e. subst (Named at ws) e (form at (codes "events") ws (with_number (λ count. Run (Events count)) ws) (number_ends (codes "events" ∷ []) (λ count. Run (Events count)) (λ text n number. (text, refl, number)) ws))) (λ no_events.
    text_cases name (codes "start") (λ e. subst (Named at ws) e (form at (codes "start") ws (only (Run Start) ws) (ends (codes "start" ∷ []) (Run Start) ws refl))) (λ no_start.
    text_cases name (codes "stop") (λ e. subst (Named at ws) e (form at (codes "stop") ws (only (Run Stop) ws) (ends (codes "stop" ∷ []) (Run Stop) ws refl))) (λ no_stop.
    text_cases name (codes "pause") (λ e. subst (Named at ws) e (form at (codes "pause") ws (only (Run Pause) ws) (ends (codes "pause" ∷ []) (Run Pause) ws refl))) (λ no_pause.
    text_cases name (codes "resume") (λ e. subst (Named at ws) e (form at (codes "resume") ws (only (Run Resume) ws) (ends (codes "resume" ∷ []) (Run Resume) ws refl))) (λ no_resume.
    text_cases name (codes "exit") (λ e. subst (Named at ws) e (form at (codes "exit") ws (only Exit ws) (ends (codes "exit" ∷ []) Exit ws refl))) (λ no_exit.
    text_cases name (codes "buffer") (λ e. subst (Named at ws) e (form at (codes "buffer") ws (buffer_form ws) (buffer ws))) (λ no_buffer.
    text_cases name (codes "equip") (λ e. subst (Named at ws) e (form at (codes "equip") ws (equip_form ws) (equip ws))) (λ no_equip.
    text_cases name (codes "channel") (λ e. subst (Named at ws) e (form at (codes "channel") ws (channel_form ws) (channel ws))) (λ no_channel.
    text_cases name (codes "analyzer") (λ e. subst (Named at ws) e (form at (codes "analyzer") ws (analyzer_form ws) (analyzer ws))) (λ no_analyzer.
    text_cases name (codes "create") (λ e. subst (Named at ws) e (form at (codes "create") ws (create_form ws) (create ws))) (λ no_create.
    text_cases name (codes "link") (λ e. subst (Named at ws) e (form at (codes "link") ws (link_form ws) (link ws))) (λ no_link.
    text_cases name (codes "set") (λ e. subst (Named at ws) e (form at (codes "set") ws (set_form ws) (set ws))) (λ no_set.
    text_cases name (codes "get") (λ e. subst (Named at ws) e (form at (codes "get") ws (get_form ws) (get ws))) (λ no_get.
    text_cases name (codes "ls") (λ e. subst (Named at ws) e (form at (codes "ls") ws (with_text (λ path. on_rows (Ls path)) ws) (text_ends (codes "ls" ∷ []) (λ path. on_rows (Ls path)) (λ text. refl) ws))) (λ no_ls.
    text_cases name (codes "rm") (λ e. subst (Named at ws) e (form at (codes "rm") ws (with_text (λ path. on_rows (Remove path)) ws) (text_ends (codes "rm" ∷ []) (λ path. on_rows (Remove path)) (λ text. refl) ws))) (λ no_rm.
    text_cases name (codes "load") (λ e. subst (Named at ws) e (form at (codes "load") ws (with_text (λ file. on_watches (Load file)) ws) (text_ends (codes "load" ∷ []) (λ file. on_watches (Load file)) (λ text. refl) ws))) (λ no_load.
    text_cases name (codes "save") (λ e. subst (Named at ws) e (form at (codes "save") ws (with_text (λ file. on_watches (Save file)) ws) (text_ends (codes "save" ∷ []) (λ file. on_watches (Save file)) (λ text. refl) ws))) (λ no_save.
    text_cases name (codes "watch") (λ e. subst (Named at ws) e (form at (codes "watch") ws (with_text (λ path. on_watches (Watch path)) ws) (text_ends (codes "watch" ∷ []) (λ path. on_watches (Watch path)) (λ text. refl) ws))) (λ no_watch.
    text_cases name (codes "notes") (λ e. subst (Named at ws) e (form at (codes "notes") ws (with_number (λ watch. on_watches (Notes watch)) ws) (number_ends (codes "notes" ∷ []) (λ watch. on_watches (Notes watch)) (λ text n number. (text, refl, number)) ws))) (λ no_notes.
    text_cases name (codes "unwatch") (λ e. subst (Named at ws) e (form at (codes "unwatch") ws (with_number (λ watch. on_watches (Unwatch watch)) ws) (number_ends (codes "unwatch" ∷ []) (λ watch. on_watches (Unwatch watch)) (λ text n number. (text, refl, number)) ws))) (λ no_unwatch.
    rw (no_events, no_start, no_stop, no_pause, no_resume, no_exit, no_buffer, no_equip, no_channel, no_analyzer, no_create, no_link, no_set, no_get, no_ls, no_rm, no_load, no_save, no_watch, no_notes, no_unwatch) tt)))))))))))))))))))))

reads : (ws : LineWords) → Reads [] ws (words_form ws)
reads (word at name ws) = named at name ws
reads (ended at) = ([], refl, refl)
reads (faulty at) = tt

-- From the command to the words.

-- words that begin with a text
on_word : (P : LineWords → Type 0) (ws : LineWords) (text : List ℕ) (texts : List (List ℕ)) → texts_of ws ≡ Some (text ∷ texts)
    → ((at : ℕ) (rest : LineWords) → texts_of rest ≡ Some texts → P (word at text rest)) → P ws
on_word P (word at first rest) text texts h f =
    elim (texts_of rest) as (λ found. texts_of rest ≡ found → option_map (λ more. first ∷ more) found ≡ Some (text ∷ texts) → P (word at first rest)) [
      | None ↦ (λ is e. cc)
      | Some more ↦ (λ is e. let same : first ≡ text = cc in let others : more ≡ texts = cc in subst (λ t. P (word at t rest)) (sym same) (f at rest (is ∙ ap Some others)))
    ]
    refl h
on_word P (ended at) text texts h f = cc
on_word P (faulty at) text texts h f = cc

on_none : (P : LineWords → Type 0) (ws : LineWords) → texts_of ws ≡ Some [] → ((at : ℕ) → P (ended at)) → P ws
on_none P (word at first rest) h f =
    elim (texts_of rest) as (λ found. option_map (λ more. first ∷ more) found ≡ Some [] → P (word at first rest)) [ None ↦ (λ e. cc) | Some more ↦ (λ e. cc) ] h
on_none P (ended at) h f = f at
on_none P (faulty at) h f = cc

on_one : (P : LineWords → Type 0) (ws : LineWords) (a : List ℕ) → texts_of ws ≡ Some (a ∷ []) → ((i j : ℕ) → P (word i a (ended j))) → P ws
on_one P ws a h f = on_word P ws a [] h (λ i rest r. on_none (λ w. P (word i a w)) rest r (f i))

on_two : (P : LineWords → Type 0) (ws : LineWords) (a b : List ℕ) → texts_of ws ≡ Some (a ∷ b ∷ []) → ((i j k : ℕ) → P (word i a (word j b (ended k)))) → P ws
on_two P ws a b h f = on_word P ws a (b ∷ []) h (λ i rest r. on_one (λ w. P (word i a w)) rest b r (f i))

on_three : (P : LineWords → Type 0) (ws : LineWords) (a b c : List ℕ) → texts_of ws ≡ Some (a ∷ b ∷ c ∷ [])
    → ((i j k l : ℕ) → P (word i a (word j b (word k c (ended l))))) → P ws
on_three P ws a b c h f = on_word P ws a (b ∷ c ∷ []) h (λ i rest r. on_two (λ w. P (word i a w)) rest b c r (f i))

on_four : (P : LineWords → Type 0) (ws : LineWords) (a b c d : List ℕ) → texts_of ws ≡ Some (a ∷ b ∷ c ∷ d ∷ [])
    → ((i j k l m : ℕ) → P (word i a (word j b (word k c (word l d (ended m)))))) → P ws
on_four P ws a b c d h f = on_word P ws a (b ∷ c ∷ d ∷ []) h (λ i rest r. on_three (λ w. P (word i a w)) rest b c d r (f i))

on_five : (P : LineWords → Type 0) (ws : LineWords) (a b c d e : List ℕ) → texts_of ws ≡ Some (a ∷ b ∷ c ∷ d ∷ e ∷ [])
    → ((i j k l m n : ℕ) → P (word i a (word j b (word k c (word l d (word m e (ended n))))))) → P ws
on_five P ws a b c d e h f = on_word P ws a (b ∷ c ∷ d ∷ e ∷ []) h (λ i rest r. on_four (λ w. P (word i a w)) rest b c d e r (f i))

on_six : (P : LineWords → Type 0) (ws : LineWords) (a b c d e g : List ℕ) → texts_of ws ≡ Some (a ∷ b ∷ c ∷ d ∷ e ∷ g ∷ [])
    → ((i j k l m n o : ℕ) → P (word i a (word j b (word k c (word l d (word m e (word n g (ended o)))))))) → P ws
on_six P ws a b c d e g h f = on_word P ws a (b ∷ c ∷ d ∷ e ∷ g ∷ []) h (λ i rest r. on_five (λ w. P (word i a w)) rest b c d e g r (f i))

on_seven : (P : LineWords → Type 0) (ws : LineWords) (a b c d e g h : List ℕ) → texts_of ws ≡ Some (a ∷ b ∷ c ∷ d ∷ e ∷ g ∷ h ∷ [])
    → ((i j k l m n o p : ℕ) → P (word i a (word j b (word k c (word l d (word m e (word n g (word o h (ended p))))))))) → P ws
on_seven P ws a b c d e g h are f = on_word P ws a (b ∷ c ∷ d ∷ e ∷ g ∷ h ∷ []) are (λ i rest r. on_six (λ w. P (word i a w)) rest b c d e g h r (f i))

-- the words are read as a command
abbrev AreOf : Command → LineWords → Type 0
AreOf command ws = words_form ws ≡ Ok command

-- `DIR` names no type
no_type : (type : List ℕ) (t : Tid) → type_named type ≡ Some t → is_text type (codes "DIR") ≡ false
no_type type t named = text_cases type (codes "DIR")
    (λ same. let nothing : type_named type ≡ None = ap type_named (sym same) ∙ no_directory_type in cc)
    (λ other. other)

spelled : (ws : LineWords) (texts : List (List ℕ)) (command : Command) → texts_of ws ≡ Some texts → Spells texts command → AreOf command ws
unfolding named_form declaring_form key_form watching_form
spelled ws texts Nothing h is = on_none (AreOf Nothing) ws (h ∙ ap Some is) (λ i. refl)
spelled ws texts (Declare (Buffer name size)) h is = on_three (AreOf (Declare (Buffer name size))) ws (codes "buffer") name is.0 (h ∙ ap Some is.1) (λ i j k l. rw is.2 refl)
spelled ws texts (Declare (Equip name id mask buffer limit)) h is = elim is.4 [
  | inl whole ↦ on_five (AreOf (Declare (Equip name id mask buffer limit))) ws (codes "equip") name is.0 is.1 buffer (h ∙ ap Some whole.0)
      (λ i j k l m n. rw (is.2, is.3) (ap (λ most. Ok (Declare (Equip name id mask buffer most))) (sym whole.1)))
  | inr whole ↦ on_six (AreOf (Declare (Equip name id mask buffer limit))) ws (codes "equip") name is.0 is.1 buffer whole.0 (h ∙ ap Some whole.1)
      (λ i j k l m n o. rw (is.2, is.3, whole.2) refl)
]
spelled ws texts (Declare (Channel number pattern buffer id mask sub_bytes)) h is = elim is.6 [
  | inl whole ↦ on_six (AreOf (Declare (Channel number pattern buffer id mask sub_bytes))) ws (codes "channel") is.0 pattern buffer is.1 is.2 (h ∙ ap Some whole.0)
      (λ i j k l m n o. rw (is.3, is.4, is.5) (ap (λ limit. Ok (Declare (Channel number pattern buffer id mask limit))) (sym whole.1)))
  | inr whole ↦ on_seven (AreOf (Declare (Channel number pattern buffer id mask sub_bytes))) ws (codes "channel") is.0 pattern buffer is.1 is.2 whole.0 (h ∙ ap Some whole.1)
      (λ i j k l m n o p. rw (is.3, is.4, is.5, whole.2) refl)
]
spelled ws texts (Declare (Analyzer name buffer id mask kind)) h is =
    on_six (AreOf (Declare (Analyzer name buffer id mask kind))) ws (codes "analyzer") name buffer is.0 is.1 is.2 (h ∙ ap Some is.3) (λ i j k l m n o. rw (is.4, is.5, is.6) refl)
spelled ws texts (Run (Events count)) h is = on_two (AreOf (Run (Events count))) ws (codes "events") is.0 (h ∙ ap Some is.1) (λ i j k. rw is.2 refl)
spelled ws texts (Run Start) h is = on_one (AreOf (Run Start)) ws (codes "start") (h ∙ ap Some is) (λ i j. refl)
spelled ws texts (Run Stop) h is = on_one (AreOf (Run Stop)) ws (codes "stop") (h ∙ ap Some is) (λ i j. refl)
spelled ws texts (Run Pause) h is = on_one (AreOf (Run Pause)) ws (codes "pause") (h ∙ ap Some is) (λ i j. refl)
spelled ws texts (Run Resume) h is = on_one (AreOf (Run Resume)) ws (codes "resume") (h ∙ ap Some is) (λ i j. refl)
spelled ws texts (Database (Rows (Create tid path len))) h is = elim is.2 [
  | inl whole ↦ on_three (AreOf (Database (Rows (Create tid path len)))) ws (codes "create") is.0 path (h ∙ ap Some whole.0)
      (λ i j k l. rw (no_type is.0 tid is.1, is.1) (ap (λ n. Ok (Database (Rows (Create tid path n)))) (sym whole.1)))
  | inr whole ↦ on_four (AreOf (Database (Rows (Create tid path len)))) ws (codes "create") is.0 path whole.0 (h ∙ ap Some whole.1)
      (λ i j k l m. rw (no_type is.0 tid is.1, is.1, whole.2) refl)
]
spelled ws texts (Database (Rows (CreateDir path))) h is = on_three (AreOf (Database (Rows (CreateDir path)))) ws (codes "create") (codes "DIR") path (h ∙ ap Some is) (λ i j k l. refl)
spelled ws texts (Database (Rows (Link path target))) h is = on_three (AreOf (Database (Rows (Link path target)))) ws (codes "link") path target (h ∙ ap Some is) (λ i j k l. refl)
spelled ws texts (Database (Rows (Set path index value))) h is = elim is [
  | inl whole ↦ on_three (AreOf (Database (Rows (Set path index value)))) ws (codes "set") path value (h ∙ ap Some whole.0)
      (λ i j k l. ap (λ n. Ok (Database (Rows (Set path n value)))) (sym whole.1))
  | inr whole ↦ on_four (AreOf (Database (Rows (Set path index value)))) ws (codes "set") path whole.0 value (h ∙ ap Some whole.1) (λ i j k l m. rw whole.2 refl)
]
spelled ws texts (Database (Rows (Get path None))) h is = on_two (AreOf (Database (Rows (Get path None)))) ws (codes "get") path (h ∙ ap Some is) (λ i j k. refl)
spelled ws texts (Database (Rows (Get path (Some index)))) h is = on_three (AreOf (Database (Rows (Get path (Some index))))) ws (codes "get") path is.0 (h ∙ ap Some is.1) (λ i j k l. rw is.2 refl)
spelled ws texts (Database (Rows (Ls path))) h is = on_two (AreOf (Database (Rows (Ls path)))) ws (codes "ls") path (h ∙ ap Some is) (λ i j k. refl)
spelled ws texts (Database (Rows (Remove path))) h is = on_two (AreOf (Database (Rows (Remove path)))) ws (codes "rm") path (h ∙ ap Some is) (λ i j k. refl)
spelled ws texts (Database (Watches (Load file))) h is = on_two (AreOf (Database (Watches (Load file)))) ws (codes "load") file (h ∙ ap Some is) (λ i j k. refl)
spelled ws texts (Database (Watches (Save file))) h is = on_two (AreOf (Database (Watches (Save file)))) ws (codes "save") file (h ∙ ap Some is) (λ i j k. refl)
spelled ws texts (Database (Watches (Watch path))) h is = on_two (AreOf (Database (Watches (Watch path)))) ws (codes "watch") path (h ∙ ap Some is) (λ i j k. refl)
spelled ws texts (Database (Watches (Notes watch))) h is = on_two (AreOf (Database (Watches (Notes watch)))) ws (codes "notes") is.0 (h ∙ ap Some is.1) (λ i j k. rw is.2 refl)
spelled ws texts (Database (Watches (Unwatch watch))) h is = on_two (AreOf (Database (Watches (Unwatch watch)))) ws (codes "unwatch") is.0 (h ∙ ap Some is.1) (λ i j k. rw is.2 refl)
spelled ws texts Exit h is = on_one (AreOf Exit) ws (codes "exit") (h ∙ ap Some is) (λ i j. refl)

-- Whole lines.

words_read : (line : List ℕ) → length line ≤ 4096 → starts_with nat_eq line (codes "#") ≡ false → command_of line ≡ words_form (line_words line)
unfolding command_of
words_read line fits plain = rw (le-ltb 4096 (length line) fits, plain) refl

pub command_spelled : (line : List ℕ) (command : Command) → length line ≤ 4096 → starts_with nat_eq line (codes "#") ≡ false
    → (command_of line ≡ Ok command) ↔ Spelled (line_words line) command
command_spelled line command fits plain =
    let whole : command_of line ≡ words_form (line_words line) = words_read line fits plain in (
      (λ read. subst (Reads [] (line_words line)) (sym whole ∙ read) (reads (line_words line))),
      (λ words. whole ∙ spelled (line_words line) words.0 command words.1 words.2),
    )
