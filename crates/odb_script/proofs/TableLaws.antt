-- A line is refused where no form of the table goes on, form by form.
use Rattle.std.specs.Prelude.{◌≡◌, ℕ, ◌<◌, ◌≤◌, nat_eq, Bool, true, false, if◌then◌else◌, List, [], ◌∷◌, length, map, Option, Some, None, is_some, Ok, Err, unwrap_or, codes, refl}
use Rattle.std.proofs.Common.{ap, sym, ◌∙◌, subst}
use Rattle.std.specs.List.{starts_with}
use Rattle.std.proofs.lemmas.Bool.{lt-ltb, le-ltb}
use Rattle.std.proofs.lemmas.Slice.Eq.{bytes_eq-Decides}
use Rattle.daq_types.specs.declared.runs.Kind.{Kind}
use Rattle.daq_types.specs.declared.runs.Kind.TheVariants.{All as GetAll, NonBlocking}
use Rattle.daq_types.specs.declared.types.Tid.{Tid}
use Rattle.odb_script.specs.LineWords.{LineWords, word, ended, faulty, line_words}
use Rattle.daq_text.specs.Numbers.{whole_number}
use Rattle.odb_script.specs.Numbers.{most_number, most_small}
use Rattle.odb_script.specs.TypeNames.{is_text, type_named, kind_named}
use Rattle.odb_script.specs.declared.commands.Command.{Command}
use Rattle.odb_script.specs.declared.commands.Command.TheVariants.{Nothing, Exit, Declare, Run}
use Rattle.odb_script.specs.declared.commands.Declaration.TheVariants.{Buffer, Equip, Channel, Analyzer}
use Rattle.odb_script.specs.declared.commands.RunCommand.TheVariants.{Events, Start, Stop, Pause, Resume}
use Rattle.odb_script.specs.declared.commands.RowCommand.TheVariants.{Create, CreateDir, Link, Set, Get, List as Ls, Remove}
use Rattle.odb_script.specs.declared.commands.WatchCommand.TheVariants.{Load, Save, Watch, Notes, Unwatch}
use Rattle.odb_script.specs.declared.refusals.LineRefusal.TheVariants.{BadCommand}
use Rattle.odb_script.specs.Forms.{Read, ◌>>=◌, next_text, words_behind, next_number, next_kind, number_at_end, on_rows, on_watches, only, with_text, with_number, buffer_form, equip_end, equip_form, channel_end, channel_form, analyzer_end, analyzer_form, create_form, link_form, set_end, set_form, watching_form, key_form, declaring_form, named_form, words_form, command_of}
use Rattle.odb_script.specs.FormTable.{Piece, exactly, any_text, number_to, a_number, a_small_number, a_type, fits, LineForm, forms, forms_going_on, form_ended, first_misfit, place_of}

-- What is known of a text: whether it is a number, the name of a type, or one text alone.

pub number_cases : {A : Type 0} (most : ℕ) (text : List ℕ) → (whole_number most text ≡ None → A) → ((n : ℕ) → whole_number most text ≡ Some n → A) → A
number_cases {A} most text none some =
    elim (whole_number most text) as (λ found. whole_number most text ≡ found → A) [ None ↦ none | Some n ↦ some n ] refl

pub type_cases : {A : Type 0} (text : List ℕ) → (type_named text ≡ None → A) → ((t : Tid) → type_named text ≡ Some t → A) → A
type_cases {A} text none some =
    elim (type_named text) as (λ found. type_named text ≡ found → A) [ None ↦ none | Some t ↦ some t ] refl

pub kind_cases : {A : Type 0} (text : List ℕ) → (kind_named text ≡ None → A) → ((k : Kind) → kind_named text ≡ Some k → A) → A
kind_cases {A} text none some =
    elim (kind_named text) as (λ found. kind_named text ≡ found → A) [ None ↦ none | Some k ↦ some k ] refl

pub text_cases : {A : Type 0} (text name : List ℕ) → (name ≡ text → A) → (is_text text name ≡ false → A) → A
text_cases {A} text name same other =
    elim (is_text text name) as (λ b. is_text text name ≡ b → A) [ true ↦ (λ e. same (sym ((bytes_eq-Decides text name).0 e))) | false ↦ other ] refl

-- The ends of forms.

ends : (command : Command) (ws : LineWords) → place_of (only command ws) ≡ first_misfit ([] ∷ []) ws
ends command (word at text ws) = refl
ends command (ended at) = refl
ends command (faulty at) = refl

-- one text
text_ends : (make : List ℕ → Command) (ws : LineWords) → place_of (with_text make ws) ≡ first_misfit ((any_text ∷ []) ∷ []) ws
text_ends make (word at text (word next other ws)) = refl
text_ends make (word at text (ended next)) = refl
text_ends make (word at text (faulty next)) = refl
text_ends make (ended at) = refl
text_ends make (faulty at) = refl

-- one number
number_ends : (make : ℕ → Command) (ws : LineWords) → place_of (with_number make ws) ≡ first_misfit ((a_number ∷ []) ∷ []) ws
number_ends make (word at text (word next other ws)) = number_cases most_number text (λ e. rw e refl) (λ n e. rw e refl)
number_ends make (word at text (ended next)) = number_cases most_number text (λ e. rw e refl) (λ n e. rw e refl)
number_ends make (word at text (faulty next)) = number_cases most_number text (λ e. rw e refl) (λ n e. rw e refl)
number_ends make (ended at) = refl
number_ends make (faulty at) = refl

-- a number that may be left out
maybe_number_ends : (make : Option ℕ → Command) (ws : LineWords) → place_of (number_at_end ws >>= (λ n. Ok (make n))) ≡ first_misfit ([] ∷ (a_number ∷ []) ∷ []) ws
maybe_number_ends make (word at text (word next other ws)) = number_cases most_number text (λ e. rw e refl) (λ n e. rw e refl)
maybe_number_ends make (word at text (ended next)) = number_cases most_number text (λ e. rw e refl) (λ n e. rw e refl)
maybe_number_ends make (word at text (faulty next)) = number_cases most_number text (λ e. rw e refl) (λ n e. rw e refl)
maybe_number_ends make (ended at) = refl
maybe_number_ends make (faulty at) = refl

-- Forms that all have the same piece in front.

abbrev all_behind : Piece → List LineForm → List LineForm
all_behind piece fs = map (λ f. piece ∷ f) fs

all_go_on : (piece : Piece) (text : List ℕ) (fs : List LineForm) → fits piece text ≡ true → forms_going_on text (all_behind piece fs) ≡ fs
all_go_on piece text [] e = refl
all_go_on piece text (f ∷ fs) e = rw e (ap (λ gs. f ∷ gs) (all_go_on piece text fs e))

none_goes_on : (piece : Piece) (text : List ℕ) (fs : List LineForm) → fits piece text ≡ false → forms_going_on text (all_behind piece fs) ≡ []
none_goes_on piece text [] e = refl
none_goes_on piece text (f ∷ fs) e = rw e (none_goes_on piece text fs e)

none_ended : (piece : Piece) (fs : List LineForm) → form_ended (all_behind piece fs) ≡ false
none_ended piece [] = refl
none_ended piece (f ∷ fs) = none_ended piece fs

text_goes_on : (f : LineForm) (fs : List LineForm) (go_on : List ℕ → LineWords → Read Command) → ((text : List ℕ) (ws : LineWords) → place_of (go_on text ws) ≡ first_misfit (f ∷ fs) ws)
    → (ws : LineWords) → place_of (next_text ws >>= (λ text. go_on text (words_behind ws))) ≡ first_misfit (all_behind any_text (f ∷ fs)) ws
text_goes_on f fs go_on h (word at text ws) = rw (all_go_on any_text text fs refl) (h text ws)
text_goes_on f fs go_on h (ended at) = rw (none_ended any_text fs) refl
text_goes_on f fs go_on h (faulty at) = refl

number_goes_on : (most : ℕ) (f : LineForm) (fs : List LineForm) (go_on : ℕ → LineWords → Read Command) → ((n : ℕ) (ws : LineWords) → place_of (go_on n ws) ≡ first_misfit (f ∷ fs) ws)
    → (ws : LineWords) → place_of (next_number most ws >>= (λ n. go_on n (words_behind ws))) ≡ first_misfit (all_behind (number_to most) (f ∷ fs)) ws
number_goes_on most f fs go_on h (word at text ws) = number_cases most text
    (λ e. rw (e, none_goes_on (number_to most) text fs (ap is_some e)) refl)
    (λ n e. rw (e, all_go_on (number_to most) text fs (ap is_some e)) (h n ws))
number_goes_on most f fs go_on h (ended at) = rw (none_ended (number_to most) fs) refl
number_goes_on most f fs go_on h (faulty at) = refl

-- a text, and a number that may be left out
text_number_ends : (make : List ℕ → Option ℕ → Command) (ws : LineWords)
    → place_of (next_text ws >>= (λ text. number_at_end (words_behind ws) >>= (λ n. Ok (make text n)))) ≡ first_misfit ((any_text ∷ []) ∷ (any_text ∷ a_number ∷ []) ∷ []) ws
text_number_ends make ws = text_goes_on [] ((a_number ∷ []) ∷ []) (λ text rest. number_at_end rest >>= (λ n. Ok (make text n))) (λ text. maybe_number_ends (make text)) ws

-- The forms behind their names.

buffer : (ws : LineWords) → place_of (buffer_form ws) ≡ first_misfit ((any_text ∷ a_number ∷ []) ∷ []) ws
buffer ws = text_goes_on (a_number ∷ []) [] (λ name. with_number (λ size. Declare (Buffer name size))) (λ name. number_ends (λ size. Declare (Buffer name size))) ws

equip : (ws : LineWords) → place_of (equip_form ws)
    ≡ first_misfit ((any_text ∷ a_number ∷ a_small_number ∷ any_text ∷ []) ∷ (any_text ∷ a_number ∷ a_small_number ∷ any_text ∷ a_number ∷ []) ∷ []) ws
equip ws =
    text_goes_on (a_number ∷ a_small_number ∷ any_text ∷ []) ((a_number ∷ a_small_number ∷ any_text ∷ a_number ∷ []) ∷ [])
    (λ name behind. next_number most_number behind >>= (λ id. next_number most_small (words_behind behind) >>= (λ mask. equip_end name id mask (words_behind (words_behind behind)))))
    (λ name. number_goes_on most_number (a_small_number ∷ any_text ∷ []) ((a_small_number ∷ any_text ∷ a_number ∷ []) ∷ [])
    (λ id behind. next_number most_small behind >>= (λ mask. equip_end name id mask (words_behind behind)))
    (λ id. number_goes_on most_small (any_text ∷ []) ((any_text ∷ a_number ∷ []) ∷ []) (equip_end name id)
    (λ mask. text_number_ends (λ into limit. Declare (Equip name id mask into (unwrap_or limit most_number))))))
    ws

channel_back : (number : ℕ) (pattern into : List ℕ) (ws : LineWords) → place_of (channel_end number pattern into ws)
    ≡ first_misfit ((a_small_number ∷ a_small_number ∷ []) ∷ (a_small_number ∷ a_small_number ∷ a_number ∷ []) ∷ []) ws
channel_back number pattern into ws =
    number_goes_on most_small (a_small_number ∷ []) ((a_small_number ∷ a_number ∷ []) ∷ [])
    (λ id behind. next_number most_small behind >>= (λ mask. number_at_end (words_behind behind) >>= (λ limit. Ok (Declare (Channel number pattern into id mask (unwrap_or limit 0))))))
    (λ id. number_goes_on most_small [] ((a_number ∷ []) ∷ [])
    (λ mask behind. number_at_end behind >>= (λ limit. Ok (Declare (Channel number pattern into id mask (unwrap_or limit 0)))))
    (λ mask. maybe_number_ends (λ limit. Declare (Channel number pattern into id mask (unwrap_or limit 0)))))
    ws

channel : (ws : LineWords) → place_of (channel_form ws)
    ≡ first_misfit ((a_number ∷ any_text ∷ any_text ∷ a_small_number ∷ a_small_number ∷ []) ∷ (a_number ∷ any_text ∷ any_text ∷ a_small_number ∷ a_small_number ∷ a_number ∷ []) ∷ []) ws
channel ws =
    number_goes_on most_number (any_text ∷ any_text ∷ a_small_number ∷ a_small_number ∷ []) ((any_text ∷ any_text ∷ a_small_number ∷ a_small_number ∷ a_number ∷ []) ∷ [])
    (λ number behind. next_text behind >>= (λ pattern. next_text (words_behind behind) >>= (λ into. channel_end number pattern into (words_behind (words_behind behind)))))
    (λ number. text_goes_on (any_text ∷ a_small_number ∷ a_small_number ∷ []) ((any_text ∷ a_small_number ∷ a_small_number ∷ a_number ∷ []) ∷ [])
    (λ pattern behind. next_text behind >>= (λ into. channel_end number pattern into (words_behind behind)))
    (λ pattern. text_goes_on (a_small_number ∷ a_small_number ∷ []) ((a_small_number ∷ a_small_number ∷ a_number ∷ []) ∷ [])
    (channel_end number pattern) (channel_back number pattern)))
    ws

-- `all` or `some` at the line's end
abbrev kind_pieces : List LineForm
kind_pieces = (exactly (codes "all") ∷ []) ∷ (exactly (codes "some") ∷ []) ∷ []

kind_ends : (make : Kind → Command) (ws : LineWords) → place_of (next_kind ws >>= (λ kind. only (make kind) (words_behind ws))) ≡ first_misfit kind_pieces ws
unfolding kind_named
kind_ends make (word at text ws) = text_cases text (codes "all")
    (λ same. subst (λ t. place_of (next_kind (word at t ws) >>= (λ kind. only (make kind) ws)) ≡ first_misfit kind_pieces (word at t ws)) same (ends (make GetAll) ws))
    (λ no_all. text_cases text (codes "some")
    (λ same. subst (λ t. place_of (next_kind (word at t ws) >>= (λ kind. only (make kind) ws)) ≡ first_misfit kind_pieces (word at t ws)) same (ends (make NonBlocking) ws))
    (λ no_some. rw (no_all, no_some) refl))
kind_ends make (ended at) = refl
kind_ends make (faulty at) = refl

analyzer_back : (name into : List ℕ) (ws : LineWords) → place_of (analyzer_end name into ws)
    ≡ first_misfit ((a_small_number ∷ a_small_number ∷ exactly (codes "all") ∷ []) ∷ (a_small_number ∷ a_small_number ∷ exactly (codes "some") ∷ []) ∷ []) ws
analyzer_back name into ws =
    number_goes_on most_small (a_small_number ∷ exactly (codes "all") ∷ []) ((a_small_number ∷ exactly (codes "some") ∷ []) ∷ [])
    (λ id behind. next_number most_small behind >>= (λ mask. next_kind (words_behind behind) >>= (λ kind. only (Declare (Analyzer name into id mask kind)) (words_behind (words_behind behind)))))
    (λ id. number_goes_on most_small (exactly (codes "all") ∷ []) ((exactly (codes "some") ∷ []) ∷ [])
    (λ mask behind. next_kind behind >>= (λ kind. only (Declare (Analyzer name into id mask kind)) (words_behind behind)))
    (λ mask. kind_ends (λ kind. Declare (Analyzer name into id mask kind))))
    ws

analyzer : (ws : LineWords) → place_of (analyzer_form ws)
    ≡ first_misfit ((any_text ∷ any_text ∷ a_small_number ∷ a_small_number ∷ exactly (codes "all") ∷ []) ∷ (any_text ∷ any_text ∷ a_small_number ∷ a_small_number ∷ exactly (codes "some") ∷ []) ∷ []) ws
analyzer ws =
    text_goes_on (any_text ∷ a_small_number ∷ a_small_number ∷ exactly (codes "all") ∷ []) ((any_text ∷ a_small_number ∷ a_small_number ∷ exactly (codes "some") ∷ []) ∷ [])
    (λ name behind. next_text behind >>= (λ into. analyzer_end name into (words_behind behind)))
    (λ name. text_goes_on (a_small_number ∷ a_small_number ∷ exactly (codes "all") ∷ []) ((a_small_number ∷ a_small_number ∷ exactly (codes "some") ∷ []) ∷ [])
    (analyzer_end name) (analyzer_back name))
    ws

pub no_directory_type : type_named (codes "DIR") ≡ None
unfolding type_named
no_directory_type = refl

-- what is left of the table behind `create`
abbrev create_forms : List LineForm
create_forms = (exactly (codes "DIR") ∷ any_text ∷ []) ∷ (a_type ∷ any_text ∷ []) ∷ (a_type ∷ any_text ∷ a_number ∷ []) ∷ []

create : (ws : LineWords) → place_of (create_form ws) ≡ first_misfit create_forms ws
create (word at kind ws) = text_cases kind (codes "DIR")
    (λ same. subst (λ text. place_of (create_form (word at text ws)) ≡ first_misfit create_forms (word at text ws)) same (rw no_directory_type (text_ends (λ path. on_rows (CreateDir path)) ws)))
    (λ other. type_cases kind (λ e. rw (other, e) refl) (λ t e. rw (other, e) (text_number_ends (λ path len. on_rows (Create t path (unwrap_or len 1))) ws)))
create (ended at) = refl
create (faulty at) = refl

link : (ws : LineWords) → place_of (link_form ws) ≡ first_misfit ((any_text ∷ any_text ∷ []) ∷ []) ws
link ws = text_goes_on (any_text ∷ []) [] (λ path. with_text (λ target. on_rows (Link path target))) (λ path. text_ends (λ target. on_rows (Link path target))) ws

set_without_index : (path first : List ℕ) (ws : LineWords) → place_of (set_end path first None ws) ≡ first_misfit ([] ∷ []) ws
set_without_index path first (word at value ws) = refl
set_without_index path first (ended at) = refl
set_without_index path first (faulty at) = refl

set_with_index : (path first : List ℕ) (n : ℕ) (ws : LineWords) → place_of (set_end path first (Some n) ws) ≡ first_misfit ([] ∷ (any_text ∷ []) ∷ []) ws
set_with_index path first n (word at value ws) = ends (on_rows (Set path n value)) ws
set_with_index path first n (ended at) = refl
set_with_index path first n (faulty at) = refl

set : (ws : LineWords) → place_of (set_form ws) ≡ first_misfit ((any_text ∷ any_text ∷ []) ∷ (any_text ∷ a_number ∷ any_text ∷ []) ∷ []) ws
set (word at path (word next first ws)) = number_cases most_number first (λ e. rw e (set_without_index path first ws)) (λ n e. rw e (set_with_index path first n ws))
set (word at path (ended next)) = refl
set (word at path (faulty next)) = refl
set (ended at) = refl
set (faulty at) = refl

-- A word that begins none of the forms.

abbrev begins_one : List ℕ → List LineForm → Bool
begins_one text [] = false
begins_one text ([] ∷ fs) = begins_one text fs
begins_one text ((piece ∷ pieces) ∷ fs) = if fits piece text then true else begins_one text fs

none_begins : (text : List ℕ) (fs : List LineForm) → begins_one text fs ≡ false → forms_going_on text fs ≡ []
none_begins text [] e = refl
none_begins text ([] ∷ fs) e = none_begins text fs e
none_begins text ((piece ∷ pieces) ∷ fs) e =
    elim (fits piece text) as (λ b. (if b then true else begins_one text fs) ≡ false → (if b then pieces ∷ forms_going_on text fs else forms_going_on text fs) ≡ [])
    [ true ↦ (λ h. cc) | false ↦ (λ h. none_begins text fs h) ] e

misfit_at_once : (fs : List LineForm) (at : ℕ) (text : List ℕ) (ws : LineWords) → forms_going_on text fs ≡ [] → first_misfit fs (word at text ws) ≡ Some at
misfit_at_once fs at text ws none = rw none refl

-- Whole lines.

-- the forms that begin with a name
abbrev Named : ℕ → LineWords → List ℕ → Type 0
Named at ws name = place_of (named_form at name ws) ≡ first_misfit forms (word at name ws)

refused_by_all : (at : ℕ) (name : List ℕ) (ws : LineWords) → begins_one name forms ≡ false → named_form at name ws ≡ Err (BadCommand at) → Named at ws name
refused_by_all at name ws none refused = ap place_of refused ∙ sym (misfit_at_once forms at name ws (none_begins name forms none))

named : (at : ℕ) (name : List ℕ) (ws : LineWords) → Named at ws name
unfolding named_form declaring_form key_form watching_form
named at name ws =
    text_cases name (codes "events") (λ e. subst (Named at ws) e (number_ends (λ count. Run (Events count)) ws)) (λ no_events.
    text_cases name (codes "start") (λ e. subst (Named at ws) e (ends (Run Start) ws)) (λ no_start.
    text_cases name (codes "stop") (λ e. subst (Named at ws) e (ends (Run Stop) ws)) (λ no_stop.
    text_cases name (codes "pause") (λ e. subst (Named at ws) e (ends (Run Pause) ws)) (λ no_pause.
    text_cases name (codes "resume") (λ e. subst (Named at ws) e (ends (Run Resume) ws)) (λ no_resume.
    text_cases name (codes "exit") (λ e. subst (Named at ws) e (ends Exit ws)) (λ no_exit.
    text_cases name (codes "buffer") (λ e. subst (Named at ws) e (buffer ws)) (λ no_buffer.
    text_cases name (codes "equip") (λ e. subst (Named at ws) e (equip ws)) (λ no_equip.
    text_cases name (codes "channel") (λ e. subst (Named at ws) e (channel ws)) (λ no_channel.
    text_cases name (codes "analyzer") (λ e. subst (Named at ws) e (analyzer ws)) (λ no_analyzer.
    text_cases name (codes "create") (λ e. subst (Named at ws) e (create ws)) (λ no_create.
    text_cases name (codes "link") (λ e. subst (Named at ws) e (link ws)) (λ no_link.
    text_cases name (codes "set") (λ e. subst (Named at ws) e (set ws)) (λ no_set.
    text_cases name (codes "get") (λ e. subst (Named at ws) e (text_number_ends (λ path index. on_rows (Get path index)) ws)) (λ no_get.
    text_cases name (codes "ls") (λ e. subst (Named at ws) e (text_ends (λ path. on_rows (Ls path)) ws)) (λ no_ls.
    text_cases name (codes "rm") (λ e. subst (Named at ws) e (text_ends (λ path. on_rows (Remove path)) ws)) (λ no_rm.
    text_cases name (codes "load") (λ e. subst (Named at ws) e (text_ends (λ file. on_watches (Load file)) ws)) (λ no_load.
    text_cases name (codes "save") (λ e. subst (Named at ws) e (text_ends (λ file. on_watches (Save file)) ws)) (λ no_save.
    text_cases name (codes "watch") (λ e. subst (Named at ws) e (text_ends (λ path. on_watches (Watch path)) ws)) (λ no_watch.
    text_cases name (codes "notes") (λ e. subst (Named at ws) e (number_ends (λ watch. on_watches (Notes watch)) ws)) (λ no_notes.
    text_cases name (codes "unwatch") (λ e. subst (Named at ws) e (number_ends (λ watch. on_watches (Unwatch watch)) ws)) (λ no_unwatch.
    refused_by_all at name ws (rw (no_events, no_start, no_stop, no_pause, no_resume, no_exit, no_buffer, no_equip, no_channel, no_analyzer, no_create, no_link, no_set, no_get, no_ls, no_rm, no_load, no_save, no_watch, no_notes, no_unwatch) refl) (rw (no_events, no_start, no_stop, no_pause, no_resume, no_exit, no_buffer, no_equip, no_channel, no_analyzer, no_create, no_link, no_set, no_get, no_ls, no_rm, no_load, no_save, no_watch, no_notes, no_unwatch) refl))))))))))))))))))))))

first_named : (ws : LineWords) → place_of (words_form ws) ≡ first_misfit forms ws
first_named (word at name ws) = named at name ws
first_named (ended at) = refl
first_named (faulty at) = refl

pub refused_at : (line : List ℕ) → length line ≤ 4096 → starts_with nat_eq line (codes "#") ≡ false → place_of (command_of line) ≡ first_misfit forms (line_words line)
unfolding command_of
refused_at line fits plain = rw (le-ltb 4096 (length line) fits, plain) (first_named (line_words line))

pub long_refused : (line : List ℕ) → 4096 < length line → command_of line ≡ Err (BadCommand 4096)
unfolding command_of
long_refused line long = rw (lt-ltb 4096 (length line) long) refl

pub comment_passed : (line : List ℕ) → length line ≤ 4096 → starts_with nat_eq line (codes "#") ≡ true → command_of line ≡ Ok Nothing
unfolding command_of
comment_passed line fits comment = rw (le-ltb 4096 (length line) fits, comment) refl
