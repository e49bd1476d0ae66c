-- The console text of a script's replies, and the lines that were refused.
use Rattle.std.specs.Prelude.{ℕ, ◌+◌, Bool, true, false, List, [], ◌∷◌, ◌++◌, codes}
use Rattle.std.specs.List.{flat_map}
use Rattle.std.specs.Fmt.{decimal}
use Rattle.daq_types.specs.declared.names.NameRefusal.{NameRefusal}
use Rattle.daq_types.specs.declared.names.NameRefusal.TheVariants.{EmptyName, LongName, BadByte}
use Rattle.daq_types.specs.declared.runs.RunState.{RunState}
use Rattle.daq_types.specs.declared.runs.RunState.TheVariants.{Stopped, Paused, Running}
use Rattle.daq_types.specs.declared.runs.ChannelState.{ChannelState}
use Rattle.daq_types.specs.declared.runs.ChannelState.TheVariants.{Idle, Writing, Broken, Ended, NoEnd, NoMark}
use Rattle.daq_types.specs.declared.runs.Why.{Why}
use Rattle.daq_types.specs.declared.runs.Why.TheVariants.{NotReady, Exists, Fault, BufferRefused}
use Rattle.session_runs.specs.declared.records.SentLine.{SentLine}
use Rattle.session_runs.specs.declared.records.ChannelFiles.{ChannelFiles}
use Rattle.session_runs.specs.FileRows.{FileRow, file_rows}
use Rattle.session_runs.specs.declared.records.ReportLine.{ReportLine}
use Rattle.event_report.specs.Texts.{report_text}
use Rattle.session_setup.specs.declared.refusals.SetupRefusal.{SetupRefusal}
use Rattle.session_setup.specs.declared.refusals.SetupRefusal.TheVariants as setup
use Rattle.odb_value.specs.declared.items.Item.TheVariants.{Int32}
use Rattle.odb_value.specs.ItemTexts.{item_text}
use Rattle.odb_commands.specs.WatchTexts.{watch_reply_text, is_watch_refusal}
use Rattle.odb_commands.specs.Texts.{refused_line, reply_text, is_refusal as is_refused}
use Rattle.console.specs.declared.replies.Reply.{Reply}
use Rattle.console.specs.declared.replies.Reply.TheVariants as reply

-- a run state's number
abbrev pub state_number : RunState → ℕ
state_number Stopped = 1
state_number Paused = 2
state_number Running = 3

-- a channel state's name
abbrev pub state_name : ChannelState → List ℕ
state_name Idle = codes "Idle"
state_name Writing = codes "Writing"
state_name Broken = codes "Broken"
state_name Ended = codes "Ended"
state_name NoEnd = codes "NoEnd"
state_name NoMark = codes "NoMark"

-- Refusals: the name, and the fields in the order of their declaration, each behind a blank. A refusal within another
-- stands in its place.

abbrev pub name_text : NameRefusal → List ℕ
name_text EmptyName = codes "EmptyName"
name_text LongName = codes "LongName"
name_text (BadByte at) = codes "BadByte " ++ decimal at

-- why a declaration was refused
abbrev pub setup_text : SetupRefusal → List ℕ
setup_text setup.Opened = codes "Opened"
setup_text (setup.BadName refusal) = name_text refusal
setup_text setup.Exists = codes "Exists"
setup_text setup.BadBufferSize = codes "BadBufferSize"
setup_text (setup.TooMany most) = codes "TooMany " ++ decimal most
setup_text setup.SameName = codes "SameName"
setup_text setup.BadId = codes "BadId"
setup_text setup.SameId = codes "SameId"
setup_text setup.NoBuffer = codes "NoBuffer"
setup_text setup.BadChannel = codes "BadChannel"
setup_text setup.SameChannel = codes "SameChannel"
setup_text setup.BadPattern = codes "BadPattern"
setup_text setup.Compressed = codes "Compressed"

-- why a member refused a start
abbrev pub why_text : Why → List ℕ
why_text NotReady = codes "NotReady"
why_text (Exists channel) = codes "Exists " ++ decimal channel
why_text (Fault channel) = codes "Fault " ++ decimal channel
why_text BufferRefused = codes "BufferRefused"

-- Runs.

-- what became of a run
abbrev pub run_line : (run : ℕ) → (word : List ℕ) → List ℕ
run_line run word = codes "run " ++ (decimal run ++ (32 ∷ (word ++ 10 ∷ [])))

-- what a front-end sent
abbrev pub sent_line : SentLine → List ℕ
sent_line front = front.name ++ (codes " sent " ++ (decimal front.sent ++ 10 ∷ []))

abbrev pub sent_lines : List SentLine → List ℕ
sent_lines fronts = flat_map sent_line fronts

-- a run file
abbrev pub file_line : FileRow → List ℕ
file_line file = file.name ++ (32 ∷ (state_name file.state ++ 10 ∷ []))

abbrev pub file_lines : List FileRow → List ℕ
file_lines files = flat_map file_line files

-- what the analyzers counted: of each its report, with its name and a blank before each line
abbrev pub report_lines : List ReportLine → List ℕ
report_lines reports = flat_map (λ line. report_text line.start line.report) reports

-- the end of a run: a line for it, one for each front-end and one for each file of each channel, and the reports of the analyzers
abbrev pub stop_text : (run : ℕ) → List SentLine → List ChannelFiles → List ReportLine → List ℕ
stop_text run fronts files reports =
    run_line run (codes "stopped") ++ (sent_lines fronts ++ (file_lines (file_rows run files) ++ report_lines reports))

-- what a script line of this number prints
abbrev pub text_of : (line : ℕ) → Reply → List ℕ
text_of line reply.Silent = []
text_of line (reply.BadCommand at) = refused_line line (codes "BadCommand " ++ decimal at)
text_of line (reply.Setup refusal) = refused_line line (setup_text refusal)
text_of line (reply.WrongState state) = refused_line line (codes "WrongState " ++ decimal (state_number state))
text_of line reply.LastStart = refused_line line (codes "LastStart")
text_of line (reply.RunNumber have) = refused_line line (codes "RunNumber " ++ item_text (Int32 have))
text_of line (reply.StartRefused client why) = refused_line line (codes "StartRefused " ++ (client ++ (32 ∷ why_text why)))
text_of line (reply.Started run) = run_line run (codes "started")
text_of line (reply.Paused run) = run_line run (codes "paused")
text_of line (reply.Resumed run) = run_line run (codes "resumed")
text_of line (reply.Stopped run fronts files reports) = stop_text run fronts files reports
text_of line (reply.Database answer) = reply_text line answer
text_of line (reply.Watch answer) = watch_reply_text line answer

-- the text of replies, of which the first is to the line of this number
abbrev pub console_text : (line : ℕ) → List Reply → List ℕ
console_text line [] = []
console_text line (first ∷ replies) = text_of line first ++ console_text (line + 1) replies

-- whether a reply refuses its line
abbrev pub refuses_line : Reply → Bool
refuses_line reply.Silent = false
refuses_line (reply.BadCommand at) = true
refuses_line (reply.Setup refusal) = true
refuses_line (reply.WrongState state) = true
refuses_line reply.LastStart = true
refuses_line (reply.RunNumber have) = true
refuses_line (reply.StartRefused client why) = true
refuses_line (reply.Started run) = false
refuses_line (reply.Paused run) = false
refuses_line (reply.Resumed run) = false
refuses_line (reply.Stopped run fronts files reports) = false
refuses_line (reply.Database answer) = is_refused answer
refuses_line (reply.Watch answer) = is_watch_refusal answer

abbrev pub line_if : Bool → ℕ → List ℕ
line_if true line = line ∷ []
line_if false line = []

-- the lines that were refused, of which the first reply is to the line of this number
abbrev pub refused_lines : (line : ℕ) → List Reply → List ℕ
refused_lines line [] = []
refused_lines line (first ∷ replies) = line_if (refuses_line first) line ++ refused_lines (line + 1) replies

-- the first of them; 0 where none was refused
abbrev pub first_line : List ℕ → ℕ
first_line [] = 0
first_line (line ∷ lines) = line
