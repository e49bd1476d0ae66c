-- What declarations do, and what they are answered.
use Rattle.std.specs.Prelude.{◌≡◌, ℕ, Bool, true, false, List, Option, Some, None, Result, Ok, Err}
use Rattle.daq_types.specs.declared.runs.Kind.{Kind}
use Rattle.mid_logger.specs.Patterns.{NamePattern}
use Rattle.odb_script.specs.declared.commands.Declaration.{Declaration}
use Rattle.odb_script.specs.declared.commands.Declaration.TheVariants.{Buffer, Equip, Channel, Analyzer}
use Rattle.session_setup.specs.declared.refusals.SetupRefusal.{SetupRefusal}
use Rattle.session_setup.specs.declared.refusals.SetupRefusal.TheVariants.{Opened}
use Rattle.session_setup.specs.Setup.{Declared}
use Rattle.session_setup.specs.Refusals.{NameRead, IsNameRead}
use Rattle.session_setup.specs.SetupLines.{buffer_refusal, with_buffer, equip_refusal, with_front, is_limited, IsPatternRead, channel_refusal, with_channel, analyzer_refusal, with_analyzer}
use Rattle.console.specs.declared.replies.Reply.{Reply}
use Rattle.console.specs.declared.replies.Reply.TheVariants.{Silent, Setup}

-- the reply to a line that was taken or refused
abbrev pub setup_reply : Result (Unit {0}) SetupRefusal → Reply
setup_reply (Ok taken) = Silent
setup_reply (Err refusal) = Setup refusal

-- a line that is refused so changes nothing; one that is not declares what it does
abbrev pub TakesSetup : Option SetupRefusal → (taken : Declared) → (old : Declared) → Reply → (new : Declared) → Type 0
TakesSetup None taken old reply new = (reply ≡ Silent) × (new ≡ taken)
TakesSetup (Some refusal) taken old reply new = (reply ≡ Setup refusal) × (new ≡ old)

-- `buffer NAME SIZE`
abbrev pub DeclaresBuffer : (name : List ℕ) → (size : ℕ) → (old : Declared) → Reply → (new : Declared) → Type 0
DeclaresBuffer name size old reply new = (read : NameRead) × IsNameRead name read × TakesSetup (buffer_refusal old read name size) (with_buffer old name size) old reply new

-- `equip NAME ID MASK BUFFER LIMIT`
abbrev pub DeclaresFront : (name : List ℕ) → (id mask : ℕ) → (buffer : List ℕ) → (limit : ℕ) → (old : Declared) → Reply → (new : Declared) → Type 0
DeclaresFront name id mask buffer limit old reply new =
    (read : NameRead) × IsNameRead name read × TakesSetup (equip_refusal old read name id buffer) (with_front old name id mask buffer limit) old reply new

-- `channel N PATTERN BUFFER ID MASK SUBBYTES`
abbrev pub TakesChannel : Option SetupRefusal → (number : ℕ) → (text buffer : List ℕ) → (id mask sub_bytes : ℕ) → (old : Declared) → Reply → (new : Declared) → Type 0
TakesChannel None number text buffer id mask sub_bytes old reply new =
    (pattern : NamePattern) × IsPatternRead text (is_limited sub_bytes) (Some pattern) × (reply ≡ Silent) × (new ≡ with_channel old number pattern buffer id mask sub_bytes)
TakesChannel (Some refusal) number text buffer id mask sub_bytes old reply new = (reply ≡ Setup refusal) × (new ≡ old)

abbrev pub DeclaresChannel : (number : ℕ) → (text buffer : List ℕ) → (id mask sub_bytes : ℕ) → (old : Declared) → Reply → (new : Declared) → Type 0
DeclaresChannel number text buffer id mask sub_bytes old reply new =
    (read : Option NamePattern) × IsPatternRead text (is_limited sub_bytes) read
    × TakesChannel (channel_refusal old number read text buffer) number text buffer id mask sub_bytes old reply new

-- `analyzer NAME BUFFER ID MASK KIND`
abbrev pub DeclaresAnalyzer : (name buffer : List ℕ) → (id mask : ℕ) → Kind → (old : Declared) → Reply → (new : Declared) → Type 0
DeclaresAnalyzer name buffer id mask kind old reply new =
    (read : NameRead) × IsNameRead name read × TakesSetup (analyzer_refusal old read name buffer) (with_analyzer old name buffer id mask kind) old reply new

-- what a declaration does before the opening
abbrev pub TakesDeclaration : Declaration → (old : Declared) → Reply → (new : Declared) → Type 0
TakesDeclaration (Buffer name size) old reply new = DeclaresBuffer name size old reply new
TakesDeclaration (Equip name id mask buffer limit) old reply new = DeclaresFront name id mask buffer limit old reply new
TakesDeclaration (Channel number pattern buffer id mask sub_bytes) old reply new = DeclaresChannel number pattern buffer id mask sub_bytes old reply new
TakesDeclaration (Analyzer name buffer id mask kind) old reply new = DeclaresAnalyzer name buffer id mask kind old reply new

-- from the opening on every declaration is refused for that
abbrev pub SetupUnless : (opened : Bool) → Type 0 → (old : Declared) → Reply → (new : Declared) → Type 0
SetupUnless true Then old reply new = (reply ≡ Setup Opened) × (new ≡ old)
SetupUnless false Then old reply new = Then

-- What a line that declares does: it is answered by what it declares, and refused once the session is open.
abbrev pub DoesDeclaration : Declaration → (old : Declared) → Reply → (new : Declared) → Type 0
DoesDeclaration declaration old reply new = SetupUnless old.opened (TakesDeclaration declaration old reply new) old reply new
