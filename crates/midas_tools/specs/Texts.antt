-- The lines that the tools print. A number is decimal, without zeros in front; each line ends with the byte 10.
use Rattle.std.specs.Prelude.{ℕ, ◌==◌, Bool, true, false, List, [], ◌∷◌, ◌++◌, length, map, find, Option, Some, None, codes}
use Rattle.std.specs.Fmt.{decimal}
use Rattle.daq_types.specs.Tids.{tid_code, tid_name}
use Rattle.daq_types.specs.declared.types.Tid.{Tid}
use Rattle.daq_types.specs.declared.types.Tid.TheVariants.{UInt8, Int8, Char, UInt16, Int16, UInt32, Int32, Bool as bool_type, Float, Double, BitField, Text, Array, Struct, Key, Link, Int64, UInt64}
use Rattle.daq_types.specs.declared.events.Event.{Event}
use Rattle.event.specs.declared.head.Header.{Header}
use Rattle.bank_format.specs.BankAreas.{BankValue}
use Rattle.bank_format.specs.declared.faults.BankFault.{BankFault}
use Rattle.bank_format.specs.declared.faults.BankFault.TheVariants.{Short, BadFlags, BadSize}
use Rattle.event_report.specs.Texts.{visible}
use Rattle.mid_format.specs.declared.faults.MidFault.{MidFault}
use Rattle.mid_format.specs.declared.faults.MidFault.TheVariants.{Truncated, NoBegin, NoEnd, AfterEnd, TooBig, ReadFault, BadRecord, TooLong}
use Rattle.midas_tools.specs.declared.ends.InputFault.{InputFault}
use Rattle.midas_tools.specs.declared.ends.InputFault.TheVariants.{Mid, Compressed, Missing, ScriptTooLong, OtherRun}

-- a number behind a blank
abbrev pub number_text : ℕ → List ℕ
number_text n = 32 ∷ decimal n

-- the name of a fault of a run file, and its numbers: its place, and the size that is too big
abbrev pub fault_text : MidFault → List ℕ
fault_text (Truncated at) = codes "Truncated" ++ number_text at
fault_text (NoBegin at) = codes "NoBegin" ++ number_text at
fault_text (NoEnd at) = codes "NoEnd" ++ number_text at
fault_text (AfterEnd at) = codes "AfterEnd" ++ number_text at
fault_text (TooBig at size) = codes "TooBig" ++ (number_text at ++ number_text size)
fault_text ReadFault = codes "ReadFault"
fault_text (BadRecord at) = codes "BadRecord" ++ number_text at
fault_text (TooLong at) = codes "TooLong" ++ number_text at

-- the name of what is wrong, and its numbers
abbrev pub input_text : InputFault → List ℕ
input_text (Mid fault) = fault_text fault
input_text Compressed = codes "Compressed"
input_text Missing = codes "Missing"
input_text ScriptTooLong = codes "ScriptTooLong"
input_text (OtherRun file run) = codes "OtherRun" ++ (number_text file ++ number_text run)

-- what is wrong with the file
abbrev pub bad_line : InputFault → List ℕ
bad_line fault = codes "bad " ++ (input_text fault ++ 10 ∷ [])

-- what is wrong, in front of the name of the file
abbrev pub bad_front : InputFault → List ℕ
bad_front fault = codes "bad " ++ (input_text fault ++ codes " in ")

-- what is wrong with one of the files that were named, and which it is where these are several
abbrev pub bad_file_line : (several : Bool) (name : List ℕ) → InputFault → List ℕ
bad_file_line false name fault = bad_line fault
bad_file_line true name fault = bad_front fault ++ (name ++ 10 ∷ [])

-- the file is good: the number of its run, how many events it has, and how many bytes
abbrev pub ok_line : (run events bytes : ℕ) → List ℕ
ok_line run events bytes = codes "ok run" ++ (number_text run ++ (codes " events" ++ (number_text events ++ (codes " bytes" ++ (number_text bytes ++ 10 ∷ [])))))

-- the number of the run that a file is of
abbrev pub run_number_line : (run : ℕ) → List ℕ
run_number_line run = codes "run" ++ (number_text run ++ 10 ∷ [])

-- a record of a run file: the number of the run, the time, and the bytes of the dump
abbrev pub record_line : List ℕ → Header → List ℕ
record_line word h = word ++ (number_text h.serial_number ++ (number_text h.time_stamp ++ (number_text h.data_size ++ 10 ∷ [])))

-- an event: id, mask, serial number, time, and the bytes of its data
abbrev pub event_line : Event → List ℕ
event_line e = codes "event" ++ (number_text e.id ++ (number_text e.mask ++ (number_text e.serial ++ (number_text e.time ++ (number_text (length e.body) ++ 10 ∷ [])))))

-- all types
abbrev pub all_types : List Tid
all_types =
    UInt8 ∷ Int8 ∷ Char ∷ UInt16 ∷ Int16 ∷ UInt32 ∷ Int32 ∷ bool_type ∷ Float ∷ Double ∷ BitField ∷ Text ∷ Array ∷ Struct ∷ Key ∷ Link ∷ Int64 ∷ UInt64 ∷ []

-- the type of a number
unfoldable pub type_of : ℕ → Option Tid
type_of code = find (λ tid. tid_code tid == code) all_types

abbrev pub name_or : Option Tid → ℕ → List ℕ
name_or None code = decimal code
name_or (Some tid) code = tid_name tid

-- a type's name, and its number where no type has that number
abbrev pub type_text : ℕ → List ℕ
type_text code = name_or (type_of code) code

-- a bank: name, type, and the bytes of its data
abbrev pub bank_line : BankValue → List ℕ
bank_line b = codes "  bank " ++ (map visible b.name ++ (32 ∷ (type_text b.tid ++ (number_text (length b.body) ++ 10 ∷ []))))

-- why data are no bank area
abbrev pub area_fault_text : BankFault → List ℕ
area_fault_text (Short at) = codes "Short" ++ number_text at
area_fault_text (BadFlags found) = codes "BadFlags" ++ number_text found
area_fault_text (BadSize at) = codes "BadSize" ++ number_text at

abbrev pub no_banks_line : BankFault → List ℕ
no_banks_line fault = codes "  no banks " ++ (area_fault_text fault ++ 10 ∷ [])
