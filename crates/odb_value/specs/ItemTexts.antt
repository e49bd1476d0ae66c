-- The text of an item, and the item that a text spells.
use Rattle.std.specs.Prelude.{ℕ, ◌-◌, ◌^◌, ◌==◌, nat_lt, nat_le, not, Bool, true, false, if◌then◌else◌, List, [], ◌∷◌, length, Option, Some, None, position, Result, Ok, Err, codes, ℤ, pos, negsuc}
use Rattle.std.specs.Fmt.{decimal, signed_decimal}
use Rattle.daq_types.specs.declared.types.Tid.{Tid}
use Rattle.daq_types.specs.declared.types.Tid.TheVariants as tid
use Rattle.odb_value.specs.declared.items.Item.{Item}
use Rattle.odb_value.specs.declared.items.Item.TheVariants.{UInt8, Int8, Char, UInt16, Int16, UInt32, Int32, Bool as Truth, Text, Int64, UInt64}
use Rattle.odb_value.specs.declared.refusals.ItemRefusal.{ItemRefusal}
use Rattle.odb_value.specs.declared.refusals.ItemRefusal.TheVariants.{BadText, OutOfRange, NotKept}
use Rattle.odb_value.specs.ItemBytes.{is_printable, is_text_byte}
use Rattle.daq_text.specs.Numbers.{behind, is_blank, mapped, unsigned_form}
use Rattle.odb_value.specs.Forms.{signed_form, truth_form}

-- Printing.

abbrev pub truth_text : Bool → List ℕ
truth_text true = codes "y"
truth_text false = codes "n"

-- a CHAR prints its byte, and nothing for 0
abbrev pub char_text : ℕ → List ℕ
char_text b = if b == 0 then [] else b ∷ []

abbrev pub item_text : Item → List ℕ
item_text (UInt8 n) = decimal n
item_text (Int8 z) = signed_decimal z
item_text (Char b) = char_text b
item_text (UInt16 n) = decimal n
item_text (Int16 z) = signed_decimal z
item_text (UInt32 n) = decimal n
item_text (Int32 z) = signed_decimal z
item_text (Truth t) = truth_text t
item_text (Text bytes) = bytes
item_text (Int64 z) = signed_decimal z
item_text (UInt64 n) = decimal n

-- Reading. Blanks in front of a number or a truth value are passed over.

-- The form cannot go on with the byte before which so many bytes of the text are left, or at the text's end.
abbrev pub stopped : List ℕ → ℕ → ItemRefusal
stopped text left = BadText (length text - left)

-- a number up to the greatest of its type
abbrev pub number_up_to : (most : ℕ) → List ℕ → Result ℕ ℕ → Result ℕ ItemRefusal
number_up_to most text (Ok n) = if nat_le n most then Ok n else Err OutOfRange
number_up_to most text (Err left) = Err (stopped text left)

abbrev pub unsigned_read : (most : ℕ) → List ℕ → Result ℕ ItemRefusal
unsigned_read most text = number_up_to most text (unsigned_form (behind is_blank text))

-- whether a number is at most this, and at least one below its negative
abbrev pub is_within : ℕ → ℤ → Bool
is_within most (pos n) = nat_le n most
is_within most (negsuc n) = nat_le n most

abbrev pub number_within : (most : ℕ) → List ℕ → Result ℤ ℕ → Result ℤ ItemRefusal
number_within most text (Ok z) = if is_within most z then Ok z else Err OutOfRange
number_within most text (Err left) = Err (stopped text left)

abbrev pub signed_read : (most : ℕ) → List ℕ → Result ℤ ItemRefusal
signed_read most text = number_within most text (signed_form (behind is_blank text))

abbrev pub truth_found : List ℕ → Result Bool ℕ → Result Bool ItemRefusal
truth_found text (Ok t) = Ok t
truth_found text (Err left) = Err (stopped text left)

abbrev pub truth_read : List ℕ → Result Bool ItemRefusal
truth_read text = truth_found text (truth_form (behind is_blank text))

-- one printable byte, or nothing for 0
abbrev pub char_read : List ℕ → Result ℕ ItemRefusal
char_read [] = Ok 0
char_read (b ∷ []) = if is_printable b then Ok b else Err (BadText 0)
char_read (b ∷ c ∷ bs) = if is_printable b then Err (BadText 1) else Err (BadText 0)

-- the longest text of a STRING
abbrev pub text_limit : ℕ
text_limit = 1023

-- the first byte that no text has decides, and then the length
abbrev pub text_found : List ℕ → Option ℕ → Result (List ℕ) ItemRefusal
text_found text (Some at) = Err (BadText at)
text_found text None = if nat_lt text_limit (length text) then Err OutOfRange else Ok text

abbrev pub text_read : List ℕ → Result (List ℕ) ItemRefusal
text_read text = text_found text (position (λ b. not (is_text_byte b)) text)

-- The item of this type that the text spells, or why it spells none.
abbrev pub item_read : Tid → List ℕ → Result Item ItemRefusal
item_read tid.UInt8 text = mapped UInt8 (unsigned_read (2 ^ 8 - 1) text)
item_read tid.Int8 text = mapped Int8 (signed_read (2 ^ 7 - 1) text)
item_read tid.Char text = mapped Char (char_read text)
item_read tid.UInt16 text = mapped UInt16 (unsigned_read (2 ^ 16 - 1) text)
item_read tid.Int16 text = mapped Int16 (signed_read (2 ^ 15 - 1) text)
item_read tid.UInt32 text = mapped UInt32 (unsigned_read (2 ^ 32 - 1) text)
item_read tid.Int32 text = mapped Int32 (signed_read (2 ^ 31 - 1) text)
item_read tid.Bool text = mapped Truth (truth_read text)
item_read tid.Text text = mapped Text (text_read text)
item_read tid.Int64 text = mapped Int64 (signed_read (2 ^ 63 - 1) text)
item_read tid.UInt64 text = mapped UInt64 (unsigned_read (2 ^ 64 - 1) text)
item_read other text = Err (NotKept other)
