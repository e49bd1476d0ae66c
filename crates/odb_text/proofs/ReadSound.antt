-- What is read from a line is sound: the path of a directory is a path, and an item is one of its type.
use Rattle.std.proofs.Common.{◌≡◌, ℕ, zero, suc, ◌+◌, ◌-◌, ◌^◌, ◌<◌, ◌≤◌, ◌==◌, Bool, true, false, not, cond, List, [], ◌∷◌, length, Option, Some, None, Result, Ok, Err, refl, sym, subst, arith}
use Rattle.std.specs.Prelude.{ℤ, pos, negsuc, IsTrue, nat_lt, nat_le, slice_index, ◌||◌}
use lib.Signed.{mag}
use Rattle.std.specs.Option.{option_or}
use Rattle.std.specs.List.{AllByRecursion, position, position_or_len, prefix_len}
use Rattle.std.proofs.lemmas.Bool.Decides.{nat_tests}
use Rattle.std.proofs.lemmas.List.Elements.{All-from_recursion}
use Rattle.daq_types.specs.declared.types.Tid.{Tid}
use Rattle.daq_types.specs.declared.types.Tid.TheVariants as tid
use Rattle.daq_types.specs.Names.{IsName, breaks_name}
use Rattle.daq_text.specs.Numbers.{behind, is_blank, mapped, unsigned_form}
use Rattle.odb_value.specs.declared.path_refusals.PathRefusal.{PathRefusal}
use Rattle.odb_value.specs.declared.path_refusals.PathRefusal.TheVariants.{EmptyName, LongName, TooDeep}
use Rattle.odb_value.specs.Paths.{depth_limit, IsPath}
use Rattle.odb_value.specs.PathText.{names_of, first_break, byte_fault, name_fault, depth_fault, first_fault, names_or, names_start, path_reply}
use Rattle.odb_value.specs.declared.items.Item.{Item}
use Rattle.odb_value.specs.declared.items.Item.TheVariants.{UInt8, Int8, Char, UInt16, Int16, UInt32, Int32, Bool as Truth, Text, Int64, UInt64}
use Rattle.odb_value.specs.declared.refusals.ItemRefusal.{ItemRefusal}
use Rattle.odb_value.specs.declared.refusals.ItemRefusal.TheVariants.{BadText, OutOfRange}
use Rattle.odb_value.specs.ItemBytes.{is_printable, is_char_byte, is_text_byte, IsText}
use Rattle.odb_value.specs.Items.{IsItem}
use Rattle.odb_value.specs.Forms.{signed_form}
use Rattle.odb_value.specs.ItemTexts.{text_limit, number_up_to, unsigned_read, is_within, number_within, signed_read, truth_read, char_read, text_found, text_read, item_read}

-- tests that stand in the way

unless : {X : Type 0} (t : Bool) (x : X) (o : Option X) → cond t (Some x) o ≡ None → (t ≡ false) × (o ≡ None)
unless true x o h = absurd (cc)
unless false x o h = (refl, h)

none_left : {X : Type 0} (o p : Option X) → option_or o p ≡ None → o ≡ None
none_left None p h = refl
none_left (Some x) p h = absurd (cc)

none_right : {X : Type 0} (o p : Option X) → option_or o p ≡ None → p ≡ None
none_right None p h = h
none_right (Some x) p h = absurd (cc)

-- names and paths

no_break : (size place : ℕ) (bs : List ℕ) → first_break size place bs ≡ None → (k at : ℕ) → at ≡ place + k → k < length bs → breaks_name size at (slice_index bs k) ≡ false
no_break size place [] h k at e inside = absurd (omega (arith, inside))
no_break size place (b ∷ bs) h zero at e inside =
    subst (λ (n : ℕ). breaks_name size n b ≡ false) (let same : place ≡ at = omega (arith, e) in same) (unless (breaks_name size place b) place (first_break size (place + 1) bs) h).0
no_break size place (b ∷ bs) h (suc k) at e inside =
    no_break size (place + 1) bs (unless (breaks_name size place b) place (first_break size (place + 1) bs) h).1 k at (omega (arith, e)) (omega (arith, inside))

byte_none : (place : ℕ) (o : Option ℕ) → byte_fault place o ≡ None → o ≡ None
byte_none place None h = refl
byte_none place (Some at) h = absurd (cc)

some_long : (n : ℕ) → (n == 0) ≡ false → 1 ≤ n
some_long n h = grind (arith, nat_tests, h)

not_above : (most n : ℕ) → nat_lt most n ≡ false → n ≤ most
not_above most n h = grind (arith, nat_tests, h)

below : (n most : ℕ) → nat_lt n most ≡ true → n < most
below n most h = grind (arith, nat_tests, h)

name_sound : (place : ℕ) (name : List ℕ) → name_fault place name ≡ None → IsName name
name_sound place name h =
    let bytes : Option PathRefusal = byte_fault place (first_break (length name) 0 name) in
    let some = unless (length name == 0) EmptyName (cond (nat_lt 31 (length name)) (Some LongName) bytes) h in
    let short = unless (nat_lt 31 (length name)) LongName bytes some.1 in
    let free : first_break (length name) 0 name ≡ None = byte_none place (first_break (length name) 0 name) short.1 in
    record {
      some = some_long (length name) some.0;
      short = not_above 31 (length name) short.0;
      bytes = λ (k : ℕ) (inside : k < length name). no_break (length name) 0 name free k k (omega arith) inside;
    }

depth_sound : (depth : ℕ) (t : Bool) → nat_lt depth depth_limit ≡ t → cond t None (Some TooDeep) ≡ None → depth < depth_limit
depth_sound depth true e h = below depth depth_limit e
depth_sound depth false e h = absurd (cc)

record AreNames (depth : ℕ) (names : List (List ℕ)) : Type 0 where
  each : AllByRecursion IsName names
  short : depth + length names ≤ depth_limit

names_sound : (place depth : ℕ) (names : List (List ℕ)) → depth ≤ depth_limit → first_fault place depth names ≡ None → AreNames depth names
names_sound place depth [] deep h = record { each = tt; short = omega (arith, deep) }
names_sound place depth (n ∷ ns) deep h =
    let more : Option PathRefusal = first_fault (place + (length n + 1)) (depth + 1) ns in
    let own : option_or (name_fault place n) (depth_fault depth) ≡ None = none_left (option_or (name_fault place n) (depth_fault depth)) more h in
    let inside : depth < depth_limit = depth_sound depth (nat_lt depth depth_limit) refl (none_right (name_fault place n) (depth_fault depth) own) in
    let rest = names_sound (place + (length n + 1)) (depth + 1) ns (omega (arith, inside)) (none_right (option_or (name_fault place n) (depth_fault depth)) more h) in
    record { each = (name_sound place n (none_left (name_fault place n) (depth_fault depth) own), rest.each); short = omega (arith, rest.short) }

pub path_sound : (text : List ℕ) (p : List (List ℕ)) → path_reply text ≡ Ok p → IsPath p
path_sound text p h = cases (first_fault (names_start text) 0 (names_of text)) refl h
  where
    cases : (o : Option PathRefusal) → first_fault (names_start text) 0 (names_of text) ≡ o → names_or (names_of text) o ≡ Ok p → IsPath p
    cases None e k =
        let same : names_of text ≡ p = cc in
        let good = names_sound (names_start text) 0 (names_of text) (omega arith) e in
        subst IsPath same (record { short = omega (arith, good.short); names = All-from_recursion IsName (names_of text) good.each })
    cases (Some x) e k = absurd (cc)

-- numbers

record Spelled {A : Type 0} (f : A → Item) (r : Result A ItemRefusal) (item : Item) : Type 0 where
  value : A
  read : r ≡ Ok value
  is : item ≡ f value

spelled : {A : Type 0} (f : A → Item) (r : Result A ItemRefusal) (item : Item) → mapped f r ≡ Ok item → Spelled f r item
spelled f (Ok a) item h = record { value = a; read = refl; is = (let e : f a ≡ item = cc in sym e) }
spelled f (Err e) item h = absurd (cc)

up_to_most : (most : ℕ) (text : List ℕ) (r : Result ℕ ℕ) (n : ℕ) → number_up_to most text r ≡ Ok n → n ≤ most
up_to_most most text (Err left) n h = absurd (cc)
up_to_most most text (Ok m) n h = cases (nat_le m most) refl h
  where
    cases : (t : Bool) → nat_le m most ≡ t → cond t (Ok m) (Err OutOfRange) ≡ Ok n → n ≤ most
    cases true e k = let same : m ≡ n = cc in let fits : m ≤ most = grind (arith, nat_tests, e) in omega (arith, same, fits)
    cases false e k = absurd (cc)

within_most : (most : ℕ) (z : ℤ) → is_within most z ≡ true → mag z ≤ most
within_most most (pos n) h = grind (arith, nat_tests, h)
within_most most (negsuc n) h = grind (arith, nat_tests, h)

number_most : (most : ℕ) (text : List ℕ) (r : Result ℤ ℕ) (z : ℤ) → number_within most text r ≡ Ok z → mag z ≤ most
number_most most text (Err left) z h = absurd (cc)
number_most most text (Ok y) z h = cases (is_within most y) refl h
  where
    cases : (t : Bool) → is_within most y ≡ t → cond t (Ok y) (Err OutOfRange) ≡ Ok z → mag z ≤ most
    cases true e k = let same : y ≡ z = cc in subst (λ (x : ℤ). mag x ≤ most) same (within_most most y e)
    cases false e k = absurd (cc)

unsigned_most : (most : ℕ) (text : List ℕ) (n : ℕ) → unsigned_read most text ≡ Ok n → n ≤ most
unsigned_most most text n h = up_to_most most text (unsigned_form (behind is_blank text)) n h

signed_most : (most : ℕ) (text : List ℕ) (z : ℤ) → signed_read most text ≡ Ok z → mag z ≤ most
signed_most most text z h = number_most most text (signed_form (behind is_blank text)) z h

-- bytes

or_second : (a b : Bool) → b ≡ true → (a || b) ≡ true
or_second true b e = refl
or_second false b e = e

char_sound : (text : List ℕ) (b : ℕ) → char_read text ≡ Ok b → is_char_byte b ≡ true
char_sound [] b h = (let same : ◌≡◌ {A = ℕ} 0 b = cc in subst (λ (x : ℕ). is_char_byte x ≡ true) same refl)
char_sound (c ∷ []) b h = cases (is_printable c) refl h
  where
    cases : (t : Bool) → is_printable c ≡ t → cond t (Ok c) (Err (BadText 0)) ≡ Ok b → is_char_byte b ≡ true
    cases true e k = let same : c ≡ b = cc in subst (λ (x : ℕ). is_char_byte x ≡ true) same (or_second (c == 0) (is_printable c) e)
    cases false e k = absurd (cc)
char_sound (c ∷ d ∷ ds) b h = cases (is_printable c) h
  where
    cases : (t : Bool) → ◌≡◌ {A = Result ℕ ItemRefusal} (cond t (Err (BadText 1)) (Err (BadText 0))) (Ok b) → is_char_byte b ≡ true
    cases true k = absurd (cc)
    cases false k = absurd (cc)

twice : (t : Bool) → not (not t) ≡ true → t ≡ true
twice true h = refl
twice false h = absurd (cc)

all_pass : (bs : List ℕ) → length bs ≤ prefix_len (λ b. not (not (is_text_byte b))) bs → AllByRecursion (λ b. IsTrue (is_text_byte b)) bs
all_pass [] h = tt
all_pass (b ∷ bs) h = cases (not (not (is_text_byte b))) refl h (λ (k : length bs ≤ prefix_len (λ x. not (not (is_text_byte x))) bs). all_pass bs k)
  where
    cases : (t : Bool) → not (not (is_text_byte b)) ≡ t → suc (length bs) ≤ cond t (1 + prefix_len (λ x. not (not (is_text_byte x))) bs) 0
        → (length bs ≤ prefix_len (λ x. not (not (is_text_byte x))) bs → AllByRecursion (λ x. IsTrue (is_text_byte x)) bs) → AllByRecursion (λ x. IsTrue (is_text_byte x)) (b ∷ bs)
    cases true e k rest = (twice (is_text_byte b) e, rest (omega (arith, k)))
    cases false e k rest = absurd (omega (arith, k))

none_bad : (bs : List ℕ) → position (λ b. not (is_text_byte b)) bs ≡ None → IsText bs
none_bad bs h = cases (nat_lt (position_or_len (λ b. not (is_text_byte b)) bs) (length bs)) refl h
  where
    cases : (t : Bool) → nat_lt (position_or_len (λ b. not (is_text_byte b)) bs) (length bs) ≡ t → cond t (Some (position_or_len (λ b. not (is_text_byte b)) bs)) None ≡ None → IsText bs
    cases true e k = absurd (cc)
    cases false e k = All-from_recursion (λ b. IsTrue (is_text_byte b)) bs (all_pass bs (not_above (position_or_len (λ b. not (is_text_byte b)) bs) (length bs) e))

text_sound : (text : List ℕ) (o : Option ℕ) (bytes : List ℕ) → position (λ b. not (is_text_byte b)) text ≡ o → text_found text o ≡ Ok bytes → IsText bytes
text_sound text (Some at) bytes e h = absurd (cc)
text_sound text None bytes e h = cases (nat_lt text_limit (length text)) h
  where
    cases : (t : Bool) → cond t (Err OutOfRange) (Ok text) ≡ Ok bytes → IsText bytes
    cases true k = absurd (cc)
    cases false k = let same : text ≡ bytes = cc in subst IsText same (none_bad text e)

-- items

pub item_sound : (type : Tid) (text : List ℕ) (item : Item) → item_read type text ≡ Ok item → IsItem type item
item_sound tid.UInt8 text item h =
    let s = spelled UInt8 (unsigned_read (2 ^ 8 - 1) text) item h in
    let most = unsigned_most (2 ^ 8 - 1) text s.value s.read in
    subst (IsItem tid.UInt8) (sym s.is) (record { tid = refl; sound = omega (arith, most) })
item_sound tid.Int8 text item h =
    let s = spelled Int8 (signed_read (2 ^ 7 - 1) text) item h in
    let most = signed_most (2 ^ 7 - 1) text s.value s.read in
    subst (IsItem tid.Int8) (sym s.is) (record { tid = refl; sound = record { sfits = omega (arith, most) } })
item_sound tid.Char text item h =
    let s = spelled Char (char_read text) item h in subst (IsItem tid.Char) (sym s.is) (record { tid = refl; sound = char_sound text s.value s.read })
item_sound tid.UInt16 text item h =
    let s = spelled UInt16 (unsigned_read (2 ^ 16 - 1) text) item h in
    let most = unsigned_most (2 ^ 16 - 1) text s.value s.read in
    subst (IsItem tid.UInt16) (sym s.is) (record { tid = refl; sound = omega (arith, most) })
item_sound tid.Int16 text item h =
    let s = spelled Int16 (signed_read (2 ^ 15 - 1) text) item h in
    let most = signed_most (2 ^ 15 - 1) text s.value s.read in
    subst (IsItem tid.Int16) (sym s.is) (record { tid = refl; sound = record { sfits = omega (arith, most) } })
item_sound tid.UInt32 text item h =
    let s = spelled UInt32 (unsigned_read (2 ^ 32 - 1) text) item h in
    let most = unsigned_most (2 ^ 32 - 1) text s.value s.read in
    subst (IsItem tid.UInt32) (sym s.is) (record { tid = refl; sound = omega (arith, most) })
item_sound tid.Int32 text item h =
    let s = spelled Int32 (signed_read (2 ^ 31 - 1) text) item h in
    let most = signed_most (2 ^ 31 - 1) text s.value s.read in
    subst (IsItem tid.Int32) (sym s.is) (record { tid = refl; sound = record { sfits = omega (arith, most) } })
item_sound tid.Bool text item h =
    let s = spelled Truth (truth_read text) item h in subst (IsItem tid.Bool) (sym s.is) (record { tid = refl; sound = tt })
item_sound tid.Text text item h =
    let s = spelled Text (text_read text) item h in
    subst (IsItem tid.Text) (sym s.is) (record { tid = refl; sound = text_sound text (position (λ b. not (is_text_byte b)) text) s.value refl s.read })
item_sound tid.Int64 text item h =
    let s = spelled Int64 (signed_read (2 ^ 63 - 1) text) item h in
    let most = signed_most (2 ^ 63 - 1) text s.value s.read in
    subst (IsItem tid.Int64) (sym s.is) (record { tid = refl; sound = record { sfits = omega (arith, most) } })
item_sound tid.UInt64 text item h =
    let s = spelled UInt64 (unsigned_read (2 ^ 64 - 1) text) item h in
    let most = unsigned_most (2 ^ 64 - 1) text s.value s.read in
    subst (IsItem tid.UInt64) (sym s.is) (record { tid = refl; sound = omega (arith, most) })
item_sound tid.Float text item h = absurd (cc)
item_sound tid.Double text item h = absurd (cc)
item_sound tid.BitField text item h = absurd (cc)
item_sound tid.Array text item h = absurd (cc)
item_sound tid.Struct text item h = absurd (cc)
item_sound tid.Key text item h = absurd (cc)
item_sound tid.Link text item h = absurd (cc)
