-- The lines of a dump have no end in them and no carriage return.
use Rattle.std.proofs.Common.{◌≡◌, ◌^◌, ℕ, suc, ◌+◌, ◌-◌, ◌<◌, ◌≤◌, ◌==◌, Bool, true, false, cond, List, [], ◌∷◌, ◌++◌, length, inl, inr, refl, sym, ap, ◌∙◌, subst, arith, ne_eqb}
use Rattle.std.specs.Prelude.{IsTrue, ℤ, pos, negsuc, codes, ◌||◌}
use lib.Signed.{mag}
use Rattle.std.specs.Fmt.{decimal, signed_decimal}
use Rattle.std.specs.List.{AllByRecursion}
use Rattle.std.specs.Str.Parse.{AllDigits}
use Rattle.std.proofs.lemmas.Str.Parse.{digit_from_value}
use Rattle.std.proofs.lemmas.Fmt.{decimal_is_IsNumeral}
use Rattle.std.proofs.lemmas.List.Elements.{recursion_from_All}
use Rattle.daq_types.specs.declared.types.Tid.{Tid}
use Rattle.daq_types.specs.declared.types.Tid.TheVariants as tid
use Rattle.daq_types.specs.Names.{IsName}
use Rattle.daq_types.specs.Tids.{tid_name}
use Rattle.odb_value.specs.declared.items.Item.{Item}
use Rattle.odb_value.specs.declared.items.Item.TheVariants.{UInt8, Int8, Char, UInt16, Int16, UInt32, Int32, Bool as Truth, Text, Int64, UInt64}
use Rattle.odb_value.specs.ItemBytes.{is_printable, is_char_byte, is_text_byte, IsText}
use Rattle.odb_value.specs.Items.{IsItem, IsSound}
use Rattle.odb_value.specs.ItemTexts.{char_text, truth_text, item_text}
use Rattle.odb_value.specs.KeyTexts.{bracketed, item_alone, front_number}
use Rattle.odb_value.specs.Values.{HeldValue, IsValue}
use Rattle.odb_text.specs.LineForms.{HasNo}
use Rattle.odb_text.proofs.DumpLines.{IsPlainLine, array_lines, array_head, key_line, lines_with, key_lines}
use Rattle.odb_text.proofs.DumpPaths.{has_no_append, name_plain}
use Rattle.odb_value.specs.LinkValues.{IsLink}
use Rattle.odb_tree.specs.Databases.{IsHeld}
use Rattle.odb_text.proofs.LinkKeys.{link_sized, path_is_text}
use Rattle.odb_text.proofs.DumpKeys.{front_small, own_size_small, link_held}

plain_append : (xs ys : List ℕ) → IsPlainLine xs → IsPlainLine ys → IsPlainLine (xs ++ ys)
plain_append xs ys h k = (has_no_append 10 xs ys h.0 k.0, has_no_append 13 xs ys h.1 k.1)

digits_have_no : (c : ℕ) (ds : List ℕ) → c < 48 → AllDigits 10 ds → HasNo c ds
digits_have_no c [] low h = tt
digits_have_no c (d ∷ ds) low h = (ne_eqb d c (omega (arith, low, digit_from_value d h.0)), digits_have_no c ds low h.1)

decimal_plain : (n : ℕ) → n < 2 ^ 64 → IsPlainLine (decimal n)
decimal_plain n h =
    let digits = (decimal_is_IsNumeral n h).0.1 in (digits_have_no 10 (decimal n) (omega arith) digits, digits_have_no 13 (decimal n) (omega arith) digits)

signed_plain : (most : ℕ) (z : ℤ) → mag z ≤ most → most < 2 ^ 63 → IsPlainLine (signed_decimal z)
signed_plain most (pos n) within small = decimal_plain n (omega (arith, within, small))
signed_plain most (negsuc n) within small = let h = decimal_plain (suc n) (omega (arith, within, small)) in ((refl, h.0), (refl, h.1))

-- a byte that passes a test is none that does not
passes_not : (test : ℕ → Bool) (c b : ℕ) → test c ≡ false → test b ≡ true → (b == c) ≡ false
passes_not test c b f h = ne_eqb b c (λ (e : b ≡ c). (let k : false ≡ true = sym f ∙ ap test (sym e) ∙ h in absurd (cc)))

text_has_no : (c : ℕ) (bytes : List ℕ) → is_text_byte c ≡ false → AllByRecursion (λ b. IsTrue (is_text_byte b)) bytes → HasNo c bytes
text_has_no c [] f h = tt
text_has_no c (b ∷ bs) f h = (passes_not is_text_byte c b f h.0, text_has_no c bs f h.1)

text_plain : (bytes : List ℕ) → IsText bytes → IsPlainLine bytes
text_plain bytes h =
    let each = recursion_from_All (λ b. IsTrue (is_text_byte b)) bytes h in (text_has_no 10 bytes refl each, text_has_no 13 bytes refl each)

char_plain : (b : ℕ) → IsTrue (is_char_byte b) → IsPlainLine (char_text b)
char_plain b h = cases (b == 0) refl
  where
    printable : (b == 0) ≡ false → is_printable b ≡ true
    printable e = ap (λ (t : Bool). t || is_printable b) (sym e) ∙ h

    cases : (t : Bool) → (b == 0) ≡ t → IsPlainLine (cond t [] (b ∷ []))
    cases true e = (tt, tt)
    cases false e = ((passes_not is_printable 10 b refl (printable e), tt), (passes_not is_printable 13 b refl (printable e), tt))

truth_plain : (t : Bool) → IsPlainLine (truth_text t)
truth_plain true = ((refl, tt), (refl, tt))
truth_plain false = ((refl, tt), (refl, tt))

item_plain : (item : Item) → IsSound item → IsPlainLine (item_text item)
item_plain (UInt8 n) h = decimal_plain n (omega (arith, h))
item_plain (Int8 z) h = signed_plain (2 ^ 7 - 1) z (omega (arith, h.sfits)) (omega arith)
item_plain (Char b) h = char_plain b h
item_plain (UInt16 n) h = decimal_plain n (omega (arith, h))
item_plain (Int16 z) h = signed_plain (2 ^ 15 - 1) z (omega (arith, h.sfits)) (omega arith)
item_plain (UInt32 n) h = decimal_plain n (omega (arith, h))
item_plain (Int32 z) h = signed_plain (2 ^ 31 - 1) z (omega (arith, h.sfits)) (omega arith)
item_plain (Truth t) h = truth_plain t
item_plain (Text bytes) h = text_plain bytes h
item_plain (Int64 z) h = signed_plain (2 ^ 63 - 1) z (omega (arith, h.sfits)) (omega arith)
item_plain (UInt64 n) h = decimal_plain n h

type_plain : (type : Tid) → IsPlainLine (tid_name type)
type_plain tid.UInt8 = ((refl, (refl, (refl, (refl, (refl, tt))))), (refl, (refl, (refl, (refl, (refl, tt))))))
type_plain tid.Int8 = ((refl, (refl, (refl, (refl, tt)))), (refl, (refl, (refl, (refl, tt)))))
type_plain tid.Char = ((refl, (refl, (refl, (refl, tt)))), (refl, (refl, (refl, (refl, tt)))))
type_plain tid.UInt16 = ((refl, (refl, (refl, (refl, (refl, (refl, tt)))))), (refl, (refl, (refl, (refl, (refl, (refl, tt)))))))
type_plain tid.Int16 = ((refl, (refl, (refl, (refl, (refl, tt))))), (refl, (refl, (refl, (refl, (refl, tt))))))
type_plain tid.UInt32 = ((refl, (refl, (refl, (refl, (refl, (refl, tt)))))), (refl, (refl, (refl, (refl, (refl, (refl, tt)))))))
type_plain tid.Int32 = ((refl, (refl, (refl, (refl, (refl, tt))))), (refl, (refl, (refl, (refl, (refl, tt))))))
type_plain tid.Bool = ((refl, (refl, (refl, (refl, tt)))), (refl, (refl, (refl, (refl, tt)))))
type_plain tid.Float = ((refl, (refl, (refl, (refl, (refl, tt))))), (refl, (refl, (refl, (refl, (refl, tt))))))
type_plain tid.Double = ((refl, (refl, (refl, (refl, (refl, (refl, tt)))))), (refl, (refl, (refl, (refl, (refl, (refl, tt)))))))
type_plain tid.BitField = ((refl, (refl, (refl, (refl, (refl, (refl, (refl, (refl, tt)))))))), (refl, (refl, (refl, (refl, (refl, (refl, (refl, (refl, tt)))))))))
type_plain tid.Text = ((refl, (refl, (refl, (refl, (refl, (refl, tt)))))), (refl, (refl, (refl, (refl, (refl, (refl, tt)))))))
type_plain tid.Array = ((refl, (refl, (refl, (refl, (refl, tt))))), (refl, (refl, (refl, (refl, (refl, tt))))))
type_plain tid.Struct = ((refl, (refl, (refl, (refl, (refl, (refl, tt)))))), (refl, (refl, (refl, (refl, (refl, (refl, tt)))))))
type_plain tid.Key = ((refl, (refl, (refl, tt))), (refl, (refl, (refl, tt))))
type_plain tid.Link = ((refl, (refl, (refl, (refl, tt)))), (refl, (refl, (refl, (refl, tt)))))
type_plain tid.Int64 = ((refl, (refl, (refl, (refl, (refl, tt))))), (refl, (refl, (refl, (refl, (refl, tt))))))
type_plain tid.UInt64 = ((refl, (refl, (refl, (refl, (refl, (refl, tt)))))), (refl, (refl, (refl, (refl, (refl, (refl, tt)))))))

bracketed_plain : (n : ℕ) (text : List ℕ) → n < 2 ^ 64 → IsPlainLine text → IsPlainLine (bracketed n text)
bracketed_plain n text small h =
    let d = decimal_plain n small in (
      (refl, has_no_append 10 (decimal n) (93 ∷ 32 ∷ text) d.0 (refl, (refl, h.0))),
      (refl, has_no_append 13 (decimal n) (93 ∷ 32 ∷ text) d.1 (refl, (refl, h.1))),
    )

alone_plain : (size : ℕ) (item : Item) → size < 2 ^ 64 → IsSound item → IsPlainLine (item_alone size item)
alone_plain size (UInt8 n) small h = item_plain (UInt8 n) h
alone_plain size (Int8 z) small h = item_plain (Int8 z) h
alone_plain size (Char b) small h = item_plain (Char b) h
alone_plain size (UInt16 n) small h = item_plain (UInt16 n) h
alone_plain size (Int16 z) small h = item_plain (Int16 z) h
alone_plain size (UInt32 n) small h = item_plain (UInt32 n) h
alone_plain size (Int32 z) small h = item_plain (Int32 z) h
alone_plain size (Truth t) small h = item_plain (Truth t) h
alone_plain size (Text bytes) small h = bracketed_plain size bytes small (text_plain bytes h)
alone_plain size (Int64 z) small h = item_plain (Int64 z) h
alone_plain size (UInt64 n) small h = item_plain (UInt64 n) h

key_line_plain : (name : List ℕ) (type : Tid) (more : List ℕ) → IsName name → IsPlainLine more → IsPlainLine (key_line name type more)
key_line_plain name type more n h =
    let behind_type : IsPlainLine (tid_name type ++ more) = plain_append (tid_name type) more (type_plain type) h in
    plain_append name (codes " = " ++ (tid_name type ++ more)) (name_plain name n) ((refl, (refl, (refl, behind_type.0))), (refl, (refl, (refl, behind_type.1))))

head_plain : (n : ℕ) → n < 2 ^ 64 → IsPlainLine (array_head n)
head_plain n small =
    let d = decimal_plain n small in (
      (refl, has_no_append 10 (decimal n) (codes "] :") d.0 (refl, (refl, (refl, tt)))),
      (refl, has_no_append 13 (decimal n) (codes "] :") d.1 (refl, (refl, (refl, tt)))),
    )

array_plain : (type : Tid) (size index : ℕ) (items : List Item) → size < 2 ^ 64 → index + length items < 2 ^ 64 → AllByRecursion (IsItem type) items → AllByRecursion IsPlainLine (array_lines size index items)
array_plain type size index [] small fits h = tt
array_plain type size index (x ∷ xs) small fits h = (
  bracketed_plain (front_number size index x) (item_text x) (front_small size index x small (omega (arith, fits))) (item_plain x h.0.sound),
  array_plain type size (index + 1) xs small (omega (arith, fits)) h.1,
)

lines_plain : (name : List ℕ) (type : Tid) (size : ℕ) (items : List Item) → IsName name → size < 2 ^ 64 → length items < 2 ^ 64 → AllByRecursion (IsItem type) items
    → AllByRecursion IsPlainLine (lines_with name type size items)
lines_plain name type size [] n small fits h = (key_line_plain name type (array_head 0) n (head_plain 0 (omega arith)), tt)
lines_plain name type size (x ∷ []) n small fits h =
    let alone = alone_plain size x small h.0.sound in
    (key_line_plain name type (codes " : " ++ item_alone size x) n ((refl, (refl, (refl, alone.0))), (refl, (refl, (refl, alone.1)))), tt)
lines_plain name type size (x ∷ y ∷ zs) n small fits h = (
  key_line_plain name type (array_head (length (x ∷ y ∷ zs))) n (head_plain (length (x ∷ y ∷ zs)) fits),
  array_plain type size 0 (x ∷ y ∷ zs) small (omega (arith, fits)) h,
)

value_plain : (name : List ℕ) (v : HeldValue) → IsName name → IsValue v → AllByRecursion IsPlainLine (key_lines name v)
value_plain name v n h =
    lines_plain name v.tid v.size v.items n (omega (arith, own_size_small v.tid v.size h.size)) (omega (arith, h.many)) (recursion_from_All (IsItem v.tid) v.items h.of_type)

link_plain : (name : List ℕ) (v : HeldValue) → IsName name → IsLink v → AllByRecursion IsPlainLine (key_lines name v)
link_plain name v n l =
    let small : length l.text + 1 < 2 ^ 64 = omega (arith, l.short) in
    let alone = bracketed_plain (length l.text + 1) l.text small (text_plain l.text (path_is_text l.text l.target l.reads)) in
    subst (λ (w : HeldValue). AllByRecursion IsPlainLine (key_lines name w)) (sym (link_held v l))
    (subst (λ (k : ℕ). AllByRecursion IsPlainLine (key_line name tid.Link (codes " : " ++ item_alone k (Text l.text)) ∷ [])) (sym (link_sized (length l.text + 1) l.text (omega (arith, l.short))))
    (key_line_plain name tid.Link (codes " : " ++ item_alone (length l.text + 1) (Text l.text)) n ((refl, (refl, (refl, alone.0))), (refl, (refl, (refl, alone.1)))), tt))

pub key_plain : (links : Bool) (name : List ℕ) (v : HeldValue) → IsName name → IsHeld links v → AllByRecursion IsPlainLine (key_lines name v)
key_plain false name v n h = value_plain name v n h
key_plain true name v n (inl h) = value_plain name v n h
key_plain true name v n (inr l) = link_plain name v n l
