-- The lines of links: their values, and what is wrong with them.
use Rattle.std.proofs.Common.{◌≡◌, ℕ, ◌+◌, ◌<◌, ◌≤◌, Bool, true, false, cond, ◌&&◌, List, [], ◌∷◌, ◌++◌, length, Option, Some, None, Result, Ok, Err, refl, sym, ap, ◌∙◌, subst, arith, inl, inr, le-ltb, lt-ltb}
use Rattle.std.specs.Prelude.{nat_lt, ◌==◌, ◌||◌, ◌↔◌, not, position, All, IsTrue, IfNone}
use Rattle.std.specs.List.{AllByRecursion, slice_split, onto_first}
use Rattle.std.proofs.lemmas.List.Elements.{All-from_recursion, recursion_from_All}
use Rattle.daq_types.specs.Names.{IsName, is_outside}
use Rattle.odb_value.specs.ItemBytes.{is_text_byte, IsText}
use Rattle.odb_value.specs.declared.path_refusals.PathRefusal.{PathRefusal}
use Rattle.odb_value.specs.PathText.{names_behind, names_of, first_fault, names_or, names_start, path_reply}
use Rattle.odb_value.proofs.PathAgain.{or_false, above_blank, NoneOutside, name_none_outside}
use Rattle.std.specs.Option.{option_or}
use Rattle.std.proofs.lemmas.Bool.Decides.{nat_tests}
use Rattle.daq_types.specs.declared.types.Tid.{Tid}
use Rattle.daq_types.specs.declared.types.Tid.TheVariants as tid
use Rattle.daq_text.specs.Numbers.{up_to, mapped}
use Rattle.odb_value.specs.Paths.{depth_limit}
use Rattle.odb_value.specs.declared.items.Item.{Item}
use Rattle.odb_value.specs.declared.items.Item.TheVariants.{Text}
use Rattle.odb_value.specs.Items.{is_kept}
use Rattle.odb_value.specs.Values.{size_limit}
use Rattle.odb_value.specs.LinkValues.{IsLink, is_link_type}
use Rattle.odb_tree.specs.declared.refusals.OdbRefusal.{OdbRefusal}
use Rattle.odb_tree.specs.declared.refusals.OdbRefusal.TheVariants.{Limit}
use Rattle.odb_tree.specs.declared.refusals.What.TheVariants.{Size}
use Rattle.odb_tree.specs.Rows.{Rows}
use Rattle.odb_text.specs.LineForms.{IsPassed, IsDirLine, IsSingle, IsBracketed, behind_blank}
use Rattle.odb_text.specs.ItemLines.{IsItemLine, IsItemAlone, IsPathText, IsLinkAlone}
use Rattle.odb_text.specs.declared.acts.Act.TheVariants.{Write}
use Rattle.odb_text.specs.declared.links.ReadLink.{ReadLink}
use Rattle.odb_text.specs.TextSteps.{wide_fault, rows_fault}
use Rattle.odb_text.specs.Grammar.{SizedItem, IsKeyIn, link_size, held_link, is_skipped}
use Rattle.odb_text.specs.Blocks.{ReadsLink, IsBlock, IsBadAt, IsRefusedAlways, IsBegunAt, IsSomeAlone}
use Rattle.odb_value.specs.ItemTexts.{item_read, text_found, text_limit}
use Rattle.odb_value.specs.declared.refusals.ItemRefusal.TheVariants.{OutOfRange}
use Rattle.odb_text.proofs.Splitting.{digits_no, bracketed_once}
use Rattle.odb_text.proofs.KeyLines.{single_once}
use Rattle.odb_text.proofs.ReadSound.{path_sound}
use Rattle.odb_text.proofs.Beginnings.{GoesOnNowhere, begins_nothing}
use Rattle.odb_text.proofs.Written.{alone_short, wide, no_wide, count_some, count_none, bad_line}
use Rattle.odb_text.proofs.OneReading.{alone_once}

-- the item size

pub link_sized : (size : ℕ) (link : List ℕ) → size ≤ size_limit → link_size size link ≡ length link + 1
link_sized size link h = ap (λ (t : Bool). cond t size (length link + 1)) (le-ltb size_limit size h)

size_stays : (size : ℕ) (link : List ℕ) → size_limit < size → link_size size link ≡ size
size_stays size link h = ap (λ (t : Bool). cond t size (length link + 1)) (lt-ltb size_limit size h)

none_wide : (n : ℕ) → wide_fault n ≡ None → n ≤ size_limit
none_wide n h = cases (nat_lt size_limit n) refl h
  where
    cases : (t : Bool) → nat_lt size_limit n ≡ t → cond t (Some (Limit Size)) None ≡ None → n ≤ size_limit
    cases true e k = absurd (cc)
    cases false e k = grind (arith, nat_tests, e)

-- a link whose size is not refused has the length of its text plus 1
pub size_fits : (size : ℕ) (link : List ℕ) → wide_fault (link_size size link) ≡ None → link_size size link ≡ length link + 1
size_fits size link h = cases (nat_lt size_limit size) refl (none_wide (link_size size link) h)
  where
    cases : (t : Bool) → nat_lt size_limit size ≡ t → cond t size (length link + 1) ≤ size_limit → cond t size (length link + 1) ≡ length link + 1
    cases true e k = absurd (grind (arith, nat_tests, e, k))
    cases false e k = refl

-- the bytes of a path's text

inside_text : (b : ℕ) → is_outside b ≡ false → IsTrue (is_text_byte b)
inside_text b h =
    let low : 32 ≤ b = above_blank b h in
    let high : nat_lt 126 b ≡ false = (or_false (nat_lt 126 b) (b == 47 || (b == 91 || (b == 93 || (b == 34 || b == 61)))) (or_false (nat_lt b 32) (nat_lt 126 b || (b == 47 || (b == 91 || (b == 93 || (b == 34 || b == 61))))) h).1).0 in
    grind (arith, nat_tests, low, high)

AreTextBytes : List ℕ → Type 0
AreTextBytes bs = AllByRecursion (λ b. IsTrue (is_text_byte b)) bs

name_is_text : (name : List ℕ) → IsName name → AreTextBytes name
unfolding AreTextBytes
name_is_text name n = each name (name_none_outside name n)
  where
    each : (bs : List ℕ) → NoneOutside bs → AllByRecursion (λ b. IsTrue (is_text_byte b)) bs
    each [] h = tt
    each (b ∷ bs) h = (inside_text b h.0, each bs h.1)

names_are_texts : (names : List (List ℕ)) → AllByRecursion IsName names → AllByRecursion AreTextBytes names
names_are_texts [] h = tt
names_are_texts (n ∷ ns) h = (name_is_text n h.0, names_are_texts ns h.1)

-- a text is one where what stands between its slashes is
joined : (text : List ℕ) → AllByRecursion AreTextBytes (slice_split (λ b. b == 47) text) → AreTextBytes text
unfolding AreTextBytes
joined [] h = tt
joined (x ∷ xs) h = cases (x == 47) refl h (joined xs)
  where
    onto : (parts : List (List ℕ)) → AllByRecursion AreTextBytes (onto_first x parts) → IsTrue (is_text_byte x) × AllByRecursion AreTextBytes parts
    onto [] k = (k.0.0, tt)
    onto (p ∷ ps) k = (k.0.0, (k.0.1, k.1))

    cases : (t : Bool) → (x == 47) ≡ t → AllByRecursion AreTextBytes (cond t ([] ∷ slice_split (λ b. b == 47) xs) (onto_first x (slice_split (λ b. b == 47) xs)))
        → (AllByRecursion AreTextBytes (slice_split (λ b. b == 47) xs) → AllByRecursion (λ b. IsTrue (is_text_byte b)) xs) → AllByRecursion (λ b. IsTrue (is_text_byte b)) (x ∷ xs)
    cases true e k rest = (let same : x ≡ 47 = grind (arith, nat_tests, e) in subst (λ (b : ℕ). IsTrue (is_text_byte b)) (sym same) refl, rest k.1)
    cases false e k rest = let o = onto (slice_split (λ b. b == 47) xs) k in (o.0, rest o.1)

behind_is_text : (text : List ℕ) → AllByRecursion AreTextBytes (names_of text) → AreTextBytes text
unfolding AreTextBytes
behind_is_text [] h = tt
behind_is_text (b ∷ bs) h = cases (b == 47) refl h
  where
    body : (xs : List ℕ) → AllByRecursion AreTextBytes (names_behind xs) → AllByRecursion (λ b. IsTrue (is_text_byte b)) xs
    body [] k = tt
    body (x ∷ xs) k = joined (x ∷ xs) k

    cases : (t : Bool) → (b == 47) ≡ t → AllByRecursion AreTextBytes (names_behind (cond t bs (b ∷ bs))) → AllByRecursion (λ b. IsTrue (is_text_byte b)) (b ∷ bs)
    cases true e k = (let same : b ≡ 47 = grind (arith, nat_tests, e) in subst (λ (x : ℕ). IsTrue (is_text_byte x)) (sym same) refl, body bs k)
    cases false e k = joined (b ∷ bs) k

names_read : (names target : List (List ℕ)) (o : Option PathRefusal) → names_or names o ≡ Ok target → names ≡ target
names_read names target None h = cc
names_read names target (Some why) h = absurd (cc)

pub path_is_text : (text : List ℕ) (target : List (List ℕ)) → path_reply text ≡ Ok target → IsText text
unfolding AreTextBytes
path_is_text text target h =
    let same : names_of text ≡ target = names_read (names_of text) target (first_fault (names_start text) 0 (names_of text)) h in
    let names : AllByRecursion IsName (names_of text) = recursion_from_All IsName (names_of text) (subst (λ (p : List (List ℕ)). All IsName p) (sym same) (path_sound text target h).names) in
    All-from_recursion (λ b. IsTrue (is_text_byte b)) text (behind_is_text text (names_are_texts (names_of text) names))

-- the value

link_long : (text : List ℕ) (size : ℕ) (link : List ℕ) → IsLinkAlone text size link → length link < size_limit
link_long text size link h = alone_short tid.Text text size (Text link) h.item

pub link_is : (text : List ℕ) (given size : ℕ) (link : List ℕ) → IsLinkAlone text given link → wide_fault (link_size size link) ≡ None → IsLink (held_link size link)
link_is text given size link h fits = record {
  of_type = refl;
  text = link;
  one = refl;
  target = h.path.0;
  path = path_sound link h.path.0 h.path.1;
  reads = h.path.1;
  short = omega (arith, link_long text given link h);
  size = size_fits size link fits;
}

-- the one item is told by what stands behind the colon
pub link_once : (text : List ℕ) (size given : ℕ) (item : Item) (link : List ℕ) → IsItemAlone tid.Text text size item → IsLinkAlone text given link → item ≡ Text link
link_once text size given item link h k =
    ap (λ (x : SizedItem). x.item) (alone_once true tid.Text (behind_blank text) (record { size = size; item = item }) (record { size = given; item = Text link }) h k.item)

-- so where no link is read of the item, none stands there
pub none_read : (found : Option ReadLink) (text : List ℕ) (size : ℕ) (item : Item) → IsItemAlone tid.Text text size item → IfNone found ((t : List ℕ) → item ≡ Text t → IsPathText t → ⊥)
    → IfNone found ((given : ℕ) (link : List ℕ) → IsLinkAlone text given link → ⊥)
none_read None text size item i h = λ (given : ℕ) (link : List ℕ) (a : IsLinkAlone text given link). h link (link_once text size given item link i a) a.path
none_read (Some read) text size item i h = tt

-- The text of an item that is a text is what stands behind its size.

text_spelled : (read : List ℕ) (item : Item) → item_read tid.Text read ≡ Ok item → item ≡ Text read
text_spelled read item e = found (position (λ b. not (is_text_byte b)) read) e
  where
    short : (b : Bool) → mapped Text (cond b (Err OutOfRange) (Ok read)) ≡ Ok item → item ≡ Text read
    short true k = absurd (cc)
    short false k = cc

    found : (o : Option ℕ) → mapped Text (text_found read o) ≡ Ok item → item ≡ Text read
    found (Some at) k = absurd (cc)
    found None k = short (nat_lt text_limit (length read)) k

pub path_behind : (text digits rest : List ℕ) (size : ℕ) (link : List ℕ) → IsBracketed (behind_blank text) digits rest → IsItemAlone tid.Text text size (Text link) → behind_blank rest ≡ link
path_behind text digits rest size link b h =
    let same = bracketed_once (behind_blank text) digits rest h.digits h.rest b.spelled (digits_no digits b.numeral.1) h.bracketed in
    let is : Text link ≡ Text (behind_blank h.rest) = text_spelled (behind_blank h.rest) (Text link) h.spells in
    let link_is : link ≡ behind_blank h.rest = cc in
    ap behind_blank same.1 ∙ sym link_is

-- where the item is there and its text is that of a path, there is a link
pub link_there : (has : Bool) (text : List ℕ) → ((size : ℕ) (link : List ℕ) → IsItemAlone tid.Text text size (Text link) → IsTrue has ↔ IsPathText link) → has ≡ true → IsSomeAlone tid.Text text
    → (size : ℕ) × (link : List ℕ) × IsLinkAlone text size link
link_there has text tells right h =
    let line : IsItemLine tid.Text 0 (behind_blank text) h.0 h.1 = h.2 in
    let is : h.1 ≡ Text (behind_blank line.rest) = text_spelled (behind_blank line.rest) h.1 line.spells in
    let item : IsItemAlone tid.Text text h.0 (Text (behind_blank line.rest)) = subst (λ (x : Item). IsItemLine tid.Text 0 (behind_blank text) h.0 x) is line in
    (h.0, behind_blank line.rest, record { item = item; path = (tells h.0 (behind_blank line.rest) item).0 right })

-- the line of a link that was read

given_size : (dir : List (List ℕ)) (line name : List ℕ) (read : ReadLink) → (h : ReadsLink dir line name read) → (n : ℕ) → read.size ≡ Some n → h.size ≤ size_limit
given_size dir line name read h n e = (count_some size_limit h.size n (sym e ∙ h.given)).1

-- the same value whatever size is given, up to the limit
pub read_held : (dir : List (List ℕ)) (line name : List ℕ) (read : ReadLink) → (h : ReadsLink dir line name read) → (n : ℕ) → read.size ≡ Some n → held_link h.size read.text ≡ held_link 0 read.text
read_held dir line name read h n e =
    ap (λ (k : ℕ). record { tid = tid.Link; size = k; items = Text read.text ∷ [] }) (link_sized h.size read.text (given_size dir line name read h n e))

pub read_is : (dir : List (List ℕ)) (line name : List ℕ) (read : ReadLink) → ReadsLink dir line name read → IsLink (held_link 0 read.text)
read_is dir line name read h = link_is h.key.text h.size 0 read.text h.key.alone (no_wide (length read.text + 1) (omega (arith, link_long h.key.text h.size read.text h.key.alone)))

pub link_block : (links : Bool) (dir : List (List ℕ)) (line name : List ℕ) (read : ReadLink) (behind : List (List ℕ)) (n : ℕ) → links ≡ true → ReadsLink dir line name read → read.size ≡ Some n
    → IsBlock links dir (line ∷ behind) (Write (dir ++ name ∷ []) (held_link 0 read.text)) behind 1
link_block links dir line name read behind n kept h e = record {
  own = line ∷ [];
  whole = refl;
  counted = refl;
  spells = (name, inr (line, h.size, read.text, kept, refl, h.key, sym (read_held dir line name read h n e)), refl);
  within = no_wide (length read.text + 1) (omega (arith, link_long h.key.text h.size read.text h.key.alone));
}

pub link_wide : (links : Bool) (dir : List (List ℕ)) (line name : List ℕ) (read : ReadLink) (behind : List (List ℕ)) → links ≡ true → ReadsLink dir line name read → read.size ≡ None
    → IsRefusedAlways links dir (line ∷ behind) (Limit Size)
link_wide links dir line name read behind kept h e =
    let great : size_limit < h.size = count_none size_limit h.size (sym e ∙ h.given) in
    let size : link_size h.size read.text ≡ h.size = size_stays h.size read.text great in
    record {
      opened = line ∷ [];
      rest = behind;
      whole = refl;
      refused = λ (s : Rows). inl (
        Write (dir ++ name ∷ []) (held_link h.size read.text),
        (name, inr (line, h.size, read.text, kept, refl, h.key, refl), refl),
        ap (λ (o : Option OdbRefusal). option_or o (rows_fault s (Write (dir ++ name ∷ []) (held_link h.size read.text)))) (wide (link_size h.size read.text) (omega (arith, size, great))),
      );
    }

-- a line of a link of which nothing more is read

and_right : (a b : Bool) → (a && b) ≡ true → b ≡ true
and_right true b h = h
and_right false b h = absurd (cc)

pub and_left : (a b : Bool) → (a && b) ≡ true → a ≡ true
and_left true b h = refl
and_left false b h = absurd (cc)

link_only : (type : Tid) → is_link_type type ≡ true → type ≡ tid.Link
link_only tid.Link h = refl
link_only _ h = absurd (cc)

nowhere_link : (links : Bool) (dir : List (List ℕ)) (type : Tid) (rest : List ℕ) → (links && is_link_type type) ≡ true → ((text : List ℕ) (size : ℕ) (link : List ℕ) → IsSingle rest text → IsLinkAlone text size link → ⊥)
    → GoesOnNowhere links dir type rest
nowhere_link links dir type rest is none =
    let link : type ≡ tid.Link = link_only type (and_right links (is_link_type type) is) in record {
      single = λ (deep : length dir < depth_limit) (k : is_kept type ≡ true) text size item s i. not_both (ap is_kept link) k;
      array = λ (deep : length dir < depth_limit) (k : is_kept type ≡ true) n f. not_both (ap is_kept link) k;
      link = λ (deep : length dir < depth_limit) k l. none;
      skipped_single = λ (deep : length dir < depth_limit) (k : is_skipped links type ≡ true) text s. not_both (none_skipped links (and_left links (is_link_type type) is) type link) k;
      skipped_array = λ (deep : length dir < depth_limit) (k : is_skipped links type ≡ true) n f. not_both (none_skipped links (and_left links (is_link_type type) is) type link) k;
    }
  where
    not_both : {b : Bool} → b ≡ false → b ≡ true → ⊥
    not_both h k = absurd (let e : true ≡ false = sym k ∙ h in cc)

    none_skipped : (kept : Bool) → kept ≡ true → (t : Tid) → t ≡ tid.Link → is_skipped kept t ≡ false
    none_skipped true h t e = ap (is_skipped true) e
    none_skipped false h t e = absurd (cc)

pub bad_link : (links : Bool) (dir : List (List ℕ)) (line name : List ℕ) (type : Tid) (rest : List ℕ) (behind : List (List ℕ)) → IsKeyIn dir line name type rest → (links && is_link_type type) ≡ true
    → (IsPassed line → ⊥) → ((p : List (List ℕ)) → IsDirLine line p → ⊥) → ((text : List ℕ) (size : ℕ) (link : List ℕ) → IsSingle rest text → IsLinkAlone text size link → ⊥) → IsBadAt links dir (line ∷ behind) 0
bad_link links dir line name type rest behind key is no_pass no_dir none =
    bad_line links dir line behind (begins_nothing links dir line name type rest key.key no_pass no_dir (nowhere_link links dir type rest is none))

-- what stands behind the colon of a line is told by the line
pub no_link_there : (rest text : List ℕ) → IsSingle rest text → ((size : ℕ) (link : List ℕ) → IsLinkAlone text size link → ⊥) → (other : List ℕ) (size : ℕ) (link : List ℕ) → IsSingle rest other → IsLinkAlone other size link → ⊥
no_link_there rest text single none other size link s a = none size link (subst (λ (t : List ℕ). IsLinkAlone t size link) (single_once rest other text s single) a)

-- the line of a link, of which the text behind the colon is read
pub reads_link : (links : Bool) (dir : List (List ℕ)) (line name : List ℕ) (type : Tid) (rest text : List ℕ) (size : ℕ) (read : ReadLink) → IsKeyIn dir line name type rest → (links && is_link_type type) ≡ true → IsSingle rest text
    → IsLinkAlone text size read.text → read.size ≡ up_to size_limit size → ReadsLink dir line name read
reads_link links dir line name type rest text size read key is single alone given =
    let link : type ≡ tid.Link = link_only type (and_right links (is_link_type type) is) in record {
      size = size;
      key = record { rest = rest; key = subst (λ (t : Tid). IsKeyIn dir line name t rest) link key; text = text; single = single; alone = alone };
      given = given;
    }

-- the line of a link is in the grammar
pub link_begun : (links : Bool) (dir : List (List ℕ)) (line name : List ℕ) (type : Tid) (rest text : List ℕ) (behind : List (List ℕ)) (size : ℕ) (link : List ℕ)
    → IsKeyIn dir line name type rest → (links && is_link_type type) ≡ true → IsSingle rest text → IsLinkAlone text size link → IsBegunAt links dir (line ∷ behind)
link_begun links dir line name type rest text behind size link key kept single alone =
    let read : ReadLink = record { size = up_to size_limit size; text = link } in
    let reads : ReadsLink dir line name read = reads_link links dir line name type rest text size read key kept single alone refl in
    record {
      opened = line ∷ [];
      rest = behind;
      whole = refl;
      begins = inl (
        Write (dir ++ name ∷ []) (held_link reads.size link),
        (name, inr (line, reads.size, link, and_left links (is_link_type type) kept, refl, reads.key, refl), refl),
      );
    }
