-- Keys as they are written: their values, and the lines that ask for them.
use Rattle.std.proofs.Common.{◌≡◌, ℕ, ◌+◌, ◌<◌, ◌≤◌, max, Bool, true, false, cond, List, [], ◌∷◌, ◌++◌, length, map, Option, Some, None, Ok, refl, sym, ap, ◌∙◌, subst, arith, inl, inr, le-ltb, lt-ltb}
use Rattle.std.specs.Prelude.{All, nat_le}
use Rattle.std.proofs.lemmas.Bool.Decides.{nat_tests}
use Rattle.daq_text.specs.Numbers.{up_to}
use Rattle.odb_value.specs.Paths.{depth_limit}
use Rattle.std.specs.Option.{option_or}
use Rattle.std.specs.List.{AllByRecursion}
use Rattle.std.proofs.lemmas.List.Elements.{All-push, All-nil, All-from_recursion, recursion_from_All}
use Rattle.daq_types.specs.declared.types.Tid.{Tid}
use Rattle.daq_types.specs.declared.types.Tid.TheVariants as tid
use Rattle.odb_value.specs.declared.items.Item.{Item}
use Rattle.odb_value.specs.declared.items.Item.TheVariants.{UInt8, Int8, Char, UInt16, Int16, UInt32, Int32, Bool as Truth, Text, Int64, UInt64}
use Rattle.odb_value.specs.Items.{tid_of, IsItem, is_kept}
use Rattle.odb_value.specs.Values.{HeldValue, IsValue, IsShorter, IsSizeOf, size_limit, items_limit}
use Rattle.odb_value.specs.LinkValues.{is_link_type}
use Rattle.odb_value.specs.ValueChanges.{size_with_item}
use Rattle.odb_tree.specs.declared.refusals.OdbRefusal.{OdbRefusal}
use Rattle.odb_tree.specs.declared.refusals.OdbRefusal.TheVariants.{Limit}
use Rattle.odb_tree.specs.declared.refusals.What.TheVariants.{Items, Size}
use Rattle.odb_tree.specs.Rows.{Rows}
use Rattle.odb_text.specs.LineForms.{IsPassed, IsDirLine, IsSingle, IsArray}
use Rattle.odb_text.proofs.KeyLines.{single_once}
use Rattle.odb_text.specs.ItemLines.{is_string, IsItemAlone, IsLinkAlone}
use Rattle.odb_text.specs.declared.acts.Act.{Act}
use Rattle.odb_text.specs.declared.acts.Act.TheVariants.{Make, Write, Skip}
use Rattle.odb_text.specs.declared.faults.ItemsFault.{ItemsFault}
use Rattle.odb_text.specs.declared.faults.ItemsFault.TheVariants.{BadItem, WideItem, NoMemory}
use Rattle.odb_text.specs.TextSteps.{own_limit, rows_fault, many_fault, wide_fault}
use Rattle.odb_text.specs.Grammar.{SizedItem, AreItemLines, size_given, size_for, held_with, IsKeyIn, IsArrayHead, is_skipped}
use Rattle.odb_text.specs.TextFaults.{NextIsNot, NextIs, IsSomeItemLine, BeginsNothing}
use Rattle.odb_text.specs.Blocks.{IsBlock, IsBadAt, IsRefusedAlways, IsBegunAt, IsBlockFault, block_fault, AreRead, StopsAtItem, IsAloneRead, IsAloneFault, AreSkipped, SkipsOnlyTo, TakesItem, IsTakeFault}
use Rattle.std.proofs.lemmas.List.{length_push, length-map, append_assoc}
use Rattle.odb_text.specs.ItemLines.{IsItemLine, IsAloneText}
use Rattle.odb_text.specs.LineForms.{behind_blank}
use Rattle.odb_value.specs.ItemTexts.{item_read}
use Rattle.std.specs.Str.Lines.{lines}
use Rattle.odb_text.proofs.DumpItems.{lines_push, size_push, raised_within, read_tid, read_short}
use Rattle.odb_text.proofs.Beginnings.{begins_nothing, not_both, kept_is_not_skipped, kept_is_no_link, GoesOnNowhere}

-- the sizes of items

pub wider : (low high : ℕ) (item : Item) → low ≤ high → IsShorter low item → IsShorter high item
wider low high (UInt8 n) h k = tt
wider low high (Int8 z) h k = tt
wider low high (Char b) h k = tt
wider low high (UInt16 n) h k = tt
wider low high (Int16 z) h k = tt
wider low high (UInt32 n) h k = tt
wider low high (Int32 z) h k = tt
wider low high (Truth t) h k = tt
wider low high (Text bytes) h k = omega (arith, h, k)
wider low high (Int64 z) h k = tt
wider low high (UInt64 n) h k = tt

within_raised : (given : ℕ) (item : Item) → IsShorter (size_with_item given item) item
within_raised given (UInt8 n) = tt
within_raised given (Int8 z) = tt
within_raised given (Char b) = tt
within_raised given (UInt16 n) = tt
within_raised given (Int16 z) = tt
within_raised given (UInt32 n) = tt
within_raised given (Int32 z) = tt
within_raised given (Truth t) = tt
within_raised given (Text bytes) = omega arith
within_raised given (Int64 z) = tt
within_raised given (UInt64 n) = tt

items_shorter : (xs : List SizedItem) (s : ℕ) → size_given xs ≤ s → AllByRecursion (IsShorter s) (map (λ (x : SizedItem). x.item) xs)
items_shorter [] s h = tt
items_shorter (x ∷ xs) s h =
    (wider (size_with_item x.size x.item) s x.item (omega (arith, h)) (within_raised x.size x.item), items_shorter xs s (omega (arith, h)))

no_text : (type : Tid) (s : ℕ) (item : Item) → is_string type ≡ false → IsItem type item → IsShorter s item
no_text type s (UInt8 n) h k = tt
no_text type s (Int8 z) h k = tt
no_text type s (Char b) h k = tt
no_text type s (UInt16 n) h k = tt
no_text type s (Int16 z) h k = tt
no_text type s (UInt32 n) h k = tt
no_text type s (Int32 z) h k = tt
no_text type s (Truth t) h k = tt
no_text type s (Text bytes) h k = (let e : true ≡ false = ap is_string k.tid ∙ h in absurd (cc))
no_text type s (Int64 z) h k = tt
no_text type s (UInt64 n) h k = tt

no_texts : (type : Tid) (s : ℕ) (items : List Item) → is_string type ≡ false → AllByRecursion (IsItem type) items → AllByRecursion (IsShorter s) items
no_texts type s [] h k = tt
no_texts type s (x ∷ xs) h k = (no_text type s x h k.0, no_texts type s xs h k.1)

size_is_of : (type : Tid) (size : ℕ) → size ≤ size_limit → IsSizeOf type (size_for (is_string type) type size)
size_is_of tid.UInt8 size h = refl
size_is_of tid.Int8 size h = refl
size_is_of tid.Char size h = refl
size_is_of tid.UInt16 size h = refl
size_is_of tid.Int16 size h = refl
size_is_of tid.UInt32 size h = refl
size_is_of tid.Int32 size h = refl
size_is_of tid.Bool size h = refl
size_is_of tid.Float size h = refl
size_is_of tid.Double size h = refl
size_is_of tid.BitField size h = refl
size_is_of tid.Text size h = h
size_is_of tid.Array size h = refl
size_is_of tid.Struct size h = refl
size_is_of tid.Key size h = refl
size_is_of tid.Link size h = refl
size_is_of tid.Int64 size h = refl
size_is_of tid.UInt64 size h = refl

pub size_is_small : (type : Tid) (size : ℕ) → size ≤ size_limit → size_for (is_string type) type size ≤ size_limit
size_is_small tid.UInt8 size h = omega arith
size_is_small tid.Int8 size h = omega arith
size_is_small tid.Char size h = omega arith
size_is_small tid.UInt16 size h = omega arith
size_is_small tid.Int16 size h = omega arith
size_is_small tid.UInt32 size h = omega arith
size_is_small tid.Int32 size h = omega arith
size_is_small tid.Bool size h = omega arith
size_is_small tid.Float size h = omega arith
size_is_small tid.Double size h = omega arith
size_is_small tid.BitField size h = omega arith
size_is_small tid.Text size h = h
size_is_small tid.Array size h = omega arith
size_is_small tid.Struct size h = omega arith
size_is_small tid.Key size h = omega arith
size_is_small tid.Link size h = omega arith
size_is_small tid.Int64 size h = omega arith
size_is_small tid.UInt64 size h = omega arith

-- a key's value

pub key_is_value : (type : Tid) (xs : List SizedItem) (items : List Item) (size : ℕ) → items ≡ map (λ (x : SizedItem). x.item) xs → size ≡ size_given xs → size ≤ size_limit
    → 1 ≤ length items → length items ≤ items_limit → All (IsItem type) items
    → IsValue (record { tid = type; size = size_for (is_string type) type size; items = items })
key_is_value type xs items size e d w some many sound = record {
  some = some;
  many = many;
  of_type = sound;
  size = size_is_of type size w;
  shorter = shorter (is_string type) refl;
}
  where
    shorter : (b : Bool) → is_string type ≡ b → All (IsShorter (size_for b type size)) items
    shorter true h = subst (All (IsShorter size)) (sym e) (All-from_recursion (IsShorter size) (map (λ (x : SizedItem). x.item) xs) (items_shorter xs size (omega (arith, d))))
    shorter false h = All-from_recursion (IsShorter (size_for false type size)) items (no_texts type (size_for false type size) items h (recursion_from_All (IsItem type) items sound))

same_value : (type : Tid) (xs : List SizedItem) (items : List Item) (size : ℕ) → items ≡ map (λ (x : SizedItem). x.item) xs → size ≡ size_given xs
    → ◌≡◌ {A = HeldValue} (record { tid = type; size = size_for (is_string type) type size; items = items }) (held_with type xs)
same_value type xs items size e d =
    ap (λ (l : List Item). record { tid = type; size = size_for (is_string type) type size; items = l }) e
    ∙ ap (λ (n : ℕ). record { tid = type; size = size_for (is_string type) type n; items = map (λ (x : SizedItem). x.item) xs }) d

pub no_many : (n : ℕ) → n ≤ items_limit → many_fault n ≡ None
no_many n h = ap (λ (t : Bool). cond t (Some (Limit Items)) None) (le-ltb items_limit n h)

pub no_wide : (n : ℕ) → n ≤ size_limit → wide_fault n ≡ None
no_wide n h = ap (λ (t : Bool). cond t (Some (Limit Size)) None) (le-ltb size_limit n h)

pub wide : (n : ℕ) → size_limit < n → wide_fault n ≡ Some (Limit Size)
wide n h = ap (λ (t : Bool). cond t (Some (Limit Size)) None) (lt-ltb size_limit n h)

no_own_limit : (p : List (List ℕ)) (v : HeldValue) → length v.items ≤ items_limit → v.size ≤ size_limit → own_limit (Write p v) ≡ None
no_own_limit p v h k = ap (λ (o : Option OdbRefusal). option_or o (wide_fault v.size)) (no_many (length v.items) h) ∙ no_wide v.size k

raised_least : (given : ℕ) (item : Item) → given ≤ size_with_item given item
raised_least given (UInt8 n) = omega arith
raised_least given (Int8 z) = omega arith
raised_least given (Char b) = omega arith
raised_least given (UInt16 n) = omega arith
raised_least given (Int16 z) = omega arith
raised_least given (UInt32 n) = omega arith
raised_least given (Int32 z) = omega arith
raised_least given (Truth t) = omega arith
raised_least given (Text bytes) = omega arith
raised_least given (Int64 z) = omega arith
raised_least given (UInt64 n) = omega arith

-- an array

pub array_value : (dir : List (List ℕ)) (line name : List ℕ) (type : Tid) (n : ℕ) (behind : List (List ℕ)) (items : List Item) (size : ℕ) (rest : List (List ℕ))
    → IsArrayHead dir line name type n → n ≤ items_limit → AreRead type behind n items size rest → IsValue (record { tid = type; size = size_for (is_string type) type size; items = items })
array_value dir line name type n behind items size rest h many a =
    let len : length items ≡ n = ap length a.items_are ∙ length-map a.xs (λ (x : SizedItem). x.item) ∙ a.as_many in
    key_is_value type a.xs items size a.items_are a.size_is a.within (omega (arith, len, h.array.some)) (omega (arith, len, many)) a.sound

pub array_block : (links : Bool) (dir : List (List ℕ)) (line name : List ℕ) (type : Tid) (n : ℕ) (behind : List (List ℕ)) (items : List Item) (size : ℕ) (rest : List (List ℕ))
    → IsArrayHead dir line name type n → n ≤ items_limit → AreRead type behind n items size rest
    → IsBlock links dir (line ∷ behind) (Write (dir ++ name ∷ []) (record { tid = type; size = size_for (is_string type) type size; items = items })) rest (n + 1)
array_block links dir line name type n behind items size rest h many a =
    let len : length items ≡ n = ap length a.items_are ∙ length-map a.xs (λ (x : SizedItem). x.item) ∙ a.as_many in
    record {
      own = line ∷ a.own;
      whole = ap (λ (l : List (List ℕ)). line ∷ l) a.whole;
      counted = omega (arith, a.many);
      spells = (name, inl (type, a.xs, inr (n, h, a.as_many, a.spell), same_value type a.xs items size a.items_are a.size_is), refl);
      within = no_own_limit (dir ++ name ∷ []) (record { tid = type; size = size_for (is_string type) type size; items = items }) (omega (arith, len, many)) (size_is_small type size a.within);
    }

-- the lines of a step are in the grammar
pub block_begun : (links : Bool) (dir lines : List (List ℕ)) (act : Act) (rest : List (List ℕ)) (count : ℕ) → IsBlock links dir lines act rest count → IsBegunAt links dir lines
block_begun links dir lines act rest count b = record { opened = b.own; rest = rest; whole = b.whole; begins = inl (act, b.spells) }

-- and so are those of an array up to its next item
begun_at : (links : Bool) (dir : List (List ℕ)) (line name : List ℕ) (type : Tid) (n : ℕ) (behind : List (List ℕ)) (index : ℕ) (own : List (List ℕ)) (xs : List SizedItem) (rest : List (List ℕ))
    → IsArrayHead dir line name type n → n ≤ items_limit → behind ≡ own ++ rest → AreItemLines type 0 own xs → length xs ≡ index → index < n → size_given xs ≤ size_limit
    → NextIs (IsSomeItemLine type index) rest → IsBegunAt links dir (line ∷ behind)
begun_at links dir line name type n behind index own xs [] h many whole spell count inside within next = absurd next
begun_at links dir line name type n behind index own xs (own_line ∷ more) h many whole spell count inside within next =
    let x : SizedItem = record { size = next.0; item = next.1 } in
    record {
      opened = line ∷ (own ++ own_line ∷ []);
      rest = more;
      whole = ap (λ (l : List (List ℕ)). line ∷ l) (whole ∙ sym (append_assoc own (own_line ∷ []) more));
      begins = inr (
        type,
        xs,
        x,
        n,
        record {
          head = line;
          more = own ++ own_line ∷ [];
          spelled = refl;
          name = name;
          array = h;
          many = many;
          items = lines_push type 0 own xs own_line x spell (subst (λ (k : ℕ). IsItemLine type k own_line next.0 next.1) (let e : index ≡ 0 + length xs = omega (arith, count) in e) next.2);
        },
        omega (arith, count, inside),
        within,
      );
    }

pub array_fault : (links : Bool) (dir : List (List ℕ)) (line name : List ℕ) (type : Tid) (n : ℕ) (behind : List (List ℕ)) (fault : ItemsFault)
    → IsArrayHead dir line name type n → n ≤ items_limit → StopsAtItem type behind n fault → IsBlockFault links dir (line ∷ behind) (block_fault fault)
array_fault links dir line name type n behind (BadItem at) h many b =
    let a = b.read in
    record {
      opened = line ∷ a.own;
      rest = b.rest;
      whole = ap (λ (l : List (List ℕ)). line ∷ l) a.whole;
      place = omega (arith, a.many, b.fault_is.0);
      leaves = inr (inl (
        type,
        a.xs,
        n,
        record { head = line; more = a.own; spelled = refl; name = name; array = h; items = a.spell; many = many },
        omega (arith, a.as_many, b.inside),
        omega (arith, a.size_is, a.within),
        subst (λ (k : ℕ). NextIsNot (IsSomeItemLine type k) b.rest) (sym a.as_many) b.fault_is.1,
      ));
    }
array_fault links dir line name type n behind WideItem h many b =
    let a = b.read in
    let w = b.fault_is in
    let x : SizedItem = record { size = w.given; item = w.item } in
    record {
      opened = line ∷ (a.own ++ w.line ∷ []);
      rest = w.rest;
      whole = ap (λ (l : List (List ℕ)). line ∷ l) (a.whole ∙ ap (λ (l : List (List ℕ)). a.own ++ l) w.first ∙ sym (append_assoc a.own (w.line ∷ []) w.rest));
      refused = λ (s : Rows). inr (inr (
        (
          type,
          a.xs ++ x ∷ [],
          n,
          record {
            head = line;
            more = a.own ++ w.line ∷ [];
            spelled = refl;
            name = name;
            array = h;
            many = many;
            items = lines_push type 0 a.own a.xs w.line x a.spell (subst (λ (k : ℕ). IsItemLine type k w.line w.given w.item) (let e : b.index ≡ 0 + length a.xs = omega (arith, a.as_many) in e) w.spells);
          },
          omega (arith, length_push a.xs x, a.as_many, b.inside),
          omega (arith, size_push a.xs x, raised_least w.given w.item, w.wide),
        ),
        refl,
      ));
    }
array_fault links dir line name type n behind NoMemory h many b =
    let a = b.read in
    begun_at links dir line name type n behind b.index a.own a.xs b.rest h many a.whole a.spell a.as_many b.inside (omega (arith, a.size_is, a.within)) b.fault_is

-- a key of one item

pub single_value : (type : Tid) (text : List ℕ) (items : List Item) (size : ℕ) → IsAloneRead type text items size
    → IsValue (record { tid = type; size = size_for (is_string type) type size; items = items })
single_value type text items size a =
    let len : length items ≡ 1 = ap length a.items_are in
    key_is_value type (a.x ∷ []) items size a.items_are a.size_is a.within (omega (arith, len)) (omega (arith, len)) a.sound

pub single_block : (links : Bool) (dir : List (List ℕ)) (line name : List ℕ) (type : Tid) (rest text : List ℕ) (behind : List (List ℕ)) (items : List Item) (size : ℕ)
    → IsKeyIn dir line name type rest → is_kept type ≡ true → IsSingle rest text → IsAloneRead type text items size
    → IsBlock links dir (line ∷ behind) (Write (dir ++ name ∷ []) (record { tid = type; size = size_for (is_string type) type size; items = items })) behind 1
single_block links dir line name type rest text behind items size key kept single a =
    let len : length items ≡ 1 = ap length a.items_are in
    record {
      own = line ∷ [];
      whole = refl;
      counted = refl;
      spells = (
        name,
        inl (
          type,
          a.x ∷ [],
          inl (a.x, record { rest = rest; key = key; kept = kept; text = text; single = single; item = a.spells }, refl, refl),
          same_value type (a.x ∷ []) items size a.items_are a.size_is,
        ),
        refl,
      );
      within = no_own_limit (dir ++ name ∷ []) (record { tid = type; size = size_for (is_string type) type size; items = items }) (omega (arith, len)) (size_is_small type size a.within);
    }

-- nothing begins with the line
pub bad_line : (links : Bool) (dir : List (List ℕ)) (line : List ℕ) (behind : List (List ℕ)) → BeginsNothing links dir line → IsBadAt links dir (line ∷ behind) 0
bad_line links dir line behind b = record { opened = []; rest = line ∷ behind; whole = refl; place = refl; leaves = inl (line, behind, refl, refl, b) }

pub single_fault : (links : Bool) (dir : List (List ℕ)) (line name : List ℕ) (type : Tid) (rest text : List ℕ) (behind : List (List ℕ)) (fault : ItemsFault)
    → IsKeyIn dir line name type rest → is_kept type ≡ true → IsSingle rest text → (IsPassed line → ⊥) → ((p : List (List ℕ)) → IsDirLine line p → ⊥)
    → IsAloneFault type text fault → IsBlockFault links dir (line ∷ behind) (block_fault fault)
single_fault links dir line name type rest text behind (BadItem at) key kept single no_pass no_dir a =
    subst (IsBadAt links dir (line ∷ behind)) (sym a.0)
    (bad_line links dir line behind (begins_nothing links dir line name type rest key.key no_pass no_dir (record {
      single = λ (deep : length dir < depth_limit) (k : is_kept type ≡ true) (other : List ℕ) (size : ℕ) (item : Item) (s : IsSingle rest other) (i : IsItemAlone type other size item).
          a.1 size item (subst (λ (l : List ℕ). IsItemAlone type l size item) (single_once rest other text s single) i);
      array = λ (deep : length dir < depth_limit) (k : is_kept type ≡ true) (n : ℕ) (f : IsArray rest n). not_both rest text n single f;
      link = λ (deep : length dir < depth_limit) (k : links ≡ true) (l : is_link_type type ≡ true) (other : List ℕ) (size : ℕ) (link : List ℕ) (s : IsSingle rest other) (i : IsLinkAlone other size link). kept_is_no_link type kept l;
      skipped_single = λ (deep : length dir < depth_limit) (k : is_skipped links type ≡ true) (other : List ℕ) (s : IsSingle rest other). kept_is_not_skipped links type kept k;
      skipped_array = λ (deep : length dir < depth_limit) (k : is_skipped links type ≡ true) (n : ℕ) (f : IsArray rest n). kept_is_not_skipped links type kept k;
    })))
single_fault links dir line name type rest text behind WideItem key kept single no_pass no_dir a =
    let v : HeldValue = held_with type (a.x ∷ []) in
    let size : v.size ≡ max (size_with_item a.x.size a.x.item) 0 = ap (λ (b : Bool). size_for b type (size_given (a.x ∷ []))) a.string in
    record {
      opened = line ∷ [];
      rest = behind;
      whole = refl;
      refused = λ (s : Rows). inl (
        Write (dir ++ name ∷ []) v,
        (name, inl (type, a.x ∷ [], inl (a.x, record { rest = rest; key = key; kept = kept; text = text; single = single; item = a.spells }, refl, refl), refl), refl),
        ap (λ (o : Option OdbRefusal). option_or o (rows_fault s (Write (dir ++ name ∷ []) v))) (wide v.size (omega (arith, size, raised_least a.x.size a.x.item, a.wide))),
      );
    }
single_fault links dir line name type rest text behind NoMemory key kept single no_pass no_dir a =
    let x : SizedItem = record { size = a.0; item = a.1 } in
    record {
      opened = line ∷ [];
      rest = behind;
      whole = refl;
      begins = inl (
        Write (dir ++ name ∷ []) (held_with type (x ∷ [])),
        (name, inl (type, x ∷ [], inl (x, record { rest = rest; key = key; kept = kept; text = text; single = single; item = a.2 }, refl, refl), refl), refl),
      );
    }

-- too many items

pub too_many : (links : Bool) (dir : List (List ℕ)) (line name : List ℕ) (type : Tid) (rest : List ℕ) (n : ℕ) (behind : List (List ℕ))
    → IsKeyIn dir line name type rest → is_kept type ≡ true → IsArray rest n → items_limit < n → IsRefusedAlways links dir (line ∷ behind) (Limit Items)
too_many links dir line name type rest n behind key kept array many = record {
  opened = line ∷ [];
  rest = behind;
  whole = refl;
  refused = λ (s : Rows). inr (inl ((line, n, refl, many, inl (name, type, record { rest = rest; key = key; kept = kept; array = array })), refl));
}

pub too_many_skipped : (links : Bool) (dir : List (List ℕ)) (line name : List ℕ) (type : Tid) (rest : List ℕ) (n : ℕ) (behind : List (List ℕ))
    → IsKeyIn dir line name type rest → is_skipped links type ≡ true → IsArray rest n → items_limit < n → IsRefusedAlways links dir (line ∷ behind) (Limit Items)
too_many_skipped links dir line name type rest n behind key skipped array many = record {
  opened = line ∷ [];
  rest = behind;
  whole = refl;
  refused = λ (s : Rows). inr (inl ((line, n, refl, many, inr (rest, record { name = name; type = type; key = key; skipped = skipped }, array)), refl));
}

-- keys that are skipped

pub skipped_single : (links : Bool) (dir : List (List ℕ)) (line name : List ℕ) (type : Tid) (rest text : List ℕ) (behind : List (List ℕ))
    → IsKeyIn dir line name type rest → is_skipped links type ≡ true → IsSingle rest text → IsBlock links dir (line ∷ behind) (Skip 0) behind 1
skipped_single links dir line name type rest text behind key skipped single = record {
  own = line ∷ [];
  whole = refl;
  counted = refl;
  spells = inl (rest, text, record { name = name; type = type; key = key; skipped = skipped }, single, refl, refl);
  within = refl;
}

pub skipped_array : (links : Bool) (dir : List (List ℕ)) (line name : List ℕ) (type : Tid) (rest : List ℕ) (n : ℕ) (behind left : List (List ℕ))
    → IsKeyIn dir line name type rest → is_skipped links type ≡ true → IsArray rest n → n ≤ items_limit → AreSkipped behind n left → IsBlock links dir (line ∷ behind) (Skip n) left (n + 1)
skipped_array links dir line name type rest n behind left key skipped array many a = record {
  own = line ∷ a.own;
  whole = ap (λ (l : List (List ℕ)). line ∷ l) a.whole;
  counted = omega (arith, a.many);
  spells = inr (rest, record { name = name; type = type; key = key; skipped = skipped }, array, a.many, a.spell);
  within = no_many n many;
}

pub skipped_fault : (links : Bool) (dir : List (List ℕ)) (line name : List ℕ) (type : Tid) (rest : List ℕ) (n at : ℕ) (behind : List (List ℕ))
    → IsKeyIn dir line name type rest → is_skipped links type ≡ true → IsArray rest n → n ≤ items_limit → SkipsOnlyTo behind n at → IsBadAt links dir (line ∷ behind) (at + 1)
skipped_fault links dir line name type rest n at behind key skipped array many b =
    let a = b.skipped in
    record {
      opened = line ∷ a.own;
      rest = b.rest;
      whole = ap (λ (l : List (List ℕ)). line ∷ l) a.whole;
      place = omega (arith, a.many);
      leaves = inr (inr (
        n,
        record {
          head = line;
          more = a.own;
          spelled = refl;
          rest = rest;
          skipped = record { name = name; type = type; key = key; skipped = skipped };
          array = array;
          items = a.spell;
          many = many;
          few = omega (arith, a.many, b.inside);
        },
        b.next,
      ));
    }

pub nowhere_kept : (links : Bool) (dir : List (List ℕ)) (type : Tid) (rest : List ℕ) → is_kept type ≡ true → ((text : List ℕ) → IsSingle rest text → ⊥) → ((n : ℕ) → IsArray rest n → ⊥) → GoesOnNowhere links dir type rest
nowhere_kept links dir type rest kept no_single no_array = record {
  single = λ (deep : length dir < depth_limit) (k : is_kept type ≡ true) (text : List ℕ) (size : ℕ) (item : Item) (s : IsSingle rest text) (i : IsItemAlone type text size item). no_single text s;
  array = λ (deep : length dir < depth_limit) (k : is_kept type ≡ true) (n : ℕ) (f : IsArray rest n). no_array n f;
  link = λ (deep : length dir < depth_limit) (k : links ≡ true) (l : is_link_type type ≡ true) (text : List ℕ) (size : ℕ) (link : List ℕ) (s : IsSingle rest text) (i : IsLinkAlone text size link). no_single text s;
  skipped_single = λ (deep : length dir < depth_limit) (k : is_skipped links type ≡ true) (text : List ℕ) (s : IsSingle rest text). no_single text s;
  skipped_array = λ (deep : length dir < depth_limit) (k : is_skipped links type ≡ true) (n : ℕ) (f : IsArray rest n). no_array n f;
}

pub count_some : (most n count : ℕ) → Some count ≡ up_to most n → (count ≡ n) × (n ≤ most)
count_some most n count e = cases (nat_le n most) refl e
  where
    cases : (t : Bool) → nat_le n most ≡ t → Some count ≡ cond t (Some n) None → (count ≡ n) × (n ≤ most)
    cases true is k = (cc, grind (arith, nat_tests, is))
    cases false is k = absurd (cc)

pub count_none : (most n : ℕ) → None ≡ up_to most n → most < n
count_none most n e = cases (nat_le n most) refl e
  where
    cases : (t : Bool) → nat_le n most ≡ t → None ≡ cond t (Some n) None → most < n
    cases true is k = absurd (cc)
    cases false is k = grind (arith, nat_tests, is)

pub nowhere_skipped : (links : Bool) (dir : List (List ℕ)) (type : Tid) (rest : List ℕ) → ((text : List ℕ) → IsSingle rest text → ⊥) → ((n : ℕ) → IsArray rest n → ⊥) → GoesOnNowhere links dir type rest
nowhere_skipped links dir type rest no_single no_array = record {
  single = λ (deep : length dir < depth_limit) (k : is_kept type ≡ true) (text : List ℕ) (size : ℕ) (item : Item) (s : IsSingle rest text) (i : IsItemAlone type text size item). no_single text s;
  array = λ (deep : length dir < depth_limit) (k : is_kept type ≡ true) (n : ℕ) (f : IsArray rest n). no_array n f;
  link = λ (deep : length dir < depth_limit) (k : links ≡ true) (l : is_link_type type ≡ true) (text : List ℕ) (size : ℕ) (link : List ℕ) (s : IsSingle rest text) (i : IsLinkAlone text size link). no_single text s;
  skipped_single = λ (deep : length dir < depth_limit) (k : is_skipped links type ≡ true) (text : List ℕ) (s : IsSingle rest text). no_single text s;
  skipped_array = λ (deep : length dir < depth_limit) (k : is_skipped links type ≡ true) (n : ℕ) (f : IsArray rest n). no_array n f;
}

-- the same block at an equal path and value

pub block_at : (links : Bool) (dir ls rest : List (List ℕ)) (count : ℕ) (p q : List (List ℕ)) (v w : HeldValue) → p ≡ q → v ≡ w → IsBlock links dir ls (Write p v) rest count → IsBlock links dir ls (Write q w) rest count
block_at links dir ls rest count p q v w e d b =
    subst (λ (x : HeldValue). IsBlock links dir ls (Write q x) rest count) d (subst (λ (x : List (List ℕ)). IsBlock links dir ls (Write x v) rest count) e b)

pub block_rest : (links : Bool) (dir ls : List (List ℕ)) (act : Act) (bytes others : List ℕ) (count : ℕ) → bytes ≡ others → IsBlock links dir ls act (lines bytes) count → IsBlock links dir ls act (lines others) count
block_rest links dir ls act bytes others count e b = subst (λ (x : List ℕ). IsBlock links dir ls act (lines x) count) e b

-- the one item

pub alone_read : (type : Tid) (text : List ℕ) (given : Option ℕ) (size : ℕ) (item : Item) (items : List Item) (width : ℕ) → IsItemAlone type text size item → given ≡ up_to size_limit size
    → IsShorter size_limit item → TakesItem type given item [] 0 items width → IsAloneRead type text items width
alone_read type text given size item items width spells e short t =
    let g = count_some size_limit size t.width (sym t.is_given ∙ e) in
    record {
      x = record { size = size; item = item };
      spells = spells;
      items_are = t.one_more;
      size_is = t.raises ∙ ap (λ (n : ℕ). max 0 (size_with_item n item)) g.0 ∙ omega arith;
      within = omega (arith, t.raises, ap (λ (n : ℕ). size_with_item n item) g.0, raised_within size item g.1 short);
      sound = subst (All (IsItem type)) (sym t.one_more) (All-push (IsItem type) [] item (All-nil (IsItem type)) t.sound);
    }

pub make_block : (links : Bool) (dir : List (List ℕ)) (line : List ℕ) (p behind : List (List ℕ)) → IsDirLine line p → IsBlock links dir (line ∷ behind) (Make p) behind 1
make_block links dir line p behind d = record { own = line ∷ []; whole = refl; counted = refl; spells = (line, refl, d); within = refl }

pub wide_is_string : (type : Tid) (text : List ℕ) (size : ℕ) (item : Item) → IsItemAlone type text size item → size_limit < size → is_string type ≡ true
wide_is_string type text size item i h = cases (is_string type) refl i
  where
    cases : (b : Bool) → is_string type ≡ b → IsAloneText b type (behind_blank text) size item → is_string type ≡ true
    cases true e k = e
    cases false e k = absurd (omega (arith, k.1, h))

alone_spells : (b : Bool) (type : Tid) (text : List ℕ) (size : ℕ) (item : Item) → IsAloneText b type text size item → (read : List ℕ) × (item_read type read ≡ Ok item)
alone_spells true type text size item h = (behind_blank h.rest, h.spells)
alone_spells false type text size item h = (text, h.0)

pub alone_tid : (type : Tid) (text : List ℕ) (size : ℕ) (item : Item) → IsItemAlone type text size item → tid_of item ≡ type
alone_tid type text size item h = let s = alone_spells (is_string type) type (behind_blank text) size item h in read_tid type s.0 item s.1

pub alone_short : (type : Tid) (text : List ℕ) (size : ℕ) (item : Item) → IsItemAlone type text size item → IsShorter size_limit item
alone_short type text size item h = let s = alone_spells (is_string type) type (behind_blank text) size item h in read_short type s.0 item s.1

pub alone_fault : (type : Tid) (text : List ℕ) (given : Option ℕ) (size : ℕ) (item : Item) (fault : ItemsFault) → IsItemAlone type text size item → given ≡ up_to size_limit size
    → IsTakeFault given fault → IsAloneFault type text fault
alone_fault type text given size item (BadItem at) i e h = absurd h
alone_fault type text given size item WideItem i e h =
    let wide : size_limit < size = count_none size_limit size (sym h ∙ e) in
    record { x = record { size = size; item = item }; spells = i; wide = wide; string = wide_is_string type text size item i wide }
alone_fault type text given size item NoMemory i e h = (size, item, i)
