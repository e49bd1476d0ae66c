-- Lines with which nothing begins.
use Rattle.std.proofs.Common.{◌≡◌, ℕ, ◌<◌, ◌≤◌, Bool, true, false, ◌&&◌, List, ◌∷◌, ◌++◌, length, sym, ap, ◌∙◌, subst, arith}
use Rattle.daq_types.specs.declared.types.Tid.{Tid}
use Rattle.daq_types.specs.declared.types.Tid.TheVariants as tid
use Rattle.daq_types.specs.Tids.{IsNamed}
use Rattle.daq_text.specs.Numbers.{front, behind, is_blank}
use Rattle.odb_value.specs.Paths.{depth_limit}
use Rattle.odb_value.specs.declared.items.Item.{Item}
use Rattle.odb_value.specs.Items.{is_kept}
use Rattle.odb_value.specs.LinkValues.{is_link_type}
use Rattle.odb_text.specs.LineForms.{IsPassed, IsDirLine, without_blanks, is_of_word, IsKeyLine, IsSingle, IsArray}
use Rattle.odb_text.specs.ItemLines.{IsItemAlone, IsLinkAlone}
use Rattle.odb_text.proofs.Splitting.{parted}
use Rattle.odb_text.specs.Grammar.{SizedItem, IsSingleKey, IsArrayHead, IsLinkKey, IsSkippedHead, is_skipped}
use Rattle.odb_text.specs.TextFaults.{BeginsNothing}
use Rattle.odb_text.proofs.TypeNames.{named_once}

-- the line of a key has one reading

pub record SameKey (name other : List ℕ) (type kind : Tid) (rest more : List ℕ) : Type 0 where
  pub name_is : name ≡ other
  pub type_is : type ≡ kind
  pub rest_is : rest ≡ more

pub key_once : (line name other : List ℕ) (type kind : Tid) (rest more : List ℕ) → IsKeyLine line name type rest → IsKeyLine line other kind more → SameKey name other type kind rest more
key_once line name other type kind rest more h k =
    let same = parted 61 h.before k.before h.after k.after h.first k.first (sym h.spelled ∙ k.spelled) in
    record {
      name_is = h.trimmed ∙ ap without_blanks same.0 ∙ sym k.trimmed;
      type_is = named_once (front is_of_word (behind is_blank k.after)) type kind (subst (λ (l : List ℕ). IsNamed (front is_of_word (behind is_blank l)) type) same.1 h.named) k.named;
      rest_is = h.behind_word ∙ ap (λ (l : List ℕ). behind is_of_word (behind is_blank l)) same.1 ∙ sym k.behind_word;
    }

-- what may follow the type of a key in a directory
pub record GoesOnNowhere (links : Bool) (dir : List (List ℕ)) (type : Tid) (rest : List ℕ) : Type 0 where
  pub single : length dir < depth_limit → is_kept type ≡ true → (text : List ℕ) (size : ℕ) (item : Item) → IsSingle rest text → IsItemAlone type text size item → ⊥
  pub array : length dir < depth_limit → is_kept type ≡ true → (n : ℕ) → IsArray rest n → ⊥
  pub link : length dir < depth_limit → links ≡ true → is_link_type type ≡ true → (text : List ℕ) (size : ℕ) (link : List ℕ) → IsSingle rest text → IsLinkAlone text size link → ⊥
  pub skipped_single : length dir < depth_limit → is_skipped links type ≡ true → (text : List ℕ) → IsSingle rest text → ⊥
  pub skipped_array : length dir < depth_limit → is_skipped links type ≡ true → (n : ℕ) → IsArray rest n → ⊥

pub begins_nothing : (links : Bool) (dir : List (List ℕ)) (line name : List ℕ) (type : Tid) (rest : List ℕ) → IsKeyLine line name type rest → (IsPassed line → ⊥)
    → ((p : List (List ℕ)) → IsDirLine line p → ⊥) → GoesOnNowhere links dir type rest → BeginsNothing links dir line
begins_nothing links dir line name type rest k passed directory never = record {
  passed = passed;
  directory = directory;
  single = λ (other : List ℕ) (kind : Tid) (x : SizedItem) (s : IsSingleKey dir line other kind x).
      let same = key_once line other name kind type s.rest rest s.key.key k in
      never.single s.key.deep (subst (λ (t : Tid). is_kept t ≡ true) same.type_is s.kept) s.text x.size x.item (subst (λ (l : List ℕ). IsSingle l s.text) same.rest_is s.single)
      (subst (λ (t : Tid). IsItemAlone t s.text x.size x.item) same.type_is s.item);
  array = λ (other : List ℕ) (kind : Tid) (n : ℕ) (a : IsArrayHead dir line other kind n).
      let same = key_once line other name kind type a.rest rest a.key.key k in
      never.array a.key.deep (subst (λ (t : Tid). is_kept t ≡ true) same.type_is a.kept) n (subst (λ (l : List ℕ). IsArray l n) same.rest_is a.array);
  link = λ (kept : links ≡ true) (other : List ℕ) (size : ℕ) (link : List ℕ) (s : IsLinkKey dir line other size link).
      let same = key_once line other name tid.Link type s.rest rest s.key.key k in
      never.link s.key.deep kept (ap is_link_type (sym same.type_is)) s.text size link (subst (λ (l : List ℕ). IsSingle l s.text) same.rest_is s.single) s.alone;
  skipped_single = λ (more text : List ℕ) (s : IsSkippedHead links dir line more) (f : IsSingle more text).
      let same = key_once line s.name name s.type type more rest s.key.key k in
      never.skipped_single s.key.deep (subst (λ (t : Tid). is_skipped links t ≡ true) same.type_is s.skipped) text (subst (λ (l : List ℕ). IsSingle l text) same.rest_is f);
  skipped_array = λ (more : List ℕ) (n : ℕ) (s : IsSkippedHead links dir line more) (f : IsArray more n).
      let same = key_once line s.name name s.type type more rest s.key.key k in
      never.skipped_array s.key.deep (subst (λ (t : Tid). is_skipped links t ≡ true) same.type_is s.skipped) n (subst (λ (l : List ℕ). IsArray l n) same.rest_is f);
}

-- no line of a key at all
pub begins_no_key : (links : Bool) (dir : List (List ℕ)) (line : List ℕ) → ((name : List ℕ) (type : Tid) (rest : List ℕ) → IsKeyLine line name type rest → ⊥) → (IsPassed line → ⊥)
    → ((p : List (List ℕ)) → IsDirLine line p → ⊥) → BeginsNothing links dir line
begins_no_key links dir line never passed directory = record {
  passed = passed;
  directory = directory;
  single = λ (name : List ℕ) (type : Tid) (x : SizedItem) (s : IsSingleKey dir line name type x). never name type s.rest s.key.key;
  array = λ (name : List ℕ) (type : Tid) (n : ℕ) (a : IsArrayHead dir line name type n). never name type a.rest a.key.key;
  link = λ (kept : links ≡ true) (name : List ℕ) (size : ℕ) (link : List ℕ) (s : IsLinkKey dir line name size link). never name tid.Link s.rest s.key.key;
  skipped_single = λ (rest text : List ℕ) (s : IsSkippedHead links dir line rest) (f : IsSingle rest text). never s.name s.type rest s.key.key;
  skipped_array = λ (rest : List ℕ) (n : ℕ) (s : IsSkippedHead links dir line rest) (f : IsArray rest n). never s.name s.type rest s.key.key;
}

same_head : (a b : ℕ) (x y : List ℕ) → a ∷ x ≡ b ∷ y → a ≡ b
same_head a b x y e = cc

-- one item or an array
pub not_both : (rest text : List ℕ) (n : ℕ) → IsSingle rest text → IsArray rest n → ⊥
not_both rest text n s a =
    let k : ◌≡◌ {A = ℕ} 58 91 = same_head 58 91 text (a.digits ++ 93 ∷ a.more) (sym s ∙ a.bracketed.spelled) in absurd (omega (arith, k))

-- what stands in a directory of 32 names
pub too_deep : (links : Bool) (dir : List (List ℕ)) (type : Tid) (rest : List ℕ) → depth_limit ≤ length dir → GoesOnNowhere links dir type rest
too_deep links dir type rest h = record {
  single = λ (deep : length dir < depth_limit) kept text size item s i. absurd (omega (arith, h, deep));
  array = λ (deep : length dir < depth_limit) kept n a. absurd (omega (arith, h, deep));
  link = λ (deep : length dir < depth_limit) kept is text size link s a. absurd (omega (arith, h, deep));
  skipped_single = λ (deep : length dir < depth_limit) skipped text s. absurd (omega (arith, h, deep));
  skipped_array = λ (deep : length dir < depth_limit) skipped n a. absurd (omega (arith, h, deep));
}

neither : (a b : Bool) → a ≡ true → b ≡ true → (a && b) ≡ false → ⊥
neither true true h k l = absurd (cc)
neither true false h k l = absurd (cc)
neither false b h k l = absurd (cc)

-- a key of one of the other types
pub other_type : (links : Bool) (dir : List (List ℕ)) (type : Tid) (rest : List ℕ) → is_kept type ≡ false → is_skipped links type ≡ false → (links && is_link_type type) ≡ false → GoesOnNowhere links dir type rest
other_type links dir type rest h k l = record {
  single = λ deep (kept : is_kept type ≡ true) text size item s i. (let e : true ≡ false = sym kept ∙ h in absurd (cc));
  array = λ deep (kept : is_kept type ≡ true) n a. (let e : true ≡ false = sym kept ∙ h in absurd (cc));
  link = λ deep (kept : links ≡ true) (is : is_link_type type ≡ true) text size link s a. neither links (is_link_type type) kept is l;
  skipped_single = λ deep (skipped : is_skipped links type ≡ true) text s. (let e : true ≡ false = sym skipped ∙ k in absurd (cc));
  skipped_array = λ deep (skipped : is_skipped links type ≡ true) n a. (let e : true ≡ false = sym skipped ∙ k in absurd (cc));
}

-- links are no values of the other types
pub kept_is_no_link : (type : Tid) → is_kept type ≡ true → is_link_type type ≡ true → ⊥
kept_is_no_link tid.Link h k = absurd (cc)
kept_is_no_link _ h k = absurd (cc)

-- no type is both
pub kept_is_not_skipped : (links : Bool) (type : Tid) → is_kept type ≡ true → is_skipped links type ≡ true → ⊥
kept_is_not_skipped links tid.UInt8 h k = absurd (cc)
kept_is_not_skipped links tid.Int8 h k = absurd (cc)
kept_is_not_skipped links tid.Char h k = absurd (cc)
kept_is_not_skipped links tid.UInt16 h k = absurd (cc)
kept_is_not_skipped links tid.Int16 h k = absurd (cc)
kept_is_not_skipped links tid.UInt32 h k = absurd (cc)
kept_is_not_skipped links tid.Int32 h k = absurd (cc)
kept_is_not_skipped links tid.Bool h k = absurd (cc)
kept_is_not_skipped links tid.Float h k = absurd (cc)
kept_is_not_skipped links tid.Double h k = absurd (cc)
kept_is_not_skipped links tid.BitField h k = absurd (cc)
kept_is_not_skipped links tid.Text h k = absurd (cc)
kept_is_not_skipped links tid.Array h k = absurd (cc)
kept_is_not_skipped links tid.Struct h k = absurd (cc)
kept_is_not_skipped links tid.Key h k = absurd (cc)
kept_is_not_skipped links tid.Link h k = absurd (cc)
kept_is_not_skipped links tid.Int64 h k = absurd (cc)
kept_is_not_skipped links tid.UInt64 h k = absurd (cc)
