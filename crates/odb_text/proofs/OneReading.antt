-- At most one list of steps stands in the grammar with some lines.
use Rattle.std.proofs.Common.{◌≡◌, ℕ, ◌+◌, ◌==◌, Bool, true, false, cond, List, [], ◌∷◌, ◌++◌, length, reverse, Result, Ok, refl, sym, ap, ◌∙◌, subst, arith, inl, inr, ⊎_elim}
use Rattle.std.specs.List.{AllByRecursion}
use Rattle.std.specs.Str.Parse.{digits_value}
use Rattle.std.proofs.lemmas.List.{reverse-append}
use Rattle.std.proofs.lemmas.Bool.Decides.{nat_tests}
use Rattle.odb_value.specs.declared.path_refusals.PathRefusal.{PathRefusal}
use Rattle.odb_value.specs.ItemTexts.{item_read}
use Rattle.daq_types.specs.declared.types.Tid.{Tid}
use Rattle.daq_types.specs.declared.types.Tid.TheVariants as tid
use Rattle.daq_types.specs.Names.{IsName, breaks_name}
use Rattle.daq_text.specs.Numbers.{behind, is_blank}
use Rattle.odb_value.specs.PathText.{path_reply}
use Rattle.odb_value.specs.declared.items.Item.{Item}
use Rattle.odb_value.specs.declared.items.Item.TheVariants.{Text}
use Rattle.odb_value.specs.Items.{is_kept}
use Rattle.odb_value.specs.LinkValues.{is_link_type}
use Rattle.odb_value.specs.Values.{HeldValue}
use Rattle.odb_text.specs.LineForms.{AreBlanks, IsComment, IsPassed, IsDirLine, IsKeyLine, IsSingle, IsArray, without_blanks, behind_blank}
use Rattle.odb_text.specs.ItemLines.{is_string, IsFrontNumber, IsItemLine, IsItemAlone, IsAloneText}
use Rattle.odb_text.proofs.Splitting.{digits_no, bracketed_once, same_parts}
use Rattle.odb_text.proofs.KeyLines.{single_once}
use Rattle.odb_text.specs.declared.acts.Act.{Act}
use Rattle.odb_text.specs.declared.acts.Act.TheVariants.{Make, Write, Skip}
use Rattle.odb_text.specs.TextSteps.{TextStep, dir_after}
use Rattle.odb_text.specs.Grammar.{SizedItem, AreItemLines, held_with, IsSingleKey, IsArrayHead, IsKeptKey, IsLinkKey, held_link, IsWrittenKey, is_skipped, IsSkippedHead, IsSkippedKey, BeginsBracketed, SpellsAct, ArePassed, SpellsSteps}
use Rattle.odb_text.proofs.Loads.{same_length}
use Rattle.odb_text.proofs.Beginnings.{key_once, not_both, kept_is_not_skipped, kept_is_no_link}

-- items

front_once : (b : Bool) (index : ℕ) (digits : List ℕ) (size other : ℕ) → IsFrontNumber b index digits size → IsFrontNumber b index digits other → size ≡ other
front_once true index digits size other h k = h ∙ sym k
front_once false index digits size other h k = h.1 ∙ sym k.1

same_ok : (x y : Item) (text : List ℕ) (type : Tid) → item_read type text ≡ Ok x → item_read type text ≡ Ok y → x ≡ y
same_ok x y text type h k = (let e : Ok x ≡ Ok y = sym h ∙ k in cc)

pub item_once : (type : Tid) (index : ℕ) (line : List ℕ) (x y : SizedItem) → IsItemLine type index line x.size x.item → IsItemLine type index line y.size y.item → x ≡ y
item_once type index line x y h k =
    let same = bracketed_once line h.digits h.rest k.digits k.rest h.bracketed.spelled (digits_no h.digits h.bracketed.numeral.1) k.bracketed in
    let size : x.size ≡ y.size = front_once (is_string type) index k.digits x.size y.size (subst (λ (d : List ℕ). IsFrontNumber (is_string type) index d x.size) same.0 h.number) k.number in
    let item : x.item ≡ y.item = same_ok x.item y.item (behind_blank k.rest) type (ap (λ (r : List ℕ). item_read type (behind_blank r)) (sym same.1) ∙ h.spells) k.spells in
    ap (λ (n : ℕ). record { size = n; item = x.item }) size ∙ ap (λ (i : Item). record { size = y.size; item = i }) item

pub alone_once : (b : Bool) (type : Tid) (text : List ℕ) (x y : SizedItem) → IsAloneText b type text x.size x.item → IsAloneText b type text y.size y.item → x ≡ y
alone_once true type text x y h k = item_once type 0 text x y h k
alone_once false type text x y h k =
    ap (λ (n : ℕ). record { size = n; item = x.item }) (let e : x.size ≡ y.size = h.1 ∙ sym k.1 in e)
    ∙ ap (λ (i : Item). record { size = y.size; item = i }) (same_ok x.item y.item text type h.0 k.0)

pub array_once : (rest : List ℕ) (n m : ℕ) → IsArray rest n → IsArray rest m → n ≡ m
array_once rest n m h k =
    let same = bracketed_once (behind is_blank rest) h.digits h.more k.digits k.more h.bracketed.spelled (digits_no h.digits h.bracketed.numeral.1) k.bracketed in
    h.count ∙ ap (digits_value 10) same.0 ∙ sym k.count

-- lists

pub record SameParts {X : Type 0} (a b x y : List X) : Type 0 where
  pub front : a ≡ b
  pub back : x ≡ y

same_front : {X : Type 0} (a b x y : List X) → length a ≡ length b → a ++ x ≡ b ++ y → SameParts a b x y
same_front [] [] x y n e = record { front = refl; back = e }
same_front [] (c ∷ b) x y n e = absurd (omega (arith, n))
same_front (c ∷ a) [] x y n e = absurd (omega (arith, n))
same_front (c ∷ a) (d ∷ b) x y n e =
    let rest = same_front a b x y (omega (arith, n)) (let t : a ++ x ≡ b ++ y = cc in t) in
    record { front = ap (λ (h : _). h ∷ a) (let t : c ≡ d = cc in t) ∙ ap (λ (l : List _). d ∷ l) rest.front; back = rest.back }

items_once : (type : Tid) (index : ℕ) (own : List (List ℕ)) (xs ys : List SizedItem) → AreItemLines type index own xs → AreItemLines type index own ys → xs ≡ ys
items_once type index [] [] [] h k = refl
items_once type index [] [] (y ∷ ys) h k = absurd k
items_once type index [] (x ∷ xs) ys h k = absurd h
items_once type index (l ∷ ls) [] ys h k = absurd h
items_once type index (l ∷ ls) (x ∷ xs) [] h k = absurd k
items_once type index (l ∷ ls) (x ∷ xs) (y ∷ ys) h k =
    ap (λ (z : SizedItem). z ∷ xs) (item_once type index l x y h.0 k.0) ∙ ap (λ (zs : List SizedItem). y ∷ zs) (items_once type (index + 1) ls xs ys h.1 k.1)

-- the first byte of a name

record EndsWith (b : ℕ) (text : List ℕ) : Type 0 where
  earlier : List ℕ
  is : text ≡ earlier ++ b ∷ []

behind_end : (b : ℕ) (ys : List ℕ) → is_blank b ≡ false → EndsWith b (behind is_blank (ys ++ b ∷ []))
behind_end b [] h = record { earlier = []; is = ap (λ (t : Bool). cond t [] (b ∷ [])) h }
behind_end b (y ∷ ys) h = cases (is_blank y) (behind_end b ys h)
  where
    cases : (t : Bool) → EndsWith b (behind is_blank (ys ++ b ∷ [])) → EndsWith b (cond t (behind is_blank (ys ++ b ∷ [])) (y ∷ (ys ++ b ∷ [])))
    cases true e = e
    cases false e = record { earlier = y ∷ ys; is = refl }

record BeginsWith (b : ℕ) (text : List ℕ) : Type 0 where
  later : List ℕ
  is : text ≡ b ∷ later

begins_so : (b : ℕ) (bs : List ℕ) → is_blank b ≡ false → BeginsWith b (without_blanks (b ∷ bs))
begins_so b bs h =
    let e = behind_end b (reverse bs) h in
    let r : behind is_blank (reverse (b ∷ bs)) ≡ e.earlier ++ b ∷ [] = ap (behind is_blank) (reverse-append (b ∷ []) bs) ∙ e.is in
    record {
      later = reverse e.earlier;
      is = ap (λ (l : List ℕ). behind is_blank (reverse l)) r ∙ ap (behind is_blank) (reverse-append e.earlier (b ∷ [])) ∙ ap (λ (t : Bool). cond t (behind is_blank (reverse e.earlier)) (b ∷ reverse e.earlier)) h;
    }

first_breaks : (name : List ℕ) (b : ℕ) (more : List ℕ) → name ≡ b ∷ more → IsName name → ((size : ℕ) → breaks_name size 0 b ≡ true) → ⊥
first_breaks name b more e h k =
    let n : IsName (b ∷ more) = subst IsName e h in
    let f : breaks_name (length (b ∷ more)) 0 b ≡ false = n.bytes 0 (omega arith) in
    (let w : true ≡ false = sym (k (length (b ∷ more))) ∙ f in absurd (cc))

-- a line of a key begins with no bracket and no semicolon, and does not consist of blanks
key_begins : (line name : List ℕ) (type : Tid) (rest : List ℕ) (b : ℕ) (more : List ℕ) → IsKeyLine line name type rest → line ≡ b ∷ more → is_blank b ≡ false → (b == 61) ≡ false
    → ((size : ℕ) → breaks_name size 0 b ≡ true) → ⊥
key_begins line name type rest b more k e blank sign breaks = cases k.before refl
  where
    cases : (before : List ℕ) → k.before ≡ before → ⊥
    cases [] d =
        let f : 61 ∷ k.after ≡ b ∷ more = sym (k.spelled ∙ ap (λ (l : List ℕ). l ++ 61 ∷ k.after) d) ∙ e in
        let g : ◌≡◌ {A = ℕ} 61 b = cc in
        absurd (grind (arith, nat_tests, g, sign))
    cases (c ∷ cs) d =
        let f : c ∷ (cs ++ 61 ∷ k.after) ≡ b ∷ more = sym (k.spelled ∙ ap (λ (l : List ℕ). l ++ 61 ∷ k.after) d) ∙ e in
        let g : c ≡ b = cc in
        let begins = begins_so b cs blank in
        first_breaks name b begins.later (k.trimmed ∙ ap without_blanks d ∙ ap (λ (x : ℕ). without_blanks (x ∷ cs)) g ∙ begins.is) k.is_name breaks

blanks_have_no_sign : (a x : List ℕ) → AreBlanks (a ++ 61 ∷ x) → ⊥
blanks_have_no_sign [] x h = absurd (let e : false ≡ true = h.0 in cc)
blanks_have_no_sign (b ∷ a) x h = blanks_have_no_sign a x h.1

pub key_not_passed : (line name : List ℕ) (type : Tid) (rest : List ℕ) → IsKeyLine line name type rest → IsPassed line → ⊥
key_not_passed line name type rest k h = ⊎_elim (λ (bs : AreBlanks line). blanks_have_no_sign k.before k.after (subst AreBlanks k.spelled bs)) (comment line refl) h
  where
    comment : (l : List ℕ) → line ≡ l → IsComment line → ⊥
    comment [] e c = subst IsComment e c
    comment (b ∷ bs) e c =
        let first : b ≡ 59 = subst IsComment e c in
        key_begins line name type rest 59 bs k (e ∙ ap (λ (x : ℕ). x ∷ bs) first) refl refl (λ size. refl)

pub dir_not_key : (line : List ℕ) (p : List (List ℕ)) (name : List ℕ) (type : Tid) (rest : List ℕ) → IsDirLine line p → IsKeyLine line name type rest → ⊥
dir_not_key line p name type rest d k = key_begins line name type rest 91 (d.text ++ 93 ∷ d.blanks) k d.spelled refl refl (λ size. refl)

dir_not_passed : (line : List ℕ) (p : List (List ℕ)) → IsDirLine line p → IsPassed line → ⊥
dir_not_passed line p d h = ⊎_elim (λ (bs : AreBlanks line). (let e : false ≡ true = (subst AreBlanks d.spelled bs).0 in absurd (cc))) (λ (c : IsComment line). (let e : ◌≡◌ {A = ℕ} 91 59 = subst IsComment d.spelled c in absurd (omega (arith, e)))) h

dir_once : (line : List ℕ) (p q : List (List ℕ)) → IsDirLine line p → IsDirLine line q → p ≡ q
dir_once line p q h k =
    let same = same_parts line h.text h.blanks k.text k.blanks h.spelled h.inside k.spelled k.inside in
    (let e : ◌≡◌ {A = Result (List (List ℕ)) PathRefusal} (Ok p) (Ok q) = sym h.path ∙ ap path_reply same.0 ∙ k.path in cc)

-- what one step's lines are

pub record SameBlock (own other rest left : List (List ℕ)) (act that : Act) : Type 0 where
  pub own_is : own ≡ other
  pub rest_is : rest ≡ left
  pub act_is : act ≡ that

pub record HeadOf (own : List (List ℕ)) : Type 0 where
  pub head : List ℕ
  pub more : List (List ℕ)
  pub is : own ≡ head ∷ more
  pub read : IsPassed head → ⊥

kept_head : (dir own : List (List ℕ)) (name : List ℕ) (type : Tid) (xs : List SizedItem) → IsKeptKey dir own name type xs → HeadOf own
kept_head dir [] name type xs h = absurd h
kept_head dir (l ∷ ls) name type xs h =
    record {
      head = l;
      more = ls;
      is = refl;
      read = ⊎_elim (λ (s : (x : SizedItem) × IsSingleKey dir l name type x × (ls ≡ []) × (xs ≡ x ∷ [])). key_not_passed l name type s.1.rest s.1.key.key)
          (λ (a : (n : ℕ) × IsArrayHead dir l name type n × (length xs ≡ n) × AreItemLines type 0 ls xs). key_not_passed l name type a.1.rest a.1.key.key) h;
    }

skipped_head : (links : Bool) (dir own : List (List ℕ)) (items : ℕ) → IsSkippedKey links dir own items → HeadOf own
skipped_head links dir [] items h = absurd h
skipped_head links dir (l ∷ ls) items h =
    record {
      head = l;
      more = ls;
      is = refl;
      read = ⊎_elim (λ (s : (rest : List ℕ) × (text : List ℕ) × IsSkippedHead links dir l rest × IsSingle rest text × (ls ≡ []) × (items ≡ 0)). key_not_passed l s.2.name s.2.type s.0 s.2.key.key)
          (λ (a : (rest : List ℕ) × IsSkippedHead links dir l rest × IsArray rest items × (length ls ≡ items) × AllByRecursion BeginsBracketed ls). key_not_passed l a.1.name a.1.type a.0 a.1.key.key) h;
    }

link_head : (dir own : List (List ℕ)) (line name : List ℕ) (size : ℕ) (link : List ℕ) → own ≡ line ∷ [] → IsLinkKey dir line name size link → HeadOf own
link_head dir own line name size link e h = record { head = line; more = []; is = e; read = key_not_passed line name tid.Link h.rest h.key.key }

written_head : (links : Bool) (dir own : List (List ℕ)) (name : List ℕ) (v : HeldValue) → IsWrittenKey links dir own name v → HeadOf own
written_head links dir own name v h = elim h [ inl k ↦ kept_head dir own name k.0 k.1 k.2 | inr l ↦ link_head dir own l.0 name l.1 l.2 l.4 l.5 ]

pub head_of : (links : Bool) (dir own : List (List ℕ)) (act : Act) → SpellsAct links dir own act → HeadOf own
head_of links dir own (Make p) h = record { head = h.0; more = []; is = h.1; read = dir_not_passed h.0 p h.2 }
head_of links dir own (Write p v) h = written_head links dir own h.0 v h.1
head_of links dir own (Skip items) h = skipped_head links dir own items h

-- the lines of a key

pub record SameKept (own other rest left : List (List ℕ)) (name that : List ℕ) (type kind : Tid) (xs ys : List SizedItem) : Type 0 where
  pub own_is : own ≡ other
  pub rest_is : rest ≡ left
  pub name_is : name ≡ that
  pub type_is : type ≡ kind
  pub xs_are : xs ≡ ys

single_both : (dir : List (List ℕ)) (l : List ℕ) (rest left : List (List ℕ)) (name that : List ℕ) (type kind : Tid) (x y : SizedItem) → IsSingleKey dir l name type x → IsSingleKey dir l that kind y
    → rest ≡ left → SameKept (l ∷ []) (l ∷ []) rest left name that type kind (x ∷ []) (y ∷ [])
single_both dir l rest left name that type kind x y h k e =
    let same = key_once l name that type kind h.rest k.rest h.key.key k.key.key in
    let text : h.text ≡ k.text = single_once k.rest h.text k.text (subst (λ (r : List ℕ). IsSingle r h.text) same.rest_is h.single) k.single in
    let item : IsItemAlone kind k.text x.size x.item = subst (λ (t : List ℕ). IsItemAlone kind t x.size x.item) text (subst (λ (t : Tid). IsItemAlone t h.text x.size x.item) same.type_is h.item) in
    record { own_is = refl; rest_is = e; name_is = same.name_is; type_is = same.type_is; xs_are = ap (λ (z : SizedItem). z ∷ []) (alone_once (is_string kind) kind (behind_blank k.text) x y item k.item) }

array_both : (dir : List (List ℕ)) (l : List ℕ) (ls ms rest left : List (List ℕ)) (name that : List ℕ) (type kind : Tid) (n m : ℕ) (xs ys : List SizedItem) → IsArrayHead dir l name type n → IsArrayHead dir l that kind m
    → length xs ≡ n → length ys ≡ m → AreItemLines type 0 ls xs → AreItemLines kind 0 ms ys → ls ++ rest ≡ ms ++ left → SameKept (l ∷ ls) (l ∷ ms) rest left name that type kind xs ys
array_both dir l ls ms rest left name that type kind n m xs ys h k hn kn hi ki e =
    let same = key_once l name that type kind h.rest k.rest h.key.key k.key.key in
    let count : n ≡ m = array_once k.rest n m (subst (λ (r : List ℕ). IsArray r n) same.rest_is h.array) k.array in
    let parts = same_front ls ms rest left (omega (arith, same_length type 0 ls xs hi, same_length kind 0 ms ys ki, hn, kn, count)) e in
    record {
      own_is = ap (λ (z : List (List ℕ)). l ∷ z) parts.front;
      rest_is = parts.back;
      name_is = same.name_is;
      type_is = same.type_is;
      xs_are = items_once kind 0 ms xs ys (subst (λ (z : List (List ℕ)). AreItemLines kind 0 z xs) parts.front (subst (λ (t : Tid). AreItemLines t 0 ls xs) same.type_is hi)) ki;
    }

pub no_both : (dir : List (List ℕ)) (l : List ℕ) (name that : List ℕ) (type kind : Tid) (x : SizedItem) (n : ℕ) → IsSingleKey dir l name type x → IsArrayHead dir l that kind n → ⊥
no_both dir l name that type kind x n h k =
    let same = key_once l name that type kind h.rest k.rest h.key.key k.key.key in
    not_both k.rest h.text n (subst (λ (r : List ℕ). IsSingle r h.text) same.rest_is h.single) k.array

kept_once : (dir : List (List ℕ)) (l : List ℕ) (ls ms rest left : List (List ℕ)) (name that : List ℕ) (type kind : Tid) (xs ys : List SizedItem) → IsKeptKey dir (l ∷ ls) name type xs
    → IsKeptKey dir (l ∷ ms) that kind ys → ls ++ rest ≡ ms ++ left → SameKept (l ∷ ls) (l ∷ ms) rest left name that type kind xs ys
kept_once dir l ls ms rest left name that type kind xs ys h k e =
    elim h [
      | inl s ↦ elim k [
        | inl t ↦ subst (λ (z : List SizedItem). SameKept (l ∷ ls) (l ∷ ms) rest left name that type kind z ys) (sym s.3)
            (subst (λ (z : List SizedItem). SameKept (l ∷ ls) (l ∷ ms) rest left name that type kind (s.0 ∷ []) z) (sym t.3)
            (subst (λ (z : List (List ℕ)). SameKept (l ∷ z) (l ∷ ms) rest left name that type kind (s.0 ∷ []) (t.0 ∷ [])) (sym s.2)
            (subst (λ (z : List (List ℕ)). SameKept (l ∷ []) (l ∷ z) rest left name that type kind (s.0 ∷ []) (t.0 ∷ [])) (sym t.2)
            (single_both dir l rest left name that type kind s.0 t.0 s.1 t.1
            (let d : rest ≡ left = sym (ap (λ (z : List (List ℕ)). z ++ rest) s.2) ∙ e ∙ ap (λ (z : List (List ℕ)). z ++ left) t.2 in d)))))
        | inr a ↦ absurd (no_both dir l name that type kind s.0 a.0 s.1 a.1)
      ]
      | inr a ↦ elim k [
        | inl t ↦ absurd (no_both dir l that name kind type t.0 a.0 t.1 a.1)
        | inr b ↦ array_both dir l ls ms rest left name that type kind a.0 b.0 xs ys a.1 b.1 a.2 b.2 a.3 b.3 e
      ]
    ]

pub kept_type : (dir : List (List ℕ)) (l : List ℕ) (ls : List (List ℕ)) (name : List ℕ) (type : Tid) (xs : List SizedItem) → IsKeptKey dir (l ∷ ls) name type xs → (rest : List ℕ) × IsKeyLine l name type rest × (is_kept type ≡ true)
kept_type dir l ls name type xs h = elim h [ inl s ↦ (s.1.rest, s.1.key.key, s.1.kept) | inr a ↦ (a.1.rest, a.1.key.key, a.1.kept) ]

pub one_line : (l line : List ℕ) (ls : List (List ℕ)) → l ∷ ls ≡ line ∷ [] → (l ≡ line) × (ls ≡ [])
one_line l line ls e = (cc, cc)

-- keys that are written

-- the head of a key that is written, whose type is not skipped
pub record WrittenHead (links : Bool) (line name : List ℕ) : Type 0 where
  pub type : Tid
  pub rest : List ℕ
  pub key : IsKeyLine line name type rest
  pub read : is_skipped links type ≡ true → ⊥

link_not_skipped : (links : Bool) → links ≡ true → is_skipped links tid.Link ≡ true → ⊥
link_not_skipped true h k = absurd (cc)
link_not_skipped false h k = absurd (cc)

pub written_key : (links : Bool) (dir : List (List ℕ)) (l : List ℕ) (ls : List (List ℕ)) (name : List ℕ) (v : HeldValue) → IsWrittenKey links dir (l ∷ ls) name v → WrittenHead links l name
written_key links dir l ls name v h =
    elim h [
      | inl k ↦
          (let t = kept_type dir l ls name k.0 k.1 k.2 in
          record { type = k.0; rest = t.0; key = t.1; read = kept_is_not_skipped links k.0 t.2 })
      | inr x ↦
          (let e = one_line l x.0 ls x.4 in
          record { type = tid.Link; rest = x.5.rest; key = subst (λ (z : List ℕ). IsKeyLine z name tid.Link x.5.rest) (sym e.0) x.5.key.key; read = link_not_skipped links x.3 })
    ]

-- a link is no key of another type
kept_or_link : (dir : List (List ℕ)) (l : List ℕ) (ls : List (List ℕ)) (name that : List ℕ) (type : Tid) (xs : List SizedItem) (size : ℕ) (link : List ℕ) → IsKeptKey dir (l ∷ ls) name type xs
    → IsLinkKey dir l that size link → ⊥
kept_or_link dir l ls name that type xs size link h k =
    let t = kept_type dir l ls name type xs h in
    let same = key_once l name that type tid.Link t.0 k.rest t.1 k.key.key in
    kept_is_no_link type t.2 (ap is_link_type same.type_is)

pub record SameWritten (own other rest left : List (List ℕ)) (name that : List ℕ) (v w : HeldValue) : Type 0 where
  pub own_is : own ≡ other
  pub rest_is : rest ≡ left
  pub name_is : name ≡ that
  pub value_is : v ≡ w

same_link : (size given : ℕ) (link text : List ℕ) → ◌≡◌ {A = SizedItem} (record { size = size; item = Text link }) (record { size = given; item = Text text }) → held_link size link ≡ held_link given text
same_link size given link text e =
    let n : size ≡ given = ap (λ (x : SizedItem). x.size) e in
    let i : Text link ≡ Text text = ap (λ (x : SizedItem). x.item) e in
    let t : link ≡ text = cc in
    ap (λ (x : ℕ). held_link x link) n ∙ ap (held_link given) t

links_once : (dir : List (List ℕ)) (l : List ℕ) (rest left : List (List ℕ)) (name that : List ℕ) (size given : ℕ) (link text : List ℕ) → IsLinkKey dir l name size link → IsLinkKey dir l that given text → rest ≡ left
    → SameWritten (l ∷ []) (l ∷ []) rest left name that (held_link size link) (held_link given text)
links_once dir l rest left name that size given link text h k e =
    let same = key_once l name that tid.Link tid.Link h.rest k.rest h.key.key k.key.key in
    let behind : h.text ≡ k.text = single_once k.rest h.text k.text (subst (λ (r : List ℕ). IsSingle r h.text) same.rest_is h.single) k.single in
    let x : SizedItem = record { size = size; item = Text link } in
    let y : SizedItem = record { size = given; item = Text text } in
    let first : IsItemAlone tid.Text k.text size (Text link) = subst (λ (t : List ℕ). IsItemAlone tid.Text t size (Text link)) behind h.alone.item in
    let item : x ≡ y = alone_once true tid.Text (behind_blank k.text) x y first k.alone.item in
    record { own_is = refl; rest_is = e; name_is = same.name_is; value_is = same_link size given link text item }

written_once : (links : Bool) (dir : List (List ℕ)) (l : List ℕ) (ls ms rest left : List (List ℕ)) (name that : List ℕ) (v w : HeldValue) → IsWrittenKey links dir (l ∷ ls) name v → IsWrittenKey links dir (l ∷ ms) that w
    → ls ++ rest ≡ ms ++ left → SameWritten (l ∷ ls) (l ∷ ms) rest left name that v w
written_once links dir l ls ms rest left name that v w h k e =
    elim h [
      | inl a ↦ elim k [
        | inl b ↦
            (let same = kept_once dir l ls ms rest left name that a.0 b.0 a.1 b.1 a.2 b.2 e in
            record {
              own_is = same.own_is;
              rest_is = same.rest_is;
              name_is = same.name_is;
              value_is = a.3 ∙ ap (λ (t : Tid). held_with t a.1) same.type_is ∙ ap (held_with b.0) same.xs_are ∙ sym b.3;
            })
        | inr y ↦
            (let f = one_line l y.0 ms y.4 in
            absurd (kept_or_link dir l ls name that a.0 a.1 y.1 y.2 a.2 (subst (λ (z : List ℕ). IsLinkKey dir z that y.1 y.2) (sym f.0) y.5)))
      ]
      | inr x ↦
          (let d = one_line l x.0 ls x.4 in
          let first : IsLinkKey dir l name x.1 x.2 = subst (λ (z : List ℕ). IsLinkKey dir z name x.1 x.2) (sym d.0) x.5 in
          elim k [
            | inl b ↦ absurd (kept_or_link dir l ms that name b.0 b.1 x.1 x.2 b.2 first)
            | inr y ↦
                (let f = one_line l y.0 ms y.4 in
                let second : IsLinkKey dir l that y.1 y.2 = subst (λ (z : List ℕ). IsLinkKey dir z that y.1 y.2) (sym f.0) y.5 in
                let behind : rest ≡ left = sym (ap (λ (z : List (List ℕ)). z ++ rest) d.1) ∙ e ∙ ap (λ (z : List (List ℕ)). z ++ left) f.1 in
                let same = links_once dir l rest left name that x.1 y.1 x.2 y.2 first second behind in
                record {
                  own_is = ap (λ (z : List (List ℕ)). l ∷ z) (d.1 ∙ sym f.1);
                  rest_is = behind;
                  name_is = same.name_is;
                  value_is = x.6 ∙ same.value_is ∙ sym y.6;
                })
          ])
    ]

-- keys that are skipped

pub record SameSkipped (own other rest left : List (List ℕ)) (items count : ℕ) : Type 0 where
  pub own_is : own ≡ other
  pub rest_is : rest ≡ left
  pub items_are : items ≡ count

pub skipped_same : (links : Bool) (dir : List (List ℕ)) (l rest more : List ℕ) → IsSkippedHead links dir l rest → IsSkippedHead links dir l more → rest ≡ more
skipped_same links dir l rest more h k = (key_once l h.name k.name h.type k.type rest more h.key.key k.key.key).rest_is

skipped_once : (links : Bool) (dir : List (List ℕ)) (l : List ℕ) (ls ms rest left : List (List ℕ)) (items count : ℕ) → IsSkippedKey links dir (l ∷ ls) items → IsSkippedKey links dir (l ∷ ms) count → ls ++ rest ≡ ms ++ left
    → SameSkipped (l ∷ ls) (l ∷ ms) rest left items count
skipped_once links dir l ls ms rest left items count h k e =
    elim h [
      | inl s ↦ elim k [
        | inl t ↦ record {
          own_is = ap (λ (z : List (List ℕ)). l ∷ z) (s.4 ∙ sym t.4);
          rest_is = sym (ap (λ (z : List (List ℕ)). z ++ rest) s.4) ∙ e ∙ ap (λ (z : List (List ℕ)). z ++ left) t.4;
          items_are = s.5 ∙ sym t.5;
        }
        | inr b ↦ absurd (not_both b.0 s.1 count (subst (λ (r : List ℕ). IsSingle r s.1) (skipped_same links dir l s.0 b.0 s.2 b.1) s.3) b.2)
      ]
      | inr a ↦ elim k [
        | inl t ↦ absurd (not_both a.0 t.1 items (subst (λ (r : List ℕ). IsSingle r t.1) (skipped_same links dir l t.0 a.0 t.2 a.1) t.3) a.2)
        | inr b ↦
            (let n : items ≡ count = array_once b.0 items count (subst (λ (r : List ℕ). IsArray r items) (skipped_same links dir l a.0 b.0 a.1 b.1) a.2) b.2 in
            let parts = same_front ls ms rest left (omega (arith, a.3, b.3, n)) e in
            record { own_is = ap (λ (z : List (List ℕ)). l ∷ z) parts.front; rest_is = parts.back; items_are = n })
      ]
    ]

-- the types of the heads

pub skipped_type : (links : Bool) (dir : List (List ℕ)) (l : List ℕ) (ls : List (List ℕ)) (items : ℕ) → IsSkippedKey links dir (l ∷ ls) items → (rest : List ℕ) × IsSkippedHead links dir l rest
skipped_type links dir l ls items h = elim h [ inl s ↦ (s.0, s.2) | inr a ↦ (a.0, a.1) ]

written_or_skipped : (links : Bool) (dir : List (List ℕ)) (l : List ℕ) (ls ms : List (List ℕ)) (name : List ℕ) (v : HeldValue) (items : ℕ) → IsWrittenKey links dir (l ∷ ls) name v → IsSkippedKey links dir (l ∷ ms) items → ⊥
written_or_skipped links dir l ls ms name v items h k =
    let a = written_key links dir l ls name v h in
    let b = skipped_type links dir l ms items k in
    let same = key_once l name b.1.name a.type b.1.type a.rest b.0 a.key b.1.key.key in
    a.read (subst (λ (t : Tid). is_skipped links t ≡ true) (sym same.type_is) b.1.skipped)

dir_or_written : (links : Bool) (dir : List (List ℕ)) (l : List ℕ) (ms : List (List ℕ)) (p : List (List ℕ)) (name : List ℕ) (v : HeldValue) → IsDirLine l p → IsWrittenKey links dir (l ∷ ms) name v → ⊥
dir_or_written links dir l ms p name v h k = let a = written_key links dir l ms name v k in dir_not_key l p name a.type a.rest h a.key

dir_or_skipped : (links : Bool) (dir : List (List ℕ)) (l : List ℕ) (ms : List (List ℕ)) (p : List (List ℕ)) (items : ℕ) → IsDirLine l p → IsSkippedKey links dir (l ∷ ms) items → ⊥
dir_or_skipped links dir l ms p items h k = let b = skipped_type links dir l ms items k in dir_not_key l p b.1.name b.1.type b.0 h b.1.key.key

pub acts_once : (links : Bool) (dir : List (List ℕ)) (l : List ℕ) (ls ms rest left : List (List ℕ)) (act that : Act) → SpellsAct links dir (l ∷ ls) act → SpellsAct links dir (l ∷ ms) that → ls ++ rest ≡ ms ++ left
    → SameBlock (l ∷ ls) (l ∷ ms) rest left act that
acts_once links dir l ls ms rest left (Make p) (Make q) h k e =
    let a = one_line l h.0 ls h.1 in
    let b = one_line l k.0 ms k.1 in
    record {
      own_is = ap (λ (z : List (List ℕ)). l ∷ z) (a.1 ∙ sym b.1);
      rest_is = sym (ap (λ (z : List (List ℕ)). z ++ rest) a.1) ∙ e ∙ ap (λ (z : List (List ℕ)). z ++ left) b.1;
      act_is = ap (λ (z : List (List ℕ)). Make z) (dir_once l p q (subst (λ (z : List ℕ). IsDirLine z p) (sym a.0) h.2) (subst (λ (z : List ℕ). IsDirLine z q) (sym b.0) k.2));
    }
acts_once links dir l ls ms rest left (Make p) (Write q w) h k e =
    let a = one_line l h.0 ls h.1 in absurd (dir_or_written links dir l ms p k.0 w (subst (λ (z : List ℕ). IsDirLine z p) (sym a.0) h.2) k.1)
acts_once links dir l ls ms rest left (Make p) (Skip m) h k e =
    let a = one_line l h.0 ls h.1 in absurd (dir_or_skipped links dir l ms p m (subst (λ (z : List ℕ). IsDirLine z p) (sym a.0) h.2) k)
acts_once links dir l ls ms rest left (Write p v) (Make q) h k e =
    let b = one_line l k.0 ms k.1 in absurd (dir_or_written links dir l ls q h.0 v (subst (λ (z : List ℕ). IsDirLine z q) (sym b.0) k.2) h.1)
acts_once links dir l ls ms rest left (Write p v) (Write q w) h k e =
    let same = written_once links dir l ls ms rest left h.0 k.0 v w h.1 k.1 e in
    let path : p ≡ q = h.2 ∙ ap (λ (n : List ℕ). dir ++ n ∷ []) same.name_is ∙ sym k.2 in
    record { own_is = same.own_is; rest_is = same.rest_is; act_is = ap (λ (z : List (List ℕ)). Write z v) path ∙ ap (λ (z : HeldValue). Write q z) same.value_is }
acts_once links dir l ls ms rest left (Write p v) (Skip m) h k e = absurd (written_or_skipped links dir l ls ms h.0 v m h.1 k)
acts_once links dir l ls ms rest left (Skip n) (Make q) h k e =
    let b = one_line l k.0 ms k.1 in absurd (dir_or_skipped links dir l ls q n (subst (λ (z : List ℕ). IsDirLine z q) (sym b.0) k.2) h)
acts_once links dir l ls ms rest left (Skip n) (Write q w) h k e = absurd (written_or_skipped links dir l ms ls k.0 w n k.1 h)
acts_once links dir l ls ms rest left (Skip n) (Skip m) h k e =
    let same = skipped_once links dir l ls ms rest left n m h k e in record { own_is = same.own_is; rest_is = same.rest_is; act_is = ap (λ (z : ℕ). Skip z) same.items_are }

pub same_cons : (l m : List ℕ) (xs ys : List (List ℕ)) → l ∷ xs ≡ m ∷ ys → (l ≡ m) × (xs ≡ ys)
same_cons l m xs ys e = (cc, cc)

heads_once : (links : Bool) (dir own other rest left : List (List ℕ)) (act that : Act) → SpellsAct links dir own act → SpellsAct links dir other that → own ++ rest ≡ other ++ left → HeadOf own → HeadOf other → SameBlock own other rest left act that
heads_once links dir [] other rest left act that h k e a b = absurd (let d : [] ≡ a.head ∷ a.more = a.is in cc)
heads_once links dir (l ∷ ls) [] rest left act that h k e a b = absurd (let d : [] ≡ b.head ∷ b.more = b.is in cc)
heads_once links dir (l ∷ ls) (m ∷ ms) rest left act that h k e a b =
    let s = same_cons l m (ls ++ rest) (ms ++ left) e in
    subst (λ (z : List ℕ). SameBlock (l ∷ ls) (z ∷ ms) rest left act that) s.0
    (acts_once links dir l ls ms rest left act that h (subst (λ (z : List ℕ). SpellsAct links dir (z ∷ ms) that) (sym s.0) k) s.1)

-- lines that are passed over, and the lines of a step behind them

pub record SameFirst (passed others own other rest left : List (List ℕ)) (act that : Act) : Type 0 where
  pub passed_are : passed ≡ others
  pub block : SameBlock own other rest left act that

pub not_passed_head : (line : List ℕ) (own rest others : List (List ℕ)) → HeadOf own → own ++ rest ≡ line ∷ others → IsPassed line → ⊥
not_passed_head line own rest others a e h =
    let s = same_cons a.head line (a.more ++ rest) others (sym (ap (λ (z : List (List ℕ)). z ++ rest) a.is) ∙ e) in a.read (subst IsPassed (sym s.0) h)

pub first_once : (links : Bool) (dir passed others own other rest left : List (List ℕ)) (act that : Act) → ArePassed passed → ArePassed others → SpellsAct links dir own act → SpellsAct links dir other that
    → passed ++ (own ++ rest) ≡ others ++ (other ++ left) → SameFirst passed others own other rest left act that
first_once links dir [] [] own other rest left act that p q h k e = record { passed_are = refl; block = heads_once links dir own other rest left act that h k e (head_of links dir own act h) (head_of links dir other that k) }
first_once links dir [] (y ∷ ys) own other rest left act that p q h k e = absurd (not_passed_head y own rest (ys ++ (other ++ left)) (head_of links dir own act h) e q.0)
first_once links dir (x ∷ xs) [] own other rest left act that p q h k e = absurd (not_passed_head x other left (xs ++ (own ++ rest)) (head_of links dir other that k) (sym e) p.0)
first_once links dir (x ∷ xs) (y ∷ ys) own other rest left act that p q h k e =
    let s = same_cons x y (xs ++ (own ++ rest)) (ys ++ (other ++ left)) e in
    let r = first_once links dir xs ys own other rest left act that p.1 q.1 h k s.1 in
    record { passed_are = ap (λ (z : List ℕ). z ∷ xs) s.0 ∙ ap (λ (zs : List (List ℕ)). y ∷ zs) r.passed_are; block = r.block }

pub none_left : (links : Bool) (dir lines passed own rest : List (List ℕ)) (act : Act) → ArePassed lines → lines ≡ passed ++ (own ++ rest) → SpellsAct links dir own act → ⊥
none_left links dir [] [] own rest act h e k = (let a = head_of links dir own act k in let d : [] ≡ a.head ∷ (a.more ++ rest) = e ∙ ap (λ (z : List (List ℕ)). z ++ rest) a.is in absurd (cc))
none_left links dir [] (x ∷ xs) own rest act h e k = absurd (cc)
none_left links dir (l ∷ ls) [] own rest act h e k = not_passed_head l own rest ls (head_of links dir own act k) (sym e) h.0
none_left links dir (l ∷ ls) (x ∷ xs) own rest act h e k = none_left links dir ls xs own rest act h.1 (same_cons l x ls (xs ++ (own ++ rest)) e).1 k

pub one_reading : (links : Bool) (number : ℕ) (dir lines : List (List ℕ)) (steps others : List TextStep) → SpellsSteps links number dir lines steps → SpellsSteps links number dir lines others → steps ≡ others
one_reading links number dir lines [] [] h k = refl
one_reading links number dir lines [] (o ∷ os) h k = absurd (none_left links dir lines k.0 k.1 k.2 o.act h k.3 k.6)
one_reading links number dir lines (s ∷ ss) [] h k = absurd (none_left links dir lines h.0 h.1 h.2 s.act k h.3 h.6)
one_reading links number dir lines (s ∷ ss) (o ∷ os) h k =
    let f = first_once links dir h.0 k.0 h.1 k.1 h.2 k.2 s.act o.act h.4 k.4 h.6 k.6 (sym h.3 ∙ k.3) in
    let line : s.line ≡ o.line = h.5 ∙ ap (λ (z : List (List ℕ)). number + length z) f.passed_are ∙ sym k.5 in
    let step : s ≡ o = ap (λ (n : ℕ). record { line = n; act = s.act }) line ∙ ap (λ (a : Act). record { line = o.line; act = a }) f.block.act_is in
    let at : number + length h.0 + length h.1 ≡ number + length k.0 + length k.1 =
    ap (λ (z : List (List ℕ)). number + length z + length h.1) f.passed_are ∙ ap (λ (z : List (List ℕ)). number + length k.0 + length z) f.block.own_is in
    let first : SpellsSteps links (number + length k.0 + length k.1) (dir_after dir s.act) h.2 ss = subst (λ (n : ℕ). SpellsSteps links n (dir_after dir s.act) h.2 ss) at h.7 in
    let second : SpellsSteps links (number + length k.0 + length k.1) (dir_after dir o.act) h.2 ss = subst (λ (a : Act). SpellsSteps links (number + length k.0 + length k.1) (dir_after dir a) h.2 ss) f.block.act_is first in
    let third : SpellsSteps links (number + length k.0 + length k.1) (dir_after dir o.act) k.2 ss = subst (λ (z : List (List ℕ)). SpellsSteps links (number + length k.0 + length k.1) (dir_after dir o.act) z ss) f.block.rest_is second in
    ap (λ (z : TextStep). z ∷ ss) step ∙ ap (λ (zs : List TextStep). o ∷ zs) (one_reading links (number + length k.0 + length k.1) (dir_after dir o.act) k.2 ss os third k.7)
