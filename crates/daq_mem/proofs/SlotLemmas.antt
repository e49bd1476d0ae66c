-- Slots of files in memory, of which one is changed.
use Rattle.std.proofs.Common.{◌≡◌, ◌≢◌, ℕ, ◌+◌, ◌<◌, ◌≤◌, suc, zero, Bool, true, false, cond, nat_eq, List, [], ◌∷◌, ◌++◌, length, take, drop, set, get_or, Option, Some, None, All, refl, sym, ◌∙◌, ap, subst, arith}
use Rattle.std.specs.Prelude.{count_by, is_none, is_some, IsTrue, ◌↔◌, not, nat_lt}
use Rattle.std.proofs.lemmas.Bool.{le-ltb, lt-ltb}
use Rattle.std.proofs.lemmas.List.Elements.{All-set}
use Rattle.std.proofs.Math.Seq.{split_at}
use Rattle.std.proofs.lemmas.List.{set_split, take_all}
use Rattle.std.proofs.lemmas.List.Sums.{sum_by-set, sum_by-cons}
use Rattle.std.specs.Cmp.Lexicographic.{pointwise, same_text, other_text}
use Rattle.daq_io.specs.Seen.{Stored, stored_as, stored_open}
use Rattle.daq_io.specs.declared.folder.FileState.{FileState}
use Rattle.daq_io.specs.declared.folder.FileState.TheVariants.{Open}
use Rattle.daq_mem.specs.MemSeen.{has_name, file_in, stored_in, free_slots, named_count, IsFirstNamed, ChangesOnly, ChangesNothing}
use Rattle.daq_mem.specs.declared.slots.Slot.{Slot}

all_head : {X : Type 0} (P : X → Type 0) (x : X) (xs : List X) → All P (x ∷ xs) → P x
all_head P x xs h = h 0 x (omega arith)

all_tail : {X : Type 0} (P : X → Type 0) (x : X) (xs : List X) → All P (x ∷ xs) → All P xs
all_tail P x xs h = λ k d lt. h (suc k) d (omega arith)

-- a list, cut around one of its elements
pub cut_at : {X : Type 0} (xs : List X) (i : ℕ) (x : X) → i < length xs → x ≡ get_or xs i x → xs ≡ take i xs ++ x ∷ drop (suc i) xs
cut_at xs i x h is = split_at xs i x h ∙ ap (λ y. take i xs ++ y ∷ drop (suc i) xs) (sym is)

-- a slot that has one name has no other
pub other_name : (own : Option (List ℕ)) (name other : List ℕ) → has_name name own ≡ true → other ≢ name → has_name other own ≡ false
other_name None name other h ne = refl
other_name (Some own) name other h ne =
    elim (pointwise nat_eq own other) as (λ w. w ≡ pointwise nat_eq own other → w ≡ false) [ true ↦ λ e. absurd (ne (sym (same_text own other e) ∙ same_text own name (sym h))) | false ↦ λ e. refl ] refl

pub own_name : (name : List ℕ) → has_name name (Some name) ≡ true
own_name name = elim (pointwise nat_eq name name) as (λ w. w ≡ pointwise nat_eq name name → w ≡ true) [ true ↦ λ e. refl | false ↦ λ e. absurd (other_text name name e refl) ] refl

-- a slot that does not have the name is passed over
pub stored_in-skip : (front : List Slot) (slot : Slot) (back : List Slot) (name : List ℕ) → has_name name slot.name ≡ false → stored_in (front ++ slot ∷ back) name ≡ stored_in (front ++ back) name
stored_in-skip [] slot back name h = rw h refl
stored_in-skip (x ∷ front) slot back name h = ap (λ rest. cond (has_name name x.name) (Some (file_in x)) rest) (stored_in-skip front slot back name h)

-- the first slot that has the name
pub stored_in-front : (front : List Slot) (slot : Slot) (back : List Slot) (name : List ℕ) → All (λ s. has_name name s.name ≡ false) front → has_name name slot.name ≡ true → stored_in (front ++ slot ∷ back) name ≡ Some (file_in slot)
stored_in-front [] slot back name h named = rw named refl
stored_in-front (x ∷ front) slot back name h named = let first : has_name name x.name ≡ false = all_head (λ s. has_name name s.name ≡ false) x front h in
    rw first (stored_in-front front slot back name (all_tail (λ s. has_name name s.name ≡ false) x front h) named)

pub stored_in-none : (slots : List Slot) (name : List ℕ) → All (λ s. has_name name s.name ≡ false) slots → stored_in slots name ≡ None
stored_in-none [] name h = refl
stored_in-none (x ∷ slots) name h = let first : has_name name x.name ≡ false = all_head (λ s. has_name name s.name ≡ false) x slots h in
    rw first (stored_in-none slots name (all_tail (λ s. has_name name s.name ≡ false) x slots h))

-- where the name was not there, it is found in the slot that got it
pub stored_in-fresh : (slots : List Slot) (i : ℕ) (new : Slot) (name : List ℕ) → i < length slots → stored_in slots name ≡ None → has_name name new.name ≡ true → stored_in (set slots i new) name ≡ Some (file_in new)
stored_in-fresh [] i new name h none named = absurd (omega arith)
stored_in-fresh (x ∷ slots) zero new name h none named = rw named refl
stored_in-fresh (x ∷ slots) (suc i) new name h none named =
    elim (has_name name x.name) as (λ w. cond w (Some (file_in x)) (stored_in slots name) ≡ None → cond w (Some (file_in x)) (stored_in (set slots i new) name) ≡ Some (file_in new))
    [ true ↦ λ e. cc | false ↦ λ e. stored_in-fresh slots i new name (omega arith) e named ] none

-- a slot changed that has the name neither before nor after
pub stored_in-set : (slots : List Slot) (i : ℕ) (old new : Slot) (name : List ℕ) → i < length slots → old ≡ get_or slots i old → has_name name old.name ≡ false → has_name name new.name ≡ false → stored_in (set slots i new) name ≡ stored_in slots name
stored_in-set slots i old new name h is before after =
    ap (λ s. stored_in s name) (set_split slots i new h) ∙ (stored_in-skip (take i slots) new (drop (suc i) slots) name after
    ∙ (sym (stored_in-skip (take i slots) old (drop (suc i) slots) name before) ∙ ap (λ s. stored_in s name) (sym (cut_at slots i old h is))))

-- the slot of this name changed, or one that had no file
pub set_changes_only : (slots : List Slot) (i : ℕ) (old new : Slot) (name : List ℕ) → i < length slots → old ≡ get_or slots i old
    → ((other : List ℕ) → other ≢ name → has_name other old.name ≡ false) → ((other : List ℕ) → other ≢ name → has_name other new.name ≡ false) → ChangesOnly slots (set slots i new) name
set_changes_only slots i old new name h is before after = record { others = λ other ne. stored_in-set slots i old new other h is (before other ne) (after other ne) }

-- the file of this name, in the first slot that has it
pub named_file : (slots : List Slot) (name : List ℕ) (i : ℕ) (slot : Slot) → IsFirstNamed slots name i → slot ≡ get_or slots i slot → stored_in slots name ≡ Some (file_in slot)
named_file slots name i slot first is = ap (λ s. stored_in s name) (cut_at slots i slot first.inside is)
    ∙ stored_in-front (take i slots) slot (drop (suc i) slots) name first.before (ap (λ s. has_name name s.name) is ∙ first.named slot)

-- and after a change that keeps the name
pub named_file_set : (slots : List Slot) (name : List ℕ) (i : ℕ) (new : Slot) → IsFirstNamed slots name i → has_name name new.name ≡ true → stored_in (set slots i new) name ≡ Some (file_in new)
named_file_set slots name i new first named = ap (λ s. stored_in s name) (set_split slots i new first.inside) ∙ stored_in-front (take i slots) new (drop (suc i) slots) name first.before named

some_stored : {x y : Stored} → Some x ≡ Some y → x ≡ y
some_stored e = cc

-- bytes that are put into the file of this name
pub put_bytes : (slots : List Slot) (name : List ℕ) (i : ℕ) (old new : Slot) (bytes so_far : List ℕ) → IsFirstNamed slots name i → old ≡ get_or slots i old → new.name ≡ old.name → new.bytes.bytes ≡ old.bytes.bytes ++ bytes → new.state ≡ old.state
    → stored_in slots name ≡ Some (stored_open so_far) → stored_in (set slots i new) name ≡ Some (stored_open (so_far ++ bytes))
put_bytes slots name i old new bytes so_far first is name_is bytes_is state_is here =
    let was : file_in old ≡ stored_open so_far = some_stored (sym (named_file slots name i old first is) ∙ here) in
    let named : has_name name new.name ≡ true = ap (has_name name) name_is ∙ (ap (λ s. has_name name s.name) is ∙ first.named old) in
    named_file_set slots name i new first named ∙ ap (λ file. Some file)
    (let b : new.bytes.bytes ≡ so_far ++ bytes = bytes_is ∙ ap (λ file. file.bytes ++ bytes) was in
    let c : new.state ≡ Open = state_is ∙ ap (λ file. file.state) was in
    rw (b, c) refl)

-- the file of this name is left so
pub leave_file : (slots : List Slot) (name : List ℕ) (i : ℕ) (old new : Slot) (state : FileState) (so_far : List ℕ) → IsFirstNamed slots name i → old ≡ get_or slots i old → new.name ≡ old.name → new.bytes.bytes ≡ old.bytes.bytes → new.state ≡ state
    → stored_in slots name ≡ Some (stored_open so_far) → stored_in (set slots i new) name ≡ Some (stored_as state so_far)
leave_file slots name i old new state so_far first is name_is bytes_is state_is here =
    let was : file_in old ≡ stored_open so_far = some_stored (sym (named_file slots name i old first is) ∙ here) in
    let named : has_name name new.name ≡ true = ap (has_name name) name_is ∙ (ap (λ s. has_name name s.name) is ∙ first.named old) in
    named_file_set slots name i new first named ∙ ap (λ file. Some file)
    (let b : new.bytes.bytes ≡ so_far = bytes_is ∙ ap (λ file. file.bytes) was in rw (b, state_is) refl)

-- the slot of this name changed, and kept the name
pub named_changes_only : (slots : List Slot) (name : List ℕ) (i : ℕ) (old new : Slot) → IsFirstNamed slots name i → old ≡ get_or slots i old → new.name ≡ old.name → ChangesOnly slots (set slots i new) name
named_changes_only slots name i old new first is name_is =
    let named : has_name name old.name ≡ true = ap (λ s. has_name name s.name) is ∙ first.named old in
    set_changes_only slots i old new name first.inside is (λ other ne. other_name old.name name other named ne)
    (λ other ne. ap (has_name other) name_is ∙ other_name old.name name other named ne)

-- a file that was put into a slot that had none
pub file_put : (slots : List Slot) (i : ℕ) (old new : Slot) (name : List ℕ) → i < length slots → old ≡ get_or slots i old → old.name ≡ None → new.name ≡ Some name → ChangesOnly slots (set slots i new) name
file_put slots i old new name h is free name_is = set_changes_only slots i old new name h is (λ other ne. ap (has_name other) free)
    (λ other ne. ap (has_name other) name_is ∙ other_name (Some name) name other (own_name name) ne)

-- a slot that had no file and has none
pub no_file_put : (slots : List Slot) (i : ℕ) (old new : Slot) → i < length slots → old ≡ get_or slots i old → old.name ≡ None → new.name ≡ None → ChangesNothing slots (set slots i new)
no_file_put slots i old new h is free still = record { all = λ name. stored_in-set slots i old new name h is (ap (has_name name) free) (ap (has_name name) still) }

-- none of the slots has the name
pub none_named : (slots : List Slot) (name : List ℕ) (n : ℕ) → length slots ≤ n → All (λ s. has_name name s.name ≡ false) (take n slots) → stored_in slots name ≡ None
none_named slots name n h so_far = stored_in-none slots name (subst (All (λ s. has_name name s.name ≡ false)) (take_all n slots h) so_far)

pub ChangesNothing-ChangesOnly : {a b : List Slot} (name : List ℕ) → ChangesNothing a b → ChangesOnly a b name
ChangesNothing-ChangesOnly name p = record { others = λ other ne. p.all other }

-- slots without names hold no file
pub nothing_stored : (slots : List Slot) → All (λ s. s.name ≡ None) slots → (name : List ℕ) → stored_in slots name ≡ None
nothing_stored [] h name = refl
nothing_stored (x ∷ slots) h name = let first : x.name ≡ None = all_head (λ s. s.name ≡ None) x slots h in
    rw first (nothing_stored slots (all_tail (λ s. s.name ≡ None) x slots h) name)

-- Counts of slots

-- a slot changed that is counted as it was
pub set_count : (p : Slot → Bool) (slots : List Slot) (i : ℕ) (old new : Slot) → i < length slots → old ≡ get_or slots i old → p new ≡ p old → count_by p (set slots i new) ≡ count_by p slots
set_count p slots i old new h is same = omega (arith, sum_by-set (λ s. cond (p s) 1 0) slots i new old h, ap {B = ℕ} (λ s. cond (p s) 1 0) is, ap {B = ℕ} (λ b. cond b 1 0) same)

-- one that is counted now and was not
pub set_count_more : (p : Slot → Bool) (slots : List Slot) (i : ℕ) (old new : Slot) → i < length slots → old ≡ get_or slots i old → p old ≡ false → p new ≡ true → count_by p (set slots i new) ≡ count_by p slots + 1
set_count_more p slots i old new h is was now =
    omega (arith, sum_by-set (λ s. cond (p s) 1 0) slots i new old h, ap {B = ℕ} (λ s. cond (p s) 1 0) is, ap {B = ℕ} (λ b. cond b 1 0) was, ap {B = ℕ} (λ b. cond b 1 0) now)

-- and one that was and is not
pub set_count_less : (p : Slot → Bool) (slots : List Slot) (i : ℕ) (old new : Slot) → i < length slots → old ≡ get_or slots i old → p old ≡ true → p new ≡ false → count_by p (set slots i new) + 1 ≡ count_by p slots
set_count_less p slots i old new h is was now =
    omega (arith, sum_by-set (λ s. cond (p s) 1 0) slots i new old h, ap {B = ℕ} (λ s. cond (p s) 1 0) is, ap {B = ℕ} (λ b. cond b 1 0) was, ap {B = ℕ} (λ b. cond b 1 0) now)

count-cons : (p : Slot → Bool) (x : Slot) (slots : List Slot) → count_by p (x ∷ slots) ≡ cond (p x) 1 0 + count_by p slots
count-cons p x slots = sum_by-cons (λ s. cond (p s) 1 0) x slots

-- where a name has no file, no slot has it
pub none_counted : (slots : List Slot) (name : List ℕ) → stored_in slots name ≡ None → named_count name slots ≡ 0
none_counted [] name none = refl
none_counted (x ∷ slots) name none = count-cons (λ s. has_name name s.name) x slots
    ∙ elim (has_name name x.name) as (λ w. cond w (Some (file_in x)) (stored_in slots name) ≡ None → cond w 1 0 + named_count name slots ≡ 0)
    [ true ↦ λ e. cc | false ↦ λ e. omega (arith, none_counted slots name e) ] none

-- and the other way round
pub counted_none : (slots : List Slot) (name : List ℕ) → named_count name slots ≡ 0 → stored_in slots name ≡ None
counted_none [] name none = refl
counted_none (x ∷ slots) name none =
    elim (has_name name x.name) as (λ w. cond w 1 0 + named_count name slots ≡ 0 → cond w (Some (file_in x)) (stored_in slots name) ≡ None)
    [ true ↦ λ e. absurd (omega (arith, e)) | false ↦ λ e. counted_none slots name (omega (arith, e)) ] (sym (count-cons (λ s. has_name name s.name) x slots) ∙ none)

-- slots without names have no name twice
pub nothing_twice : (slots : List Slot) → All (λ s. s.name ≡ None) slots → (name : List ℕ) → named_count name slots ≤ 1
nothing_twice slots h name = omega (arith, none_counted slots name (nothing_stored slots h name))

-- no two slots have one name, after a slot kept its own
pub distinct_kept : (slots : List Slot) (i : ℕ) (old new : Slot) → i < length slots → old ≡ get_or slots i old → new.name ≡ old.name → ((name : List ℕ) → named_count name slots ≤ 1) → (name : List ℕ) → named_count name (set slots i new) ≤ 1
distinct_kept slots i old new h is same distinct name = omega (arith, set_count (λ s. has_name name s.name) slots i old new h is (ap (has_name name) same), distinct name)

-- after one has none any more
pub distinct_gone : (slots : List Slot) (i : ℕ) (old new : Slot) → i < length slots → old ≡ get_or slots i old → new.name ≡ None → ((name : List ℕ) → named_count name slots ≤ 1) → (name : List ℕ) → named_count name (set slots i new) ≤ 1
distinct_gone slots i old new h is gone distinct name =
    omega (arith, sum_by-set (λ s. cond (has_name name s.name) 1 0) slots i new old h, ap {B = ℕ} (λ n. cond (has_name name n) 1 0) gone, distinct name)

-- and after one got a name that none had
pub distinct_put : (slots : List Slot) (i : ℕ) (old new : Slot) (name : List ℕ) → i < length slots → old ≡ get_or slots i old → old.name ≡ None → new.name ≡ Some name → stored_in slots name ≡ None
    → ((other : List ℕ) → named_count other slots ≤ 1) → (other : List ℕ) → named_count other (set slots i new) ≤ 1
distinct_put slots i old new name h is free name_is none distinct other =
    elim (has_name other (Some name)) as (λ w. w ≡ has_name other (Some name) → named_count other (set slots i new) ≤ 1) [
      | true ↦ λ e. omega (
        arith,
        set_count_more (λ s. has_name other s.name) slots i old new h is (ap (has_name other) free) (ap (has_name other) name_is ∙ sym e),
        subst (λ n. named_count n slots ≡ 0) (same_text name other e) (none_counted slots name none),
      )
      | false ↦ λ e. omega (arith, set_count (λ s. has_name other s.name) slots i old new h is (ap (has_name other) name_is ∙ (sym e ∙ sym (ap (has_name other) free))), distinct other)
    ] refl

-- the one slot of a name has none any more, so there is no file of the name
pub gone_for_good : (slots : List Slot) (i : ℕ) (old new : Slot) (name : List ℕ) → i < length slots → old ≡ get_or slots i old → has_name name old.name ≡ true → new.name ≡ None → ((other : List ℕ) → named_count other slots ≤ 1)
    → stored_in (set slots i new) name ≡ None
gone_for_good slots i old new name h is named gone distinct =
    counted_none (set slots i new) name (omega (arith, set_count_less (λ s. has_name name s.name) slots i old new h is named (ap (has_name name) gone), distinct name))

-- the slot of a name, which has none any more
pub gone_changes_only : (slots : List Slot) (name : List ℕ) (i : ℕ) (old new : Slot) → IsFirstNamed slots name i → old ≡ get_or slots i old → new.name ≡ None → ChangesOnly slots (set slots i new) name
gone_changes_only slots name i old new first is gone =
    let named : has_name name old.name ≡ true = ap (λ s. has_name name s.name) is ∙ first.named old in
    set_changes_only slots i old new name first.inside is (λ other ne. other_name old.name name other named ne) (λ other ne. ap (has_name other) gone)

named_is_some : (name : List ℕ) (own : Option (List ℕ)) → has_name name own ≡ true → is_none own ≡ false
named_is_some name None h = sym h
named_is_some name (Some own) h = refl

-- it is counted among those without a file
pub gone_is_free : (slots : List Slot) (name : List ℕ) (i : ℕ) (old new : Slot) → IsFirstNamed slots name i → old ≡ get_or slots i old → new.name ≡ None
    → free_slots (set slots i new) ≡ free_slots slots + cond (is_some (stored_in slots name)) 1 0
gone_is_free slots name i old new first is gone =
    let named : has_name name old.name ≡ true = ap (λ s. has_name name s.name) is ∙ first.named old in
    rw (named_file slots name i old first is) (set_count_more (λ s. is_none s.name) slots i old new first.inside is (named_is_some name old.name named) (ap (λ n. is_none n) gone))

-- Rooms

pub sized_at : (slots : List Slot) (i room : ℕ) (old : Slot) → i < length slots → old ≡ get_or slots i old → All (λ s. s.bytes.room ≡ room) slots → old.bytes.room ≡ room
sized_at slots i room old h is all = ap (λ s. s.bytes.room) is ∙ all i old h

-- each slot has the same room, after one kept its own
pub sized_kept : (slots : List Slot) (i room : ℕ) (old new : Slot) → i < length slots → old ≡ get_or slots i old → new.bytes.room ≡ old.bytes.room → All (λ s. s.bytes.room ≡ room) slots → All (λ s. s.bytes.room ≡ room) (set slots i new)
sized_kept slots i room old new h is same all = All-set (λ s. s.bytes.room ≡ room) slots i new (same ∙ sized_at slots i room old h is all) all

-- whether bytes went in is whether they fit
pub fits_is : (b : Bool) (size room : ℕ) → (IsTrue b ↔ (size ≤ room)) → b ≡ not (nat_lt room size)
fits_is true size room fits = rw (le-ltb room size (fits.0 refl)) refl
fits_is false size room fits = let over : size ≤ room → ⊥ = λ h. let e : false ≡ true = fits.1 h in cc in
    rw (lt-ltb room size (omega (arith, over))) refl
