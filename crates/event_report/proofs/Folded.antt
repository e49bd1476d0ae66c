-- What one more event makes of a report.
use Rattle.std.proofs.Common.{◌≡◌, ℕ, ◌+◌, ◌<◌, true, false, cond, eqb, List, [], ◌∷◌, ◌++◌, length, map, filter, Option, Some, None, ℤ, refl, sym, ap, subst, ◌∙◌, arith, inl, inr, length-append, append_assoc, zero-add}
use Rattle.std.specs.Prelude.{count_by, is_none, unwrap_or, option_and_then}
use Rattle.std.specs.List.{AllByRecursion, filter_map, flat_map, cons_option}
use Rattle.std.proofs.lemmas.Bool.{eq-eqb, eqb-true}
use Rattle.std.proofs.lemmas.List.{append-nil, map-append}
use Rattle.std.proofs.lemmas.List.Sums.{sum_by-append, sum_by-cons}
use Rattle.std.proofs.lemmas.List.Elements.{filter-append}
use Rattle.std.proofs.lemmas.Grind.{flat_map-append}
use Rattle.daq_types.specs.declared.events.Event.{Event}
use Rattle.event.specs.Events.{encoding, all_encoded}
use Rattle.event.proofs.Events.{all_encoded-append, length-encoding}
use Rattle.bank_format.specs.BankAreas.{BankValue}
use Rattle.event_report.specs.declared.integers.IntegerType.{IntegerType}
use Rattle.event_report.specs.declared.rows.Figures.{Figures}
use Rattle.event_report.specs.declared.rows.IdRow.{IdRow}
use Rattle.event_report.specs.declared.rows.BankRow.{BankRow}
use Rattle.event_report.specs.Integers.{integer_type, whole_items}
use Rattle.event_report.specs.EventBanks.{banks_of, IntegerBank, some_items, integer_bank, event_banks, integer_banks}
use Rattle.event_report.specs.Listing.{has}
use Rattle.event_report.specs.Tallies.{IdTally, own, id_row, id_tally, BankTally, bank_number, items_with, figures_of, bank_row, bank_tally}
use Rattle.event_report.specs.Steps.{id_of, one_more, id_rows_after, id_tally_after, row_number, more_figures, joined_figures, bank_rows_after, own_row, bank_tally_after, banks_after}
use Rattle.event_report.specs.Reports.{Totals, report_of}
use Rattle.event_report.proofs.Sums.{figures-append}
use Rattle.event_report.proofs.Listed.{bit, true_or_false, both_false, eqb_flip}
use Rattle.event_report.proofs.Grown.{Becomes, rows_more, rest_more}

-- ---- one more id

abbrev counted : List ℕ → ℕ → ℕ
counted ids a = count_by (λ i. eqb i a) ids

counted_end : (ids : List ℕ) (id a : ℕ) → counted (ids ++ id ∷ []) a ≡ counted ids a + bit (eqb id a)
counted_end ids id a =
    sum_by-append (λ (i : ℕ). bit (eqb i a)) ids (id ∷ []) ∙ ap (λ (k : ℕ). counted ids a + k) (zero-add (bit (eqb id a)))

counted_none : (ids : List ℕ) (a : ℕ) → has own a ids ≡ false → counted ids a ≡ 0
counted_none [] a none = refl
counted_none (i ∷ ids) a none =
    let parts = both_false (eqb i a) (has own a ids) none in
    let first : bit (eqb i a) ≡ 0 = let e = parts.0 in rw e refl in
    omega (arith, sum_by-cons (λ (j : ℕ). bit (eqb j a)) i ids, first, counted_none ids a parts.1)

abbrev row_made : ℕ → ℕ → IdRow
row_made id count = record { id = id; count = count }

id_becomes : (ids : List ℕ) (id : ℕ) → Becomes own id_of (id_row ids) (id_row (ids ++ id ∷ [])) id one_more
id_becomes ids id =
    record {
      old_number = λ a. refl;
      new_number = λ a. refl;
      other = λ a ne. let flip = eqb_flip a id ne in let none : bit (eqb id a) ≡ 0 = rw flip refl in
          ap (row_made a) (omega (arith, counted_end ids id a, none));
    }

abbrev id_made : List IdRow → ℕ → IdTally
id_made rows rest = record { rows = rows; rest = rest }

id_made_same : (a b : List IdRow) (r s : ℕ) → a ≡ b → r ≡ s → id_made a r ≡ id_made b s
id_made_same a b r s e f = rw (e, f) refl

pub id_more : (ids : List ℕ) (id : ℕ) → id_tally_after id (id_tally ids) ≡ id_tally (ids ++ id ∷ [])
unfolding id_rows_after
id_more ids id =
    id_made_same _ _ _ _
    (rows_more own id_of (id_row ids) (id_row (ids ++ id ∷ [])) one_more (row_made id 1) ids id (id_becomes ids id)
    (λ known a same. let flip : eqb id a ≡ true = eq-eqb _ _ (sym (eqb-true _ _ same)) in let one : bit (eqb id a) ≡ 1 = rw flip refl in
    ap (row_made a) (omega (arith, counted_end ids id a, one)))
    (λ new. let here : eqb id id ≡ true = eq-eqb _ _ refl in let one : bit (eqb id id) ≡ 1 = rw here refl in
    ap (row_made id) (omega (arith, counted_end ids id id, counted_none ids id new, one))))
    (rest_more own id_of (id_row ids) ids id (λ a. refl))

-- ---- one more bank

-- a bank of integers has some
abbrev pub HasItems : IntegerBank → Type 0
HasItems b = 0 < length b.items

items_end : (banks : List IntegerBank) (b : IntegerBank) (n : ℕ) → items_with n (banks ++ b ∷ []) ≡ items_with n banks ++ cond (eqb (bank_number b) n) b.items []
items_end banks b n =
    ap (flat_map (λ (c : IntegerBank). c.items)) (filter-append (λ (c : IntegerBank). eqb (bank_number c) n) banks (b ∷ []))
    ∙ flat_map-append (λ (c : IntegerBank). c.items) (filter (λ (c : IntegerBank). eqb (bank_number c) n) banks) (filter (λ (c : IntegerBank). eqb (bank_number c) n) (b ∷ []))
    ∙ ap (λ xs. items_with n banks ++ xs) (one_items b n)
  where
    one_items : (b : IntegerBank) (n : ℕ) → flat_map (λ (c : IntegerBank). c.items) (filter (λ (c : IntegerBank). eqb (bank_number c) n) (b ∷ [])) ≡ cond (eqb (bank_number b) n) b.items []
    one_items b n =
        elim (true_or_false (eqb (bank_number b) n)) [
          | inl here ↦ rw here (append-nil b.items)
          | inr ne ↦ rw ne refl
        ]

items_none : (banks : List IntegerBank) (n : ℕ) → has bank_number n banks ≡ false → items_with n banks ≡ []
items_none [] n none = refl
items_none (b ∷ banks) n none =
    let parts = both_false (eqb (bank_number b) n) (has bank_number n banks) none in
    let e = parts.0 in
    rw e (items_none banks n parts.1)

items_some : (banks : List IntegerBank) (n : ℕ) → AllByRecursion HasItems banks → has bank_number n banks ≡ true → 0 < length (items_with n banks)
items_some [] n some there = absurd cc
items_some (b ∷ banks) n some there =
    elim (true_or_false (eqb (bank_number b) n)) [
      | inl here ↦ rw here (omega (arith, some.0, length-append b.items (items_with n banks)))
      | inr ne ↦ let further : has bank_number n banks ≡ true = rw ne at there in rw ne (items_some banks n some.1 further)
    ]

figures_joined : (xs ys : List ℤ) → 0 < length xs → 0 < length ys → figures_of (xs ++ ys) ≡ joined_figures (figures_of xs) (figures_of ys)
figures_joined [] ys some more = absurd (omega arith)
figures_joined (x ∷ xs) [] some more = absurd (omega arith)
figures_joined (x ∷ xs) (y ∷ ys) some more = figures-append x xs y ys

abbrev bank_made : IntegerBank → Figures → BankRow
bank_made b figures = record { name = b.name; kind = b.kind; figures = figures }

bank_becomes : (banks : List IntegerBank) (b : IntegerBank) → Becomes bank_number row_number (bank_row banks) (bank_row (banks ++ b ∷ [])) (bank_number b) (more_figures (figures_of b.items))
bank_becomes banks b =
    record {
      old_number = λ a. refl;
      new_number = λ a. refl;
      other = λ a ne.
          let flip = eqb_flip (bank_number a) (bank_number b) ne in
          let none : cond (eqb (bank_number b) (bank_number a)) b.items [] ≡ [] = rw flip refl in
          ap (λ xs. bank_made a (figures_of xs))
          (items_end banks b (bank_number a) ∙ ap (λ xs. items_with (bank_number a) banks ++ xs) none ∙ append-nil (items_with (bank_number a) banks));
    }

abbrev tally_made : List BankRow → ℕ → BankTally
tally_made rows rest = record { rows = rows; rest = rest }

tally_same : (a b : List BankRow) (r s : ℕ) → a ≡ b → r ≡ s → tally_made a r ≡ tally_made b s
tally_same a b r s e f = rw (e, f) refl

pub bank_more : (banks : List IntegerBank) (b : IntegerBank) → AllByRecursion HasItems banks → HasItems b → bank_tally_after (bank_tally banks) b ≡ bank_tally (banks ++ b ∷ [])
unfolding bank_rows_after
bank_more banks b some one =
    let n : ℕ = bank_number b in
    tally_same _ _ _ _
    (rows_more bank_number row_number (bank_row banks) (bank_row (banks ++ b ∷ [])) (more_figures (figures_of b.items)) (own_row b) banks b (bank_becomes banks b)
    (λ known a same.
    let is : bank_number a ≡ n = eqb-true _ _ same in
    let flip : eqb n (bank_number a) ≡ true = eq-eqb _ _ (sym is) in
    let all : cond (eqb n (bank_number a)) b.items [] ≡ b.items = rw flip refl in
    let had : 0 < length (items_with (bank_number a) banks) = subst (λ (m : ℕ). 0 < length (items_with m banks)) (sym is) (items_some banks n some known) in
    ap (bank_made a)
    (ap figures_of (items_end banks b (bank_number a) ∙ ap (λ xs. items_with (bank_number a) banks ++ xs) all) ∙ figures_joined (items_with (bank_number a) banks) b.items had one))
    (λ new.
    let here : eqb n n ≡ true = eq-eqb _ _ refl in
    let all : cond (eqb n n) b.items [] ≡ b.items = rw here refl in
    ap (λ xs. bank_made b (figures_of xs)) (items_end banks b n ∙ ap (λ xs. xs ++ cond (eqb n n) b.items []) (items_none banks n new) ∙ all)))
    (rest_more bank_number row_number (bank_row banks) banks b (λ a. refl))

both_have : (xs ys : List IntegerBank) → AllByRecursion HasItems xs → AllByRecursion HasItems ys → AllByRecursion HasItems (xs ++ ys)
both_have [] ys some all = all
both_have (x ∷ xs) ys some all = (some.0, both_have xs ys some.1 all)

-- some more banks
pub banks_more : (banks more : List IntegerBank) → AllByRecursion HasItems banks → AllByRecursion HasItems more → banks_after (bank_tally banks) more ≡ bank_tally (banks ++ more)
banks_more banks [] some all = ap bank_tally (sym (append-nil banks))
banks_more banks (b ∷ more) some all =
    ap (λ (t : BankTally). banks_after t more) (bank_more banks b some all.0)
    ∙ banks_more (banks ++ b ∷ []) more (both_have banks (b ∷ []) some (all.0, tt)) all.1
    ∙ ap bank_tally (append_assoc banks (b ∷ []) more)

-- ---- the banks of events have items

items_are_some : (name : List ℕ) (kind : IntegerType) (items : List ℤ) (rest : List IntegerBank) → AllByRecursion HasItems rest → AllByRecursion HasItems (cons_option (some_items name kind items) rest)
items_are_some name kind [] rest all = all
items_are_some name kind (x ∷ xs) rest all = (omega arith, all)

bank_has : (b : BankValue) (o : Option IntegerType) (rest : List IntegerBank) → AllByRecursion HasItems rest
    → AllByRecursion HasItems (cons_option (option_and_then (λ kind. some_items b.name kind (whole_items kind b.body)) o) rest)
bank_has b None rest all = all
bank_has b (Some kind) rest all = items_are_some b.name kind (whole_items kind b.body) rest all

pub banks_have : (bs : List BankValue) → AllByRecursion HasItems (filter_map integer_bank bs)
banks_have [] = tt
banks_have (b ∷ bs) = bank_has b (integer_type b.tid) (filter_map integer_bank bs) (banks_have bs)

pub events_have : (events : List Event) → AllByRecursion HasItems (integer_banks events)
events_have [] = tt
events_have (e ∷ events) = both_have (event_banks e) (integer_banks events) (banks_have (unwrap_or (banks_of e.body) [])) (events_have events)

-- ---- one more event

abbrev totals_made : ℕ → ℕ → IdTally → BankTally → ℕ → Totals
totals_made bytes events ids banks bad = record { bytes = bytes; events = events; ids = ids; banks = banks; bad = bad }

totals_same : (a b c d : ℕ) (i j : IdTally) (s t : BankTally) (m n : ℕ) → a ≡ b → c ≡ d → i ≡ j → s ≡ t → m ≡ n → totals_made a c i s m ≡ totals_made b d j t n
totals_same a b c d i j s t m n e f g h k = rw (e, f, g, h, k) refl

-- the report of one event more, part by part
pub report_more : (events : List Event) (e : Event) (ids : IdTally) (banks : BankTally) (bad : ℕ)
    → ids ≡ id_tally_after e.id (id_tally (map (λ (f : Event). f.id) events))
    → banks ≡ banks_after (bank_tally (integer_banks events)) (event_banks e)
    → bad ≡ count_by (λ (f : Event). is_none (banks_of f.body)) events + bit (is_none (banks_of e.body))
    → totals_made (length (all_encoded events) + (16 + length e.body)) (length events + 1) ids banks bad ≡ report_of (events ++ e ∷ [])
unfolding report_of
report_more events e ids banks bad ids_is banks_is bad_is =
    totals_same _ _ _ _ _ _ _ _ _ _
    (omega (arith, ap length (all_encoded-append events (e ∷ [])), length-append (all_encoded events) (all_encoded (e ∷ [])), length-append (encoding e) [], length-encoding e))
    (sym (length-append events (e ∷ [])))
    (ids_is ∙ id_more (map (λ (f : Event). f.id) events) e.id ∙ ap id_tally (sym (map-append (λ (f : Event). f.id) events (e ∷ []))))
    (banks_is ∙ banks_more (integer_banks events) (event_banks e) (events_have events) (banks_have (unwrap_or (banks_of e.body) []))
    ∙ ap bank_tally (sym (flat_map-append event_banks events (e ∷ []) ∙ ap (λ xs. integer_banks events ++ xs) (append-nil (event_banks e)))))
    (bad_is ∙ sym (sum_by-append (λ (f : Event). bit (is_none (banks_of f.body))) events (e ∷ []) ∙ ap (λ (k : ℕ). count_by (λ (f : Event). is_none (banks_of f.body)) events + k) (zero-add (bit (is_none (banks_of e.body))))))

-- the banks of an event whose data are a bank area
pub banks_there : (e : Event) (bs : List BankValue) → banks_of e.body ≡ Some bs → event_banks e ≡ filter_map integer_bank bs
banks_there e bs is = ap (λ (o : Option (List BankValue)). filter_map integer_bank (unwrap_or o [])) is

-- and of one whose data are none
pub banks_not_there : (e : Event) → banks_of e.body ≡ None → event_banks e ≡ []
banks_not_there e is = ap (λ (o : Option (List BankValue)). filter_map integer_bank (unwrap_or o [])) is

-- what was the report of some events becomes that of these and one more
pub report_after : (old : Totals) (events : List Event) (e : Event) (ids : IdTally) (banks : BankTally) (bad : ℕ) → old ≡ report_of events
    → ids ≡ id_tally_after e.id old.ids → banks ≡ banks_after old.banks (event_banks e) → bad ≡ old.bad + bit (is_none (banks_of e.body))
    → totals_made (old.bytes + (16 + length e.body)) (old.events + 1) ids banks bad ≡ report_of (events ++ e ∷ [])
unfolding report_of
report_after old events e ids banks bad was ids_is banks_is bad_is =
    ap (λ (t : Totals). totals_made (t.bytes + (16 + length e.body)) (t.events + 1) ids banks bad) was
    ∙ report_more events e ids banks bad
    (ids_is ∙ ap (λ (t : Totals). id_tally_after e.id t.ids) was)
    (banks_is ∙ ap (λ (t : Totals). banks_after t.banks (event_banks e)) was)
    (bad_is ∙ ap (λ (t : Totals). t.bad + bit (is_none (banks_of e.body))) was)
