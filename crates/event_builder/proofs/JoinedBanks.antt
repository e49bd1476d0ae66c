-- The banks of several events: how long they are written plainly, and that a writer with room takes them.
use Rattle.std.specs.Prelude.{◌≡◌, ◌≤◌, ◌<◌, ◌+◌, ◌*◌, ◌^◌, ◌++◌, ℕ, zero, suc, false, List, [], ◌∷◌, length, slice_get, drop, Some, None, Result, Ok, Err, OnOk, IfErr, ⊤, refl}
use Rattle.std.proofs.Common.{ap, sym, subst, ◌∙◌, arith, get_or, add-one, append_assoc, length-append}
use Rattle.std.proofs.Math.Seq.{drop-cons}
use Rattle.std.proofs.lemmas.Bool.{le-ltb}
use Rattle.std.proofs.lemmas.List.{append-nil, drop_all}
use Rattle.bank_format.specs.declared.formats.Format.{Format}
use Rattle.bank_format.specs.declared.formats.Format.TheVariants.{Bank16, Bank32, Bank32A}
use Rattle.bank_format.specs.declared.faults.BankRefusal.{BankRefusal}
use Rattle.bank_format.specs.Formats.{padded, is_past_16_bits}
use Rattle.bank_format.specs.BankAreas.{BankValue, bank_value, IsFirst, BanksBefore, field, header, plain_bank, plain_area, plain_banks}
use Rattle.bank_format.specs.Faults.{HoldsBanks}
use Rattle.bank_format.specs.Writing.{Written, with_bank, need_with, refusal_of}
use Rattle.bank_format.proofs.Appending.{not_refused}
use Rattle.bank_format.proofs.PlainLaws.{length-plain_bank, length-plain_banks}
use Rattle.event_builder.specs.declared.inputs.BuilderInput.{BuilderInput}
use Rattle.event_builder.specs.Joined.{JoinsBanks, IsBuiltSize}
use Rattle.event_builder.specs.Inputs.{last_events}

-- Lengths.

pub length-plain_area-append : (bs cs : List BankValue) → length (plain_area Bank32A (bs ++ cs)) ≡ length (plain_area Bank32A bs) + length (plain_area Bank32A cs)
length-plain_area-append [] cs = omega arith
length-plain_area-append (b ∷ bs) cs =
    omega (
      arith,
      length-plain_area-append bs cs,
      length-append (plain_bank Bank32A b) (plain_area Bank32A (bs ++ cs)),
      length-append (plain_bank Bank32A b) (plain_area Bank32A bs),
    )

-- the area of one bank more in front
pub length-plain_area-cons : (b : BankValue) (bs : List BankValue) → length b.name ≡ 4 → length (plain_area Bank32A (b ∷ bs)) ≡ (16 + padded (length b.body)) + length (plain_area Bank32A bs)
length-plain_area-cons b bs four = omega (arith, length-append (plain_bank Bank32A b) (plain_area Bank32A bs), length-plain_bank Bank32A b four)

header_long : (f : Format) (b : BankValue) (reserved : List ℕ) → length b.name ≡ 4 → 8 ≤ length (header f b reserved)
header_long Bank16 b reserved four = omega (arith, length-append b.name (field Bank16 b.tid ++ (field Bank16 (length b.body) ++ reserved)))
header_long Bank32 b reserved four = omega (arith, length-append b.name (field Bank32 b.tid ++ (field Bank32 (length b.body) ++ reserved)))
header_long Bank32A b reserved four = omega (arith, length-append b.name (field Bank32A b.tid ++ (field Bank32A (length b.body) ++ reserved)))

-- a bank in a stated area takes no less than half of its plain length
first_long : (f : Format) (b : BankValue) (rest bytes : List ℕ) → IsFirst f b rest bytes → (16 + padded (length b.body)) + 2 * length rest ≤ 2 * length bytes
first_long f b rest bytes first =
    omega (
      arith,
      header_long f b first.reserved first.bank.name,
      ap length first.spelled,
      length-append (header f b first.reserved) (b.body ++ (first.padding ++ rest)),
      length-append b.body (first.padding ++ rest),
      length-append first.padding rest,
      first.padding_is,
    )

before_long : (f : Format) (bs : List BankValue) (area : List ℕ) → BanksBefore f bs [] area → length (plain_area Bank32A bs) ≤ 2 * length area
before_long f [] area none = omega arith
before_long f (b ∷ bs) area (middle, first, tail) =
    omega (arith, before_long f bs middle tail, first_long f b middle area first, length-plain_area-cons b bs first.bank.name)

-- banks that were read make no long area
pub area_small : (bs : List BankValue) (bytes : List ℕ) → HoldsBanks bs bytes → length (plain_area Bank32A bs) ≤ 2 ^ 34
area_small bs bytes (f, area) = omega (arith, before_long f bs area.area area.banks, area.fits)

-- Writers.

past_none : (f : Format) (n : ℕ) → f ≡ Bank32A → is_past_16_bits f n ≡ false
past_none f n is = rw is refl

-- a writer takes a bank for which it has the room
pub not_refused_here : (w : Written) (b : BankValue) → w.format ≡ Bank32A → length (plain_banks Bank32A (w.banks ++ b ∷ [])) ≤ w.limit → refusal_of w b ≡ None
not_refused_here w b format fits =
    let need : need_with w b ≤ w.limit = subst (λ (f : Format). length (plain_banks f (w.banks ++ b ∷ [])) ≤ w.limit) (sym format) fits in
    not_refused w b (need_with w b) (past_none w.format (length b.body) format) (past_none w.format b.tid format) refl (le-ltb _ _ need)

-- the first of several banks that fit fits
pub first_fits : (bs : List BankValue) (b : BankValue) (rest : List BankValue) (limit : ℕ) → length (plain_banks Bank32A (bs ++ b ∷ rest)) ≤ limit → length (plain_banks Bank32A (bs ++ b ∷ [])) ≤ limit
first_fits bs b rest limit fits =
    omega (
      arith,
      fits,
      length-plain_banks Bank32A (bs ++ b ∷ rest),
      length-plain_banks Bank32A (bs ++ b ∷ []),
      length-plain_area-append bs (b ∷ rest),
      length-plain_area-append bs (b ∷ []),
      length-append (plain_bank Bank32A b) (plain_area Bank32A rest),
      length-append (plain_bank Bank32A b) (plain_area Bank32A []),
    )

-- Several events.

-- where the data of each event are a bank area, their banks can be joined
pub joined_all : (inputs : List BuilderInput) → ((n : ℕ) (x : BuilderInput) → slice_get inputs n ≡ Some x → (bs : List BankValue) × HoldsBanks bs x.event.event.body) → (banks : List BankValue) × JoinsBanks (last_events inputs) banks
joined_all [] each = ([], refl)
joined_all (x ∷ xs) each =
    let first = each zero x refl in
    let rest = joined_all xs (λ n y there. each (suc n) y there) in
    (first.0 ++ rest.0, (first.0, rest.0, first.1, rest.1, refl))

-- those of the events below this number are counted, behind the 8 bytes in front of an area
pub record CountedTo (inputs : List BuilderInput) (number size : ℕ) : Type 0 where
  pub all : List BankValue
  pub rest : List BankValue
  pub joins : JoinsBanks (last_events inputs) all
  pub left : JoinsBanks (last_events (drop number inputs)) rest
  pub counted : size + length (plain_area Bank32A rest) ≡ 8 + length (plain_area Bank32A all)

-- those of the events below this number are written, and all of them fit
pub record WrittenTo (inputs : List BuilderInput) (number limit : ℕ) (banks : List BankValue) : Type 0 where
  pub all : List BankValue
  pub rest : List BankValue
  pub joins : JoinsBanks (last_events inputs) all
  pub left : JoinsBanks (last_events (drop number inputs)) rest
  pub written : all ≡ banks ++ rest
  pub fits : length (plain_banks Bank32A all) ≤ limit

-- the banks of one event more, in front of those that are left
pub record NextBanks (inputs : List BuilderInput) (number : ℕ) (x : BuilderInput) (left : List BankValue) : Type 0 where
  pub bs : List BankValue
  pub rest : List BankValue
  pub holds : HoldsBanks bs x.event.event.body
  pub joins : JoinsBanks (last_events (drop (number + 1) inputs)) rest
  pub is : left ≡ bs ++ rest

pub next_banks : (inputs : List BuilderInput) (number : ℕ) (x : BuilderInput) (left : List BankValue) → number < length inputs → x ≡ get_or inputs number x → JoinsBanks (last_events (drop number inputs)) left → NextBanks inputs number x left
next_banks inputs number x left within at joins =
    let front : drop number inputs ≡ x ∷ drop (number + 1) inputs = drop-cons inputs number x within ∙ (ap (λ (y : BuilderInput). y ∷ drop (suc number) inputs) (sym at) ∙ ap (λ (k : ℕ). x ∷ drop k inputs) (sym (add-one number))) in
    let here : JoinsBanks (last_events (x ∷ drop (number + 1) inputs)) left = subst (λ (l : List BuilderInput). JoinsBanks (last_events l) left) front joins in
    record { bs = here.0; rest = here.1; holds = here.2; joins = here.3; is = here.4 }

pub counted_more : (inputs : List BuilderInput) (number size len later : ℕ) (x : BuilderInput) → number < length inputs → x ≡ get_or inputs number x → ((bs : List BankValue) → HoldsBanks bs x.event.event.body → len ≡ length (plain_area Bank32A bs)) → later ≡ size + len → CountedTo inputs number size → CountedTo inputs (number + 1) later
counted_more inputs number size len later x within at measures is to =
    let next : NextBanks inputs number x to.rest = next_banks inputs number x to.rest within at to.left in
    record {
      all = to.all;
      rest = next.rest;
      joins = to.joins;
      left = next.joins;
      counted =
          let grown : length (plain_area Bank32A to.rest) ≡ length (plain_area Bank32A next.bs) + length (plain_area Bank32A next.rest) =
          ap (λ (l : List BankValue). length (plain_area Bank32A l)) next.is ∙ length-plain_area-append next.bs next.rest in
          omega (arith, to.counted, is, measures next.bs next.holds, grown);
    }

-- nothing is left behind the last event
none_left : (inputs : List BuilderInput) (number : ℕ) (rest : List BankValue) → length inputs ≤ number → JoinsBanks (last_events (drop number inputs)) rest → rest ≡ []
none_left inputs number rest past joins = subst (λ (l : List BuilderInput). JoinsBanks (last_events l) rest) (drop_all number inputs past) joins

pub counted_all : (inputs : List BuilderInput) (number size : ℕ) → length inputs ≤ number → CountedTo inputs number size → IsBuiltSize (last_events inputs) size
counted_all inputs number size past to =
    let none : length (plain_area Bank32A to.rest) ≡ 0 = ap (λ (l : List BankValue). length (plain_area Bank32A l)) (none_left inputs number to.rest past to.left) in
    (to.all, to.joins, omega (arith, to.counted, none, length-plain_banks Bank32A to.all))

pub counted_none : (inputs : List BuilderInput) (banks : List BankValue) → JoinsBanks (last_events inputs) banks → CountedTo inputs 0 8
counted_none inputs banks joins = record { all = banks; rest = banks; joins = joins; left = joins; counted = refl }

pub written_none : (inputs : List BuilderInput) (limit : ℕ) (banks : List BankValue) → JoinsBanks (last_events inputs) banks → length (plain_banks Bank32A banks) ≤ limit → WrittenTo inputs 0 limit []
written_none inputs limit banks joins fits = record { all = banks; rest = banks; joins = joins; left = joins; written = refl; fits = fits }

-- banks that are read of the next event are those that come next
pub written_more : (inputs : List BuilderInput) (number limit : ℕ) (banks bs : List BankValue) (x : BuilderInput) → number < length inputs → x ≡ get_or inputs number x → ((cs : List BankValue) → HoldsBanks cs x.event.event.body → bs ≡ cs) → WrittenTo inputs number limit banks → WrittenTo inputs (number + 1) limit (banks ++ bs)
written_more inputs number limit banks bs x within at only to =
    let next : NextBanks inputs number x to.rest = next_banks inputs number x to.rest within at to.left in
    let same : bs ≡ next.bs = only next.bs next.holds in
    record {
      all = to.all;
      rest = next.rest;
      joins = to.joins;
      left = next.joins;
      written = to.written ∙ (ap (λ (l : List BankValue). banks ++ l) (next.is ∙ ap (λ (l : List BankValue). l ++ next.rest) (sym same)) ∙ sym (append_assoc banks bs next.rest));
      fits = to.fits;
    }

-- and they fit
pub next_fits : (inputs : List BuilderInput) (number limit : ℕ) (banks bs : List BankValue) (x : BuilderInput) → number < length inputs → x ≡ get_or inputs number x → ((cs : List BankValue) → HoldsBanks cs x.event.event.body → bs ≡ cs) → WrittenTo inputs number limit banks → length (plain_banks Bank32A (banks ++ bs)) ≤ limit
next_fits inputs number limit banks bs x within at only to =
    let more : WrittenTo inputs (number + 1) limit (banks ++ bs) = written_more inputs number limit banks bs x within at only to in
    let all : length (plain_area Bank32A more.all) ≡ length (plain_area Bank32A (banks ++ bs)) + length (plain_area Bank32A more.rest) =
    ap (λ (l : List BankValue). length (plain_area Bank32A l)) more.written ∙ length-plain_area-append (banks ++ bs) more.rest in
    omega (arith, more.fits, all, length-plain_banks Bank32A more.all, length-plain_banks Bank32A (banks ++ bs))

-- All are written.
pub record IsWritten (inputs : List BuilderInput) (limit : ℕ) (banks : List BankValue) : Type 0 where
  pub joins : JoinsBanks (last_events inputs) banks
  pub fits : length (plain_banks Bank32A banks) ≤ limit

pub written_all : (inputs : List BuilderInput) (number limit : ℕ) (banks : List BankValue) → length inputs ≤ number → WrittenTo inputs number limit banks → IsWritten inputs limit banks
written_all inputs number limit banks past to =
    let is : to.all ≡ banks = to.written ∙ (ap (λ (l : List BankValue). banks ++ l) (none_left inputs number to.rest past to.left) ∙ append-nil banks) in
    record {
      joins = subst (λ (l : List BankValue). JoinsBanks (last_events inputs) l) is to.joins;
      fits = subst (λ (l : List BankValue). length (plain_banks Bank32A l) ≤ limit) is to.fits;
    }

-- One bank.

pub length_grown : (left later : List BankValue) (name : List ℕ) (tid : ℕ) (body : List ℕ) → left ≡ bank_value name tid body ∷ later → length name ≡ 4
    → length (plain_area Bank32A left) ≡ (16 + padded (length body)) + length (plain_area Bank32A later)
length_grown left later name tid body is four = ap (λ (l : List BankValue). length (plain_area Bank32A l)) is ∙ length-plain_area-cons (bank_value name tid body) later four

-- a bank that is not refused is taken
pub taken : (reply : Result ⊤ BankRefusal) (w later : Written) (b : BankValue) → refusal_of w b ≡ None → OnOk reply (later ≡ with_bank w b) → IfErr reply (λ refusal. refusal_of w b ≡ Some refusal) → later ≡ with_bank w b
taken (Ok done) w later b fits added refused = added
taken (Err refusal) w later b fits added refused = absurd (cc (fits, refused))

-- A writer behind one bank more, with those that are still to come.
pub record TakesBank (w later : Written) (left all : List BankValue) : Type 0 where
  pub banks : later.banks ++ left ≡ all
  pub format : later.format ≡ Bank32A
  pub limit : later.limit ≡ w.limit

pub takes_bank : (reply : Result ⊤ BankRefusal) (w later : Written) (b : BankValue) (left rest all : List BankValue) → w.format ≡ Bank32A → left ≡ b ∷ rest → w.banks ++ left ≡ all → length (plain_banks Bank32A all) ≤ w.limit
    → OnOk reply (later ≡ with_bank w b) → IfErr reply (λ refusal. refusal_of w b ≡ Some refusal) → TakesBank w later rest all
takes_bank reply w later b left rest all format front so_far fits added refused =
    let whole : w.banks ++ b ∷ rest ≡ all = ap (λ (l : List BankValue). w.banks ++ l) (sym front) ∙ so_far in
    let fit : length (plain_banks Bank32A (w.banks ++ b ∷ rest)) ≤ w.limit = subst (λ (l : List BankValue). length (plain_banks Bank32A l) ≤ w.limit) (sym whole) fits in
    let is : later ≡ with_bank w b = taken reply w later b (not_refused_here w b format (first_fits w.banks b rest w.limit fit)) added refused in
    record {
      banks = ap (λ (v : Written). v.banks ++ rest) is ∙ (append_assoc w.banks (b ∷ []) rest ∙ whole);
      format = ap (λ (v : Written). v.format) is ∙ format;
      limit = ap (λ (v : Written). v.limit) is;
    }

-- banks of which the size was found that fit are joined
pub size_fits : (inputs : List BuilderInput) (limit size : ℕ) → IsBuiltSize (last_events inputs) size → size ≤ limit → (banks : List BankValue) × JoinsBanks (last_events inputs) banks × (length (plain_banks Bank32A banks) ≤ limit)
size_fits inputs limit size is within = (is.0, is.1, subst (λ (n : ℕ). n ≤ limit) is.2 within)
