-- A bank at the front is the one that stands at its places: what was spelled is read, and what is read is spelled so.
use Rattle.std.proofs.Common.{◌≡◌, ℕ, ◌+◌, ◌-◌, ◌≤◌, List, ◌++◌, length, take, drop, refl, sym, ap, subst, ◌∙◌, arith, append_assoc, length-append, length-drop}
use Rattle.std.proofs.lemmas.List.{take_at, drop_at, take-append-drop, length-take, drop-drop, get_or-drop}
use Rattle.bank_format.specs.declared.formats.Format.{Format}
use Rattle.bank_format.specs.declared.formats.Format.TheVariants.{Bank16, Bank32, Bank32A}
use Rattle.bank_format.specs.Formats.{header_len, padded, padding_len}
use Rattle.bank_format.specs.BankAreas.{BankValue, bank_value, IsFirst, field}
use Rattle.bank_format.specs.Places.{stated_name, stated_tid, stated_size, front_bank, behind_bank, HasBank}
use Rattle.bank_format.proofs.Spelled.{HeaderIs, spelled_at, respelled}
use Rattle.bank_format.specs.Spelled.{IsBytes}

-- a bank that stands at the front, by its places
pub record IsFrontBank (f : Format) (b : BankValue) (rest bytes : List ℕ) : Type 0 where
  pub bank : front_bank f bytes ≡ b
  pub rest_is : behind_bank f bytes ≡ rest
  pub has : HasBank f bytes

same_bank : (n n' : List ℕ) (t t' : ℕ) (x x' : List ℕ) → n ≡ n' → t ≡ t' → x ≡ x' → bank_value n t x ≡ bank_value n' t' x'
same_bank n n' t t' x x' hn ht hx = rw (hn, ht, hx) refl

-- behind the header stand the data, padding and the rest
data_then : (body padding rest : List ℕ) → length padding ≡ padding_len (length body) → drop (padded (length body)) (body ++ (padding ++ rest)) ≡ rest
data_then body padding rest p =
    let whole : length (body ++ padding) ≡ padded (length body) = omega (arith, length-append body padding) in
    subst (λ (xs : List ℕ). drop (padded (length body)) xs ≡ rest) (append_assoc body padding rest) (drop_at (body ++ padding) rest (padded (length body)) whole)

front_at : (f : Format) (b : BankValue) (bytes padding rest : List ℕ) → length padding ≡ padding_len (length b.body)
    → HeaderIs f bytes b.name b.tid (length b.body) (b.body ++ (padding ++ rest)) → IsFrontBank f b rest bytes
front_at f b bytes padding rest p is =
    let body_is : take (stated_size f bytes) (drop (header_len f) bytes) ≡ b.body =
    rw (is.size_is, is.more_is) (take_at b.body (padding ++ rest) (length b.body) refl) in
    record {
      bank = same_bank _ _ _ _ _ _ is.name_is is.tid_is body_is;
      rest_is = rw (is.size_is, is.more_is) (data_then b.body padding rest p);
      has = record {
        header = is.long;
        with_data = omega (arith, is.size_is, is.long, ap length is.more_is, length-drop (header_len f) bytes, length-append b.body (padding ++ rest), length-append padding rest, ap padded is.size_is);
      };
    }

-- a bank that was spelled at the front stands there
pub front_is : (f : Format) (b : BankValue) (rest bytes : List ℕ) → IsFirst f b rest bytes → IsFrontBank f b rest bytes
front_is f b rest bytes first =
    subst (λ (xs : List ℕ). IsFrontBank f b rest xs) (sym first.spelled)
    (front_at f b _ first.padding rest first.padding_is
    (spelled_at f b.name b.tid (length b.body) first.reserved (b.body ++ (first.padding ++ rest)) first.bank.name first.bank.tid first.bank.size first.reserved_is))

respelled_whole : (size total : ℕ) (front more : List ℕ) → size ≤ total → front ++ more ≡ front ++ (take size more ++ (take (total - size) (drop size more) ++ drop total more))
respelled_whole size total front more le =
    let behind : drop (total - size) (drop size more) ≡ drop total more = drop-drop (total - size) size more ∙ ap (λ (n : ℕ). drop n more) (omega arith) in
    let second : take (total - size) (drop size more) ++ drop total more ≡ drop size more =
    ap (λ (xs : List ℕ). take (total - size) (drop size more) ++ xs) (sym behind) ∙ take-append-drop (total - size) (drop size more) in
    ap (λ (xs : List ℕ). front ++ xs) (sym (take-append-drop size more) ∙ ap (λ (xs : List ℕ). take size more ++ xs) (sym second))

-- a whole bank that stands at the front is spelled there
pub front_back : (f : Format) (bytes : List ℕ) → HasBank f bytes → IsBytes bytes → IsFirst f (front_bank f bytes) (behind_bank f bytes) bytes
front_back f bytes has small =
    let again = respelled f bytes has.header small in
    let size = stated_size f bytes in
    let more : List ℕ = drop (header_len f) bytes in
    let len : length (take size more) ≡ size = omega (arith, has.with_data, length-take size more, length-drop (header_len f) bytes) in
    let head : ℕ → List ℕ = λ n. stated_name bytes ++ (field f (stated_tid f bytes) ++ (field f n ++ again.reserved)) in
    let tail : List ℕ = take size more ++ (take (padding_len size) (drop size more) ++ drop (padded size) more) in
    record {
      bank = record { name = again.name; tid = again.tid; size = omega (arith, again.size) };
      reserved = again.reserved;
      padding = take (padding_len size) (drop size more);
      reserved_is = again.reserved_is;
      padding_is = omega (arith, has.with_data, len, ap padding_len len, length-take (padding_len size) (drop size more), length-drop size more, length-drop (header_len f) bytes);
      spelled = again.spelled ∙ respelled_whole size (padded size) (head size) more (omega arith) ∙ ap (λ (n : ℕ). head n ++ tail) (sym len);
    }

-- the bytes behind a bank are fewer
pub behind_is_shorter : (f : Format) (bytes : List ℕ) → HasBank f bytes → length (behind_bank f bytes) + header_len f ≤ length bytes
behind_is_shorter f bytes has = omega (arith, has.header, length-drop (padded (stated_size f bytes)) (drop (header_len f) bytes), length-drop (header_len f) bytes)

pub header_is_some : (f : Format) → 8 ≤ header_len f
header_is_some Bank16 = omega arith
header_is_some Bank32 = omega arith
header_is_some Bank32A = omega arith

-- what is left of bytes is bytes
pub IsBytes-behind : (f : Format) (bytes : List ℕ) → IsBytes bytes → IsBytes (behind_bank f bytes)
IsBytes-behind f bytes small i = rw (get_or-drop, get_or-drop) (small _)
