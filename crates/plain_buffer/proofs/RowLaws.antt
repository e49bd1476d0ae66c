-- Steps of the loops over rows.
use Rattle.std.proofs.Common.{◌≡◌, ℕ, suc, ◌+◌, ◌-◌, ◌<◌, ◌≤◌, Bool, true, false, if◌then◌else◌, List, [], ◌∷◌, length, take, drop, get_or, sum_by, Option, Some, None, refl, sym, ap, subst, ◌∙◌, arith, le-leb}
use Rattle.std.proofs.lemmas.Bool.{lt-leb}
use Rattle.std.proofs.lemmas.List.{drop_more}
use Rattle.std.proofs.lemmas.List.Sums.{sum_by-drop_more}
use Rattle.event.specs.Events.{matches}
use Rattle.event.specs.Headers.{event_of}
use Rattle.event.specs.declared.head.Header.{Header}
use Rattle.buffer_core.specs.declared.client.Client.{Client}
use Rattle.plain_buffer.specs.declared.rows.Row.{Row}
use Rattle.buffer_core.specs.Slots.{first_slot}
use Rattle.buffer_core.specs.Window.{Sent, wants, owes}
use Rattle.buffer_core.specs.Calls.{to_drop, found_in, owed_in, or_later}
use Rattle.plain_buffer.specs.Rows.{slot_of_row, size_of_row, sent_of, kept_of, bare}

-- what stands for an element past the end
abbrev pub no_row : Row
no_row = record { header = record { event_id = 0; trigger_mask = 0; serial_number = 0; time_stamp = 0; data_size = 0 }; start = 0 }

-- the first rows have to go, and the others have these slots together
pub record IsCounted (rows : List Row) (size slot gone left : ℕ) : Type 0 where
  pub sum : left ≡ sum_by slot_of_row (drop gone rows)
  pub dropped : to_drop slot_of_row size slot rows ≡ gone + to_drop slot_of_row size slot (drop gone rows)

-- the client wants none of the first rows, and the data of the others stand in the rest
pub record IsSearched (client : Client) (first : ℕ) (rows : List Row) (bytes : List ℕ) (index : ℕ) (rest : List ℕ) : Type 0 where
  pub whole : sum_by size_of_row (drop index rows) ≤ length rest
  pub found : found_in client first (kept_of rows bytes) ≡ found_in client (first + index) (kept_of (drop index rows) rest)

-- Counting.

fits_here : {X : Type 0} (f : X → ℕ) (size slot : ℕ) (x : X) (xs : List X) (left : ℕ) → left ≡ sum_by f (x ∷ xs) → left + slot ≤ size → to_drop f size slot (x ∷ xs) ≡ 0
fits_here f size slot x xs left sum h =
    let small : sum_by f (x ∷ xs) + slot ≤ size = subst (λ (n : ℕ). n + slot ≤ size) sum h in
    ap (λ (b : Bool). if b then 0 else suc (to_drop f size slot xs)) (le-leb _ _ small)

fits_later : {X : Type 0} (f : X → ℕ) (size slot : ℕ) (x : X) (xs : List X) (left : ℕ) → left ≡ sum_by f (x ∷ xs) → size < left + slot → to_drop f size slot (x ∷ xs) ≡ suc (to_drop f size slot xs)
fits_later f size slot x xs left sum h =
    let large : size < sum_by f (x ∷ xs) + slot = subst (λ (n : ℕ). size < n + slot) sum h in
    ap (λ (b : Bool). if b then 0 else suc (to_drop f size slot xs)) (lt-leb _ _ large)

pub counted_here : (rows : List Row) (size slot gone left : ℕ) (d : Row) → gone < length rows → IsCounted rows size slot gone left → left + slot ≤ size
    → gone ≡ to_drop slot_of_row size slot rows
counted_here rows size slot gone left d within counted h =
    let cons : drop gone rows ≡ get_or rows gone d ∷ drop (gone + 1) rows = drop_more rows gone d within in
    let stops : to_drop slot_of_row size slot (get_or rows gone d ∷ drop (gone + 1) rows) ≡ 0 =
    fits_here slot_of_row size slot (get_or rows gone d) (drop (gone + 1) rows) left (counted.sum ∙ ap (sum_by slot_of_row) cons) h in
    let all : to_drop slot_of_row size slot (drop gone rows) ≡ 0 = ap (to_drop slot_of_row size slot) cons ∙ stops in
    omega (arith, counted.dropped, all)

pub counted_next : (rows : List Row) (size slot gone left : ℕ) (d : Row) → gone < length rows → IsCounted rows size slot gone left → size < left + slot
    → IsCounted rows size slot (gone + 1) (left - slot_of_row (get_or rows gone d))
counted_next rows size slot gone left d within counted h =
    let cons : drop gone rows ≡ get_or rows gone d ∷ drop (gone + 1) rows = drop_more rows gone d within in
    let goes_on : to_drop slot_of_row size slot (get_or rows gone d ∷ drop (gone + 1) rows) ≡ suc (to_drop slot_of_row size slot (drop (gone + 1) rows)) =
    fits_later slot_of_row size slot (get_or rows gone d) (drop (gone + 1) rows) left (counted.sum ∙ ap (sum_by slot_of_row) cons) h in
    let all : to_drop slot_of_row size slot (drop gone rows) ≡ suc (to_drop slot_of_row size slot (drop (gone + 1) rows)) = ap (to_drop slot_of_row size slot) cons ∙ goes_on in
    record {
      sum = omega (arith, counted.sum, sum_by-drop_more slot_of_row rows gone d within);
      dropped = omega (arith, counted.dropped, all);
    }

pub counted_slot : (rows : List Row) (size slot gone left : ℕ) (d : Row) → gone < length rows → IsCounted rows size slot gone left → slot_of_row (get_or rows gone d) ≤ left
counted_slot rows size slot gone left d within counted = omega (arith, counted.sum, sum_by-drop_more slot_of_row rows gone d within)

-- Owed rows.

owed_cons : (clients : List (Option Client)) (place : ℕ) (s : Sent) (ss : List Sent) → first_slot (owes place s.event) clients ≡ None → owed_in clients place (s ∷ ss) ≡ owed_in clients (suc place) ss
owed_cons clients place s ss e = ap (λ (o : Option ℕ). or_later o place (owed_in clients (suc place) ss)) e

owed_head : (clients : List (Option Client)) (place client : ℕ) (s : Sent) (ss : List Sent) → first_slot (owes place s.event) clients ≡ Some client → owed_in clients place (s ∷ ss) ≡ Some (client, place)
owed_head clients place client s ss e = ap (λ (o : Option ℕ). or_later o place (owed_in clients (suc place) ss)) e

pub owed_next : (clients : List (Option Client)) (first : ℕ) (rows : List Row) (i : ℕ) (d : Row) → i < length rows
    → first_slot (owes (first + i) (event_of (get_or rows i d).header [])) clients ≡ None
    → owed_in clients (first + i) (bare (drop i rows)) ≡ owed_in clients (first + (i + 1)) (bare (drop (i + 1) rows))
owed_next clients first rows i d within none =
    let next : suc (first + i) ≡ first + (i + 1) = omega arith in
    ap (λ (rs : List Row). owed_in clients (first + i) (bare rs)) (drop_more rows i d within)
    ∙ (owed_cons clients (first + i) (sent_of (get_or rows i d) []) (bare (drop (i + 1) rows)) none
    ∙ ap (λ (n : ℕ). owed_in clients n (bare (drop (i + 1) rows))) next)

pub owed_here : (clients : List (Option Client)) (first : ℕ) (rows : List Row) (i client : ℕ) (d : Row) → i < length rows
    → first_slot (owes (first + i) (event_of (get_or rows i d).header [])) clients ≡ Some client
    → owed_in clients (first + i) (bare (drop i rows)) ≡ Some (client, first + i)
owed_here clients first rows i client d within some =
    ap (λ (rs : List Row). owed_in clients (first + i) (bare rs)) (drop_more rows i d within)
    ∙ owed_head clients (first + i) client (sent_of (get_or rows i d) []) (bare (drop (i + 1) rows)) some

-- Wanted rows.

-- whether a client wants an event does not depend on its data
wants_bare : (place : ℕ) (h : Header) (body : List ℕ) (c : Client) → wants place (event_of h body) c ≡ wants place (event_of h []) c
unfolding matches
wants_bare place h body c = refl

found_cons : (c : Client) (place : ℕ) (r : Row) (rs : List Row) (bytes : List ℕ) → wants place (event_of r.header []) c ≡ false
    → found_in c place (kept_of (r ∷ rs) bytes) ≡ found_in c (suc place) (kept_of rs (drop r.header.data_size bytes))
found_cons c place r rs bytes e =
    ap (λ (b : Bool). if b then Some (place, sent_of r (take r.header.data_size bytes)) else found_in c (suc place) (kept_of rs (drop r.header.data_size bytes)))
    (wants_bare place r.header (take r.header.data_size bytes) c ∙ e)

found_head : (c : Client) (place : ℕ) (r : Row) (rs : List Row) (bytes : List ℕ) → wants place (event_of r.header []) c ≡ true
    → found_in c place (kept_of (r ∷ rs) bytes) ≡ Some (place, sent_of r (take r.header.data_size bytes))
found_head c place r rs bytes e =
    ap (λ (b : Bool). if b then Some (place, sent_of r (take r.header.data_size bytes)) else found_in c (suc place) (kept_of rs (drop r.header.data_size bytes)))
    (wants_bare place r.header (take r.header.data_size bytes) c ∙ e)

pub searched_size : (client : Client) (first : ℕ) (rows : List Row) (bytes : List ℕ) (i : ℕ) (rest : List ℕ) (d : Row) → i < length rows → IsSearched client first rows bytes i rest
    → size_of_row (get_or rows i d) ≤ length rest
searched_size client first rows bytes i rest d within searched = omega (arith, searched.whole, sum_by-drop_more size_of_row rows i d within)

pub searched_next : (client : Client) (first : ℕ) (rows : List Row) (bytes : List ℕ) (i : ℕ) (rest behind : List ℕ) (d : Row) → i < length rows → IsSearched client first rows bytes i rest
    → wants (first + i) (event_of (get_or rows i d).header []) client ≡ false
    → behind ≡ drop (size_of_row (get_or rows i d)) rest → length behind + size_of_row (get_or rows i d) ≡ length rest
    → IsSearched client first rows bytes (i + 1) behind
searched_next client first rows bytes i rest behind d within searched unwanted is_behind long =
    let next : suc (first + i) ≡ first + (i + 1) = omega arith in
    record {
      whole = omega (arith, searched.whole, sum_by-drop_more size_of_row rows i d within);
      found = searched.found
          ∙ (ap (λ (rs : List Row). found_in client (first + i) (kept_of rs rest)) (drop_more rows i d within)
          ∙ (found_cons client (first + i) (get_or rows i d) (drop (i + 1) rows) rest unwanted
          ∙ (ap (λ (bs : List ℕ). found_in client (suc (first + i)) (kept_of (drop (i + 1) rows) bs)) (sym is_behind)
          ∙ ap (λ (n : ℕ). found_in client n (kept_of (drop (i + 1) rows) behind)) next)));
    }

pub searched_here : (client : Client) (first : ℕ) (rows : List Row) (bytes : List ℕ) (i : ℕ) (rest body : List ℕ) (d : Row) → i < length rows → IsSearched client first rows bytes i rest
    → wants (first + i) (event_of (get_or rows i d).header []) client ≡ true
    → body ≡ take (size_of_row (get_or rows i d)) rest
    → found_in client first (kept_of rows bytes) ≡ Some (first + i, sent_of (get_or rows i d) body)
searched_here client first rows bytes i rest body d within searched wanted is_body =
    searched.found
    ∙ (ap (λ (rs : List Row). found_in client (first + i) (kept_of rs rest)) (drop_more rows i d within)
    ∙ (found_head client (first + i) (get_or rows i d) (drop (i + 1) rows) rest wanted
    ∙ ap (λ (bs : List ℕ). Some (first + i, sent_of (get_or rows i d) bs)) (sym is_body)))
