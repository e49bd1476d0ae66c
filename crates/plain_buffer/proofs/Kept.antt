-- The kept events of rows and their data.
use Rattle.std.proofs.Common.{◌≡◌, ℕ, zero, suc, ◌+◌, ◌≤◌, if◌then◌else◌, nat_le, List, [], ◌∷◌, ◌++◌, length, take, drop, sum_by, Option, refl, sym, ap, ◌∙◌, arith}
use Rattle.std.proofs.lemmas.List.{length-take-le, take-append-le, drop-append-le, drop-drop, length-drop, take_all, nil_from_length}
use Rattle.std.proofs.lemmas.List.Sums.{sum_by-cons}
use Rattle.event.specs.Events.{matches, slot_of_length}
use Rattle.buffer_core.specs.declared.client.Client.{Client}
use Rattle.plain_buffer.specs.declared.rows.Row.{Row}
use Rattle.buffer_core.specs.Slots.{first_slot}
use Rattle.buffer_core.specs.Window.{Sent, slot_of_sent, owes}
use Rattle.buffer_core.specs.Calls.{to_drop, owed_in, or_later}
use Rattle.plain_buffer.specs.Rows.{slot_of_row, size_of_row, sent_of, kept_of, bare}

pub length-kept_of : (rows : List Row) (bytes : List ℕ) → length (kept_of rows bytes) ≡ length rows
length-kept_of [] bytes = refl
length-kept_of (r ∷ rs) bytes = ap (λ (n : ℕ). suc n) (length-kept_of rs (drop r.header.data_size bytes))

-- there are data for the first row, and behind them for the others
pub record HasData (r : Row) (rs : List Row) (bytes : List ℕ) : Type 0 where
  pub first : r.header.data_size ≤ length bytes
  pub others : sum_by size_of_row rs ≤ length (drop r.header.data_size bytes)

pub has_data : (r : Row) (rs : List Row) (bytes : List ℕ) → sum_by size_of_row (r ∷ rs) ≤ length bytes → HasData r rs bytes
has_data r rs bytes h =
    record {
      first = omega (arith, h, sum_by-cons size_of_row r rs);
      others = omega (arith, h, sum_by-cons size_of_row r rs, length-drop r.header.data_size bytes);
    }

slot_here : (r : Row) (bytes : List ℕ) → r.header.data_size ≤ length bytes → slot_of_sent (sent_of r (take r.header.data_size bytes)) ≡ slot_of_row r
slot_here r bytes h = ap slot_of_length (length-take-le r.header.data_size bytes h)

pub sum_by-kept_of : (rows : List Row) (bytes : List ℕ) → sum_by size_of_row rows ≤ length bytes → sum_by slot_of_sent (kept_of rows bytes) ≡ sum_by slot_of_row rows
sum_by-kept_of [] bytes h = refl
sum_by-kept_of (r ∷ rs) bytes h =
    let parts : HasData r rs bytes = has_data r rs bytes h in
    let s : Sent = sent_of r (take r.header.data_size bytes) in
    omega (arith, sum_by-cons slot_of_sent s (kept_of rs (drop r.header.data_size bytes)), sum_by-cons slot_of_row r rs, slot_here r bytes parts.first, sum_by-kept_of rs (drop r.header.data_size bytes) parts.others)

pub to_drop-kept_of : (size slot : ℕ) (rows : List Row) (bytes : List ℕ) → sum_by size_of_row rows ≤ length bytes → to_drop slot_of_sent size slot (kept_of rows bytes) ≡ to_drop slot_of_row size slot rows
to_drop-kept_of size slot [] bytes h = refl
to_drop-kept_of size slot (r ∷ rs) bytes h =
    let parts : HasData r rs bytes = has_data r rs bytes h in
    ap (λ (n : ℕ). if nat_le (n + slot) size then 0 else suc (to_drop slot_of_sent size slot (kept_of rs (drop r.header.data_size bytes)))) (sum_by-kept_of (r ∷ rs) bytes h)
    ∙ ap (λ (n : ℕ). if nat_le (sum_by slot_of_row (r ∷ rs) + slot) size then 0 else suc n) (to_drop-kept_of size slot rs (drop r.header.data_size bytes) parts.others)

pub take-kept_of : (n : ℕ) (rows : List Row) (bytes : List ℕ) → take n (kept_of rows bytes) ≡ kept_of (take n rows) bytes
take-kept_of zero rows bytes = refl
take-kept_of (suc n) [] bytes = refl
take-kept_of (suc n) (r ∷ rs) bytes = ap (λ (ss : List Sent). sent_of r (take r.header.data_size bytes) ∷ ss) (take-kept_of n rs (drop r.header.data_size bytes))

pub drop-kept_of : (n : ℕ) (rows : List Row) (bytes : List ℕ) → drop n (kept_of rows bytes) ≡ kept_of (drop n rows) (drop (sum_by size_of_row (take n rows)) bytes)
drop-kept_of zero rows bytes = refl
drop-kept_of (suc n) [] bytes = refl
drop-kept_of (suc n) (r ∷ rs) bytes =
    drop-kept_of n rs (drop r.header.data_size bytes)
    ∙ ap (kept_of (drop n rs)) (drop-drop (sum_by size_of_row (take n rs)) r.header.data_size bytes ∙ ap (λ (k : ℕ). drop k bytes) (sym (sum_by-cons size_of_row r (take n rs))))

pub kept_of-push : (rows : List Row) (bytes : List ℕ) (r : Row) (body : List ℕ) → sum_by size_of_row rows ≡ length bytes → r.header.data_size ≡ length body
    → kept_of (rows ++ r ∷ []) (bytes ++ body) ≡ kept_of rows bytes ++ sent_of r body ∷ []
kept_of-push [] bytes r body whole stated =
    ap (λ (bs : List ℕ). sent_of r (take r.header.data_size (bs ++ body)) ∷ []) (nil_from_length bytes (sym whole))
    ∙ ap (λ (bs : List ℕ). sent_of r bs ∷ []) (take_all r.header.data_size body (omega arith))
kept_of-push (q ∷ qs) bytes r body whole stated =
    let n : ℕ = q.header.data_size in
    let first : n ≤ length bytes = omega (arith, whole, sum_by-cons size_of_row q qs) in
    let others : sum_by size_of_row qs ≡ length (drop n bytes) = omega (arith, whole, sum_by-cons size_of_row q qs, length-drop n bytes) in
    ap (λ (bs : List ℕ). sent_of q bs ∷ kept_of (qs ++ r ∷ []) (drop n (bytes ++ body))) (take-append-le n bytes body first)
    ∙ (ap (λ (bs : List ℕ). sent_of q (take n bytes) ∷ kept_of (qs ++ r ∷ []) bs) (drop-append-le n bytes body first)
    ∙ ap (λ (ss : List Sent). sent_of q (take n bytes) ∷ ss) (kept_of-push qs (drop n bytes) r body others stated))

pub owed_in-kept_of : (clients : List (Option Client)) (place : ℕ) (rows : List Row) (bytes : List ℕ) → owed_in clients place (kept_of rows bytes) ≡ owed_in clients place (bare rows)
unfolding matches
owed_in-kept_of clients place [] bytes = refl
owed_in-kept_of clients place (r ∷ rs) bytes =
    ap (or_later (first_slot (owes place (sent_of r []).event) clients) place) (owed_in-kept_of clients (suc place) rs (drop r.header.data_size bytes))
