-- A plain buffer that takes an event.
use Rattle.std.proofs.Common.{◌≡◌, ℕ, ◌+◌, ◌-◌, ◌*◌, ◌≤◌, List, [], ◌∷◌, ◌++◌, length, take, drop, sum_by, Option, sym, ap, subst, ◌∙◌, arith, length-append}
use Rattle.std.proofs.lemmas.List.{length-take-le, length-drop}
use Rattle.std.proofs.lemmas.List.Sums.{sum_by-cons, sum_by-take-drop, sum_by_push}
use Rattle.event.specs.Events.{slot_of_length}
use Rattle.event.specs.Headers.{event_of}
use Rattle.event.specs.declared.head.Header.{Header}
use Rattle.plain_buffer.specs.declared.plain.PlainBuffer.TheInside.{Inside}
use Rattle.buffer_core.specs.declared.client.Client.{Client}
use Rattle.plain_buffer.specs.declared.rows.Row.{Row}
use Rattle.buffer_core.specs.Slots.{change_all}
use Rattle.buffer_core.specs.Window.{Window, Sent}
use Rattle.buffer_core.specs.Calls.{gone_of, to_drop, after_send, pushed}
use Rattle.plain_buffer.specs.Rows.{slot_of_row, size_of_row, sent_of, kept_of}
use Rattle.plain_buffer.specs.Plain.{plain_window, IsPlain}
use Rattle.buffer_core.proofs.WindowLaws.{to_drop_fits, to_drop_within, slot_cover}
use Rattle.plain_buffer.proofs.Kept.{to_drop-kept_of, drop-kept_of, kept_of-push}
use Rattle.plain_buffer.proofs.Room.{whole_is}

-- slots cover the data and 24 bytes for each row
pub slots_cover : (rows : List Row) → sum_by size_of_row rows + 24 * length rows ≤ sum_by slot_of_row rows
slots_cover [] = omega arith
slots_cover (r ∷ rs) = omega (arith, sum_by-cons size_of_row r rs, sum_by-cons slot_of_row r rs, slot_cover r.header.data_size, slots_cover rs)

-- what there is once the first rows are gone
pub record IsFreed (rows : List Row) (gone size slot : ℕ) : Type 0 where
  pub within : gone ≤ length rows
  pub left : sum_by slot_of_row (drop gone rows) + slot ≤ size
  pub covered : sum_by size_of_row (drop gone rows) + 24 * length (drop gone rows) ≤ sum_by slot_of_row (drop gone rows)
  pub paid : 24 * gone ≤ sum_by slot_of_row (take gone rows)
  pub slots : sum_by slot_of_row (take gone rows) + sum_by slot_of_row (drop gone rows) ≡ sum_by slot_of_row rows
  pub sizes : sum_by size_of_row (take gone rows) + sum_by size_of_row (drop gone rows) ≡ sum_by size_of_row rows

freed_at : (rows : List Row) (size slot : ℕ) → slot ≤ size → IsFreed rows (to_drop slot_of_row size slot rows) size slot
freed_at rows size slot h =
    let gone : ℕ = to_drop slot_of_row size slot rows in
    let within : gone ≤ length rows = to_drop_within slot_of_row size slot rows in
    record {
      within = within;
      left = to_drop_fits slot_of_row size slot rows h;
      covered = slots_cover (drop gone rows);
      paid = omega (arith, slots_cover (take gone rows), length-take-le gone rows within);
      slots = sum_by-take-drop slot_of_row rows gone;
      sizes = sum_by-take-drop size_of_row rows gone;
    }

pub gone_rows : (b : Inside) (w : Window) (h : Header) (body : List ℕ) (gone : ℕ) → plain_window b ≡ w → IsPlain b → gone ≡ gone_of w (event_of h body)
    → gone ≡ to_drop slot_of_row b.size (slot_of_length (length body)) b.rows.items
gone_rows b w h body gone view plain e =
    subst (λ (x : Window). gone ≡ gone_of x (event_of h body)) (sym view) e
    ∙ to_drop-kept_of b.size (slot_of_length (length body)) b.rows.items b.bytes.items (whole_is b plain)

pub freed : (b : Inside) (w : Window) (h : Header) (body : List ℕ) (gone : ℕ) → plain_window b ≡ w → IsPlain b → gone ≡ gone_of w (event_of h body)
    → slot_of_length (length body) ≤ w.size → IsFreed b.rows.items gone b.size (slot_of_length (length body))
freed b w h body gone view plain e fits =
    let here : slot_of_length (length body) ≤ b.size = subst (λ (x : Window). slot_of_length (length body) ≤ x.size) (sym view) fits in
    subst (λ (n : ℕ). IsFreed b.rows.items n b.size (slot_of_length (length body))) (sym (gone_rows b w h body gone view plain e)) (freed_at b.rows.items b.size (slot_of_length (length body)) here)

-- the data and the slots of the rows with the new one
pub whole_admitted : (rows rows' : List Row) (bytes bytes' : List ℕ) (gone : ℕ) (r : Row) (body : List ℕ) (middle : List ℕ) → sum_by size_of_row rows ≡ length bytes
    → r.header.data_size ≡ length body → rows' ≡ drop gone rows ++ r ∷ [] → middle ≡ drop (sum_by size_of_row (take gone rows)) bytes → bytes' ≡ middle ++ body
    → sum_by size_of_row rows' ≡ length bytes'
whole_admitted rows rows' bytes bytes' gone r body middle whole stated is_rows is_middle is_bytes =
    omega (
      arith,
      ap (sum_by size_of_row) is_rows,
      sum_by_push size_of_row (drop gone rows) r,
      sum_by-take-drop size_of_row rows gone,
      whole,
      stated,
      ap (λ (bs : List ℕ). length bs) is_bytes,
      length-append middle body,
      ap (λ (bs : List ℕ). length bs) is_middle,
      length-drop (sum_by size_of_row (take gone rows)) bytes,
    )

pub counted_admitted : (rows rows' : List Row) (gone : ℕ) (r : Row) (level slots slot : ℕ) → level ≡ sum_by slot_of_row rows → slots ≡ sum_by slot_of_row (take gone rows)
    → slot ≡ slot_of_row r → rows' ≡ drop gone rows ++ r ∷ [] → level - slots + slot ≡ sum_by slot_of_row rows'
counted_admitted rows rows' gone r level slots slot counted is_slots is_slot is_rows =
    omega (arith, ap (sum_by slot_of_row) is_rows, sum_by_push slot_of_row (drop gone rows) r, sum_by-take-drop slot_of_row rows gone, counted, is_slots, is_slot)

pub kept_admitted : (rows rows' : List Row) (bytes middle bytes' : List ℕ) (gone : ℕ) (r : Row) (body : List ℕ) → sum_by size_of_row rows ≡ length bytes
    → r.header.data_size ≡ length body → rows' ≡ drop gone rows ++ r ∷ [] → middle ≡ drop (sum_by size_of_row (take gone rows)) bytes → bytes' ≡ middle ++ body
    → kept_of rows' bytes' ≡ drop gone (kept_of rows bytes) ++ sent_of r body ∷ []
kept_admitted rows rows' bytes middle bytes' gone r body whole stated is_rows is_middle is_bytes =
    let behind : List ℕ = drop (sum_by size_of_row (take gone rows)) bytes in
    let whole_behind : sum_by size_of_row (drop gone rows) ≡ length behind = omega (arith, sum_by-take-drop size_of_row rows gone, whole, length-drop (sum_by size_of_row (take gone rows)) bytes) in
    ap (λ (rs : List Row). kept_of rs bytes') is_rows
    ∙ (ap (kept_of (drop gone rows ++ r ∷ [])) (is_bytes ∙ ap (λ (bs : List ℕ). bs ++ body) is_middle)
    ∙ (kept_of-push (drop gone rows) behind r body whole_behind stated
    ∙ ap (λ (ss : List Sent). ss ++ sent_of r body ∷ []) (sym (drop-kept_of gone rows bytes))))

abbrev pub admitted : (b : Inside) (gone slot : ℕ) → List Sent → List (Option Client) → Window
admitted b gone slot kept clients =
    record { size = b.size; first = b.first + gone; kept = kept; clients = clients; gate = b.gate; last = b.last; total = b.total + slot }

-- the window is the one after the send
pub window_admitted : (b : Inside) (w : Window) (h : Header) (body : List ℕ) (gone slot start : ℕ) (kept : List Sent) (clients : List (Option Client)) → plain_window b ≡ w
    → gone ≡ gone_of w (event_of h body) → slot ≡ slot_of_length (length body)
    → kept ≡ drop gone (kept_of b.rows.items b.bytes.items) ++ record { event = event_of h body; start = start } ∷ []
    → clients ≡ change_all (pushed (b.first + gone)) b.clients
    → admitted b gone slot kept clients ≡ after_send w start (event_of h body)
window_admitted b w h body gone slot start kept clients view is_gone is_slot is_kept is_clients =
    let e = event_of h body in
    let here : gone ≡ gone_of (plain_window b) e = subst (λ (x : Window). gone ≡ gone_of x e) (sym view) is_gone in
    subst (λ (x : Window). admitted b gone slot kept clients ≡ after_send x start e) view
    (ap (λ (ss : List Sent). admitted b gone slot ss clients) is_kept
    ∙ (ap (admitted b gone slot (drop gone (kept_of b.rows.items b.bytes.items) ++ record { event = e; start = start } ∷ [])) is_clients
    ∙ (ap (λ (n : ℕ). admitted b gone n (drop gone (kept_of b.rows.items b.bytes.items) ++ record { event = e; start = start } ∷ []) (change_all (pushed (b.first + gone)) b.clients)) is_slot
    ∙ ap (λ (n : ℕ). admitted b n (slot_of_length (length body)) (drop n (kept_of b.rows.items b.bytes.items) ++ record { event = e; start = start } ∷ []) (change_all (pushed (b.first + n)) b.clients)) here)))
