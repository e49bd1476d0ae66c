-- Which calls of a caller a buffer refuses: statements of the laws.
use Rattle.std.specs.Prelude.{◌≡◌, ◌≤◌, ℕ, true, map, sum_by, slice_get, List, [], ◌∷◌, ◌++◌, Some, Err, ◌⊎◌}
use Rattle.daq_types.specs.Callers.{entries_by}
use Rattle.daq_types.specs.declared.runs.Kind.{Kind}
use Rattle.buffer_core.specs.declared.replies.NoSlot.{NoSlot}
use Rattle.buffer_core.specs.declared.replies.RequestRefusal.{RequestRefusal}
use Rattle.buffer_core.specs.declared.replies.MarkRefusal.{MarkRefusal}
use Rattle.buffer_core.specs.declared.entry.BufferEntry.{BufferEntry}
use Rattle.buffer_core.specs.declared.entry.BufferEntry.TheVariants.{Attach, Request, Begin}
use Rattle.buffer_core.specs.Window.{opening}
use Rattle.buffer_core.specs.Histories.{History, IsLegal}
use Rattle.member_model.specs.OwnCalls.{calls_after, asks}
use Rattle.member_model.specs.FairCalls.{attaches_made, has_begun, is_left_open}
use Rattle.history_laws.specs.OneCaller.{HaveOwnClients, MarksAlone}

-- An attach is refused only where the callers of the history attached 64 clients.
abbrev pub AttachesRefused : Type 0
AttachesRefused = (size : ℕ) → (history : History) → (caller : ℕ) → IsLegal (opening size) history →
    (before after : List BufferEntry) → (name : List ℕ) → (why : NoSlot) →
    entries_by caller history ≡ before ++ Attach name (Err why) ∷ after →
    64 ≤ attaches_made (map (λ e. e.1) history)

-- Where these callers alone attach clients, all of them attached at most as many as each of them did, together.
abbrev pub AttachesAdd : Type 0
AttachesAdd = (history : History) → (callers : List ℕ) →
    ((caller : ℕ) → ((place : ℕ) × (slice_get callers place ≡ Some caller)) ⊎ (attaches_made (entries_by caller history) ≡ 0)) →
    attaches_made (map (λ e. e.1) history) ≤ sum_by (λ caller. attaches_made (entries_by caller history)) callers

-- A request is refused only where its client has one that stands, where each caller's clients are its own.
abbrev pub RequestsRefused : Type 0
RequestsRefused = (size : ℕ) → (history : History) → (caller : ℕ) → IsLegal (opening size) history → HaveOwnClients history →
    (before after : List BufferEntry) → (client id mask : ℕ) → (kind : Kind) → (why : RequestRefusal) →
    entries_by caller history ≡ before ++ Request client id mask kind (Err why) ∷ after →
    (number : ℕ) × (asks (calls_after [] before) client number ≡ true)

-- these calls began a run with this number or a greater one
pub record HasBegunFrom (before : List BufferEntry) (start : ℕ) : Type 0 where
  pub number : ℕ
  pub begun : has_begun before number ≡ true
  pub above : start ≤ number

-- these calls began a run, and did not call it to end since
pub record HasLeftOpen (before : List BufferEntry) : Type 0 where
  pub number : ℕ
  pub open_is : is_left_open before number ≡ true

-- Where one caller alone makes marks, a begin is refused only where its number is 0 or not above that of each run that the
-- caller began before, or where it did not call one of these to end.
abbrev pub BeginsRefused : Type 0
BeginsRefused = (size : ℕ) → (history : History) → (caller : ℕ) → IsLegal (opening size) history → MarksAlone history caller →
    (before after : List BufferEntry) → (start : ℕ) → (why : MarkRefusal) →
    entries_by caller history ≡ before ++ Begin start (Err why) ∷ after →
    (start ≡ 0) ⊎ (HasBegunFrom (calls_after [] before) start ⊎ HasLeftOpen (calls_after [] before))
