-- One call more among those of a caller that gives a buffer no cause to refuse it.
use Rattle.std.specs.Prelude.{◌≡◌, ℕ, ◌+◌, Bool, true, false, List, [], ◌∷◌, ◌++◌, Ok, refl}
use Rattle.std.proofs.Common.{ap, sym, subst, ◌∙◌, inl, inr}
use Rattle.std.proofs.lemmas.Bool.Decides.{eqb_tells}
use Rattle.std.proofs.lemmas.List.{append-nil}
use Rattle.std.proofs.lemmas.List.Sums.{sum_by-append}
use Rattle.std.proofs.Common.{append_assoc}
use Rattle.buffer_core.specs.declared.entry.BufferEntry.{BufferEntry}
use Rattle.buffer_core.specs.declared.entry.BufferEntry.TheVariants.{Begin, End}
use Rattle.member_model.specs.OwnCalls.{calls_after}
use Rattle.member_model.specs.SentCalls.{EachCall}
use Rattle.member_model.specs.FairCalls.{attaches_by, attaches_made, IsLoneRequest, AreLoneRequests, begun_by, has_begun, left_open_by, is_left_open}
use Rattle.member_model.proofs.ReadLaws.{calls_after-push}

pub attaches-append : (own more : List BufferEntry) → attaches_made (own ++ more) ≡ attaches_made own + attaches_made more
attaches-append own more = sum_by-append attaches_by own more

-- a call more, where its request is alone
pub lone-push : (own : List BufferEntry) (e : BufferEntry) → IsLoneRequest e (calls_after [] own) → AreLoneRequests (calls_after [] own) → AreLoneRequests (calls_after [] (own ++ e ∷ []))
lone-push own e alone are = subst AreLoneRequests (sym (calls_after-push [] own e)) (alone, are)

-- a call is no request at any point
abbrev pub NoRequest : BufferEntry → Type 0
NoRequest e = (before : List BufferEntry) → IsLoneRequest e before

-- calls more none of which is a request
pub lone-append : (own more : List BufferEntry) → EachCall NoRequest more → AreLoneRequests (calls_after [] own) → AreLoneRequests (calls_after [] (own ++ more))
lone-append own [] none are = subst (λ (l : List BufferEntry). AreLoneRequests (calls_after [] l)) (sym (append-nil own)) are
lone-append own (e ∷ es) none are =
    subst (λ (l : List BufferEntry). AreLoneRequests (calls_after [] l)) (append_assoc own (e ∷ []) es)
    (lone-append (own ++ e ∷ []) es none.1 (lone-push own e (none.0 (calls_after [] own)) are))

-- Runs.

pub begun-push : (own : List BufferEntry) (e : BufferEntry) (start : ℕ) → has_begun (calls_after [] (own ++ e ∷ [])) start ≡ begun_by e start (has_begun (calls_after [] own) start)
begun-push own e start = ap (λ (es : List BufferEntry). has_begun es start) (calls_after-push [] own e)

pub open-push : (own : List BufferEntry) (e : BufferEntry) (start : ℕ) → is_left_open (calls_after [] (own ++ e ∷ [])) start ≡ left_open_by e start (is_left_open (calls_after [] own) start)
open-push own e start = ap (λ (es : List BufferEntry). is_left_open es start) (calls_after-push [] own e)

-- a call that neither begins a run nor is to end one
abbrev pub LeavesRuns : BufferEntry → Type 0
LeavesRuns e = (start : ℕ) → (before : Bool) → (begun_by e start before ≡ before) × (left_open_by e start before ≡ before)

-- such calls more
pub begun-append : (own more : List BufferEntry) (start : ℕ) → EachCall LeavesRuns more → has_begun (calls_after [] (own ++ more)) start ≡ has_begun (calls_after [] own) start
begun-append own [] start leaves = ap (λ (l : List BufferEntry). has_begun (calls_after [] l) start) (append-nil own)
begun-append own (e ∷ es) start leaves =
    sym (ap (λ (l : List BufferEntry). has_begun (calls_after [] l) start) (append_assoc own (e ∷ []) es))
    ∙ (begun-append (own ++ e ∷ []) es start leaves.1
    ∙ (begun-push own e start ∙ (leaves.0 start (has_begun (calls_after [] own) start)).0))

pub open-append : (own more : List BufferEntry) (start : ℕ) → EachCall LeavesRuns more → is_left_open (calls_after [] (own ++ more)) start ≡ is_left_open (calls_after [] own) start
open-append own [] start leaves = ap (λ (l : List BufferEntry). is_left_open (calls_after [] l) start) (append-nil own)
open-append own (e ∷ es) start leaves =
    sym (ap (λ (l : List BufferEntry). is_left_open (calls_after [] l) start) (append_assoc own (e ∷ []) es))
    ∙ (open-append (own ++ e ∷ []) es start leaves.1
    ∙ (open-push own e start ∙ (leaves.0 start (is_left_open (calls_after [] own) start)).1))

-- a run that is left open was begun
pub open_begun : (es : List BufferEntry) (start : ℕ) → is_left_open es start ≡ true → has_begun es start ≡ true
open_begun [] start is = is
open_begun (Begin s (Ok place) ∷ es) start is = elim (eqb_tells s start) as (λ w. has_begun (Begin s (Ok place) ∷ es) start ≡ true) [
  | inl same ↦ rw same.0 refl
  | inr other ↦ rw other.0 (open_begun es start (rw other.0 at is))
]
open_begun (End s reply ∷ es) start is = elim (eqb_tells s start) as (λ w. has_begun es start ≡ true) [
  | inl same ↦ absurd (let never : false ≡ true = rw same.0 at is in cc (never))
  | inr other ↦ open_begun es start (rw other.0 at is)
]
open_begun (e ∷ es) start is = open_begun es start is
