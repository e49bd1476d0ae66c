-- A line more in a journal.
use Rattle.std.specs.Prelude.{◌≡◌, ℕ, zero, suc, ◌+◌, ◌<◌, ◌≤◌, List, [], ◌∷◌, ◌++◌, length, take, drop, sum_by, slice_get, Some, refl}
use Rattle.std.proofs.Common.{get_or, ap, sym, subst, ◌∙◌, arith}
use Rattle.std.proofs.lemmas.List.{take-append-le, drop-append-le, length-drop, drop-drop, take_all, nil_from_length}
use Rattle.std.proofs.lemmas.List.Sums.{sum_by-cons}
use Rattle.buffer_core.specs.declared.entry.BufferEntry.{BufferEntry}
use Rattle.buffer_core.specs.declared.entry.BufferEntry.TheVariants.{Send, SendInRun}
use Rattle.plain_buffer.specs.declared.journal.Line.{Line}
use Rattle.plain_buffer.specs.Journals.{entries_of, entry_with, size_of_line, AreBehind, IsApart, AreSized}

pub length-entries_of : (lines : List Line) (bytes : List ℕ) → length (entries_of lines bytes) ≡ length lines
length-entries_of [] bytes = refl
length-entries_of (l ∷ ls) bytes = ap (λ (n : ℕ). suc n) (length-entries_of ls (drop l.size bytes))

pub entries_of-push : (lines : List Line) (bytes : List ℕ) (l : Line) (body : List ℕ) → sum_by size_of_line lines ≡ length bytes → l.size ≡ length body
    → entries_of (lines ++ l ∷ []) (bytes ++ body) ≡ entries_of lines bytes ++ (l.caller, entry_with body l.entry) ∷ []
entries_of-push [] bytes l body whole stated =
    ap (λ (bs : List ℕ). (l.caller, entry_with (take l.size (bs ++ body)) l.entry) ∷ []) (nil_from_length bytes (sym whole))
    ∙ ap (λ (bs : List ℕ). (l.caller, entry_with bs l.entry) ∷ []) (take_all l.size body (omega (arith, stated)))
entries_of-push (q ∷ qs) bytes l body whole stated =
    let n : ℕ = q.size in
    let first : n ≤ length bytes = omega (arith, whole, sum_by-cons size_of_line q qs) in
    let others : sum_by size_of_line qs ≡ length (drop n bytes) = omega (arith, whole, sum_by-cons size_of_line q qs, length-drop n bytes) in
    ap (λ (bs : List ℕ). (q.caller, entry_with bs q.entry) ∷ entries_of (qs ++ l ∷ []) (drop n (bytes ++ body))) (take-append-le n bytes body first)
    ∙ (ap (λ (bs : List ℕ). (q.caller, entry_with (take n bytes) q.entry) ∷ entries_of (qs ++ l ∷ []) bs) (drop-append-le n bytes body first)
    ∙ ap (λ (es : List (ℕ × BufferEntry)). (q.caller, entry_with (take n bytes) q.entry) ∷ es) (entries_of-push qs (drop n bytes) l body others stated))

pub behind_push : (from : ℕ) (lines : List Line) (l : Line) → AreBehind from lines → l.from ≡ from + sum_by size_of_line lines → AreBehind from (lines ++ l ∷ [])
behind_push from [] l behind is = (omega (arith, is), tt)
behind_push from (q ∷ qs) l behind is = (behind.0, behind_push (from + q.size) qs l behind.1 (omega (arith, is, sum_by-cons size_of_line q qs)))

-- Data beside their calls.

-- other data of as many bytes may stand beside the call
pub apart_same : (entry : BufferEntry) (body other : List ℕ) → length other ≡ length body → IsApart entry body → IsApart entry other
apart_same (Send stated e reply) body other same apart = record { bare = apart.bare; whole = refl }
apart_same (SendInRun start stated e reply) body other same apart = record { bare = apart.bare; whole = refl }
apart_same entry body other same apart = record { bare = apart.bare; whole = same ∙ apart.whole }

pub apart_push : (lines : List Line) (l : Line) → AreSized lines → ((body : List ℕ) → length body ≡ l.size → IsApart l.entry body) → AreSized (lines ++ l ∷ [])
apart_push [] l apart here = (here, tt)
apart_push (q ∷ qs) l apart here = (apart.0, apart_push qs l apart.1 here)

apart_at : (lines : List Line) (number : ℕ) (l : Line) (body : List ℕ) → AreSized lines → slice_get lines number ≡ Some l → length body ≡ l.size → IsApart l.entry body
apart_at [] number l body apart is stated = absurd (cc)
apart_at (q ∷ qs) zero l body apart is stated =
    let same : q ≡ l = cc in
    subst (λ (x : Line). length body ≡ x.size → IsApart x.entry body) same (apart.0 body) stated
apart_at (q ∷ qs) (suc number) l body apart is stated = apart_at qs number l body apart.1 is stated

-- what a line of a journal stands for
pub record IsLine (lines : List Line) (bytes : List ℕ) (from number : ℕ) (l : Line) : Type 0 where
  pub within : l.from + l.size ≤ length bytes
  pub noted : slice_get (entries_of lines (drop from bytes)) number ≡ Some (l.caller, entry_with (take l.size (drop l.from bytes)) l.entry)

pub line_at : (lines : List Line) (bytes : List ℕ) (from number : ℕ) (l : Line) → AreBehind from lines → from + sum_by size_of_line lines ≤ length bytes
    → slice_get lines number ≡ Some l → IsLine lines bytes from number l
line_at [] bytes from number l behind whole is = absurd (cc)
line_at (q ∷ qs) bytes from zero l behind whole is =
    let same : q ≡ l = cc in
    let here : IsLine (q ∷ qs) bytes from zero q =
    record {
      within = omega (arith, behind.0, whole, sum_by-cons size_of_line q qs);
      noted = ap (λ (n : ℕ). Some (q.caller, entry_with (take q.size (drop n bytes)) q.entry)) (sym behind.0);
    } in
    subst (λ (x : Line). IsLine (q ∷ qs) bytes from zero x) same here
line_at (q ∷ qs) bytes from (suc number) l behind whole is =
    let rest : IsLine qs bytes (from + q.size) number l = line_at qs bytes (from + q.size) number l behind.1 (omega (arith, whole, sum_by-cons size_of_line q qs)) is in
    let dropped : drop q.size (drop from bytes) ≡ drop (from + q.size) bytes = drop-drop q.size from bytes in
    record {
      within = rest.within;
      noted = ap (λ (bs : List ℕ). slice_get (entries_of qs bs) number) dropped ∙ rest.noted;
    }

get_at : (lines : List Line) (number : ℕ) (d : Line) → number < length lines → slice_get lines number ≡ Some (get_or lines number d)
get_at [] number d within = absurd (omega (arith, within))
get_at (q ∷ qs) zero d within = refl
get_at (q ∷ qs) (suc number) d within = get_at qs number d (omega (arith, within))

-- the line of this number
pub line_is : (lines : List Line) (bytes : List ℕ) (number : ℕ) (l : Line) → AreBehind 0 lines → sum_by size_of_line lines ≡ length bytes → number < length lines
    → l ≡ get_or lines number l → IsLine lines bytes 0 number l
line_is lines bytes number l behind whole within is =
    line_at lines bytes 0 number l behind (omega (arith, whole)) (get_at lines number l within ∙ ap (λ (x : Line). Some x) (sym is))

pub line_apart : (lines : List Line) (number : ℕ) (l : Line) (body : List ℕ) → AreSized lines → number < length lines → l ≡ get_or lines number l → length body ≡ l.size → IsApart l.entry body
line_apart lines number l body apart within is stated = apart_at lines number l body apart (get_at lines number l within ∙ ap (λ (x : Line). Some x) (sym is)) stated
