-- A port tells its caller the events that the caller's own calls gave.
use Rattle.std.specs.Prelude.{◌≡◌, ℕ, ◌==◌, if◌then◌else◌, List, [], ◌∷◌, ◌++◌, map, refl}
use Rattle.std.specs.List.{filter}
use Rattle.std.proofs.Common.{ap, ◌∙◌}
use Rattle.std.proofs.lemmas.List.{map-append}
use Rattle.daq_types.specs.Callers.{entries_by}
use Rattle.buffer_core.specs.declared.replies.Received.TheVariants.{Got}
use Rattle.buffer_core.specs.declared.entry.BufferEntry.{BufferEntry}
use Rattle.buffer_core.specs.declared.entry.BufferEntry.TheVariants.{Receive}
use Rattle.buffer_core.proofs.SlotLaws.{split}
use Rattle.buffer_core.specs.Window.{Window}
use Rattle.buffer_core.specs.Calls.{window_after}
use Rattle.buffer_core.specs.Ports.{name_of, name_given, names_given}
use Rattle.buffer_core.specs.CallersView.{given_by, given_in}

name_by : (w : Window) (e : BufferEntry) → map name_of (given_by w e) ≡ name_given e
name_by w (Receive client room (Got place start)) = refl
name_by w e = refl

-- the events that a caller's own calls gave are those that their replies name
pub named_in : (by : ℕ) (w : Window) (h : List (ℕ × BufferEntry)) → map name_of (given_in by w h) ≡ names_given (entries_by by h)
named_in by w [] = refl
named_in by w (x ∷ xs) =
    split (x.0 == by) (λ b. map name_of ((if b then given_by w x.1 else []) ++ given_in by (window_after w x.1) xs) ≡ names_given (map (λ (e : ℕ × BufferEntry). e.1) (if b then x ∷ filter (λ (e : ℕ × BufferEntry). e.0 == by) xs else filter (λ (e : ℕ × BufferEntry). e.0 == by) xs)))
    (λ own. map-append name_of (given_by w x.1) (given_in by (window_after w x.1) xs)
    ∙ (ap (λ (ns : List (ℕ × ℕ × ℕ)). ns ++ map name_of (given_in by (window_after w x.1) xs)) (name_by w x.1)
    ∙ ap (λ (ns : List (ℕ × ℕ × ℕ)). name_given x.1 ++ ns) (named_in by (window_after w x.1) xs)))
    (λ other. named_in by (window_after w x.1) xs)
