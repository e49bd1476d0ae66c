-- A run that a caller began in a buffer and then called to end; and calls that make no mark.
use Rattle.std.specs.Prelude.{◌≡◌, ℕ, List, ◌∷◌, ◌++◌, Result, Ok, ⊤}
use Rattle.buffer_core.specs.declared.replies.MarkRefusal.{MarkRefusal}
use Rattle.buffer_core.specs.declared.entry.BufferEntry.{BufferEntry}
use Rattle.buffer_core.specs.declared.entry.BufferEntry.TheVariants.{Begin, Pause, Resume, End}

-- One of these calls began the run with this start number, and behind it stands a call to end that run, whatever it was
-- replied.
pub record EndsBegun (calls : List BufferEntry) (start : ℕ) : Type 0 where
  pub begun : ℕ
  pub reply : Result ℕ MarkRefusal
  pub before : List BufferEntry
  pub running : List BufferEntry
  pub after : List BufferEntry
  pub is : calls ≡ before ++ Begin start (Ok begun) ∷ (running ++ End start reply ∷ after)

-- the call neither begins, pauses, resumes nor ends a run
abbrev pub MakesNoMark : BufferEntry → Type 0
MakesNoMark (Begin start reply) = ⊥
MakesNoMark (Pause start reply) = ⊥
MakesNoMark (Resume start reply) = ⊥
MakesNoMark (End start reply) = ⊥
MakesNoMark entry = ⊤
