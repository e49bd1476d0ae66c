-- The events of the generator: what a front-end of this system sends.
use Rattle.std.specs.Prelude.{ℕ, zero, suc, ◌+◌, ◌-◌, ◌*◌, ◌/◌, ◌%◌, ◌^◌, List, [], ◌∷◌, ◌++◌, replicate, codes}
use Rattle.std.specs.Int.{to_le_bytes, w16, w32}
use Rattle.daq_types.specs.declared.events.Event.{Event}
use Rattle.daq_types.specs.declared.runs.Order.{Order}

-- the generator's state behind this one
unfoldable pub next_state : ℕ → ℕ
next_state x = (x * 6364136223846793005 + 1442695040888963407) % 2 ^ 64

-- the state after so many words
abbrev pub state_after : (words : ℕ) → ℕ → ℕ
state_after zero x = x
state_after (suc n) x = next_state (state_after n x)

-- so many words from this state on: each is the upper half of the state that it leads to
abbrev pub generated_words : (words : ℕ) → ℕ → List ℕ
generated_words zero x = []
generated_words (suc n) x = generated_words n x ++ (next_state (state_after n x) / 2 ^ 32) ∷ []

-- words of four bytes, one after the other
abbrev pub words_encoded : List ℕ → List ℕ
words_encoded [] = []
words_encoded (w ∷ ws) = to_le_bytes w32 w ++ words_encoded ws

-- the state from which the words of event k come
abbrev pub first_state : (id start k : ℕ) → ℕ
first_state id start k = 4294967296 * (id - 1) + start + (k - 1)

-- how many words event k has: 1 to 16 in turn
abbrev pub word_count : (k : ℕ) → ℕ
word_count k = 1 + (k - 1) % 16

-- a bank area of 16-bit banks with one bank GEN0 of type UINT32: its length and flags; the bank's name, type and
-- length; the words; zeros up to a multiple of 8
unfoldable pub generated_body : (id start k : ℕ) → List ℕ
generated_body id start k =
    let count : ℕ = word_count k in
    to_le_bytes w32 (8 + (4 * count + 7) / 8 * 8) ++ (to_le_bytes w32 1
    ++ (codes "GEN0" ++ (to_le_bytes w16 6 ++ (to_le_bytes w16 (4 * count)
    ++ (words_encoded (generated_words count (first_state id start k)) ++ replicate (4 * (count % 2)) 0)))))

-- event k of a front-end with this id and mask, in the run of this order
abbrev pub generated_event : Order → (id mask k : ℕ) → Event
generated_event order id mask k =
    record { id = id; mask = mask; serial = k; time = order.time; body = generated_body id order.start k }

-- events 1 to n
abbrev pub generated_events : Order → (id mask n : ℕ) → List Event
generated_events order id mask zero = []
generated_events order id mask (suc n) = generated_events order id mask n ++ generated_event order id mask (suc n) ∷ []
