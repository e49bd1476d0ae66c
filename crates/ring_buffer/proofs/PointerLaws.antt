-- The clients without where they go on: they are found and changed as with it.
use Rattle.std.specs.Prelude.{◌≡◌, ℕ, ◌+◌, Bool, cond, not, nat_lt, is_none, List, [], ◌∷◌, length, map, position, Option, Some, None, slice_set, refl}
use Rattle.std.specs.Option.{option_map}
use Rattle.std.specs.List.{position_or_len}
use Rattle.std.proofs.Common.{ap, sym, ◌∙◌}
use Rattle.std.proofs.Math.ListN.{get_or-map}
use Rattle.std.proofs.lemmas.List.{length-map, map-set}
use Rattle.buffer_core.specs.declared.client.Client.{Client}
use Rattle.buffer_core.specs.Slots.{slot_at, free_slot, first_slot, passes, change_slot, change_all}
use Rattle.ring_buffer.specs.declared.pointer.Pointer.{Pointer}
use Rattle.ring_buffer.specs.Pointers.{clients_of}

module _ {X Y : Type 0} where
  place_map : (p : Y → Bool) (q : X → Bool) (f : X → Y) → ((x : X) → p (f x) ≡ q x) → (xs : List X) → position_or_len p (map f xs) ≡ position_or_len q xs
  place_map p q f same [] = refl
  place_map p q f same (x ∷ xs) =
      ap (λ (b : Bool). cond (not b) (1 + position_or_len p (map f xs)) 0) (same x)
      ∙ ap (λ (n : ℕ). cond (not (q x)) (1 + n) 0) (place_map p q f same xs)

  position_map : (p : Y → Bool) (q : X → Bool) (f : X → Y) → ((x : X) → p (f x) ≡ q x) → (xs : List X) → position p (map f xs) ≡ position q xs
  position_map p q f same xs =
      ap (λ (n : ℕ). cond (nat_lt n (length (map f xs))) (Some n) None) (place_map p q f same xs)
      ∙ ap (λ (m : ℕ). cond (nat_lt (position_or_len q xs) m) (Some (position_or_len q xs)) None) (length-map xs f)

passes_client : (test : Client → Bool) (o : Option Pointer) → passes test (option_map (λ (p : Pointer). p.client) o) ≡ passes (λ (p : Pointer). test p.client) o
passes_client test None = refl
passes_client test (Some p) = refl

none_client : (o : Option Pointer) → is_none (option_map (λ (p : Pointer). p.client) o) ≡ is_none o
none_client None = refl
none_client (Some p) = refl

-- the least client that passes a test
pub first_client : (test : Client → Bool) (slots : List (Option Pointer)) → first_slot test (clients_of slots) ≡ first_slot (λ (p : Pointer). test p.client) slots
first_client test slots = position_map (passes test) (passes (λ (p : Pointer). test p.client)) (option_map (λ (p : Pointer). p.client)) (passes_client test) slots

-- the least free number
pub free_client : (slots : List (Option Pointer)) → free_slot (clients_of slots) ≡ free_slot slots
free_client slots = position_map is_none is_none (option_map (λ (p : Pointer). p.client)) none_client slots

-- the client of a number
pub client_at : (slots : List (Option Pointer)) (n : ℕ) → slot_at (clients_of slots) n ≡ option_map (λ (p : Pointer). p.client) (slot_at slots n)
client_at slots n = get_or-map (option_map (λ (p : Pointer). p.client)) slots n None

-- another under a number
pub clients_set : (slots : List (Option Pointer)) (n : ℕ) (o : Option Pointer) → clients_of (slice_set slots n o) ≡ slice_set (clients_of slots) n (option_map (λ (p : Pointer). p.client) o)
clients_set slots n o = map-set (option_map (λ (p : Pointer). p.client)) slots n o

-- one is changed
mapped_client : (f : Pointer → Pointer) (g : Client → Client) → ((p : Pointer) → (f p).client ≡ g p.client) → (o : Option Pointer) → option_map (λ (p : Pointer). p.client) (option_map f o) ≡ option_map g (option_map (λ (p : Pointer). p.client) o)
mapped_client f g same None = refl
mapped_client f g same (Some p) = ap (λ (c : Client). Some c) (same p)

pub clients_change : (f : Pointer → Pointer) (g : Client → Client) → ((p : Pointer) → (f p).client ≡ g p.client) → (slots : List (Option Pointer)) (n : ℕ)
    → clients_of (change_slot f slots n) ≡ change_slot g (clients_of slots) n
clients_change f g same slots n =
    clients_set slots n (option_map f (slot_at slots n))
    ∙ ap (λ (o : Option Client). slice_set (clients_of slots) n o)
    (mapped_client f g same (slot_at slots n) ∙ ap (option_map g) (sym (client_at slots n)))

-- all are changed
pub clients_change_all : (f : Pointer → Pointer) (g : Client → Client) → ((p : Pointer) → (f p).client ≡ g p.client) → (slots : List (Option Pointer))
    → clients_of (change_all f slots) ≡ change_all g (clients_of slots)
clients_change_all f g same [] = refl
clients_change_all f g same (o ∷ os) =
    ap (λ (x : Option Client). x ∷ clients_of (change_all f os)) (mapped_client f g same o)
    ∙ ap (λ (xs : List (Option Client)). option_map g (option_map (λ (p : Pointer). p.client) o) ∷ xs) (clients_change_all f g same os)
