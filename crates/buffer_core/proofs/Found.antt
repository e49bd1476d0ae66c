-- What a client finds among kept events, and which of them are owed.
use Rattle.std.specs.Prelude.{◌≡◌, ℕ, zero, suc, ◌+◌, ◌<◌, true, false, if◌then◌else◌, List, [], ◌∷◌, slice_get, Option, Some, None, refl}
use Rattle.std.proofs.Common.{ap, ◌∙◌, subst, arith}
use Rattle.std.proofs.lemmas.Option.{some_pair_parts}
use Rattle.buffer_core.specs.declared.client.Client.{Client}
use Rattle.buffer_core.specs.Slots.{first_slot}
use Rattle.buffer_core.specs.Window.{Sent, wants, owes}
use Rattle.buffer_core.specs.Calls.{found_in, owed_in, or_later}
use Rattle.buffer_core.proofs.SlotLaws.{split}

-- an option is none or some
pub split_option : {A : Type 0} (o : Option A) (P : Option A → Type 0) → (o ≡ None → P None) → ((x : A) → o ≡ Some x → P (Some x)) → P o
split_option None P none some = none refl
split_option (Some x) P none some = some x refl

-- the event stands among these, the first of which has this place; the client wants it and none before it
pub record IsFound (c : Client) (first : ℕ) (ss : List Sent) (place : ℕ) (s : Sent) : Type 0 where
  pub index : ℕ
  pub place_is : place ≡ first + index
  pub is : slice_get ss index ≡ Some s
  pub wanted : wants place s.event c ≡ true
  pub least : (i q : ℕ) (x : Sent) → q ≡ first + i → slice_get ss i ≡ Some x → q < place → wants q x.event c ≡ false

-- none is wanted below a place, where the first of them is not and none behind it below that place is
found_before : (c : Client) (first : ℕ) (y : Sent) (ys : List Sent) (place : ℕ) → wants first y.event c ≡ false →
    ((i q : ℕ) (x : Sent) → q ≡ suc first + i → slice_get ys i ≡ Some x → q < place → wants q x.event c ≡ false) →
    (i q : ℕ) (x : Sent) → q ≡ first + i → slice_get (y ∷ ys) i ≡ Some x → q < place → wants q x.event c ≡ false
found_before c first y ys place miss rest zero q x at_q e less =
    let q_is : first ≡ q = omega (arith, at_q) in
    let same : y ≡ x = cc in
    subst (λ (s : Sent). wants q s.event c ≡ false) same (subst (λ (n : ℕ). wants n y.event c ≡ false) q_is miss)
found_before c first y ys place miss rest (suc i) q x at_q e less = rest i q x (omega (arith, at_q)) e less

pub found : (c : Client) (first : ℕ) (ss : List Sent) (place : ℕ) (s : Sent) → found_in c first ss ≡ Some (place, s) → IsFound c first ss place s
found c first [] place s e = absurd (cc)
found c first (y ∷ ys) place s e =
    split (wants first y.event c) (λ b. wants first y.event c ≡ b → (if b then Some (first, y) else found_in c (suc first) ys) ≡ Some (place, s) → IsFound c first (y ∷ ys) place s)
    (λ h hit here.
    let parts = some_pair_parts first place y s here in
    let same : y ≡ s = parts.1 in
    record {
      index = 0;
      place_is = omega (arith, parts.0);
      is = ap (λ (x : Sent). Some x) same;
      wanted = subst (λ (x : Sent). wants place x.event c ≡ true) same (subst (λ (n : ℕ). wants n y.event c ≡ true) parts.0 hit);
      least = λ i q x at_q e less. absurd (omega (arith, at_q, less, parts.0));
    })
    (λ h miss later.
    let rest : IsFound c (suc first) ys place s = found c (suc first) ys place s later in
    record {
      index = suc rest.index;
      place_is = omega (arith, rest.place_is);
      is = rest.is;
      wanted = rest.wanted;
      least = found_before c first y ys place miss rest.least;
    })
    refl e

-- where none is found, none is wanted
pub not_found : (c : Client) (first : ℕ) (ss : List Sent) → found_in c first ss ≡ None → (i q : ℕ) (x : Sent) → q ≡ first + i → slice_get ss i ≡ Some x → wants q x.event c ≡ false
not_found c first [] none i q x at_q e = absurd (cc)
not_found c first (y ∷ ys) none zero q x at_q e =
    split (wants first y.event c) (λ b. wants first y.event c ≡ b → (if b then Some (first, y) else found_in c (suc first) ys) ≡ None → wants q x.event c ≡ false)
    (λ h hit some. absurd (cc (some)))
    (λ h miss later.
    let q_is : first ≡ q = omega (arith, at_q) in
    let same : y ≡ x = cc (e) in
    subst (λ (s : Sent). wants q s.event c ≡ false) same (subst (λ (n : ℕ). wants n y.event c ≡ false) q_is miss))
    refl none
not_found c first (y ∷ ys) none (suc i) q x at_q e =
    split (wants first y.event c) (λ b. (if b then Some (first, y) else found_in c (suc first) ys) ≡ None → wants q x.event c ≡ false)
    (λ h some. absurd (cc (some)))
    (λ h later. not_found c (suc first) ys later i q x (omega (arith, at_q)) e)
    none

-- the event of this place stands among these and is owed first to this client, and none before it is owed
pub record IsFirstOwed (clients : List (Option Client)) (first : ℕ) (ss : List Sent) (client place : ℕ) : Type 0 where
  pub index : ℕ
  pub sent : Sent
  pub place_is : place ≡ first + index
  pub is : slice_get ss index ≡ Some sent
  pub to : first_slot (owes place sent.event) clients ≡ Some client
  pub least : (i q : ℕ) (x : Sent) → q ≡ first + i → slice_get ss i ≡ Some x → q < place → first_slot (owes q x.event) clients ≡ None

owed_before : (clients : List (Option Client)) (first : ℕ) (y : Sent) (ys : List Sent) (place : ℕ) → first_slot (owes first y.event) clients ≡ None →
    ((i q : ℕ) (x : Sent) → q ≡ suc first + i → slice_get ys i ≡ Some x → q < place → first_slot (owes q x.event) clients ≡ None) →
    (i q : ℕ) (x : Sent) → q ≡ first + i → slice_get (y ∷ ys) i ≡ Some x → q < place → first_slot (owes q x.event) clients ≡ None
owed_before clients first y ys place miss rest zero q x at_q e less =
    let q_is : first ≡ q = omega (arith, at_q) in
    let same : y ≡ x = cc in
    subst (λ (s : Sent). first_slot (owes q s.event) clients ≡ None) same (subst (λ (n : ℕ). first_slot (owes n y.event) clients ≡ None) q_is miss)
owed_before clients first y ys place miss rest (suc i) q x at_q e less = rest i q x (omega (arith, at_q)) e less

pub owed : (clients : List (Option Client)) (first : ℕ) (ss : List Sent) (client place : ℕ) → owed_in clients first ss ≡ Some (client, place) → IsFirstOwed clients first ss client place
owed clients first [] client place e = absurd (cc)
owed clients first (y ∷ ys) client place e =
    split_option (first_slot (owes first y.event) clients) (λ o. or_later o first (owed_in clients (suc first) ys) ≡ Some (client, place) → IsFirstOwed clients first (y ∷ ys) client place)
    (λ miss later.
    let rest : IsFirstOwed clients (suc first) ys client place = owed clients (suc first) ys client place later in
    record {
      index = suc rest.index;
      sent = rest.sent;
      place_is = omega (arith, rest.place_is);
      is = rest.is;
      to = rest.to;
      least = owed_before clients first y ys place miss rest.least;
    })
    (λ d hit here.
    let parts = some_pair_parts d client first place here in
    record {
      index = 0;
      sent = y;
      place_is = omega (arith, parts.1);
      is = refl;
      to = subst (λ (n : ℕ). first_slot (owes n y.event) clients ≡ Some client) parts.1 (hit ∙ ap (λ (n : ℕ). Some n) parts.0);
      least = λ i q x at_q e less. absurd (omega (arith, at_q, less, parts.1));
    })
    e

-- where none is owed, nobody is owed any
pub not_owed : (clients : List (Option Client)) (first : ℕ) (ss : List Sent) → owed_in clients first ss ≡ None → (i q : ℕ) (x : Sent) → q ≡ first + i → slice_get ss i ≡ Some x → first_slot (owes q x.event) clients ≡ None
not_owed clients first [] none i q x at_q e = absurd (cc)
not_owed clients first (y ∷ ys) none zero q x at_q e =
    split_option (first_slot (owes first y.event) clients) (λ o. or_later o first (owed_in clients (suc first) ys) ≡ None → first_slot (owes q x.event) clients ≡ None)
    (λ miss later.
    let q_is : first ≡ q = omega (arith, at_q) in
    let same : y ≡ x = cc (e) in
    subst (λ (s : Sent). first_slot (owes q s.event) clients ≡ None) same (subst (λ (n : ℕ). first_slot (owes n y.event) clients ≡ None) q_is miss))
    (λ d hit some. absurd (cc (some)))
    none
not_owed clients first (y ∷ ys) none (suc i) q x at_q e =
    split_option (first_slot (owes first y.event) clients) (λ o. or_later o first (owed_in clients (suc first) ys) ≡ None → first_slot (owes q x.event) clients ≡ None)
    (λ miss later. not_owed clients (suc first) ys later i q x (omega (arith, at_q)) e)
    (λ d hit some. absurd (cc (some)))
    none
