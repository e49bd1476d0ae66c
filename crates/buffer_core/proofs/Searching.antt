-- The searches of the step find what their plain words say.
use Rattle.std.specs.Prelude.{◌≡◌, ℕ, ◌+◌, ◌<◌, ◌≤◌, Bool, true, false, nat_le, List, drop, sum_by, slice_get, Option, Some, None, refl}
use Rattle.std.proofs.Common.{ap, sym, ◌∙◌, subst, arith}
use Rattle.std.proofs.Math.Logic.{⊎_elim}
use Rattle.std.proofs.lemmas.Bool.{and_parts, leb-true, cases_lt}
use Rattle.daq_types.specs.declared.events.Event.{Event}
use Rattle.daq_types.specs.declared.runs.Kind.{Kind}
use Rattle.daq_types.specs.declared.runs.Kind.TheVariants.{All, NonBlocking}
use Rattle.event.specs.Events.{matches}
use Rattle.buffer_core.specs.declared.client.Client.{Client}
use Rattle.buffer_core.specs.Slots.{slot_at, first_slot, some_slot}
use Rattle.buffer_core.specs.Window.{Sent, slot_of_sent, StandsAt, covers, wants, is_all, holds_back, owes}
use Rattle.buffer_core.specs.Calls.{found_in, owed_in, to_drop}
use Rattle.buffer_core.proofs.WindowLaws.{to_drop_fits}
use Rattle.buffer_core.specs.Searches.{IsAskedFor, IsOwedTo, IsFirstAsked, IsOwed, IsLeastOwed, IsLeastDrop}
use Rattle.buffer_core.specs.Searches.{FoundIsFirst, FirstIsFound, NotFoundIsNone, NoneIsNotFound, OwedIsLeast, LeastIsOwed, NotOwedIsNone, NoneIsNotOwed, DropIsLeast, LeastIsDrop}
use Rattle.buffer_core.proofs.Places.{goes}
use Rattle.buffer_core.proofs.Numbered.{some_found, IsFirst, first_found, none_found}
use Rattle.buffer_core.proofs.Following.{wants_true, owes_true, wants_next, owes_next}
use Rattle.buffer_core.proofs.Found.{split_option, IsFound, found, not_found, IsFirstOwed, owed, not_owed}

-- The tests and their words.

asked_for : (place : ℕ) (e : Event) (c : Client) → wants place e c ≡ true → IsAskedFor c place e
asked_for place e c h =
    let some = some_found (covers place e) c.requests (and_parts (nat_le c.next place) (some_slot (covers place e) c.requests) h).1 in
    let parts = and_parts (nat_le some.1.since place) (matches some.1.id some.1.mask e) some.3 in
    record {
      ahead = wants_next place e c h;
      number = some.0;
      request = some.1;
      lives = some.2;
      since = leb-true some.1.since place parts.0;
      matched = parts.1;
    }

wanted : (place : ℕ) (e : Event) (c : Client) → IsAskedFor c place e → wants place e c ≡ true
wanted place e c asked = wants_true place e c asked.number asked.request asked.ahead asked.lives asked.since asked.matched

all_is : (k : Kind) → is_all k ≡ true → k ≡ All
all_is All e = refl
all_is NonBlocking e = absurd (cc)

owed_to : (place : ℕ) (e : Event) (c : Client) → owes place e c ≡ true → IsOwedTo c place e
owed_to place e c h =
    let some = some_found (holds_back place e) c.requests (and_parts (nat_le c.next place) (some_slot (holds_back place e) c.requests) h).1 in
    let both = and_parts (is_all some.1.kind) (covers place e some.1) some.3 in
    let parts = and_parts (nat_le some.1.since place) (matches some.1.id some.1.mask e) both.1 in
    record {
      asked = record {
        ahead = owes_next place e c h;
        number = some.0;
        request = some.1;
        lives = some.2;
        since = leb-true some.1.since place parts.0;
        matched = parts.1;
      };
      all = all_is some.1.kind both.0;
    }

held_back : (place : ℕ) (e : Event) (c : Client) → IsOwedTo c place e → owes place e c ≡ true
held_back place e c is =
    owes_true place e c is.asked.number is.asked.request is.asked.ahead is.asked.lives is.asked.since is.asked.matched (ap is_all is.all)

never : (b : Bool) → b ≡ true → b ≡ false → ⊥
never b hit miss = cc

not_below : (a b : ℕ) → (a < b → ⊥) → b ≤ a
not_below a b refuted = ⊎_elim (λ (less : a < b). absurd (refuted less)) (λ (more : b ≤ a). more) (cases_lt a b)

-- What a receive finds.

pub found_first : FoundIsFirst
found_first c first kept place s e =
    let it : IsFound c first kept place s = found c first kept place s e in
    record {
      stands = record { index = it.index; place_is = it.place_is; is = it.is };
      asked = asked_for place s.event c it.wanted;
      least = λ q t stands asked.
          not_below q place (λ less. never (wants q t.event c) (wanted q t.event c asked) (it.least stands.index q t stands.place_is stands.is less));
    }

pub not_found_none : NotFoundIsNone
not_found_none c first kept none q t stands asked =
    never (wants q t.event c) (wanted q t.event c asked) (not_found c first kept none stands.index q t stands.place_is stands.is)

same_at : (kept : List Sent) (first p q : ℕ) (s t : Sent) → StandsAt kept first p s → StandsAt kept first q t → p ≡ q → s ≡ t
same_at kept first p q s t at_p at_q e =
    let same : at_p.index ≡ at_q.index = omega (arith, at_p.place_is, at_q.place_is, e) in
    let one : Some s ≡ Some t = sym at_p.is ∙ (ap (slice_get kept) same ∙ at_q.is) in
    cc (one)

pub first_found_is : FirstIsFound
first_found_is c first kept place s is =
    split_option (found_in c first kept) (λ o. found_in c first kept ≡ o → o ≡ Some (place, s))
    (λ none _. absurd (not_found_none c first kept none place s is.stands is.asked))
    (λ x some _.
    let other : IsFirstAsked c first kept x.0 x.1 = found_first c first kept x.0 x.1 some in
    let at : x.0 ≡ place = omega (arith, is.least x.0 x.1 other.stands other.asked, other.least place s is.stands is.asked) in
    let event : x.1 ≡ s = same_at kept first x.0 place x.1 s other.stands is.stands at in
    ap (λ (n : ℕ). Some (n, x.1)) at ∙ ap (λ (t : Sent). Some (place, t)) event)
    refl

pub none_not_found : NoneIsNotFound
none_not_found c first kept none =
    split_option (found_in c first kept) (λ o. o ≡ None)
    (λ e. refl)
    (λ x some.
    let it : IsFirstAsked c first kept x.0 x.1 = found_first c first kept x.0 x.1 some in
    absurd (none x.0 x.1 it.stands it.asked))

-- What stands in the way of a send.

owed_first : (clients : List (Option Client)) (place n : ℕ) (s : Sent) (c : Client) → first_slot (owes place s.event) clients ≡ None → slot_at clients n ≡ Some c → IsOwedTo c place s.event → ⊥
owed_first clients place n s c none lives is = never (owes place s.event c) (held_back place s.event c is) (none_found (owes place s.event) clients none n c lives)

pub owed_least : OwedIsLeast
owed_least clients first kept client place e =
    let it : IsFirstOwed clients first kept client place = owed clients first kept client place e in
    let reader : IsFirst (owes place it.sent.event) clients client = first_found (owes place it.sent.event) clients client it.to in
    let stands : StandsAt kept first place it.sent = record { index = it.index; place_is = it.place_is; is = it.is } in
    record {
      owed = record {
        sent = it.sent;
        reader = reader.member;
        stands = stands;
        lives = reader.is;
        owed = owed_to place it.sent.event reader.member reader.passes_it;
      };
      least_place = λ c q is.
          not_below q place (λ less. owed_first clients q c is.sent is.reader (it.least is.stands.index q is.sent is.stands.place_is is.stands.is less) is.lives is.owed);
      least_client = λ c is.
          let same : is.sent ≡ it.sent = same_at kept first place place is.sent it.sent is.stands stands refl in
          not_below c client (λ less.
          never (owes place it.sent.event is.reader)
          (held_back place it.sent.event is.reader (subst (λ (t : Sent). IsOwedTo is.reader place t.event) same is.owed))
          (reader.before c is.reader less is.lives));
    }

pub not_owed_none : NotOwedIsNone
not_owed_none clients first kept none c q is =
    owed_first clients q c is.sent is.reader (not_owed clients first kept none is.stands.index q is.sent is.stands.place_is is.stands.is) is.lives is.owed

pub least_owed_is : LeastIsOwed
least_owed_is clients first kept client place is =
    split_option (owed_in clients first kept) (λ o. owed_in clients first kept ≡ o → o ≡ Some (client, place))
    (λ none _. absurd (not_owed_none clients first kept none client place is.owed))
    (λ x some _.
    let other : IsLeastOwed clients first kept x.0 x.1 = owed_least clients first kept x.0 x.1 some in
    let at : x.1 ≡ place = omega (arith, is.least_place x.0 x.1 other.owed, other.least_place client place is.owed) in
    let mine : IsOwed clients first kept client x.1 = subst (λ (n : ℕ). IsOwed clients first kept client n) (sym at) is.owed in
    let its : IsOwed clients first kept x.0 place = subst (λ (n : ℕ). IsOwed clients first kept x.0 n) at other.owed in
    let who : x.0 ≡ client = omega (arith, is.least_client x.0 its, other.least_client client mine) in
    ap (λ (n : ℕ). Some (n, x.1)) who ∙ ap (λ (n : ℕ). Some (client, n)) at)
    refl

pub none_not_owed : NoneIsNotOwed
none_not_owed clients first kept none =
    split_option (owed_in clients first kept) (λ o. o ≡ None)
    (λ e. refl)
    (λ x some.
    let it : IsLeastOwed clients first kept x.0 x.1 = owed_least clients first kept x.0 x.1 some in
    absurd (none x.0 x.1 it.owed))

-- How many events go.

drop_least_of : (size slot : ℕ) (kept : List Sent) → slot ≤ size → IsLeastDrop size slot kept (to_drop slot_of_sent size slot kept)
drop_least_of size slot kept small =
    record {
      fits = to_drop_fits slot_of_sent size slot kept small;
      least = λ n fits. not_below n (to_drop slot_of_sent size slot kept) (λ more. let much : size < sum_by slot_of_sent (drop n kept) + slot = goes slot_of_sent size slot kept n more in omega (arith, fits, much));
    }

pub drop_least : DropIsLeast
drop_least size slot kept count small e = subst (IsLeastDrop size slot kept) e (drop_least_of size slot kept small)

pub least_drop_is : LeastIsDrop
least_drop_is size slot kept count is =
    let small : slot ≤ size = omega (arith, is.fits) in
    let its : IsLeastDrop size slot kept (to_drop slot_of_sent size slot kept) = drop_least_of size slot kept small in
    omega (arith, is.least (to_drop slot_of_sent size slot kept) its.fits, its.least count is.fits)
