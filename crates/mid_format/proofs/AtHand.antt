-- Bytes that lie at hand, and an event that is taken from them whole.
use Rattle.std.proofs.Common.{◌≡◌, ◌∙◌, ℕ, ◌+◌, ◌-◌, ◌≤◌, ◌^◌, List, [], ◌∷◌, ◌++◌, length, take, drop, Option, Some, None, slice_range, refl, ap, sym, subst, arith, length-take, length-drop, length-append, append_assoc}
use Rattle.std.proofs.Math.Seq.{take-add}
use Rattle.std.proofs.lemmas.List.{drop-drop, drop-take}
use Rattle.std.specs.Io.KnownBytes.{Consumes, prepend_known}
use Rattle.daq_types.specs.declared.events.Event.{Event}
use Rattle.event.specs.Events.{encoding, all_encoded}
use Rattle.event.proofs.Events.{all_encoded-append, length-encoding}
use Rattle.event.specs.Held.{HeldEvent}
use Rattle.event.specs.Headers.{header_encoding}
use Rattle.event.specs.declared.head.Header.{Header}
use Rattle.mid_format.specs.Parts.{ReadsHead, ReadsBody}
use Rattle.mid_format.specs.HasRead.{HasRead}
use Rattle.mid_format.specs.AtHand.{StandsWhole, event_at_front}
use Rattle.mid_format.specs.declared.progress.Progress.{Progress}
use Rattle.mid_format.proofs.Allowed.{IsEventHeader, event_allowed}
use Rattle.mid_format.proofs.Going.{one_more}
use Rattle.mid_format.proofs.ReadLaws.{events_before}

-- a range without the bytes at its front
pub range_behind : (xs : List ℕ) (a b count : ℕ) → a + count ≤ b → slice_range xs (a + count) b ≡ drop count (slice_range xs a b)
range_behind xs a b count within =
    let whole : count + (b - (a + count)) ≡ b - a = omega arith in
    ap (λ (l : List ℕ). take (b - (a + count)) l) (sym (drop-drop count a xs)) ∙ (sym (drop-take count (b - (a + count)) (drop a xs)) ∙ ap (λ (n : ℕ). drop count (take n (drop a xs))) whole)

-- bytes at hand are taken from the front of those left
pub taken_at_hand : (left : Option (List ℕ)) (old front new : List ℕ) → old ≡ front ++ new → Consumes (prepend_known old left) (prepend_known new left) front
taken_at_hand None old front new e = tt
taken_at_hand (Some xs) old front new e = ap (λ (l : List ℕ). l ++ xs) e ∙ append_assoc front new xs

-- what was taken in one was taken in two parts
middle_of : (before after : Option (List ℕ)) (front back : List ℕ) → Consumes before after (front ++ back) → Consumes before (prepend_known back after) front
middle_of None after front back c = tt
middle_of (Some xs) None front back c = absurd c
middle_of (Some xs) (Some ys) front back c = c ∙ append_assoc front back ys

behind_middle : (after : Option (List ℕ)) (back : List ℕ) → Consumes (prepend_known back after) after back
behind_middle None back = tt
behind_middle (Some ys) back = refl

-- how many bytes there are with one event more
pub encoded_more : (events : List Event) (event : Event) → length (all_encoded (events ++ event ∷ [])) ≡ length (all_encoded events) + (16 + length event.body)
encoded_more events event =
    omega (arith, ap (length {A = ℕ}) (all_encoded-append events (event ∷ [])), length-append (all_encoded events) (encoding event ++ []), length-append (encoding event) [], length-encoding event)

-- and how many events have together
pub encoded_both : (before events : List Event) → length (all_encoded (before ++ events)) ≡ length (all_encoded before) + length (all_encoded events)
encoded_both before events = ap (length {A = ℕ}) (all_encoded-append before events) ∙ length-append (all_encoded before) (all_encoded events)

-- events that were read, with those of the files before, are as few as a taker may have
pub within_more : (start : ℕ) (first now : Option (List ℕ)) (p : Progress) (before events : List Event) (event : Event) → length (all_encoded before) ≤ start → HasRead start first now p (events ++ event ∷ [])
    → length (all_encoded ((before ++ events) ++ event ∷ [])) ≤ 2 ^ 62
within_more start first now p before events event few r =
    omega (arith, encoded_more (before ++ events) event, encoded_both before events, encoded_more events event, events_before start first now p (events ++ event ∷ []) r, few, r.within)

module _ (old : Progress) (bytes : List ℕ) (h : Header) (w : StandsWhole old bytes h) where
  abbrev body : List ℕ
  body = take h.data_size (drop 16 bytes)

  length_body : length (take h.data_size (drop 16 bytes)) ≡ h.data_size
  length_body = length-take h.data_size (drop 16 bytes) ∙ omega (arith, length-drop 16 bytes, w.whole)

  parts : take (16 + h.data_size) bytes ≡ header_encoding h ++ take h.data_size (drop 16 bytes)
  parts = take-add 16 h.data_size bytes ∙ ap (λ (l : List ℕ). l ++ take h.data_size (drop 16 bytes)) (sym w.head)

  allowed : IsEventHeader old.at h
  allowed = event_allowed w.begin.serial_number old.at h w.fine w.no_end

  pub within_whole : old.at + 16 + h.data_size ≤ 2 ^ 62
  within_whole = allowed.sized.within

  -- one event more, of bytes that lie at hand
  pub one_whole : (start : ℕ) (first before after : Option (List ℕ)) (new : Progress) (events : List Event) → HasRead start first before old events → Consumes before after (take (16 + h.data_size) bytes)
      → new ≡ record old { at = old.at + 16 + h.data_size } → HasRead start first after new (events ++ event_at_front h bytes ∷ [])
  one_whole start first before after new events r taken is_new =
      let consumed : Consumes before after (header_encoding h ++ body) = subst (Consumes before after) parts taken in
      let head : ReadsHead before (prepend_known body after) (Some w.begin.serial_number) old.at h =
      record { consumed = middle_of before after (header_encoding h) body consumed; fine = w.fine; in_range = w.in_range } in
      let held : HeldEvent = record { event = event_at_front h bytes; room = 0 } in
      let read : ReadsBody (prepend_known body after) after h held = record { body = body; length = length_body; consumed = behind_middle after body; event = refl } in
      subst (λ (p : Progress). HasRead start first after p (events ++ event_at_front h bytes ∷ [])) (sym is_new)
      (one_more start first before old events r w.going w.begin w.begun (prepend_known body after) h head after held w.no_end read)

  -- those that were read, with this one, are as few as a taker may have
  pub may_take : (start : ℕ) (first left : Option (List ℕ)) (before events : List Event) → length (all_encoded before) ≤ start → HasRead start first left old events
      → length (all_encoded ((before ++ events) ++ event_at_front h bytes ∷ [])) ≤ 2 ^ 62
  may_take start first left before events few r =
      omega (arith, encoded_more (before ++ events) (event_at_front h bytes), encoded_both before events, length_body, events_before start first left old events r, few, within_whole)
