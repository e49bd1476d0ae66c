-- What is declared stays sound behind each line that is taken.
use Rattle.std.specs.Prelude.{◌≡◌, ℕ, ◌<◌, ◌≤◌, ◌==◌, Bool, true, false, not, ◌&&◌, ◌||◌, if◌then◌else◌, IsTrue, nat_eq, List, [], ◌∷◌, ◌++◌, length, map, take, unwrap_or, All, Option, Some, None, Result, refl}
use Rattle.std.specs.List.{list_any, IsDistinct, AllByRecursion}
use Rattle.std.proofs.Common.{sym, subst, arith, length-append, inl, inr}
use Rattle.std.proofs.lemmas.List.Elements.{All-push, All-weaker, All-cons, All-head, All-tail, All-nil}
use Rattle.std.proofs.lemmas.List.Quantifiers.{position-Some}
use Rattle.std.proofs.lemmas.List.{length-map}
use Rattle.std.proofs.lemmas.Bool.{eqb-true}
use Rattle.std.proofs.lemmas.Bool.Decides.{eqb_tells}
use Rattle.std.proofs.lemmas.Map.Steps.{length-le_from_distinct_below}
use Rattle.std.proofs.lemmas.Map.Keys.{IsDistinct-head, IsDistinct-tail, IsDistinct-cons}
use Rattle.daq_types.specs.declared.names.NameRefusal.{NameRefusal}
use Rattle.mid_logger.specs.Patterns.{NamePattern}
use Rattle.mid_logger.specs.declared.channel_spec.ChannelSpec.{ChannelSpec}
use Rattle.odb_value.specs.Paths.{same_name}
use Rattle.daq_types.specs.declared.runs.Kind.{Kind}
use Rattle.session_setup.specs.declared.declared.AnalyzerDeclared.{AnalyzerDeclared}
use Rattle.session_setup.specs.declared.declared.BufferDeclared.{BufferDeclared}
use Rattle.session_setup.specs.declared.declared.FrontDeclared.{FrontDeclared}
use Rattle.session_setup.specs.Setup.{Declared, AreSound, system_name, system_size, most_in_all, is_buffer_size, is_front_id, total_size, has_buffer, buffer_named, analyzer_named, has_front_id, has_channel}
use Rattle.session_setup.specs.SetupLines.{first_resized, with_buffer, with_front, with_channel, with_analyzer, number_of_buffer, buffer_refusal, equip_refusal, channel_refusal, analyzer_refusal, default_front, default_channel}
use Rattle.session_setup.proofs.Taken.{buffer_taken, front_taken, channel_taken, analyzer_taken}

or_left : (a b : Bool) → a || b ≡ false → a ≡ false
or_left true b h = absurd (cc)
or_left false b h = refl

or_right : (a b : Bool) → a || b ≡ false → b ≡ false
or_right true b h = absurd (cc)
or_right false b h = h

-- a key that none of a list is equal to, behind the list
apart_push : {K : Type 0} (eq : K → K → Bool) (key : K) (keys : List K) (new : K) → AllByRecursion (λ other. eq key other ≡ false) keys → eq key new ≡ false → AllByRecursion (λ other. eq key other ≡ false) (keys ++ new ∷ [])
apart_push eq key [] new apart other = (other, tt)
apart_push eq key (first ∷ keys) new apart other = (apart.0, apart_push eq key keys new apart.1 other)

pub distinct_push : {X K : Type 0} (eq : K → K → Bool) (f : X → K) (items : List X) (item : X) → IsDistinct eq (map f items) → list_any (λ other. eq (f other) (f item)) items ≡ false → IsDistinct eq (map f (items ++ item ∷ []))
distinct_push eq f [] item distinct fresh = IsDistinct-cons eq (f item) [] tt distinct
distinct_push eq f (first ∷ items) item distinct fresh =
    IsDistinct-cons eq (f first) (map f (items ++ item ∷ []))
    (pushed eq f first items item (IsDistinct-head eq (f first) (map f items) distinct) (or_left _ _ fresh))
    (distinct_push eq f items item (IsDistinct-tail eq (f first) (map f items) distinct) (or_right (eq (f first) (f item)) _ fresh))
  where
    pushed : {X K : Type 0} (eq : K → K → Bool) (f : X → K) (first : X) (items : List X) (item : X) → AllByRecursion (λ other. eq (f first) other ≡ false) (map f items) → eq (f first) (f item) ≡ false → AllByRecursion (λ other. eq (f first) other ≡ false) (map f (items ++ item ∷ []))
    pushed eq f first [] item apart other = (other, tt)
    pushed eq f first (next ∷ items) item apart other = (apart.0, pushed eq f first items item apart.1 other)

-- there is a first buffer
pub some_buffer : (buffers : List BufferDeclared) → map (λ (b : BufferDeclared). b.name) (take 1 buffers) ≡ system_name ∷ [] → 0 < length buffers
some_buffer [] h = absurd (cc)
some_buffer (b ∷ bs) h = omega arith

-- the number of a buffer is that of one that is there
number_within : (d : Declared) (name : List ℕ) → AreSound d → number_of_buffer d name < length d.buffers
number_within d name sound = within (buffer_named d.buffers name) refl
  where
    within : (found : Option ℕ) → buffer_named d.buffers name ≡ found → unwrap_or found 0 < length d.buffers
    within None is = some_buffer d.buffers sound.system
    within (Some place) is = (position-Some (λ (b : BufferDeclared). same_name b.name name) d.buffers place (record { name = []; size = 0 }) is).0

-- One front-end more.

pub front_added : (d : Declared) (front : FrontDeclared) → AreSound d → length d.fronts < 32 → IsTrue (is_front_id front.id)
    → list_any (λ (f : FrontDeclared). same_name f.name front.name) d.fronts ≡ false → has_front_id d.fronts front.id ≡ false → front.buffer < length d.buffers
    → AreSound (record d { fronts = d.fronts ++ front ∷ [] })
front_added d front sound few in_range fresh new_id known = record {
  system = sound.system;
  few_buffers = sound.few_buffers;
  sizes = sound.sizes;
  total = sound.total;
  buffer_names = sound.buffer_names;
  few_fronts = omega (arith, few, length-append d.fronts (front ∷ []));
  front_ids = All-push (λ (f : FrontDeclared). IsTrue (is_front_id f.id)) d.fronts front sound.front_ids in_range;
  front_names = distinct_push same_name (λ (f : FrontDeclared). f.name) d.fronts front sound.front_names fresh;
  ids_differ = distinct_push nat_eq (λ (f : FrontDeclared). f.id) d.fronts front sound.ids_differ new_id;
  front_buffers = All-push (λ (f : FrontDeclared). f.buffer < length d.buffers) d.fronts front sound.front_buffers known;
  channel_numbers = sound.channel_numbers;
  numbers_differ = sound.numbers_differ;
  channel_buffers = sound.channel_buffers;
  few_analyzers = sound.few_analyzers;
  analyzer_names = sound.analyzer_names;
  analyzer_buffers = sound.analyzer_buffers;
}

pub front_sound : (d : Declared) (read : Result (List ℕ) NameRefusal) (name : List ℕ) (id mask : ℕ) (buffer : List ℕ) (limit : ℕ) → AreSound d → equip_refusal d read name id buffer ≡ None → AreSound (with_front d name id mask buffer limit)
front_sound d read name id mask buffer limit sound taken =
    let t = front_taken d read name id buffer taken in
    front_added d (record { name = name; id = id; mask = mask; buffer = number_of_buffer d buffer; limit = limit }) sound t.few t.in_range (or_left _ _ (or_right _ _ t.fresh)) t.new_id (number_within d buffer sound)

pub default_front_sound : (d : Declared) → AreSound d → d.fronts ≡ [] → AreSound (record d { fronts = d.fronts ++ default_front ∷ [] })
default_front_sound d sound empty = front_added d default_front sound (rw empty (omega arith)) refl (rw empty refl) (rw empty refl) (some_buffer d.buffers sound.system)

-- One channel more.

pub channel_added : (d : Declared) (channel : ChannelSpec) → AreSound d → channel.number < 16 → has_channel d.channels channel.number ≡ false → channel.buffer < length d.buffers
    → AreSound (record d { channels = d.channels ++ channel ∷ [] })
channel_added d channel sound small new_number known = record {
  system = sound.system;
  few_buffers = sound.few_buffers;
  sizes = sound.sizes;
  total = sound.total;
  buffer_names = sound.buffer_names;
  few_fronts = sound.few_fronts;
  front_ids = sound.front_ids;
  front_names = sound.front_names;
  ids_differ = sound.ids_differ;
  front_buffers = sound.front_buffers;
  channel_numbers = All-push (λ (c : ChannelSpec). c.number < 16) d.channels channel sound.channel_numbers small;
  numbers_differ = distinct_push nat_eq (λ (c : ChannelSpec). c.number) d.channels channel sound.numbers_differ new_number;
  channel_buffers = All-push (λ (c : ChannelSpec). c.buffer < length d.buffers) d.channels channel sound.channel_buffers known;
  few_analyzers = sound.few_analyzers;
  analyzer_names = sound.analyzer_names;
  analyzer_buffers = sound.analyzer_buffers;
}

pub channel_sound : (d : Declared) (number : ℕ) (pattern : NamePattern) (text buffer : List ℕ) (id mask sub_bytes : ℕ) → AreSound d → channel_refusal d number (Some pattern) text buffer ≡ None
    → AreSound (with_channel d number pattern buffer id mask sub_bytes)
channel_sound d number pattern text buffer id mask sub_bytes sound taken =
    let t = channel_taken d number (Some pattern) text buffer taken in
    channel_added d (record { number = number; pattern = pattern; buffer = number_of_buffer d buffer; id = id; mask = mask; sub_bytes = sub_bytes }) sound (omega (arith, t.small)) t.new_number (number_within d buffer sound)

pub default_channel_sound : (d : Declared) → AreSound d → d.channels ≡ [] → AreSound (record d { channels = d.channels ++ default_channel ∷ [] })
default_channel_sound d sound empty = channel_added d default_channel sound (omega arith) (rw empty refl) (some_buffer d.buffers sound.system)

-- One analyzer more.

pub analyzer_added : (d : Declared) (analyzer : AnalyzerDeclared) → AreSound d → length d.analyzers < 8 → analyzer_named d.analyzers analyzer.name ≡ false → analyzer.buffer < length d.buffers
    → AreSound (record d { analyzers = d.analyzers ++ analyzer ∷ [] })
analyzer_added d analyzer sound few fresh known = record {
  system = sound.system;
  few_buffers = sound.few_buffers;
  sizes = sound.sizes;
  total = sound.total;
  buffer_names = sound.buffer_names;
  few_fronts = sound.few_fronts;
  front_ids = sound.front_ids;
  front_names = sound.front_names;
  ids_differ = sound.ids_differ;
  front_buffers = sound.front_buffers;
  channel_numbers = sound.channel_numbers;
  numbers_differ = sound.numbers_differ;
  channel_buffers = sound.channel_buffers;
  few_analyzers = omega (arith, few, length-append d.analyzers (analyzer ∷ []));
  analyzer_names = distinct_push same_name (λ (a : AnalyzerDeclared). a.name) d.analyzers analyzer sound.analyzer_names fresh;
  analyzer_buffers = All-push (λ (a : AnalyzerDeclared). a.buffer < length d.buffers) d.analyzers analyzer sound.analyzer_buffers known;
}

pub analyzer_sound : (d : Declared) (read : Result (List ℕ) NameRefusal) (name buffer : List ℕ) (id mask : ℕ) (kind : Kind) → AreSound d → analyzer_refusal d read name buffer ≡ None → AreSound (with_analyzer d name buffer id mask kind)
analyzer_sound d read name buffer id mask kind sound taken =
    let t = analyzer_taken d read name buffer taken in
    analyzer_added d (record { name = name; buffer = number_of_buffer d buffer; id = id; mask = mask; kind = kind }) sound t.few (or_right _ _ (or_right _ _ t.fresh)) (number_within d buffer sound)

abbrev IsSmall : ChannelSpec → Type 0
IsSmall channel = channel.number < 16

number_below : (channels : List ChannelSpec) (q : ℕ) → All IsSmall channels → list_any (nat_eq q) (map (λ (c : ChannelSpec). c.number) channels) ≡ true → q < 16
number_below [] q small there = absurd (cc)
number_below (c ∷ channels) q small there = elim (eqb_tells q c.number) [
  | inl same ↦ subst (λ (n : ℕ). n < 16) (sym same.1) (All-head IsSmall c channels small)
  | inr other ↦ number_below channels q (All-tail IsSmall c channels small) (rw other.0 at there)
]

-- the numbers of the channels differ and are below 16, so there are at most 16
pub few_channels : (d : Declared) → AreSound d → length d.channels ≤ 16
few_channels d sound =
    let numbers : List ℕ = map (λ (c : ChannelSpec). c.number) d.channels in
    let few : length numbers ≤ 16 = length-le_from_distinct_below numbers 16 sound.numbers_differ (λ q there. number_below d.channels q sound.channel_numbers there) in
    omega (arith, few, length-map d.channels (λ (c : ChannelSpec). c.number))

-- One buffer more, or another size of SYSTEM.

pub length_resized : (size : ℕ) (buffers : List BufferDeclared) → length (first_resized size buffers) ≡ length buffers
length_resized size [] = refl
length_resized size (b ∷ bs) = refl

names_resized : (size : ℕ) (buffers : List BufferDeclared) → map (λ (b : BufferDeclared). b.name) (first_resized size buffers) ≡ map (λ (b : BufferDeclared). b.name) buffers
names_resized size [] = refl
names_resized size (b ∷ bs) = refl

system_resized : (size : ℕ) (buffers : List BufferDeclared) → map (λ (b : BufferDeclared). b.name) (take 1 buffers) ≡ system_name ∷ [] → map (λ (b : BufferDeclared). b.name) (take 1 (first_resized size buffers)) ≡ system_name ∷ []
system_resized size [] h = h
system_resized size (b ∷ bs) h = h

abbrev HasSize : BufferDeclared → Type 0
HasSize b = IsTrue (is_buffer_size b.size)

sizes_resized : (size : ℕ) (buffers : List BufferDeclared) → IsTrue (is_buffer_size size) → All HasSize buffers → All HasSize (first_resized size buffers)
sizes_resized size [] sized all = all
sizes_resized size (b ∷ bs) sized all = All-cons HasSize (record b { size = size }) bs sized (All-tail HasSize b bs all)

system_stays : (buffers : List BufferDeclared) (new : BufferDeclared) → map (λ (b : BufferDeclared). b.name) (take 1 buffers) ≡ system_name ∷ [] → map (λ (b : BufferDeclared). b.name) (take 1 (buffers ++ new ∷ [])) ≡ system_name ∷ []
system_stays [] new h = absurd (cc)
system_stays (b ∷ bs) new h = h

buffers_sound : (d : Declared) (is_system : Bool) (name : List ℕ) (size : ℕ) → AreSound d → is_buffer_size size ≡ true
    → length (if is_system then first_resized size d.buffers else (d.buffers ++ record { name = name; size = size } ∷ [])) ≤ 8
    → total_size (if is_system then first_resized size d.buffers else (d.buffers ++ record { name = name; size = size } ∷ [])) ≤ most_in_all
    → (is_system ≡ false → has_buffer d.buffers name ≡ false)
    → AreSound (record d { buffers = if is_system then first_resized size d.buffers else (d.buffers ++ record { name = name; size = size } ∷ []) })
buffers_sound d true name size sound sized few total fresh = let same = length_resized size d.buffers in record {
  system = system_resized size d.buffers sound.system;
  few_buffers = few;
  sizes = sizes_resized size d.buffers sized sound.sizes;
  total = total;
  buffer_names = subst (λ (names : List (List ℕ)). IsDistinct same_name names) (sym (names_resized size d.buffers)) sound.buffer_names;
  few_fronts = sound.few_fronts;
  front_ids = sound.front_ids;
  front_names = sound.front_names;
  ids_differ = sound.ids_differ;
  front_buffers = All-weaker (λ (f : FrontDeclared). f.buffer < length d.buffers) (λ (f : FrontDeclared). f.buffer < length (first_resized size d.buffers)) (λ f h. omega (arith, h, same)) d.fronts sound.front_buffers;
  channel_numbers = sound.channel_numbers;
  numbers_differ = sound.numbers_differ;
  channel_buffers = All-weaker (λ (c : ChannelSpec). c.buffer < length d.buffers) (λ (c : ChannelSpec). c.buffer < length (first_resized size d.buffers)) (λ c h. omega (arith, h, same)) d.channels sound.channel_buffers;
  few_analyzers = sound.few_analyzers;
  analyzer_names = sound.analyzer_names;
  analyzer_buffers = All-weaker (λ (a : AnalyzerDeclared). a.buffer < length d.buffers) (λ (a : AnalyzerDeclared). a.buffer < length (first_resized size d.buffers)) (λ a h. omega (arith, h, same)) d.analyzers sound.analyzer_buffers;
}
buffers_sound d false name size sound sized few total fresh = let new : BufferDeclared = record { name = name; size = size } in let more = length-append d.buffers (new ∷ []) in record {
  system = system_stays d.buffers new sound.system;
  few_buffers = few;
  sizes = All-push HasSize d.buffers new sound.sizes sized;
  total = total;
  buffer_names = distinct_push same_name (λ (b : BufferDeclared). b.name) d.buffers new sound.buffer_names (fresh refl);
  few_fronts = sound.few_fronts;
  front_ids = sound.front_ids;
  front_names = sound.front_names;
  ids_differ = sound.ids_differ;
  front_buffers = All-weaker (λ (f : FrontDeclared). f.buffer < length d.buffers) (λ (f : FrontDeclared). f.buffer < length (d.buffers ++ new ∷ [])) (λ f h. omega (arith, h, more)) d.fronts sound.front_buffers;
  channel_numbers = sound.channel_numbers;
  numbers_differ = sound.numbers_differ;
  channel_buffers = All-weaker (λ (c : ChannelSpec). c.buffer < length d.buffers) (λ (c : ChannelSpec). c.buffer < length (d.buffers ++ new ∷ [])) (λ c h. omega (arith, h, more)) d.channels sound.channel_buffers;
  few_analyzers = sound.few_analyzers;
  analyzer_names = sound.analyzer_names;
  analyzer_buffers = All-weaker (λ (a : AnalyzerDeclared). a.buffer < length d.buffers) (λ (a : AnalyzerDeclared). a.buffer < length (d.buffers ++ new ∷ [])) (λ a h. omega (arith, h, more)) d.analyzers sound.analyzer_buffers;
}

not_known : (is_system known : Bool) → not is_system && known ≡ false → is_system ≡ false → known ≡ false
not_known true known h is = absurd (cc)
not_known false known h is = h

pub buffer_sound : (d : Declared) (read : Result (List ℕ) NameRefusal) (name : List ℕ) (size : ℕ) → AreSound d → buffer_refusal d read name size ≡ None → AreSound (with_buffer d name size)
buffer_sound d read name size sound taken = let t = buffer_taken d read name size taken in
    buffers_sound d (same_name system_name name) name size sound t.sized t.few t.total (not_known (same_name system_name name) (has_buffer d.buffers name) t.fresh)

-- a list whose length is tested to be 0 has no items
pub no_items : {X : Type 0} (items : List X) → true ≡ (length items == 0) → items ≡ []
no_items [] h = refl
no_items (x ∷ xs) h = let none : length (x ∷ xs) ≡ 0 = eqb-true (length (x ∷ xs)) 0 (sym h) in absurd (omega (arith, none))

-- The declarations of a session for which nothing is declared.
pub nothing_sound : (buffers : List BufferDeclared) (fronts : List FrontDeclared) (channels : List ChannelSpec) (analyzers : List AnalyzerDeclared)
    → buffers ≡ record { name = system_name; size = system_size } ∷ [] → fronts ≡ [] → channels ≡ [] → analyzers ≡ []
    → AreSound (record { opened = false; buffers = buffers; fronts = fronts; channels = channels; analyzers = analyzers })
unfolding IsDistinct
nothing_sound buffers fronts channels analyzers b f c a = rw (b, f, c, a) record {
  system = refl;
  few_buffers = omega arith;
  sizes = All-cons HasSize (record { name = system_name; size = system_size }) [] refl (All-nil HasSize);
  total = omega arith;
  buffer_names = (tt, tt);
  few_fronts = omega arith;
  front_ids = All-nil (λ (front : FrontDeclared). IsTrue (is_front_id front.id));
  front_names = tt;
  ids_differ = tt;
  front_buffers = All-nil (λ (front : FrontDeclared). front.buffer < 1);
  channel_numbers = All-nil IsSmall;
  numbers_differ = tt;
  channel_buffers = All-nil (λ (channel : ChannelSpec). channel.buffer < 1);
  few_analyzers = omega arith;
  analyzer_names = tt;
  analyzer_buffers = All-nil (λ (analyzer : AnalyzerDeclared). analyzer.buffer < 1);
}
