-- What it tells that a line is taken: each of its tests was passed.
use Rattle.std.specs.Prelude.{◌≡◌, ℕ, ◌<◌, ◌≤◌, nat_le, nat_lt, Bool, true, false, not, List, [], ◌∷◌, length, Option, Some, None, is_none, Result, refl}
use Rattle.std.specs.List.{AllByRecursion}
use Rattle.std.proofs.Common.{sym, arith}
use Rattle.std.proofs.lemmas.Grind.{common_steps}
use Rattle.std.proofs.lemmas.Option.{none-some}
use Rattle.daq_types.specs.declared.names.NameRefusal.{NameRefusal}
use Rattle.mid_logger.specs.Patterns.{NamePattern}
use Rattle.session_setup.specs.declared.refusals.SetupRefusal.{SetupRefusal}
use Rattle.session_setup.specs.declared.refusals.SetupRefusal.TheVariants.{Exists, BadBufferSize, TooMany, SameName, BadId, SameId, NoBuffer, BadChannel, SameChannel, BadPattern}
use Rattle.session_setup.specs.Setup.{Declared, most_in_all, is_buffer_size, is_front_id, total_size, has_buffer, has_front_id, has_channel, is_member_name}
use Rattle.session_setup.specs.Refusals.{first_setup_refusal, refused_if, name_refusal}
use Rattle.session_setup.specs.SetupLines.{buffers_with, is_taken_name, buffer_tests, equip_tests, channel_tests, analyzer_tests, buffer_refusal, equip_refusal, channel_refusal, analyzer_refusal}

-- where a list has no refusal, each of its entries is none
pub none_of : (list : List (Option SetupRefusal)) → first_setup_refusal list ≡ None → AllByRecursion (λ entry. entry ≡ None) list
none_of [] h = tt
none_of (None ∷ rest) h = (refl, none_of rest h)
none_of (Some refusal ∷ rest) h = absurd (none-some refusal (sym h))

pub passed : (test : Bool) (refusal : SetupRefusal) → refused_if test refusal ≡ None → test ≡ false
passed true refusal h = absurd (none-some refusal (sym h))
passed false refusal h = refl

is_true : (test : Bool) → not test ≡ false → test ≡ true
is_true true h = refl
is_true false h = absurd (cc)

at_most : (n k : ℕ) → nat_lt n k ≡ false → k ≤ n
at_most n k h = grind (arith, common_steps, h)

below : (n k : ℕ) → nat_le n k ≡ false → k < n
below n k h = grind (arith, common_steps, h)

pub record BufferTaken (d : Declared) (read : Result (List ℕ) NameRefusal) (name : List ℕ) (size : ℕ) : Type 0 where
  pub named : name_refusal read ≡ None
  pub fresh : is_taken_name d.buffers name ≡ false
  pub sized : is_buffer_size size ≡ true
  pub few : length (buffers_with d.buffers name size) ≤ 8
  pub total : total_size (buffers_with d.buffers name size) ≤ most_in_all

pub buffer_taken : (d : Declared) (read : Result (List ℕ) NameRefusal) (name : List ℕ) (size : ℕ) → buffer_refusal d read name size ≡ None → BufferTaken d read name size
buffer_taken d read name size h = let none = none_of (buffer_tests d read name size) h in let few = length (buffers_with d.buffers name size) in let total = total_size (buffers_with d.buffers name size) in record {
  named = none.1.0;
  fresh = passed (is_taken_name d.buffers name) Exists none.1.1.0;
  sized = is_true (is_buffer_size size) (passed (not (is_buffer_size size)) BadBufferSize none.1.1.1.0);
  few = at_most 8 few (passed (nat_lt 8 few) (TooMany 8) none.1.1.1.1.0);
  total = at_most most_in_all total (passed (nat_lt most_in_all total) (TooMany most_in_all) none.1.1.1.1.1.0);
}

pub record FrontTaken (d : Declared) (read : Result (List ℕ) NameRefusal) (name : List ℕ) (id : ℕ) (buffer : List ℕ) : Type 0 where
  pub named : name_refusal read ≡ None
  pub fresh : is_member_name d name ≡ false
  pub in_range : is_front_id id ≡ true
  pub new_id : has_front_id d.fronts id ≡ false
  pub known : has_buffer d.buffers buffer ≡ true
  pub few : length d.fronts < 32

pub front_taken : (d : Declared) (read : Result (List ℕ) NameRefusal) (name : List ℕ) (id : ℕ) (buffer : List ℕ) → equip_refusal d read name id buffer ≡ None → FrontTaken d read name id buffer
front_taken d read name id buffer h = let none = none_of (equip_tests d read name id buffer) h in record {
  named = none.1.0;
  fresh = passed (is_member_name d name) SameName none.1.1.0;
  in_range = is_true (is_front_id id) (passed (not (is_front_id id)) BadId none.1.1.1.0);
  new_id = passed (has_front_id d.fronts id) SameId none.1.1.1.1.0;
  known = is_true (has_buffer d.buffers buffer) (passed (not (has_buffer d.buffers buffer)) NoBuffer none.1.1.1.1.1.0);
  few = below 32 (length d.fronts) (passed (nat_le 32 (length d.fronts)) (TooMany 32) none.1.1.1.1.1.1.0);
}

pub record ChannelTaken (d : Declared) (number : ℕ) (read : Option NamePattern) (buffer : List ℕ) : Type 0 where
  pub small : number ≤ 15
  pub new_number : has_channel d.channels number ≡ false
  pub patterned : is_none read ≡ false
  pub known : has_buffer d.buffers buffer ≡ true

pub channel_taken : (d : Declared) (number : ℕ) (read : Option NamePattern) (text buffer : List ℕ) → channel_refusal d number read text buffer ≡ None → ChannelTaken d number read buffer
channel_taken d number read text buffer h = let none = none_of (channel_tests d number read text buffer) h in record {
  small = at_most 15 number (passed (nat_lt 15 number) BadChannel none.1.0);
  new_number = passed (has_channel d.channels number) SameChannel none.1.1.0;
  patterned = passed (is_none read) BadPattern none.1.1.1.0;
  known = is_true (has_buffer d.buffers buffer) (passed (not (has_buffer d.buffers buffer)) NoBuffer none.1.1.1.1.1.0);
}

pub record AnalyzerTaken (d : Declared) (read : Result (List ℕ) NameRefusal) (name buffer : List ℕ) : Type 0 where
  pub named : name_refusal read ≡ None
  pub fresh : is_member_name d name ≡ false
  pub known : has_buffer d.buffers buffer ≡ true
  pub few : length d.analyzers < 8

pub analyzer_taken : (d : Declared) (read : Result (List ℕ) NameRefusal) (name buffer : List ℕ) → analyzer_refusal d read name buffer ≡ None → AnalyzerTaken d read name buffer
analyzer_taken d read name buffer h = let none = none_of (analyzer_tests d read name buffer) h in record {
  named = none.1.0;
  fresh = passed (is_member_name d name) SameName none.1.1.0;
  known = is_true (has_buffer d.buffers buffer) (passed (not (has_buffer d.buffers buffer)) NoBuffer none.1.1.1.0);
  few = below 8 (length d.analyzers) (passed (nat_le 8 (length d.analyzers)) (TooMany 8) none.1.1.1.1.0);
}
