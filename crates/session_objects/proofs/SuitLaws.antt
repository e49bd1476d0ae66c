-- Sound declarations give members that can be had.
use Rattle.std.proofs.Common.{◌≡◌, ◌≢◌, ℕ, zero, suc, ◌<◌, true, false, List, [], ◌∷◌, length, map, sym, ap, ◌∙◌, refl, subst, arith, eq-eqb}
use Rattle.std.specs.Prelude.{All, IsTrue, nat_eq, slice_get, Option, Some, None}
use Rattle.std.specs.List.{IsDistinct, AllByRecursion}
use Rattle.std.proofs.lemmas.List.Elements.{All-contains}
use Rattle.std.proofs.lemmas.Map.Keys.{IsDistinct-head, IsDistinct-tail}
use Rattle.std.proofs.lemmas.Option.{slice_get_within, get_or_from_slice_get}
use Rattle.std.proofs.lemmas.Grind.{common_steps}
use Rattle.turn_lock.specs.Passes.{passes_of}
use Rattle.buffer_lock.specs.SharedBuffers.{lock_of}
use Rattle.odb_lock.specs.declared.shared.SharedOdb.{SharedOdb}
use Rattle.odb_lock.specs.SharedOdbs.{odb_lock_of}
use Rattle.mid_logger.specs.declared.channel_spec.ChannelSpec.{ChannelSpec}
use Rattle.front_ends.specs.FrontIds.{IsFrontId}
use Rattle.session_setup.specs.declared.declared.AnalyzerDeclared.{AnalyzerDeclared}
use Rattle.session_setup.specs.declared.declared.FrontDeclared.{FrontDeclared}
use Rattle.session_setup.specs.declared.declared.DeclaredLists.{DeclaredLists}
use Rattle.session_setup.specs.Setup.{AreSound, declared_by, is_front_id}
use Rattle.session_objects.specs.declared.objects.SessionBuffer.{SessionBuffer}
use Rattle.session_objects.specs.declared.objects.SessionObjects.{SessionObjects}
use Rattle.session_setup.specs.declared.member.MemberDeclared.{MemberDeclared}
use Rattle.session_setup.specs.declared.member.MemberDeclared.TheVariants.{FrontEnd, Logger, Analyzer}
use Rattle.session_setup.specs.DeclaredMembers.{calls_database, caller_count, declared_members, own_buffer}
use Rattle.session_objects.specs.Objects.{AreObjectsOf, SuitMembers}
use Rattle.session_objects.proofs.ChangeLaws.{some_same, there_below}
use Rattle.session_objects.proofs.ListedLaws.{declared_analyzer, declared_front}

-- what holds of all holds of the one at a place
at_place : {X : Type 0} (P : X → Type 0) (xs : List X) (i : ℕ) (x : X) → All P xs → slice_get xs i ≡ Some x → P x
at_place P xs i x all at = All-contains P xs x all (i, slice_get_within xs i x at, get_or_from_slice_get xs i x x at)

apart_from : (k : ℕ) (xs : List ChannelSpec) (j : ℕ) (t : ChannelSpec) → AllByRecursion (λ y. nat_eq k y ≡ false) (map (λ (s : ChannelSpec). s.number) xs) →
    slice_get xs j ≡ Some t → k ≢ t.number
apart_from k [] j t all at = absurd (cc)
apart_from k (x ∷ xs) zero t all at = λ e.
    let same : x ≡ t = some_same x t at in
    let yes : nat_eq k x.number ≡ true = eq-eqb k x.number (e ∙ sym (ap (λ (s : ChannelSpec). s.number) same)) in
    let no : nat_eq k x.number ≡ false = all.0 in absurd (let f : true ≡ false = sym yes ∙ no in cc)
apart_from k (x ∷ xs) (suc j) t all at = apart_from k xs j t all.1 at

apart : (xs : List ChannelSpec) (i j : ℕ) (s t : ChannelSpec) → IsDistinct nat_eq (map (λ (c : ChannelSpec). c.number) xs) → slice_get xs i ≡ Some s →
    slice_get xs j ≡ Some t → i ≢ j → s.number ≢ t.number
apart [] i j s t d at there ne = absurd (cc)
apart (x ∷ xs) zero zero s t d at there ne = absurd (ne refl)
apart (x ∷ xs) zero (suc j) s t d at there ne = λ e. apart_from x.number xs j t
    (IsDistinct-head nat_eq x.number (map (λ (c : ChannelSpec). c.number) xs) d) there (ap (λ (c : ChannelSpec). c.number) (some_same x s at) ∙ e)
apart (x ∷ xs) (suc i) zero s t d at there ne = λ e. apart_from x.number xs i s
    (IsDistinct-head nat_eq x.number (map (λ (c : ChannelSpec). c.number) xs) d) at (ap (λ (c : ChannelSpec). c.number) (some_same x t there) ∙ sym e)
apart (x ∷ xs) (suc i) (suc j) s t d at there ne = apart xs i j s t
    (IsDistinct-tail nat_eq x.number (map (λ (c : ChannelSpec). c.number) xs) d) at there (λ e. ne (ap suc e))

is_id : (id : ℕ) → IsTrue (is_front_id id) → IsFrontId id
is_id id h = record { least = grind (arith, common_steps, h); most = grind (arith, common_steps, h) }

module _ {D : Type 0} (lists : DeclaredLists) (objects : SessionObjects) (shared : SharedOdb D) (sound : AreSound (declared_by lists)) (o : AreObjectsOf lists objects) where
  count : (number : ℕ) (buffer : SessionBuffer) → slice_get objects.buffers.items number ≡ Some buffer → passes_of (lock_of buffer.shared) ≡ caller_count lists
  count number buffer at =
      let l : number < length objects.buffers.items = slice_get_within objects.buffers.items number buffer at in
      let many : length objects.buffers.items ≡ length lists.buffers = o.buffers.many in
      let d = there_below lists.buffers number (omega arith) in
      (o.buffers.each number d.0 buffer d.1 at).callers

  -- one that calls the database is a front-end
  calls_below : (client : ℕ) (wanted : Option MemberDeclared) → slice_get (declared_members lists) client ≡ wanted → IsTrue (calls_database wanted) → client < length lists.fronts
  calls_below client None at calls_it = absurd (cc (calls_it))
  calls_below client (Some (FrontEnd front)) at calls_it = slice_get_within lists.fronts client front (declared_front lists client front at)
  calls_below client (Some Logger) at calls_it = absurd (cc (calls_it))
  calls_below client (Some (Analyzer analyzer)) at calls_it = absurd (cc (calls_it))

  own_there : (client : ℕ) (wanted : MemberDeclared) → slice_get (declared_members lists) client ≡ Some wanted → (buffer : ℕ) → own_buffer wanted ≡ Some buffer → buffer < length lists.buffers
  own_there client (FrontEnd front) at buffer own = subst (λ (n : ℕ). n < length lists.buffers) (some_same front.buffer buffer own)
      (at_place (λ (f : FrontDeclared). f.buffer < length lists.buffers) lists.fronts client front sound.front_buffers (declared_front lists client front at))
  own_there client Logger at buffer own = absurd (cc (own))
  own_there client (Analyzer analyzer) at buffer own =
      let there = declared_analyzer lists client analyzer at in
      subst (λ (n : ℕ). n < length lists.buffers) (some_same analyzer.buffer buffer own)
      (at_place (λ (a : AnalyzerDeclared). a.buffer < length lists.buffers) lists.analyzers there.0 analyzer sound.analyzer_buffers there.1)

  pub suits : length lists.fronts < passes_of (odb_lock_of shared) → SuitMembers lists objects shared
  suits below =
      let many : length objects.buffers.items ≡ length lists.buffers = o.buffers.many in record {
        callers = record {
          engine = o.callers;
          buffers = count;
          database = λ client calls_it. (let l = calls_below client (slice_get (declared_members lists) client) refl calls_it in omega (arith, below, l));
          main = omega (arith, below);
          own = λ client wanted at buffer own. (let l = own_there client wanted at buffer own in omega (arith, many, l));
        };
        few = sound.few_fronts;
        few_analyzers = sound.few_analyzers;
        ids = λ client front at. is_id front.id (at_place (λ (f : FrontDeclared). IsTrue (is_front_id f.id)) lists.fronts client front sound.front_ids at);
        numbers = record {
          below = λ i s at. at_place (λ (c : ChannelSpec). c.number < 16) lists.channels i s sound.channel_numbers at;
          differ = λ i j s t at there ne. apart lists.channels i j s t sound.numbers_differ at there ne;
        };
        read = λ place channel at.
            let l = at_place (λ (c : ChannelSpec). c.buffer < length lists.buffers) lists.channels place channel sound.channel_buffers at in omega (arith, many, l);
      }
