-- Passes that are taken out, one after another.
use Rattle.std.proofs.Common.{◌≡◌, ℕ, suc, ◌+◌, ◌<◌, true, List, [], ◌∷◌, length, sym, ap, ◌∙◌, subst, arith}
use Rattle.std.specs.Prelude.{Contains, slice_get, Some}
use Rattle.std.proofs.lemmas.Option.{slice_get_within}
use Rattle.turn_lock.specs.Passes.{passes_of}
use Rattle.turn_lock.specs.Roster.{numbers_of}
use Rattle.buffer_lock.specs.SharedBuffers.{lock_of}
use Rattle.transition_lock.specs.SharedEngines.{engine_lock_of}
use Rattle.odb_lock.specs.declared.shared.SharedOdb.{SharedOdb}
use Rattle.odb_lock.specs.SharedOdbs.{odb_lock_of}
use Rattle.session_setup.specs.declared.declared.DeclaredLists.{DeclaredLists}
use Rattle.session_setup.specs.declared.member.MemberDeclared.{MemberDeclared}
use Rattle.session_objects.specs.declared.objects.SessionBuffer.{SessionBuffer}
use Rattle.session_objects.specs.declared.objects.SessionObjects.{SessionObjects}
use Rattle.session_objects.specs.declared.passes.SessionPasses.{SessionPasses}
use Rattle.session_objects.specs.Rosters.{KeepsFresh, TakesFresh, ChangesAt, nothing_seen}
use Rattle.session_setup.specs.DeclaredMembers.{calls_buffer, calls_database, caller_count, declared_members}
use Rattle.session_objects.specs.Objects.{HaveCallers, SuitMembers}
use Rattle.session_objects.specs.Kept.{OutNumbers, out_to, engine_out, database_out, buffer_out, HasFreshBut}
use Rattle.session_objects.proofs.RosterLaws.{is_kept}
use Rattle.session_objects.proofs.ChangeLaws.{changed_keep, there_below}
use Rattle.session_objects.proofs.ListedLaws.{declared_count}
use Rattle.session_objects.proofs.OutLaws.{out_here, out_beside, down_only, none_low, main_low}

-- The caller of a member that was declared is one of those of an object, and there are fewer members than a buffer has clients.
module _ (lists : DeclaredLists) (client : ℕ) (wanted : MemberDeclared) (at : slice_get (declared_members lists) client ≡ Some wanted) where
  caller_below : client + 1 < caller_count lists
  caller_below = let l = slice_get_within (declared_members lists) client wanted at in omega (arith, l)

  pub client_few : {D : Type 0} (objects : SessionObjects) (database : SharedOdb D) → SuitMembers lists objects database → client < 64
  client_few objects database suit = let l = slice_get_within (declared_members lists) client wanted at in omega (arith, l, declared_count lists, suit.few, suit.few_analyzers)

module _ {D : Type 0} {gd : _} (objects : SessionObjects) (database : SharedOdb D) where
  -- which numbers are out may be said in another way
  pub fresh_said : (out said : OutNumbers) (passes : SessionPasses D gd) → out.engine ≡ said.engine → ((n : ℕ) → n < length objects.buffers.items → out.buffers n ≡ said.buffers n) →
      out.database ≡ said.database → HasFreshBut out objects database passes → HasFreshBut said objects database passes
  fresh_said out said passes e b d k = record {
    engine = (let P : List ℕ → Type 0 = λ ns. KeepsFresh ns (engine_lock_of objects.engine) passes.engine in subst P e k.engine);
    many = k.many;
    buffers = λ n buffer roster at there. (let P : List ℕ → Type 0 = λ ns. KeepsFresh ns (lock_of buffer.shared) roster in
        subst P (b n (slice_get_within objects.buffers.items n buffer at)) (k.buffers n buffer roster at there));
    database = (let P : List ℕ → Type 0 = λ ns. KeepsFresh ns (odb_lock_of database) passes.database in subst P d k.database);
  }

  -- one more of the engine
  pub engine_taken : (out : OutNumbers) (number : ℕ) (before after : SessionPasses D gd) (pass : _) → HasFreshBut out objects database before →
      TakesFresh number before.engine pass after.engine → after.buffers ≡ before.buffers → after.database ≡ before.database →
      HasFreshBut (engine_out number out) objects database after
  engine_taken out number before after pass k takes buffers database_same = record {
    engine = takes.left (engine_lock_of objects.engine) out.engine k.engine;
    many = ap (λ bs. length bs.items) buffers ∙ k.many;
    buffers = λ n buffer roster at there. k.buffers n buffer roster at (ap (λ bs. slice_get bs.items n) (sym buffers) ∙ there);
    database = (let P : _ → Type 0 = λ db. KeepsFresh out.database (odb_lock_of database) db in subst P (sym database_same) k.database);
  }

  -- one more of the database
  pub database_taken : (out : OutNumbers) (number : ℕ) (before after : SessionPasses D gd) (pass : _) → HasFreshBut out objects database before →
      TakesFresh number before.database pass after.database → after.buffers ≡ before.buffers → after.engine ≡ before.engine →
      HasFreshBut (database_out number out) objects database after
  database_taken out number before after pass k takes buffers engine_same = record {
    engine = (let P : _ → Type 0 = λ en. KeepsFresh out.engine (engine_lock_of objects.engine) en in subst P (sym engine_same) k.engine);
    many = ap (λ bs. length bs.items) buffers ∙ k.many;
    buffers = λ n buffer roster at there. k.buffers n buffer roster at (ap (λ bs. slice_get bs.items n) (sym buffers) ∙ there);
    database = takes.left (odb_lock_of database) out.database k.database;
  }

  -- one more of one buffer
  pub buffer_taken : (out : OutNumbers) (place number : ℕ) (before after : SessionPasses D gd) (pass : _) → HasFreshBut out objects database before →
      ChangesAt (λ b a. TakesFresh number b pass a) place before.buffers.items after.buffers.items → after.engine ≡ before.engine → after.database ≡ before.database →
      HasFreshBut (buffer_out number place out) objects database after
  buffer_taken out place number before after pass k takes engine_same database_same = record {
    engine = (let P : _ → Type 0 = λ en. KeepsFresh out.engine (engine_lock_of objects.engine) en in subst P (sym engine_same) k.engine);
    many = takes.many ∙ k.many;
    buffers = λ n b roster at there. changed_keep (λ b a. TakesFresh number b pass a)
        (λ m r. (b : SessionBuffer) → slice_get objects.buffers.items m ≡ Some b → KeepsFresh (out.buffers m) (lock_of b.shared) r)
        (λ m r. (b : SessionBuffer) → slice_get objects.buffers.items m ≡ Some b → KeepsFresh ((buffer_out number place out).buffers m) (lock_of b.shared) r)
        place before.buffers.items after.buffers.items takes
        (λ x y was held change b2 at2.
        let P : List ℕ → Type 0 = λ ns. KeepsFresh ns (lock_of b2.shared) y in
        subst P (sym (out_here out place number)) (change.left (lock_of b2.shared) (out.buffers place) (held b2 at2)))
        (λ other x apart held b2 at2.
        let P : List ℕ → Type 0 = λ ns. KeepsFresh ns (lock_of b2.shared) x in
        subst P (sym (out_beside out place number other apart)) (held b2 at2))
        (λ other x was b2 at2. k.buffers other b2 x at2 was)
        n roster there b at;
    database = (let P : _ → Type 0 = λ db. KeepsFresh out.database (odb_lock_of database) db in subst P (sym database_same) k.database);
  }

  -- A member that was declared, which is the next one,
  module _ (lists : DeclaredLists) (client : ℕ) (wanted : MemberDeclared) (at : slice_get (declared_members lists) client ≡ Some wanted) (have : HaveCallers lists objects database) where
    -- has its passes there: of the engine,
    pub engine_has : (out : OutNumbers) (passes : SessionPasses D gd) → out.engine ≡ (out_to lists client).engine → HasFreshBut out objects database passes → Contains (numbers_of passes.engine) (client + 1)
    engine_has out passes same k = is_kept nothing_seen out.engine (engine_lock_of objects.engine) passes.engine (client + 1) k.engine.keeps (subst (λ (n : ℕ). client + 1 < n) (sym have.engine) (caller_below lists client wanted at))
        (λ has. let P : List ℕ → Type 0 = λ ns. Contains ns (client + 1) in
        let l : client + 1 < suc client = down_only (λ n. true) (0 ∷ []) main_low client (client + 1) (subst P same has) in omega arith)

    -- of the database, if it calls that,
    pub database_has : calls_database (Some wanted) ≡ true → (out : OutNumbers) (passes : SessionPasses D gd) → out.database ≡ (out_to lists client).database → HasFreshBut out objects database passes →
        Contains (numbers_of passes.database) (client + 1)
    database_has calls_it out passes same k = is_kept nothing_seen out.database (odb_lock_of database) passes.database (client + 1) k.database.keeps
        (let l = have.database client (ap calls_database at ∙ calls_it) in omega (arith, l))
        (λ has. let P : List ℕ → Type 0 = λ ns. Contains ns (client + 1) in
        let l : client + 1 < suc client = down_only (λ n. calls_database (slice_get (declared_members lists) n)) (0 ∷ []) main_low client (client + 1) (subst P same has) in omega arith)

    -- and of each buffer.
    pub buffer_has : (out : OutNumbers) (number : ℕ) (passes : SessionPasses D gd) → number < length objects.buffers.items → out.buffers number ≡ (out_to lists client).buffers number →
        HasFreshBut out objects database passes → (roster : _) → slice_get passes.buffers.items number ≡ Some roster → Contains (numbers_of roster) (client + 1)
    buffer_has out number passes within same k roster there =
        let b = there_below objects.buffers.items number within in
        is_kept nothing_seen (out.buffers number) (lock_of b.0.shared) roster (client + 1) (k.buffers number b.0 roster b.1 there).keeps (subst (λ (n : ℕ). client + 1 < n) (sym (have.buffers number b.0 b.1)) (caller_below lists client wanted at))
        (λ has. let P : List ℕ → Type 0 = λ ns. Contains ns (client + 1) in
        let l : client + 1 < suc client = down_only (λ n. calls_buffer number (slice_get (declared_members lists) n)) [] none_low client (client + 1) (subst P same has) in omega arith)
