-- Passes that come back, one after another.
use Rattle.std.proofs.Common.{◌≡◌, ◌≢◌, ℕ, zero, suc, add-one, ◌+◌, ◌<◌, ◌≤◌, true, false, Bool, List, [], ◌∷◌, length, sym, ap, ◌∙◌, refl, subst, arith, None as nothing}
use Rattle.std.specs.Prelude.{slice_get, Option, Some, Contains}
use mathlib.Core.Logic.{dite}
use native.Mathlib.Decide.{dec_le}
use Rattle.turn_lock.specs.declared.lock.Pass.{Pass}
use Rattle.std.proofs.lemmas.Option.{slice_get_within, slice_get_past}
use Rattle.daq_types.specs.Callers.{entries_by}
use Rattle.frontend_kit.specs.declared.generator.Generator.{Generator}
use Rattle.member_model.specs.RunEngines.{EngineEntry}
use Rattle.buffer_core.specs.Ports.{Access}
use Rattle.turn_lock.specs.Passes.{number_of, seen_by, held_by, own_entries, passes_of, IsOf}
use Rattle.turn_lock.specs.Roster.{items_of, room_of}
use Rattle.buffer_lock.specs.SharedBuffers.{lock_of}
use Rattle.daq_members.specs.Members.{MemberSeen}
use Rattle.transition_lock.specs.SharedEngines.{engine_lock_of}
use Rattle.odb_lock.specs.declared.shared.SharedOdb.{SharedOdb}
use Rattle.odb_lock.specs.SharedOdbs.{odb_lock_of}
use Rattle.session_setup.specs.declared.declared.DeclaredLists.{DeclaredLists}
use Rattle.session_setup.specs.declared.member.MemberDeclared.{MemberDeclared}
use Rattle.session_setup.specs.declared.member.MemberDeclared.TheVariants.{Logger as WantedLogger}
use Rattle.session_objects.specs.declared.objects.SessionBuffer.{SessionBuffer}
use Rattle.session_objects.specs.declared.objects.SessionObjects.{SessionObjects}
use Rattle.session_objects.specs.declared.passes.SessionPasses.{SessionPasses}
use Rattle.session_objects.specs.Rosters.{ChangesAt, KeepsPasses, PutsBack}
use Rattle.session_setup.specs.DeclaredMembers.{calls_buffer, calls_database, declared_members}
use Rattle.session_objects.specs.Kept.{OutNumbers, HasFreshBut, out_to, ports_out}
use Rattle.session_objects.specs.Calls.{Account, SessionCalls, account_at, account_or_none, told_of_engine, told_of_database, told_of_buffer, told_through}
use Rattle.session_objects.specs.Members.{HasAccount, IsOwnPort, CalledAt, AreCalledAt}
use Rattle.session_objects.specs.Records.{none_out, HasCalls, HasCallsBut}
use Rattle.session_objects.proofs.RosterLaws.{at_first, puts_keep, room_for, unseen_tells}
use Rattle.session_objects.proofs.ChangeLaws.{changed_keep, some_same, there_below}
use Rattle.session_objects.proofs.ListedLaws.{no_database, no_port}
use Rattle.session_objects.proofs.OutLaws.{down_all, down_others, engine_one, database_one, own_port, own_beside, port_here, port_now, port_beside}

module _ {M D : Type 0} {g : _} (calls : SessionCalls) where
  -- what a pass of the engine tells of its client
  engine_told : (client : ℕ) (own : List EngineEntry) (pass : Pass M D EngineEntry g) → number_of pass ≡ client + 1 → own_entries pass ≡ own →
      (account_at calls client).engine ≡ own → told_of_engine calls (suc client) (seen_by pass)
  engine_told client own pass number mine is = ap (λ (n : ℕ). entries_by n (seen_by pass)) (sym number) ∙ mine ∙ sym is

module _ {D : Type 0} {gd : _} (calls : SessionCalls) (objects : SessionObjects) (database : SharedOdb D) where
  -- The passes with these numbers are out still, and then one less.
  pub engine_back : (out : OutNumbers) (number : ℕ) (rest : List ℕ) (before after : SessionPasses D gd) (pass : _) →
      out.engine ≡ number ∷ rest → HasCallsBut out calls objects database before →
      PutsBack before.engine pass after.engine → after.buffers ≡ before.buffers → after.database ≡ before.database →
      number_of pass ≡ number → IsOf (engine_lock_of objects.engine) pass → held_by pass ≡ nothing →
      told_of_engine calls number (seen_by pass) → HasCallsBut (record out { engine = rest }) calls objects database after
  engine_back out number rest before after pass e k put buffers database_same is own idle told = record {
    engine = puts_keep (told_of_engine calls) (engine_lock_of objects.engine) before.engine after.engine pass number rest put is own idle told
        (let P : List ℕ → Type 0 = λ ns. KeepsPasses (told_of_engine calls) ns (engine_lock_of objects.engine) before.engine in subst P e k.engine);
    many = ap (λ bs. length bs.items) buffers ∙ k.many;
    buffers = λ n buffer roster at there. k.buffers n buffer roster at (ap (λ bs. slice_get bs.items n) (sym buffers) ∙ there);
    database = (let P : _ → Type 0 = λ db. KeepsPasses (told_of_database calls) out.database (odb_lock_of database) db in subst P (sym database_same) k.database);
  }

  pub database_back : (out : OutNumbers) (number : ℕ) (rest : List ℕ) (before after : SessionPasses D gd) (pass : _) →
      out.database ≡ number ∷ rest → HasCallsBut out calls objects database before →
      PutsBack before.database pass after.database → after.buffers ≡ before.buffers → after.engine ≡ before.engine →
      number_of pass ≡ number → IsOf (odb_lock_of database) pass → held_by pass ≡ nothing →
      told_of_database calls number (seen_by pass) → HasCallsBut (record out { database = rest }) calls objects database after
  database_back out number rest before after pass e k put buffers engine_same is own idle told = record {
    engine = (let P : _ → Type 0 = λ en. KeepsPasses (told_of_engine calls) out.engine (engine_lock_of objects.engine) en in subst P (sym engine_same) k.engine);
    many = ap (λ bs. length bs.items) buffers ∙ k.many;
    buffers = λ n buffer roster at there. k.buffers n buffer roster at (ap (λ bs. slice_get bs.items n) (sym buffers) ∙ there);
    database = puts_keep (told_of_database calls) (odb_lock_of database) before.database after.database pass number rest put is own idle told
        (let P : List ℕ → Type 0 = λ ns. KeepsPasses (told_of_database calls) ns (odb_lock_of database) before.database in subst P e k.database);
  }

  -- The same of one buffer. The numbers that are out of the others stay.
  pub buffer_back : (out : OutNumbers) (later : ℕ → List ℕ) (place number : ℕ) (buffer : SessionBuffer) (before after : SessionPasses D gd) (pass : _) →
      slice_get objects.buffers.items place ≡ Some buffer → out.buffers place ≡ number ∷ later place →
      ((other : ℕ) → other ≢ place → later other ≡ out.buffers other) → HasCallsBut out calls objects database before →
      ChangesAt (λ b a. PutsBack b pass a) place before.buffers.items after.buffers.items → after.engine ≡ before.engine → after.database ≡ before.database →
      number_of pass ≡ number → IsOf (lock_of buffer.shared) pass → held_by pass ≡ nothing →
      told_of_buffer calls place buffer.size number (seen_by pass) → HasCallsBut (record out { buffers = later }) calls objects database after
  buffer_back out later place number buffer before after pass here e others k put engine_same database_same is own idle told = record {
    engine = (let P : _ → Type 0 = λ en. KeepsPasses (told_of_engine calls) out.engine (engine_lock_of objects.engine) en in subst P (sym engine_same) k.engine);
    many = put.many ∙ k.many;
    buffers = λ n b roster at there. changed_keep (λ b a. PutsBack b pass a)
        (λ m r. (b : SessionBuffer) → slice_get objects.buffers.items m ≡ Some b → KeepsPasses (told_of_buffer calls m b.size) (out.buffers m) (lock_of b.shared) r)
        (λ m r. (b : SessionBuffer) → slice_get objects.buffers.items m ≡ Some b → KeepsPasses (told_of_buffer calls m b.size) (later m) (lock_of b.shared) r)
        place before.buffers.items after.buffers.items put
        (λ x y was held change b2 at2.
        let Q : SessionBuffer → Type 0 = λ z. KeepsPasses (told_of_buffer calls place z.size) (later place) (lock_of z.shared) y in
        let P : List ℕ → Type 0 = λ ns. KeepsPasses (told_of_buffer calls place buffer.size) ns (lock_of buffer.shared) x in
        subst Q (some_same buffer b2 (sym here ∙ at2))
        (puts_keep (told_of_buffer calls place buffer.size) (lock_of buffer.shared) x y pass number (later place) change is own idle told (subst P e (held buffer here))))
        (λ other x apart held b2 at2.
        let P : List ℕ → Type 0 = λ ns. KeepsPasses (told_of_buffer calls other b2.size) ns (lock_of b2.shared) x in
        subst P (sym (others other apart)) (held b2 at2))
        (λ other x was b2 at2. k.buffers other b2 x at2 was)
        n roster there b at;
    database = (let P : _ → Type 0 = λ db. KeepsPasses (told_of_database calls) out.database (odb_lock_of database) db in subst P (sym database_same) k.database);
  }

  -- which numbers are out may be said in another way
  pub calls_said : (out said : OutNumbers) (passes : SessionPasses D gd) → out.engine ≡ said.engine → ((n : ℕ) → n < length objects.buffers.items → out.buffers n ≡ said.buffers n) →
      out.database ≡ said.database → HasCallsBut out calls objects database passes → HasCallsBut said calls objects database passes
  calls_said out said passes e b d k = record {
    engine = (let P : List ℕ → Type 0 = λ ns. KeepsPasses (told_of_engine calls) ns (engine_lock_of objects.engine) passes.engine in subst P e k.engine);
    many = k.many;
    buffers = λ n buffer roster at there. (let P : List ℕ → Type 0 = λ ns. KeepsPasses (told_of_buffer calls n buffer.size) ns (lock_of buffer.shared) roster in
        subst P (b n (slice_get_within objects.buffers.items n buffer at)) (k.buffers n buffer roster at there));
    database = (let P : List ℕ → Type 0 = λ ns. KeepsPasses (told_of_database calls) ns (odb_lock_of database) passes.database in subst P d k.database);
  }

  -- each buffer has its passes
  pub buffer_within : (out : OutNumbers) (place : ℕ) (buffer : SessionBuffer) (before after : SessionPasses D gd) → slice_get objects.buffers.items place ≡ Some buffer →
      HasCallsBut out calls objects database before → after.buffers ≡ before.buffers → place < length after.buffers.items
  buffer_within out place buffer before after at k same =
      let l : place < length objects.buffers.items = slice_get_within objects.buffers.items place buffer at in
      let many : length after.buffers.items ≡ length objects.buffers.items = ap (λ bs. length bs.items) same ∙ k.many in omega arith

  -- there is room for a pass of the engine, of the database, or of a buffer that is out
  pub engine_room : (out : OutNumbers) (number : ℕ) (rest : List ℕ) (passes : SessionPasses D gd) → out.engine ≡ number ∷ rest → HasCallsBut out calls objects database passes →
      length (items_of passes.engine) < room_of passes.engine
  engine_room out number rest passes e k =
      let P : List ℕ → Type 0 = λ ns. KeepsPasses (told_of_engine calls) ns (engine_lock_of objects.engine) passes.engine in
      room_for (told_of_engine calls) (engine_lock_of objects.engine) passes.engine number rest (subst P e k.engine)

  pub database_room : (out : OutNumbers) (number : ℕ) (rest : List ℕ) (passes : SessionPasses D gd) → out.database ≡ number ∷ rest → HasCallsBut out calls objects database passes →
      length (items_of passes.database) < room_of passes.database
  database_room out number rest passes e k =
      let P : List ℕ → Type 0 = λ ns. KeepsPasses (told_of_database calls) ns (odb_lock_of database) passes.database in
      room_for (told_of_database calls) (odb_lock_of database) passes.database number rest (subst P e k.database)

  pub buffer_room : (out : OutNumbers) (place number : ℕ) (rest : List ℕ) (buffer : SessionBuffer) (passes : SessionPasses D gd) (roster : _) →
      slice_get objects.buffers.items place ≡ Some buffer → out.buffers place ≡ number ∷ rest → HasCallsBut out calls objects database passes →
      slice_get passes.buffers.items place ≡ Some roster → length (items_of roster) < room_of roster
  buffer_room out place number rest buffer passes roster b e k at =
      let P : List ℕ → Type 0 = λ ns. KeepsPasses (told_of_buffer calls place buffer.size) ns (lock_of buffer.shared) roster in
      room_for (told_of_buffer calls place buffer.size) (lock_of buffer.shared) roster number rest (subst P e (k.buffers place buffer roster b at))

  module _ (lists : DeclaredLists) where
    -- The main thread's own passes come back.
    pub main_back : (s0 s1 s2 : SessionPasses D gd) (pe pd : _) → HasCallsBut (out_to lists 0) calls objects database s0 →
        PutsBack s0.engine pe s1.engine → s1.buffers ≡ s0.buffers → s1.database ≡ s0.database →
        number_of pe ≡ 0 → IsOf (engine_lock_of objects.engine) pe → held_by pe ≡ nothing → own_entries pe ≡ calls.main_engine →
        PutsBack s1.database pd s2.database → s2.buffers ≡ s1.buffers → s2.engine ≡ s1.engine →
        number_of pd ≡ 0 → IsOf (odb_lock_of database) pd → held_by pd ≡ nothing → seen_by pd ≡ calls.main_database →
        HasCalls calls objects database s2
    main_back s0 s1 s2 pe pd k put_e be de ne oe he me put_d bd ed nd od hd sd =
        let out : OutNumbers = out_to lists 0 in
        let k1 = engine_back out 0 [] s0 s1 pe refl k put_e be de ne oe he (ap (λ (n : ℕ). entries_by n (seen_by pe)) (sym ne) ∙ me) in
        let out1 : OutNumbers = record out { engine = [] } in
        let k2 = database_back out1 0 [] s1 s2 pd refl k1 put_d bd ed nd od hd sd in
        calls_said (record out1 { database = [] }) none_out s2 refl (λ n l. refl) refl k2

    -- The client's other passes are back; those of its ports are out still.
    pub ports_still : (client ports : ℕ) (database_out : List ℕ) (passes : SessionPasses D gd) → database_out ≡ (out_to lists client).database → length objects.buffers.items ≤ ports →
        HasCallsBut (record { engine = (out_to lists client).engine; buffers = (out_to lists (client + 1)).buffers; database = database_out }) calls objects database passes →
        HasCallsBut (ports_out lists client ports) calls objects database passes
    ports_still client ports database_out passes same all k =
        calls_said (record { engine = (out_to lists client).engine; buffers = (out_to lists (client + 1)).buffers; database = database_out }) (ports_out lists client ports) passes refl
        (λ n l. ap (λ (k : ℕ). (out_to lists k).buffers n) (add-one client) ∙ sym (port_here lists client ports n (omega (arith, l, all)))) same k

    module _ (client : ℕ) (wanted : MemberDeclared) (account : Account) (has : HasAccount lists calls client wanted account) where
      -- The client's pass of the engine comes back;
      pub client_engine_back : (s0 s1 : SessionPasses D gd) (pe : _) → HasCallsBut (out_to lists (client + 1)) calls objects database s0 →
          PutsBack s0.engine pe s1.engine → s1.buffers ≡ s0.buffers → s1.database ≡ s0.database →
          number_of pe ≡ client + 1 → IsOf (engine_lock_of objects.engine) pe → held_by pe ≡ nothing → own_entries pe ≡ account.engine →
          HasCallsBut (record (out_to lists (client + 1)) { engine = (out_to lists client).engine }) calls objects database s1
      client_engine_back s0 s1 pe k put be de ne oe he me =
          engine_back (out_to lists (client + 1)) (suc client) (out_to lists client).engine s0 s1 pe (engine_one lists client) k put be de (ne ∙ add-one client) oe he
          (engine_told calls client account.engine pe ne me (ap (λ (a : Account). a.engine) (ap account_or_none has.told)))

      -- that of the database, if it has one;
      pub client_database_back : (out : OutNumbers) (s0 s1 : SessionPasses D gd) (pd : _) → out.database ≡ (out_to lists (client + 1)).database → calls_database (Some wanted) ≡ true →
          HasCallsBut out calls objects database s0 →
          PutsBack s0.database pd s1.database → s1.buffers ≡ s0.buffers → s1.engine ≡ s0.engine →
          number_of pd ≡ client + 1 → IsOf (odb_lock_of database) pd → held_by pd ≡ nothing → seen_by pd ≡ account.database →
          HasCallsBut (record out { database = (out_to lists client).database }) calls objects database s1
      client_database_back out s0 s1 pd same calls_it k put bd ed nd od hd sd =
          database_back out (suc client) (out_to lists client).database s0 s1 pd (same ∙ database_one lists client wanted has.has_wanted calls_it) k put bd ed (nd ∙ add-one client) od hd
          (sd ∙ sym (ap (λ (a : Account). a.database) (ap account_or_none has.told)))

    -- The port of a client that calls one buffer alone comes back.
    pub own_port_back : (client : ℕ) (port : Access) (is : IsOwnPort lists objects calls client port) (s0 s1 : SessionPasses D gd) (pb : _) →
        HasCallsBut (ports_out lists client (length objects.buffers.items)) calls objects database s0 →
        ChangesAt (λ b a. PutsBack b pb a) is.number s0.buffers.items s1.buffers.items → s1.engine ≡ s0.engine → s1.database ≡ s0.database →
        number_of pb ≡ client + 1 → IsOf (lock_of is.buffer.shared) pb → held_by pb ≡ nothing → told_through is.buffer.size (suc client) (Some port) (seen_by pb) →
        HasCallsBut (out_to lists client) calls objects database s1
    own_port_back client port is s0 s1 pb k put eb db nb ob hb tb =
        let many : ℕ = length objects.buffers.items in
        let P : Option Access → Type 0 = λ o. told_through is.buffer.size (suc client) o (seen_by pb) in
        buffer_back (ports_out lists client many) (out_to lists client).buffers is.number (suc client) is.buffer s0 s1 pb is.has_buffer
        (own_port lists client is.wanted is.has_wanted is.number is.has_number many (slice_get_within objects.buffers.items is.number is.buffer is.has_buffer))
        (own_beside lists client is.wanted is.has_wanted is.number is.has_number many)
        k put eb db (nb ∙ add-one client) ob hb (subst P (sym is.told) tb)

    -- The ports of a client that has one to each buffer come back, the last one first.
    module _ (client : ℕ) where
      pub logger_port_back : (place : ℕ) (buffer : SessionBuffer) (port : Access) (s0 s1 : SessionPasses D gd) (pb : _) → slice_get (declared_members lists) client ≡ Some WantedLogger →
          slice_get objects.buffers.items place ≡ Some buffer → (account_at calls client).port place ≡ Some port →
          HasCallsBut (ports_out lists client (suc place)) calls objects database s0 →
          ChangesAt (λ b a. PutsBack b pb a) place s0.buffers.items s1.buffers.items → s1.engine ≡ s0.engine → s1.database ≡ s0.database →
          number_of pb ≡ client + 1 → IsOf (lock_of buffer.shared) pb → held_by pb ≡ nothing → told_through buffer.size (suc client) (Some port) (seen_by pb) →
          HasCallsBut (ports_out lists client place) calls objects database s1
      logger_port_back place buffer port s0 s1 pb wanted b p k put eb db nb ob hb tb =
          let P : Option Access → Type 0 = λ o. told_through buffer.size (suc client) o (seen_by pb) in
          buffer_back (ports_out lists client (suc place)) (ports_out lists client place).buffers place (suc client) buffer s0 s1 pb b
          (port_now lists client place wanted) (λ other apart. port_beside lists client place other apart)
          k put eb db (nb ∙ add-one client) ob hb (subst P (sym p) tb)

-- What is told of passes by which no call was made, where these members are all that have others.
module _ {D F : Type 0} (calls : SessionCalls) (objects : SessionObjects) (database : SharedOdb D) (lists : DeclaredLists) (members : List (MemberSeen Generator F))
    (called : AreCalledAt lists objects database calls members) (count : ℕ) (many : length members ≡ count) (accounts : length calls.members ≡ count) where
  member_at : (client : ℕ) → client < count → (m : MemberSeen Generator F) × CalledAt lists objects database calls client m
  member_at client l = let m = there_below members client (omega arith) in (m.0, called client m.0 m.1)

  none_at : (client : ℕ) → count ≤ client → slice_get calls.members client ≡ nothing
  none_at client past = slice_get_past calls.members client (omega arith)

  engine_untold : (k : ℕ) → ¬ Contains (out_to lists count).engine k → told_of_engine calls k []
  engine_untold zero absent = absurd (absent (down_others (λ n. true) (0 ∷ []) count 0 (at_first 0 [] 0 refl)))
  engine_untold (suc client) absent = dite (dec_le count client)
      (λ past. ap (λ (o : Option Account). (account_or_none o).engine) (sym (none_at client past)))
      (λ no. absurd (absent (down_all (λ n. true) (0 ∷ []) count client (omega arith) refl)))

  database_untold : (k : ℕ) → ¬ Contains (out_to lists count).database k → told_of_database calls k []
  database_untold zero absent = absurd (absent (down_others (λ n. calls_database (slice_get (declared_members lists) n)) (0 ∷ []) count 0 (at_first 0 [] 0 refl)))
  database_untold (suc client) absent = dite (dec_le count client)
      (λ past. ap (λ (o : Option Account). (account_or_none o).database) (sym (none_at client past)))
      (λ no. one (omega arith) (calls_database (slice_get (declared_members lists) client)) refl)
    where
      one : client < count → (b : Bool) → calls_database (slice_get (declared_members lists) client) ≡ b → told_of_database calls (suc client) []
      one l true is = absurd (absent (down_all (λ n. calls_database (slice_get (declared_members lists) n)) (0 ∷ []) count client l is))
      one l false is =
          let m = member_at client l in
          sym (ap (λ (o : Option Account). (account_or_none o).database) m.1.account.told
          ∙ no_database objects database lists.channels client m.1.is (ap calls_database (sym m.1.account.has_wanted) ∙ is))

  buffer_untold : (buffer size k : ℕ) → ¬ Contains ((out_to lists count).buffers buffer) k → told_of_buffer calls buffer size k []
  buffer_untold buffer size zero absent = refl
  buffer_untold buffer size (suc client) absent = dite (dec_le count client)
      (λ past.
      let P : Option Access → Type 0 = λ o. told_through size (suc client) o [] in
      subst P (sym (ap (λ (o : Option Account). (account_or_none o).port buffer) (none_at client past))) refl)
      (λ no. one (omega arith) (calls_buffer buffer (slice_get (declared_members lists) client)) refl)
    where
      one : client < count → (b : Bool) → calls_buffer buffer (slice_get (declared_members lists) client) ≡ b → told_of_buffer calls buffer size (suc client) []
      one l true is = absurd (absent (down_all (λ n. calls_buffer buffer (slice_get (declared_members lists) n)) [] count client l is))
      one l false is =
          let m = member_at client l in
          let P : Option Access → Type 0 = λ o. told_through size (suc client) o [] in
          subst P (sym (ap (λ (o : Option Account). (account_or_none o).port buffer) m.1.account.told
          ∙ no_port objects database lists.channels client buffer m.1.is (ap (calls_buffer buffer) (sym m.1.account.has_wanted) ∙ is))) refl

  pub untold : {gd : _} (passes : SessionPasses D gd) → HasFreshBut (out_to lists count) objects database passes → HasCallsBut (out_to lists count) calls objects database passes
  untold passes fresh = record {
    engine = unseen_tells (told_of_engine calls) (out_to lists count).engine (engine_lock_of objects.engine) passes.engine
        (λ k absent. engine_untold k absent) fresh.engine.keeps;
    many = fresh.many;
    buffers = λ number buffer roster at there.
        unseen_tells (told_of_buffer calls number buffer.size) ((out_to lists count).buffers number) (lock_of buffer.shared) roster
        (λ k absent. buffer_untold number buffer.size k absent) (fresh.buffers number buffer roster at there).keeps;
    database = unseen_tells (told_of_database calls) (out_to lists count).database (odb_lock_of database) passes.database
        (λ k absent. database_untold k absent) fresh.database.keeps;
  }
