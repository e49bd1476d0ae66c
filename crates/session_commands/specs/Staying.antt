-- What stays of an open session, whatever lines are answered.
use Rattle.std.specs.Prelude.{◌≡◌, ℕ, zero, suc}
use Rattle.std.proofs.Common.{refl, subst, sym, ◌∙◌}
use Rattle.odb_watch.specs.DatabasePorts.{DatabaseAccess, IsSamePort}
use Rattle.transition_lock.specs.declared.shared.SharedEngine.{SharedEngine}
use Rattle.member_crew.specs.Rounds.{HadRounds}
use Rattle.session_setup.specs.declared.declared.DeclaredLists.{DeclaredLists}

-- The members had any number of rounds; the engine, the database and the declarations are the same.
pub record StaysOpen {M : Type 0} (round : M → M → Type 0) (members later : M) (engine engine_later : SharedEngine) (access access_later : DatabaseAccess) (lists lists_later : DeclaredLists) : Type 0 where
  pub count : ℕ
  pub rounds : HadRounds round count members later
  pub same_engine : engine_later ≡ engine
  pub port : IsSamePort access access_later
  pub same_lists : lists_later ≡ lists

-- so many rounds and then so many are rounds
pub rounds_more : {M : Type 0} (round : M → M → Type 0) (n : ℕ) (a b c : M) (m : ℕ) → HadRounds round n a b → HadRounds round m b c → (count : ℕ) × HadRounds round count a c
rounds_more {M} round n a b c zero ab same = (n, subst (λ (x : M). HadRounds round n a x) (sym same) ab)
rounds_more round n a b c (suc m) ab bc = let more = rounds_more round n a b bc.0 m ab bc.1 in (suc more.0, (bc.0, more.1, bc.2))

-- An open session stays so where nothing happens, and where it stays so twice.

pub stays_open : {M : Type 0} {round : M → M → Type 0} (members : M) (engine : SharedEngine) (access : DatabaseAccess) (lists : DeclaredLists) → StaysOpen round members members engine engine access access lists lists
stays_open members engine access lists = record {
  count = 0;
  rounds = refl;
  same_engine = refl;
  port = record { database = refl; caller = refl };
  same_lists = refl;
}

pub stays_open_on : {M : Type 0} {round : M → M → Type 0} {a b c : M} {d e f : SharedEngine} {g h i : DatabaseAccess} {j k l : DeclaredLists} → StaysOpen round a b d e g h j k → StaysOpen round b c e f h i k l → StaysOpen round a c d f g i j l
stays_open_on {M} {round} {a} {b} {c} ab bc =
    let more = rounds_more round ab.count a b c bc.count ab.rounds bc.rounds in
    record {
      count = more.0;
      rounds = more.1;
      same_engine = bc.same_engine ∙ ab.same_engine;
      port = record { database = bc.port.database ∙ ab.port.database; caller = bc.port.caller ∙ ab.port.caller };
      same_lists = bc.same_lists ∙ ab.same_lists;
    }
