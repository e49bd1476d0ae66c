-- One registration among those of the members, and what is so of the logger alone.
use Rattle.std.specs.Prelude.{◌≡◌, ◌↔◌, ℕ, zero, suc, ◌+◌, ◌<◌, true, List, [], ◌∷◌, ◌++◌, length, map, slice_get, Some, refl}
use Rattle.std.proofs.Common.{ap, sym, subst, ◌∙◌, arith, inl, inr}
use Rattle.std.proofs.lemmas.Option.{same_Some}
use Rattle.daq_types.specs.Callers.{main_caller}
use Rattle.transitions.specs.declared.sequences.Role.{Role}
use Rattle.transitions.specs.declared.sequences.Role.TheVariants.{Logger}
use Rattle.daq_types.specs.declared.runs.Transition.TheVariants.{Start}
use Rattle.transitions.specs.Sequences.{sequence_for, sequences_of}
use Rattle.transitions.specs.declared.client.Registered.{Registered}
use Rattle.member_model.specs.RunEngines.{EngineEntry}
use Rattle.history_laws.specs.BegunTurns.{IsAlone}
use Rattle.session_runs.specs.declared.opening.MemberName.{MemberName}
use Rattle.session_runs.specs.Members.{gets_dumps, gets_reports, member_in, registration, registrations}
use Rattle.mid_logger.specs.ChannelTurns.{logger_name}
use Rattle.session_laws.specs.ClosedSessions.{ClosedSession, logger_client}
use Rattle.session_laws.specs.MembersAtEnd.{NamesMembers}

-- One registration among them.

-- the call stands among these
pub record Among (calls : List EngineEntry) (entry : EngineEntry) : Type 0 where
  pub before : List EngineEntry
  pub after : List EngineEntry
  pub is : calls ≡ before ++ entry ∷ after

pub registered_at : (first k n : ℕ) (ms : List MemberName) (m : MemberName) → n ≡ first + k → slice_get ms k ≡ Some m → Among (registrations first ms) (registration n m)
registered_at first k n [] m number at = absurd (cc (at))
registered_at first zero n (x ∷ ms) m number at =
    let same : x ≡ m = cc (at) in
    let here : n ≡ first = omega arith in
    record {
      before = [];
      after = registrations (suc first) ms;
      is = ap (λ (y : MemberName). registration first y ∷ registrations (suc first) ms) same ∙ ap (λ (k : ℕ). registration k m ∷ registrations (suc first) ms) (sym here);
    }
registered_at first (suc k) n (x ∷ ms) m number at =
    let rest : Among (registrations (suc first) ms) (registration n m) = registered_at (suc first) k n ms m (omega arith) at in
    record { before = registration first x ∷ rest.before; after = rest.after; is = ap (λ (l : List EngineEntry). registration first x ∷ l) rest.is }

-- a call that begins a transition stands behind all registrations
pub behind_all : (first : ℕ) (ms : List MemberName) (xs : List EngineEntry) (b : EngineEntry) (ys zs : List EngineEntry) → ((k : ℕ) (m : MemberName) → b ≡ registration k m → ⊥) → xs ++ b ∷ ys ≡ registrations first ms ++ zs
    → (more : List EngineEntry) × (xs ≡ registrations first ms ++ more)
behind_all first [] xs b ys zs none is = (xs, refl)
behind_all first (m ∷ ms) [] b ys zs none is = absurd (none first m (cc (is)))
behind_all first (m ∷ ms) (x ∷ xs) b ys zs none is =
    let head : x ≡ registration first m = cc (is) in
    let rest = behind_all (suc first) ms xs b ys zs none (cc (is)) in
    (rest.0, ap (λ (e : EngineEntry). e ∷ xs) head ∙ ap (λ (l : List EngineEntry). registration first m ∷ l) rest.1)

-- What is so of the logger alone.

-- the member as the engine knows it
abbrev as_client : MemberName → Registered
as_client m = record { name = m.name; sequences = sequences_of m.role; wants_dump = gets_dumps m.role; wants_report = gets_reports m.role }

pub record IsOfLogger (P : Registered → Type 0) : Type 0 where
  pub logger : (name : List ℕ) → P (as_client (member_in Logger name))
  pub alone : (role : Role) (name : List ℕ) → P (as_client (member_in role name)) → role ≡ Logger

pub logger_alone : (c : ClosedSession) → NamesMembers c → (P : Registered → Type 0) → IsOfLogger P → (client : ℕ) (m : MemberName) → slice_get c.registered client ≡ Some m → IsAlone P (logger_client c) (main_caller, registration client m)
logger_alone c named P of client m at = (
  (λ holds. named.one_logger client m at (of.alone m.role m.name holds)),
  (λ is.
      let same : m ≡ member_in Logger logger_name = same_Some m (member_in Logger logger_name) (sym at ∙ ap (slice_get c.registered) is ∙ named.logger) in
      subst (λ (x : MemberName). P (as_client x)) (sym same) (of.logger logger_name)),
)

-- the logger alone gets dumps, and has its number for a start
wants_alone : (role : Role) → gets_dumps role ≡ true → role ≡ Logger
wants_alone Logger is = refl
wants_alone role is = absurd (cc (is))

numbered_alone : (role : Role) → sequence_for (sequences_of role) Start ≡ Some 200 → role ≡ Logger
numbered_alone Logger is = refl
numbered_alone role is = absurd (omega (arith, same_Some _ 200 is))

pub alone_wants : IsOfLogger (λ (c : Registered). c.wants_dump ≡ true)
alone_wants = record { logger = λ name. refl; alone = λ role name is. wants_alone role is }

pub alone_numbered : IsOfLogger (λ (c : Registered). sequence_for c.sequences Start ≡ Some 200)
alone_numbered = record { logger = λ name. refl; alone = λ role name is. numbered_alone role is }
