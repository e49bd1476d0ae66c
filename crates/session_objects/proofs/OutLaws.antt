-- Which passes are out.
use Rattle.std.proofs.Common.{◌≡◌, ◌≢◌, ℕ, zero, suc, ◌+◌, ◌<◌, ◌≤◌, ◌==◌, Bool, true, false, List, [], ◌∷◌, sym, ap, ◌∙◌, refl, subst, ⊎_elim, arith, add-one, eq-eqb, ne_eqb, if◌then◌else◌}
use Rattle.std.specs.Prelude.{Contains, slice_get, Option, Some}
use mathlib.Core.Logic.{dite}
use native.Mathlib.Decide.{ℕ_discrete, dec_le}
use Rattle.std.proofs.lemmas.Bool.{lt-ltb, le-ltb}
use Rattle.session_setup.specs.declared.declared.DeclaredLists.{DeclaredLists}
use Rattle.session_setup.specs.declared.member.MemberDeclared.{MemberDeclared}
use Rattle.session_setup.specs.declared.member.MemberDeclared.TheVariants.{FrontEnd as WantedFront, Logger as WantedLogger, Analyzer as WantedAnalyzer}
use Rattle.session_setup.specs.DeclaredMembers.{calls_buffer, calls_database, declared_members, own_buffer}
use Rattle.session_objects.specs.Kept.{OutNumbers, callers_down, out_to, ports_out, buffer_out}
use Rattle.session_objects.proofs.ChangeLaws.{some_same}
use Rattle.session_objects.proofs.RosterLaws.{at_first, in_rest, in_list, none_in}

module _ (calls : ℕ → Bool) (others : List ℕ) where
  -- one client more: it calls the object, or it does not
  pub down_with : (n : ℕ) → calls n ≡ true → callers_down calls others (suc n) ≡ suc n ∷ callers_down calls others n
  down_with n e = rw e refl

  pub down_without : (n : ℕ) → calls n ≡ false → callers_down calls others (suc n) ≡ callers_down calls others n
  down_without n e = rw e refl

  under : (s : Bool) (x : ℕ) (xs : List ℕ) (k : ℕ) → Contains xs k → Contains (if s then x ∷ xs else xs) k
  under true x xs k has = in_rest x xs k has
  under false x xs k has = has

  -- those that were there before the clients are there
  pub down_others : (n k : ℕ) → Contains others k → Contains (callers_down calls others n) k
  down_others zero k has = has
  down_others (suc n) k has = under (calls n) (suc n) (callers_down calls others n) k (down_others n k has)

  -- so is each of the clients that calls the object
  pub down_all : (n client : ℕ) → client < n → calls client ≡ true → Contains (callers_down calls others n) (suc client)
  down_all zero client l s = absurd (omega arith)
  down_all (suc n) client l s = dite (ℕ_discrete client n) (λ e. here e)
      (λ other. under (calls n) (suc n) (callers_down calls others n) (suc client) (down_all n client (omega arith) s))
    where
      here : client ≡ n → Contains (callers_down calls others (suc n)) (suc client)
      here e =
          let P : List ℕ → Type 0 = λ ns. Contains ns (suc client) in
          subst P (sym (down_with n (ap calls (sym e) ∙ s))) (at_first (suc n) (callers_down calls others n) (suc client) (ap suc (sym e)))

  over : (n k : ℕ) (s : Bool) → (Contains (callers_down calls others n) k → k < suc n) →
      Contains (if s then suc n ∷ callers_down calls others n else callers_down calls others n) k → k < suc (suc n)
  over n k true below has = ⊎_elim (λ e. omega arith) (λ h. let l : k < suc n = below h in omega arith) (in_list (suc n) (callers_down calls others n) k has)
  over n k false below has = let l : k < suc n = below has in omega arith

  -- and no other one
  pub down_only : ((k : ℕ) → Contains others k → k < 1) → (n k : ℕ) → Contains (callers_down calls others n) k → k < suc n
  down_only low zero k has = low k has
  down_only low (suc n) k has = over n k (calls n) (down_only low n k) has

pub none_low : (k : ℕ) → Contains (let nil : List ℕ = [] in nil) k → k < 1
none_low k has = absurd (none_in k has)

pub main_low : (k : ℕ) → Contains (0 ∷ []) k → k < 1
main_low k has = ⊎_elim (λ e. omega arith) (λ h. absurd (none_in k h)) (in_list 0 [] k has)

-- one pass more of a buffer is out, and none more of another
pub out_here : (out : OutNumbers) (place number : ℕ) → (buffer_out number place out).buffers place ≡ number ∷ out.buffers place
out_here out place number = rw (eq-eqb place place refl) refl

pub out_beside : (out : OutNumbers) (place number other : ℕ) → other ≢ place → (buffer_out number place out).buffers other ≡ out.buffers other
out_beside out place number other apart = rw (ne_eqb place other (λ e. apart (sym e))) refl

-- A member that calls one buffer alone calls that, and no other.
own_called : (wanted : MemberDeclared) (number : ℕ) → own_buffer wanted ≡ Some number → (buffer : ℕ) → calls_buffer buffer (Some wanted) ≡ (number == buffer)
own_called (WantedFront front) number own buffer = ap (λ (n : ℕ). n == buffer) (some_same front.buffer number own)
own_called WantedLogger number own buffer = absurd (cc (own))
own_called (WantedAnalyzer analyzer) number own buffer = ap (λ (n : ℕ). n == buffer) (some_same analyzer.buffer number own)

-- One member more has its passes:
module _ (lists : DeclaredLists) (client : ℕ) where
  abbrev wanted_at : ℕ → Option MemberDeclared
  wanted_at n = slice_get (declared_members lists) n

  -- of the engine,
  pub engine_one : (out_to lists (client + 1)).engine ≡ suc client ∷ (out_to lists client).engine
  engine_one = ap (λ (n : ℕ). (out_to lists n).engine) (add-one client)

  module _ (wanted : MemberDeclared) (at : wanted_at client ≡ Some wanted) where
    -- of the database, if it calls that,
    pub database_one : calls_database (Some wanted) ≡ true → (out_to lists (client + 1)).database ≡ suc client ∷ (out_to lists client).database
    database_one calls_it = ap (λ (n : ℕ). (out_to lists n).database) (add-one client)
        ∙ down_with (λ n. calls_database (wanted_at n)) (0 ∷ []) client (ap calls_database at ∙ calls_it)

    pub database_same : calls_database (Some wanted) ≡ false → (out_to lists (client + 1)).database ≡ (out_to lists client).database
    database_same not_it = ap (λ (n : ℕ). (out_to lists n).database) (add-one client)
        ∙ down_without (λ n. calls_database (wanted_at n)) (0 ∷ []) client (ap calls_database at ∙ not_it)

    -- and of the buffers that it calls
    buffer_one : (buffer : ℕ) → calls_buffer buffer (Some wanted) ≡ true → (out_to lists (suc client)).buffers buffer ≡ suc client ∷ (out_to lists client).buffers buffer
    buffer_one buffer calls_it = down_with (λ n. calls_buffer buffer (wanted_at n)) [] client (ap (calls_buffer buffer) at ∙ calls_it)

    buffer_same : (buffer : ℕ) → calls_buffer buffer (Some wanted) ≡ false → (out_to lists (suc client)).buffers buffer ≡ (out_to lists client).buffers buffer
    buffer_same buffer not_it = down_without (λ n. calls_buffer buffer (wanted_at n)) [] client (ap (calls_buffer buffer) at ∙ not_it)

    -- where it calls one alone
    module _ (number : ℕ) (own : own_buffer wanted ≡ Some number) where
      pub own_one : (out_to lists (suc client)).buffers number ≡ suc client ∷ (out_to lists client).buffers number
      own_one = buffer_one number (own_called wanted number own number ∙ eq-eqb number number refl)

      pub own_other : (buffer : ℕ) → buffer ≢ number → (out_to lists (suc client)).buffers buffer ≡ (out_to lists client).buffers buffer
      own_other buffer apart = buffer_same buffer (own_called wanted number own buffer ∙ ne_eqb number buffer (λ e. apart (sym e)))

      pub own_next : (buffer : ℕ) → (buffer_out (client + 1) number (out_to lists client)).buffers buffer ≡ (out_to lists (client + 1)).buffers buffer
      own_next buffer = dite (ℕ_discrete buffer number)
          (λ e. let P : ℕ → Type 0 = λ b. (buffer_out (client + 1) number (out_to lists client)).buffers b ≡ (out_to lists (suc client)).buffers b in
          subst P (sym e) (out_here (out_to lists client) number (client + 1)
          ∙ ap (λ (n : ℕ). n ∷ (out_to lists client).buffers number) (add-one client) ∙ sym own_one))
          (λ apart. out_beside (out_to lists client) number (client + 1) buffer apart ∙ sym (own_other buffer apart))
          ∙ ap (λ (n : ℕ). (out_to lists n).buffers buffer) (sym (add-one client))

  -- One that has a port to each buffer has so many of them.
  pub port_here : (m buffer : ℕ) → buffer < m → (ports_out lists client m).buffers buffer ≡ (out_to lists (suc client)).buffers buffer
  port_here m buffer l = rw (lt-ltb buffer m l) refl

  pub port_gone : (m buffer : ℕ) → m ≤ buffer → (ports_out lists client m).buffers buffer ≡ (out_to lists client).buffers buffer
  port_gone m buffer l = rw (le-ltb buffer m l) refl

  -- one that calls one buffer alone has its port to that
  module _ (wanted : MemberDeclared) (at : wanted_at client ≡ Some wanted) (number : ℕ) (own : own_buffer wanted ≡ Some number) (m : ℕ) where
    pub own_port : number < m → (ports_out lists client m).buffers number ≡ suc client ∷ (out_to lists client).buffers number
    own_port l = port_here m number l ∙ own_one wanted at number own

    pub own_beside : (buffer : ℕ) → buffer ≢ number → (out_to lists client).buffers buffer ≡ (ports_out lists client m).buffers buffer
    own_beside buffer apart = dite (dec_le m buffer) (λ l. sym (port_gone m buffer l))
        (λ no. sym (own_other wanted at number own buffer apart) ∙ sym (port_here m buffer (omega arith)))

  pub port_beside : (m buffer : ℕ) → buffer ≢ m → (ports_out lists client m).buffers buffer ≡ (ports_out lists client (suc m)).buffers buffer
  port_beside m buffer other = dite (dec_le m buffer) (λ l. port_gone m buffer l ∙ sym (port_gone (suc m) buffer (omega arith)))
      (λ no. port_here m buffer (omega arith) ∙ sym (port_here (suc m) buffer (omega arith)))

  pub port_now : (m : ℕ) → wanted_at client ≡ Some WantedLogger → (ports_out lists client (suc m)).buffers m ≡ suc client ∷ (ports_out lists client m).buffers m
  port_now m wanted = port_here (suc m) m (omega arith)
      ∙ down_with (λ n. calls_buffer m (wanted_at n)) [] client (ap (calls_buffer m) wanted)
      ∙ ap (λ (ns : List ℕ). suc client ∷ ns) (sym (port_gone m m (omega arith)))

  -- one more is taken
  pub port_next : (m : ℕ) → wanted_at client ≡ Some WantedLogger → (buffer : ℕ) →
      (buffer_out (client + 1) m (ports_out lists client m)).buffers buffer ≡ (ports_out lists client (m + 1)).buffers buffer
  port_next m wanted buffer = dite (ℕ_discrete buffer m)
      (λ e. let P : ℕ → Type 0 = λ b. (buffer_out (client + 1) m (ports_out lists client m)).buffers b ≡ (ports_out lists client (m + 1)).buffers b in
      subst P (sym e) (out_here (ports_out lists client m) m (client + 1) ∙ ap (λ (n : ℕ). n ∷ (ports_out lists client m).buffers m) (add-one client)
      ∙ sym (port_now m wanted) ∙ ap (λ (n : ℕ). (ports_out lists client n).buffers m) (sym (add-one m))))
      (λ apart. out_beside (ports_out lists client m) m (client + 1) buffer apart ∙ port_beside m buffer apart
      ∙ ap (λ (n : ℕ). (ports_out lists client n).buffers buffer) (sym (add-one m)))
