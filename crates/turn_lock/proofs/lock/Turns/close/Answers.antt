use Rattle.std.proofs.Common.{◌≡◌, ◌++◌, ◌<◌, refl, sym, ap, ◌∙◌, ℕ, List, arith, None}
use Rattle.std.specs.Prelude.{All}
use Rattle.std.proofs.lemmas.List.Elements.{All-same, All-map, All-contains, All-weaker}
use Rattle.turn_lock.specs.declared.lock.Pass.{Pass}
use Rattle.daq_types.specs.Callers.{entries_by}
use Rattle.turn_lock.specs.History.{IsPartOf, HadTurnThen}
use Rattle.turn_lock.proofs.LockLaws.{length_history, All_first, All_second}
use Rattle.turn_lock.specs.Protocol.{IsPaired}
use Rattle.turn_lock.specs.Passes.{number_of, seen_by, own_entries, found_by, held_by, IsOf}
use Rattle.turn_lock.specs.Roster.{numbers_of}
use Rattle.turn_lock.specs.Closing.{Absorbs}
use Rattle.turn_lock.proofs.Endings.{All_with, All_without}
use Rattle.turn_lock.proofs.lock.Turns.close.Goals as goal

pub absorb-requires-clause-own : goal.absorb-requires-clause-own
absorb-requires-clause-own g c = let out = c.take_numbered-zero.ensures.out in
    (All_without (IsOf c.args.self) out.0 c.take_numbered-zero.result out.1 (All-same (IsOf c.args.self) _ _ (sym out.2) c.requires.own.each)).0

pub absorb-requires-clause-idle : goal.absorb-requires-clause-idle
absorb-requires-clause-idle g c = let out = c.take_numbered-zero.ensures.out in
    let P : Pass g.row.M.Denot g.row.M-State.Denot g.row.M-Entry.Denot g.M.Machine → Type 0 = λ p. held_by p ≡ None in
    (All_without P out.0 c.take_numbered-zero.result out.1 (All-same P _ _ (sym out.2) c.requires.idle)).0

pub absorb-requires-clause-all_own : goal.absorb-requires-clause-all_own
absorb-requires-clause-all_own g c = let out = c.take_numbered-zero.ensures.out in
    All-same (IsOf c.args.self) _ _ out.3 (All_without (IsOf c.args.self) out.0 c.take_numbered-zero.result out.1 (All-same (IsOf c.args.self) _ _ (sym out.2) c.requires.own.each)).1

pub absorb-requires-clause-all_idle : goal.absorb-requires-clause-all_idle
absorb-requires-clause-all_idle g c = let out = c.take_numbered-zero.ensures.out in
    let P : Pass g.row.M.Denot g.row.M-State.Denot g.row.M-Entry.Denot g.M.Machine → Type 0 = λ p. held_by p ≡ None in
    All-same P _ _ out.3 (All_without P out.0 c.take_numbered-zero.result out.1 (All-same P _ _ (sym out.2) c.requires.idle)).1

pub finish-value-requires-clause-paired : goal.finish-value-requires-clause-paired
finish-value-requires-clause-paired g c = λ n positive below. let out = c.take_numbered-zero.ensures.out in let zero = c.absorb.new.zero in
    let P : Pass g.row.M.Denot g.row.M-State.Denot g.row.M-Entry.Denot g.M.Machine → Type 0 = λ p. 0 < number_of p → IsPaired (number_of p) zero.seat.me.0.pairs in
    let here : P c.take_numbered-zero.result = λ l. absurd (let z = c.take_numbered-zero.ensures.number in omega arith) in
    let others : All P (out.0 ++ out.1) = All-weaker (Absorbs zero) P (λ p a l. (a.pair.0, (number_of p, own_entries p), a.pair.1, refl)) _ (All-same (Absorbs zero) _ _ (sym out.3) c.absorb.ensures.absorbed) in
    let all : All P c.args.passes.items.items = All-same P _ _ out.2 (All_with P out.0 c.take_numbered-zero.result out.1 here others) in
    All-contains (λ (m : ℕ). 0 < m → IsPaired m zero.seat.me.0.pairs) (numbers_of c.args.passes) n (All-map (λ (m : ℕ). 0 < m → IsPaired m zero.seat.me.0.pairs) number_of _ all) (c.in_default.ensures.none n below) positive

pub returns-clause-parts : goal.returns-clause-parts
returns-clause-parts g c = let out = c.take_numbered-zero.ensures.out in let zero = c.absorb.new.zero in let settled = c.finish-value.ensures in
    let P : Pass g.row.M.Denot g.row.M-State.Denot g.row.M-Entry.Denot g.M.Machine → Type 0 = λ p. IsPartOf (seen_by zero) (number_of p) (seen_by p) in
    let same : number_of c.take_numbered-zero.result ≡ number_of zero = c.take_numbered-zero.ensures.number ∙ sym c.absorb.ensures.zero in
    let here : P c.take_numbered-zero.result = record { begins = c.absorb.ensures.seen; own = ap (λ n. entries_by n (seen_by zero)) same ∙ c.absorb.ensures.mine } in
    let others : All P (out.0 ++ out.1) = All-weaker (Absorbs zero) P (λ p a. record { begins = a.begins; own = sym (settled.pairs a.pair.0 (number_of p, own_entries p) a.pair.1) }) _ (All-same (Absorbs zero) _ _ (sym out.3) c.absorb.ensures.absorbed) in
    rw c.of-last.ensures (All-same P _ _ out.2 (All_with P out.0 c.take_numbered-zero.result out.1 here others))

pub returns-clause-found : goal.returns-clause-found
returns-clause-found g c = let out = c.take_numbered-zero.ensures.out in let zero = c.absorb.new.zero in
    let Q : ℕ × List (ℕ × g.row.M-Entry.Denot) → Type 0 = HadTurnThen (seen_by zero) in
    let P : Pass g.row.M.Denot g.row.M-State.Denot g.row.M-Entry.Denot g.M.Machine → Type 0 = λ p. All Q (found_by p) in
    let all : All Q (found_by zero) = c.finish-value.ensures.found in let first = c.absorb.ensures.found in
    let here : P c.take_numbered-zero.result = All_first Q (found_by c.take_numbered-zero.result) first.0 (All-same Q _ _ first.1 all) in
    let others : All P (out.0 ++ out.1) = All-weaker (Absorbs zero) P (λ p a. All_first Q (found_by p) a.found.1 (All_second Q a.found.0 (found_by p ++ a.found.1) (All-same Q _ _ (sym a.found.2) all))) _
    (All-same (Absorbs zero) _ _ (sym out.3) c.absorb.ensures.absorbed) in
    rw c.of-last.ensures (All-same P _ _ out.2 (All_with P out.0 c.take_numbered-zero.result out.1 here others))

pub returns-clause-length : goal.returns-clause-length
returns-clause-length g c = rw c.of-last.ensures (length_history _ (seen_by c.absorb.new.zero) c.finish-value.ensures.known)
