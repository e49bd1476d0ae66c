-- How many members send events and count in reports, where they stand in the order of their kinds.
use Rattle.std.proofs.Common.{◌≡◌, ℕ, suc, ◌+◌, List, [], ◌∷◌, ◌++◌, length, map, refl, ap, ◌∙◌, add-zero, arith}
use Rattle.std.specs.Prelude.{cond}
use Rattle.std.proofs.lemmas.List.Sums.{sum_by-cons}
use Rattle.transitions.specs.declared.sequences.Role.TheVariants.{FrontEnd, Logger, Analyzer}
use Rattle.session_runs.specs.declared.opening.MemberName.{MemberName}
use Rattle.session_runs.specs.Members.{MembersCounted, gets_reports, member_in, reporter_count, sender_count, sends_events}

abbrev sends : MemberName → ℕ
sends m = cond (sends_events m.role) 1 0

abbrev counts : MemberName → ℕ
counts m = cond (gets_reports m.role) 1 0

one_more : (a b c : ℕ) → a ≡ b + c → 1 + a ≡ suc b + c
one_more a b c is = omega (arith, is)

next : (a b : ℕ) → a ≡ b → 1 + a ≡ suc b
next a b is = omega (arith, is)

-- front-ends send events, and count in no report
fronts_send : (fronts : List (List ℕ)) (rest : List MemberName) → sender_count (map (member_in FrontEnd) fronts ++ rest) ≡ length fronts + sender_count rest
fronts_send [] rest = grind arith
fronts_send (front ∷ fronts) rest =
    sum_by-cons sends (member_in FrontEnd front) (map (member_in FrontEnd) fronts ++ rest) ∙ one_more _ _ _ (fronts_send fronts rest)

fronts_report : (fronts : List (List ℕ)) (rest : List MemberName) → reporter_count (map (member_in FrontEnd) fronts ++ rest) ≡ reporter_count rest
fronts_report [] rest = refl
fronts_report (front ∷ fronts) rest = fronts_report fronts rest

-- analyzers send none, and each counts in a report
analyzers_send : (analyzers : List (List ℕ)) → sender_count (map (member_in Analyzer) analyzers) ≡ 0
analyzers_send [] = refl
analyzers_send (analyzer ∷ analyzers) = analyzers_send analyzers

analyzers_report : (analyzers : List (List ℕ)) → reporter_count (map (member_in Analyzer) analyzers) ≡ length analyzers
analyzers_report [] = refl
analyzers_report (analyzer ∷ analyzers) =
    sum_by-cons counts (member_in Analyzer analyzer) (map (member_in Analyzer) analyzers) ∙ next _ _ (analyzers_report analyzers)

pub counted : MembersCounted
counted = record {
  senders = λ fronts logger analyzers.
      fronts_send fronts (member_in Logger logger ∷ map (member_in Analyzer) analyzers)
      ∙ (ap (λ (n : ℕ). length fronts + n) (analyzers_send analyzers) ∙ add-zero (length fronts));
  reporters = λ fronts logger analyzers.
      fronts_report fronts (member_in Logger logger ∷ map (member_in Analyzer) analyzers) ∙ analyzers_report analyzers;
}
