-- The loop over the banks of an event.
use Rattle.std.proofs.Common.{◌≡◌, ℕ, ◌+◌, ◌-◌, ◌^◌, ◌≤◌, List, [], ◌∷◌, length, refl, sym, ap, subst, ◌∙◌, arith}
use Rattle.std.specs.List.{filter_map}
use Rattle.std.proofs.lemmas.List.Sums.{fold-append, sum_by-cons}
use Rattle.std.proofs.lemmas.List.Elements.{filter_map-append, All-weaker}
use Rattle.bank_format.specs.BankAreas.{BankValue}
use Rattle.event_report.specs.EventBanks.{integer_bank}
use Rattle.event_report.specs.Tallies.{IdTally, BankTally}
use Rattle.event_report.specs.Steps.{bank_tally_after, banks_after}
use Rattle.event_report.specs.declared.rows.IdRow.{IdRow}
use Rattle.event_report.specs.declared.rows.BankRow.{BankRow}
use Rattle.event_report.specs.Held.{FiguresWithin, IdsWithin, BanksWithin, weight}
use Rattle.event_report.proofs.Sums.{within_more}

-- what is left still leads from here to where the whole leads from the start
pub record IsCounted (first : BankTally) (all : List BankValue) (now : BankTally) (left : List BankValue) : Type 0 where
  pub same : banks_after now (filter_map integer_bank left) ≡ banks_after first (filter_map integer_bank all)
  pub within : (m : ℕ) → BanksWithin m first → (n : ℕ) × (n + weight left ≡ m + weight all) × BanksWithin n now
  pub fewer : weight left ≤ weight all

pub counted_first : (first : BankTally) (all : List BankValue) → IsCounted first all first all
counted_first first all = record { same = refl; within = λ m h. (m, refl, h); fewer = omega arith }

weight_cons : (b : BankValue) (left : List BankValue) → weight (b ∷ left) ≡ 1 + length b.body + weight left
weight_cons b left = sum_by-cons (λ (c : BankValue). 1 + length c.body) b left

pub counted_more : (first now new : BankTally) (all left rest : List BankValue) (b : BankValue) → left ≡ b ∷ rest
    → new ≡ banks_after now (filter_map integer_bank (b ∷ []))
    → ((m : ℕ) → BanksWithin m now → BanksWithin (m + (1 + length b.body)) new) → IsCounted first all now left → IsCounted first all new rest
counted_more first now new all left rest b split is within so_far =
    let weighs : weight left ≡ 1 + length b.body + weight rest = ap weight split ∙ weight_cons b rest in
    record {
      same =
          ap (λ (t : BankTally). banks_after t (filter_map integer_bank rest)) is
          ∙ sym (fold-append bank_tally_after now (filter_map integer_bank (b ∷ [])) (filter_map integer_bank rest))
          ∙ ap (banks_after now) (sym (filter_map-append integer_bank (b ∷ []) rest))
          ∙ ap (λ (bs : List BankValue). banks_after now (filter_map integer_bank bs)) (sym split)
          ∙ so_far.same;
      within = λ m h. let before = so_far.within m h in (before.0 + (1 + length b.body), omega (arith, before.1, weighs), within before.0 before.2);
      fewer = omega (arith, weighs, so_far.fewer);
    }

pub counted_all : (first now : BankTally) (all left : List BankValue) → left ≡ [] → IsCounted first all now left → now ≡ banks_after first (filter_map integer_bank all)
counted_all first now all left none so_far =
    ap (λ (bs : List BankValue). banks_after now (filter_map integer_bank bs)) (sym none) ∙ so_far.same

pub within_all : (first now : BankTally) (all left : List BankValue) (m : ℕ) → left ≡ [] → IsCounted first all now left → BanksWithin m first → BanksWithin (m + weight all) now
within_all first now all left m none so_far h =
    let before = so_far.within m h in
    let nothing : weight left ≡ 0 = ap weight none in
    let e : before.0 ≡ m + weight all = omega (arith, before.1, nothing) in
    subst (λ (n : ℕ). BanksWithin n now) e before.2

pub banks_weaker : (m n : ℕ) (t : BankTally) → m ≤ n → BanksWithin m t → BanksWithin n t
banks_weaker m n t le within =
    record {
      rows = All-weaker (λ (r : BankRow). FiguresWithin m r.figures) (λ (r : BankRow). FiguresWithin n r.figures) (λ r h. within_more m n r.figures le h) t.rows within.rows;
      rest = omega (arith, within.rest);
    }

-- there is still room for the bank that comes next
pub room_for_next : (first now : BankTally) (all left rest : List BankValue) (b : BankValue) → left ≡ b ∷ rest → weight all ≤ 2 ^ 62 → BanksWithin (2 ^ 62 - weight all) first
    → IsCounted first all now left → BanksWithin (2 ^ 62 - (1 + length b.body)) now
room_for_next first now all left rest b split small within so_far =
    let weighs : weight left ≡ 1 + length b.body + weight rest = ap weight split ∙ weight_cons b rest in
    let before = so_far.within (2 ^ 62 - weight all) within in
    banks_weaker before.0 (2 ^ 62 - (1 + length b.body)) now (omega (arith, before.1, weighs)) before.2

pub ids_weaker : (m n : ℕ) (t : IdTally) → m ≤ n → IdsWithin m t → IdsWithin n t
ids_weaker m n t le within =
    record {
      rows = All-weaker (λ (r : IdRow). r.count ≤ m) (λ (r : IdRow). r.count ≤ n) (λ r h. omega (arith, le, h)) t.rows within.rows;
      rest = omega (arith, within.rest);
    }
