-- The lines of events with their banks.
use Rattle.std.specs.Prelude.{◌≡◌, ℕ, List, [], ◌∷◌, ◌++◌, Option, Result, Ok, Err, IfOk, IfErr}
use Rattle.std.proofs.Common.{◌∙◌, refl, ap, sym, subst, inl, inr, append_assoc}
use Rattle.std.proofs.lemmas.List.{append-nil}
use Rattle.daq_types.specs.declared.events.Event.{Event}
use Rattle.daq_io.specs.Streams.{AppendsPart}
use Rattle.daq_io.specs.declared.faults.Failed.{Failed}
use Rattle.bank_format.specs.Faults.{HoldsBanks, IsFirstFault}
use Rattle.bank_format.specs.Places.{BankReading}
use Rattle.bank_format.specs.declared.faults.BankFault.{BankFault}
use Rattle.midas_tools.specs.Printing.{PrintsSoFar, PassesText}
use Rattle.midas_tools.specs.Texts.{event_line, no_banks_line}
use Rattle.midas_tools.proofs.Printing.{AppendsPart-more, PrintsSoFar-more, PrintsSoFar-then, PrintsSoFar-fails, both_pass, first_fails}
use Rattle.midas_tools.specs.Areas.{AreBankLines, AreEventLines, AreLinesOf, PassesLines, bank_lines}

-- one event more
pub AreLinesOf-more : (es : List Event) (e : Event) (text more : List ℕ) → AreLinesOf es text → AreEventLines e more → AreLinesOf (es ++ e ∷ []) (text ++ more)
AreLinesOf-more [] e text more none lines = (more, [], lines, refl, ap (λ (t : List ℕ). t ++ more) none ∙ sym (append-nil more))
AreLinesOf-more (f ∷ fs) e text more p lines =
    (p.0, p.1 ++ more, p.2, AreLinesOf-more fs e p.1 more p.3 lines, ap (λ (t : List ℕ). t ++ more) p.4 ∙ append_assoc p.0 p.1 more)

-- Banks that are printed one by one: `rest` is the lines of those that are left.

pub bank_printed : (first now new : Option (List ℕ)) (page page1 text line rest all : List ℕ) (done : Unit {0}) → all ≡ line ++ rest → PrintsSoFar first now (page ++ all) text → PassesText now new page page1 line (Ok done)
    → PrintsSoFar first new (page1 ++ rest) text
bank_printed first now new page page1 text line rest all done is p q =
    PrintsSoFar-then first now new (page ++ all) (page1 ++ rest) text p
    (subst (λ (t : List ℕ). PrintsSoFar now new (page1 ++ rest) t) (append_assoc page line rest ∙ ap (λ (t : List ℕ). page ++ t) (sym is)) (PrintsSoFar-more now new page1 (page ++ line) rest q))

pub bank_cut : (first now new : Option (List ℕ)) (page page1 text line rest all : List ℕ) (failed : Failed) → all ≡ line ++ rest → PrintsSoFar first now (page ++ all) text → PassesText now new page page1 line (Err failed)
    → AppendsPart first new text
bank_cut first now new page page1 text line rest all failed is p q =
    PrintsSoFar-fails first now new (page ++ all) text p
    (subst (λ (t : List ℕ). AppendsPart now new t) (append_assoc page line rest ∙ ap (λ (t : List ℕ). page ++ t) (sym is)) (AppendsPart-more now new (page ++ line) rest q))

-- data have lines, whether they are a bank area or not
pub below_of : (body : List ℕ) (r : Result BankReading BankFault) → IfOk r (λ banks. HoldsBanks banks.all body) → IfErr r (λ fault. IsFirstFault body fault) → (below : List ℕ) × AreBankLines body below
below_of body (Ok banks) held fault = (bank_lines banks.all, inl (record { banks = banks.all; held = held; text_is = refl }))
below_of body (Err f) held fault = (no_banks_line f, inr (record { fault = f; first = fault; text_is = refl }))

module _ (e : Event) (now mid new : Option (List ℕ)) (page page1 page2 : List ℕ) where
  pub event_cut : (r : Result BankReading BankFault) (failed : Failed) → IfOk r (λ banks. HoldsBanks banks.all e.body) → IfErr r (λ fault. IsFirstFault e.body fault) → PassesText now new page page1 (event_line e) (Err failed)
      → PassesLines (AreEventLines e) now new page page1 (Err failed)
  event_cut r failed held fault p =
      let b : (below : List ℕ) × AreBankLines e.body below = below_of e.body r held fault in
      record { lines = event_line e ++ b.0; are = record { below = b.0; banks = b.1; text_is = refl }; passes = first_fails now new page page1 (event_line e) b.0 failed p }

  pub event_passes : (below : List ℕ) (done : Unit {0}) (r : Result (Unit {0}) Failed) → AreBankLines e.body below → PassesText now mid page page1 (event_line e) (Ok done) → PassesText mid new page1 page2 below r
      → PassesLines (AreEventLines e) now new page page2 r
  event_passes below done r banks p q = record { lines = event_line e ++ below; are = record { below = below; banks = banks; text_is = refl }; passes = both_pass now mid new page page1 page2 (event_line e) below done r p q }
