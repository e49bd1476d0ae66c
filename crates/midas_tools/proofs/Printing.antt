-- Text that goes to a sink by way of a page, which is written when it is full.
use Rattle.std.specs.Prelude.{ℕ, ◌+◌, List, [], ◌++◌, length, take, Option}
use Rattle.std.proofs.Common.{◌≡◌, ◌∙◌, drop, Result, Ok, Err, OnOk, OnErr, refl, ap, sym, subst, append_assoc, take-append-drop}
use Rattle.std.proofs.Math.Seq.{take-append-add}
use lib.Seq.{take-append_seam}
use Rattle.std.proofs.lemmas.List.{append-nil}
use Rattle.std.specs.Io.KnownBytes.{Appends}
use Rattle.daq_io.specs.Streams.{AppendsPart}
use Rattle.daq_io.specs.declared.faults.Failed.{Failed}
use Rattle.daq_io.proofs.StreamsLaws.{Appends-nil, Appends-trans}
use Rattle.midas_tools.specs.Printing.{PrintsSoFar, PassesText}

-- nothing was printed
pub PrintsSoFar-none : (a : Option (List ℕ)) → PrintsSoFar a a [] []
PrintsSoFar-none a = record { done = []; written = Appends-nil a; text_is = refl }

-- more on the page
pub PrintsSoFar-more : (first now : Option (List ℕ)) (page text more : List ℕ) → PrintsSoFar first now page text → PrintsSoFar first now (page ++ more) (text ++ more)
PrintsSoFar-more first now page text more p = record { done = p.done; written = p.written; text_is = ap (λ (t : List ℕ). t ++ more) p.text_is ∙ append_assoc p.done page more }

-- and so all of the text
pub PrintsSoFar-all : (first now new : Option (List ℕ)) (page text : List ℕ) → PrintsSoFar first now page text → Appends now new page → Appends first new text
PrintsSoFar-all first now new page text p w = subst (λ (t : List ℕ). Appends first new t) (sym p.text_is) (Appends-trans first now new p.done page p.written w)

-- where the page was not written whole, a part of the text was
pub PrintsSoFar-fails : (first now new : Option (List ℕ)) (page text : List ℕ) → PrintsSoFar first now page text → AppendsPart now new page → AppendsPart first new text
PrintsSoFar-fails first now new page text p w = record {
  count = length p.done + w.count;
  appends = subst (λ (t : List ℕ). Appends first new (take (length p.done + w.count) t)) (sym p.text_is)
      (subst (λ (t : List ℕ). Appends first new t) (sym (take-append-add p.done page w.count)) (Appends-trans first now new p.done (take w.count page) p.written w.appends));
}

-- a part of some bytes is a part of these with more behind them
pub AppendsPart-more : (old new : Option (List ℕ)) (bytes more : List ℕ) → AppendsPart old new bytes → AppendsPart old new (bytes ++ more)
AppendsPart-more old new bytes more p = record {
  count = length (take p.count bytes);
  appends = subst (λ (t : List ℕ). Appends old new t)
      (sym (ap (λ (t : List ℕ). take (length (take p.count bytes)) t) (ap (λ (t : List ℕ). t ++ more) (sym (take-append-drop p.count bytes)) ∙ append_assoc (take p.count bytes) (drop p.count bytes) more)
      ∙ take-append_seam (take p.count bytes) (drop p.count bytes ++ more))) p.appends;
}

-- what was printed of a page's text, and then of the page
pub PrintsSoFar-then : (first now new : Option (List ℕ)) (page page1 text : List ℕ) → PrintsSoFar first now page text → PrintsSoFar now new page1 page → PrintsSoFar first new page1 text
PrintsSoFar-then first now new page page1 text p q = record {
  done = p.done ++ q.done;
  written = Appends-trans first now new p.done q.done p.written q.written;
  text_is = p.text_is ∙ ap (λ (t : List ℕ). p.done ++ t) q.text_is ∙ sym (append_assoc p.done q.done page1);
}

-- a text that was copied to a place, with what stands in front of it
pub written_at : (front place behind old text : List ℕ) (at : ℕ) → front ≡ take at old → length front ≡ at → place ≡ text → take (at + length text) (front ++ (place ++ behind)) ≡ take at old ++ text
written_at front place behind old text at front_is len copied =
    subst (λ (n : ℕ). take (n + length text) (front ++ (place ++ behind)) ≡ take at old ++ text) len
    (take-append-add front (place ++ behind) (length text)
    ∙ ap (λ (t : List ℕ). front ++ t) (subst (λ (q : List ℕ). take (length q) (place ++ behind) ≡ place) copied (take-append_seam place behind) ∙ copied)
    ∙ ap (λ (t : List ℕ). t ++ text) front_is)

-- Bytes that pass

-- none
pub none_passes : (now : Option (List ℕ)) (page more : List ℕ) → more ≡ [] → PassesText now now page page more (Ok tt)
none_passes now page more none = record { done = []; written = Appends-nil now; text_is = ap (λ (t : List ℕ). page ++ t) none ∙ append-nil page }

-- behind a text that was printed so far
pub text_passes : (first now new : Option (List ℕ)) (page page1 text more : List ℕ) (done : Unit {0}) → PrintsSoFar first now page text → PassesText now new page page1 more (Ok done) → PrintsSoFar first new page1 (text ++ more)
text_passes first now new page page1 text more done p q = PrintsSoFar-then first now new (page ++ more) page1 (text ++ more) (PrintsSoFar-more first now page text more p) q

pub text_fails : (first now new : Option (List ℕ)) (page page1 text more : List ℕ) (failed : Failed) → PrintsSoFar first now page text → PassesText now new page page1 more (Err failed) → AppendsPart first new (text ++ more)
text_fails first now new page page1 text more failed p q = PrintsSoFar-fails first now new (page ++ more) (text ++ more) (PrintsSoFar-more first now page text more p) q

-- one behind the other
pub both_pass : (now mid new : Option (List ℕ)) (page page1 page2 a b : List ℕ) (done : Unit {0}) (r : Result (Unit {0}) Failed) → PassesText now mid page page1 a (Ok done) → PassesText mid new page1 page2 b r
    → PassesText now new page page2 (a ++ b) r
both_pass now mid new page page1 page2 a b done (Ok x) p q = subst (λ (t : List ℕ). PrintsSoFar now new page2 t) (append_assoc page a b) (text_passes now mid new page1 page2 (page ++ a) b x p q)
both_pass now mid new page page1 page2 a b done (Err e) p q = subst (λ (t : List ℕ). AppendsPart now new t) (append_assoc page a b) (text_fails now mid new page1 page2 (page ++ a) b e p q)

pub first_fails : (now new : Option (List ℕ)) (page page1 a b : List ℕ) (failed : Failed) → PassesText now new page page1 a (Err failed) → PassesText now new page page1 (a ++ b) (Err failed)
first_fails now new page page1 a b failed p = subst (λ (t : List ℕ). AppendsPart now new t) (append_assoc page a b) (AppendsPart-more now new (page ++ a) b p)

-- a page that is written before a line, which then stands alone on it
pub written_before : (now new : Option (List ℕ)) (page page1 line : List ℕ) → Appends now new page → page1 ≡ line → PassesText now new page page1 line (Ok tt)
written_before now new page page1 line all e = record { done = page; written = all; text_is = ap (λ (t : List ℕ). page ++ t) (sym e) }

-- the page is all that is left of a text

pub on_ok_all : (r : Result (Unit {0}) Failed) (first now new : Option (List ℕ)) (page text : List ℕ) → PrintsSoFar first now page text → OnOk r (Appends now new page) → OnOk r (Appends first new text)
on_ok_all (Ok done) first now new page text p all = PrintsSoFar-all first now new page text p all
on_ok_all (Err failed) first now new page text p all = tt

pub on_err_part : (r : Result (Unit {0}) Failed) (first now new : Option (List ℕ)) (page text : List ℕ) → PrintsSoFar first now page text → OnErr r (AppendsPart now new page) → OnErr r (AppendsPart first new text)
on_err_part (Ok done) first now new page text p part = tt
on_err_part (Err failed) first now new page text p part = PrintsSoFar-fails first now new page text p part
