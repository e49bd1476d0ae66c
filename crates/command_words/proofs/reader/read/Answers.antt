use Rattle.std.proofs.Common.{◌≡◌, ◌∙◌, ◌≤◌, List, ℕ, true, false, length, map, take, sym, ap, arith, length-take}
use Rattle.std.specs.Borrow.{Bor}
use lib.ListN.{length-map}
use Rattle.command_words.specs.Reader.{has_separator}
use Rattle.command_words.proofs.Reading.{form_apart}
use Rattle.command_words.proofs.Texts.{separator_is}
use Rattle.command_words.proofs.reader.read.Goals as goal

two : (words : List (List ℕ)) → length (take 2 words) ≤ 2
two words = omega (arith, length-take 2 words)

few : (texts : List (Bor (List ℕ))) (words : List (List ℕ)) → map (λ t. t.now) texts ≡ take 2 words → length texts ≤ 2
few texts words are = omega (arith, two words, ap (length {A = List ℕ}) are, length-map texts (λ (t : Bor (List ℕ)). t.now))

pub returns-then-contains : goal.returns-then-contains
returns-then-contains c = λ has.
    let words = ap (map (λ (t : Bor (List ℕ)). t.now)) c.deref.ensures.value ∙ c.in_ok-texts.ensures in
    let test = c.contains.ensures.value ∙ separator_is c.deref.result.now ∙ ap has_separator words ∙ form_apart (take 2 c.args.words.now) (two c.args.words.now) has in
    let bad : true ≡ false = sym c.if-contains.true ∙ test in
    absurd (cc)

pub form_read-requires : goal.form_read-requires
form_read-requires c =
    let texts = c.as_slice.ensures.value ∙ sym c.deref.ensures.value in
    record {
      few = few c.as_slice.result.now c.args.words.now (ap (map (λ (t : Bor (List ℕ)). t.now)) c.as_slice.ensures.value ∙ c.in_ok-texts.ensures);
      apart = ap has_separator (ap (map (λ (t : Bor (List ℕ)). t.now)) texts) ∙ sym (separator_is c.deref.result.now) ∙ sym c.contains.ensures.value ∙ c.if-contains.false;
    }
