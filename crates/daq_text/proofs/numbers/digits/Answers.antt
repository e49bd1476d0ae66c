use Rattle.std.proofs.Common.{◌≡◌, ℕ, ◌-◌, true, false, List, take, drop, length, refl, sym, ap, ◌∙◌}
use Rattle.std.specs.Prelude.{Option, nat_eq}
use Rattle.std.specs.Str.Parse.{digits_value}
use Rattle.daq_text.specs.Numbers.{front, behind, ended, is_digit_in, up_to}
use Rattle.daq_text.proofs.Steps.{length-behind-le, front_is, behind_is, ended_mapped}
use Rattle.daq_text.proofs.numbers.digits.Goals as goal

pub overflow_sub-text : goal.overflow_sub-text
overflow_sub-text c = rw c.behind_digits-rest.ensures (length-behind-le (is_digit_in c.args.base) c.args.text.now)

pub returns-then-is_empty-clause-read : goal.returns-then-is_empty-clause-read
returns-then-is_empty-clause-read c =
    let digits : c.split_at.result.0.now ≡ front (is_digit_in c.args.base) c.args.text.now =
    c.split_at.ensures.front ∙ ap (λ (l : List ℕ). take (length c.args.text.now - length l) c.args.text.now) c.behind_digits-rest.ensures
    ∙ front_is (is_digit_in c.args.base) c.args.text.now in
    let none : nat_eq (length (front (is_digit_in c.args.base) c.args.text.now)) 0 ≡ true =
    ap (λ (l : List ℕ). nat_eq (length l) 0) (sym digits) ∙ sym c.is_empty.ensures ∙ c.if-is_empty.true in
    rw none refl

pub returns-clause-read : goal.returns-clause-read
returns-clause-read c =
    let digits : c.split_at.result.0.now ≡ front (is_digit_in c.args.base) c.args.text.now =
    c.split_at.ensures.front ∙ ap (λ (l : List ℕ). take (length c.args.text.now - length l) c.args.text.now) c.behind_digits-rest.ensures
    ∙ front_is (is_digit_in c.args.base) c.args.text.now in
    let rest : c.split_at.result.1.now ≡ behind (is_digit_in c.args.base) c.args.text.now =
    c.split_at.ensures.back ∙ ap (λ (l : List ℕ). drop (length c.args.text.now - length l) c.args.text.now) c.behind_digits-rest.ensures
    ∙ behind_is (is_digit_in c.args.base) c.args.text.now in
    let some : nat_eq (length (front (is_digit_in c.args.base) c.args.text.now)) 0 ≡ false =
    ap (λ (l : List ℕ). nat_eq (length l) 0) (sym digits) ∙ sym c.is_empty.ensures ∙ c.if-is_empty.false in
    let value : c.value_of.result ≡ up_to c.args.most (digits_value c.args.base (front (is_digit_in c.args.base) c.args.text.now)) =
    c.value_of.ensures.value ∙ ap (λ (l : List ℕ). up_to c.args.most (digits_value c.args.base l)) digits in
    rw some
    (c.ended.ensures ∙ ap (λ (v : Option ℕ). ended v c.split_at.result.1.now) value
    ∙ ap (λ (l : List ℕ). ended (up_to c.args.most (digits_value c.args.base (front (is_digit_in c.args.base) c.args.text.now))) l) rest
    ∙ ended_mapped (up_to c.args.most) (digits_value c.args.base (front (is_digit_in c.args.base) c.args.text.now)) (behind (is_digit_in c.args.base) c.args.text.now))
