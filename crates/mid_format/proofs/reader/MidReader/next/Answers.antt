use Rattle.std.proofs.Common.{◌≡◌, ◌∙◌, true, false, Some, None, refl, sym, ap}
use Rattle.std.specs.Prelude.{is_some}
use Rattle.mid_format.proofs.reader.MidReader.next.Goals as goal

pub invariant_of-self : goal.invariant_of-self
invariant_of-self g c = c.in-Ok.ensures.place

pub invariant_of-self-in-Err : goal.invariant_of-self-in-Err
invariant_of-self-in-Err g c = c.in-Err.ensures.place

pub returns-in-Some-clause-reads : goal.returns-in-Some-clause-reads
returns-in-Some-clause-reads g c = λ start first events r. r

pub returns-in-Some-clause-at_hand : goal.returns-in-Some-clause-at_hand
returns-in-Some-clause-at_hand g c = rw (← c.self.view_is) (λ none. let clash : Some c.in-Some.fault ≡ None = sym c.in-Some.is ∙ none in absurd cc)

pub returns-in-Some-clause-counted : goal.returns-in-Some-clause-counted
returns-in-Some-clause-counted g c = rw (← c.self.view_is, c.in-Some.is) refl

pub returns-then-is_some-clause-reads : goal.returns-then-is_some-clause-reads
returns-then-is_some-clause-reads g c = λ start first events r. r

pub returns-then-is_some-clause-at_hand : goal.returns-then-is_some-clause-at_hand
returns-then-is_some-clause-at_hand g c = λ none. tt

pub returns-then-is_some-clause-counted : goal.returns-then-is_some-clause-counted
returns-then-is_some-clause-counted g c = rw (← c.self.view_is, c.in_default.is) (record { done = refl; fault = tt })

pub returns-in-Ok-clause-reads : goal.returns-in-Ok-clause-reads
returns-in-Ok-clause-reads g c = rw (← c.self.view_is) c.in-Ok.ensures.reads

pub returns-in-Ok-clause-limit : goal.returns-in-Ok-clause-limit
returns-in-Ok-clause-limit g c = c.in-Ok.ensures.place

pub returns-in-Ok-clause-begun : goal.returns-in-Ok-clause-begun
returns-in-Ok-clause-begun g c = rw (← c.self.view_is) c.in-Ok.ensures.begun

pub returns-in-Ok-clause-at_hand : goal.returns-in-Ok-clause-at_hand
returns-in-Ok-clause-at_hand g c = λ none. tt

pub returns-in-Ok-clause-counted : goal.returns-in-Ok-clause-counted
returns-in-Ok-clause-counted g c = rw (← c.self.view_is, c.in_default.is) c.in-Ok.ensures.counted

pub returns-in-Err-clause-reads : goal.returns-in-Err-clause-reads
returns-in-Err-clause-reads g c = rw (← c.self.view_is) c.in-Err.ensures.stops

pub returns-in-Err-clause-limit : goal.returns-in-Err-clause-limit
returns-in-Err-clause-limit g c = c.in-Err.ensures.place

pub returns-in-Err-clause-begun : goal.returns-in-Err-clause-begun
returns-in-Err-clause-begun g c = rw (← c.self.view_is) c.in-Err.ensures.begun

pub returns-in-Err-clause-at_hand : goal.returns-in-Err-clause-at_hand
returns-in-Err-clause-at_hand g c = λ none. c.in-Err.ensures.at_hand

pub returns-in-Err-clause-counted : goal.returns-in-Err-clause-counted
returns-in-Err-clause-counted g c = rw (← c.self.view_is, c.in_default.is) c.in-Err.ensures.counted

pub returns-in-Ok-clause-again : goal.returns-in-Ok-clause-again
returns-in-Ok-clause-again g c = rw (← c.self.view_is, c.in_default.is) tt

pub returns-in-Ok-clause-still : goal.returns-in-Ok-clause-still
returns-in-Ok-clause-still g c = rw (← c.self.view_is) (λ none some. let clash : true ≡ false = sym some ∙ sym c.if-is_some.ensures in absurd cc)

pub returns-in-Ok-clause-alone : goal.returns-in-Ok-clause-alone
returns-in-Ok-clause-alone g c = rw (← c.self.view_is) (λ some. let clash : true ≡ false = sym some ∙ ap is_some c.in_default.is in absurd cc)

pub returns-in-Ok-clause-alone_at_end : goal.returns-in-Ok-clause-alone_at_end
returns-in-Ok-clause-alone_at_end g c = rw (← c.self.view_is) (λ some. let clash : true ≡ false = sym some ∙ sym c.if-is_some.ensures in absurd cc)

pub returns-in-Ok-clause-into_again : goal.returns-in-Ok-clause-into_again
returns-in-Ok-clause-into_again g c = rw (← c.self.view_is) (λ some. let clash : true ≡ false = sym some ∙ ap is_some c.in_default.is in absurd cc)

pub returns-in-Err-clause-again : goal.returns-in-Err-clause-again
returns-in-Err-clause-again g c = rw (← c.self.view_is, c.in_default.is) tt

pub returns-in-Err-clause-still : goal.returns-in-Err-clause-still
returns-in-Err-clause-still g c = rw (← c.self.view_is) (λ none some. let clash : true ≡ false = sym some ∙ sym c.if-is_some.ensures in absurd cc)

pub returns-in-Err-clause-alone : goal.returns-in-Err-clause-alone
returns-in-Err-clause-alone g c = rw (← c.self.view_is) (λ some. let clash : true ≡ false = sym some ∙ ap is_some c.in_default.is in absurd cc)

pub returns-in-Err-clause-alone_at_end : goal.returns-in-Err-clause-alone_at_end
returns-in-Err-clause-alone_at_end g c = rw (← c.self.view_is) (λ some. let clash : true ≡ false = sym some ∙ sym c.if-is_some.ensures in absurd cc)

pub returns-in-Err-clause-into_again : goal.returns-in-Err-clause-into_again
returns-in-Err-clause-into_again g c = rw (← c.self.view_is) (λ some. let clash : true ≡ false = sym some ∙ ap is_some c.in_default.is in absurd cc)
