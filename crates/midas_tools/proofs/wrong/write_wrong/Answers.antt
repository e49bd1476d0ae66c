use Rattle.std.proofs.Common.{◌≡◌, ◌∙◌, ◌++◌, ◌∷◌, [], ℕ, List, Bool, true, Option, refl, rules, sym, subst, append_assoc}
use Rattle.std.proofs.lemmas.Result.{err_from_is_err_and}
use Rattle.std.specs.Io.KnownBytes.{Appends}
use Rattle.daq_io.proofs.StreamsLaws.{Appends-trans}
use Rattle.daq_io.specs.Streams.{AppendsPart}
use Rattle.midas_tools.specs.Texts.{bad_file_line, bad_front}
use Rattle.midas_tools.specs.declared.ends.InputFault.{InputFault}
use Rattle.midas_tools.proofs.Printing.{AppendsPart-more, PrintsSoFar-fails, on_err_part}
use Rattle.midas_tools.proofs.wrong.write_wrong.Goals as goal

several_line : (several : Bool) (name : List ℕ) (fault : InputFault) → several ≡ true → bad_front fault ++ (name ++ 10 ∷ []) ≡ bad_file_line several name fault
several_line several name fault is = rw is refl

front_part : (old new : Option (List ℕ)) (name : List ℕ) (fault : InputFault) → AppendsPart old new (bad_front fault) → AppendsPart old new (bad_file_line true name fault)
front_part old new name fault part = AppendsPart-more old new (bad_front fault) (name ++ 10 ∷ []) part

name_part : (old now new : Option (List ℕ)) (name : List ℕ) (fault : InputFault) → Appends old now (bad_front fault) → AppendsPart now new name → AppendsPart old new (bad_file_line true name fault)
name_part old now new name fault all part =
    subst (λ (t : List ℕ). AppendsPart old new t) (append_assoc (bad_front fault) name (10 ∷ []))
    (AppendsPart-more old new (bad_front fault ++ name) (10 ∷ []) (PrintsSoFar-fails old now new name (bad_front fault ++ name) (record { done = bad_front fault; written = all; text_is = refl }) part))

pub returns-in_err-write_all-clause-part : goal.returns-in_err-write_all-clause-part
returns-in_err-write_all-clause-part g c =
    let p = err_from_is_err_and c.from_residual.result c.from_residual.ensures.1 in
    let several : c.args.several ≡ true = search rules in
    rw (p.1, several) (front_part _ _ c.args.name.now c.args.fault
    (subst (λ (t : List ℕ). AppendsPart (g.O.Sink.told c.args.out.now).written (g.O.Sink.told c.write_all-2.new.out).written t) (c.as_slice-2.ensures.made ∙ c.bad_front.ensures) c.in_err-write_all.ensures.part))

pub returns-in_err-write_all-2-clause-part : goal.returns-in_err-write_all-2-clause-part
returns-in_err-write_all-2-clause-part g c =
    let p = err_from_is_err_and c.from_residual-in_err-write_all-2.result c.from_residual-in_err-write_all-2.ensures.1 in
    let several : c.args.several ≡ true = search rules in
    rw (p.1, several) (name_part _ (g.O.Sink.told c.write_all-2.new.out).written _ c.args.name.now c.args.fault
    (subst (λ (t : List ℕ). Appends (g.O.Sink.told c.args.out.now).written (g.O.Sink.told c.write_all-2.new.out).written t) (c.as_slice-2.ensures.made ∙ c.bad_front.ensures) c.in_ok-write_all.ensures.all)
    (subst (λ (t : List ℕ). AppendsPart (g.O.Sink.told c.write_all-2.new.out).written (g.O.Sink.told c.write_all-3.new.out).written t) c.as_slice-3.ensures.bytes c.in_err-write_all-2.ensures.part))

pub returns-clause-part : goal.returns-clause-part
returns-clause-part g c =
    let several : c.args.several ≡ true = search rules in
    let front : Appends (g.O.Sink.told c.args.out.now).written (g.O.Sink.told c.write_all-2.new.out).written (bad_front c.args.fault) =
    subst (λ (t : List ℕ). Appends (g.O.Sink.told c.args.out.now).written (g.O.Sink.told c.write_all-2.new.out).written t) (c.as_slice-2.ensures.made ∙ c.bad_front.ensures) c.in_ok-write_all.ensures.all in
    let name : Appends (g.O.Sink.told c.write_all-2.new.out).written (g.O.Sink.told c.write_all-3.new.out).written c.args.name.now =
    subst (λ (t : List ℕ). Appends (g.O.Sink.told c.write_all-2.new.out).written (g.O.Sink.told c.write_all-3.new.out).written t) c.as_slice-3.ensures.bytes c.in_ok-write_all-2.ensures.all in
    rw several (on_err_part c.write_all-4.result _ (g.O.Sink.told c.write_all-3.new.out).written _ (10 ∷ []) (bad_front c.args.fault ++ (c.args.name.now ++ 10 ∷ []))
    (record { done = bad_front c.args.fault ++ c.args.name.now; written = Appends-trans _ _ _ (bad_front c.args.fault) c.args.name.now front name; text_is = sym (append_assoc (bad_front c.args.fault) c.args.name.now (10 ∷ [])) })
    c.write_all-4.ensures.part)
