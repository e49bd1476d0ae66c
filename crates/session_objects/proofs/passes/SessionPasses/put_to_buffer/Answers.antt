use Rattle.std.proofs.Common.{◌≡◌, ◌∙◌, length, sym, refl, subst}
use Rattle.std.specs.Prelude.{slice_get, Some}
use Rattle.std.proofs.lemmas.Option.{slice_get_read}
use Rattle.turn_lock.specs.declared.roster.Passes.{Passes}
use Rattle.session_objects.specs.Rosters.{PutsBack}
use Rattle.session_objects.proofs.ChangeLaws.{sets_one, some_same}
use Rattle.session_objects.proofs.passes.SessionPasses.put_to_buffer.Goals as goal

pub returns-clause-put : goal.returns-clause-put
returns-clause-put g c =
    let xs = c.args.self.now.buffers.items in
    let roster = c.index_mut.result.now in
    let at : slice_get xs c.args.buffer ≡ Some roster = slice_get_read xs (length xs) c.args.buffer roster refl c.requires.within c.index_mut.ensures.value in
    let Puts : Passes _ _ _ _ → Passes _ _ _ _ → Type 0 = λ before after. PutsBack before c.args.pass after in
    sets_one Puts xs c.args.buffer c.put_back.new.passes c.requires.within
    (λ x there. let P : Passes _ _ _ _ → Type 0 = λ z. PutsBack z c.args.pass c.put_back.new.passes in
    subst P (some_same roster x (sym at ∙ there)) c.put_back.ensures)
