use Rattle.std.proofs.Common.{◌≡◌, ◌∙◌, length, sym, refl, subst}
use Rattle.std.specs.Prelude.{slice_get, Some}
use Rattle.std.proofs.lemmas.Option.{slice_get_read}
use Rattle.turn_lock.specs.declared.roster.Passes.{Passes}
use Rattle.session_objects.specs.Rosters.{TakesFresh}
use Rattle.session_objects.proofs.ChangeLaws.{sets_one, some_same}
use Rattle.session_objects.proofs.passes.SessionPasses.take_of_buffer.Goals as goal

pub take_fresh-requires : goal.take_fresh-requires
take_fresh-requires g c =
    let xs = c.args.self.now.buffers.items in
    let roster = c.index_mut.result.now in
    c.requires.there roster (slice_get_read xs (length xs) c.args.buffer roster refl c.requires.within c.index_mut.ensures.value)

pub returns-clause-taken : goal.returns-clause-taken
returns-clause-taken g c =
    let xs = c.args.self.now.buffers.items in
    let roster = c.index_mut.result.now in
    let at : slice_get xs c.args.buffer ≡ Some roster = slice_get_read xs (length xs) c.args.buffer roster refl c.requires.within c.index_mut.ensures.value in
    let Takes : Passes _ _ _ _ → Passes _ _ _ _ → Type 0 = λ before after. TakesFresh c.args.caller before c.take_fresh.result after in
    sets_one Takes xs c.args.buffer c.take_fresh.new.passes c.requires.within
    (λ x there. let P : Passes _ _ _ _ → Type 0 = λ z. TakesFresh c.args.caller z c.take_fresh.result c.take_fresh.new.passes in
    subst P (some_same roster x (sym at ∙ there)) c.take_fresh.ensures)
