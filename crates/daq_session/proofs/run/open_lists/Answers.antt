use Rattle.std.proofs.Common.{◌≡◌, ◌∙◌, refl, subst}
use Rattle.session_setup.specs.Setup.{AreSound, Declared, declared_by, lists_declared}
use Rattle.session_setup.specs.SetupLines.{opened_with_defaults}
use Rattle.session_setup.specs.declared.declared.DeclaredLists.{DeclaredLists}
use Rattle.daq_session.proofs.run.open_lists.Goals as goal

-- declarations with which a session opens, by their lists
listed : (declared opened : Declared) (lists : DeclaredLists) → opened ≡ opened_with_defaults declared → lists ≡ lists_declared opened → opened_with_defaults declared ≡ declared_by lists
listed declared opened lists is are = rw (are, is) refl

pub returns : goal.returns
returns c =
    let lists = c.into_lists.ensures in
    let are : opened_with_defaults c.args.declarations ≡ declared_by c.into_lists.result =
    listed c.args.declarations _ c.into_lists.result c.«open».ensures lists.lists in
    record { are = are; sound = subst AreSound (c.«open».ensures ∙ are) lists.sound }
