use Rattle.std.proofs.Common.{◌^◌, List, ◌≡◌, None, subst, ◌∙◌, sym}
use Rattle.odb_links.specs.declared.links.Link.{Link}
use Rattle.odb_links.specs.Seen.{link_numbered}
use Rattle.odb_links.specs.Places.{LinkStands}
use Rattle.odb_links.proofs.LinkPlaces.{replaced, pushed}
use Rattle.odb_links.proofs.links.keep.Goals as goal

pub returns-in-Some : goal.returns-in-Some
returns-in-Some c =
    replaced c.args.links.now.items c.args.row (2 ^ 32) c.in-Some.at c.args.target c.requires.order (subst (λ (l : List Link). LinkStands l c.args.row c.in-Some.at) c.as_slice.ensures.value c.in-Some.ensures)

pub returns-in-None : goal.returns-in-None
returns-in-None c =
    c.push_reserved.ensures.items
    ∙ sym (pushed c.args.links.now.items c.args.row c.args.target (subst (λ (l : List Link). link_numbered l c.args.row ≡ None) c.as_slice.ensures.value c.in-None.ensures))
