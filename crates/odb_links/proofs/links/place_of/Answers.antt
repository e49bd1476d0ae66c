use Rattle.std.proofs.Common.{rules, ◌^◌, Ok, Err}
use Rattle.std.proofs.lemmas.List.Sorted.{answers_always}
use Rattle.odb_links.specs.declared.links.Link.{Link}
use Rattle.odb_links.proofs.LinkPlaces.{link_found}
use Rattle.odb_links.proofs.links.place_of.Goals as goal

pub returns-in-Ok : goal.returns-in-Ok
returns-in-Ok c = link_found c.args.links.now c.args.row (2 ^ 32) (Ok c.in-Ok.at) c.requires (c.in-Ok.ensures.position (λ (l : Link). l.row) (answers_always _ _ _ (λ f a r g called. search rules))) c.in-Ok.ensures.bound

pub returns-in-Err : goal.returns-in-Err
returns-in-Err c = link_found c.args.links.now c.args.row (2 ^ 32) (Err c.in-Err.field-0) c.requires (c.in-Err.ensures.position (λ (l : Link). l.row) (answers_always _ _ _ (λ f a r g called. search rules))) c.in-Err.ensures.bound
