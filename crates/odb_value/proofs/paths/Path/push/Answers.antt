use Rattle.std.proofs.Common.{List, ℕ, ◌<◌, length, sym, subst}
use Rattle.odb_value.specs.Paths.{depth_limit, IsPath}
use Rattle.odb_value.proofs.PathLaws.{is_path_push}
use Rattle.odb_value.proofs.paths.Path.push.Goals as goal

pub invariant_of-self-2 : goal.invariant_of-self-2
invariant_of-self-2 c =
    let room : length c.self.inside.names.items < depth_limit = subst (λ (p : List (List ℕ)). length p < depth_limit) (sym c.self.view_is) c.requires in
    subst IsPath (sym c.in_ok-push.ensures.items) (is_path_push c.self.inside.names.items c.args.name c.self.invariant room c.as_slice.ensures.is_name)
