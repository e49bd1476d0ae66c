use Rattle.std.proofs.Common.{ℕ, not, List, [], ◌∷◌, ◌++◌, sym, ap, ◌∙◌, arith, IsOk}
use Rattle.std.specs.Option.{is_some}
use Rattle.odb_tree.specs.Rows.{Rows}
use Rattle.odb_tree.specs.Calls.{last_name}
use Rattle.odb_arena.specs.declared.node.Node.{Node}
use Rattle.odb_arena.specs.Arena.{row_of, names_at}
use Rattle.odb_arena.specs.Growth.{dir_path}
use Rattle.odb_arena.proofs.Finding.{last_push}
use Rattle.odb_arena.proofs.Steps.{free_under, arena_same, added, on_err, on_ok, same_row, same_child, not_flip}
use Rattle.odb_arena.proofs.tree.ArenaTree.add.Goals as goal

pub enter_at-requires : goal.enter_at-requires
enter_at-requires c =
    free_under c.self.inside c.args.self.now c.args.at c.args.name c.args.value c.reserve.new.self.entries c.self.invariant c.self.view_is c.requires c.in_ok-reserve.ensures.entries

pub invariant_of-self-in_err-enter_at : goal.invariant_of-self-in_err-enter_at
invariant_of-self-in_err-enter_at c =
    (arena_same (row_of c.self.inside.nodes.entries) (row_of c.enter_at.new.nodes.entries) (names_at c.self.inside.root c.self.inside.nodes.entries) (names_at c.enter_at.new.root c.enter_at.new.nodes.entries)
    c.self.inside.next c.self.inside.count c.self.inside.bytes c.self.invariant
    (λ k. c.in_err-enter_at.ensures.rows k ∙ ap (λ (es : List (ℕ × Node)). row_of es k) c.in_ok-reserve.ensures.entries)
    (λ keys k. c.in_err-enter_at.ensures.err keys k ∙ ap (λ (es : List (ℕ × Node)). names_at c.self.inside.root es keys k) c.in_ok-reserve.ensures.entries)).1

pub returns-in_err-enter_at-clause-err : goal.returns-in_err-enter_at-clause-err
returns-in_err-enter_at-clause-err c =
    on_err c.from_residual-in_err-enter_at.result _
    ((arena_same (row_of c.self.inside.nodes.entries) (row_of c.enter_at.new.nodes.entries) (names_at c.self.inside.root c.self.inside.nodes.entries) (names_at c.enter_at.new.root c.enter_at.new.nodes.entries)
    c.self.inside.next c.self.inside.count c.self.inside.bytes c.self.invariant
    (λ k. c.in_err-enter_at.ensures.rows k ∙ ap (λ (es : List (ℕ × Node)). row_of es k) c.in_ok-reserve.ensures.entries)
    (λ keys k. c.in_err-enter_at.ensures.err keys k ∙ ap (λ (es : List (ℕ × Node)). names_at c.self.inside.root es keys k) c.in_ok-reserve.ensures.entries)).0
    ∙ c.self.view_is)

pub invariant_of-self-2 : goal.invariant_of-self-2
invariant_of-self-2 c =
    let node : Node = record { row = record { number = c.self.inside.next; path = c.in_ok-path.path; value = c.args.value }; below = c.new-below.result } in
    let ok : IsOk c.insert.result = c.insert.ensures.succeeds (omega (arith, c.in_ok-reserve.ensures.ok, c.in_ok-enter_at.ensures.room)) in
    (added c.self.inside c.args.self.now c.args.at c.args.name c.args.value c.reserve.new.self.entries c.enter_at.new.nodes.entries c.insert.new.self.entries c.enter_at.new.root node
    (record { name = c.args.name; is_dir = c.is_none-is_dir.result; row = c.self.inside.next }) c.bytes_in-bytes.result
    c.self.invariant c.self.view_is c.requires c.in_ok-reserve.ensures.entries c.in_ok-enter_at.ensures.rows c.in_ok-enter_at.ensures.ok
    (on_ok c.insert.result _ ok c.insert.ensures.updates).0
    (same_row c.self.inside.next c.args.self.now.next c.in_ok-path.path (dir_path c.args.self.now c.args.at ++ c.args.name ∷ []) c.args.value (ap (λ (s : Rows). s.next) c.self.view_is) c.in_ok-path.ensures)
    c.new-below.ensures
    (same_child c.args.name (last_name c.in_ok-path.path) c.is_none-is_dir.result (not (is_some c.args.value)) c.self.inside.next
    (sym (ap last_name c.in_ok-path.ensures ∙ last_push (dir_path c.args.self.now c.args.at) c.args.name)) (not_flip (is_some c.args.value) c.is_none-is_dir.result c.is_none-is_dir.ensures))
    c.bytes_in-bytes.ensures.bytes).1

pub returns-clause-ok : goal.returns-clause-ok
returns-clause-ok c =
    let node : Node = record { row = record { number = c.self.inside.next; path = c.in_ok-path.path; value = c.args.value }; below = c.new-below.result } in
    let ok : IsOk c.insert.result = c.insert.ensures.succeeds (omega (arith, c.in_ok-reserve.ensures.ok, c.in_ok-enter_at.ensures.room)) in
    (added c.self.inside c.args.self.now c.args.at c.args.name c.args.value c.reserve.new.self.entries c.enter_at.new.nodes.entries c.insert.new.self.entries c.enter_at.new.root node
    (record { name = c.args.name; is_dir = c.is_none-is_dir.result; row = c.self.inside.next }) c.bytes_in-bytes.result
    c.self.invariant c.self.view_is c.requires c.in_ok-reserve.ensures.entries c.in_ok-enter_at.ensures.rows c.in_ok-enter_at.ensures.ok
    (on_ok c.insert.result _ ok c.insert.ensures.updates).0
    (same_row c.self.inside.next c.args.self.now.next c.in_ok-path.path (dir_path c.args.self.now c.args.at ++ c.args.name ∷ []) c.args.value (ap (λ (s : Rows). s.next) c.self.view_is) c.in_ok-path.ensures)
    c.new-below.ensures
    (same_child c.args.name (last_name c.in_ok-path.path) c.is_none-is_dir.result (not (is_some c.args.value)) c.self.inside.next
    (sym (ap last_name c.in_ok-path.ensures ∙ last_push (dir_path c.args.self.now c.args.at) c.args.name)) (not_flip (is_some c.args.value) c.is_none-is_dir.result c.is_none-is_dir.ensures))
    c.bytes_in-bytes.ensures.bytes).0
