use Rattle.std.proofs.Common.{◌≡◌, ◌∙◌, subst, arith, List, ℕ, ◌+◌}
use Rattle.session_setup.specs.declared.declared.BufferDeclared.{BufferDeclared}
use Rattle.session_setup.specs.DeclaredMembers.{caller_count}
use Rattle.session_objects.specs.Objects.{AreBuffersOf}
use Rattle.session_objects.proofs.ListedLaws.{declared_count}
use Rattle.session_objects.proofs.objects.SessionObjects.open.Goals as goal

pub returns-clause-objects : goal.returns-clause-objects
returns-clause-objects g c =
    let lists = c.args.lists.now in
    let opened = c.in-Ok-Ok-Ok.ensures in
    let engine = c.in-Ok-Ok-Ok.ensures' in
    let count : c.len.result + 2 + c.len-2.result ≡ caller_count lists = omega (arith, declared_count lists, c.len.ensures, c.len-2.ensures) in
    record {
      buffers = subst (λ (n : ℕ). AreBuffersOf lists.buffers n c.in-Ok-Ok-Ok.buffers.buffers.items) count
          (subst (λ (declared : List BufferDeclared). AreBuffersOf declared (c.len.result + 2 + c.len-2.result) c.in-Ok-Ok-Ok.buffers.buffers.items) c.as_slice.ensures opened.buffers);
      engine = engine.first;
      callers = engine.count ∙ count;
    }
